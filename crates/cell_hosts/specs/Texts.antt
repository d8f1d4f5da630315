-- The texts of the faults of hosts.
use Rattle.std.specs.Prelude.{ℕ, List, codes}
use Rattle.cell_hosts.specs.declared.faults.HostsFault.{HostsFault}
use Rattle.cell_hosts.specs.declared.faults.HostsFault.TheVariants.{MissingHosts, HostsTwice, Cell, Config}

-- what a program writes behind its own name, `: ` and before the end of the line
abbrev pub fault_text : HostsFault → List ℕ
fault_text MissingHosts = codes "missing value for -hosts"
fault_text HostsTwice = codes "-hosts given twice"
fault_text Cell = codes "no -cell here: give its servers, -hosts ADDRESS,ADDRESS,.."
fault_text Config = codes "no -config here: give the servers of the cell, -hosts ADDRESS,ADDRESS,.."
