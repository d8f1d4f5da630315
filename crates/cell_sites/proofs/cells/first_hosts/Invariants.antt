use Rattle.std.proofs.Common.{◌≡◌}
use Rattle.cell_runs.specs.Script.{hosts_of}
use Rattle.cell_sites.proofs.cells.first_hosts.Given as goal

abbrev pub invariant-loop-k : goal.invariant-loop-k
invariant-loop-k l = l.hosts.items ≡ hosts_of l.k
