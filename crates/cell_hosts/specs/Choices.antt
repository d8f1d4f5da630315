-- Which hosts are asked, of those that may be given.
use Rattle.std.specs.Prelude.{ℕ, List, [], ◌∷◌, Option, Some, None}
use Rattle.cell_hosts.specs.Files.{hosts_in}

abbrev pub variable_or_file : Option (List ℕ) → List ℕ → Option (List ℕ)
variable_or_file None file = hosts_in file
variable_or_file (Some []) file = hosts_in file
variable_or_file (Some (b ∷ hosts)) file = Some (b ∷ hosts)

-- the words come first, then the environment, then the file
abbrev pub chosen_hosts : Option (List ℕ) → Option (List ℕ) → List ℕ → Option (List ℕ)
chosen_hosts (Some hosts) variable file = Some hosts
chosen_hosts None variable file = variable_or_file variable file
