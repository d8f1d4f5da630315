-- The hosts of a cell.
use Rattle.std.specs.Prelude.{ℕ, ◌<◌, ◌≤◌, ◌==◌, List, [], ◌∷◌, length, count_by}
use Rattle.ubik_types.specs.declared.hosts.Host.{Host}
use Rattle.ubik_types.specs.declared.limits.TheConstants.{MAXSERVERS}

-- each host is below the next
abbrev pub IsAscending : List Host → Type 0
IsAscending [] = Unit {0}
IsAscending (a ∷ []) = Unit {0}
IsAscending (a ∷ b ∷ hosts) = (a.0 < b.0) × IsAscending (b ∷ hosts)

-- no host is above the next
abbrev pub IsRising : List Host → Type 0
IsRising [] = Unit {0}
IsRising (a ∷ []) = Unit {0}
IsRising (a ∷ b ∷ hosts) = (a.0 ≤ b.0) × IsRising (b ∷ hosts)

-- at least one host and at most 20, ascending
pub record IsCell (hosts : List Host) : Type 0 where
  pub some : 0 < length hosts
  pub not_more : length hosts ≤ MAXSERVERS
  pub ascending : IsAscending hosts

-- how often a host stands in a list
abbrev pub times : Host → List Host → ℕ
times host hosts = count_by (λ (other : Host). other.0 == host.0) hosts

-- the host stands at least twice, and no lower one does
pub record IsLowestRepeated (hosts : List Host) (host : Host) : Type 0 where
  pub repeated : 2 ≤ times host hosts
  pub lowest : (other : Host) → 2 ≤ times other hosts → host.0 ≤ other.0
