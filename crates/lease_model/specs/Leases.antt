-- The servers of a cell as far as votes, leases and clocks go (own).
use Rattle.std.specs.Prelude.{◌≡◌, ℕ, ◌+◌, ◌≤◌, true, Option, Some, List, length, slice_get, IsSomeAnd}
use Rattle.ubik_types.specs.Lease.{supporters}
use Rattle.lease_model.specs.Rules.{Rules}

-- of a server that is up: to whom its last yes went, and when; and for each server of the cell the greatest start for which that
-- one's yes was counted
pub record Voter : Type 0 where
  pub yes_to : Option ℕ
  pub yes_at : ℕ
  pub starts : List (Option ℕ)

pub data Standing : Type 0 where
  Down : Standing
  -- it gives no yes any more, and counts none
  Halted : (starts : List (Option ℕ)) → Standing
  Up : (voter : Voter) → Standing

pub record Server : Type 0 where
  pub clock : ℕ
  pub standing : Standing

-- a server asks for votes, and when by its clock
pub record Beacon : Type 0 where
  pub asker : ℕ
  pub start : ℕ

-- a yes: of which voter to which server, for which start, and when by the clock of the voter
pub record Yes : Type 0 where
  pub voter : ℕ
  pub asker : ℕ
  pub start : ℕ
  pub at : ℕ

-- all servers, and every beacon and yes that there was, the newest first; a server sees neither list
pub record Leases : Type 0 where
  pub servers : List Server
  pub beacons : List Beacon
  pub yeses : List Yes

abbrev pub IsIn : {A : Type 0} → List A → A → Type 0
IsIn xs x = (k : ℕ) × (slice_get xs k ≡ Some x)

-- By these starts a server is in lease: a vote quorum supports some start, no longer ago than a lease lasts.
abbrev pub IsLeased : Rules → ℕ → List (Option ℕ) → ℕ → Type 0
IsLeased r n starts now = (s : ℕ) × (r.suffices n (supporters starts s) ≡ true) × (now ≤ s + r.lease)

abbrev pub IsLeasedIn : Rules → ℕ → Standing → ℕ → Type 0
IsLeasedIn r n Down now = ⊥
IsLeasedIn r n (Halted starts) now = IsLeased r n starts now
IsLeasedIn r n (Up v) now = IsLeased r n v.starts now

-- server k is in lease
abbrev pub IsInLease : Rules → Leases → ℕ → Type 0
IsInLease r s k = IsSomeAnd (slice_get s.servers k) (λ x. IsLeasedIn r (length s.servers) x.standing x.clock)
