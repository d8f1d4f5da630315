-- Laws of leases, and runs that break them where a number is another one.
use Rattle.std.specs.Prelude.{◌≡◌, ℕ, ◌*◌, false, nat_le, Bool, List, [], ◌∷◌}
use Rattle.ubik_types.specs.Quorum.{size}
use Rattle.lease_model.specs.Leases.{Leases, IsInLease}
use Rattle.lease_model.specs.Rules.{Rules, AreSafe}
use Rattle.lease_model.specs.Runs.{Event, IsRun, after_all, first}

-- at most one server is in lease
abbrev pub Exclude : Rules → Leases → Type 0
Exclude r s = (h k : ℕ) → IsInLease r s h → IsInLease r s k → h ≡ k

-- By safe rules leases exclude, after each run from each first state.
abbrev pub LeasesExclude : Type 0
LeasesExclude =
    (r : Rules) → AreSafe r → (clock : ℕ) (failed : List Bool) (events : List Event) → IsRun r (first r clock failed) events →
    Exclude r (after_all r (first r clock failed) events)

-- Two servers that start at 100: some run leaves both in lease.
abbrev pub two : Rules → Leases
two r = first r 100 (false ∷ false ∷ [])

pub record BothInLease (r : Rules) : Type 0 where
  pub events : List Event
  pub run : IsRun r (two r) events
  pub lowest : IsInLease r (after_all r (two r) events) 0
  pub other : IsInLease r (after_all r (two r) events) 1

-- half of the servers, whichever they are
abbrev pub is_half : ℕ → List Bool → Bool
is_half n set = nat_le n (2 * size set)
