-- What every state of every run keeps, part by part: why leases exclude (own).
use Rattle.std.specs.Prelude.{◌≡◌, ℕ, ◌+◌, ◌<◌, ◌≤◌, ◌⊎◌, true, Bool, Option, Some, None, List, length, slice_get}
use Rattle.lease_model.specs.Leases.{Voter, Standing, Down, Halted, Up, Server, Beacon, Yes, Leases, IsIn}
use Rattle.lease_model.specs.Rules.{Rules}

-- no clock is past another one by more than the skew
abbrev pub ClocksNear : Rules → List Server → Type 0
ClocksNear r servers =
    (j k : ℕ) (x y : Server) → slice_get servers j ≡ Some x → slice_get servers k ≡ Some y → x.clock ≤ y.clock + r.skew

-- a beacon is of a server of the cell, and not ahead of its clock
abbrev pub BeaconsPast : List Server → List Beacon → Type 0
BeaconsPast servers beacons =
    (b : Beacon) → IsIn beacons b →
    (b.asker < length servers) × ((x : Server) → slice_get servers b.asker ≡ Some x → b.start ≤ x.clock)

-- no yes is ahead of its voter's clock
abbrev pub YesesPast : List Server → List Yes → Type 0
YesesPast servers yeses = (y : Yes) (x : Server) → IsIn yeses y → slice_get servers y.voter ≡ Some x → y.at ≤ x.clock

-- a yes for a start is given at that start or later, but for the skew
abbrev pub YesesGiven : Rules → List Yes → Type 0
YesesGiven r yeses = (y : Yes) → IsIn yeses y → y.start ≤ y.at + r.skew

-- the last yes went to this server; or nobody knows to whom
abbrev pub MayBeTo : ℕ → Option ℕ → Type 0
MayBeTo asker None = Unit {0}
MayBeTo asker (Some to) = asker ≡ to

-- A yes binds: the last yes is not before any yes of this voter, and is past the keep of one to another server.
abbrev pub YesBinds : Rules → ℕ → List Yes → Voter → Type 0
YesBinds r k yeses v =
    (y : Yes) → IsIn yeses y → y.voter ≡ k → (y.at ≤ v.yes_at) × (MayBeTo y.asker v.yes_to ⊎ (y.at + r.keep < v.yes_at))

abbrev pub IsBound : Rules → ℕ → List Yes → ℕ → Standing → Type 0
IsBound r k yeses now Down = Unit {0}
IsBound r k yeses now (Halted starts) = Unit {0}
IsBound r k yeses now (Up v) = (v.yes_at ≤ now) × YesBinds r k yeses v

abbrev pub AllBound : Rules → List Server → List Yes → Type 0
AllBound r servers yeses = (k : ℕ) (x : Server) → slice_get servers k ≡ Some x → IsBound r k yeses x.clock x.standing

-- yeses of one voter to two servers are further apart than a yes is kept
abbrev pub YesesApart : Rules → List Yes → Type 0
YesesApart r yeses =
    (y z : Yes) → IsIn yeses y → IsIn yeses z → y.voter ≡ z.voter →
    (y.asker ≡ z.asker) ⊎ ((y.at + r.keep < z.at) ⊎ (z.at + r.keep < y.at))

-- a start that is counted was given
abbrev pub StartsGiven : ℕ → List Yes → List (Option ℕ) → Type 0
StartsGiven k yeses starts =
    (v s : ℕ) → slice_get starts v ≡ Some (Some s) → (at : ℕ) × IsIn yeses (record { voter = v; asker = k; start = s; at = at })

-- and there is a place for each server of the cell
abbrev pub AreCounted : ℕ → List Yes → ℕ → List (Option ℕ) → Type 0
AreCounted k yeses n starts = StartsGiven k yeses starts × (length starts ≡ n)

abbrev pub IsCounted : ℕ → List Yes → ℕ → Standing → Type 0
IsCounted k yeses n Down = Unit {0}
IsCounted k yeses n (Halted starts) = AreCounted k yeses n starts
IsCounted k yeses n (Up v) = AreCounted k yeses n v.starts

abbrev pub AllCounted : List Server → List Yes → Type 0
AllCounted servers yeses = (k : ℕ) (x : Server) → slice_get servers k ≡ Some x → IsCounted k yeses (length servers) x.standing

pub record Invariant (r : Rules) (s : Leases) : Type 0 where
  pub near : ClocksNear r s.servers
  pub beacons : BeaconsPast s.servers s.beacons
  pub yeses : YesesPast s.servers s.yeses
  pub given : YesesGiven r s.yeses
  pub bound : AllBound r s.servers s.yeses
  pub apart : YesesApart r s.yeses
  pub counted : AllCounted s.servers s.yeses

-- voter v has said yes to server m for a start from `since` on, but for the length of a lease
abbrev pub HasSaidYes : Rules → Leases → ℕ → ℕ → ℕ → Type 0
HasSaidYes r s v m since =
    (start at : ℕ) × (since ≤ start + r.lease) × IsIn s.yeses (record { voter = v; asker = m; start = start; at = at })

-- A vote quorum has.
pub record WereGiven (r : Rules) (s : Leases) (m since : ℕ) : Type 0 where
  pub set : List Bool
  pub each : length set ≡ length s.servers
  pub suffices : r.suffices (length s.servers) set ≡ true
  pub yes : (v : ℕ) → slice_get set v ≡ Some true → HasSaidYes r s v m since
