-- Entries that get another owner, and what an entry owns.
use Rattle.std.specs.Prelude.{ℕ, ℤ, pos, ◌≡◌, ◌<◌, ◌<ℤ◌, ◌++◌, Bool, false, List, length, Option, Some, None, IfSome, IsSome, IsSomeAnd}
use Rattle.std.specs.List.{AllByRecursion}
use Rattle.std.specs.Ordering.{int_eq}
use Rattle.prdb_layout.specs.Registry.{IsOwner, Registry}
use Rattle.prdb_layout.specs.State.{PrEntry}
use Rattle.entry_scans.specs.Lists.{IsListOf}
use Rattle.prdb_lists.specs.Members.{Members}
use Rattle.prdb_finds.specs.Records.{Holds}
use Rattle.prdb_members.specs.Owned.{AreInOrder}
use Rattle.prdb_turns.specs.Refits.{after_refits, with_refits}

abbrev pub with_owner : ℤ → PrEntry → PrEntry
with_owner owner e = record e { owner = owner }

-- the entries of these ids have another owner, one after the other
abbrev pub after_gives : (owner : ℤ) → List ℤ → Registry → List ℕ → List ℕ
after_gives owner those r image = after_refits (with_owner owner) those r image

abbrev pub with_owners : (owner : ℤ) → List ℤ → Registry → Registry
with_owners owner those r = with_refits (with_owner owner) those r

-- they are there, and their owner is none or an entry
pub record MayGive (those : List ℤ) (owner : ℤ) (r : Registry) : Type 0 where
  pub there : AllByRecursion (λ id. IsSome (r.entry id)) those
  pub owner_there : IsOwner r.entry owner

-- an entry has this owner
abbrev pub is_property : (owner : ℤ) → Option PrEntry → Bool
is_property owner None = false
is_property owner (Some e) = int_eq e.owner owner

-- a user that an id owns, which stands in no chain
abbrev pub IsOwnedUser : Registry → (owner : ℤ) → ℤ → Type 0
IsOwnedUser r owner id = (pos 0 <ℤ id) × IsSomeAnd (r.entry id) (λ e. e.owner ≡ owner)

-- what an entry owns: the groups in the order of its owned chain, and then the users, ascending
abbrev pub AreItsOwn : List ℕ → Registry → (owner : ℤ) → List ℤ → Type 0
AreItsOwn image r owner its =
    (groups users : List ℤ) × AreInOrder image owner groups × IsListOf (IsOwnedUser r owner) users × (its ≡ groups ++ users)

-- an image that is not empty holds a registry in which an id has an entry
abbrev pub HasOwner : (owner : ℤ) → List ℕ → Type 0
HasOwner owner image = (r : Registry) × (m : Members) × Holds image r m × IsSome (r.entry owner) × (0 < length image)

-- the bytes are those of an image in which all that the entry owned has no owner, one after the other
abbrev pub Disowns : (owner : ℤ) → (bytes behind : Option (List ℕ)) → Type 0
Disowns owner bytes behind =
    IfSome bytes
    (λ image. (r : Registry) (m : Members) → Holds image r m → IsSome (r.entry owner) → 0 < length image
    → (its : List ℤ) → AreItsOwn image r owner its → behind ≡ Some (after_gives (pos 0) its r image))
