-- What a change of a pair makes.
use Rattle.std.specs.Prelude.{ℤ, ◌≡◌, true, not, ◌&&◌, List, Some, IfSome, IsSomeAnd}
use Rattle.std.specs.Ordering.{int_eq}
use Rattle.db_image.specs.Draft.{Drafted}
use Rattle.prdb_layout.specs.Registry.{Registry}
use Rattle.entry_scans.specs.Lists.{IsListOf}
use Rattle.prdb_lists.specs.Members.{Members, are_paired}
use Rattle.prdb_finds.specs.Records.{Holds}
use Rattle.prdb_members.specs.Changes.{after_parts}

-- where the old bytes hold pairs of which the change may be made, the new ones hold the pairs after it
abbrev pub MakesPairs : {I : Type 0} → (Registry → Members → Type 0) → (Members → Members) → (old new : Drafted I) → Type 0
MakesPairs may change old new =
    IfSome old.bytes
    (λ image. (r : Registry) (m : Members) → Holds image r m → may r m → IsSomeAnd new.bytes (λ after. Holds after r (change m)))

-- ---- all pairs of an entry

-- without any pair of it
abbrev pub without_pairs_of : ℤ → Members → Members
without_pairs_of id m = record { has = λ a b. not (int_eq a id) && not (int_eq b id) && m.has a b }

-- where the old bytes hold pairs, the new ones hold those of others
abbrev pub LosesPairs : {I : Type 0} → (id : ℤ) → (old new : Drafted I) → Type 0
LosesPairs id old new =
    IfSome old.bytes
    (λ image. (r : Registry) (m : Members) → Holds image r m → IsSomeAnd new.bytes (λ after. Holds after r (without_pairs_of id m)))

-- and are those of an image without them
abbrev pub IsParted : {I : Type 0} → (id : ℤ) → (old new : Drafted I) → Type 0
IsParted id old new =
    IfSome old.bytes
    (λ image. (r : Registry) (m : Members) (others : List ℤ) → Holds image r m → IsListOf (λ other. are_paired m id other ≡ true) others
    → new.bytes ≡ Some (after_parts id others image))
