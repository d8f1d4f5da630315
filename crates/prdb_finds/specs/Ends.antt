-- When a call on the records answers a bad record, and what a change leaves.
use Rattle.std.specs.Prelude.{ℕ, ◌≡◌, ◌⊎◌, List, Option, IfSome, IsSomeAnd}
use Rattle.std.specs.Option.{option_map}
use Rattle.db_image.specs.Draft.{Drafted}
use Rattle.db_blocks.specs.Ends.{HasCause}
use Rattle.db_image.specs.declared.faults.RecordFault.{RecordFault}
use Rattle.prdb_layout.specs.Registry.{Registry}
use Rattle.prdb_lists.specs.Members.{Members}
use Rattle.prdb_finds.specs.Records.{Holds, whole}

-- the bytes hold a registry and a set of pairs
abbrev pub HoldsSome : List ℕ → Type 0
HoldsSome image = (r : Registry) × (m : Members) × Holds image r m

-- a bad record is answered only where the image holds none
abbrev pub HasItsCause : Option (List ℕ) → RecordFault → Type 0
HasItsCause held fault = HasCause held HoldsSome fault

-- the same of a change, which may be made in some states
abbrev pub HasCauseWhere : (Registry → Members → Type 0) → Option (List ℕ) → RecordFault → Type 0
HasCauseWhere may held fault = HasCause held (λ image. (r : Registry) × (m : Members) × Holds image r m × may r m) fault

-- where the old bytes hold a registry and pairs of which the change may be made, the new ones hold the registry after it, and these pairs
abbrev pub Makes : {I : Type 0} → (Registry → Members → Type 0) → (Registry → Registry) → (old new : Drafted I) → Type 0
Makes may change old new =
    IfSome old.bytes
    (λ image. (r : Registry) (m : Members) → Holds image r m → may r m → IsSomeAnd new.bytes (λ after. Holds after (change r) m))

-- the bytes are as they were, or those of the first image in place of none: they hold what they held
abbrev pub HoldsTheSame : {I : Type 0} → (old new : Drafted I) → Type 0
HoldsTheSame old new = (new.bytes ≡ old.bytes) ⊎ (new.bytes ≡ option_map whole old.bytes)
