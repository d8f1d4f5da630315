-- When a call on the records answers a bad record, and what a change leaves.
use Rattle.std.specs.Prelude.{ℕ, ◌≡◌, ◌≢◌, ◌-◌, ◌⊎◌, List, Option, IfSome, IsSomeAnd}
use Rattle.std.specs.Option.{option_map}
use Rattle.db_image.specs.Draft.{Drafted}
use Rattle.db_image.specs.declared.faults.RecordFault.{RecordFault}
use Rattle.db_blocks.specs.Ends.{HasCause}
use Rattle.db_chains.specs.Ends.{HasWord}
use Rattle.vldb_chains.specs.Keys.{id_chain}
use Rattle.vldb_chains.specs.Places.{id_links}
use Rattle.vldb_entries.specs.declared.entries.VlEntry.{VlEntry}
use Rattle.vldb_entries.specs.Location.{IsLocation, Location}
use Rattle.vldb_entries.specs.Forms.{block_at, whole}
use Rattle.vldb_records.specs.Records.{Holds, IsLaidOut, IsNumberOf}

-- the bytes hold a state
abbrev pub HoldsSome : List ℕ → Type 0
HoldsSome image = (s : Location) × Holds image s

-- a bad record is answered only where the image holds no state
abbrev pub HasItsCause : Option (List ℕ) → RecordFault → Type 0
HasItsCause held fault = HasCause held HoldsSome fault

-- the same of a change, which may be made in some states
abbrev pub HasCauseWhere : (Location → Type 0) → Option (List ℕ) → RecordFault → Type 0
HasCauseWhere may held fault = HasCause held (λ image. (s : Location) × Holds image s × may s) fault

-- an image has a word in the chain of an id, if the id is not 0
abbrev pub HasIdWord : (id w : ℕ) → List ℕ → Type 0
HasIdWord id w image = id ≢ 0 → HasWord id_links (id_chain id) w image

-- an image is laid out for a state, and the block of a number is an entry's, with these bytes
pub record HasEntry (n : ℕ) (block image : List ℕ) : Type 0 where
  pub state : Location
  pub valid : IsLocation state
  pub laid : IsLaidOut image state
  pub entry : VlEntry
  pub number : IsNumberOf state image n entry
  pub bytes : block ≡ block_at image (n - 1)

-- where the old bytes hold a state in which the change may be made, the new ones hold the state after it
abbrev pub Makes : {I : Type 0} → (Location → Type 0) → (Location → Location) → (old new : Drafted I) → Type 0
Makes may change old new =
    IfSome old.bytes (λ image. (s : Location) → Holds image s → may s → IsSomeAnd new.bytes (λ after. Holds after (change s)))

-- the bytes are as they were, or those of the first image in place of none: they hold what they held
abbrev pub HoldsTheSame : {I : Type 0} → (old new : Drafted I) → Type 0
HoldsTheSame old new = (new.bytes ≡ old.bytes) ⊎ (new.bytes ≡ option_map whole old.bytes)
