-- The protection database over images (layout of format 1): its entries and its pairs.
use Rattle.std.specs.Prelude.{ℕ, ◌≡◌, List, Option, IfSome}
use Rattle.db_image.specs.Ends.{end_of}
use Rattle.db_image.specs.declared.draft_services.CallEnd.{CallEnd}
use Rattle.prdb_lists.specs.Members.{Members}
use Rattle.prdb_finds.specs.Records.{Holds}
use Rattle.pt_service.specs.Meaning.{Verdict, reply_by}
use Rattle.pt_service.specs.NamedAfter.{NamesFollowOwners}
use Rattle.pt_service.specs.State.{State}

-- the pairs of a state
abbrev pub members_of : State → Members
members_of s = record { has = s.is_in }

-- an image holds the records of a state, with their chains: its registry and its pairs
abbrev pub HoldsRecords : List ℕ → State → Type 0
HoldsRecords image s = Holds image s.registry (members_of s)

-- an image holds a state: its records, and in them groups are named after their owners
pub record HoldsState (image : List ℕ) (s : State) : Type 0 where
  pub records : HoldsRecords image s
  pub names : NamesFollowOwners s.registry

-- of each state whose records the bytes may hold
abbrev pub OfStates : Option (List ℕ) → (State → Type 0) → Type 0
OfStates bytes P = IfSome bytes (λ image. (s : State) → HoldsRecords image s → P s)

-- a call that only looks at these bytes ended as this says of the state
abbrev pub IsToldOf : Option (List ℕ) → (State → Verdict) → CallEnd → Type 0
IsToldOf bytes v ended = OfStates bytes (λ s. ended ≡ end_of (reply_by (v s)))
