-- Laws of the protection database, and of its words.
use Rattle.std.specs.Prelude.{◌≡◌, ◌≢◌, ℕ, ℤ, ◌≤◌, List, length, Some, IsSome}
use Rattle.db_chains.specs.Chains.{HasChain}
use Rattle.db_image.specs.Standing.{IsMeantOver}
use Rattle.db_image.specs.declared.services.CallReply.TheVariants.{Malformed}
use Rattle.prdb_finds.specs.Keys.{id_chain, name_chain}
use Rattle.prdb_finds.specs.Places.{id_links, name_links}
use Rattle.pt_service.specs.State.{State}
use Rattle.pt_looks.specs.States.{HoldsRecords, HoldsState}
use Rattle.pt_service.specs.Meaning.{protection_meaning}
use Rattle.pt_database.specs.Service.{protection_database, protection_standing}
use Rattle.pt_database.specs.Words.{protection_words}

-- Over an image that holds a state the database does what the call means in it.
abbrev pub DoesWhatIsMeant : Type 0
DoesWhatIsMeant =
    (image : List ℕ) (s : State) (now : ℕ) (bytes : List ℕ) → HoldsState image s
    → IsMeantOver protection_standing image s (protection_database.call image now bytes) (protection_meaning.call s now bytes)

-- A call that leaves the image leaves the state, also one whose names do not follow owners.
abbrev pub LeavesStates : Type 0
LeavesStates =
    (image : List ℕ) (s : State) (now : ℕ) (bytes : List ℕ) → HoldsRecords image s
    → (protection_database.call image now bytes).image ≡ image
    → (protection_meaning.call s now bytes).state ≡ s

-- No call leaves a shorter image.
abbrev pub NeverShrinks : Type 0
NeverShrinks = (image : List ℕ) (now : ℕ) (bytes : List ℕ) → length image ≤ length (protection_database.call image now bytes).image

-- An image holds the records of one state at most.
abbrev pub HoldsOne : Type 0
HoldsOne = (image : List ℕ) (r s : State) → HoldsRecords image r → HoldsRecords image s → r ≡ s

-- Bytes that are a call are answered as a call, over every image.
abbrev pub AnswersCalls : Type 0
AnswersCalls =
    (image : List ℕ) (now : ℕ) (bytes : List ℕ) → IsSome (protection_database.writes bytes)
    → (protection_database.call image now bytes).reply ≢ Malformed

-- What words name is a call.
abbrev pub NamesCalls : Type 0
NamesCalls =
    (words : List (List ℕ)) (bytes : List ℕ) → protection_words.call_of words ≡ Some bytes → IsSome (protection_database.writes bytes)

-- An image that holds the records of a state has the chain of each name, and that of each id.
abbrev pub HasEachChain : Type 0
HasEachChain =
    (image : List ℕ) (s : State) → HoldsRecords image s
    → ((name : List ℕ) → (words : List ℕ) × HasChain name_links image (name_chain name) words)
    × ((id : ℤ) → (words : List ℕ) × HasChain id_links image (id_chain id) words)
