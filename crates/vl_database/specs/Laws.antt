-- Laws of the location database, and of its words.
use Rattle.std.specs.Prelude.{◌≡◌, ◌≢◌, ℕ, ◌≤◌, List, length, Some, IsSome}
use Rattle.db_image.specs.Standing.{IsMeantOver}
use Rattle.db_image.specs.declared.services.CallReply.TheVariants.{Malformed}
use Rattle.vldb_entries.specs.Location.{Location}
use Rattle.vldb_records.specs.Records.{Holds}
use Rattle.vl_database.specs.Service.{location_meaning, vl_database, vl_standing}
use Rattle.vl_database.specs.Words.{vl_words}

-- Over an image that holds a state the database does what the call means in it.
abbrev pub DoesWhatIsMeant : Type 0
DoesWhatIsMeant =
    (image : List ℕ) (s : Location) (now : ℕ) (bytes : List ℕ) → Holds image s
    → IsMeantOver vl_standing image s (vl_database.call image now bytes) (location_meaning.call s now bytes)

-- A call that leaves the image leaves the state.
abbrev pub LeavesStates : Type 0
LeavesStates =
    (image : List ℕ) (s : Location) (now : ℕ) (bytes : List ℕ) → Holds image s → (vl_database.call image now bytes).image ≡ image
    → (location_meaning.call s now bytes).state ≡ s

-- No call leaves a shorter image.
abbrev pub NeverShrinks : Type 0
NeverShrinks = (image : List ℕ) (now : ℕ) (bytes : List ℕ) → length image ≤ length (vl_database.call image now bytes).image

-- An image holds one state at most.
abbrev pub HoldsOne : Type 0
HoldsOne = (image : List ℕ) (r s : Location) → Holds image r → Holds image s → r ≡ s

-- Bytes that are a call are answered as a call, over every image.
abbrev pub AnswersCalls : Type 0
AnswersCalls =
    (image : List ℕ) (now : ℕ) (bytes : List ℕ) → IsSome (vl_database.writes bytes) → (vl_database.call image now bytes).reply ≢ Malformed

-- What words name is a call.
abbrev pub NamesCalls : Type 0
NamesCalls = (words : List (List ℕ)) (bytes : List ℕ) → vl_words.call_of words ≡ Some bytes → IsSome (vl_database.writes bytes)
