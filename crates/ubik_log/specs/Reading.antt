-- What the calls on logs answer, by the log grammar.
use Rattle.std.specs.Prelude.{◌≡◌, ℕ, List, ◌++◌}
use Rattle.ubik_types.specs.declared.images.Change.{Change}
use Rattle.ubik_types.specs.declared.images.Change.TheVariants.{Put, Cut}
use Rattle.ubik_log.specs.LogGrammar.{IsTold, IsWithinImage, IsCommitted, IsDiscarded}
use Rattle.ubik_log.specs.Records.{change_record}
use Rattle.ubik_log.specs.declared.states.LogState.{LogState}
use Rattle.ubik_log.specs.declared.states.LogState.TheVariants.{Committed, Discarded}
use Rattle.ubik_log.specs.declared.readers.Edit.{Edit}
use Rattle.ubik_log.specs.declared.readers.Edit.TheVariants.{Lay, Keep}

-- the answer for these bytes
abbrev pub IsStateOf : List ℕ → LogState → Type 0
IsStateOf log (Committed changes version) = IsCommitted log changes version
IsStateOf log Discarded = IsDiscarded log

-- changes and version of a committed log are such as a log may tell
abbrev pub MayBeTold : LogState → Type 0
MayBeTold (Committed changes version) = IsTold changes version
MayBeTold Discarded = Unit {0}

-- the change that an edit is, wherever its bytes lie
abbrev pub change_of : Edit → Change
change_of (Lay at bytes) = Put at bytes.now
change_of (Keep len) = Cut len

-- The bytes begin with the record of a change.
pub record BeginsWithChange (bytes : List ℕ) (change : Change) (after : List ℕ) : Type 0 where
  pub within_image : IsWithinImage change
  pub record_is : bytes ≡ change_record change ++ after
