-- Committed logs that a crash may make anew: none of their puts begins behind the end of the image that it finds (own).
use Rattle.std.specs.Prelude.{◌≡◌, ℕ, ◌≤◌, true, Some, List, [], ◌∷◌, length}
use Rattle.ubik_types.specs.declared.images.Change.{Change}
use Rattle.ubik_types.specs.declared.images.Change.TheVariants.{Put, Cut}
use Rattle.ubik_types.specs.declared.versions.Version.{Version}
use Rattle.ubik_types.specs.Version.{zero_version, version_lt}
use Rattle.disk_base.specs.Files.{Files}
use Rattle.page_file.specs.Label.{version_of_database}
use Rattle.page_file.specs.Pages.{image_of}
use Rattle.ubik_log.specs.LogGrammar.{IsDiscarded}
use Rattle.incoming_file.specs.Incoming.{IsIncoming, IsIgnored}
use Rattle.ubik_store.specs.Files.{IsLogged}
use Rattle.ubik_store.specs.Redo.{changed_len}

-- a put begins within an image of this length, or at its end; a cut may go past it
abbrev pub LeavesNoGap : ℕ → Change → Type 0
LeavesNoGap len (Put at bytes) = at ≤ len
LeavesNoGap len (Cut to) = Unit {0}

-- each of these changes does, once those before it are made
abbrev pub LeaveNoGap : ℕ → List Change → Type 0
LeaveNoGap len [] = Unit {0}
LeaveNoGap len (change ∷ changes) = LeavesNoGap len change × LeaveNoGap (changed_len len change) changes

-- none of these cuts goes to before a position
abbrev pub CutNothingBefore : ℕ → List Change → Type 0
CutNothingBefore at [] = Unit {0}
CutNothingBefore at (Put from bytes ∷ changes) = CutNothingBefore at changes
CutNothingBefore at (Cut to ∷ changes) = (at ≤ to) × CutNothingBefore at changes

-- no cut goes to before where an earlier put begins
abbrev pub CutsNoPut : List Change → Type 0
CutsNoPut [] = Unit {0}
CutsNoPut (Put at bytes ∷ changes) = CutNothingBefore at changes × CutsNoPut changes
CutsNoPut (Cut to ∷ changes) = CutsNoPut changes

-- the changes of a committed log leave no gap in the image that stands there
abbrev pub IsGapless : Files → Type 0
IsGapless fs =
    (changes : List Change) (version : Version) → IsLogged fs changes version → LeaveNoGap (length (image_of fs.database)) changes

-- And none of its cuts goes to before where an earlier put begins: so it stays, however often an opening crashes. The first version is
-- that of an empty database file, and of nothing else: a store that began on empty files gives no log, no label and no incoming file that
-- version.
pub record IsPlain (fs : Files) : Type 0 where
  pub gapless : IsGapless fs
  pub cuts : (changes : List Change) (version : Version) → IsLogged fs changes version → CutsNoPut changes
  pub newer : (changes : List Change) (version : Version) → IsLogged fs changes version → version_lt zero_version version ≡ true
  pub received : (version : Version) (image : List ℕ) → IsIncoming fs.incoming version image → version_lt zero_version version ≡ true
  pub unlabelled : IsIgnored fs.incoming → IsDiscarded fs.log → version_of_database fs.database ≡ Some zero_version → fs.database ≡ []
