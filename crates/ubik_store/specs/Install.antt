-- How an open incoming file takes the place of database and log, over the pages and the files of a disk (own).
use Rattle.std.specs.Prelude.{◌≡◌, ◌+◌, ℕ, true, List, [], Some, IfSome, Result, Ok, Err, length, drop}
use Rattle.std.specs.Option.{option_map}
use Rattle.ubik_types.specs.declared.versions.Version.{Version}
use Rattle.ubik_types.specs.Version.{zero_version, version_lt}
use Rattle.disk_base.specs.declared.disks.Disk.{Ghosts}
use Rattle.disk_base.specs.Crash.{LeavesOnly, IsSettled}
use Rattle.disk_base.specs.Files.{three_files}
use Rattle.page_file.specs.declared.label.TheConstants.{LABEL_LEN}
use Rattle.page_file.specs.Pages.{Known, AgreesIn}
use Rattle.ubik_store.specs.declared.faults.NotInstalled.{NotInstalled}
use Rattle.ubik_store.specs.declared.faults.StoreFault.{StoreFault}
use Rattle.ubik_store.specs.Calls.{CallsAtMost}
use Rattle.ubik_store.specs.Files.{StandsFor}
use Rattle.ubik_store.specs.Gaps.{IsPlain}

-- Its label and image are the database file, in so many changing calls, and the other files are empty.
pub record TakesPlace {D : Type 0} (g : Ghosts D) (text : List ℕ) (v : Version) (calls : ℕ) (old new : D) (after : Known) : Type 0 where
  pub files : g.files new ≡ option_map (λ _. three_files text [] []) (g.files old)
  pub settled : IsSettled (g.files new) (g.may_leave new)
  pub steps : g.steps new ≡ g.steps old + calls
  pub label : after.version ≡ Some v
  pub len : LABEL_LEN + after.len ≡ length text
  pub agrees : AgreesIn after (g.files new)

-- Done or not, a crash at any moment leaves files that stand for them; plain ones, where the version is not the first one. It makes at
-- most so many changing calls.
pub record StandsThroughout {D : Type 0} (g : Ghosts D) (text : List ℕ) (v : Version) (most : ℕ) (old new : D) (failed : Type 0)
    : Type 0 where
  pub moments : IfSome (g.files old) (λ _. LeavesOnly g.steps g.left_since old new (λ c. StandsFor c v (drop LABEL_LEN text)))
  pub plain : version_lt zero_version v ≡ true → IfSome (g.files old) (λ _. LeavesOnly g.steps g.left_since old new IsPlain)
  pub calls : CallsAtMost g most old new failed

-- how an install of a text ended, without the text that comes back
abbrev pub without_text : Result (Unit {0}) NotInstalled → Result (Unit {0}) StoreFault
without_text (Ok done) = Ok done
without_text (Err refused) = Err refused.why
