-- Runs that leave the log empty at each moment.
use Rattle.std.proofs.Common.{◌≡◌, ℕ, List, Option, Some, None, IfSome, ap, ◌∙◌}
use Rattle.std.specs.Option.{option_map}
use Rattle.disk_base.specs.declared.disks.Disk.{Ghosts}
use Rattle.disk_base.specs.declared.disks.FileNo.TheVariants.{Database}
use Rattle.disk_base.specs.Crash.{InFile, LeavesOnly, Narrows, Only, IsSettled, After}
use Rattle.disk_base.specs.Files.{Files, with_file}
use Rattle.disk_base.specs.Runs.{Syncs}
use Rattle.disk_base.proofs.Runs.{called, joined, widened}
use Rattle.page_file.specs.Pages.{IsNoLonger}
use Rattle.incoming_file.specs.Incoming.{HasThisOrIgnored}
use Rattle.ubik_store.specs.Rest.{AreEmpty, HasNoLog}
use Rattle.ubik_store.proofs.Committing.{settled_at}
use Rattle.ubik_store.proofs.Redoing.{narrowed}
use Rattle.ubik_store.proofs.Telling.{told, of_told, of_some}

-- a crash finds no log where nothing is pending
pub no_log_here : (fs : Files) (left : Files → Type 0) → Only fs left → HasNoLog fs → Narrows HasNoLog left
no_log_here fs left only none = λ c here. ap (λ (f : Files). f.log) (only c here) ∙ none

pub no_log_of : (files : Option Files) → IfSome files AreEmpty → IfSome files HasNoLog
no_log_of None empty = tt
no_log_of (Some fs) empty = empty.0

module _ {D : Type 0} (g : Ghosts D) (old : D) where
  -- where the disk tells its files, a run leaves no log
  abbrev pub Unlogged : D → Type 0
  Unlogged new = IfSome (g.files old) (λ _. LeavesOnly g.steps g.left_since old new HasNoLog)

  module _ (none : IfSome (g.files old) HasNoLog) where
    -- while another file is kept
    pub unlogged_kept : (file : Files → List ℕ) (new : D)
        → IfSome (g.files old) (λ fs. LeavesOnly g.steps g.left_since old new (HasThisOrIgnored (file fs) fs))
        → Unlogged new
    unlogged_kept file new run = told (g.files old) (λ _. LeavesOnly g.steps g.left_since old new HasNoLog) (λ fs there.
        widened g.steps g.left_since old new (HasThisOrIgnored (file fs) fs) HasNoLog
        (λ c from. ap (λ (f : Files). f.log) from.1 ∙ of_told (g.files old) fs HasNoLog there none)
        (of_told (g.files old) fs (λ fs. LeavesOnly g.steps g.left_since old new (HasThisOrIgnored (file fs) fs)) there run))

    -- while the database file is replaced
    pub unlogged_replaced : (len : ℕ) (new : D) → IsSettled (g.files old) (g.may_leave old)
        → LeavesOnly g.steps g.left_since old new (After (InFile Database (IsNoLonger len)) (g.may_leave old)) → Unlogged new
    unlogged_replaced len new settled run = told (g.files old) (λ _. LeavesOnly g.steps g.left_since old new HasNoLog) (λ fs there.
        let only = settled_at (g.files old) fs (g.may_leave old) there settled in
        widened g.steps g.left_since old new (After (InFile Database (IsNoLonger len)) (g.may_leave old)) HasNoLog
        (λ c from. ap (λ (f : Files). f.log) from.2.0 ∙ ap (λ (f : Files). f.log) (only from.0 from.1)
        ∙ of_told (g.files old) fs HasNoLog there none) run)

  -- and while it is synced
  pub unlogged_synced : (mid new : D) {F : Type 0} → Unlogged mid → Syncs g Database mid new F → Unlogged new
  unlogged_synced mid new run sync = told (g.files old) (λ _. LeavesOnly g.steps g.left_since old new HasNoLog) (λ fs there.
      let first = of_some (g.files old) fs (LeavesOnly g.steps g.left_since old mid HasNoLog) there run in
      let here = narrowed g first in
      joined g.steps g.left_since old mid new HasNoLog first
      (called g.steps g.left_since mid new HasNoLog (g.may_leave mid) (g.may_leave new) sync.change.steps sync.change.time
      (g.only_now mid)
      here (λ c left. here c (sync.crash c left))))

  -- and while the incoming file is emptied then
  pub unlogged_ended : (text : List ℕ) (mid new : D) → IfSome (g.files old) HasNoLog → Unlogged mid
      → g.files mid ≡ option_map (λ fs. with_file fs Database text) (g.files old)
      → IfSome (g.files mid) (λ fs. LeavesOnly g.steps g.left_since mid new (HasThisOrIgnored fs.incoming fs)) → Unlogged new
  unlogged_ended text mid new none run files ends = told (g.files old) (λ _. LeavesOnly g.steps g.left_since old new HasNoLog) (λ fs there.
      let here : g.files mid ≡ Some (with_file fs Database text) = files ∙ ap (option_map (λ fs. with_file fs Database text)) there in
      let last =
      of_told (g.files mid) (with_file fs Database text) (λ fs. LeavesOnly g.steps g.left_since mid new (HasThisOrIgnored fs.incoming fs))
      here ends in
      joined g.steps g.left_since old mid new HasNoLog
      (of_some (g.files old) fs (LeavesOnly g.steps g.left_since old mid HasNoLog) there run)
      (widened g.steps g.left_since mid new (HasThisOrIgnored fs.incoming (with_file fs Database text)) HasNoLog
      (λ c from. ap (λ (f : Files). f.log) from.1 ∙ of_told (g.files old) fs HasNoLog there none) last))
