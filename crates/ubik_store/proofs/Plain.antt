-- What a crash leaves while a log is brought to its end is plain, where the files were.
use Rattle.std.proofs.Common.{◌≡◌, ◌≤◌, inl, inr, ℕ, true, List, length, Some, IfSome, subst, sym, ap, ◌∙◌, arith}
use Rattle.ubik_types.specs.declared.images.Change.{Change}
use Rattle.ubik_types.specs.declared.versions.Version.{Version}
use Rattle.ubik_types.specs.Version.{IsVersion, zero_version, version_lt}
use Rattle.disk_base.specs.declared.disks.Disk.{Ghosts}
use Rattle.disk_base.specs.declared.disks.FileNo.TheVariants.{Database, Log}
use Rattle.disk_base.specs.Files.{Files}
use Rattle.disk_base.specs.Crash.{Narrows, LeavesOnly, Only, OnlyIn, After}
use Rattle.disk_base.proofs.Runs.{widened, joined}
use Rattle.page_file.specs.declared.label.TheConstants.{MAX_DATABASE_LEN}
use Rattle.page_file.specs.Label.{version_of_database}
use Rattle.page_file.specs.Pages.{image_of}
use Rattle.ubik_log.specs.Gate.{closed}
use Rattle.ubik_log.specs.LogFile.{with_log, HasDiscarded, HasLogOrNone}
use Rattle.ubik_log.specs.LogGrammar.{IsCommitted, IsDiscarded}
use Rattle.ubik_log.proofs.Gates.{short_log_is_discarded}
use Rattle.incoming_file.specs.Incoming.{IsIgnored}
use Rattle.incoming_file.proofs.Opens.{empty_ignored}
use Rattle.ubik_store.specs.Gaps.{LeaveNoGap, CutsNoPut, IsPlain}
use Rattle.ubik_store.specs.Moments.{MayRedo, LeadsTo, with_database, with_head, applied, finished}
use Rattle.ubik_store.specs.Rest.{AreEmpty}
use Rattle.ubik_store.proofs.Closing.{LeavesLog}
use Rattle.ubik_store.proofs.Ending.{same_log, is_open, version_labelled}
use Rattle.ubik_store.proofs.Gaps.{HasNoFirstLabel, plain_again, committed_is_plain, discarded_is_plain}
use Rattle.ubik_store.proofs.Redoing.{narrowed}
use Rattle.ubik_store.proofs.Telling.{of_told}
use Rattle.ubik_store.proofs.Versions.{not_first}

-- where the disk tells its files, a run leaves plain ones
abbrev pub LeavesPlain : {D : Type 0} (g : Ghosts D) (old new : D) (v : Version) (changes : List Change) → Files → Type 0
LeavesPlain g old new v changes fs =
    (told : List Change) → LeadsTo fs told v changes → IsPlain fs → Narrows (MayRedo fs told) (g.may_leave old)
    → LeavesOnly g.steps g.left_since old new IsPlain

module _ (fs : Files) (told changes : List Change) (v : Version) (leads : LeadsTo fs told v changes) (plain : IsPlain fs) where
  -- with the log there still
  pub plain_by_log : (c : Files) → MayRedo fs told c → IsPlain c
  plain_by_log c may = plain_again told v fs c leads.logged plain may

  -- and by the label of its version
  plain_by_label : (c d : Files) → IsVersion v → MayRedo fs told d → d.database ≡ finished changes v fs.database → c ≡ with_log c.log d
      → IsDiscarded c.log → IsPlain c
  plain_by_label c d is may whole same discarded =
      let fits : length (finished changes v fs.database) ≤ MAX_DATABASE_LEN = subst
      (λ (xs : List ℕ). length xs ≤ MAX_DATABASE_LEN) whole may.fits in
      let version : version_of_database c.database ≡ Some v = ap version_of_database (ap (λ (f : Files). f.database) same ∙ whole)
      ∙ version_labelled v (applied changes (with_head fs.database)) is fits in
      let beside : c.incoming ≡ fs.incoming = ap (λ (f : Files). f.incoming) same ∙ may.incoming in
      discarded_is_plain c (subst IsIgnored (sym beside) leads.logged.ignored) discarded
      (λ first. absurd (not_first v (plain.newer told v leads.logged) cc))

  -- while the log is ended
  plain_either : (left : Files → Type 0) → IsVersion v → Narrows (MayRedo fs told) left
      → OnlyIn Database (finished changes v fs.database) left
      → (c : Files) → After (HasLogOrNone fs.log) left c → IsPlain c
  plain_either left is may only c from = elim from.2.0 [
    | inl same ↦ plain_by_log c (same_log fs told changes v leads c from.0 (may from.0 from.1) from.2.1 same)
    | inr discarded ↦ plain_by_label c from.0 is (may from.0 from.1) (only from.0 from.1) from.2.1 discarded
  ]

  -- the whole run: its changes are made and labelled, and then its log is ended
  pub run_plain : {D : Type 0} (g : Ghosts D) {old mid new : D} → IsVersion v
      → LeavesOnly g.steps g.left_since old mid (MayRedo fs told)
      → g.files mid ≡ Some (with_database (finished changes v) fs) → OnlyIn Database (finished changes v fs.database) (g.may_leave mid)
      → IfSome (g.files mid) (LeavesLog g mid new)
      → LeavesOnly g.steps g.left_since old new IsPlain
  run_plain g {old} {mid} {new} is run files only ends =
      let may = narrowed g run in
      let last = of_told (g.files mid) (with_database (finished changes v) fs) (LeavesLog g mid new) files ends in
      let logs : OnlyIn Log fs.log (g.may_leave mid) = λ c left. (may c left).log in
      joined g.steps g.left_since old mid new IsPlain
      (widened g.steps g.left_since old mid (MayRedo fs told) IsPlain plain_by_log run)
      (widened g.steps g.left_since mid new (After (HasLogOrNone fs.log) (g.may_leave mid)) IsPlain
      (plain_either (g.may_leave mid) is may only)
      (last (is_open fs told changes v leads) logs))

-- over an empty log the label counts
pub first_over : (fs : Files) → IsPlain fs → AreEmpty fs → HasNoFirstLabel fs.database
first_over fs plain empty =
    plain.unlabelled (empty_ignored fs.incoming empty.1) (short_log_is_discarded fs.log (omega (arith, ap length empty.0)))

-- files with an empty log and an empty incoming file are plain, where no label of the first version stands there
pub empty_is_plain : (fs : Files) → AreEmpty fs → HasNoFirstLabel fs.database → IsPlain fs
empty_is_plain fs empty first =
    discarded_is_plain fs (empty_ignored fs.incoming empty.1) (short_log_is_discarded fs.log (omega (arith, ap length empty.0))) first

-- with another log that is discarded
plain_beside : (fs c : Files) → IsIgnored fs.incoming → HasNoFirstLabel fs.database → c ≡ with_log c.log fs → IsDiscarded c.log → IsPlain c
plain_beside fs c ignored first same discarded =
    discarded_is_plain c (subst IsIgnored (sym (ap (λ (f : Files). f.incoming) same)) ignored) discarded
    (subst HasNoFirstLabel (sym (ap (λ (f : Files). f.database) same)) first)

-- while a log is emptied that was discarded
pub plain_discarded : (fs c : Files) → IsPlain fs → IsIgnored fs.incoming → IsDiscarded fs.log → HasDiscarded fs c → IsPlain c
plain_discarded fs c plain ignored discarded from = plain_beside fs c ignored (plain.unlabelled ignored discarded) from.1 from.0

-- while a log is kept
pub plain_before : (fs : Files) → IsIgnored fs.incoming → HasNoFirstLabel fs.database → (before : Files → Type 0) → Only fs before
    → (c : Files) → After HasDiscarded before c → IsPlain c
plain_before fs ignored first before only c from =
    plain_beside fs c ignored first (from.2.1 ∙ ap (with_log c.log) (only from.0 from.1)) from.2.0

module _ (fs : Files) (changes : List Change) (v : Version) (log : List ℕ) (ignored : IsIgnored fs.incoming) where
  -- and once it is committed
  pub plain_committed : (c : Files) → IsCommitted log changes v → LeaveNoGap (length (image_of fs.database)) changes → CutsNoPut changes
      → version_lt zero_version v ≡ true → c.log ≡ log → c ≡ with_log c.log fs → IsPlain c
  plain_committed c committed gapless cuts newer same rest =
      committed_is_plain changes v c
      (record {
        ignored = subst IsIgnored (sym (ap (λ (f : Files). f.incoming) rest)) ignored;
        committed = subst (λ (xs : List ℕ). IsCommitted xs changes v) (sym same) committed;
      })
      (subst (λ (xs : List ℕ). LeaveNoGap (length (image_of xs)) changes) (sym (ap (λ (f : Files). f.database) rest)) gapless) cuts newer

  -- while its gate is opened, the one or the other
  pub plain_in_gate : IsCommitted log changes v → LeaveNoGap (length (image_of fs.database)) changes → CutsNoPut changes
      → version_lt zero_version v ≡ true → HasNoFirstLabel fs.database
      → (mid : Files → Type 0) → Only (with_log (closed log) fs) mid → (c : Files) → After (HasLogOrNone log) mid c → IsPlain c
  plain_in_gate committed gapless cuts newer first mid only c from =
      let same : c ≡ with_log c.log fs = from.2.1 ∙ ap (with_log c.log) (only from.0 from.1) in
      elim from.2.0 [
        | inl there ↦ plain_committed c committed gapless cuts newer there same
        | inr discarded ↦ plain_beside fs c ignored first same discarded
      ]
