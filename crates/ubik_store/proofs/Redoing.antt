-- What a crash leaves in the midst of a change has the same effect under the log.
use Rattle.std.proofs.Common.{◌≡◌, ◌≤◌, IsSome, refl, inl, inr, ℕ, ◌+◌, ◌-◌, List, length, take, drop, sym, ap, subst, ◌∙◌, arith, length-take, length-drop}
use Rattle.std.proofs.lemmas.List.{drop-drop, drop-take}
use Rattle.ubik_types.specs.declared.images.Change.{Change}
use Rattle.ubik_types.specs.declared.images.Change.TheVariants.{Put, Cut}
use Rattle.disk_base.specs.declared.disks.Disk.{Ghosts}
use Rattle.disk_base.specs.declared.disks.FileNo.{FileNo}
use Rattle.disk_base.specs.declared.disks.FileNo.TheVariants.{Database}
use Rattle.disk_base.specs.declared.disks.LenEnd.{LenEnd}
use Rattle.disk_base.specs.declared.disks.LenEnd.TheVariants as lens
use Rattle.disk_base.specs.Count.{HasCause}
use Rattle.disk_base.specs.Files.{Files, OnKnown, KeepsRoom}
use Rattle.disk_base.specs.Crash.{Torn, CutShort, InFile, Narrows, Follows, LeavesOnly, LeavesSame}
use Rattle.disk_base.specs.Runs.{OneChange, OnlyReads, Syncs}
use Rattle.disk_base.specs.Stops.{CountsOwn}
use Rattle.disk_base.proofs.Runs.{called, rested, joined}
use Rattle.page_file.specs.declared.label.TheConstants.{MAX_DATABASE_LEN}
use Rattle.page_file.specs.Pages.{image_of}
use Rattle.ubik_log.specs.LogGrammar.{IsWithinImage}
use Rattle.ubik_store.specs.Redo.{Redoes, IsCovered}
use Rattle.ubik_store.specs.Moments.{MayRedo}
use Rattle.ubik_store.proofs.Redone.{IsOne, redoes_torn, redoes_cut}

-- one of the changes of the log
pub one_covered : (told : List Change) (base : List ℕ) (change : Change) → IsOne told change → IsCovered told base change
one_covered told base (Put at bytes) one = λ old new torn same. redoes_torn told base old new at bytes one torn same
one_covered told base (Cut to) one = λ old new cut same. redoes_cut told base old new to one cut same

front_of_image : (file : List ℕ) (at : ℕ) → drop 64 (take (64 + at) file) ≡ take at (drop 64 file)
front_of_image file at = drop-take 64 at file

-- a write behind the label is one of the image
torn_image : (at n : ℕ) (old new : List ℕ) → Torn (64 + at) n old new → Torn at n (image_of old) (image_of new)
torn_image at n old new torn =
    let there : 64 + at + n ≡ 64 + (at + n) = omega arith in
    let back : drop (64 + (at + n)) new ≡ drop (64 + (at + n)) old = subst (λ (k : ℕ). drop k new ≡ drop k old) there torn.after in
    record {
      before = sym (front_of_image new at) ∙ ap (drop 64) torn.before ∙ front_of_image old at;
      after = drop-drop (at + n) 64 new ∙ back ∙ sym (drop-drop (at + n) 64 old);
      no_shorter = omega (arith, torn.no_shorter, length-drop 64 old, length-drop 64 new);
      no_longer = omega (arith, torn.no_longer, length-drop 64 old, length-drop 64 new);
    }

cut_image : (to : ℕ) (old new : List ℕ) → CutShort (64 + to) old new → CutShort to (image_of old) (image_of new)
cut_image to old new (inl same) = inl (ap (drop 64) same)
cut_image to old new (inr short) =
    let long : 64 + (length new - 64) ≡ length new = omega (arith, short.0) in
    let len : length new - 64 ≡ length (drop 64 new) = sym (length-drop 64 new) in
    let is : drop 64 (take (64 + (length new - 64)) old) ≡ drop 64 new =
    ap (λ (k : ℕ). drop 64 (take k old)) long ∙ ap (drop 64) (sym short.1) in
    inr (
      omega (arith, short.0, length-drop 64 new),
      sym is ∙ front_of_image old (length new - 64) ∙ ap (λ (k : ℕ). take k (drop 64 old)) len,
    )

cut_fits : (to most : ℕ) (old new : List ℕ) → CutShort to old new → length old ≤ most → length new ≤ most
cut_fits to most old new (inl same) fits = omega (arith, ap length same, fits)
cut_fits to most old new (inr short) fits = omega (arith, ap length short.1, length-take (length new) old, fits)

module _ (kept : Files) (told : List Change) where
  -- files of which the database file alone is another
  moved : (d c : Files) → c ≡ record d { database = c.database } → Redoes told (image_of kept.database) (image_of c.database)
      → length c.database ≤ MAX_DATABASE_LEN
      → MayRedo kept told d → MayRedo kept told c
  moved d c is redoes fits may = record {
    log = ap (λ (fs : Files). fs.log) is ∙ may.log;
    incoming = ap (λ (fs : Files). fs.incoming) is ∙ may.incoming;
    redoes = redoes;
    fits = fits;
  }

  pub redo_written : (at : ℕ) (bytes : List ℕ) (d c : Files) → IsCovered told (image_of kept.database) (Put at bytes)
      → IsWithinImage (Put at bytes)
      → InFile Database (Torn (64 + at) (length bytes)) d c → MayRedo kept told d → MayRedo kept told c
  redo_written at bytes d c covered within step may =
      moved d c step.0 (covered (image_of d.database) (image_of c.database)
      (torn_image at (length bytes) d.database c.database step.1) may.redoes)
      (omega (arith, step.1.no_longer, may.fits, within))
      may

  pub redo_cut : (to : ℕ) (d c : Files) → IsCovered told (image_of kept.database) (Cut to)
      → InFile Database (CutShort (64 + to)) d c → MayRedo kept told d → MayRedo kept told c
  redo_cut to d c covered step may =
      moved d c step.0 (covered (image_of d.database) (image_of c.database) (cut_image to d.database c.database step.1) may.redoes)
      (cut_fits (64 + to) MAX_DATABASE_LEN d.database c.database step.1 may.fits)
      may

  -- a write of the label leaves the image
  pub redo_head : (d c : Files) → InFile Database (Torn 0 64) d c → MayRedo kept told d → MayRedo kept told c
  redo_head d c step may =
      moved d c step.0 (subst (λ (image : List ℕ). Redoes told (image_of kept.database) image) (sym step.1.after) may.redoes)
      (omega (arith, step.1.no_longer, may.fits))
      may

module _ {D : Type 0} (g : Ghosts D) where
  -- after a run a crash leaves what it leaves in the midst of it
  pub narrowed : {old new : D} {P : Files → Type 0} → LeavesOnly g.steps g.left_since old new P → Narrows P (g.may_leave new)
  narrowed {old} {new} run = λ c left. run.each c (g.counts_now new (g.steps old) c run.later left)

  -- one changing call
  pub one_leaves : {f : FileNo} {old new : D} {F : Type 0} (P : Files → Type 0) → OneChange g f old new F → Narrows P (g.may_leave old)
      → Narrows P (g.may_leave new)
      → LeavesOnly g.steps g.left_since old new P
  one_leaves {f} {old} {new} P change before after =
      called g.steps g.left_since old new P (g.may_leave old) (g.may_leave new) change.steps change.time (g.only_now old) before after

  -- one that leaves P of each file that has it
  pub step_leaves : {f : FileNo} {old new : D} {F : Type 0} (P : Files → Type 0) (step : Files → Files → Type 0)
      → OneChange g f old new F → Follows step (g.may_leave old) (g.may_leave new)
      → ((d c : Files) → step d c → P d → P c) → Narrows P (g.may_leave old) → LeavesOnly g.steps g.left_since old new P
  step_leaves {f} {old} {new} P step change follows keeps before =
      one_leaves P change before (λ c left. let from = follows c left in keeps from.0 c from.2 (before from.0 from.1))

  pub sync_leaves : {f : FileNo} {old new : D} {F : Type 0} (P : Files → Type 0) → Syncs g f old new F → Narrows P (g.may_leave old)
      → LeavesOnly g.steps g.left_since old new P
  sync_leaves {f} {old} {new} P sync before = one_leaves P sync.change before (λ c left. before c (sync.crash c left))

  -- a call of the length only reads
  pub len_reads : {old new : D} (r : LenEnd) → OnKnown r (λ _. g.files new ≡ g.files old) → KeepsRoom (g.room old) (g.room new)
      → g.steps new ≡ g.steps old
      → LeavesSame (g.may_leave old) (g.may_leave new) (g.left_since old) (g.left_since new) → g.stop new ≡ g.stop old
      → g.pending new ≡ g.pending old
      → (IsSome (g.pending old) → g.files new ≡ g.files old) → g.tells new ≡ g.tells old
      → HasCause (g.faults old) (g.faults new) (r ≡ lens.Failed)
      → CountsOwn (g.own_faults old) (g.own_faults new) (g.stop new) (r ≡ lens.Failed) → OnlyReads g old new (r ≡ lens.Failed)
  len_reads (lens.Known n) files room steps crash stop pending kept tells cause own =
      record {
        files = λ _. files;
        kept = kept;
        room = room;
        steps = steps;
        crash = crash;
        stop = stop;
        pending = pending;
        tells = tells;
        cause = cause;
        own = own;
      }
  len_reads lens.Failed files room steps crash stop pending kept tells cause own =
      record {
        files = λ not. absurd
            (not refl);
        kept = kept;
        room = room;
        steps = steps;
        crash = crash;
        stop = stop;
        pending = pending;
        tells = tells;
        cause = cause;
        own = own;
      }

  -- calls that only read went before
  pub rested_first : {old mid new : D} (P : Files → Type 0) → g.steps mid ≡ g.steps old
      → LeavesSame (g.may_leave old) (g.may_leave mid) (g.left_since old) (g.left_since mid)
      → Narrows P (g.may_leave old) → (Narrows P (g.may_leave mid) → LeavesOnly g.steps g.left_since mid new P)
      → LeavesOnly g.steps g.left_since old new P
  rested_first {old} {mid} {new} P same crash before rest =
      joined g.steps g.left_since old mid new P
      (rested g.steps g.left_since old mid P (g.may_leave old) (g.may_leave mid) same crash (g.only_now old) before)
      (rest (λ c left. before c (crash.no_more c left)))
