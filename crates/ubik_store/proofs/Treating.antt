-- What an opening makes of the incoming file: one that is ignored is emptied once the log is, and an open one takes the place of the
-- other files.
use Rattle.std.proofs.Common.{◌≡◌, ◌≤◌, ⊎_elim, inl, inr, ℕ, ◌+◌, true, List, [], length, take, drop, length-drop, Option, Some, IfSome, refl, sym, ap, subst, ◌∙◌, arith}
use Rattle.std.specs.Option.{option_map}
use Rattle.ubik_types.specs.declared.versions.Version.{Version}
use Rattle.ubik_types.specs.Version.{zero_version, version_lt}
use Rattle.disk_base.specs.declared.disks.Disk.{Ghosts}
use Rattle.disk_base.specs.declared.disks.FileNo.TheVariants.{Incoming}
use Rattle.disk_base.specs.Files.{Files, three_files}
use Rattle.disk_base.specs.Crash.{LeavesOnly, Narrows, IsSettled, After, RisesAtMost}
use Rattle.disk_base.specs.Runs.{AnyIn, ChangesAtMost, OnlyReads}
use Rattle.disk_base.specs.Stops.{IsStopped}
use Rattle.disk_base.proofs.Runs.{widened, joined}
use Rattle.page_file.specs.declared.label.TheConstants.{MAX_DATABASE_LEN}
use Rattle.page_file.specs.Label.{version_of_database, version_of_label}
use Rattle.page_file.specs.Pages.{Known, image_of}
use Rattle.page_file.proofs.Labels.{version_of_filled, version_by_label, version_of_label_again}
use Rattle.ubik_log.specs.LogGrammar.{IsDiscarded}
use Rattle.ubik_log.proofs.Gates.{short_log_is_discarded}
use Rattle.incoming_file.specs.Incoming.{IsIncoming, IsIgnored, clear_calls, with_incoming, HasIgnored}
use Rattle.incoming_file.specs.Reading.{IsText}
use Rattle.ubik_store.specs.declared.opening.Plan.{Plan}
use Rattle.ubik_store.specs.declared.opening.Plan.TheVariants.{Take}
use Rattle.ubik_store.specs.Calls.{CallsAtMost}
use Rattle.ubik_store.specs.Files.{StandsFor}
use Rattle.ubik_store.specs.Files.StandsFor.{by_incoming, by_label}
use Rattle.ubik_store.specs.Gaps.{IsGapless, IsPlain}
use Rattle.ubik_store.specs.Opening.{EndsLogIn, OpensIn, IsOpening, IsOpeningIn, OpensFiles}
use Rattle.ubik_store.specs.Opening.OpensIn.{takes, treats}
use Rattle.ubik_store.specs.Plans.{Plans, PlansTake}
use Rattle.ubik_store.specs.Rest.{IsEnded}
use Rattle.ubik_store.proofs.Applied.{calls_of, calls_joined, calls_as}
use Rattle.ubik_store.proofs.Committing.{fits_of, settled_at}
use Rattle.ubik_store.proofs.Gaps.{HasNoFirstLabel, discarded_is_plain}
use Rattle.ubik_store.proofs.Once.{open_stands_once, stands_once}
use Rattle.ubik_store.proofs.Opened.{Opened, OpensInFew, steps_after}
use Rattle.ubik_store.proofs.Redoing.{narrowed}
use Rattle.ubik_store.proofs.Rests.{Rested}
use Rattle.ubik_store.proofs.Telling.{told, of_told}

-- ---- an incoming file that is ignored

-- how many calls an opening makes
pub treats_in : (fs : Files) (calls : ℕ) → IsIgnored fs.incoming → OpensIn fs calls
    → (k : ℕ) × EndsLogIn fs k × (calls ≡ k + clear_calls fs.incoming)
treats_in fs calls ignored (takes _ version image opens) = absurd (ignored version image opens)
treats_in fs calls ignored (treats _ k other ends) = (k, ends, refl)

-- once the incoming file is empty too
pub opened_rests : (fs : Files) (pages : Known) (mid new : Option Files) → new ≡ option_map (with_incoming []) mid → Opened mid pages fs
    → Rested new pages fs
opened_rests fs pages mid new clears opened =
    let ends = opened.3 in
    let is = ends.2 in (
      opened.0,
      opened.1,
      opened.2,
      (
        with_incoming [] ends.0,
        clears ∙ ap (option_map (with_incoming [])) ends.1,
        record { incoming = refl; log = is.log; label = is.label; content = is.content },
      ),
      opened.4,
      opened.5,
    )

-- the log is empty, and the incoming file is ignored while it is emptied: so the label counts
discarded_beside : (fs c : Files) → fs.log ≡ [] → HasIgnored fs c → IsDiscarded c.log
discarded_beside fs c empty cleared =
    let none : length c.log ≡ 0 = ap length (ap (λ (f : Files). f.log) cleared.1 ∙ empty) in
    short_log_is_discarded c.log (omega (arith, none))

ended_stands : (fs c : Files) (version : Version) (image : List ℕ) → IsEnded version image fs → HasIgnored fs c → StandsFor c version image
ended_stands fs c version image ended cleared =
    let same : c.database ≡ fs.database = ap (λ (f : Files). f.database) cleared.1 in
    subst (λ (xs : List ℕ). StandsFor c version xs) (ap image_of same ∙ ended.content)
    (by_label c version cleared.0 (discarded_beside fs c ended.log cleared) (ap version_of_database same ∙ ended.label))

-- plain files stay plain
ended_plain : (fs c : Files) → IsIgnored fs.incoming → fs.log ≡ [] → IsPlain fs → HasIgnored fs c → IsPlain c
ended_plain fs c ignored empty plain cleared =
    let same : c.database ≡ fs.database = ap (λ (f : Files). f.database) cleared.1 in
    let none : length fs.log ≡ 0 = ap length empty in
    discarded_is_plain c cleared.0 (discarded_beside fs c empty cleared)
    (subst HasNoFirstLabel (sym same) (plain.unlabelled ignored (short_log_is_discarded fs.log (omega (arith, none)))))

module _ {D : Type 0} (g : Ghosts D) where
  -- a run that leaves what has P, and what has Q
  both : {old new : D} (P Q : Files → Type 0) → LeavesOnly g.steps g.left_since old new P → LeavesOnly g.steps g.left_since old new Q
      → LeavesOnly g.steps g.left_since old new (λ c. P c × Q c)
  both {old} {new} P Q one two = record {
    later = one.later;
    each = λ c left. (one.each c left, two.each c left);
    before = λ t c le left.
        ⊎_elim (λ past. inl past) (λ p. ⊎_elim (λ past. inl past) (λ q. inr (p, q)) (two.before t c le left)) (one.before t c le left);
  }

  module _ {mid new : D} {G : Type 0} (there : Files) (version : Version) (image : List ℕ) (is : g.files mid ≡ Some there)
      (ended : IsEnded version image there) (settled : IsSettled (g.files mid) (g.may_leave mid))
      (clears : IfSome (g.files mid) (λ fs. LeavesOnly g.steps g.left_since mid new (HasIgnored fs)))
      (changes : ChangesAtMost g Incoming 4 mid new G) where
    clears_there : LeavesOnly g.steps g.left_since mid new (HasIgnored there)
    clears_there = of_told (g.files mid) there (λ fs. LeavesOnly g.steps g.left_since mid new (HasIgnored fs)) is clears

    -- a crash while it is emptied leaves files that stand for the same
    clears_stands : LeavesOnly g.steps g.left_since mid new (λ c. StandsFor c version image)
    clears_stands =
        widened g.steps g.left_since mid new (HasIgnored there) (λ c. StandsFor c version image)
        (λ c left. ended_stands there c version image ended left) clears_there

    -- and plain ones, where the files were plain
    clears_plain : IsIgnored there.incoming → Narrows IsPlain (g.may_leave mid) → LeavesOnly g.steps g.left_since mid new IsPlain
    clears_plain ignored plain =
        let only = settled_at (g.files mid) there (g.may_leave mid) is settled in
        widened g.steps g.left_since mid new (λ c. After (AnyIn Incoming) (g.may_leave mid) c × HasIgnored there c) IsPlain
        (λ c left. ended_plain there c ignored ended.log (subst IsPlain (only left.0.0 left.0.1) (plain left.0.0 left.0.1)) left.1)
        (both (After (AnyIn Incoming) (g.may_leave mid)) (HasIgnored there) changes.moments clears_there)

  -- the log was treated, and that failed
  pub log_is_opening : {old new : D} {F G : Type 0} → IfSome (g.files old) (λ fs. IsIgnored fs.incoming) → (F → G) → (G → F)
      → IsOpeningIn EndsLogIn g old new F → IsOpening g old new G
  log_is_opening {old} {new} {F} {G} ignored to from opening = record {
    moments = opening.moments;
    plain = opening.plain;
    few = told (g.files old) (OpensInFew OpensIn g old new) (λ fs is calls opens.
        let makes = treats_in fs calls (of_told (g.files old) fs (λ fs. IsIgnored fs.incoming) is ignored) opens in
        let rises = of_told (g.files old) fs (OpensInFew EndsLogIn g old new) is opening.few makes.0 makes.1 in
        (rises.0, omega (arith, rises.1, makes.2)));
    stopped = λ is. to (opening.stopped is);
    most = opening.most;
    calls = calls_as (omega arith) to from opening.calls;
  }

  -- the log was treated, and then the incoming file is emptied
  pub treat_is_opening : {old mid new : D} {F G H : Type 0} (pages : Known) → IfSome (g.files old) (λ fs. IsIgnored fs.incoming)
      → IsOpeningIn EndsLogIn g old mid F → ¬ F → IfSome (g.files old) (Opened (g.files mid) pages)
      → IsSettled (g.files mid) (g.may_leave mid)
      → IfSome (g.files mid) (λ fs. LeavesOnly g.steps g.left_since mid new (HasIgnored fs))
      → IfSome (g.files mid) (λ fs. RisesAtMost (clear_calls fs.incoming) (g.steps mid) (g.steps new))
      → (G → H) → (H → G) → ChangesAtMost g Incoming 4 mid new G → IsOpening g old new H
  treat_is_opening {old} {mid} {new} {F} {G} {H} pages ignored opening went opened settled clears few to from changes = record {
    moments = told (g.files old) (λ fs. IsGapless fs → (version : Version) (image : List ℕ) → StandsFor fs version image
        → LeavesOnly g.steps g.left_since old new (λ c. StandsFor c version image)) (λ fs is gapless version image stands.
        let ends = of_told (g.files old) fs (Opened (g.files mid) pages) is opened in
        let same = stands_once fs ends.0 version ends.1 image ends.2 stands in
        let ended : IsEnded version image ends.3.0 = subst (λ (v : Version). IsEnded v image ends.3.0) same.0
        (subst (λ (xs : List ℕ). IsEnded ends.0 xs ends.3.0) same.1 ends.3.2) in
        joined g.steps g.left_since old mid new (λ c. StandsFor c version image)
        (of_told (g.files old) fs (λ fs. IsGapless fs → (version : Version) (image : List ℕ) → StandsFor fs version image
        → LeavesOnly g.steps g.left_since old mid (λ c. StandsFor c version image)) is opening.moments gapless version image stands)
        (clears_stands ends.3.0 version image ends.3.1 ended settled clears changes));
    plain = told (g.files old) (λ fs. IsPlain fs → LeavesOnly g.steps g.left_since old new IsPlain) (λ fs is plain.
        let ends = of_told (g.files old) fs (Opened (g.files mid) pages) is opened in
        let run = of_told (g.files old) fs (λ fs. IsPlain fs → LeavesOnly g.steps g.left_since old mid IsPlain) is opening.plain plain in
        let beside = subst IsIgnored (sym ends.3.3) (of_told (g.files old) fs (λ fs. IsIgnored fs.incoming) is ignored) in
        joined g.steps g.left_since old mid new IsPlain run
        (clears_plain ends.3.0 ends.0 ends.1 ends.3.1 ends.3.2 settled clears changes beside (narrowed g run)));
    few = told (g.files old) (OpensInFew OpensIn g old new) (λ fs is calls opens.
        let ends = of_told (g.files old) fs (Opened (g.files mid) pages) is opened in
        let makes = treats_in fs calls (of_told (g.files old) fs (λ fs. IsIgnored fs.incoming) is ignored) opens in
        let first = of_told (g.files old) fs (OpensInFew EndsLogIn g old mid) is opening.few makes.0 makes.1 in
        let last = of_told (g.files mid) ends.3.0 (λ fs. RisesAtMost (clear_calls fs.incoming) (g.steps mid) (g.steps new)) ends.3.1 few in
        let same : clear_calls ends.3.0.incoming ≡ clear_calls fs.incoming = ap clear_calls ends.3.3 in
        (omega (arith, first.0, last.0), omega (arith, first.1, last.1, same, makes.2)));
    stopped = λ is. ⊎_elim (λ was. absurd (went (opening.stopped was))) (λ failed. to failed) (changes.stopped is);
    most = opening.most + 4;
    calls = calls_as (omega arith) to from (calls_joined opening.calls went (calls_of changes));
  }

  -- and how many calls that takes
  pub treat_steps : (old mid new : D) (pages : Known) → IfSome (g.files old) (λ fs. IsIgnored fs.incoming)
      → IfSome (g.files old) (Opened (g.files mid) pages)
      → IfSome (g.files old) (λ fs. (calls : ℕ) → EndsLogIn fs calls → g.steps mid ≡ g.steps old + calls)
      → IfSome (g.files mid) (λ fs. g.steps new ≡ g.steps mid + clear_calls fs.incoming)
      → IfSome (g.files old) (λ fs. (calls : ℕ) → OpensIn fs calls → g.steps new ≡ g.steps old + calls)
  treat_steps old mid new pages ignored opened ends clears =
      told (g.files old) (λ fs. (calls : ℕ) → OpensIn fs calls → g.steps new ≡ g.steps old + calls) (λ fs is calls opens.
      let there = of_told (g.files old) fs (Opened (g.files mid) pages) is opened in
      let makes = treats_in fs calls (of_told (g.files old) fs (λ fs. IsIgnored fs.incoming) is ignored) opens in
      let first =
      of_told (g.files old) fs (λ fs. (calls : ℕ) → EndsLogIn fs calls → g.steps mid ≡ g.steps old + calls) is ends makes.0 makes.1 in
      let last = of_told (g.files mid) there.3.0 (λ fs. g.steps new ≡ g.steps mid + clear_calls fs.incoming) there.3.1 clears in
      let same : clear_calls there.3.0.incoming ≡ clear_calls fs.incoming = ap clear_calls there.3.3 in
      omega (arith, first, last, same, makes.2))

-- ---- an open one

-- the plan of one, with the text as it is lent
pub taken : {D : Type 0} (g : Ghosts D) (disk : D) (plan : Plan) (pages : Known) (kept text : List ℕ) (v : Version)
    → plan ≡ Take pages kept v → text ≡ kept → Plans g disk plan → PlansTake g disk pages text v
taken g disk plan pages kept text v is same plans =
    subst (λ (xs : List ℕ). PlansTake g disk pages xs v) (sym same) (subst (Plans g disk) is plans)

takes_in : (fs : Files) (calls : ℕ) (v : Version) (image : List ℕ) → IsIncoming fs.incoming v image → OpensIn fs calls → calls ≡ 9
takes_in fs calls v image opens (takes _ version other is) = refl
takes_in fs calls v image opens (treats _ k ignored ends) = absurd (ignored v image opens)

-- a label and an image have the version of the label
text_labelled : (text : List ℕ) (v : Version) → IsText text v → version_of_database text ≡ Some v
text_labelled text v is =
    version_of_filled text (omega (arith, is.long)) ∙ version_by_label (length text) (take 64 text) is.long is.fits
    ∙ ap version_of_label is.labelled ∙ version_of_label_again v (omega (arith, is.is_version.epoch)) (omega (arith, is.is_version.counter))

module _ {D : Type 0} (g : Ghosts D) (old : D) (pages : Known) (text : List ℕ) (v : Version) (plan : PlansTake g old pages text v) where
  pub take_not_long : IfSome (g.files old) (λ fs. length fs.database ≤ MAX_DATABASE_LEN)
  take_not_long =
      told (g.files old) (λ fs. length fs.database ≤ MAX_DATABASE_LEN) (λ fs is. fits_of pages (g.files old) fs plan.agrees is plan.len)

  open_there : (fs : Files) → g.files old ≡ Some fs → IsIncoming fs.incoming v (drop 64 text)
  open_there fs is = of_told (g.files old) fs (λ fs. IsIncoming fs.incoming v (drop 64 text)) is plan.is_open

  -- the files stand for it, and are at rest behind it
  pub take_stands : (new : Option Files) (after : Known) → new ≡ option_map (λ _. three_files text [] []) (g.files old)
      → after.version ≡ Some v → 64 + after.len ≡ length text
      → IfSome (g.files old) (Rested new after)
  take_stands new after files label len =
      told (g.files old) (Rested new after) (λ fs is. (
        v,
        drop 64 text,
        by_incoming fs v (drop 64 text) (open_there fs is)
            (of_told (g.files old) fs (λ fs. length fs.database ≤ MAX_DATABASE_LEN) is take_not_long),
        (
          three_files text [] [],
          files ∙ ap (option_map (λ (_ : Files). three_files text [] [])) is,
          record { incoming = refl; log = refl; label = text_labelled text v plan.is_text; content = refl },
        ),
        label,
        omega (arith, len, length-drop 64 text),
      ))

  pub take_steps : (new : D) → g.steps new ≡ g.steps old + 9
      → IfSome (g.files old) (λ fs. (calls : ℕ) → OpensIn fs calls → g.steps new ≡ g.steps old + calls)
  take_steps new steps = told (g.files old) (λ fs. (calls : ℕ) → OpensIn fs calls → g.steps new ≡ g.steps old + calls) (λ fs is calls opens.
      let same = takes_in fs calls v (drop 64 text) (open_there fs is) opens in
      omega (arith, steps, same))

  pub take_is_opening : {new : D} {F G : Type 0} → ¬ IsStopped (g.stop old)
      → IfSome (g.files old) (λ _. LeavesOnly g.steps g.left_since old new (λ c. StandsFor c v (drop 64 text)))
      → (version_lt zero_version v ≡ true → IfSome (g.files old) (λ _. LeavesOnly g.steps g.left_since old new IsPlain))
      → (F → G) → (G → F) → CallsAtMost g 9 old new F → IsOpening g old new G
  take_is_opening {new} {F} {G} runs moments plains to from calls = record {
    moments = told (g.files old) (λ fs. IsGapless fs → (version : Version) (image : List ℕ) → StandsFor fs version image
        → LeavesOnly g.steps g.left_since old new (λ c. StandsFor c version image)) (λ fs is gapless version image stands.
        let same = open_stands_once fs v version (drop 64 text) image (open_there fs is) stands in
        widened g.steps g.left_since old new (λ c. StandsFor c v (drop 64 text)) (λ c. StandsFor c version image)
        (λ c there. subst (λ (w : Version). StandsFor c w image) same.0 (subst (λ (xs : List ℕ). StandsFor c v xs) same.1 there))
        (of_told (g.files old) fs (λ _. LeavesOnly g.steps g.left_since old new (λ c. StandsFor c v (drop 64 text))) is moments));
    plain = told (g.files old) (λ fs. IsPlain fs → LeavesOnly g.steps g.left_since old new IsPlain) (λ fs is plain.
        of_told (g.files old) fs (λ _. LeavesOnly g.steps g.left_since old new IsPlain) is
        (plains (plain.received v (drop 64 text) (open_there fs is))));
    few = told (g.files old) (OpensInFew OpensIn g old new) (λ fs is most opens.
        let same = takes_in fs most v (drop 64 text) (open_there fs is) opens in
        (calls.at_most.0, omega (arith, calls.at_most.1, same)));
    stopped = λ is. ⊎_elim (λ was. absurd (runs was)) (λ failed. to failed) (calls.stopped is);
    most = 9;
    calls = calls_as (omega arith) to from calls;
  }

-- ---- an opening that read before

pub opens_after : {D : Type 0} (g : Ghosts D) {old mid new : D} {F : Type 0} (pages : Known) → OnlyReads g old mid F → ¬ F
    → OpensFiles g mid new pages
    → OpensFiles g old new pages
opens_after g {old} {mid} {new} pages reads went opened = record {
  stands = told (g.files old) (Rested (g.files new) pages) (λ fs is.
      of_told (g.files mid) fs (Rested (g.files new) pages) (reads.files went ∙ is) opened.stands);
  numbers = opened.numbers;
  len = opened.len;
  agrees = opened.agrees;
  settled = opened.settled;
  steps = steps_after g new reads went opened.steps;
  untold = λ none. opened.untold (reads.files went ∙ none);
}
