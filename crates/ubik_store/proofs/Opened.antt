-- What an opening makes of files, and what a crash in the midst of it leaves.
use Rattle.std.proofs.Common.{◌≡◌, ◌≤◌, ◌↔◌, ⊎_elim, ℕ, ◌+◌, Bool, true, false, IsTrue, cond, nat_lt, List, length, take, Option, Some, None, IfSome, refl, sym, ap, subst, ◌∙◌, arith}
use Rattle.std.specs.List.{All}
use Rattle.std.proofs.lemmas.Bool.{false≢true}
use Rattle.std.proofs.lemmas.Bool.Decides.{nat_tests}
use Rattle.std.specs.Option.{option_map}
use Rattle.ubik_types.specs.declared.images.Change.{Change}
use Rattle.ubik_types.specs.declared.versions.Version.{Version}
use Rattle.ubik_types.specs.Image.{effect}
use Rattle.ubik_types.specs.Logged.{logged}
use Rattle.disk_base.specs.declared.disks.Disk.{Ghosts}
use Rattle.disk_base.specs.declared.disks.FileNo.TheVariants.{Log}
use Rattle.disk_base.specs.Files.{Files}
use Rattle.disk_base.specs.Crash.{Narrows, LeavesOnly, IsSettled, RisesAtMost}
use Rattle.disk_base.specs.Runs.{OnlyReads, ChangesAtMost}
use Rattle.disk_base.specs.Stops.{DiskStop, IsStopped}
use Rattle.disk_base.proofs.Runs.{widened, joined, rested, reads_change_none}
use Rattle.page_file.specs.declared.label.TheConstants.{MAX_DATABASE_LEN}
use Rattle.page_file.specs.declared.faults.PageFault.{PageFault}
use Rattle.page_file.specs.declared.faults.PageFault.TheVariants as pages
use Rattle.page_file.specs.Fault.{Refuses, IsUnlabelled, IsTooLong}
use Rattle.page_file.specs.Label.{version_of_database, version_of_label}
use Rattle.page_file.proofs.Labels.{version_of_filled}
use Rattle.page_file.specs.Pages.{Known, image_of}
use Rattle.ubik_log.specs.LogFile.{HasDiscarded}
use Rattle.ubik_log.specs.LogGrammar.{IsTold, IsWithinImage, IsCommitted, IsDiscarded}
use Rattle.ubik_log.proofs.OneReading.{log_has_one_reading}
use Rattle.ubik_store.specs.Calls.{CallsAtMost}
use Rattle.ubik_store.specs.Faults.{of_page}
use Rattle.incoming_file.specs.Incoming.{IsIgnored}
use Rattle.ubik_store.specs.Files.{IsLogged, StandsFor}
use Rattle.ubik_store.specs.Files.StandsFor.{by_incoming, by_log, by_label}
use Rattle.ubik_store.specs.Gaps.{LeaveNoGap, IsGapless, IsPlain}
use Rattle.ubik_store.specs.Moments.{MayRedo, LeadsTo, head_calls, without_log, ended}
use Rattle.ubik_store.specs.Opening.{EndsLogIn, OpensIn, RefusesFiles, IsOpening, IsOpeningIn}
use Rattle.ubik_store.specs.Opening.EndsLogIn.{redoes, closes, cuts}
use Rattle.ubik_store.specs.Plans.{IsBegun, PlansLog, PlansRedo, PlansEmpty}
use Rattle.ubik_store.specs.declared.opening.LogPlan.{LogPlan}
use Rattle.ubik_store.specs.declared.opening.LogPlan.TheVariants.{Redo, Empty}
use Rattle.ubik_store.specs.Redo.{len_after, IsSeamless}
use Rattle.ubik_store.specs.Rest.{EndedAs}
use Rattle.ubik_store.proofs.Applied.{calls_of, calls_joined, calls_as}
use Rattle.ubik_store.proofs.AsMade.{logged_is_seamless, logged_is_within, effect_logged}
use Rattle.ubik_store.proofs.Committing.{fits_of, may_redo_all, settled_at}
use Rattle.ubik_store.proofs.Covering.{leads_logged}
use Rattle.ubik_store.proofs.Ending.{LeavesEffect}
use Rattle.ubik_store.proofs.Heads.{FewWithHead}
use Rattle.ubik_store.proofs.Plain.{LeavesPlain, plain_discarded}
use Rattle.ubik_store.proofs.Redone.{length-effect}
use Rattle.ubik_store.proofs.Redoing.{narrowed, rested_first}
use Rattle.ubik_store.proofs.Resting.{len_of, len_after_within, ended_in}
use Rattle.ubik_store.proofs.Telling.{told, of_told}

-- after the log was treated it and the database file are at rest, as what the files stood for
abbrev pub Opened : Option Files → Known → Files → Type 0
Opened new pages fs =
    (version : Version) × (image : List ℕ) × StandsFor fs version image × EndedAs version image fs.incoming new
    × (pages.version ≡ Some version) × (pages.len ≡ length image)

-- at most so many calls as an opening of these files makes
abbrev pub OpensInFew : {D : Type 0} (In : Files → ℕ → Type 0) (g : Ghosts D) (old new : D) → Files → Type 0
OpensInFew In g old new fs = (calls : ℕ) → In fs calls → RisesAtMost calls (g.steps old) (g.steps new)

-- the plan of one kind or the other
pub planned : {D : Type 0} (g : Ghosts D) (disk : D) (plan : LogPlan) (pages : Known) (made : List Change) (v : Version)
    → plan ≡ Redo pages made v → PlansLog g disk plan → PlansRedo g disk pages made v
planned g disk plan pages made v is plans = subst (PlansLog g disk) is plans

pub emptied : {D : Type 0} (g : Ghosts D) (disk : D) (plan : LogPlan) (pages : Known) (begun : Bool) → plan ≡ Empty pages begun
    → PlansLog g disk plan → PlansEmpty g disk pages begun
emptied g disk plan pages begun is plans = subst (PlansLog g disk) is plans

some_is_none : (version : Version) → Some version ≡ None → ⊥
some_is_none version is = cc

-- files stand for one version and one image
pub stands_by_log_once : (fs : Files) (version v : Version) (image : List ℕ) (changes : List Change) → IsLogged fs changes v
    → StandsFor fs version image
    → (version ≡ v) × (image ≡ effect (image_of fs.database) changes)
stands_by_log_once fs version v image changes is (by_incoming _ _ _ opens fits) = absurd (is.ignored version image opens)
stands_by_log_once fs version v image changes is (by_log _ others _ other fits) =
    let same = log_has_one_reading fs.log others changes version v other.committed is.committed in
    (same.1, ap (effect (image_of fs.database)) same.0)
stands_by_log_once fs version v image changes is (by_label _ _ ignored discarded labelled) = absurd (discarded changes v is.committed)

pub stands_by_label_once : (fs : Files) (version : Version) (image : List ℕ) → IsIgnored fs.incoming → IsDiscarded fs.log
    → StandsFor fs version image → (version_of_database fs.database ≡ Some version) × (image ≡ image_of fs.database)
stands_by_label_once fs version image ignored discarded (by_incoming _ _ _ opens fits) = absurd (ignored version image opens)
stands_by_label_once fs version image ignored discarded (by_log _ others _ other fits) = absurd (discarded others version other.committed)
stands_by_label_once fs version image ignored discarded (by_label _ _ other none labelled) = (labelled, refl)

-- files that were not taken stand for nothing
pub refused_open : (fs : Files) (fault : PageFault) → IsIgnored fs.incoming → IsDiscarded fs.log → Refuses IsUnlabelled fs.database fault
    → RefusesFiles fs (of_page fault)
refused_open fs pages.DiskFault ignored none refused = tt
refused_open fs (pages.BadLabel len head) ignored none refused = (
  λ version image stands. some_is_none version
      (sym (stands_by_label_once fs version image ignored none stands).0 ∙ refused.0),
  refused.1,
  refused.2,
)
refused_open fs pages.NoMemory ignored none refused = tt

-- nor do those whose database file is too long
version_too_long : (file : List ℕ) → IsTooLong file → version_of_database file ≡ None
version_too_long file long =
    let some : nat_lt (length file) 64 ≡ false = grind (arith, nat_tests) in
    let past : nat_lt 16777280 (length file) ≡ true = grind (arith, nat_tests) in
    version_of_filled file (omega (arith, long))
    ∙ ap (λ (b : Bool). cond b None (cond (nat_lt 16777280 (length file)) None (version_of_label (take 64 file)))) some
    ∙ ap (λ (b : Bool). cond b None (version_of_label (take 64 file))) past

too_long_stands_for_nothing : (fs : Files) → IsTooLong fs.database → (version : Version) (image : List ℕ) → StandsFor fs version image → ⊥
too_long_stands_for_nothing fs long version image (by_incoming _ _ _ opens fits) = omega (arith, long, fits)
too_long_stands_for_nothing fs long version image (by_log _ changes _ is fits) = omega (arith, long, fits)
too_long_stands_for_nothing fs long version image (by_label _ _ ignored discarded labelled) =
    some_is_none version (sym labelled ∙ version_too_long fs.database long)

pub refused_long : (fs : Files) (fault : PageFault) → Refuses IsTooLong fs.database fault → RefusesFiles fs (of_page fault)
refused_long fs pages.DiskFault refused = tt
refused_long fs (pages.BadLabel len head) refused = (too_long_stands_for_nothing fs refused.0, refused.1, refused.2)
refused_long fs pages.NoMemory refused = tt

-- and an opening of them makes so many calls
calls_by_log : (fs : Files) (calls : ℕ) (changes : List Change) (v : Version) → IsCommitted fs.log changes v → EndsLogIn fs calls
    → calls ≡ 7 + length (logged (length (image_of fs.database)) changes) + head_calls fs.database
calls_by_log fs calls changes v committed (redoes _ others version other) =
    ap (λ (xs : List Change). 7 + length (logged (length (image_of fs.database)) xs) + head_calls fs.database)
    (log_has_one_reading fs.log others changes version v other committed).0
calls_by_log fs calls changes v committed (closes _ discarded begun) = absurd (discarded changes v committed)
calls_by_log fs calls changes v committed (cuts _ discarded other) = absurd (discarded changes v committed)

pub calls_by_label : (fs : Files) (begun : Bool) (calls : ℕ) → IsDiscarded fs.log → (IsTrue begun ↔ IsBegun fs.log) → EndsLogIn fs calls
    → calls ≡ cond begun 4 2
calls_by_label fs begun calls none is (redoes _ others version other) = absurd (none others version other)
calls_by_label fs true calls none is (closes _ discarded begins) = refl
calls_by_label fs false calls none is (closes _ discarded begins) = absurd (false≢true (is.1 begins))
calls_by_label fs true calls none is (cuts _ discarded other) = absurd (other (is.0 refl))
calls_by_label fs false calls none is (cuts _ discarded other) = refl

module _ {D : Type 0} (g : Ghosts D) (old : D) (pages : Known) (made : List Change) (v : Version) (plan : PlansRedo g old pages made v)
    (ignored : IfSome (g.files old) (λ fs. IsIgnored fs.incoming)) where
  pub plan_seamless : IsSeamless pages.len made
  plan_seamless = subst (IsSeamless pages.len) (sym plan.made_is) (logged_is_seamless plan.told pages.len)

  pub plan_within : All IsWithinImage made
  plan_within = subst (All IsWithinImage) (sym plan.made_is) (logged_is_within plan.told pages.len plan.len plan.is_told.within_image)

  plan_told : IsTold made v
  plan_told = record { within_image = plan_within; is_version = plan.is_told.is_version }

  pub plan_len : (after : ℕ) → after ≡ len_after pages.len made → after ≤ 16777216
  plan_len after is = omega (arith, is, len_after_within made pages.len plan_within plan.len)

  module _ (fs : Files) (is : g.files old ≡ Some fs) where
    pub plan_committed : IsCommitted fs.log plan.told v
    plan_committed = of_told (g.files old) fs (λ fs. IsCommitted fs.log plan.told v) is plan.committed

    plan_logged : IsLogged fs plan.told v
    plan_logged = record { ignored = of_told (g.files old) fs (λ fs. IsIgnored fs.incoming) is ignored; committed = plan_committed }

    plan_fits : length fs.database ≤ MAX_DATABASE_LEN
    plan_fits = fits_of pages (g.files old) fs plan.agrees is plan.len

    made_there : made ≡ logged (length (image_of fs.database)) plan.told
    made_there = plan.made_is ∙ ap (λ (n : ℕ). logged n plan.told) (len_of pages (g.files old) fs plan.agrees is)

    made_effect : effect (image_of fs.database) made ≡ effect (image_of fs.database) plan.told
    made_effect = ap (effect (image_of fs.database)) made_there ∙ effect_logged plan.told (image_of fs.database)

    pub plan_leads : LeaveNoGap (length (image_of fs.database)) plan.told → LeadsTo fs plan.told v made
    plan_leads gapless = subst (LeadsTo fs plan.told v) (sym made_there) (leads_logged fs plan.told v plan_logged gapless)

    pub plan_narrow : IsSettled (g.files old) (g.may_leave old) → Narrows (MayRedo fs plan.told) (g.may_leave old)
    plan_narrow settled = may_redo_all fs plan.told (g.may_leave old) plan_fits (settled_at (g.files old) fs (g.may_leave old) is settled)

    -- what the files stand for, they stand for after it
    pub plan_stands : (new : Option Files) (after : Known) → new ≡ option_map (ended made v) (g.files old) → after.version ≡ Some v
        → after.len ≡ len_after pages.len made
        → Opened new after fs
    plan_stands new after ends label len =
        let ends_as = ended_in made v fs pages (g.files old) new plan_told plan.agrees is plan_seamless plan.len
        (ends ∙ ap (option_map (ended made v)) is) in (
          v,
          effect (image_of fs.database) plan.told,
          by_log fs plan.told v plan_logged plan_fits,
          subst (λ (image : List ℕ). EndedAs v image fs.incoming new) made_effect ends_as,
          label,
          len ∙ ap (λ (n : ℕ). len_after n made) (len_of pages (g.files old) fs plan.agrees is)
              ∙ sym (length-effect (image_of fs.database) made) ∙ ap length made_effect,
        )

    pub plan_calls : (calls : ℕ) → EndsLogIn fs calls → calls ≡ 7 + length made + head_calls fs.database
    plan_calls calls opens =
        calls_by_log fs calls plan.told v plan_committed opens
        ∙ ap (λ (xs : List Change). 7 + length xs + head_calls fs.database) (sym made_there)

  pub redo_is_opening : {new : D} {F G : Type 0} → IsSettled (g.files old) (g.may_leave old) → ¬ IsStopped (g.stop old)
      → IfSome (g.files old) (LeavesEffect g old new v made) → IfSome (g.files old) (LeavesPlain g old new v made)
      → IfSome (g.files old) (FewWithHead g (7 + length made) old new)
      → (F → G) → (G → F) → CallsAtMost g (8 + length made) old new F → IsOpeningIn EndsLogIn g old new G
  redo_is_opening {new} {F} {G} settled runs effects plains few to from calls = record {
    moments = told (g.files old) (λ fs. IsGapless fs → (version : Version) (image : List ℕ) → StandsFor fs version image
        → LeavesOnly g.steps g.left_since old new (λ c. StandsFor c version image)) (λ fs is gapless version image stands.
        let is_logged = plan_logged fs is in
        let once = stands_by_log_once fs version v image plan.told is_logged stands in
        let run = of_told (g.files old) fs (LeavesEffect g old new v made) is effects plan.told
        (plan_leads fs is (gapless plan.told v is_logged)) (plan_narrow fs is settled) in
        widened g.steps g.left_since old new (λ c. StandsFor c v (effect (image_of fs.database) plan.told)) (λ c. StandsFor c version image)
        (λ c there. subst (λ (w : Version). StandsFor c w image) (sym once.0)
        (subst (λ (xs : List ℕ). StandsFor c v xs) (sym once.1) there)) run);
    plain = told (g.files old) (λ fs. IsPlain fs → LeavesOnly g.steps g.left_since old new IsPlain) (λ fs is plain.
        of_told (g.files old) fs (LeavesPlain g old new v made) is plains plan.told
        (plan_leads fs is (plain.gapless plan.told v (plan_logged fs is))) plain (plan_narrow fs is settled));
    few = told (g.files old) (OpensInFew EndsLogIn g old new) (λ fs is most opens.
        let rises = of_told (g.files old) fs (FewWithHead g (7 + length made) old new) is few in
        let same = plan_calls fs is most opens in
        (rises.0, omega (arith, rises.1, same)));
    stopped = λ is. ⊎_elim (λ was. absurd (runs was)) (λ failed. to failed) (calls.stopped is);
    most = 8 + length made;
    calls = calls_as (omega arith) to from calls;
  }

module _ {D : Type 0} (g : Ghosts D) (old : D) (pages : Known) (begun : Bool) (plan : PlansEmpty g old pages begun)
    (ignored : IfSome (g.files old) (λ fs. IsIgnored fs.incoming)) where
  module _ (fs : Files) (is : g.files old ≡ Some fs) where
    ignored_there : IsIgnored fs.incoming
    ignored_there = of_told (g.files old) fs (λ fs. IsIgnored fs.incoming) is ignored

    none_there : IsDiscarded fs.log
    none_there = of_told (g.files old) fs (λ fs. IsDiscarded fs.log) is plan.discarded

    label_there : version_of_database fs.database ≡ Some plan.version
    label_there = of_told (g.files old) fs (λ fs. version_of_database fs.database ≡ Some plan.version) is plan.labelled

    pub empty_stands : (new : Option Files) → new ≡ option_map without_log (g.files old)
        → Opened new pages fs
    empty_stands new empties = (
      plan.version,
      image_of fs.database,
      by_label fs plan.version ignored_there none_there label_there,
      (without_log fs, empties ∙ ap (option_map without_log) is, record { log = refl; label = label_there; content = refl }, refl),
      plan.label,
      len_of pages (g.files old) fs plan.agrees is,
    )

    pub empty_calls : (calls : ℕ) → EndsLogIn fs calls → calls ≡ cond begun 4 2
    empty_calls calls opens =
        calls_by_label fs begun calls none_there (of_told (g.files old) fs (λ fs. IsTrue begun ↔ IsBegun fs.log) is plan.begins) opens

    -- with a discarded log the label counts
    discarded_stands : (version : Version) (image : List ℕ) → StandsFor fs version image → (c : Files) → HasDiscarded fs c
        → StandsFor c version image
    discarded_stands version image stands c none =
        let once = stands_by_label_once fs version image ignored_there none_there stands in
        let same : c.database ≡ fs.database = ap (λ (f : Files). f.database) none.1 in
        subst (λ (xs : List ℕ). StandsFor c version xs) (ap image_of same ∙ sym once.1)
        (by_label c version (subst IsIgnored (sym (ap (λ (f : Files). f.incoming) none.1)) ignored_there) none.0
        (ap version_of_database same ∙ once.0))

  pub empty_is_opening : {new : D} {F G : Type 0} → ¬ IsStopped (g.stop old)
      → IfSome (g.files old) (λ fs. LeavesOnly g.steps g.left_since old new (HasDiscarded fs))
      → RisesAtMost (cond begun 4 2) (g.steps old) (g.steps new)
      → (F → G) → (G → F) → ChangesAtMost g Log 4 old new F → IsOpeningIn EndsLogIn g old new G
  empty_is_opening {new} {F} {G} runs leaves few to from changes = record {
    moments = told (g.files old) (λ fs. IsGapless fs → (version : Version) (image : List ℕ) → StandsFor fs version image
        → LeavesOnly g.steps g.left_since old new (λ c. StandsFor c version image)) (λ fs is gapless version image stands.
        widened g.steps g.left_since old new (HasDiscarded fs) (λ c. StandsFor c version image)
        (discarded_stands fs is version image stands)
        (of_told (g.files old) fs (λ fs. LeavesOnly g.steps g.left_since old new (HasDiscarded fs)) is leaves));
    plain = told (g.files old) (λ fs. IsPlain fs → LeavesOnly g.steps g.left_since old new IsPlain) (λ fs is plain.
        widened g.steps g.left_since old new (HasDiscarded fs) IsPlain
        (λ c from. plain_discarded fs c plain (ignored_there fs is) (none_there fs is) from)
        (of_told (g.files old) fs (λ fs. LeavesOnly g.steps g.left_since old new (HasDiscarded fs)) is leaves));
    few =
        told (g.files old) (OpensInFew EndsLogIn g old new)
        (λ fs is most opens. subst (λ (n : ℕ). RisesAtMost n (g.steps old) (g.steps new)) (sym (empty_calls fs is most opens)) few);
    stopped = λ is. ⊎_elim (λ was. absurd (runs was)) (λ failed. to failed) (changes.stopped is);
    most = 4;
    calls = calls_as (omega arith) to from (calls_of changes);
  }

module _ {D : Type 0} (g : Ghosts D) where
  -- what an opening finds before it changes anything
  before_it : {old : D} (fs : Files) (P : Files → Type 0) → g.files old ≡ Some fs → IsSettled (g.files old) (g.may_leave old) → P fs
      → Narrows P (g.may_leave old)
  before_it {old} fs P is settled here = λ c left. subst P (sym (settled_at (g.files old) fs (g.may_leave old) is settled c left)) here

  -- it only read
  pub reads_is_opening : {old new : D} {F : Type 0} → IsSettled (g.files old) (g.may_leave old) → OnlyReads g old new F
      → (IsStopped (g.stop old) → F) → IsOpening g old new F
  reads_is_opening {old} {new} {F} settled reads stopped =
      let rest : (P : Files → Type 0) → Narrows P (g.may_leave old) → LeavesOnly g.steps g.left_since old new P =
      λ P before. rested g.steps g.left_since old new P (g.may_leave old) (g.may_leave new) reads.steps reads.crash
      (g.only_now old) before in
      record {
        moments = told (g.files old) (λ fs. IsGapless fs → (version : Version) (image : List ℕ) → StandsFor fs version image
            → LeavesOnly g.steps g.left_since old new (λ c. StandsFor c version image)) (λ fs is gapless version image stands.
            rest (λ c. StandsFor c version image) (before_it fs (λ c. StandsFor c version image) is settled stands));
        plain = told (g.files old) (λ fs. IsPlain fs → LeavesOnly g.steps g.left_since old new IsPlain)
            (λ fs is plain. rest IsPlain (before_it fs IsPlain is settled plain));
        few = told (g.files old) (OpensInFew OpensIn g old new)
            (λ fs is most opens. (omega (arith, reads.steps), omega (arith, reads.steps)));
        stopped = λ is. stopped (subst (λ (s : DiskStop). IsStopped s) reads.stop is);
        most = 0;
        calls = calls_of (reads_change_none {f = Log} reads);
      }

  -- it only read before
  pub opening_after : {old mid new : D} {F G : Type 0} → IsSettled (g.files old) (g.may_leave old) → OnlyReads g old mid F → ¬ F
      → IsOpening g mid new G → IsOpening g old new G
  opening_after {old} {mid} {new} {F} {G} settled reads went opening =
      let first : (P : Files → Type 0) → Narrows P (g.may_leave old) → LeavesOnly g.steps g.left_since mid new P
      → LeavesOnly g.steps g.left_since old new P =
      λ P before run. rested_first g P reads.steps reads.crash before (λ _. run) in
      record {
        moments = told (g.files old) (λ fs. IsGapless fs → (version : Version) (image : List ℕ) → StandsFor fs version image
            → LeavesOnly g.steps g.left_since old new (λ c. StandsFor c version image)) (λ fs is gapless version image stands.
            first (λ c. StandsFor c version image) (before_it fs (λ c. StandsFor c version image) is settled stands)
            (of_told (g.files mid) fs (λ fs. IsGapless fs → (version : Version) (image : List ℕ) → StandsFor fs version image
            → LeavesOnly g.steps g.left_since mid new (λ c. StandsFor c version image))
            (reads.files went ∙ is) opening.moments gapless version image stands));
        plain = told (g.files old) (λ fs. IsPlain fs → LeavesOnly g.steps g.left_since old new IsPlain) (λ fs is plain.
            first IsPlain (before_it fs IsPlain is settled plain)
            (of_told (g.files mid) fs (λ fs. IsPlain fs → LeavesOnly g.steps g.left_since mid new IsPlain)
            (reads.files went ∙ is) opening.plain plain));
        few = told (g.files old) (OpensInFew OpensIn g old new) (λ fs is most opens.
            let rises = of_told (g.files mid) fs (OpensInFew OpensIn g mid new) (reads.files went ∙ is) opening.few most opens in
            (omega (arith, reads.steps, rises.0), omega (arith, reads.steps, rises.1)));
        stopped = opening.stopped;
        most = opening.most;
        calls = calls_as (omega arith) (λ failed. failed) (λ failed. failed)
            (calls_joined (calls_of (reads_change_none {f = Log} reads)) went opening.calls);
      }

  pub steps_after : {old mid : D} {F : Type 0} (new : D) → OnlyReads g old mid F → ¬ F
      → IfSome (g.files mid) (λ fs. (calls : ℕ) → OpensIn fs calls → g.steps new ≡ g.steps mid + calls)
      → IfSome (g.files old) (λ fs. (calls : ℕ) → OpensIn fs calls → g.steps new ≡ g.steps old + calls)
  steps_after {old} {mid} new reads went steps =
      told (g.files old) (λ fs. (calls : ℕ) → OpensIn fs calls → g.steps new ≡ g.steps old + calls) (λ fs is calls opens.
      of_told (g.files mid) fs (λ fs. (calls : ℕ) → OpensIn fs calls → g.steps new ≡ g.steps mid + calls)
      (reads.files went ∙ is) steps calls opens
      ∙ ap (λ (n : ℕ). n + calls) reads.steps)

  -- and only reads behind it
  pub opening_then : {old mid new : D} {F : Type 0} → IsOpening g old mid ⊥ → OnlyReads g mid new F → IsOpening g old new F
  opening_then {old} {mid} {new} {F} opening reads =
      let last : (P : Files → Type 0) → LeavesOnly g.steps g.left_since old mid P → LeavesOnly g.steps g.left_since old new P =
      λ P run.
      joined g.steps g.left_since old mid new P run
      (rested g.steps g.left_since mid new P (g.may_leave mid) (g.may_leave new) reads.steps reads.crash (g.only_now mid)
      (narrowed g run)) in
      record {
        moments = told (g.files old) (λ fs. IsGapless fs → (version : Version) (image : List ℕ) → StandsFor fs version image
            → LeavesOnly g.steps g.left_since old new (λ c. StandsFor c version image)) (λ fs is gapless version image stands.
            last (λ c. StandsFor c version image)
            (of_told (g.files old) fs (λ fs. IsGapless fs → (version : Version) (image : List ℕ) → StandsFor fs version image
            → LeavesOnly g.steps g.left_since old mid (λ c. StandsFor c version image)) is opening.moments gapless version image stands));
        plain = told (g.files old) (λ fs. IsPlain fs → LeavesOnly g.steps g.left_since old new IsPlain) (λ fs is plain.
            last IsPlain (of_told (g.files old) fs
            (λ fs. IsPlain fs → LeavesOnly g.steps g.left_since old mid IsPlain) is opening.plain plain));
        few = told (g.files old) (OpensInFew OpensIn g old new) (λ fs is most opens.
            let rises = of_told (g.files old) fs (OpensInFew OpensIn g old mid) is opening.few most opens in
            (omega (arith, reads.steps, rises.0), omega (arith, reads.steps, rises.1)));
        stopped = λ is. absurd (opening.stopped (subst (λ (s : DiskStop). IsStopped s) reads.stop is));
        most = opening.most;
        calls = calls_as (omega arith) (λ failed. failed) (λ failed. failed)
            (calls_joined opening.calls (λ none. none) (calls_of (reads_change_none {f = Log} reads)));
      }
