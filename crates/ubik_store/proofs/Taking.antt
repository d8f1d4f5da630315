-- How an image takes the place of the one that is there, and what a crash leaves meanwhile.
use Rattle.std.proofs.Common.{◌≡◌, ◌≤◌, ◌⊎◌, inl, inr, ℕ, ◌+◌, true, List, [], ◌++◌, length, drop, get_or, Option, Some, None, IfSome, refl, sym, ap, subst, ◌∙◌, arith, length-append}
use Rattle.std.specs.Option.{option_map}
use Rattle.std.proofs.lemmas.List.{drop_at, get_or-take, take_at}
use Rattle.ubik_types.specs.declared.versions.Version.{Version}
use Rattle.ubik_types.specs.Version.{IsVersion, zero_version, version_lt}
use Rattle.disk_base.specs.declared.disks.Disk.{Ghosts}
use Rattle.disk_base.specs.declared.disks.FileNo.TheVariants.{Database, Log}
use Rattle.disk_base.specs.Files.{Files, with_file, three_files}
use Rattle.disk_base.specs.Crash.{CutShort, InFile, LeavesOnly, LeavesOthers, Only, OnlyIn, IsSettled, After}
use Rattle.disk_base.specs.Runs.{Syncs}
use Rattle.disk_base.proofs.Runs.{called, joined, widened}
use Rattle.page_file.specs.declared.label.TheConstants.{MAX_DATABASE_LEN}
use Rattle.page_file.specs.Label.{label, version_by, version_of_database}
use Rattle.page_file.specs.Pages.{Known, IsNoLonger, image_of}
use Rattle.page_file.proofs.Labels.{version_by_again, version_of_filled}
use Rattle.ubik_log.proofs.Gates.{short_log_is_discarded}
use Rattle.incoming_file.specs.Incoming.{IsIncoming, IsIgnored, IsGateOpen, opened, with_incoming, HasThisOrIgnored}
use Rattle.incoming_file.specs.Reading.{IsText}
use Rattle.incoming_file.proofs.Keeping.{kept_is_open}
use Rattle.incoming_file.proofs.Opens.{gate_open}
use Rattle.ubik_store.specs.Commit.{RewritesFiles}
use Rattle.ubik_store.specs.Files.{StandsFor, StandsForEither}
use Rattle.ubik_store.specs.Files.StandsFor.{by_incoming, by_label}
use Rattle.ubik_store.specs.Calls.{CallsAtMost}
use Rattle.ubik_store.specs.Gaps.{IsPlain}
use Rattle.ubik_store.specs.Install.{TakesPlace, StandsThroughout}
use Rattle.ubik_store.specs.Rest.{AreEmpty, CanRelabel, RestsAs}
use Rattle.ubik_store.specs.Rewrite.Rewrite.{Replaced}
use Rattle.ubik_store.proofs.Applied.{calls_joined}
use Rattle.ubik_store.proofs.Committing.{settled_at}
use Rattle.ubik_store.proofs.Gaps.{discarded_is_plain, received_is_plain}
use Rattle.ubik_store.proofs.Plain.{first_over}
use Rattle.ubik_store.proofs.Redoing.{narrowed}
use Rattle.ubik_store.proofs.Telling.{told, of_told, of_some}
use Rattle.ubik_store.proofs.Versions.{not_first}

-- The incoming file is open, whatever database and log are.
pub record IsReceived (version : Version) (image : List ℕ) (c : Files) : Type 0 where
  pub opens : IsIncoming c.incoming version image
  pub fits : length c.database ≤ MAX_DATABASE_LEN

-- What it stands for is the database file, and nothing is in the log.
pub record IsTaken (text : List ℕ) (c : Files) : Type 0 where
  pub ignored : IsIgnored c.incoming
  pub log : c.log ≡ []
  pub database : c.database ≡ text

-- the one or the other
abbrev pub MayTake : List ℕ → Version → Files → Type 0
MayTake text v c = IsReceived v (drop 64 text) c ⊎ IsTaken text c

-- a label and an image are a database file of that version
pub version_of_text : (text : List ℕ) (v : Version) → IsText text v → version_of_database text ≡ Some v
version_of_text text v is =
    version_of_filled text (omega (arith, is.long)) ∙ ap (version_by (length text)) is.labelled
    ∙ version_by_again v (length text) (omega (arith, is.is_version.epoch)) (omega (arith, is.is_version.counter)) is.long is.fits

-- the last byte of a label is zero
pub text_zero : (text : List ℕ) (v : Version) → IsText text v → get_or text 63 0 ≡ 0
text_zero text v is = sym (get_or-take 64 text 63 0 (omega arith)) ∙ ap (λ (xs : List ℕ). get_or xs 63 0) is.labelled

module _ (text : List ℕ) (v : Version) (is : IsText text v) where
  pub stands_taken : (c : Files) → MayTake text v c → StandsFor c v (drop 64 text)
  stands_taken c (inl received) = by_incoming c v (drop 64 text) received.opens received.fits
  stands_taken c (inr taken) =
      let discarded = short_log_is_discarded c.log (omega (arith, ap length taken.log)) in
      subst (λ (xs : List ℕ). StandsFor c v (image_of xs)) taken.database
      (by_label c v taken.ignored discarded (ap version_of_database taken.database ∙ version_of_text text v is))

  pub plain_taken : version_lt zero_version v ≡ true → (c : Files) → MayTake text v c → IsPlain c
  plain_taken newer c (inl received) = received_is_plain c v (drop 64 text) received.opens newer
  plain_taken newer c (inr taken) =
      let version : version_of_database c.database ≡ Some v = ap version_of_database taken.database ∙ version_of_text text v is in
      discarded_is_plain c taken.ignored (short_log_is_discarded c.log (omega (arith, ap length taken.log)))
      (λ first. absurd (not_first v newer cc))

  -- while the database file is replaced
  while_replaced : (fs : Files) (before : Files → Type 0) → Only fs before → IsIncoming fs.incoming v (drop 64 text)
      → length fs.database ≤ MAX_DATABASE_LEN → (c : Files) → After (InFile Database (IsNoLonger (length text))) before c → MayTake text v c
  while_replaced fs before only opens fits c from =
      let was = only from.0 from.1 in
      let beside : c.incoming ≡ fs.incoming = ap (λ (f : Files). f.incoming) from.2.0 ∙ ap (λ (f : Files). f.incoming) was in
      let no_longer : IsNoLonger (length text) fs.database c.database =
      subst (λ (d : Files). IsNoLonger (length text) d.database c.database) was from.2.1 in
      inl (record {
        opens = subst (λ (xs : List ℕ). IsIncoming xs v (drop 64 text)) (sym beside) opens;
        fits = omega (arith, no_longer, fits, is.fits);
      })

  -- while the log is emptied
  while_emptied : (fs : Files) (before : Files → Type 0) → Only fs before → IsIncoming fs.incoming v (drop 64 text)
      → length fs.database ≤ MAX_DATABASE_LEN → (c : Files) → After (InFile Log (CutShort 0)) before c → MayTake text v c
  while_emptied fs before only opens fits c from =
      let was = only from.0 from.1 in
      let beside : c.incoming ≡ fs.incoming = ap (λ (f : Files). f.incoming) from.2.0 ∙ ap (λ (f : Files). f.incoming) was in
      let same : c.database ≡ fs.database = ap (λ (f : Files). f.database) from.2.0 ∙ ap (λ (f : Files). f.database) was in
      inl (record {
        opens = subst (λ (xs : List ℕ). IsIncoming xs v (drop 64 text)) (sym beside) opens;
        fits = subst (λ (xs : List ℕ). length xs ≤ MAX_DATABASE_LEN) (sym same) fits;
      })

  -- while the incoming file is emptied
  while_ended : (fs : Files) → IsIncoming fs.incoming v (drop 64 text) → fs.log ≡ []
      → (c : Files) → HasThisOrIgnored fs.incoming (with_file fs Database text) c → MayTake text v c
  while_ended fs opens none c (inl this, same) =
      inl (record {
        opens = subst (λ (xs : List ℕ). IsIncoming xs v (drop 64 text)) (sym this) opens;
        fits = subst (λ (f : Files). length f.database ≤ MAX_DATABASE_LEN) (sym same) is.fits;
      })
  while_ended fs opens none c (inr ignored, same) =
      inr (record { ignored = ignored; log = ap (λ (f : Files). f.log) same ∙ none; database = ap (λ (f : Files). f.database) same })

  -- while the text is kept in an empty incoming file, files at rest stand for their label
  pub stands_kept : (fs : Files) (own : Version) → AreEmpty fs → version_of_database fs.database ≡ Some own
      → length fs.database ≤ MAX_DATABASE_LEN
      → (c : Files) → HasThisOrIgnored (opened text) fs c → StandsForEither own (image_of fs.database) v (drop 64 text) c
  stands_kept fs own empty labelled fits c (inl this, same) =
      inr (by_incoming c v (drop 64 text) (subst (λ (xs : List ℕ). IsIncoming xs v (drop 64 text)) (sym this) (kept_is_open text v is))
      (subst (λ (f : Files). length f.database ≤ MAX_DATABASE_LEN) (sym same) fits))
  stands_kept fs own empty labelled fits c (inr ignored, same) =
      let log : c.log ≡ [] = ap (λ (f : Files). f.log) same ∙ empty.0 in
      let database : c.database ≡ fs.database = ap (λ (f : Files). f.database) same in
      inl (subst (λ (xs : List ℕ). StandsFor c own (image_of xs)) database
      (by_label c own ignored (short_log_is_discarded c.log (omega (arith, ap length log))) (ap version_of_database database ∙ labelled)))

  -- and plain ones stay plain
  pub plain_kept : version_lt zero_version v ≡ true → (fs : Files) → IsPlain fs → AreEmpty fs
      → (c : Files) → HasThisOrIgnored (opened text) fs c → IsPlain c
  plain_kept newer fs plain empty c (inl this, same) =
      received_is_plain c v (drop 64 text) (subst (λ (xs : List ℕ). IsIncoming xs v (drop 64 text)) (sym this) (kept_is_open text v is))
      newer
  plain_kept newer fs plain empty c (inr ignored, same) =
      let log : c.log ≡ [] = ap (λ (f : Files). f.log) same ∙ empty.0 in
      let database : c.database ≡ fs.database = ap (λ (f : Files). f.database) same in
      discarded_is_plain c ignored (short_log_is_discarded c.log (omega (arith, ap length log)))
      (λ first. database ∙ first_over fs plain empty (sym (ap version_of_database database) ∙ first))

  -- the runs that these calls make
  module _ {D : Type 0} (g : Ghosts D) (old : D) where
    -- where the disk tells its files, a run leaves what the open incoming file stands for
    abbrev pub Takes : D → Type 0
    Takes new = IfSome (g.files old) (λ _. LeavesOnly g.steps g.left_since old new (MayTake text v))

    takes_stands : (new : D) → Takes new
        → IfSome (g.files old) (λ _. LeavesOnly g.steps g.left_since old new (λ c. StandsFor c v (drop 64 text)))
    takes_stands new run =
        told (g.files old) (λ _. LeavesOnly g.steps g.left_since old new (λ c. StandsFor c v (drop 64 text))) (λ fs there.
        widened g.steps g.left_since old new (MayTake text v) (λ c. StandsFor c v (drop 64 text)) stands_taken
        (of_some (g.files old) fs (LeavesOnly g.steps g.left_since old new (MayTake text v)) there run))

    takes_plain : (new : D) → version_lt zero_version v ≡ true → Takes new
        → IfSome (g.files old) (λ _. LeavesOnly g.steps g.left_since old new IsPlain)
    takes_plain new newer run = told (g.files old) (λ _. LeavesOnly g.steps g.left_since old new IsPlain) (λ fs there.
        widened g.steps g.left_since old new (MayTake text v) IsPlain (plain_taken newer)
        (of_some (g.files old) fs (LeavesOnly g.steps g.left_since old new (MayTake text v)) there run))

    pub stands_throughout : {n : ℕ} {new : D} {F : Type 0} → Takes new → CallsAtMost g n old new F → StandsThroughout g text v n old new F
    stands_throughout {n} {new} run calls =
        record { moments = takes_stands new run; plain = λ newer. takes_plain new newer run; calls = calls }

    pub takes_synced : (mid new : D) {F : Type 0} → Takes mid → Syncs g Database mid new F → Takes new
    takes_synced mid new run sync = told (g.files old) (λ _. LeavesOnly g.steps g.left_since old new (MayTake text v)) (λ fs there.
        let first = of_some (g.files old) fs (LeavesOnly g.steps g.left_since old mid (MayTake text v)) there run in
        let here = narrowed g first in
        joined g.steps g.left_since old mid new (MayTake text v) first
        (called g.steps g.left_since mid new (MayTake text v) (g.may_leave mid) (g.may_leave new) sync.change.steps sync.change.time
        (g.only_now mid)
        here (λ c left. here c (sync.crash c left))))

    module _ (opens : IfSome (g.files old) (λ fs. IsIncoming fs.incoming v (drop 64 text)))
        (settled : IsSettled (g.files old) (g.may_leave old)) where
      module _ (fits : IfSome (g.files old) (λ fs. length fs.database ≤ MAX_DATABASE_LEN)) where
        pub takes_emptied : (new : D) → LeavesOnly g.steps g.left_since old new (After (InFile Log (CutShort 0)) (g.may_leave old))
            → Takes new
        takes_emptied new run = told (g.files old) (λ _. LeavesOnly g.steps g.left_since old new (MayTake text v)) (λ fs there.
            widened g.steps g.left_since old new (After (InFile Log (CutShort 0)) (g.may_leave old)) (MayTake text v)
            (while_emptied fs (g.may_leave old) (settled_at (g.files old) fs (g.may_leave old) there settled)
            (of_told (g.files old) fs (λ fs. IsIncoming fs.incoming v (drop 64 text)) there opens)
            (of_told (g.files old) fs (λ fs. length fs.database ≤ MAX_DATABASE_LEN) there fits)) run)

        pub takes_replaced : (new : D)
            → LeavesOnly g.steps g.left_since old new (After (InFile Database (IsNoLonger (length text))) (g.may_leave old)) → Takes new
        takes_replaced new run = told (g.files old) (λ _. LeavesOnly g.steps g.left_since old new (MayTake text v)) (λ fs there.
            widened g.steps g.left_since old new (After (InFile Database (IsNoLonger (length text))) (g.may_leave old)) (MayTake text v)
            (while_replaced fs (g.may_leave old) (settled_at (g.files old) fs (g.may_leave old) there settled)
            (of_told (g.files old) fs (λ fs. IsIncoming fs.incoming v (drop 64 text)) there opens)
            (of_told (g.files old) fs (λ fs. length fs.database ≤ MAX_DATABASE_LEN) there fits)) run)

      pub takes_ended : (mid new : D) → IfSome (g.files old) (λ fs. fs.log ≡ []) → Takes mid
          → g.files mid ≡ option_map (λ fs. with_file fs Database text) (g.files old)
          → IfSome (g.files mid) (λ f. LeavesOnly g.steps g.left_since mid new (HasThisOrIgnored f.incoming f)) → Takes new
      takes_ended mid new none run replaced ends =
          told (g.files old) (λ _. LeavesOnly g.steps g.left_since old new (MayTake text v)) (λ fs there.
          joined g.steps g.left_since old mid new (MayTake text v)
          (of_some (g.files old) fs (LeavesOnly g.steps g.left_since old mid (MayTake text v)) there run)
          (widened g.steps g.left_since mid new (HasThisOrIgnored fs.incoming (with_file fs Database text)) (MayTake text v)
          (while_ended fs (of_told (g.files old) fs (λ fs. IsIncoming fs.incoming v (drop 64 text)) there opens)
          (of_told (g.files old) fs (λ fs. fs.log ≡ []) there none))
          (of_told (g.files mid) (with_file fs Database text) (λ f. LeavesOnly g.steps g.left_since mid new (HasThisOrIgnored f.incoming f))
          (replaced ∙ ap (option_map (λ fs. with_file fs Database text)) there) ends)))

    -- while the text is kept
    module _ (mid : D) (empty : IfSome (g.files old) AreEmpty)
        (run : IfSome (g.files old) (λ fs. LeavesOnly g.steps g.left_since old mid (HasThisOrIgnored (opened text) fs))) where
      pub keeps_stands : IfSome (g.files old) (λ fs. length fs.database ≤ MAX_DATABASE_LEN) → (fs : Files) → g.files old ≡ Some fs
          → (own : Version) → version_of_database fs.database ≡ Some own
          → LeavesOnly g.steps g.left_since old mid (StandsForEither own (image_of fs.database) v (drop 64 text))
      keeps_stands fits fs there own labelled =
          widened g.steps g.left_since old mid (HasThisOrIgnored (opened text) fs)
          (StandsForEither own (image_of fs.database) v (drop 64 text))
          (stands_kept fs own (of_told (g.files old) fs AreEmpty there empty) labelled
          (of_told (g.files old) fs (λ fs. length fs.database ≤ MAX_DATABASE_LEN) there fits))
          (of_told (g.files old) fs (λ fs. LeavesOnly g.steps g.left_since old mid (HasThisOrIgnored (opened text) fs)) there run)

      pub keeps_plain : version_lt zero_version v ≡ true → (fs : Files) → g.files old ≡ Some fs → IsPlain fs
          → LeavesOnly g.steps g.left_since old mid IsPlain
      keeps_plain newer fs there plain =
          widened g.steps g.left_since old mid (HasThisOrIgnored (opened text) fs) IsPlain
          (plain_kept newer fs plain (of_told (g.files old) fs AreEmpty there empty))
          (of_told (g.files old) fs (λ fs. LeavesOnly g.steps g.left_since old mid (HasThisOrIgnored (opened text) fs)) there run)

-- ---- the files in between

-- what a crash leaves of a database file that was replaced and synced
pub settled_text : (text : List ℕ) (old mid new : Option Files) (before left now : Files → Type 0) → IsSettled old before
    → mid ≡ option_map (λ fs. with_file fs Database text) old → new ≡ mid → LeavesOthers Database before left
    → LeavesOthers Database left now
    → IfSome mid (λ fs. OnlyIn Database fs.database now) → IsSettled new now
unfolding LeavesOthers
settled_text text None mid new before left now settled is same first second whole =
    let P : Option Files → Type 0 = λ o. IsSettled o now in subst P (sym (same ∙ is)) tt
settled_text text (Some fs) mid new before left now settled is same first second whole =
    let P : Option Files → Type 0 = λ o. IsSettled o now in
    let file : OnlyIn Database text now = of_told mid (with_file fs Database text) (λ fs. OnlyIn Database fs.database now) is whole in
    subst P (sym (same ∙ is)) (λ c here.
    let d = second.no_more c here in
    let e = first.no_more d.0 d.1 in
    d.2 ∙ ap (λ (f : Files). with_file f Database c.database)
    (e.2 ∙ ap (λ (f : Files). with_file f Database d.0.database) (settled e.0 e.1))
    ∙ ap (λ (xs : List ℕ). with_file fs Database xs) (file c here))

-- the gate stands open still
pub gate_there : (text : List ℕ) (v : Version) (image : List ℕ) (old new : Option Files)
    → new ≡ option_map (λ fs. with_file fs Database text) old
    → IfSome old (λ fs. IsIncoming fs.incoming v image) → IfSome new (λ fs. IsGateOpen fs.incoming)
gate_there text v image None new is opens =
    let P : Option Files → Type 0 = λ o. IfSome o (λ fs. IsGateOpen fs.incoming) in subst P (sym is) tt
gate_there text v image (Some fs) new is opens =
    let P : Option Files → Type 0 = λ o. IfSome o (λ fs. IsGateOpen fs.incoming) in subst P (sym is) (gate_open fs.incoming v image opens)

-- the files in the end
pub files_taken : (text : List ℕ) (old mid new : Option Files) → IfSome old (λ fs. fs.log ≡ [])
    → mid ≡ option_map (λ fs. with_file fs Database text) old
    → new ≡ option_map (with_incoming []) mid → new ≡ option_map (λ _. three_files text [] []) old
files_taken text None mid new none is ends = ends ∙ ap (option_map (with_incoming [])) is
files_taken text (Some fs) mid new none is ends =
    ends ∙ ap (option_map (with_incoming [])) is ∙ ap (λ (xs : List ℕ). Some (three_files text xs [])) none

-- the text is there with an open gate
pub kept_there : (text : List ℕ) (v : Version) → IsText text v → (old new : Option Files)
    → new ≡ option_map (with_incoming (opened text)) old
    → IfSome new (λ fs. IsIncoming fs.incoming v (drop 64 text))
kept_there text v is None new there =
    let P : Option Files → Type 0 = λ o. IfSome o (λ fs. IsIncoming fs.incoming v (drop 64 text)) in subst P (sym there) tt
kept_there text v is (Some fs) new there =
    let P : Option Files → Type 0 = λ o. IfSome o (λ fs. IsIncoming fs.incoming v (drop 64 text)) in
    subst P (sym there) (kept_is_open text v is)

-- where the files in the end do not depend on those before
files_from : (step : Files → Files) (last : Files) (old mid new : Option Files) → mid ≡ option_map step old
    → new ≡ option_map (λ _. last) mid → new ≡ option_map (λ _. last) old
files_from step last None mid new is ends = ends ∙ ap (option_map (λ _. last)) is
files_from step last (Some fs) mid new is ends = ends ∙ ap (option_map (λ _. last)) is

-- ---- one run after another

module _ {D : Type 0} (g : Ghosts D) (step : Files → Files) (old mid new : D) (there : g.files mid ≡ option_map step (g.files old)) where
  -- the second one is told of the files that the first one left
  pub run_after : (P Q : Files → Type 0) → ((c : Files) → Q c → P c) → (fs : Files) → g.files old ≡ Some fs
      → LeavesOnly g.steps g.left_since old mid P → IfSome (g.files mid) (λ _. LeavesOnly g.steps g.left_since mid new Q)
      → LeavesOnly g.steps g.left_since old new P
  run_after P Q wider fs is first second =
      joined g.steps g.left_since old mid new P first
      (widened g.steps g.left_since mid new Q P wider
      (of_some (g.files mid) (step fs) (LeavesOnly g.steps g.left_since mid new Q) (there ∙ ap (option_map step) is) second))

  pub runs_after : (P : Files → Type 0) → IfSome (g.files old) (λ _. LeavesOnly g.steps g.left_since old mid P)
      → IfSome (g.files mid) (λ _. LeavesOnly g.steps g.left_since mid new P)
      → IfSome (g.files old) (λ _. LeavesOnly g.steps g.left_since old new P)
  runs_after P first second = told (g.files old) (λ _. LeavesOnly g.steps g.left_since old new P) (λ fs is.
      run_after P P (λ c so. so) fs is (of_some (g.files old) fs (LeavesOnly g.steps g.left_since old mid P) is first) second)

  -- a text took its place, behind so many calls
  pub place_after : (m : ℕ) {n : ℕ} {text : List ℕ} {v : Version} {after : Known} → g.steps mid ≡ g.steps old + m
      → TakesPlace g text v n mid new after
      → TakesPlace g text v (m + n) old new after
  place_after m {n} {text} steps place = record {
    files = files_from step (three_files text [] []) (g.files old) (g.files mid) (g.files new) there place.files;
    settled = place.settled;
    steps = omega (arith, steps, place.steps);
    label = place.label;
    len = place.len;
    agrees = place.agrees;
  }

  pub throughout_after : {m n : ℕ} {text : List ℕ} {v : Version} {F G : Type 0} → ¬ F → StandsThroughout g text v m old mid F
      → StandsThroughout g text v n mid new G → StandsThroughout g text v (m + n) old new G
  throughout_after {m} {n} {text} {v} went first second = record {
    moments = runs_after (λ c. StandsFor c v (drop 64 text)) first.moments second.moments;
    plain = λ newer. runs_after IsPlain (first.plain newer) (second.plain newer);
    calls = calls_joined first.calls went second.calls;
  }

-- ---- an install

-- the label of a version and an image behind it
pub text_of : (image : List ℕ) (v : Version) → IsVersion v → length image ≤ 16777216 → IsText (label v ++ image) v
text_of image v is fits =
    let long : length (label v ++ image) ≡ 64 + length image = length-append (label v) image in
    record { is_version = is; labelled = take_at (label v) image 64 refl; long = omega (arith, long); fits = omega (arith, long, fits) }

pub image_behind : (image : List ℕ) (v : Version) → drop 64 (label v ++ image) ≡ image
image_behind image v = drop_at (label v) image 64 refl

rests_installed : (image : List ℕ) (v : Version) → IsVersion v → length image ≤ 16777216 → (new : Option Files)
    → new ≡ Some (three_files (label v ++ image) [] []) → RestsAs v image new
rests_installed image v is fits new there = (
  three_files (label v ++ image) [] [],
  there,
  record {
    incoming = refl;
    log = refl;
    label = version_of_text (label v ++ image) v (text_of image v is fits);
    content = image_behind image v;
  },
)

-- so where the text took its place
pub installed : {D : Type 0} (g : Ghosts D) (image : List ℕ) (v : Version) → IsVersion v → length image ≤ 16777216
    → {old new : D} {before after : Known}
    → TakesPlace g (label v ++ image) v 15 old new after → CanRelabel g new → RewritesFiles g (Replaced image) v old new before after
installed {D} g image v is fits {old} {new} place room = record {
  files = place.files;
  rests = told (g.files old) (λ _. RestsAs v image (g.files new)) (λ fs there.
      rests_installed image v is fits (g.files new) (place.files ∙ ap (option_map (λ _. three_files (label v ++ image) [] [])) there));
  settled = place.settled;
  steps = told (g.files old) (λ _. g.steps new ≡ g.steps old + 15) (λ fs there. place.steps);
  label = place.label;
  len = omega (arith, place.len, length-append (label v) image);
  agrees = place.agrees;
  room = room;
}
