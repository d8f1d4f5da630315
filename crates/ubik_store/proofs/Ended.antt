-- How a durable call of a store ends, by how the call over its files did.
use Rattle.std.proofs.Common.{◌≡◌, ◌≤◌, ◌⊎◌, length, ⊎_elim, ℕ, ◌-◌, ◌^◌, min, true, false, List, Option, Some, None, IfSome, refl, sym, ap, subst, ◌∙◌, arith}
use Rattle.std.proofs.lemmas.Bool.{false≢true}
use Rattle.std.specs.Prelude.{Result, Ok, Err, OnOk, IfErr, IsErrOf, MatchResult}
use Rattle.std.specs.Result.{IsErrAnd}
use Rattle.std.specs.Option.{option_map}
use Rattle.ubik_types.specs.declared.images.Change.{Change}
use Rattle.ubik_types.specs.declared.limits.TheConstants.{MAX_IMAGE}
use Rattle.ubik_types.specs.declared.versions.Version.{Version}
use Rattle.ubik_types.specs.Version.{IsVersion, version_lt}
use Rattle.disk_base.specs.declared.disks.Disk.{Ghosts}
use Rattle.disk_base.specs.Crash.{LeavesOnly}
use Rattle.disk_base.specs.Files.{Files}
use Rattle.disk_base.specs.Runs.{OnlyReserves}
use Rattle.disk_base.specs.Stops.{IsStopped}
use Rattle.disk_base.proofs.Runs.{reads_nothing, reserve_reads}
use Rattle.page_file.specs.Label.{version_of_database}
use Rattle.page_file.specs.Pages.{Known, AgreesIn, image_of}
use Rattle.ubik_store.specs.declared.faults.StoreFault.{StoreFault}
use Rattle.ubik_store.specs.declared.faults.StoreFault.TheVariants.{DiskFault, BadLabel, TooLarge, NotNewer, NoMemory}
use Rattle.ubik_store.specs.declared.stores.Store.{Store}
use Rattle.ubik_store.specs.Commit.{RewritesFiles, IsDurableOver}
use Rattle.ubik_store.specs.DurableCall.{EndsAs, IsDurableIn, Refuses, Rewrites}
use Rattle.ubik_store.specs.Files.{StandsForEither}
use Rattle.ubik_store.specs.Gaps.{IsPlain}
use Rattle.ubik_store.specs.Measures.{AreTooLarge}
use Rattle.ubik_store.specs.Rest.{HasNoLog, IsAtRest, RestsAs}
use Rattle.ubik_store.specs.Rewrite.{Rewrite, rewritten, len_rewritten, files_rewritten}
use Rattle.ubik_store.specs.Rewrite.Rewrite.{Replaced}
use Rattle.ubik_store.specs.Store.{IsReady, IsSound, IsForbidden, IsImageForbidden, IsTooLong, image_in, taken_over}
use Rattle.ubik_store.proofs.Applied.{no_calls, calls_as}
use Rattle.ubik_store.proofs.Committing.{settled_at, settled_narrow, stands_at_rest, unmoved}
use Rattle.ubik_store.proofs.Durable.{FewRewritten, KeepsPlain}
use Rattle.ubik_store.proofs.Rests.{AllAtRest, rests_here}
use Rattle.ubik_store.proofs.Telling.{told, of_told}
use Rattle.ubik_store.proofs.Unlogged.{no_log_here}
use Rattle.ubik_store.proofs.Versions.{after_first}

-- what is said of the files under the version of their label, is said under the version of files at rest
labelled : (files : Option Files) (own : Version) (P : Version → Files → Type 0) → AllAtRest own files
    → IfSome files (λ fs. (w : Version) → version_of_database fs.database ≡ Some w → P w fs) → IfSome files (P own)
labelled None own P rests says = tt
labelled (Some fs) own P rests says = says own rests.label

module _ (v : Version) (rewrite : Rewrite) (change : Files → Files) where
  rests_after : (old new : Option Files) → new ≡ option_map change old
      → IfSome old (λ fs. RestsAs v (rewritten rewrite (image_of fs.database)) new) → AllAtRest v new
  rests_after None new is rests = subst (AllAtRest v) (sym is) tt
  rests_after (Some fs) new is rests = rests_here new v (rewritten rewrite (image_of fs.database)) rests

module _ {D : Type 0} (g : Ghosts D) where
  -- where no call was made, a crash finds what stood there
  pub durable_itself : (rewrite : Rewrite) (v : Version) (s : Store D) (F : Type 0) → IsReady g s → ¬ F → IsDurableIn g rewrite v s s F
  durable_itself rewrite v s F ready not = record {
    moments = told (g.files s.disk) _ (λ fs is.
        let rest = of_told (g.files s.disk) fs (λ fs. IsAtRest s.version (image_of fs.database) fs) is ready.rests in
        let only = settled_at (g.files s.disk) fs (g.may_leave s.disk) is ready.settled in
        unmoved g s.disk (StandsForEither s.version (image_of fs.database) v (rewritten rewrite (image_of fs.database)))
        (stands_at_rest fs s.version v (rewritten rewrite (image_of fs.database)) (g.may_leave s.disk)
        (rest.log, rest.incoming) rest.label only));
    plain = λ cuts. told (g.files s.disk) (KeepsPlain g s.disk s.disk) (λ fs is plain.
        let only = settled_at (g.files s.disk) fs (g.may_leave s.disk) is ready.settled in
        unmoved g s.disk IsPlain (λ c here. subst IsPlain (sym (only c here)) plain));
    log = λ _. told (g.files s.disk) (λ _. LeavesOnly g.steps g.left_since s.disk s.disk HasNoLog) (λ fs is.
        let rest = of_told (g.files s.disk) fs (λ fs. IsAtRest s.version (image_of fs.database) fs) is ready.rests in
        unmoved g s.disk HasNoLog
        (no_log_here fs (g.may_leave s.disk) (settled_at (g.files s.disk) fs (g.may_leave s.disk) is ready.settled) rest.log));
    few = told (g.files s.disk) (FewRewritten g s.disk s.disk rewrite) (λ fs is. (omega arith, omega arith));
    calls = calls_as (omega arith) (λ failed. failed) (λ failed. failed) (no_calls s.disk F not);
  }

-- what a durable call over the files of a store tells of its end
pub record EndsFiles {D : Type 0} (g : Ghosts D) (rewrite : Rewrite) (v : Version) (s : Store D) (disk : D) (pages : Known)
    (r : Result (Unit {0}) StoreFault) : Type 0 where
  pub done : OnOk r (RewritesFiles g rewrite v s.disk disk s.pages pages)
  pub durable : IsDurableOver g rewrite v s.disk disk (IsErrOf r DiskFault)
  pub fault : IfErr r (λ f. (f ≡ DiskFault) ⊎ (f ≡ NoMemory))
  pub unchanged : IsErrOf r NoMemory → OnlyReserves g s.disk disk × (pages ≡ s.pages)

module _ {D : Type 0} (g : Ghosts D) (rewrite : Rewrite) (v : Version) (s : Store D) (disk : D) (pages : Known) where
  sound_done : IsSound g s → s.failed ≡ false → IsVersion v → len_rewritten rewrite s.len ≤ MAX_IMAGE
      → RewritesFiles g rewrite v s.disk disk s.pages pages → ¬ IsStopped (g.stop disk)
      → IsSound g (record s { disk = disk; pages = pages; version = v; len = min pages.len (2 ^ 32 - 1); begun = None })
  sound_done sound went version fits done runs =
      let len : pages.len ≡ len_rewritten rewrite s.len = done.len ∙ ap (len_rewritten rewrite) (sound.ready went).len in
      record {
        version = version;
        len = omega (arith, len, fits);
        ready = λ _. record {
          agrees = done.agrees;
          label = done.label;
          len = omega (arith, len, fits);
          rests = rests_after v rewrite (files_rewritten rewrite v) (g.files s.disk) (g.files disk) done.files done.rests;
          settled = done.settled;
          runs = runs;
        };
        begun = tt;
      }

  sound_as_it_was : IsSound g s → s.failed ≡ false → OnlyReserves g s.disk disk → pages ≡ s.pages
      → IsSound g (record s { disk = disk; pages = pages })
  sound_as_it_was sound went made same =
      let ready = sound.ready went in
      record {
        version = sound.version;
        len = sound.len;
        ready = λ _. record {
          agrees = subst (λ (p : Known). AgreesIn p (g.files disk)) (sym same)
              (subst (λ (fs : Option Files). AgreesIn s.pages fs) (sym made.files) ready.agrees);
          label = ap (λ (p : Known). p.version) same ∙ ready.label;
          len = ap (λ (p : Known). p.len) same ∙ ready.len;
          rests = subst (AllAtRest s.version) (sym made.files) ready.rests;
          settled = settled_narrow (g.files s.disk) (g.files disk) (g.may_leave s.disk)
              (g.may_leave disk) made.files made.crash.no_more ready.settled;
          runs = λ stopped. ready.runs (subst IsStopped made.stop stopped);
        };
        begun = sound.begun;
      }

  sound_failed : IsSound g s → IsSound g (record s { disk = disk; pages = pages; failed = true })
  sound_failed sound = record {
    version = sound.version;
    len = sound.len;
    ready = λ went. absurd (false≢true (sym went));
    begun = sound.begun;
  }

  -- a store stays sound
  sound_ended : (r : Result (Unit {0}) StoreFault) → IsSound g s → s.failed ≡ false → IsVersion v → len_rewritten rewrite s.len ≤ MAX_IMAGE
      → EndsFiles g rewrite v s disk pages r → IsSound g (taken_over v (record s { disk = disk; pages = pages }) r)
  sound_ended (Ok done) sound went version fits is =
      sound_done sound went version fits is.done
      (λ stopped. ⊎_elim (sound.ready went).runs (λ failed. absurd cc) (is.durable.calls.stopped stopped))
  sound_ended (Err DiskFault) sound went version fits is = sound_failed sound
  sound_ended (Err (BadLabel len head)) sound went version fits is = absurd (⊎_elim (λ e. cc) (λ e. cc) is.fault)
  sound_ended (Err (TooLarge bytes)) sound went version fits is = absurd (⊎_elim (λ e. cc) (λ e. cc) is.fault)
  sound_ended (Err (NotNewer own given)) sound went version fits is = absurd (⊎_elim (λ e. cc) (λ e. cc) is.fault)
  sound_ended (Err NoMemory) sound went version fits is = let same = is.unchanged refl in sound_as_it_was sound went same.0 same.1

  -- the call was made of a durable one over the files
  durable_at : (after : Store D) (F : Type 0) → IsReady g s → version_lt s.version v ≡ true
      → IsDurableOver g rewrite v s.disk after.disk F → IsDurableIn g rewrite v s after F
  durable_at after F ready newer durable = record {
    moments = labelled (g.files s.disk) s.version
        (λ w fs. LeavesOnly g.steps g.left_since s.disk after.disk
        (StandsForEither w (image_of fs.database) v (rewritten rewrite (image_of fs.database))))
        ready.rests durable.moments;
    plain = durable.plain (after_first s.version v newer);
    log = durable.log;
    few = durable.few;
    calls = durable.calls;
  }

  durable_ended : (r : Result (Unit {0}) StoreFault) → IsSound g s → s.failed ≡ false → version_lt s.version v ≡ true
      → IsDurableOver g rewrite v s.disk disk (IsErrOf r DiskFault)
      → IsDurableIn g rewrite v s (taken_over v (record s { disk = disk; pages = pages }) r) (IsErrOf r DiskFault)
  durable_ended (Ok done) sound went newer durable = durable_at _ _ (sound.ready went) newer durable
  durable_ended (Err DiskFault) sound went newer durable = durable_at _ _ (sound.ready went) newer durable
  durable_ended (Err (BadLabel len head)) sound went newer durable = durable_at _ _ (sound.ready went) newer durable
  durable_ended (Err (TooLarge bytes)) sound went newer durable = durable_at _ _ (sound.ready went) newer durable
  durable_ended (Err (NotNewer own given)) sound went newer durable = durable_at _ _ (sound.ready went) newer durable
  durable_ended (Err NoMemory) sound went newer durable = durable_at _ _ (sound.ready went) newer durable

  pub sound_taken : (r : Result (Unit {0}) StoreFault) (after : Store D) → after ≡ taken_over v (record s { disk = disk; pages = pages }) r
      → IsSound g s → s.failed ≡ false → IsVersion v → len_rewritten rewrite s.len ≤ MAX_IMAGE → EndsFiles g rewrite v s disk pages r
      → IsSound g after
  sound_taken r after is sound went version fits ends =
      subst (λ (x : Store D). IsSound g x) (sym is) (sound_ended r sound went version fits ends)

  pub durable_taken : (r said : Result (Unit {0}) StoreFault) (after : Store D)
      → after ≡ taken_over v (record s { disk = disk; pages = pages }) r → said ≡ r
      → IsSound g s → s.failed ≡ false → version_lt s.version v ≡ true → IsDurableOver g rewrite v s.disk disk (IsErrOf r DiskFault)
      → IsDurableIn g rewrite v s after (IsErrOf said DiskFault)
  durable_taken r said after is same sound went newer durable =
      let P : Store D → Type 0 = λ x. IsDurableIn g rewrite v s x (IsErrOf said DiskFault) in
      let Q : Result (Unit {0}) StoreFault
      → Type 0 = λ x. IsDurableIn g rewrite v s (taken_over v (record s { disk = disk; pages = pages }) r) (IsErrOf x DiskFault) in
      subst P (sym is) (subst Q (sym same) (durable_ended r sound went newer durable))

-- the image, by the files in the end
image_after : (rewrite : Rewrite) (v : Version) (old new : Option Files) → new ≡ option_map (files_rewritten rewrite v) old
    → IfSome old (λ fs. RestsAs v (rewritten rewrite (image_of fs.database)) new)
    → image_in new ≡ option_map (rewritten rewrite) (image_in old)
image_after rewrite v None new is rests = ap image_in is
image_after rewrite v (Some fs) new is rests = ap image_in rests.1 ∙ ap (λ (xs : List ℕ). Some xs) rests.2.content

module _ {D : Type 0} (g : Ghosts D) (rewrite : Rewrite) (v : Version) (s : Store D) (disk : D) (pages : Known)
    (sound : IsSound g s) (went : s.failed ≡ false) (newer : version_lt s.version v ≡ true) (fits : len_rewritten rewrite s.len ≤ MAX_IMAGE)
    (long : ℕ → Type 0) where
  ended_done : RewritesFiles g rewrite v s.disk disk s.pages pages
      → Rewrites g rewrite v s (record s { disk = disk; pages = pages; version = v; len = min pages.len (2 ^ 32 - 1); begun = None })
  ended_done done =
      let len : pages.len ≡ len_rewritten rewrite s.len = done.len ∙ ap (len_rewritten rewrite) (sound.ready went).len in
      record {
        newer = newer;
        version = refl;
        len = omega (arith, len, fits);
        image = image_after rewrite v (g.files s.disk) (g.files disk) done.files done.rests;
        begun = refl;
        failed = went;
        steps = done.steps;
        room = done.room;
      }

  ended_by : (r : Result (Unit {0}) StoreFault) → EndsFiles g rewrite v s disk pages r
      → MatchResult r (λ _. Rewrites g rewrite v s (taken_over v (record s { disk = disk; pages = pages }) r))
      (EndsAs g long v s (taken_over v (record s { disk = disk; pages = pages }) r))
  ended_by (Ok done) is = ended_done is.done
  ended_by (Err DiskFault) is = record { version = refl; len = refl; failed = refl }
  ended_by (Err (BadLabel len head)) is = absurd (⊎_elim (λ e. cc) (λ e. cc) is.fault)
  ended_by (Err (TooLarge bytes)) is = absurd (⊎_elim (λ e. cc) (λ e. cc) is.fault)
  ended_by (Err (NotNewer own given)) is = absurd (⊎_elim (λ e. cc) (λ e. cc) is.fault)
  ended_by (Err NoMemory) is = (
    newer,
    record {
      store = record { version = refl; len = refl; begun = refl; failed = refl };
      disk = reserve_reads (is.unchanged refl).0;
    },
  )

  pub ended_taken : (r said : Result (Unit {0}) StoreFault) (after : Store D)
      → after ≡ taken_over v (record s { disk = disk; pages = pages }) r
      → said ≡ r → EndsFiles g rewrite v s disk pages r → MatchResult said (λ _. Rewrites g rewrite v s after) (EndsAs g long v s after)
  ended_taken r said after is same ends =
      let P : Store D → Type 0 = λ x. MatchResult said (λ _. Rewrites g rewrite v s x) (EndsAs g long v s x) in
      let last : Store D = taken_over v (record s { disk = disk; pages = pages }) r in
      let Q : Result (Unit {0}) StoreFault → Type 0 = λ x. MatchResult x (λ _. Rewrites g rewrite v s last) (EndsAs g long v s last) in
      subst P (sym is) (subst Q (sym same) (ended_by r ends))

-- what is too large is no fault of the disk
pub not_too_large : (sum len : ℕ) (changes : List Change) (fault : StoreFault) → AreTooLarge sum len changes fault → ¬ (fault ≡ DiskFault)
not_too_large sum len changes DiskFault large is = large
not_too_large sum len changes (BadLabel bytes head) large is = large
not_too_large sum len changes (TooLarge bytes) large is = absurd cc
not_too_large sum len changes (NotNewer own given) large is = large
not_too_large sum len changes NoMemory large is = large

-- where a version is not newer, the disk is not at fault
pub not_forbidden : {D : Type 0} (s : Store D) (v : Version) (fault : StoreFault) → s.failed ≡ false → IsForbidden s v fault
    → ¬ (fault ≡ DiskFault)
not_forbidden s v DiskFault went forbidden is = false≢true (sym went ∙ forbidden)
not_forbidden s v (BadLabel len head) went forbidden is = forbidden
not_forbidden s v (TooLarge bytes) went forbidden is = forbidden
not_forbidden s v (NotNewer own given) went forbidden is = absurd cc
not_forbidden s v NoMemory went forbidden is = forbidden

module _ {D : Type 0} (g : Ghosts D) (image : List ℕ) (v : Version) (s : Store D) where
  refuses_itself : Refuses g s s
  refuses_itself = record { store = record { version = refl; len = refl; begun = refl; failed = refl }; disk = reads_nothing s.disk }

  forbidden_ends : (fault : StoreFault) → IsImageForbidden s (length image) v fault → EndsAs g (IsTooLong image) v s s fault
  forbidden_ends DiskFault is = record { version = refl; len = refl; failed = is }
  forbidden_ends (BadLabel len head) is = absurd is
  forbidden_ends (TooLarge bytes) is = (is, refuses_itself)
  forbidden_ends (NotNewer own given) is = (record { own_is = is.0; given_is = is.1; not_newer = is.2 }, refuses_itself)
  forbidden_ends NoMemory is = absurd is

  -- an image that is refused at once is not installed
  pub image_refused : (r : Result (Unit {0}) StoreFault) (fault : StoreFault) → IsErrAnd r (λ x. x ≡ fault) → IsImageForbidden s (length image) v fault
      → MatchResult r (λ _. Rewrites g (Replaced image) v s s) (EndsAs g (IsTooLong image) v s s)
  image_refused (Ok done) fault is forbidden = absurd is
  image_refused (Err x) fault is forbidden = forbidden_ends x (subst (IsImageForbidden s (length image) v) (sym is) forbidden)

  -- so the disk of a store that had not failed is not at fault
  pub image_not_at_disk : (fault : StoreFault) → s.failed ≡ false → IsImageForbidden s (length image) v fault → ¬ (fault ≡ DiskFault)
  image_not_at_disk DiskFault went forbidden is = false≢true (sym went ∙ forbidden)
  image_not_at_disk (BadLabel len head) went forbidden is = forbidden
  image_not_at_disk (TooLarge bytes) went forbidden is = absurd cc
  image_not_at_disk (NotNewer own given) went forbidden is = absurd cc
  image_not_at_disk NoMemory went forbidden is = forbidden

  -- the image that is there after an install
  pub image_there : (after : Store D) (r : Result (Unit {0}) StoreFault) (Q : StoreFault → Type 0)
      → MatchResult r (λ _. Rewrites g (Replaced image) v s after) Q → OnOk r (IfSome (g.files s.disk) (λ _. image_in (g.files after.disk) ≡ Some image))
  image_there after (Ok done) Q ends = by (g.files s.disk) ends.image
    where
      by : (files : Option Files) → image_in (g.files after.disk) ≡ option_map (λ _. image) (image_in files) → IfSome files (λ _. image_in (g.files after.disk) ≡ Some image)
      by None is = tt
      by (Some fs) is = is
  image_there after (Err e) Q ends = tt

-- what is so where a call is done, and does not hang on how it ended
pub on_ok : {A E P : Type 0} (r : Result A E) → P → OnOk r P
on_ok (Ok x) so = so
on_ok (Err e) so = tt

-- a fault that is handed on
pub handed_on : {A B E : Type 0} (r : Result A E) (e f : E) → IsErrAnd r (λ x. x ≡ e) → ◌≡◌ {A = Result B E} (Err e) (Err f) → IsErrOf r f
handed_on {A} {B} {E} (Ok x) e f is same = absurd is
handed_on {A} {B} {E} (Err x) e f is same = ap Err (is ∙ err_is e f same)
  where
    err_is : (e f : E) → ◌≡◌ {A = Result B E} (Err e) (Err f) → e ≡ f
    err_is e f same = cc

-- what is so of all changes is so of those that were begun
pub of_all : (begun : Option (List Change)) (P : List Change → Type 0) → ((changes : List Change) → P changes) → IfSome begun P
of_all None P all = tt
of_all (Some changes) P all = all changes
