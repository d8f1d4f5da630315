-- What a crash leaves of a step, and how many calls its disk gets, by the durable call of its store.
use Rattle.std.proofs.Common.{◌≡◌, ◌≤◌, ◌⊎◌, ⊎_elim, inl, inr, ℕ, zero, suc, ◌+◌, Bool, List, [], ◌∷◌, length}
use Rattle.std.proofs.Common.{take, Option, Some, None, IfSome, refl, sym, ap, subst, ◌∙◌, arith}
use Rattle.std.proofs.lemmas.Bool.Decides.{nat_tests}
use Rattle.std.proofs.lemmas.Option.{IfSome_then}
use Rattle.std.proofs.Math.Seq.{take-nil}
use Rattle.std.specs.Option.{option_map}
use Rattle.ubik_types.specs.declared.versions.Version.{Version}
use Rattle.disk_base.specs.declared.disks.Disk.{Ghosts}
use Rattle.disk_base.specs.Crash.{LeavesOnly}
use Rattle.disk_base.specs.Files.{Files}
use Rattle.disk_base.specs.Stops.{IsStopped, after_changes}
use Rattle.disk_base.specs.Runs.{OnlyReads}
use Rattle.disk_base.proofs.Runs.{widened, rested}
use Rattle.page_file.specs.Pages.{image_of}
use Rattle.ubik_store.specs.declared.stores.Store.{Store}
use Rattle.ubik_store.specs.DurableCall.{IsDurableIn}
use Rattle.ubik_store.specs.Files.{StandsFor, StandsForEither}
use Rattle.ubik_store.specs.Gaps.{IsPlain}
use Rattle.ubik_store.specs.Rewrite.{Rewrite, rewritten, rewrite_calls, KeepsPuts}
use Rattle.ubik_store.specs.Rewrite.Rewrite.{Changed, Replaced}
use Rattle.ubik_store.specs.Store.{IsReady, image_in}
use Rattle.ubik_store.proofs.Rests.{at_rest_stands}
use Rattle.ubik_store.proofs.Telling.{told, of_told}
use Rattle.cell_model.specs.Durable.{Durable, Made, disk_calls, durable, durable_after, durable_after_all, label_calls}
use Rattle.server_rules.proofs.Fetches.{take_zero}
use Rattle.ubik_node.specs.Disk.{FailsIn, StandsAs, StandsWithin, LeavesWithin, Serves, TakenCutsNoPut, has_label, calls_made}

-- the image that stands there is the one that is known
abbrev pub IsThere : List ℕ → Option (List ℕ) → Type 0
IsThere image there = IfSome there (λ bytes. bytes ≡ image)

image_there : (files : Option Files) (fs : Files) (image : List ℕ) → files ≡ Some fs → IsThere image (image_in files) → image_of fs.database ≡ image
image_there files fs image is there = subst (λ (o : Option Files). IsThere image (image_in o)) is there

-- and so it is after changes of it
pub image_then : (change : List ℕ → List ℕ) (before after : Option (List ℕ)) (old new : List ℕ) → after ≡ option_map change before → IsThere old before → change old ≡ new → IsThere new after
image_then change None after old new is there leads = let P : Option (List ℕ) → Type 0 = IsThere new in subst P (sym is) tt
image_then change (Some bytes) after old new is there leads = let P : Option (List ℕ) → Type 0 = IsThere new in subst P (sym is) (ap change there ∙ leads)

stands_one : (d after : Durable) (made : Made) (own v : Version) (here image : List ℕ) → own ≡ d.version → here ≡ d.image → durable v image ≡ after → durable_after d made.call ≡ after
    → (c : Files) → StandsForEither own here v image c → StandsWithin d (made ∷ []) c
stands_one d after made own v here image version same then leads c stands =
    ⊎_elim (λ before. (0, omega arith, subst (λ (w : Version). StandsFor c w d.image) version (subst (λ (xs : List ℕ). StandsFor c own xs) same before)))
    (λ changed. (1, omega arith, subst (λ (e : Durable). StandsFor c e.version e.image) (then ∙ sym leads) changed)) stands

-- none or one of one call is made
pub none_or_one : (P : ℕ → Type 0) (n : ℕ) → n ≤ 1 → P n → P 0 ⊎ P 1
none_or_one P zero few is = inl is
none_or_one P (suc zero) few is = inr is
none_or_one P (suc (suc n)) few is = absurd (omega (arith, few))

-- the calls of a rewrite, by whether the database file has a label
abbrev pub calls_by : Rewrite → Bool → ℕ
calls_by (Changed changes) labelled = 13 + length changes + label_calls labelled
calls_by (Replaced image) labelled = 15

-- a durable call makes as many
abbrev pub CallsAs : Made → Rewrite → Type 0
CallsAs made rewrite = (labelled : Bool) → disk_calls labelled made.call ≡ calls_by rewrite labelled

rewrite_calls_by : (rewrite : Rewrite) (file : List ℕ) → rewrite_calls rewrite file ≡ calls_by rewrite (has_label file)
rewrite_calls_by (Changed changes) file = grind (arith, nat_tests)
rewrite_calls_by (Replaced image) file = refl

pub calls_one : (file : List ℕ) (made : Made) (rewrite : Rewrite) → CallsAs made rewrite → rewrite_calls rewrite file ≡ calls_made (has_label file) (made ∷ [])
calls_one file made rewrite count =
    let as_by = rewrite_calls_by rewrite file in
    let as_made = count (has_label file) in
    omega (arith, as_by, as_made)

module _ {D : Type 0} (g : Ghosts D) (old new : Store D) (d : Durable) (rewrite : Rewrite) (v : Version) (image : List ℕ) (made : Made) {F : Type 0} where
  -- one durable call of the store
  pub leaves_one : IsThere d.image (image_in (g.files old.disk)) → old.version ≡ d.version → rewritten rewrite d.image ≡ image → durable_after d made.call ≡ durable v image → (TakenCutsNoPut made.reason made.call → KeepsPuts rewrite)
      → IsDurableIn g rewrite v old new F → LeavesWithin g d old.disk new.disk (made ∷ [])
  leaves_one there version leads after cuts made_so = record {
    moments = told (g.files old.disk) _ (λ fs is.
        let here : image_of fs.database ≡ d.image = image_there (g.files old.disk) fs d.image is there in
        widened g.steps g.left_since old.disk new.disk _ (StandsWithin d (made ∷ []))
        (stands_one d (durable v image) made old.version v (image_of fs.database) (rewritten rewrite (image_of fs.database)) version here
        (ap (durable v) (ap (rewritten rewrite) here ∙ leads)) after) (of_told (g.files old.disk) fs _ is made_so.moments));
    plain = λ taken. made_so.plain (cuts taken.0);
  }

  pub serves_one : IsThere d.image (image_in (g.files old.disk)) → old.version ≡ d.version → rewritten rewrite d.image ≡ image → durable_after d made.call ≡ durable v image → (TakenCutsNoPut made.reason made.call → KeepsPuts rewrite)
      → CallsAs made rewrite → IfSome (g.files old.disk) (λ fs. g.steps new.disk ≡ g.steps old.disk + rewrite_calls rewrite fs.database)
      → IsDurableIn g rewrite v old new F → Serves g d old.disk new.disk (made ∷ [])
  serves_one there version leads after cuts count rose made_so = record {
    leaves = leaves_one there version leads after cuts made_so;
    steps = IfSome_then (g.files old.disk) rose (λ fs steps.
        steps ∙ ap (λ (n : ℕ). g.steps old.disk + n) (calls_one fs.database made rewrite count));
  }

  -- the store failed in it
  pub fails_one : IsReady g old → IsThere d.image (image_in (g.files old.disk)) → old.version ≡ d.version → rewritten rewrite d.image ≡ image → durable_after d made.call ≡ durable v image → (TakenCutsNoPut made.reason made.call → KeepsPuts rewrite)
      → CallsAs made rewrite → IsDurableIn g rewrite v old new F → FailsIn g d old.disk new.disk (made ∷ [])
  fails_one ready there version leads after cuts count made_so =
      let leaves = leaves_one there version leads after cuts made_so in record {
        leaves = leaves;
        whole = 0;
        now = IfSome_then (g.files old.disk) leaves.moments (λ fs run c left.
            let stands = run.each c (g.counts_now new.disk (g.steps old.disk) c run.later left) in
            none_or_one (λ (n : ℕ). StandsAs (durable_after_all d (take n (made ∷ []))) c) stands.0 stands.1 stands.2);
        least = IfSome_then (g.files old.disk) made_so.few (λ fs few. omega (arith, few.0));
        most = IfSome_then (g.files old.disk) made_so.few (λ fs few.
            let one = calls_one fs.database made rewrite count in
            omega (arith, few.1, one));
        running = told (g.files old.disk) _ (λ fs is. ready.runs);
      }

-- no durable call of a store: its disk is only read
pub serves_reads : {D : Type 0} (g : Ghosts D) (s : Store D) (d : Durable) {new : D} {F : Type 0} → IsReady g s
    → IsThere d.image (image_in (g.files s.disk)) → s.version ≡ d.version → OnlyReads g s.disk new F → Serves g d s.disk new []
serves_reads g s d {new} ready there version reads = record {
  leaves = record {
    moments = told (g.files s.disk) _ (λ fs is. rest (StandsWithin d []) fs is (0, omega arith, stands fs is));
    plain = λ _. told (g.files s.disk) _ (λ fs is plain. rest IsPlain fs is plain);
  };
  steps = told (g.files s.disk) _ (λ fs is. omega (arith, reads.steps));
}
  where
    stands : (fs : Files) → g.files s.disk ≡ Some fs → StandsAs d fs
    stands fs is =
        rw (← version, ← image_there (g.files s.disk) fs d.image is there)
        (at_rest_stands fs s.version (image_of fs.database) (of_told (g.files s.disk) fs _ is ready.rests))

    rest : (P : Files → Type 0) (fs : Files) → g.files s.disk ≡ Some fs → P fs → LeavesOnly g.steps g.left_since s.disk new P
    rest P fs is here =
        rested g.steps g.left_since s.disk new P (g.may_leave s.disk) (g.may_leave new) reads.steps reads.crash (g.only_now s.disk)
        (λ c left. subst P (sym (of_told (g.files s.disk) fs _ is ready.settled c left)) here)

none_taken : (n : ℕ) (calls : List Made) → take n [] ≡ take 0 calls
none_taken n calls = take-nil n ∙ sym (take_zero calls)

stands_here : (d : Durable) (c : Files) (n : ℕ) (calls : List Made) → StandsAs (durable_after_all d (take n [])) c
    → StandsAs (durable_after_all d (take 0 calls)) c
stands_here d c n calls stands = subst (λ (made : List Made). StandsAs (durable_after_all d made) c) (none_taken n calls) stands

-- a step whose disk fails before any durable call of it, whichever were to come
pub fails_none : {D : Type 0} (g : Ghosts D) (d : Durable) (old new : D) (calls : List Made) → FailsIn g d old new [] → FailsIn g d old new calls
fails_none g d old new calls fails = record {
  leaves = record {
    moments = IfSome_then (g.files old) fails.leaves.moments (λ fs run.
        widened g.steps g.left_since old new _ (StandsWithin d calls) (λ c stands. (0, omega arith, stands_here d c stands.0 calls stands.2)) run);
    plain = λ _. fails.leaves.plain tt;
  };
  whole = 0;
  now = IfSome_then (g.files old) fails.now (λ fs now c left.
      inl (⊎_elim (stands_here d c fails.whole calls) (stands_here d c (fails.whole + 1) calls) (now c left)));
  least = IfSome_then (g.files old) fails.least (λ fs few.
      omega (arith, few, ap (calls_made (has_label fs.database)) (none_taken fails.whole calls)));
  most = IfSome_then (g.files old) fails.most (λ fs few.
      omega (arith, few, ap (calls_made (has_label fs.database)) (take-nil {A = Made} (fails.whole + 1))));
  running = IfSome_then (g.files old) fails.running (λ fs runs.
      subst (λ (made : List Made). ¬ IsStopped (after_changes (calls_made (has_label fs.database) made) (g.stop old))) (none_taken fails.whole calls) runs);
}

-- so where the disk of a store was only read
pub fails_reads : {D : Type 0} (g : Ghosts D) (s : Store D) (d : Durable) {new : D} {F : Type 0} → IsReady g s → IsThere d.image (image_in (g.files s.disk)) → s.version ≡ d.version → OnlyReads g s.disk new F → (calls : List Made)
    → FailsIn g d s.disk new calls
fails_reads g s d {new} ready there version reads calls =
    let served : Serves g d s.disk new [] = serves_reads g s d ready there version reads in
    fails_none g d s.disk new calls (record {
      leaves = served.leaves;
      whole = 0;
      now = IfSome_then (g.files s.disk) served.leaves.moments (λ fs run c left.
          let stands = run.each c (g.counts_now new (g.steps s.disk) c run.later left) in
          inl (stands_here d c stands.0 [] stands.2));
      least = told (g.files s.disk) _ (λ fs is. omega (arith, reads.steps));
      most = told (g.files s.disk) _ (λ fs is. omega (arith, reads.steps));
      running = told (g.files s.disk) _ (λ fs is. ready.runs);
    })
