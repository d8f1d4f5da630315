-- Two durable calls of a store, one after the other.
use Rattle.std.proofs.Common.{◌≡◌, ◌+◌, ◌≢◌, ◌++◌, ⊎_elim, inl, inr, ℕ, suc, Bool, true, false, List, [], ◌∷◌, length, take, Option, Some, None, IfSome, IsSome, IsErrOf, Ok, Err, refl, sym, ap, subst, ◌∙◌, arith}
use Rattle.std.specs.Prelude.{◌==◌, nat_lt, not}
use Rattle.std.proofs.lemmas.Bool.{false≢true}
use Rattle.std.proofs.lemmas.Bool.Decides.{nat_tests}
use Rattle.std.proofs.lemmas.Option.{IfSome_then}
use Rattle.ubik_types.specs.declared.versions.Version.{Version}
use Rattle.ubik_types.specs.Image.{effect}
use Rattle.ubik_types.specs.Version.{version_lt, zero_version}
use Rattle.disk_base.specs.declared.disks.Disk.{Ghosts}
use Rattle.disk_base.specs.Crash.{RisesAtMost}
use Rattle.disk_base.specs.Files.{Files}
use Rattle.disk_base.specs.Stops.{Advances, DiskStop, IsStopped, after_changes}
use Rattle.disk_base.proofs.Runs.{joined, widened}
use Rattle.disk_base.proofs.Stopping.{after_changes-add}
use Rattle.page_file.specs.declared.label.TheConstants.{LABEL_LEN}
use Rattle.page_file.specs.Label.{version_of_database}
use Rattle.ubik_store.specs.declared.stores.Store.{Store}
use Rattle.ubik_store.specs.declared.faults.StoreFault.{StoreFault}
use Rattle.ubik_store.specs.declared.faults.StoreFault.TheVariants.{DiskFault, BadLabel, TooLarge, NotNewer, NoMemory}
use Rattle.ubik_store.specs.DurableCall.{Commits, EndsAs, IsDurable, IsDurableIn, IsNeverLong, Rewrites}
use Rattle.ubik_store.specs.Rewrite.{Rewrite, rewritten, rewrite_calls, most_calls, KeepsPuts}
use Rattle.ubik_store.specs.Rewrite.Rewrite.{Changed}
use Rattle.ubik_store.specs.Gaps.{IsPlain}
use Rattle.ubik_store.specs.Store.{IsReady, IsSound, image_in}
use Rattle.ubik_store.proofs.Applied.{calls_as, calls_joined}
use Rattle.ubik_store.proofs.Telling.{told, of_told}
use Rattle.cell_model.specs.declared.events.Output.{Output}
use Rattle.cell_model.specs.Durable.{Durable, Made, durable, durable_after, durable_after_all}
use Rattle.cell_model.specs.Node.{Server}
use Rattle.cell_model.specs.Step.{Member, Stepped, outputs_of}
use Rattle.ubik_node.specs.Disk.{FailsIn, LeavesWithin, Serves, StandsAs, StandsBetween, StandsWithin, TakenCutsNoPut, calls_made, has_label}
use Rattle.ubik_node.specs.Node.{Ends, Held, IsKept, durable_in}
use Rattle.ubik_node.proofs.Calling.{call_failed, ended, failed_leaves, told_by}
use Rattle.ubik_node.proofs.Durables.{CallsAs, IsThere, calls_one, fails_one, image_then, leaves_one, none_or_one, serves_one}
use Rattle.ubik_node.proofs.Endings.{ends_as, made_ends, reads_none}

-- a database file that is shorter than a label is an empty one, of the first version
pub unlabelled : (file : List ℕ) (v : Version) → version_of_database file ≡ Some v → nat_lt (length file) LABEL_LEN ≡ true → v ≡ zero_version
unfolding version_of_database
unlabelled file v is short = by (length file == 0) refl
  where
    by : (b : Bool) → (length file == 0) ≡ b → v ≡ zero_version
    by true empty = let first : Some zero_version ≡ Some v = rw empty at is in cc
    by false some = let none : None ≡ Some v = rw (some, short) at is in cc

none_before : (own : Version) → version_lt own zero_version ≡ false
none_before own = grind (arith, nat_tests)

-- of a newer version than another one it has a label
pub label_after : (file : List ℕ) (own v : Version) → version_of_database file ≡ Some v → version_lt own v ≡ true → has_label file ≡ true
label_after file own v is newer = by (nat_lt (length file) LABEL_LEN) refl
  where
    by : (b : Bool) → nat_lt (length file) LABEL_LEN ≡ b → has_label file ≡ true
    by true short = absurd (false≢true (sym (none_before own) ∙ ap (version_lt own) (sym (unlabelled file v is short)) ∙ newer))
    by false full = ap not full

there_files : (files : Option Files) → IsSome files → (fs : Files) × (files ≡ Some fs)
there_files None tells = absurd (false≢true tells)
there_files (Some fs) tells = (fs, refl)

one_more : (n : ℕ) → suc (n + 1) ≡ suc n + 1
one_more n = omega arith

module _ {D : Type 0} (g : Ghosts D) (old mid : D) (d : Durable) (first second : Made) where
  abbrev both : List Made
  both = first ∷ second ∷ []

  abbrev middle : Durable
  middle = durable_after d first.call

  between_first : (c : Files) → StandsWithin d (first ∷ []) c → StandsBetween d both 0 c
  between_first c stands = none_or_one (λ (n : ℕ). StandsAs (durable_after_all d (take n (first ∷ []))) c) stands.0 stands.1 stands.2

  within_first : (c : Files) → StandsWithin d (first ∷ []) c → StandsWithin d both c
  within_first c stands = ⊎_elim (λ none. (0, omega arith, none)) (λ one. (1, omega arith, one)) (between_first c stands)

  within_second : (c : Files) → StandsWithin middle (second ∷ []) c → StandsWithin d both c
  within_second c stands = (suc stands.0, omega (arith, stands.1), stands.2)

  -- the first call failed
  pub fails_first : (was now : Store D) (rewrite : Rewrite) → was.disk ≡ old → now.disk ≡ mid → IsReady g was → CallsAs first rewrite
      → LeavesWithin g d old mid (first ∷ []) → IfSome (g.files old) (λ fs. RisesAtMost (rewrite_calls rewrite fs.database) (g.steps old) (g.steps mid)) → FailsIn g d old mid both
  fails_first was now rewrite before after ready count leaves few = record {
    leaves = record {
      moments = IfSome_then (g.files old) leaves.moments (λ fs run. widened g.steps g.left_since old mid _ (StandsWithin d both) within_first run);
      plain = λ taken. leaves.plain (taken.0, tt);
    };
    whole = 0;
    now = IfSome_then (g.files old) leaves.moments (λ fs run c left.
        between_first c (run.each c (g.counts_now mid (g.steps old) c run.later left)));
    least = IfSome_then (g.files old) few (λ fs rose. omega (arith, rose.0));
    most = IfSome_then (g.files old) few (λ fs rose.
        let one = calls_one fs.database first rewrite count in
        omega (arith, rose.1, one));
    running = told (g.files old) _ (λ fs is. rw (← before) ready.runs);
  }

  module _ (new : D) (tells : IsSome (g.files old) → IsSome (g.files mid)) where
    between : (fs : Files) → g.files old ≡ Some fs → (gs : Files) × (g.files mid ≡ Some gs)
    between fs is = there_files (g.files mid) (tells (subst (λ (files : Option Files). IsSome files) (sym is) refl))

    leaves_both : LeavesWithin g d old mid (first ∷ []) → LeavesWithin g middle mid new (second ∷ []) → LeavesWithin g d old new both
    leaves_both one two = record {
      moments = told (g.files old) _ (λ fs is.
          let there = between fs is in
          joined g.steps g.left_since old mid new (StandsWithin d both)
          (widened g.steps g.left_since old mid _ (StandsWithin d both) within_first (of_told (g.files old) fs _ is one.moments))
          (widened g.steps g.left_since mid new _ (StandsWithin d both) within_second (of_told (g.files mid) there.0 _ there.1 two.moments)));
      plain = λ taken. told (g.files old) _ (λ fs is plain.
          let there = between fs is in
          let run = of_told (g.files old) fs _ is (one.plain (taken.0, tt)) plain in
          let still : IsPlain there.0 = run.each there.0 (g.counts_now mid (g.steps old) there.0 run.later (g.may_be_read mid there.0 there.1)) in
          joined g.steps g.left_since old mid new IsPlain run (of_told (g.files mid) there.0 _ there.1 (two.plain taken.1) still));
    }

    module _ (label : IfSome (g.files mid) (λ fs. has_label fs.database ≡ true)) (one : Serves g d old mid (first ∷ [])) where
      -- what is known where the files before and between are told
      known : (fs : Files) → g.files old ≡ Some fs
          → (gs : Files) × (g.files mid ≡ Some gs) × (has_label gs.database ≡ true)
          × (g.steps mid ≡ g.steps old + calls_made (has_label fs.database) (first ∷ []))
      known fs is =
          let there = between fs is in
          (there.0, there.1, of_told (g.files mid) there.0 _ there.1 label, of_told (g.files old) fs _ is one.steps)

      -- both were made
      pub serves_both : Serves g middle mid new (second ∷ []) → Serves g d old new both
      serves_both two = record {
        leaves = leaves_both one.leaves two.leaves;
        steps = told (g.files old) _ (λ fs is.
            let so = known fs is in
            let more = of_told (g.files mid) so.0 _ so.1 two.steps in
            omega (arith, so.3, rw so.2 at more));
      }

      -- the second one failed
      pub fails_second : Advances (g.steps old) (g.steps mid) (g.stop old) (g.stop mid) → FailsIn g middle mid new (second ∷ []) → FailsIn g d old new both
      fails_second run two = record {
        leaves = leaves_both one.leaves two.leaves;
        whole = suc two.whole;
        now = told (g.files old) _ (λ fs is c left.
            let so = known fs is in
            later c two.whole (of_told (g.files mid) so.0 _ so.1 two.now c left));
        least = told (g.files old) _ (λ fs is.
            let so = known fs is in
            let low = of_told (g.files mid) so.0 _ so.1 two.least in
            omega (arith, so.3, rw so.2 at low));
        most = told (g.files old) _ (λ fs is.
            let so = known fs is in
            let high = of_told (g.files mid) so.0 _ so.1 two.most in
            omega (arith, so.3, rw so.2 at high, ap (λ (k : ℕ). calls_made (has_label fs.database) (take k both)) (one_more two.whole)));
        running = told (g.files old) _ (λ fs is.
            let so = known fs is in
            let count = calls_made true (take two.whole (second ∷ [])) in
            let runs = of_told (g.files mid) so.0 _ so.1 two.running in
            let whole : run.calls + count ≡ calls_made (has_label fs.database) (take (suc two.whole) both) = omega (arith, so.3, run.steps) in
            let same : after_changes count (g.stop mid) ≡ after_changes (calls_made (has_label fs.database) (take (suc two.whole) both)) (g.stop old) =
            ap (after_changes count) run.stop ∙ after_changes-add count run.calls (g.stop old) ∙ ap (λ (n : ℕ). after_changes n (g.stop old)) whole in
            subst (λ (stop : DiskStop). ¬ IsStopped stop) same (rw so.2 at runs));
      }
        where
          later : (c : Files) (n : ℕ) → StandsBetween middle (second ∷ []) n c → StandsBetween d both (suc n) c
          later c n stands =
              ⊎_elim (λ here. inl here) (λ next. inr (subst (λ (k : ℕ). StandsAs (durable_after_all d (take k both)) c) (one_more n) next)) stands

module _ {D : Type 0} (g : Ghosts D) (n : Held D) (was : IsKept g n) (up : n.store.failed ≡ false) (mid : Store D) (sound : IsSound g mid) (rewrite : Rewrite) (v : Version) (image : List ℕ)
    (first second : Made) (leads : rewritten rewrite n.server.image ≡ image) (same : durable_after (durable_in n.server) first.call ≡ durable v image) (cuts : TakenCutsNoPut first.reason first.call → KeepsPuts rewrite) (count : CallsAs first rewrite) where
  -- the first call was not made
  pub first_failed : {knows : Type 0} {t : Stepped} {before after : List Output} → t.calls ≡ first ∷ second ∷ [] → (long : ℕ → Type 0) (e : StoreFault) → EndsAs g long v n.store mid e → version_lt n.store.version v ≡ true → ((bytes : ℕ) → long bytes → ⊥) → IsDurableIn g rewrite v n.store mid (IsErrOf (ended e) DiskFault)
      → Ends g knows t before after n (record n { store = mid }) (Err e)
  first_failed {knows} {t} {before} {after} calls long e ends newer fits durably =
      let one : Ends g knows (record t { calls = first ∷ [] }) before after n (record n { store = mid }) (Err e) =
      call_failed g n was up n.store (reads_none g n.store.disk) (λ none. none) was up mid rewrite v image first leads same cuts count refl long e ends newer fits durably in
      ends_as g (λ _. tt) (λ known _. rw calls
      (fails_first g n.store.disk mid.disk (durable_in n.server) first second n.store mid rewrite refl refl (was.sound.ready up) count
      (leaves_one g n.store mid (durable_in n.server) rewrite v image first (was.image up) (was.version up) leads same cuts durably) durably.few)) one

  module _ {F : Type 0} (done : Rewrites g rewrite v n.store mid) (durably : IsDurableIn g rewrite v n.store mid F) (went : ¬ F) (later : Store D) (w : Version) (none : CallsAs second (Changed []))
      (next : durable_after (durable v image) second.call ≡ durable w image) where
    ready : IsReady g mid
    ready = sound.ready done.failed

    there : IsThere image (image_in (g.files mid.disk))
    there = image_then (rewritten rewrite) (image_in (g.files n.store.disk)) (image_in (g.files mid.disk)) n.server.image image done.image (was.image up) leads

    tells : IsSome (g.files n.store.disk) → IsSome (g.files mid.disk)
    tells = told_by (rewritten rewrite) (g.files n.store.disk) (g.files mid.disk) done.image

    label : IfSome (g.files mid.disk) (λ fs. has_label fs.database ≡ true)
    label = IfSome_then (g.files mid.disk) ready.rests (λ fs rests.
        label_after fs.database n.store.version v (rests.label ∙ ap Some done.version) done.newer)

    one : Serves g (durable_in n.server) n.store.disk mid.disk (first ∷ [])
    one = serves_one g n.store mid (durable_in n.server) rewrite v image first (was.image up) (was.version up) leads same cuts count done.steps durably

    -- both were made
    pub both_made : {knows : Type 0} {t : Stepped} {before after : List Output} {G : Type 0} → t.calls ≡ first ∷ second ∷ [] → (server : Server) (place : Member) → place ≡ n.member → Commits g [] w mid later → IsDurable g [] w mid later G → ¬ G → (knows → (t.server ≡ server) × (after ≡ before ++ outputs_of t.shown)) → Ends g knows t before after n (record n { store = later; server = server; member = place }) (Ok tt)
    both_made calls server place member also durably_too fine shows =
        made_ends g n (record n { store = later; server = server; member = place }) refl member
        (most_calls rewrite + 14, calls_as (omega arith) (λ failed. fine failed) (λ none. absurd none) (calls_joined durably.calls went durably_too.calls))
        also.failed
        (λ told. told_by (λ bytes. effect bytes []) (g.files mid.disk) (g.files later.disk) also.image (tells told))
        (λ known.
        let shown = shows known in
        record {
          server = shown.0;
          outputs = shown.1;
          disk =
              rw calls (serves_both g n.store.disk mid.disk (durable_in n.server) first second later.disk tells label one
              (rw same
              (serves_one g mid later (durable v image) (Changed []) w image second there done.version refl next (λ _. tt) none also.steps durably_too)));
        })

    -- the second one was not made: its disk failed
    pub second_failed : {knows : Type 0} {t : Stepped} {before after : List Output} → t.calls ≡ first ∷ second ∷ [] → (e : StoreFault) → EndsAs g IsNeverLong w mid later e → e ≢ NoMemory → version_lt mid.version w ≡ true → IsDurable g [] w mid later (IsErrOf (ended e) DiskFault)
        → Ends g knows t before after n (record n { store = later }) (Err e)
    second_failed calls DiskFault ends some newer durably_too = record {
      made = λ _. tt;
      failed = λ known _.
          rw calls
          (fails_second g n.store.disk mid.disk (durable_in n.server) first second later.disk tells label one durably.calls.advances
          (rw same
          (fails_one g mid later (durable v image) (Changed []) w image second ready there done.version refl next (λ _. tt) none durably_too)));
      leaves = failed_leaves g later ends.failed (most_calls rewrite + 14, calls_as (omega arith) (λ failed. failed) (λ failed. failed) (calls_joined durably.calls went durably_too.calls));
      state = λ other. refl;
      keeps = λ failed. refl;
      last = refl;
      member = refl;
    }
    second_failed calls (BadLabel len head) ends some newer durably_too = absurd ends
    second_failed calls (TooLarge bytes) ends some newer durably_too = absurd ends.0
    second_failed calls (NotNewer own given) ends some newer durably_too = absurd (false≢true (sym ends.0.not_newer ∙ newer))
    second_failed calls NoMemory ends some newer durably_too = absurd (some refl)
