-- What a step leaves of the disk of its server, as the model counts it.
use Rattle.std.proofs.Common.{if◌then◌else◌, ◌≡◌, inl, inr, ◌≤◌, ◌+◌, ◌-◌, ◌==◌, ℕ, zero, suc, Bool, true, false, Option, Some, None, IfSome, IsSome, IsSomeAnd}
use Rattle.std.proofs.Common.{List, [], ◌∷◌, length, take, sum, refl, sym, ap, subst, ◌∙◌, arith}
use Rattle.std.specs.Prelude.{not, nat_lt}
use Rattle.std.proofs.lemmas.Bool.Decides.{nat_tests}
use Rattle.disk_base.specs.declared.disks.Disk.{Ghosts}
use Rattle.disk_base.specs.Crash.{Narrows, Only}
use Rattle.disk_base.specs.Files.{Files}
use Rattle.disk_base.specs.Stops.{IsStopped, after_changes}
use Rattle.disk_base.proofs.Runs.{widened}
use Rattle.page_file.specs.Label.{version_by, version_of_database, version_of_label}
use Rattle.page_file.specs.declared.label.TheConstants.{LABEL_LEN}
use Rattle.page_file.specs.Pages.{image_of}
use Rattle.ubik_types.specs.declared.limits.TheConstants.{MAX_IMAGE}
use Rattle.ubik_types.specs.declared.versions.Version.{Version}
use Rattle.ubik_types.specs.Version.{version_eq, zero_version}
use Rattle.ubik_store.specs.Files.{StandsFor}
use Rattle.ubik_store.specs.Gaps.{IsPlain}
use Rattle.ubik_store.specs.Rest.{IsAtRest}
use Rattle.ubik_store.specs.Store.{image_in}
use Rattle.ubik_store.proofs.Once.{stands_once}
use Rattle.ubik_store.proofs.Plain.{first_over}
use Rattle.ubik_store.proofs.Rests.{at_rest_stands}
use Rattle.cell_model.specs.Durable.{Durable, Made, durable, durable_after_all, version_after}
use Rattle.cell_model.specs.Node as model
use Rattle.cell_model.specs.Step.{Member}
use Rattle.cell_model.specs.World.{calls_on}
use Rattle.cell_runs.specs.Script.{calls_on_all}
use Rattle.ubik_node.specs.declared.nodes.Node.{Node}
use Rattle.ubik_node.specs.Disk.{FailsIn, IsRevived, Serves, StandsAs, StandsBetween, StandsWithin, calls_made, has_label}
use Rattle.ubik_node.specs.Node.{durable_in, node_of}
use Rattle.cell_sites.specs.Counts.{IsCutShort}
use Rattle.cell_sites.specs.Sound.{IsSoundDisk, IsSoundNode}
use Rattle.cell_sites.proofs.Arming.{take_nil}
use Rattle.cell_sites.proofs.Counting.{each_on, sum_cons}
use Rattle.cell_sites.proofs.Later.{AllLater, made_on, take_later}
use Rattle.cell_sites.proofs.Nodes.{is_up}
use Rattle.cell_sites.proofs.Plainly.{if_more, make_some, of_some, some_of}

-- files stand for one durable state at most
pub one_durable : (fs : Files) (d e : Durable) → StandsAs d fs → StandsAs e fs → d ≡ e
one_durable fs d e first other =
    let same = stands_once fs d.version e.version d.image e.image first other in
    ap (λ (v : Version). durable v d.image) same.0 ∙ ap (λ (i : List ℕ). durable e.version i) same.1

-- ---- a label

same_zero : (v : Version) → version_eq v zero_version ≡ true → v ≡ zero_version
same_zero v is =
    let epoch : v.epoch ≡ 0 = grind (arith, nat_tests) in
    let counter : v.counter ≡ 0 = grind (arith, nat_tests) in
    ap (λ (n : ℕ). record { epoch = n; counter = v.counter }) epoch ∙ ap (λ (n : ℕ). record { epoch = 0; counter = n }) counter

-- the version of a file that has no label is the first one
unlabelled : (file : List ℕ) (v : Version) → version_of_database file ≡ Some v → nat_lt (length file) LABEL_LEN ≡ true → v ≡ zero_version
unfolding version_of_database
unlabelled file v is short = by (length file == 0) refl
  where
    by : (b : Bool) → (length file == 0) ≡ b → v ≡ zero_version
    by true empty =
        let first : Some zero_version ≡ Some v = sym
        (ap (λ (b : Bool). if b then Some zero_version else version_by (length file) (take LABEL_LEN file)) empty)
        ∙ is in cc
    by false some =
        let none : None ≡ Some v =
        sym (ap (λ (b : Bool). if b then Some zero_version else version_by (length file) (take LABEL_LEN file)) some
        ∙ ap (λ (b : Bool). if b then None
        else (if nat_lt (LABEL_LEN + MAX_IMAGE) (length file) then None else version_of_label (take LABEL_LEN file))) short)
        ∙ is in cc

-- at rest a database file has a label where its version is not the first one
pub label_says : (fs : Files) (v : Version) → IsAtRest v (image_of fs.database) fs → IsPlain fs
    → has_label fs.database ≡ not (version_eq v zero_version)
label_says fs v rests plain = by (version_eq v zero_version) refl
  where
    by : (b : Bool) → version_eq v zero_version ≡ b → has_label fs.database ≡ not b
    by true is =
        let none : fs.database ≡ [] = first_over fs plain (rests.log, rests.incoming)
        (rests.label ∙ ap Some (same_zero v is)) in
        ap has_label none
    by false is = long (nat_lt (length fs.database) LABEL_LEN) refl
      where
        long : (b : Bool) → nat_lt (length fs.database) LABEL_LEN ≡ b → has_label fs.database ≡ true
        long true short =
            let zero_is = unlabelled fs.database v rests.label short in
            let same : version_eq v zero_version ≡ true = ap (λ (w : Version). version_eq w zero_version) zero_is in cc
        long false full = ap not full

-- ---- how many changing calls

take_each : (n : ℕ) (v : Version) (calls : List Made) → sum (take n (each_on v calls)) ≡ calls_on_all v (take n calls)
take_each zero v calls = refl
take_each (suc n) v [] = refl
take_each (suc n) v (made ∷ calls) =
    sum_cons (calls_on v made) (take n (each_on (version_after made.call) calls))
    ∙ ap (λ (k : ℕ). calls_on v made + k) (take_each n (version_after made.call) calls)

-- ---- a server that is up

-- what its files are
pub record FilesAt {D V : Type 0} (g : Ghosts D) (node : Node D V g) (s : model.Server) : Type 0 where
  pub files : Files
  pub is : g.files node.store.disk ≡ Some files
  pub stands : StandsAs (durable_in s) files
  pub plain : IsPlain files
  pub label : has_label files.database ≡ not (version_eq s.version zero_version)
  pub runs : IsStopped (g.stop node.store.disk) → ⊥

pub files_at : {D V : Type 0} (g : Ghosts D) (m : Member) (clock : ℕ) (node : Node D V g) (s : model.Server) → IsSoundNode g m clock node
    → IsSoundDisk g node.store.disk → node_of node ≡ model.Up s → FilesAt g node s
files_at {D} {V} g m clock node s sound disk up =
    let is_it = is_up node s up in
    let there = some_of (g.files node.store.disk) disk.told in
    let ready = node.stored.sound.ready is_it.0 in
    let version : node.store.version ≡ s.version = node.stored.version is_it.0 ∙ ap (λ (u : model.Server). u.version) is_it.1 in
    let rests = subst (λ (v : Version). IsAtRest v (image_of there.0.database) there.0) version
    (of_some (g.files node.store.disk) there.0 (λ fs. IsAtRest node.store.version (image_of fs.database) fs) there.1 ready.rests) in
    let image : image_of there.0.database ≡ s.image = image_at (g.files node.store.disk) there.0 node.state.image there.1
    (node.stored.image is_it.0)
    ∙ ap (λ (u : model.Server). u.image) is_it.1 in
    let plain = of_some (g.files node.store.disk) there.0 IsPlain there.1 disk.plain in
    record {
      files = there.0;
      is = there.1;
      stands = subst (λ (i : List ℕ). StandsFor there.0 s.version i) image
          (at_rest_stands there.0 s.version (image_of there.0.database) rests);
      plain = plain;
      label = label_says there.0 s.version rests plain;
      runs = ready.runs;
    }
  where
    image_at : (o : Option Files) (fs : Files) (image : List ℕ) → o ≡ Some fs → IfSome (image_in o) (λ i. i ≡ image)
        → image_of fs.database ≡ image
    image_at o fs image is same = subst (λ (x : Option Files). IfSome (image_in x) (λ i. i ≡ image)) is same

-- ---- a step that was made

-- its durable calls made just these changing calls
pub served_rise : {D V : Type 0} (g : Ghosts D) (node : Node D V g) (s : model.Server) (new : D) (calls : List Made) → FilesAt g node s
    → AllLater calls
    → Serves g (durable_in s) node.store.disk new calls → g.steps new ≡ g.steps node.store.disk + calls_on_all s.version calls
served_rise {D} g node s new calls at labels serves =
    of_some (g.files node.store.disk) at.files
    (λ fs. g.steps new ≡ g.steps node.store.disk + calls_made (has_label fs.database) calls) at.is serves.steps
    ∙ ap (λ (n : ℕ). g.steps node.store.disk + n) (made_on (has_label at.files.database) s.version calls labels at.label)

-- ---- a step in which the disk failed

-- A disk that failed in a step without a durable call failed as well before the end of the first of any, none of which took place.
pub fails_first : {D : Type 0} (g : Ghosts D) (d : Durable) (old new : D) (calls : List Made) → FailsIn g d old new []
    → FailsIn g d old new calls
fails_first {D} g d old new calls fails =
    record {
      leaves = record {
        moments = if_more (g.files old) _ _
            (λ fs run. widened g.steps g.left_since old new (StandsWithin d []) (StandsWithin d calls) within run)
            fails.leaves.moments;
        plain = λ _. fails.leaves.plain tt;
      };
      whole = 0;
      now = if_more (g.files old) _ _ (λ fs narrows c left. between c (narrows c left)) fails.now;
      least = if_more (g.files old) _ _ (λ fs least. let none = none_made fs fails.whole in omega (arith, least, none)) fails.least;
      most = if_more (g.files old) _ _ (λ fs most. let none = none_made fs (fails.whole + 1) in omega (arith, most, none)) fails.most;
      running =
          if_more (g.files old) _ _
          (λ fs runs stopped. runs (subst (λ (n : ℕ). IsStopped (after_changes n (g.stop old))) (sym (none_made fs fails.whole))
          stopped)) fails.running;
    }
  where
    none_made : (fs : Files) (n : ℕ) → calls_made (has_label fs.database) (take n []) ≡ 0
    none_made fs n = ap (calls_made (has_label fs.database)) (take_nil {X = Made} n)

    still : (n : ℕ) (c : Files) → StandsAs (durable_after_all d (take n [])) c → StandsAs d c
    still n c stands = subst (λ (l : List Made). StandsAs (durable_after_all d l) c) (take_nil {X = Made} n) stands

    within : (c : Files) → StandsWithin d [] c → StandsWithin d calls c
    within c (made, few, stands) = (0, omega arith, still made c stands)

    between : (c : Files) → StandsBetween d [] fails.whole c → StandsBetween d calls 0 c
    between c (inl stands) = inl (still fails.whole c stands)
    between c (inr stands) = inl (still (fails.whole + 1) c stands)

-- once the files are opened anew they stand for the state after the first so many durable calls
pub record Failed {D : Type 0} (g : Ghosts D) (s : model.Server) (old later : D) (calls : List Made) (whole : ℕ) : Type 0 where
  pub took : Bool
  pub stands : IsSomeAnd (g.files later) (StandsAs (durable_after_all (durable_in s) (take (if took then whole + 1 else whole) calls)))
  pub rise : ℕ
  pub steps : g.steps later ≡ g.steps old + rise
  pub cut : IsCutShort (each_on s.version calls) (if took then whole + 1 else whole) rise

module _ {D V : Type 0} (g : Ghosts D) (node : Node D V g) (s : model.Server) (failed later : D) (calls : List Made)
    (at : FilesAt g node s) (labels : AllLater
    calls)
    (fails : FailsIn g (durable_in s) node.store.disk failed calls) where
  abbrev old : D
  old = node.store.disk

  made_of : (n : ℕ) → calls_made (has_label at.files.database) (take n calls) ≡ calls_on_all s.version (take n calls)
  made_of n = made_on (has_label at.files.database) s.version (take n calls) (take_later n calls labels) at.label

  low : g.steps old + calls_on_all s.version (take fails.whole calls) ≤ g.steps failed
  low =
      let least = of_some (g.files old) at.files
      (λ fs. g.steps old + calls_made (has_label fs.database) (take fails.whole calls) ≤ g.steps failed) at.is
      fails.least in
      let made = made_of fails.whole in omega (arith, least, made)

  high : g.steps failed ≤ g.steps old + calls_on_all s.version (take (fails.whole + 1) calls)
  high =
      let most = of_some (g.files old) at.files
      (λ fs. g.steps failed ≤ g.steps old + calls_made (has_label fs.database) (take (fails.whole + 1) calls)) at.is
      fails.most in
      let made = made_of (fails.whole + 1) in omega (arith, most, made)

  -- the disk had not stopped once the whole calls were made
  pub runs_still : IsStopped (after_changes (calls_on_all s.version (take fails.whole calls)) (g.stop old)) → ⊥
  runs_still stopped =
      of_some (g.files old) at.files
      (λ fs. IsStopped (after_changes (calls_made (has_label fs.database) (take fails.whole calls)) (g.stop old)) → ⊥) at.is
      fails.running
      (subst (λ (n : ℕ). IsStopped (after_changes n (g.stop old))) (sym (made_of fails.whole)) stopped)

  pub rise_most : (rise : ℕ) → g.steps failed ≡ g.steps old + rise → rise ≤ calls_on_all s.version (take (fails.whole + 1) calls)
  rise_most rise is = omega (arith, high, is)

  pub failed_in : (revived : IsRevived g failed later) → IsSome (g.files later) → Failed g s old later calls fails.whole
  failed_in revived told =
      by (of_some (g.files old) at.files
      (λ _. Narrows (StandsBetween (durable_in s) calls fails.whole) (g.may_leave failed)) at.is fails.now there.0 left)
    where
      there : (fs : Files) × (g.files later ≡ Some fs)
      there = some_of (g.files later) told

      left : g.may_leave failed there.0
      left = (of_some (g.files later) there.0 (λ fs. g.may_leave failed fs × Only fs (g.may_leave later)) there.1 revived.left).0

      steps_are : g.steps later ≡ g.steps old + (g.steps failed - g.steps old)
      steps_are = let same = revived.steps in omega (arith, low, same)

      cut_at : (made : ℕ) → fails.whole ≤ made → made ≤ fails.whole + 1
          → IsCutShort (each_on s.version calls) made (g.steps failed - g.steps old)
      cut_at made less more =
          record {
            whole = fails.whole;
            not_more = less;
            next = more;
            least = let each = take_each fails.whole s.version calls in omega (arith, low, each);
            most = let each = take_each (fails.whole + 1) s.version calls in omega (arith, low, high, each);
          }

      by : StandsBetween (durable_in s) calls fails.whole there.0 → Failed g s old later calls fails.whole
      by (inl before) = record {
        took = false;
        stands = make_some (g.files later) there.0 (StandsAs (durable_after_all (durable_in s) (take fails.whole calls))) there.1 before;
        rise = g.steps failed - g.steps old;
        steps = steps_are;
        cut = cut_at fails.whole (omega arith) (omega arith);
      }
      by (inr next) = record {
        took = true;
        stands = make_some (g.files later) there.0
            (StandsAs (durable_after_all (durable_in s) (take (fails.whole + 1) calls))) there.1 next;
        rise = g.steps failed - g.steps old;
        steps = steps_are;
        cut = cut_at (fails.whole + 1) (omega arith) (omega arith);
      }
