-- A server that is opened over a disk whose files stand for a durable state.
use Rattle.std.proofs.Common.{if◌then◌else◌, ◌≡◌, ◌≢◌, ◌+◌, ◌-◌, ℕ, zero, suc, Bool, true, false, List, take, length, Option, Some, None, IfSome, IsSome}
use Rattle.std.proofs.Common.{IsSomeAnd, refl, sym, ap, subst, ◌∙◌, arith}
use Rattle.std.proofs.lemmas.Bool.{false≢true}
use Rattle.std.proofs.lemmas.Slice.Eq.{bytes_eq-Decides}
use Rattle.std.specs.Str.{bytes_eq}
use Rattle.disk_base.specs.declared.disks.Disk.{Ghosts}
use Rattle.disk_base.specs.Crash.{IsSettled, LeavesOnly, Narrows, Only, RisesAtMost}
use Rattle.disk_base.specs.Files.{Files}
use Rattle.disk_base.specs.Stops.{Advances, DiskStop, after_change, after_changes}
use Rattle.disk_base.specs.Stops.DiskStop.{Unarmed}
use Rattle.ubik_types.specs.declared.hosts.Host.{Host}
use Rattle.ubik_types.specs.declared.versions.Version.{Version}
use Rattle.ubik_log.specs.LogGrammar.{IsDiscarded, new_record}
use Rattle.ubik_store.specs.declared.faults.StoreFault.{StoreFault}
use Rattle.ubik_store.specs.declared.faults.StoreFault.TheVariants.{DiskFault, BadLabel, TooLarge, NotNewer, NoMemory}
use Rattle.ubik_store.specs.Files.{StandsFor}
use Rattle.ubik_store.specs.Files.StandsFor.{by_incoming, by_log, by_label}
use Rattle.ubik_store.specs.Rest.{IsAtRest}
use Rattle.ubik_store.specs.Store.{image_in}
use Rattle.page_file.specs.Pages.{image_of}
use Rattle.ubik_store.specs.Gaps.{IsGapless, IsPlain}
use Rattle.ubik_store.specs.Opening.{EndsLogIn, IsOpening, OpensIn, RefusesFiles}
use Rattle.ubik_store.specs.Opening.EndsLogIn.{redoes, closes, cuts}
use Rattle.ubik_store.specs.Opening.OpensIn.{takes, treats}
use Rattle.ubik_store.proofs.Once.{stands_once}
use Rattle.ubik_store.proofs.Redoing.{narrowed}
use Rattle.ubik_store.proofs.Rests.{at_rest_stands}
use Rattle.ubik_store.proofs.Telling.{of_told, told}
use Rattle.cell_model.specs.Durable.{Durable, durable}
use Rattle.cell_model.specs.Node as model
use Rattle.cell_model.specs.Step.{Member}
use Rattle.ubik_types.specs.Version.{IsVersion}
use Rattle.cell_sites.proofs.Versions.{version_is}
use Rattle.ubik_node.specs.declared.nodes.Node.{Node}
use Rattle.ubik_node.specs.Disk.{StandsAs}
use Rattle.ubik_node.specs.Node.{node_of, own_member, up_server}
use Rattle.cell_sites.specs.OpenedServer.{OpensDisk, ServerIs, ServerOpens, is_cut_short}
use Rattle.cell_sites.specs.declared.openings.OpenEnd.{OpenEnd}
use Rattle.cell_sites.specs.declared.openings.OpenEnd.TheVariants as opened
use Rattle.cell_sites.specs.declared.sites.Server.TheVariants as server
use Rattle.cell_sites.specs.Sound.{IsSoundDisk}

-- files at rest stand for their version and their image
rested : (fs : Files) (v : Version) (image : List ℕ) → IsAtRest v (image_of fs.database) fs → image_of fs.database ≡ image
    → StandsAs (durable v image) fs
rested fs v image rests same =
    subst (λ (xs : List ℕ). StandsFor fs v xs) same (at_rest_stands fs v (image_of fs.database) rests)

rested_all : (files : Option Files) (v w : Version) (image : List ℕ) → v ≡ w → IsSome files
    → IfSome files (λ fs. IsAtRest v (image_of fs.database) fs)
    → IfSome (image_in files) (λ xs. xs ≡ image)
    → IsSomeAnd files (StandsAs (durable w image))
rested_all None v w image same some rests is = absurd (false≢true some)
rested_all (Some fs) v w image same some rests is =
    rested fs w image (subst (λ (x : Version). IsAtRest x (image_of fs.database) fs) same rests) is

-- files that stand for something are opened in some number of calls
ends_by_label : (fs : Files) → IsDiscarded fs.log → (begun : Bool) → bytes_eq (take 4 fs.log) new_record ≡ begun → (calls : ℕ)
    × EndsLogIn fs calls
ends_by_label fs discarded true is = (4, closes fs discarded ((bytes_eq-Decides (take 4 fs.log) new_record).0 is))
ends_by_label fs discarded false is =
    (2, cuts fs discarded (λ same. false≢true (sym is ∙ (bytes_eq-Decides (take 4 fs.log) new_record).1 same)))

pub opens_in : {fs : Files} {v : Version} {image : List ℕ} → StandsFor fs v image → (calls : ℕ) × OpensIn fs calls
opens_in (by_incoming fs version image opens fits) = (9, takes fs version image opens)
opens_in (by_log fs changes version logged fits) = (_, treats fs _ logged.ignored (redoes fs changes version logged.committed))
opens_in (by_label fs version ignored discarded label) =
    let ends = ends_by_label fs discarded (bytes_eq (take 4 fs.log) new_record) refl in (_, treats fs ends.0 ignored ends.1)

-- ---- files that are told

-- where a disk tells its files
pub record Told (files : Option Files) : Type 0 where
  pub fs : Files
  pub is : files ≡ Some fs

pub told_files : (files : Option Files) → IsSome files → Told files
told_files None some = absurd (false≢true some)
told_files (Some fs) some = record { fs = fs; is = refl }

pub some_told : (files : Option Files) (fs : Files) → files ≡ Some fs → IsSome files
some_told files fs is = let P : Option Files → Type 0 = λ o. IsSome o in subst P (sym is) refl

pub at_told : (files : Option Files) (fs : Files) (P : Files → Type 0) → files ≡ Some fs → IsSomeAnd files P → P fs
at_told files fs P is holds = let Q : Option Files → Type 0 = λ o. IsSomeAnd o P in subst Q is holds

pub told_at : (files : Option Files) (fs : Files) (P : Files → Type 0) → files ≡ Some fs → P fs → IsSomeAnd files P
told_at files fs P is holds = let Q : Option Files → Type 0 = λ o. IsSomeAnd o P in subst Q (sym is) holds

pub if_told : (files : Option Files) (fs : Files) (P : Files → Type 0) → files ≡ Some fs → P fs → IfSome files P
if_told files fs P is holds = let Q : Option Files → Type 0 = λ o. IfSome o P in subst Q (sym is) holds

pub unarmed_stays : (n : ℕ) → after_changes n Unarmed ≡ Unarmed
unarmed_stays zero = refl
unarmed_stays (suc n) = ap after_change (unarmed_stays n)

pub unarmed_after : (before after : ℕ) (old new : DiskStop) → Advances before after old new → old ≡ Unarmed → new ≡ Unarmed
unarmed_after before after old new goes is = goes.stop ∙ ap (after_changes goes.calls) is ∙ unarmed_stays goes.calls

-- files stand for one durable state alone
pub one_durable : (fs : Files) (d e : Durable) → StandsAs d fs → StandsAs e fs → e ≡ d
one_durable fs d e x y =
    let same = stands_once fs e.version d.version e.image d.image y x in
    ap (λ (v : Version). durable v e.image) same.0 ∙ ap (λ (i : List ℕ). durable d.version i) same.1

module _ {D : Type 0} (g : Ghosts D) (disk new : D) (F : Type 0) (d : Durable) (sound : IsSoundDisk g disk)
    (stands : IsSomeAnd (g.files disk) (StandsAs d)) (opening : IsOpening g disk new F) where
  -- the files before it
  abbrev pub before : Told (g.files disk)
  before = told_files (g.files disk) sound.told

  pub stood : StandsAs d before.fs
  stood = at_told (g.files disk) before.fs (StandsAs d) before.is stands

  was_plain : IsPlain before.fs
  was_plain = of_told (g.files disk) before.fs IsPlain before.is sound.plain

  -- a crash leaves the same
  pub leaves_same : Narrows (StandsAs d) (g.may_leave new)
  leaves_same =
      let says = of_told (g.files disk) before.fs (λ fs. IsGapless fs → (version : Version) (image : List ℕ) → StandsFor fs version image
      → LeavesOnly g.steps g.left_since disk new (λ c. StandsFor c version image)) before.is opening.moments in
      narrowed g (says was_plain.gapless d.version d.image stood)

  pub leaves_plain : Narrows IsPlain (g.may_leave new)
  leaves_plain =
      narrowed g (of_told (g.files disk) before.fs
      (λ fs. IsPlain fs → LeavesOnly g.steps g.left_since disk new IsPlain) before.is opening.plain was_plain)

  pub opens : (calls : ℕ) × OpensIn before.fs calls
  opens = opens_in stood

  -- at most so many calls were made
  pub opens_short : (after : D) → g.steps after ≡ g.steps new → OpensDisk g true disk after
  opens_short after same =
      let few : RisesAtMost opens.0 (g.steps disk) (g.steps new) =
      of_told (g.files disk) before.fs
      (λ fs. (calls : ℕ) → OpensIn fs calls → RisesAtMost calls (g.steps disk) (g.steps new)) before.is opening.few opens.0
      opens.1 in
      let low = few.0 in
      let high = few.1 in
      let rise = g.steps new - g.steps disk in
      record {
        files = before.fs;
        there = before.is;
        calls = opens.0;
        opens = opens.1;
        rise = rise;
        rises = omega (arith, low, high);
        is = omega (arith, low, same);
      }

-- ---- a server that is up

-- the server of a node that is not halted
pub up_is : (halted : Bool) (s t : model.Server) → (if halted then model.Halted (model.halted_from s) else model.Up s) ≡ model.Up t
    → (halted ≡ false) × (s ≡ t)
up_is true s t is = let never : model.Halted (model.halted_from s) ≡ model.Up t = is in absurd cc
up_is false s t is = (refl, cc)

module _ {D V : Type 0} (g : Ghosts D) (n : Node D V g) (went : n.store.failed ≡ false) where
  -- its disk stands for its version and image
  pub node_stands : IsSome (g.files n.store.disk) → IsSomeAnd (g.files n.store.disk) (StandsAs (durable n.state.version n.state.image))
  node_stands some =
      rested_all (g.files n.store.disk) n.store.version n.state.version n.state.image (n.stored.version went) some
      (n.stored.sound.ready went).rests (n.stored.image went)

  -- which is one
  pub node_version : IsSome (g.files n.store.disk) → IsVersion n.state.version
  node_version some =
      let t = told_files (g.files n.store.disk) some in
      let rests = of_told (g.files n.store.disk) t.fs (λ fs. IsAtRest n.store.version (image_of fs.database) fs) t.is
      (n.stored.sound.ready went).rests in
      subst IsVersion (n.stored.version went) (version_is t.fs.database n.store.version rests.label)

  pub node_settled : IsSettled (g.files n.store.disk) (g.may_leave n.store.disk)
  node_settled = (n.stored.sound.ready went).settled

-- what a crash leaves is so, and so is what is read
pub plain_read : {D : Type 0} (g : Ghosts D) (disk : D) → Narrows IsPlain (g.may_leave disk) → IfSome (g.files disk) IsPlain
plain_read g disk leaves = told (g.files disk) IsPlain (λ fs is. leaves fs (g.may_be_read disk fs is))

module _ {D V : Type 0} (g : Ghosts D) (hosts cell : List Host) (me clock : ℕ) (disk : D) (n : Node D V g) (d e : Durable)
    (sound : IsSoundDisk g disk) (stands : IsSomeAnd (g.files disk) (StandsAs d)) (opening : IsOpening g disk n.store.disk ⊥)
    (same : cell ≡ hosts) (up : node_of n ≡ model.Up (model.opened_server (length cell) e clock))
    (read : IfSome (g.files disk) (StandsAs e))
    (mine : own_member n ≡ record { hosts = cell; me = me }) (kept : IsSome (g.files disk) → IsSome (g.files n.store.disk))
    (steps : IfSome (g.files disk) (λ fs. (calls : ℕ) → OpensIn fs calls → g.steps n.store.disk ≡ g.steps disk + calls))
    (last : n.last ≡ clock) where
  abbrev pub m : Member
  m = record { hosts = hosts; me = me }

  abbrev there : Told (g.files disk)
  there = before g disk n.store.disk ⊥ d sound stands opening

  is_d : e ≡ d
  is_d =
      one_durable there.fs d e (stood g disk n.store.disk ⊥ d sound stands opening)
      (of_told (g.files disk) there.fs (StandsAs e) there.is read)

  server_up : (n.store.failed ≡ false) × (up_server n ≡ model.opened_server (length hosts) d clock)
  server_up =
      let at = up_is n.store.failed (up_server n) (model.opened_server (length cell) e clock) up in (
        at.0,
        at.1 ∙ ap (λ (l : List Host). model.opened_server (length l) e clock) same
            ∙ ap (λ (x : Durable). model.opened_server (length hosts) x clock) is_d,
      )

  some : IsSome (g.files n.store.disk)
  some = kept (some_told (g.files disk) there.fs there.is)

  holds : IsSomeAnd (g.files n.store.disk) (StandsAs d)
  holds =
      let s = server_up.1 in
      subst (λ (x : Durable). IsSomeAnd (g.files n.store.disk) (StandsAs x))
      (ap (λ (u : model.Server). durable u.version u.image) s) (node_stands g n server_up.0 some)

  pub opened_up : (version : Version) → version ≡ (up_server n).version → ServerOpens g m clock d (opened.Up version) disk (server.Up n)
  opened_up version is = record {
    stands = holds;
    sound = record {
      told = some;
      settled = node_settled g n server_up.0;
      plain = plain_read g n.store.disk (leaves_plain g disk n.store.disk ⊥ d sound stands opening);
    };
    calls =
        let o = opens g disk n.store.disk ⊥ d sound stands opening in
        record {
          files = there.fs;
          there = there.is;
          calls = o.0;
          opens = o.1;
          rise = o.0;
          rises = refl;
          is = of_told (g.files disk) there.fs
              (λ fs. (calls : ℕ) → OpensIn fs calls → g.steps n.store.disk ≡ g.steps disk + calls) there.is steps o.0 o.1;
        };
    unarmed = unarmed_after (g.steps disk) (g.steps n.store.disk) (g.stop disk) (g.stop n.store.disk) opening.calls.advances;
    never_falls = opening.calls.cause.never_falls;
    is = (
      up ∙ ap (λ (l : List Host). model.Up (model.opened_server (length l) e clock)) same
          ∙ ap (λ (x : Durable). model.Up (model.opened_server (length hosts) x clock)) is_d,
      is ∙ ap (λ (u : model.Server). u.version) server_up.1,
      record {
        last = omega (arith, last);
        member = mine ∙ ap (λ (l : List Host). record { hosts = l; me = me }) same;
      },
      subst IsVersion (ap (λ (u : model.Server). u.version) server_up.1) (node_version g n server_up.0 some),
    );
  }

-- ---- a server that stays down

-- an opening of files that stand for something is refused for a fault of the disk, or for want of memory
pub refused_so : (fs : Files) (d : Durable) (why : StoreFault) → StandsAs d fs → RefusesFiles fs why → why ≢ NoMemory → why ≡ DiskFault
refused_so fs d DiskFault stands refuses other = refl
refused_so fs d (BadLabel len head) stands refuses other = absurd (refuses.0 d.version d.image stands)
refused_so fs d (TooLarge bytes) stands refuses other = absurd refuses
refused_so fs d (NotNewer own given) stands refuses other = absurd refuses
refused_so fs d NoMemory stands refuses other = absurd (other refl)

module _ {D : Type 0} (g : Ghosts D) (m : Member) (clock : ℕ) (disk refused revived : D) (d : Durable) (why : StoreFault)
    (sound : IsSoundDisk g disk) (stands : IsSomeAnd (g.files disk) (StandsAs d)) (opening : IsOpening g disk refused (why ≡ DiskFault))
    (refuses : IfSome (g.files disk) (λ fs. RefusesFiles fs why)) (unarmed : g.stop revived ≡ Unarmed)
    (left : IfSome (g.files revived) (λ fs. g.may_leave refused fs × Only fs (g.may_leave revived)))
    (told_then : g.tells refused ≡ true → IsSome (g.files revived)) (steps : g.steps revived ≡ g.steps refused)
    (faults : g.faults revived ≡ g.faults refused)
  where
    abbrev there_then : Told (g.files disk)
    there_then = before g disk refused (why ≡ DiskFault) d sound stands opening

    abbrev now_told : Told (g.files revived)
    now_told = told_files (g.files revived) (told_then (opening.calls.tells ∙ g.tells_now disk sound.told))

    now_left : g.may_leave refused now_told.fs × Only now_told.fs (g.may_leave revived)
    now_left = of_told (g.files revived) now_told.fs (λ fs. g.may_leave refused fs × Only fs (g.may_leave revived)) now_told.is left

    pub opened_down : {V : Type 0} → (end : OpenEnd) → (is_cut : is_cut_short end ≡ true)
        → ServerIs {V = V} g m clock d end disk (server.Down revived) → ServerOpens {V = V} g m clock d end disk (server.Down revived)
    opened_down end is_cut is = record {
      stands = told_at (g.files revived) now_told.fs (StandsAs d) now_told.is
          (leaves_same g disk refused (why ≡ DiskFault) d sound stands opening now_told.fs now_left.0);
      sound = record {
        told = some_told (g.files revived) now_told.fs now_told.is;
        settled = if_told (g.files revived) now_told.fs (λ fs. Only fs (g.may_leave revived)) now_told.is now_left.1;
        plain = if_told (g.files revived) now_told.fs IsPlain now_told.is
            (leaves_plain g disk refused (why ≡ DiskFault) d sound stands opening now_told.fs now_left.0);
      };
      calls =
          subst (λ (b : Bool). OpensDisk g b disk revived) (sym is_cut)
          (opens_short g disk refused (why ≡ DiskFault) d sound stands opening revived steps);
      unarmed = λ was. unarmed;
      never_falls = let kept = opening.calls.cause.never_falls in omega (arith, kept, faults);
      is = is;
    }

    -- the disk failed
    pub down_by_fault : {V : Type 0} → why ≢ NoMemory → ServerOpens {V = V} g m clock d opened.StaysDown disk (server.Down revived)
    down_by_fault other =
        let fault = refused_so there_then.fs d why (stood g disk refused (why ≡ DiskFault) d sound stands opening)
        (of_told (g.files disk) there_then.fs (λ fs. RefusesFiles fs why) there_then.is refuses) other in
        let rose = opening.calls.cause.rose fault in
        opened_down opened.StaysDown refl (refl, omega (arith, rose, faults))

    pub down_by_memory : {V : Type 0} → ServerOpens {V = V} g m clock d opened.NoMemory disk (server.Down revived)
    down_by_memory = opened_down opened.NoMemory refl refl

-- no opening was begun
pub not_opened : {D V : Type 0} (g : Ghosts D) (m : Member) (clock : ℕ) (disk : D) (d : Durable) → IsSoundDisk g disk
    → IsSomeAnd (g.files disk) (StandsAs d)
    → ServerOpens {V = V} g m clock d opened.NoMemory disk (server.Down disk)
not_opened g mine clock disk d sound stands =
    let there = told_files (g.files disk) sound.told in
    let o = opens_in (at_told (g.files disk) there.fs (StandsAs d) there.is stands) in
    record {
      stands = stands;
      sound = sound;
      calls = record { files = there.fs; there = there.is; calls = o.0; opens = o.1; rise = 0; rises = omega arith; is = omega arith };
      unarmed = λ was. was;
      never_falls = omega arith;
      is = refl;
    }
