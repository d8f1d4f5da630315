-- Clocks of a running cell that go forward.
use Rattle.std.proofs.Common.{if◌then◌else◌, ◌≡◌, ◌<◌, ◌≤◌, ◌+◌, ◌-◌, ◌^◌, ◌&&◌, ◌++◌, ℕ, zero, suc, Bool, true, false, Option, List, [], ◌∷◌, Some, None}
use Rattle.std.proofs.Common.{Result, Ok, Err, length, map, set, get_or, replicate, refl, sym, ap, subst, ◌∙◌, arith}
use Rattle.std.specs.Prelude.{slice_get, IsErrAnd}
use Rattle.std.specs.Vec.{with_item, with_items}
use Rattle.std.proofs.lemmas.List.{append-nil, length-set, length-map, map-set}
use Rattle.std.proofs.lemmas.List.Elements.{All-nil}
use Rattle.std.proofs.Math.Seq.{map-set_same}
use Rattle.std.proofs.lemmas.Option.{get_or_from_slice_get, slice_get_within}
use Rattle.db_image.specs.Database.{Database}
use Rattle.disk_base.specs.declared.disks.Disk.{Ghosts}
use Rattle.ubik_types.specs.declared.hosts.Host.{Host}
use Rattle.ubik_types.specs.declared.limits.TheConstants.{MAX_MOMENT}
use Rattle.cell_model.specs.Step.{Member}
use Rattle.cell_model.specs.World.{Site as ModelSite, Tick, Tick_all, are_near, are_moments, clocks_of, may_tick, tick_at, ticked}
use Rattle.cell_script.specs.declared.lines.Why.{Why}
use Rattle.cell_script.specs.declared.lines.Why.TheVariants as why
use Rattle.cell_runs.specs.Script.{Armed, Cell, Run_or_why, hosts_of, unless_skewed, with_event, sound_choices}
use Rattle.cell_runs.specs.ScriptDatabase.{ScriptDatabase}
use Rattle.cell_sites.specs.Disks.{AreReadBy, Held, held}
use Rattle.cell_sites.specs.Places.{IsNearAt, ticked_on}
use Rattle.cell_sites.specs.Counts.{HoldRun}
use Rattle.cell_sites.specs.Sites.{AreArmed, AreSitesOf, IsModelledBy, helds, site_disk}
use Rattle.cell_sites.specs.Sound.{AreSound, IsSteady, IsSoundServer, IsSoundSite, Keeps, clocks_in}
use Rattle.cell_sites.specs.Told.{CellTold}
use Rattle.cell_sites.specs.declared.cells.OpenCell.{OpenCell}
use Rattle.cell_sites.specs.declared.sites.Server.{Server}
use Rattle.cell_sites.specs.declared.sites.Server.TheVariants as server
use Rattle.cell_sites.specs.declared.sites.Site.{Site}
use Rattle.cell_sites.proofs.AtPlace.{rises_same, sites_all_ticked, sites_clocks, sites_ticked, sound_at, sound_set}
use Rattle.cell_sites.proofs.Arming.{armed_here, armed_still}
use Rattle.cell_sites.proofs.Counting.{hold_more, moved_same}
use Rattle.cell_sites.proofs.Keeping.{keeps_map, keeps_set}
use Rattle.cell_sites.proofs.Near.{moments_make, near_all, near_make, near_read, near_set, near_unset}
use Rattle.cell_sites.proofs.Delivering.{set_same}
use Rattle.cell_sites.proofs.Soundly.{none_sent}
use Rattle.cell_sites.proofs.Waiting.{items_with}

-- ---- one site

pub server_later : {D V : Type 0} (g : Ghosts D) (m : Member) (clock later : ℕ) (s : Server D V g) → clock ≤ later
    → IsSoundServer g m clock s
    → IsSoundServer g m later s
server_later g m clock later (server.Down disk) le sound = sound
server_later g m clock later (server.Up n) le sound =
    let last = sound.last in
    record { last = omega (arith, last, le); member = sound.member }

pub site_later : {D V : Type 0} (g : Ghosts D) (m : Member) (bound seconds : ℕ) (site : Site D V g) → site.clock + seconds ≤ MAX_MOMENT
    → IsSoundSite g m bound site → IsSoundSite g m (bound + seconds) (ticked_on seconds site)
site_later g m bound seconds site fits sound =
    let some = sound.moment.some in
    let within = sound.within in
    let end : 2 ^ 31 ≡ 2147483648 = refl in
    record {
      moment = record { some = omega (arith, some); fits = omega (arith, fits, end) };
      within = omega (arith, within);
      server = server_later g m site.clock (site.clock + seconds) site.server (omega arith) sound.server;
      disk = sound.disk;
    }

pub sound_weaker : {D V : Type 0} (g : Ghosts D) (hosts : List Host) (place bound more : ℕ) (sites : List (Site D V g)) → bound ≤ more
    → AreSound g hosts place bound sites → AreSound g hosts place more sites
sound_weaker g hosts place bound more [] le sound = tt
sound_weaker g hosts place bound more (site ∷ sites) le sound =
    let within = sound.0.within in (
      record { moment = sound.0.moment; within = omega (arith, within, le); server = sound.0.server; disk = sound.0.disk },
      sound_weaker g hosts (place + 1) bound more sites le sound.1,
    )

sound_ticked : {D V : Type 0} (g : Ghosts D) (hosts : List Host) (place bound bound' seconds : ℕ) (sites : List (Site D V g))
    → bound + seconds ≤ MAX_MOMENT → AreSound g hosts place bound sites → AreSound g hosts place bound' sites
    → AreSound g hosts place (bound' + seconds) (map (ticked_on seconds) sites)
sound_ticked g hosts place bound bound' seconds [] fits sound sound' = tt
sound_ticked g hosts place bound bound' seconds (site ∷ sites) fits sound sound' =
    let within = sound.0.within in (
      site_later g (record { hosts = hosts; me = place }) bound' seconds site (omega (arith, fits, within)) sound'.0,
      sound_ticked g hosts (place + 1) bound bound' seconds sites fits sound.1 sound'.1,
    )

-- ---- clocks

moments_in : {D V : Type 0} (g : Ghosts D) (hosts : List Host) (place bound : ℕ) (sites : List (Site D V g))
    → AreSound g hosts place bound sites → (k : ℕ) → k < length (clocks_in sites)
    → (0 < get_or (clocks_in sites) k 0) × (get_or (clocks_in sites) k 0 ≤ MAX_MOMENT)
moments_in g hosts place bound [] sound k less = absurd (omega arith)
moments_in g hosts place bound (site ∷ sites) sound zero less =
    let fits = sound.0.moment.fits in
    let end : 2 ^ 31 ≡ 2147483648 = refl in
    (sound.0.moment.some, omega (arith, fits, end))
moments_in g hosts place bound (site ∷ sites) sound (suc k) less = moments_in g hosts (place + 1) bound sites sound.1 k (omega arith)

clock_there : {D V : Type 0} {g : Ghosts D} (sites : List (Site D V g)) (k : ℕ) (site : Site D V g) → slice_get sites k ≡ Some site
    → get_or (clocks_in sites) k 0 ≡ site.clock
clock_there [] k site there = cc
clock_there {D} {V} {g} (x ∷ sites) zero site there = let same : x ≡ site = cc in ap (λ (s : Site D V g). s.clock) same
clock_there (x ∷ sites) (suc k) site there = clock_there sites k site there

pub record HasClock {D V : Type 0} {g : Ghosts D} (sites : List (Site D V g)) (k : ℕ) : Type 0 where
  pub site : Site D V g
  pub there : slice_get sites k ≡ Some site

some_site : {D V : Type 0} {g : Ghosts D} (sites : List (Site D V g)) (k : ℕ) → k < length (clocks_in sites) → HasClock sites k
some_site [] k less = absurd (omega arith)
some_site (x ∷ sites) zero less = record { site = x; there = refl }
some_site (x ∷ sites) (suc k) less = let rest = some_site sites k (omega arith) in record { site = rest.site; there = rest.there }

both : (a b : Bool) → a ≡ true → b ≡ true → (a && b) ≡ true
both true true is is' = refl
both true false is is' = is'
both false b is is' = is

left_of : (a b : Bool) → (a && b) ≡ true → a ≡ true
left_of true b is = refl
left_of false b is = is

-- clocks of a sound cell may be those after a tick
pub may : {D V : Type 0} (g : Ghosts D) (bound : ℕ) (after : OpenCell D V g) (ss : List ModelSite) → IsSteady g bound after
    → AreSitesOf after.sites.items ss → may_tick ss ≡ true
may {D} {V} g bound after ss sound are =
    let clocks = sites_clocks after.sites.items ss are in
    subst (λ (l : List ℕ). (are_near l && are_moments l) ≡ true) (sym clocks)
    (both (are_near (clocks_in after.sites.items)) (are_moments (clocks_in after.sites.items)) sound.near
    (moments_make (clocks_in after.sites.items) (moments_in g after.hosts.items 0 bound after.sites.items sound.sites)))

-- ---- one clock

abbrev pub ticked_at : {D V : Type 0} {g : Ghosts D} → OpenCell D V g → ℕ → ℕ → Site D V g → OpenCell D V g
ticked_at running k seconds site = record running { sites = with_item running.sites k (ticked_on seconds site) }

pub tick_sound : {D V : Type 0} (g : Ghosts D) (bound most : ℕ) (running : OpenCell D V g) (k seconds : ℕ) (site : Site D V g)
    → IsSteady g bound running → site.clock + seconds ≤ MAX_MOMENT → slice_get running.sites.items k ≡ Some site
    → IsNearAt running.sites.items k (site.clock + seconds) → IsSteady g (bound + seconds) (ticked_at running k seconds site)
tick_sound {D} {V} g bound most running k seconds site sound fits there near =
    let items = running.sites.items in
    let x = ticked_on seconds site in
    let same : length (set items k x) ≡ length items = length-set items k x in
    let some = sound.some in
    let few = sound.few in
    let old : get_or (clocks_in items) k 0 ≡ site.clock = clock_there items k site there in
    let within : k < length items = slice_get_within items k site there in
    let as_many : length (clocks_in items) ≡ length items = length-map items (λ (s : Site D V g). s.clock) in
    let clocks : clocks_in (set items k x) ≡ set (clocks_in items) k x.clock = map-set (λ (s : Site D V g). s.clock) items k x in
    record {
      some = omega (arith, some, same);
      few = omega (arith, few, same);
      hosts = sound.hosts ∙ ap hosts_of (sym same);
      sites = sound_set g running.hosts.items 0 (bound + seconds) items k x
          (sound_weaker g running.hosts.items 0 bound (bound + seconds) items (omega arith) sound.sites)
          (site_later g (record { hosts = running.hosts.items; me = 0 + k }) bound seconds site fits
          (sound_at g running.hosts.items 0 bound items k site sound.sites there));
      near = ap are_near clocks ∙ near_make (set (clocks_in items) k x.clock)
          (near_set (clocks_in items) k x.clock (near_read (clocks_in items) sound.near) (omega (arith, within, as_many))
          (omega (arith, old))
          (λ j less other.
          let one = some_site items j less in
          let e : get_or (clocks_in items) j 0 ≡ one.site.clock = clock_there items j one.site one.there in
          let n = near j one.site one.there other in
          omega (arith, e, n)));
      told = sound.told;
    }

-- by no second
pub tick_rests : {D V : Type 0} {g : Ghosts D} (running : OpenCell D V g) (k seconds : ℕ) (site : Site D V g)
    → slice_get running.sites.items k ≡ Some site → seconds ≡ 0
    → (ticked_at running k seconds site).sites.items ≡ running.sites.items
tick_rests {D} {V} {g} running k seconds site there none =
    let clock : site.clock + seconds ≡ site.clock = omega (arith, none) in
    ap (λ (n : ℕ). set running.sites.items k (record site { clock = n })) clock ∙ set_same running.sites.items k site there

pub tick_keeps : {D V : Type 0} {g : Ghosts D} (db : Database) (running : OpenCell D V g) (k seconds : ℕ) (site : Site D V g)
    → slice_get running.sites.items k ≡ Some site
    → Keeps db running → Keeps db (ticked_at running k seconds site)
tick_keeps db running k seconds site there keeps =
    keeps_set db running (ticked_at running k seconds site) keeps refl k (ticked_on seconds site) [] refl refl (none_sent running.packets)
    (keeps.servers k site there) (All-nil _)

none_more : {X : Type 0} (xs : List X) (handed : List Bool) → handed ++ replicate (length xs - length xs) false ≡ handed
none_more xs handed =
    let none : length xs - length xs ≡ 0 = omega arith in
    ap (λ (n : ℕ). handed ++ replicate n false) none ∙ append-nil handed

pub tick_sites_of : {D V : Type 0} {gs : Ghosts D} {database : Database} {given : List ℕ} (running : OpenCell D V gs) (c : Cell)
    (k seconds : ℕ) (site : Site D V gs)
    → IsModelledBy gs database given running c → slice_get running.sites.items k ≡ Some site
    → AreSitesOf (ticked_at running k seconds site).sites.items (tick_at c.run.world.sites k seconds)
tick_sites_of {D} {V} {gs} running c k seconds site stands there =
    let same : get_or running.sites.items k site ≡ site = get_or_from_slice_get running.sites.items k site site there in
    subst (λ (s : Site D V gs). AreSitesOf (set running.sites.items k (ticked_on seconds s)) (tick_at c.run.world.sites k seconds)) same
    (sites_ticked running.sites.items c.run.world.sites k seconds site stands.sites)

pub helds_ticked : {D V : Type 0} (g : Ghosts D) (running : OpenCell D V g) (k seconds : ℕ) (site : Site D V g)
    → slice_get running.sites.items k ≡ Some site
    → helds g (ticked_at running k seconds site) ≡ helds g running
helds_ticked {D} {V} g running k seconds site there =
    let same : get_or running.sites.items k site ≡ site = get_or_from_slice_get running.sites.items k site site there in
    map-set_same (λ (s : Site D V g). held g (site_disk s)) running.sites.items k (ticked_on seconds site) site
    (ap (λ (s : Site D V g). held g (site_disk s)) (sym same))

-- a clock that goes forward leaves the durable states
reads_ticked : (ss : List ModelSite) (k seconds : ℕ) (disks : List Held) → AreReadBy ss disks → AreReadBy (tick_at ss k seconds) disks
reads_ticked [] k seconds disks read = read
reads_ticked (s ∷ ss) k seconds [] read = absurd read
reads_ticked (s ∷ ss) zero seconds (disk ∷ disks) read = (read.0, read.1)
reads_ticked (s ∷ ss) (suc k) seconds (disk ∷ disks) read = (read.0, reads_ticked ss k seconds disks read.1)

reads_all : (ss : List ModelSite) (seconds : ℕ) (disks : List Held) → AreReadBy ss disks → AreReadBy (map (ticked seconds) ss) disks
reads_all [] seconds disks read = read
reads_all (s ∷ ss) seconds [] read = absurd read
reads_all (s ∷ ss) seconds (disk ∷ disks) read = (read.0, reads_all ss seconds disks read.1)

armed_all : {D V : Type 0} (g : Ghosts D) (sites : List (Site D V g)) (armed : List (Option Armed)) (seconds : ℕ) → AreArmed g sites armed
    → AreArmed g (map (ticked_on seconds) sites) armed
armed_all g [] [] seconds are = tt
armed_all g [] (a ∷ armed) seconds are = absurd are
armed_all g (x ∷ sites) [] seconds are = absurd are
armed_all g (x ∷ sites) (a ∷ armed) seconds are = (are.0, armed_all g sites armed seconds are.1)

pub tick_stands : {D V : Type 0} {given : List ℕ} (gs : Ghosts D) (db : ScriptDatabase) (running : OpenCell D V gs) (c : Cell)
    (k seconds : ℕ) (site : Site D V gs)
    → IsModelledBy gs db.database given running c → slice_get running.sites.items k ≡ Some site
    → IsModelledBy gs db.database given (ticked_at running k seconds site) (with_event db c (Tick k seconds)).cell
tick_stands {D} {V} {given} gs db running c k seconds site stands there =
    let here = armed_here gs running.sites.items c.armed k site stands.armed there in
    record {
      hosts = stands.hosts;
      sites = tick_sites_of running c k seconds site stands there;
      sent = stands.sent;
      handed = none_more c.run.world.packets c.handed ∙ stands.handed;
      armed = armed_still gs running.sites.items c.armed k (ticked_on seconds site) stands.armed here;
      disks =
          subst (λ (l : List Held). HoldRun db.database given false (with_event db c (Tick k seconds)).cell l)
          (sym (helds_ticked gs running k seconds site there))
          (hold_more db.database c (with_event db c (Tick k seconds)).cell given (Tick k seconds)
          (record { opening = refl; events = refl; world = refl })
          (helds gs running) (helds gs running) stands.disks
          (reads_ticked c.run.world.sites k seconds (helds gs running) stands.disks.read)
          (moved_same _ 0 (helds gs running) (λ j x. (0, refl, omega arith))));
    }

pub tick_told : {D V : Type 0} {given : List ℕ} (g : Ghosts D) (db : ScriptDatabase) (bound : ℕ) (running : OpenCell D V g) (c : Cell)
    (k seconds : ℕ) (site : Site D V g) (run : Run_or_why) (text : List ℕ) → IsSteady g bound running → bound + seconds ≤ MAX_MOMENT
    → IsModelledBy g
    db.database given running c → slice_get running.sites.items k ≡ Some site → IsNearAt running.sites.items k (site.clock + seconds)
    → run ≡ unless_skewed db c
    (tick_at c.run.world.sites k seconds) (Tick k seconds)
    → CellTold g db given (λ choices. run) None running (ticked_at running k seconds site) text text
tick_told g db bound running c k seconds site run text sound fits stands there near is =
    let at = sound_at g running.hosts.items 0 bound running.sites.items k site sound.sites there in
    let within = at.within in
    let after = tick_sound g bound bound running k seconds site sound (omega (arith, within, fits)) there near in
    record {
      choices = sound_choices;
      whole = record { most = refl; found = tt };
      ran = with_event db c (Tick k seconds);
      is = is ∙ ap (λ (b : Bool). if b then Ok (with_event db c (Tick k seconds)) else Err why.Skew)
          (may g (bound + seconds) (ticked_at running k seconds site) (tick_at c.run.world.sites k seconds) after
          (tick_sites_of running c k seconds site stands there));
      ends = refl;
      cell = tick_stands g db running c k seconds site stands there;
      told = sym (append-nil text);
      causes = rises_same (helds g running) (helds g (ticked_at running k seconds site)) (helds_ticked g running k seconds site there);
    }

-- one that would part the clocks
pub tick_skews : {D V : Type 0} {gs : Ghosts D} {given : List ℕ} (db : ScriptDatabase) (running : OpenCell D V gs) (c : Cell)
    (k seconds : ℕ) (site : Site D V gs)
    → IsModelledBy gs db.database given running c → slice_get running.sites.items k ≡ Some site
    → (IsNearAt running.sites.items k (site.clock + seconds) → ⊥)
    → unless_skewed db c (tick_at c.run.world.sites k seconds) (Tick k seconds) ≡ Err why.Skew
tick_skews {D} {V} {gs} db running c k seconds site stands there parted = by (may_tick ss) refl
  where
    ss : List ModelSite
    ss = tick_at c.run.world.sites k seconds

    items : List (Site D V gs)
    items = running.sites.items

    near_then : may_tick ss ≡ true → IsNearAt items k (site.clock + seconds)
    near_then is j other at less =
        let x = ticked_on seconds site in
        let are = tick_sites_of running c k seconds site stands there in
        let clocks : clocks_of ss ≡ set (clocks_in items) k x.clock = sites_clocks (set items k x) ss are
        ∙ map-set (λ (s : Site D V gs). s.clock) items k x in
        let near = near_read (set (clocks_in items) k x.clock) (subst (λ (l : List ℕ). are_near l ≡ true) clocks
        (left_of (are_near (clocks_of ss)) (are_moments (clocks_of ss)) is)) in
        let as_many : length (clocks_in items) ≡ length items = length-map items (λ (s : Site D V gs). s.clock) in
        let here = slice_get_within items k site there in
        let there' = slice_get_within items j other at in
        let n = near_unset (clocks_in items) k x.clock near (omega (arith, here, as_many)) j (omega (arith, there', as_many)) less in
        let e = clock_there items j other at in
        omega (arith, n, e)

    by : (b : Bool) → may_tick ss ≡ b → unless_skewed db c ss (Tick k seconds) ≡ Err why.Skew
    by true is = absurd (parted (near_then is))
    by false is = ap (λ (b : Bool). if b then Ok (with_event db c (Tick k seconds)) else Err why.Skew) is

-- ---- all clocks

abbrev pub all_ticked : {D V : Type 0} {g : Ghosts D} → OpenCell D V g → List (Site D V g) → OpenCell D V g
all_ticked running sites = record running { sites = with_items running.sites sites }

all_items : {D V : Type 0} {g : Ghosts D} (running : OpenCell D V g) (sites : List (Site D V g)) (seconds : ℕ)
    → sites ≡ map (ticked_on seconds) running.sites.items
    → (all_ticked running sites).sites.items ≡ map (ticked_on seconds) running.sites.items
all_items running sites seconds are =
    items_with running.sites sites (ap length are ∙ length-map running.sites.items (ticked_on seconds)) ∙ are

clocks_ticked : {D V : Type 0} {g : Ghosts D} (sites : List (Site D V g)) (seconds : ℕ)
    → clocks_in (map (ticked_on seconds) sites) ≡ map (λ (n : ℕ). n + seconds) (clocks_in sites)
clocks_ticked [] seconds = refl
clocks_ticked (site ∷ sites) seconds = ap (λ (l : List ℕ). (site.clock + seconds) ∷ l) (clocks_ticked sites seconds)

helds_of_ticked : {D V : Type 0} (g : Ghosts D) (sites : List (Site D V g)) (seconds : ℕ)
    → map (λ (s : Site D V g). held g (site_disk s)) (map (ticked_on seconds) sites) ≡ map (λ (s : Site D V g). held g (site_disk s)) sites
helds_of_ticked g [] seconds = refl
helds_of_ticked g (site ∷ sites) seconds = ap (λ (l : List Held). held g (site_disk site) ∷ l) (helds_of_ticked g sites seconds)

pub helds_all : {D V : Type 0} (g : Ghosts D) (running : OpenCell D V g) (sites : List (Site D V g)) (seconds : ℕ)
    → sites ≡ map (ticked_on seconds) running.sites.items → helds g (all_ticked running sites) ≡ helds g running
helds_all {D} {V} g running sites seconds are =
    ap (map (λ (s : Site D V g). held g (site_disk s))) (all_items running sites seconds are)
    ∙ helds_of_ticked g running.sites.items seconds

none_ticked : {D V : Type 0} {g : Ghosts D} (sites : List (Site D V g)) (seconds : ℕ) → seconds ≡ 0 → map (ticked_on seconds) sites ≡ sites
none_ticked [] seconds none = refl
none_ticked {D} {V} {g} (site ∷ sites) seconds none =
    let clock : site.clock + seconds ≡ site.clock = omega (arith, none) in
    ap (λ (n : ℕ). record site { clock = n } ∷ map (ticked_on seconds) sites) clock
    ∙ ap (λ (l : List (Site D V g)). site ∷ l) (none_ticked sites seconds none)

-- by no second
pub all_rests : {D V : Type 0} {g : Ghosts D} (running : OpenCell D V g) (sites : List (Site D V g)) (seconds : ℕ)
    → sites ≡ map (ticked_on seconds) running.sites.items
    → seconds ≡ 0 → (all_ticked running sites).sites.items ≡ running.sites.items
all_rests running sites seconds are none = all_items running sites seconds are ∙ none_ticked running.sites.items seconds none

pub all_keeps : {D V : Type 0} {g : Ghosts D} (db : Database) (running : OpenCell D V g) (sites : List (Site D V g)) (seconds : ℕ)
    → sites ≡ map (ticked_on seconds) running.sites.items → Keeps db running → Keeps db (all_ticked running sites)
all_keeps db running sites seconds are keeps =
    keeps_map db running (all_ticked running sites) keeps refl (ticked_on seconds) (λ site. refl)
    (all_items running sites seconds are) refl refl

pub all_sound : {D V : Type 0} (g : Ghosts D) (bound bound' : ℕ) (running : OpenCell D V g) (sites : List (Site D V g)) (seconds : ℕ)
    → sites ≡ map (ticked_on seconds) running.sites.items → IsSteady g bound running → bound + seconds ≤ MAX_MOMENT
    → IsSteady g bound' running
    → IsSteady g (bound' + seconds) (all_ticked running sites)
all_sound {D} {V} g bound bound' running sites seconds are sound fits sound' =
    let items = running.sites.items in
    let after = map (ticked_on seconds) items in
    let is = all_items running sites seconds are in
    let same : length (all_ticked running sites).sites.items ≡ length items = ap length is ∙ length-map items (ticked_on seconds) in
    let some = sound.some in
    let few = sound.few in
    record {
      some = omega (arith, some, same);
      few = omega (arith, few, same);
      hosts = sound.hosts ∙ ap hosts_of (sym same);
      sites = subst (λ (l : List (Site D V g)). AreSound g running.hosts.items 0 (bound' + seconds) l) (sym is)
          (sound_ticked g running.hosts.items 0 bound bound' seconds items fits sound.sites sound'.sites);
      near = ap (λ (l : List (Site D V g)). are_near (clocks_in l)) is ∙ ap are_near (clocks_ticked items seconds)
          ∙ near_make (map (λ (n : ℕ). n + seconds) (clocks_in items))
          (near_all (clocks_in items) seconds (near_read (clocks_in items) sound.near));
      told = sound.told;
    }

pub all_told : {D V : Type 0} {given : List ℕ} (g : Ghosts D) (db : ScriptDatabase) (bound : ℕ) (running : OpenCell D V g)
    (sites : List (Site D V g)) (c : Cell) (seconds : ℕ) (text : List ℕ) → sites ≡ map (ticked_on seconds) running.sites.items
    → IsSteady g bound running
    → bound + seconds ≤ MAX_MOMENT → IsModelledBy g db.database given running c
    → CellTold g db given (λ choices. unless_skewed db c (map (ticked seconds) c.run.world.sites) (Tick_all seconds)) None running
    (all_ticked running sites)
    text text
all_told {D} {V} {given} g db bound running sites c seconds text are sound fits stands =
    let is = all_items running sites seconds are in
    let ss = subst (λ (l : List (Site D V g)). AreSitesOf l (map (ticked seconds) c.run.world.sites)) (sym is)
    (sites_all_ticked running.sites.items c.run.world.sites seconds stands.sites) in
    record {
      choices = sound_choices;
      whole = record { most = refl; found = tt };
      ran = with_event db c (Tick_all seconds);
      is = ap (λ (b : Bool). if b then Ok (with_event db c (Tick_all seconds)) else Err why.Skew)
          (may g (bound + seconds) (all_ticked running sites) (map (ticked seconds) c.run.world.sites)
          (all_sound g bound bound running sites seconds are sound fits sound) ss);
      ends = refl;
      cell = record {
        hosts = stands.hosts;
        sites = ss;
        sent = stands.sent;
        handed = none_more c.run.world.packets c.handed ∙ stands.handed;
        armed = subst (λ (l : List (Site D V g)). AreArmed g l c.armed) (sym is)
            (armed_all g running.sites.items c.armed seconds stands.armed);
        disks =
            subst (λ (l : List Held). HoldRun db.database given false (with_event db c (Tick_all seconds)).cell l)
            (sym (helds_all g running sites seconds are))
            (hold_more db.database c (with_event db c (Tick_all seconds)).cell given (Tick_all seconds)
            (record { opening = refl; events = refl; world = refl })
            (helds g running) (helds g running) stands.disks
            (reads_all c.run.world.sites seconds (helds g running) stands.disks.read)
            (moved_same _ 0 (helds g running) (λ j x. (0, refl, omega arith))));
      };
      told = sym (append-nil text);
      causes = rises_same (helds g running) (helds g (all_ticked running sites)) (helds_all g running sites seconds are);
    }

pub fits_at : {D V : Type 0} (g : Ghosts D) (bound seconds : ℕ) (running : OpenCell D V g) (k : ℕ) (site : Site D V g)
    → IsSteady g bound running → bound + seconds ≤ MAX_MOMENT → slice_get running.sites.items k ≡ Some site
    → site.clock + seconds ≤ MAX_MOMENT
fits_at g bound seconds running k site sound fits there =
    let at = sound_at g running.hosts.items 0 bound running.sites.items k site sound.sites there in
    let within = at.within in
    omega (arith, within, fits)

-- ---- the place that was read

pub refused_so : {T : Type 0} (r : Result T Why) (w w' : Why) → IsErrAnd r (λ e. e ≡ w) → r ≡ Err w' → w ≡ w'
refused_so (Ok x) w w' is is' = absurd is
refused_so (Err e) w w' is is' = cc

-- a site that is written as it was read, but for its clock
pub ticked_so : {D V : Type 0} {g : Ghosts D} (running : OpenCell D V g) (k seconds : ℕ) (site other : Site D V g)
    → slice_get running.sites.items k ≡ Some site
    → slice_get running.sites.items k ≡ Some other
    → ticked_at running k seconds site ≡ record running
    { sites = with_item running.sites k (record { clock = site.clock + seconds; server = other.server }) }
ticked_so {D} {V} {g} running k seconds site other there there' =
    let same : site ≡ other = cc in
    ap (λ (s : Site D V g). record running
    { sites = with_item running.sites k (record { clock = site.clock + seconds; server = s.server }) }) same
