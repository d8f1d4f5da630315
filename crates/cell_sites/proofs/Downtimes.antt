-- Servers that stop, go down, and come back.
use Rattle.std.proofs.Common.{if◌then◌else◌, ◌≡◌, ◌≢◌, inl, inr, ◌<◌, ◌≤◌, ◌+◌, ℕ, Bool, true, false, Option, Some, None, IsSome, IsSomeAnd, Result, Ok, Err}
use Rattle.std.proofs.Common.{List, [], ◌∷◌, ◌++◌, length, map, set, refl, sym, ap, subst, ◌∙◌, arith}
use Rattle.std.specs.Prelude.{OnOk, slice_get}
use Rattle.std.proofs.lemmas.Bool.{eq-eqb, ne_eqb}
use Rattle.std.proofs.lemmas.List.{append-nil, length-set}
use Rattle.std.proofs.lemmas.List.Elements.{All-nil}
use Rattle.disk_base.specs.declared.disks.Disk.{Ghosts}
use Rattle.disk_base.specs.declared.disks.Fill.{Fill}
use Rattle.disk_base.specs.Crash.{Only}
use Rattle.disk_base.specs.Files.{Files}
use Rattle.disk_base.specs.Stops.{DiskStop, armed}
use Rattle.disk_base.specs.Stops.DiskStop.{Unarmed, Armed as ToStop}
use Rattle.ubik_types.specs.declared.hosts.Host.{Host}
use Rattle.ubik_types.specs.declared.memory.NoMemory.{NoMemory}
use Rattle.ubik_types.specs.declared.versions.Version.{Version}
use Rattle.ubik_store.specs.Gaps.{IsPlain}
use Rattle.cell_model.specs.Durable.{Durable}
use Rattle.cell_model.specs.Node as model
use Rattle.cell_model.specs.Step.{Member, Shown, cell_size}
use Rattle.cell_model.specs.World.{Site as ModelSite, Crash, Restart, Restarts, Stays_down, Happened, SiteHappened, crash_at, happened_at, happens, happens_at}
use Rattle.cell_model.specs.World.{packets_of, restart_at, site_of}
use Rattle.cell_runs.specs.ScriptDatabase.{ScriptDatabase}
use Rattle.cell_runs.specs.Script.{Armed, Cell, Choice, Run_or_why, armed_at, cell_after, first_choice, happened, resting, with_event, Choices, IsHeard, sound_choices}
use Rattle.cell_runs.specs.Trace.{Tells, fault_count, trace}
use Rattle.write_laws.specs.Spreads.{WritesSpread}
use Rattle.ubik_node.specs.declared.nodes.Node.{Node}
use Rattle.ubik_node.specs.Disk.{IsArmed, IsRevived, StandsAs}
use Rattle.server_state.specs.declared.state.State.{State}
use Rattle.server_state.specs.State.{member_of, server_of}
use Rattle.ubik_node.specs.Node.{node_of, own_member, up_server}
use Rattle.cell_sites.specs.declared.cells.OpenCell.{OpenCell}
use Rattle.cell_sites.specs.declared.openings.OpenEnd.{OpenEnd}
use Rattle.cell_sites.specs.declared.openings.OpenEnd.TheVariants as opened
use Rattle.cell_sites.specs.declared.sites.Server.{Server}
use Rattle.cell_sites.specs.declared.sites.Server.TheVariants.{Down, Up}
use Rattle.cell_sites.specs.declared.sites.Site.{Site}
use Rattle.cell_sites.specs.Counts.{HoldRun, IsRiseIn, IsSurplus, OpensAt, OpensWhere, RisesAs}
use Rattle.cell_sites.specs.Disks.{AreRises, IsReadBy, held}
use Rattle.cell_sites.specs.OpenedServer.{ServerIs, ServerOpens, is_cut_short}
use Rattle.cell_sites.specs.Reopened.{SiteReopened, reopened_marks}
use Rattle.cell_sites.specs.Sites.{AreArmed, AreSitesOf, IsArmedAs, IsModelledBy, helds, server_disk, server_node, site_disk}
use Rattle.cell_sites.specs.Sound.{IsSoundDisk, IsSoundNode, IsSoundServer, IsSteady, Keeps, KeepsServer}
use Rattle.cell_sites.specs.Stepped.{TakenDown, member_at, up_site}
use Rattle.cell_sites.specs.Telling.{told_of}
use Rattle.cell_sites.specs.Told.{CellTold, IsShort}
use Rattle.cell_sites.specs.Traffic.{Traffic, sent_all}
use Rattle.cell_sites.proofs.Agreeing.{AreMarks}
use Rattle.cell_sites.proofs.Arming.{armed_here, armed_set, armed_still}
use Rattle.cell_sites.proofs.AtPlace.{IsSiteAt, site_at, sites_set}
use Rattle.cell_sites.proofs.Counting.{hold_added, hold_as, hold_more, hold_still, no_surplus, same_run}
use Rattle.cell_sites.proofs.Delivering.{set_same}
use Rattle.cell_sites.proofs.Happening.{with_armed}
use Rattle.cell_sites.proofs.Keeping.{closed_keeps, keeps_set, opened_keeps}
use Rattle.cell_sites.proofs.Plainly.{and_some, make_if, make_some, of_some, some_of}
use Rattle.cell_sites.proofs.Reading.{read_at}
use Rattle.cell_sites.proofs.Running.{held_at, moved_set, reads_both, reads_set, rises_set, short_after, whole, whole_choices}
use Rattle.cell_sites.proofs.Soundly.{none_sent, sound_after}

-- what a call says that did not find memory wanting
pub ok_says : {P : Type 0} (r : Result (Unit {0}) NoMemory) → r ≡ Ok tt → OnOk r P → P
ok_says (Ok x) ok says = says
ok_says (Err e) ok says = absurd cc

zero_add : (n : ℕ) → n ≡ 0 + n
zero_add n = omega arith

-- ---- another server at a place

module _ {D V : Type 0} (g : Ghosts D) (running after : OpenCell D V g) (k : ℕ) (site later : Site D V g)
    (there : slice_get running.sites.items k ≡ Some site)
    (sites : after.sites.items ≡ set running.sites.items k later) where
  -- no disk failed fewer times
  pub rises_at : g.faults (site_disk site) ≤ g.faults (site_disk later) → AreRises 0 [] (helds g running) (helds g after)
  rises_at kept =
      subst (λ (l : List (Site D V g)). AreRises 0 [] (helds g running) (map (held_at {V = V} g) l)) (sym sites)
      (rises_set g [] 0 k running.sites.items site later there (omega (arith, kept)) (λ j other. refl))

  pub many_at : length after.sites.items ≡ length running.sites.items
  many_at = ap length sites ∙ length-set running.sites.items k later

  pub sound_at_place : (bound : ℕ) → IsSteady g bound running → later.clock ≡ site.clock
      → IsSoundServer g (member_at running k) later.clock later.server → IsSoundDisk g (site_disk later)
      → after.hosts.items ≡ running.hosts.items → after.outputs ≡ running.outputs → IsSteady g bound after
  sound_at_place bound sound clock is disk hosts outputs =
      sound_after g bound running after k site later sound there clock is disk sites hosts (outputs ∙ sound.told)

-- ---- a disk that is armed

-- what is armed at a server that is up
armed_so : (halted : Bool) (s : model.Server) (before : DiskStop) (was : Option Armed) (calls : ℕ) (fill : Fill)
    → IsArmedAs (if halted then model.Halted (model.halted_from s) else model.Up s) was before
    → IsArmedAs (if halted then model.Halted (model.halted_from s) else model.Up s) (Some (record { calls = calls; made = 0 }))
    (armed before calls fill)
armed_so true s before was calls fill stops = tt
armed_so false s before None calls fill stops =
    (omega arith, (fill, ap (λ (b : DiskStop). armed b calls fill) stops ∙ ap (λ (n : ℕ). ToStop n fill) (omega arith)))
armed_so false s before (Some a) calls fill stops =
    (omega arith, (fill, ap (λ (b : DiskStop). armed b calls fill) stops.1.1 ∙ ap (λ (n : ℕ). ToStop n fill) (omega arith)))

module _ {D V : Type 0} (g : Ghosts D) (running after : OpenCell D V g) (k clock calls : ℕ) (fill : Fill) (node later : Node D V g)
    (there : slice_get running.sites.items k ≡ Some (up_site clock node))
    (sites : after.sites.items ≡ set running.sites.items k (up_site clock later))
    (hosts : after.hosts.items ≡ running.hosts.items) (packets : after.packets ≡ running.packets)
    (disk : IsArmed g calls fill node.store.disk later.store.disk)
    (same : (later.state ≡ node.state) × (later.store.failed ≡ node.store.failed) × (later.last ≡ node.last)) where
  node_same : node_of later ≡ node_of node
  node_same =
      ap (λ (h : Bool). if h then model.Halted (model.halted_from (up_server later)) else model.Up (up_server later)) same.1
      ∙ ap (λ (s : State). if node.store.failed then model.Halted (model.halted_from (server_of s)) else model.Up (server_of s)) same.0

  pub arm_told : (script_db : ScriptDatabase) (given : List ℕ) (c : Cell) (run : Choices → Run_or_why) (text : List ℕ)
      → IsModelledBy g script_db.database given running c
      → ((choices : Choices) → run choices ≡ Ok (resting (record c { armed = set c.armed k (Some (record { calls = calls; made = 0 })) })))
      → CellTold g script_db given run None running after text text
  arm_told script_db given c run text stands does =
      let site = site_at running.sites.items c.run.world.sites k (up_site clock node) stands.sites there in
      let now = set c.armed k (Some (record { calls = calls; made = 0 })) in
      let was = armed_here g running.sites.items c.armed k (up_site clock node) stands.armed there in
      let read = read_at g c.run.world.sites running.sites.items k site.s (up_site clock node) stands.disks.read site.there there in
      record {
        choices = sound_choices;
        whole = record { most = refl; found = tt };
        ran = resting (record c { armed = now });
        is = does sound_choices;
        ends = refl;
        cell = record {
          hosts = stands.hosts ∙ sym hosts;
          sites = subst (λ (l : List (Site D V g)). AreSitesOf l c.run.world.sites) (sym sites)
              (subst (λ (l : List ModelSite). AreSitesOf (set running.sites.items k (up_site clock later)) l)
              (set_same c.run.world.sites k site.s site.there)
              (sites_set running.sites.items c.run.world.sites k (up_site clock later) site.s stands.sites
              (record { clock = site.is.clock; node = site.is.node ∙ sym node_same })));
          sent = stands.sent ∙ ap (λ (t : Traffic). t.sent) (sym packets);
          handed = stands.handed ∙ ap (λ (t : Traffic). t.handed) (sym packets);
          armed = subst (λ (l : List (Site D V g)). AreArmed g l now) (sym sites)
              (armed_set g running.sites.items c.armed k (up_site clock later) (Some (record { calls = calls; made = 0 })) stands.armed
              (subst (λ (n : model.Node). IsArmedAs n (Some (record { calls = calls; made = 0 })) (g.stop later.store.disk)) (sym node_same)
              (subst (λ (s : DiskStop). IsArmedAs (node_of node) (Some (record { calls = calls; made = 0 })) s) (sym disk.stop)
              (armed_so node.store.failed (up_server node) (g.stop node.store.disk) (armed_at c.armed k) calls fill was))));
          disks = hold_as script_db.database c (with_armed c now) given false (helds g after) (same_run c (with_armed c now) refl refl refl)
              (subst (λ (l : List (Site D V g)). HoldRun script_db.database given false c (map (held_at {V = V} g) l)) (sym sites)
              (hold_still script_db.database c given (helds g running)
              (map (held_at {V = V} g) (set running.sites.items k (up_site clock later)))
              (reads_set g c.run.world.sites running.sites.items k site.s (up_site clock later) stands.disks.read site.there
              (subst (λ (f : Option Files). IsSomeAnd f (StandsAs site.s.durable)) (sym disk.files) read))
              (moved_set g (λ j x y. y.steps ≡ x.steps) 0 k running.sites.items (up_site clock node)
              (up_site clock later) there disk.steps (λ j x other. refl))
              stands.disks));
        };
        told = sym (append-nil text);
        causes = rises_at g running after k (up_site clock node) (up_site clock later) there sites
            (let f = disk.faults in omega (arith, f));
      }

module _ {D V : Type 0} (g : Ghosts D) (clock calls : ℕ) (fill : Fill) (node later : Node D V g)
    (disk : IsArmed g calls fill node.store.disk later.store.disk)
    (same : (later.state ≡ node.state) × (later.store.failed ≡ node.store.failed) × (later.last ≡ node.last)) where
  -- it stays sound
  pub arm_disk : IsSoundDisk g node.store.disk → IsSoundDisk g later.store.disk
  arm_disk sound =
      let at = some_of (g.files node.store.disk) sound.told in
      let is : g.files later.store.disk ≡ Some at.0 = disk.files ∙ at.1 in
      record {
        told = subst IsSome (sym disk.files) sound.told;
        settled = make_if (g.files later.store.disk) at.0 (λ fs. Only fs (g.may_leave later.store.disk)) is
            (λ c left. of_some (g.files node.store.disk) at.0 (λ fs. Only fs (g.may_leave node.store.disk)) at.1 sound.settled c
            (disk.crash.no_more c left));
        plain = make_if (g.files later.store.disk) at.0 IsPlain is (of_some (g.files node.store.disk) at.0 IsPlain at.1 sound.plain);
      }

  pub arm_node : (m : Member) → IsSoundNode g m clock node → IsSoundNode g m clock later
  arm_node m sound =
      let member : own_member later ≡ m = ap (λ (s : State). member_of s) same.0 ∙ sound.member in
      record {
        last = let l = sound.last in let is = same.2 in omega (arith, l, is);
        member = member;
      }

-- ---- a server that goes down

-- a settled disk is revived as it is
pub revived_read : {D : Type 0} (g : Ghosts D) (old new : D) (d : Durable) → IsSoundDisk g old → IsRevived g old new
    → IsSomeAnd (g.files old) (StandsAs d) → IsSomeAnd (g.files new) (StandsAs d)
revived_read g old new d sound revived read =
    let at = some_of (g.files old) sound.told in
    let there = some_of (g.files new) (revived.told (g.tells_now old sound.told)) in
    let left = of_some (g.files new) there.0 (λ fs. g.may_leave old fs × Only fs (g.may_leave new)) there.1 revived.left in
    let same : there.0 ≡ at.0 = of_some (g.files old) at.0 (λ fs. Only fs (g.may_leave old)) at.1 sound.settled there.0 left.0 in
    make_some (g.files new) there.0 (StandsAs d) there.1
    (subst (StandsAs d) (sym same) (and_some (g.files old) at.0 (StandsAs d) at.1 read))

pub revived_sound : {D : Type 0} (g : Ghosts D) (old new : D) → IsSoundDisk g old → IsRevived g old new
    → IsSoundDisk g new
revived_sound {D} g old new sound revived =
    let at = some_of (g.files old) sound.told in
    let some = revived.told (g.tells_now old sound.told) in
    let there = some_of (g.files new) some in
    let left = of_some (g.files new) there.0 (λ fs. g.may_leave old fs × Only fs (g.may_leave new)) there.1 revived.left in
    let same : there.0 ≡ at.0 = of_some (g.files old) at.0 (λ fs. Only fs (g.may_leave old)) at.1 sound.settled there.0 left.0 in
    record {
      told = some;
      settled = make_if (g.files new) there.0 (λ fs. Only fs (g.may_leave new)) there.1 left.1;
      plain =
          make_if (g.files new) there.0 IsPlain there.1 (subst IsPlain (sym same) (of_some (g.files old) at.0 IsPlain at.1 sound.plain));
    }

module _ {D V : Type 0} (g : Ghosts D) (running after : OpenCell D V g) (k : ℕ) (down : TakenDown g k running after)
    (disk : IsSoundDisk g (server_disk down.server)) where
  abbrev pub before_site : Site D V g
  before_site = record { clock = down.clock; server = down.server }

  abbrev pub down_site : Site D V g
  down_site = record { clock = down.clock; server = Down down.disk }

  pub crash_told : (script_db : ScriptDatabase) (given : List ℕ) (c : Cell) (run : Choices → Run_or_why) (text : List ℕ)
      → IsModelledBy g script_db.database given running c
      → ((choices : Choices) → run choices ≡ Ok (with_event script_db (record c { armed = set c.armed k None }) (Crash k)))
      → CellTold g script_db given run None running after text text
  crash_told script_db given c run text stands does =
      let site = site_at running.sites.items c.run.world.sites k before_site stands.sites down.there in
      let h : SiteHappened = crash_at site.s in
      let now = set c.armed k None in
      let read = read_at g c.run.world.sites running.sites.items k site.s before_site stands.disks.read site.there down.there in
      let happened_so : happens script_db.database c.run.world (Crash k) ≡ happened_at c.run.world k h = ap
      (happens_at c.run.world k crash_at) site.there in
      let cell_next = cell_after (with_armed c now) (Crash k) (happened_at c.run.world k h) in
      whole g script_db given running after c stands k (Crash k) h now run []
      (does (whole_choices [])
      ∙ ap (λ (x : Happened). Ok (happened (with_armed c now) (Crash k) x)) happened_so) tt before_site down_site down.there down.sites
      (let f = down.revived.faults in omega (arith, f)) (λ j other. refl)
      tt text text text (ap (λ (t : Traffic). record { after = record { text = text; sent = t.sent }; ending = None })
      (sym down.packets)) (sym (append-nil text))
      down.hosts (down.packets ∙ none_sent running.packets) (record { clock = site.is.clock; node = refl })
      (subst (λ (l : List (Site D V g)). AreArmed g l now) (sym down.sites)
      (armed_set g running.sites.items c.armed k down_site None stands.armed (refl, down.revived.unarmed)))
      (subst (λ (l : List (Site D V g)). HoldRun script_db.database given false cell_next (map (held_at {V = V} g) l)) (sym down.sites)
      (hold_more script_db.database c cell_next given (Crash k) (record
      { opening = refl; events = refl; world = ap (λ (x : Happened). x.world) (sym happened_so) }) (helds g running)
      (map (held_at {V = V} g) (set running.sites.items k down_site)) stands.disks
      (reads_both g c.run.world.sites running.sites.items k h.site down_site stands.disks.read
      (revived_read g (server_disk down.server) down.disk site.s.durable disk down.revived read))
      (moved_set g (λ j x y. (more : ℕ) × (more ≡ 0) × (y.steps ≡ x.steps + more)) 0 k running.sites.items before_site down_site down.there
      (0, refl, (let s = down.revived.steps in omega (arith, s))) (λ j x other. (0, refl, omega arith)))))

  pub crash_rises : AreRises 0 [] (helds g running) (helds g after)
  crash_rises = rises_at g running after k before_site down_site down.there down.sites (let f = down.revived.faults in omega (arith, f))

  pub crash_sound : (bound : ℕ) → IsSteady g bound running → IsSteady g bound after
  crash_sound bound sound =
      sound_at_place g running after k before_site down_site down.there down.sites bound sound refl tt
      (revived_sound g (server_disk down.server) down.disk disk down.revived) down.hosts down.outputs

-- ---- a server that is opened again

-- a server that is down is sound
down_sound : {D V : Type 0} (g : Ghosts D) (m : Member) (clock : ℕ) (s : Server D V g) → server_node s ≡ model.Down
    → IsSoundServer g m clock s
down_sound g m clock (Down disk) is = tt
down_sound g m clock (Up n) is = absurd (by n.store.failed is)
  where
    by : (h : Bool) → (if h then model.Halted (model.halted_from (up_server n)) else model.Up (up_server n)) ≡ model.Down → ⊥
    by true is = cc
    by false is = cc

module _ {D V : Type 0} (g : Ghosts D) (script_db : ScriptDatabase) (running after : OpenCell D V g) (k : ℕ)
    (result : Result (Unit {0}) NoMemory) (tb ta : List ℕ) (bound : ℕ) (sound : IsSteady g bound running)
    (re : SiteReopened g script_db k result running after tb ta) (stood : (d : Durable) × IsSomeAnd (g.files re.disk) (StandsAs d)) where
  abbrev pub closed_site : Site D V g
  closed_site = record { clock = re.clock; server = Down re.disk }

  abbrev pub open_site : Site D V g
  open_site = record { clock = re.clock; server = re.server }

  -- what is known of it whatever its files stand for
  some_durable : (d : Durable) × ServerOpens g (member_at running k) re.clock d re.end re.disk re.server
  some_durable = (stood.0, re.opens stood.0 stood.1)

  pub reopen_rises : AreRises 0 [] (helds g running) (helds g after)
  reopen_rises = rises_at g running after k closed_site open_site re.there re.sites some_durable.1.never_falls

  server_sound : (end : OpenEnd) (d : Durable) → ServerIs g (member_at running k) re.clock d end re.disk re.server
      → IsSoundServer g (member_at running k) re.clock re.server
  server_sound (opened.Up version) d is = is.2
  server_sound opened.StaysDown d is = down_sound g (member_at running k) re.clock re.server is.0
  server_sound opened.NoMemory d is = down_sound g (member_at running k) re.clock re.server is

  pub reopen_sound : (other : ℕ) → IsSteady g other running → IsSteady g other after
  reopen_sound other still =
      sound_at_place g running after k closed_site open_site re.there re.sites other still refl
      (server_sound re.end some_durable.0 some_durable.1.is)
      some_durable.1.sound re.hosts re.outputs

  -- a server that was opened takes writes
  server_keeps : WritesSpread → (end : OpenEnd) (d : Durable) → ServerIs g (member_at running k) re.clock d end re.disk re.server
      → KeepsServer script_db.database running.hosts.items running.calls re.server
  server_keeps law (opened.Up version) d is =
      opened_keeps script_db.database running.hosts.items running.calls law d re.clock is.3 re.server is.0
  server_keeps law opened.StaysDown d is = closed_keeps script_db.database running.hosts.items running.calls re.server is.0
  server_keeps law opened.NoMemory d is = closed_keeps script_db.database running.hosts.items running.calls re.server is

  pub reopen_keeps : WritesSpread → Keeps script_db.database running → Keeps script_db.database after
  reopen_keeps law keeps =
      keeps_set script_db.database running after keeps re.hosts k open_site [] re.sites re.calls (re.packets ∙ none_sent running.packets)
      (server_keeps law re.end some_durable.0 some_durable.1.is) (All-nil _)

  pub reopen_many : length after.sites.items ≡ length running.sites.items
  reopen_many = many_at g running after k closed_site open_site re.there re.sites

  module _ (given : List ℕ) (c : Cell) (stands : IsModelledBy g script_db.database given running c) where
    pub site : IsSiteAt (closed_site) c.run.world.sites k
    site = site_at running.sites.items c.run.world.sites k closed_site stands.sites re.there

    read : IsReadBy site.s (held g re.disk)
    read = read_at g c.run.world.sites running.sites.items k site.s closed_site stands.disks.read site.there re.there

    opens : ServerOpens g (member_at running k) re.clock site.s.durable re.end re.disk re.server
    opens = re.opens site.s.durable read

    -- the calls of the opening
    opens_over : (failed : Bool) → is_cut_short re.end ≡ failed
        → (rise : ℕ) × OpensAt (site_of c.run.world k) failed rise × (g.steps (server_disk re.server) ≡ g.steps re.disk + rise)
    opens_over failed is =
        let calls = opens.calls in (
          calls.rise,
          subst (λ (o : Option ModelSite). OpensAt o failed calls.rise) (sym site.there)
              (record {
                files = calls.files;
                stands = and_some (g.files re.disk) calls.files (StandsAs site.s.durable) calls.there read;
                calls = calls.calls;
                opens = calls.opens;
                rises = subst (λ (b : Bool). RisesAs b calls.calls calls.rise) is calls.rises;
              }),
          calls.is,
        )

    choice_of : Bool → Choice
    choice_of failed = record { fails = failed; made = 0; took = false; unheard = []; short = [] }

    heard : (failed : Bool) → IsHeard (choice_of failed)
    unfolding choice_of
    heard failed = refl

    -- the line as the model has it
    abbrev pub restarts : Choices → Run_or_why
    restarts choices = Ok (with_event script_db c (Restart k (first_choice choices).fails))

    module _ (failed : Bool) (cut : is_cut_short re.end ≡ failed)
        (node_is : server_node
        re.server ≡ (if failed then model.Down else model.Up (model.opened_server (length running.hosts.items) site.s.durable re.clock)))
        (faulted : failed ≡ true → g.faults re.disk < g.faults (server_disk re.server)) where
      abbrev pub h : SiteHappened
      h = restart_at (length c.run.world.hosts) k failed site.s

      pub happened_so : happens script_db.database c.run.world (Restart k failed) ≡ happened_at c.run.world k h
      happened_so = ap (happens_at c.run.world k (restart_at (length c.run.world.hosts) k failed)) site.there

      abbrev cell_next : Cell
      cell_next = cell_after (with_armed c c.armed) (Restart k failed) (happened_at c.run.world k h)

      durable_same : (b : Bool) → (restart_at (length c.run.world.hosts) k b site.s).site.durable ≡ site.s.durable
      durable_same true = refl
      durable_same false = refl

      clock_same : (b : Bool) → (restart_at (length c.run.world.hosts) k b site.s).site.clock ≡ site.s.clock
      clock_same true = refl
      clock_same false = refl

      node_next : (b : Bool)
          → (restart_at (length c.run.world.hosts) k b site.s).site.node ≡
          (if b then model.Down else model.Up (model.opened_server (length running.hosts.items) site.s.durable re.clock))
      node_next true = site.is.node
      node_next false =
          ap (λ (hosts : List Host). model.Up (model.opened_server (length hosts) site.s.durable site.s.clock)) stands.hosts
          ∙ ap (λ (now : ℕ). model.Up (model.opened_server (length running.hosts.items) site.s.durable now)) site.is.clock

      marks_are : (b : Bool) → AreMarks (restart_at (length c.run.world.hosts) k b site.s).marks
      marks_are true = tt
      marks_are false = tt

      shown_none : (b : Bool) → (restart_at (length c.run.world.hosts) k b site.s).shown ≡ []
      shown_none true = refl
      shown_none false = refl

      faults_told : (b : Bool) → (b ≡ true → g.faults re.disk < g.faults (server_disk re.server))
          → g.faults re.disk ≤ g.faults (server_disk re.server)
          → g.faults re.disk + fault_count k (map Tells (restart_at (length c.run.world.hosts) k b site.s).marks) ≤ g.faults
          (server_disk re.server)
      faults_told true rose kept =
          let one : fault_count k (map Tells (Stays_down k ∷ [])) ≡ 1 = ap (λ (b : Bool). (if b then 1 else 0) + 0) (eq-eqb k k refl) in
          let more = rose refl in omega (arith, one, more)
      faults_told false rose kept = omega (arith, kept)

      faults_others : (b : Bool) (j : ℕ) → j ≢ k → fault_count j (map Tells (restart_at (length c.run.world.hosts) k b site.s).marks) ≡ 0
      faults_others true j other = ap (λ (b : Bool). (if b then 1 else 0) + 0) (ne_eqb k j (λ e. other (sym e)))
      faults_others false j other = refl

      hold_next : HoldRun script_db.database given false cell_next (helds g after)
      hold_next =
          let over = opens_over failed cut in
          subst (λ (l : List (Site D V g)). HoldRun script_db.database given false cell_next (map (held_at {V = V} g) l)) (sym re.sites)
          (hold_more script_db.database c cell_next given (Restart k failed)
          (record { opening = refl; events = refl; world = ap (λ (x : Happened). x.world) (sym happened_so) }) (helds g running)
          (map (held_at {V = V} g) (set running.sites.items k open_site)) stands.disks
          (reads_both g c.run.world.sites running.sites.items k h.site open_site stands.disks.read
          (subst (λ (d : Durable). IsSomeAnd (g.files (server_disk re.server)) (StandsAs d)) (sym (durable_same failed)) opens.stands))
          (moved_set g (λ j x y. (more : ℕ) × IsRiseIn script_db.database c.run.world (Restart k failed) j more
          × (y.steps ≡ x.steps + more)) 0 k
          running.sites.items closed_site open_site re.there
          (over.0, here_rise (0 + k) (sym (zero_add k)) over.0 over.1, over.2)
          (λ j x other. (0, other_rise j (λ same. other (same ∙ zero_add k)), omega arith))))
        where
          here_rise : (j : ℕ) → j ≡ k → (rise : ℕ) → OpensAt (site_of c.run.world k) failed rise
              → IsRiseIn script_db.database c.run.world (Restart k failed) j rise
          here_rise j same rise over =
              let P : Bool → Type 0 = λ b. OpensWhere b (site_of c.run.world j) failed rise in
              subst P (sym (eq-eqb k j (sym same))) (subst (λ (n : ℕ). OpensAt (site_of c.run.world n) failed rise) (sym same) over)

          other_rise : (j : ℕ) → j ≢ k → IsRiseIn script_db.database c.run.world (Restart k failed) j 0
          other_rise j other =
              let P : Bool → Type 0 = λ b. OpensWhere b (site_of c.run.world j) failed 0 in
              subst P (sym (ne_eqb k j (λ e. other (sym e)))) refl

      line_is : restarts (whole_choices (choice_of failed ∷ [])) ≡ Ok
          (happened (with_armed c c.armed) (Restart k failed) (happened_at c.run.world k h))
      unfolding choice_of
      line_is = ap (λ (x : Happened). Ok (happened c (Restart k failed) x)) happened_so

      pub reopen_told : (marks : ta ≡ tb ++ trace script_db running.hosts.items (map Tells h.marks))
          → CellTold g script_db given restarts None running after tb ta
      reopen_told marks =
          whole g script_db given running after c stands k (Restart k failed) h c.armed restarts (choice_of failed ∷ []) line_is
          (marks_are failed) closed_site
          open_site re.there re.sites
          (faults_told failed faulted opens.never_falls) (faults_others failed)
          (heard failed, tt) tb tb ta
          (ap (told_of script_db running.hosts.items k (record { text = tb; sent = running.packets.sent })) (shown_none failed)
          ∙ ap (λ (t : Traffic). record { after = record { text = tb; sent = t.sent }; ending = None }) (sym re.packets)) marks re.hosts
          (re.packets ∙ none_sent running.packets
          ∙ ap (λ (l : List Shown). sent_all running.packets (packets_of l)) (sym (shown_none failed)))
          (record { clock = clock_same failed ∙ site.is.clock; node = node_next failed ∙ sym node_is })
          (subst (λ (l : List (Site D V g)). AreArmed g l c.armed) (sym re.sites)
          (armed_still g running.sites.items c.armed k open_site stands.armed arms))
          hold_next
        where
          arms : IsArmedAs (server_node re.server) (armed_at c.armed k) (g.stop (server_disk re.server))
          arms =
              let was = armed_here g running.sites.items c.armed k closed_site stands.armed re.there in
              subst (λ (n : model.Node). IsArmedAs n (armed_at c.armed k) (g.stop (server_disk re.server))) (sym node_is)
              (subst (λ (a : Option Armed). IsArmedAs (if failed then model.Down else model.Up
              (model.opened_server (length running.hosts.items) site.s.durable re.clock)) a (g.stop (server_disk re.server))) (sym was.0)
              (so failed (opens.unarmed was.1)))
            where
              so : (b : Bool) → g.stop (server_disk re.server) ≡ Unarmed
                  → IsArmedAs (if b then model.Down else model.Up
                  (model.opened_server (length running.hosts.items) site.s.durable re.clock)) None
                  (g.stop (server_disk re.server))
              so true unarmed = (refl, unarmed)
              so false unarmed = unarmed

      pub reopen_short_after : IsShort g script_db.database given restarts c running after
      reopen_short_after =
          short_after g script_db given running after c stands k (Restart k failed) h c.armed restarts (choice_of failed ∷ []) line_is
          (marks_are failed)
          closed_site open_site re.there re.sites
          (faults_told failed faulted opens.never_falls) (faults_others failed) hold_next

    -- ---- by how it ended

    abbrev is_server : OpenEnd → Type 0
    is_server end = ServerIs g (member_at running k) re.clock site.s.durable end re.disk re.server

    server_as : (end : OpenEnd) → re.end ≡ end → is_server end
    server_as end is = subst is_server is opens.is

    cut_as : (end : OpenEnd) → re.end ≡ end → is_cut_short re.end ≡ is_cut_short end
    cut_as end is = ap is_cut_short is

    -- all was told
    pub reopen_line : result ≡ Ok tt → CellTold g script_db given restarts None running after tb ta
    reopen_line ok = by re.end refl
      where
        told : (end : OpenEnd) → re.end ≡ end → ta ≡ tb ++ trace script_db running.hosts.items (map Tells (reopened_marks k end))
        told end is = (re.told ok).1 ∙ ap (λ (e : OpenEnd). tb ++ trace script_db running.hosts.items (map Tells (reopened_marks k e))) is

        by : (end : OpenEnd) → re.end ≡ end → CellTold g script_db given restarts None running after tb ta
        by (opened.Up version) is =
            let server = server_as (opened.Up version) is in
            reopen_told false (cut_as (opened.Up version) is) server.0 (λ never. absurd cc)
            (told (opened.Up version) is
            ∙ ap (λ (v : Version). tb ++ trace script_db running.hosts.items (map Tells (Restarts k v ∷ []))) server.1)
        by opened.StaysDown is =
            let server = server_as opened.StaysDown is in
            reopen_told true (cut_as opened.StaysDown is) server.0 (λ yes. server.1) (told opened.StaysDown is)
        by opened.NoMemory is = absurd ((re.told ok).0 is)

    -- memory ran out
    pub reopen_short : IsShort g script_db.database given restarts c running after
    reopen_short = by re.end refl
      where
        surplus : re.end ≡ opened.NoMemory → HoldRun script_db.database given true c (helds g after)
        surplus is =
            let over = opens_over true (cut_as opened.NoMemory is) in
            subst (λ (l : List (Site D V g)). HoldRun script_db.database given true c (map (held_at {V = V} g) l)) (sym re.sites)
            (hold_added script_db.database c c given (same_run c c refl refl refl) false true (helds g running)
            (map (held_at {V = V} g) (set running.sites.items k open_site)) stands.disks
            (reads_set g c.run.world.sites running.sites.items k site.s open_site stands.disks.read site.there opens.stands)
            (moved_set g (λ j x y. (more : ℕ)
            × ((was : ℕ) → IsSurplus false (site_of c.run.world j) was → IsSurplus true (site_of c.run.world j)
            (was + more)) × (y.steps ≡ x.steps + more)) 0 k running.sites.items closed_site open_site re.there
            (over.0, (λ was none. inr (here_over (0 + k) (sym (zero_add k)) was none over.0 over.1)), over.2)
            (λ j x other. (0, (λ was none. no_surplus (site_of c.run.world j) was none), omega arith))))
          where
            here_over : (j : ℕ) → j ≡ k → (was : ℕ) → was ≡ 0 → (rise : ℕ) → OpensAt (site_of c.run.world k) true rise
                → OpensAt (site_of c.run.world j) true (was + rise)
            here_over j same was none rise over =
                let sum : rise ≡ was + rise = omega (arith, none) in
                subst (λ (n : ℕ). OpensAt (site_of c.run.world j) true n) sum
                (subst (λ (n : ℕ). OpensAt (site_of c.run.world n) true rise) (sym same) over)

        by : (end : OpenEnd) → re.end ≡ end → IsShort g script_db.database given restarts c running after
        by (opened.Up version) is =
            let server = server_as (opened.Up version) is in
            reopen_short_after false (cut_as (opened.Up version) is) server.0 (λ never. absurd cc)
        by opened.StaysDown is =
            let server = server_as opened.StaysDown is in
            reopen_short_after true (cut_as opened.StaysDown is) server.0 (λ yes. server.1)
        by opened.NoMemory is = inl (surplus is)
