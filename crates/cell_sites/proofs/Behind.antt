-- The run of the world that stands behind a cell, and that it stays one in each line.
use Rattle.std.proofs.Common.{if◌then◌else◌, ◌≡◌, ◌&&◌, ◌<◌, ◌≤◌, ◌-◌, ℕ, zero, suc, Bool, true, false, Some, None, Ok, Err, List, length, map, set}
use Rattle.std.proofs.Common.{refl, sym, ap, subst, ◌∙◌, arith}
use Rattle.std.proofs.lemmas.Bool.Decides.{nat_tests}
use Rattle.std.specs.Prelude.{IsSomeAnd, nat_le, nat_lt, slice_get}
use Rattle.disk_base.specs.declared.disks.Disk.{Ghosts}
use Rattle.db_image.specs.Database.{Database}
use Rattle.db_image.specs.Standing.{Standing}
use Rattle.cell_model.specs.Book.{Run}
use Rattle.cell_model.specs.declared.events.NodeEvent.{NodeEvent}
use Rattle.cell_model.specs.Durable.{Durable}
use Rattle.cell_model.specs.Node as model
use Rattle.cell_model.specs.NodeRule.{step_of}
use Rattle.cell_model.specs.Step.{Member}
use Rattle.cell_model.specs.World.{site_of}
use Rattle.cell_model.specs.Writes.{announced_image}
use Rattle.cell_script.specs.declared.lines.Line.{Line}
use Rattle.cell_script.specs.declared.lines.Line.TheVariants as line
use Rattle.cell_script.specs.declared.lines.Why.TheVariants as why
use Rattle.cell_runs.specs.Script.{Cell, Choices, asked_at, delivered, first_choice, resting, run_in, sound_choices}
use Rattle.cell_runs.specs.ScriptDatabase.{ScriptDatabase}
use Rattle.flight_laws.specs.Flights.{HasWrites, WritesStand}
use Rattle.recovery_laws.specs.Stands.{AllStand, ImagesStand, IsMeantImage, IsService}
use Rattle.script_laws.specs.CellRuns.{CellsGoOn, TicksOn}
use Rattle.ubik_node.specs.declared.nodes.Node.{Node}
use Rattle.ubik_node.specs.Disk.{StandsAs}
use Rattle.ubik_node.specs.Node.{node_of}
use Rattle.cell_sites.specs.declared.cells.OpenCell.{OpenCell}
use Rattle.cell_sites.specs.declared.sites.Site.{Site}
use Rattle.cell_sites.specs.Counts.{HoldRun}
use Rattle.cell_sites.specs.Disks.{held}
use Rattle.cell_sites.specs.Sites.{AreArmed, AreSitesOf, site_disk}
use Rattle.cell_sites.specs.Sound.{HasRun}
use Rattle.cell_sites.specs.Stepped.{up_site}
use Rattle.cell_sites.specs.Taken.{CutsNone}
use Rattle.cell_sites.specs.Told.{CellTold}
use Rattle.cell_sites.specs.Traffic.{Traffic, handed_over}
use Rattle.cell_sites.proofs.AtPlace.{IsSiteAt, site_at}
use Rattle.cell_sites.proofs.Delivering.{stands_with, with_handed, with_packets}
use Rattle.cell_sites.proofs.Plainly.{taken_cut}
use Rattle.cell_sites.proofs.Reading.{read_at}

-- ---- images

-- the image of each server stands for a state of the database
pub all_stand : {D V : Type 0} (g : Ghosts D) (standing : Standing) (asks : ℕ) (running : OpenCell D V g) → ImagesStand standing
    → IsService standing
    → (behind : HasRun g standing.database asks running) → AllStand standing behind.cell.run
all_stand g standing asks running law service behind =
    let c = behind.cell in
    let is = behind.run in
    subst (λ (r : Run). AllStand standing r) (sym is.run)
    (law service c.run.world.hosts c.opening.clock c.opening.failed c.events is.first is.legal).0

module _ {D V : Type 0} (g : Ghosts D) (standing : Standing) (asks : ℕ) (running : OpenCell D V g) (k clock : ℕ) (node : Node D V g)
    (service : IsService standing) (behind : HasRun g standing.database asks running)
    (there : slice_get running.sites.items k ≡ Some (up_site clock node))
  where
    at : IsSiteAt (up_site {D = D} {V = V} clock node) behind.cell.run.world.sites k
    at = site_at running.sites.items behind.cell.run.world.sites k (up_site clock node) behind.stands.sites there

    -- so the image before a write in flight of a server that is up, and what it takes of another one's
    pub up_writes : WritesStand standing → (s : model.Server) → node_of node ≡ model.Up s → HasWrites standing s
    up_writes law s up =
        let c = behind.cell in
        let is = behind.run in
        law service c.run.world.hosts c.opening.clock c.opening.failed c.events is.first is.legal k at.s s
        (subst (λ (r : Run). site_of r.world k ≡ Some at.s) is.run at.there) (at.is.node ∙ up)

    pub up_meant : ImagesStand standing → WritesStand standing → (s : model.Server) → node_of node ≡ model.Up s
        → IsMeantImage standing s.image × IsMeantImage standing (announced_image s)
    up_meant law writes s up =
        ((all_stand g standing asks running law service behind).up k at.s s at.there (at.is.node ∙ up), (up_writes writes s up).before)

    -- what a server takes from another one cuts no put
    pub up_cuts : WritesStand standing → (m : Member) (e : NodeEvent) → CutsNone standing.database m e clock (node_of node)
    up_cuts writes m e s up short =
        taken_cut (step_of standing.database m s clock e short).calls ((up_writes writes s up).takes m clock e short)

-- the files of a server stand for its durable state
pub some_stands : {D V : Type 0} (g : Ghosts D) (db : Database) (asks : ℕ) (running : OpenCell D V g) (k : ℕ) (site : Site D V g)
    → HasRun g db asks running
    → slice_get running.sites.items k ≡ Some site → (d : Durable) × IsSomeAnd (g.files (site_disk site)) (StandsAs d)
some_stands g db asks running k site behind there =
    let c = behind.cell in
    let at = site_at running.sites.items c.run.world.sites k site behind.stands.sites there in
    (at.s.durable, read_at g c.run.world.sites running.sites.items k at.s site behind.stands.disks.read at.there there)

-- ---- lines

-- what a line left of the run
pub runs_on : {D V : Type 0} (g : Ghosts D) (script_db : ScriptDatabase) (asks : ℕ) (before after : OpenCell D V g) (l : Line)
    (tb ta : List ℕ) → CellsGoOn
    → TicksOn l → (behind : HasRun g script_db.database asks before)
    → CellTold g script_db behind.given (λ choices. run_in script_db behind.cell choices l) None before after tb ta
    → HasRun g script_db.database asks after
runs_on g script_db asks before after l tb ta law on behind told = record {
  given = behind.given;
  cell = told.ran.cell;
  stands = told.cell;
  run = law.line script_db asks behind.cell told.choices l told.ran on behind.run told.is;
}

-- what a call under a new id left of it
pub asked_on : {D V : Type 0} (g : Ghosts D) (script_db : ScriptDatabase) (asks id : ℕ) (before after : OpenCell D V g) (call : List ℕ)
    (server : ℕ)
    (tb ta : List ℕ) → CellsGoOn → asks < id → (behind : HasRun g script_db.database asks before)
    → CellTold g script_db behind.given
    (λ choices. asked_at script_db behind.cell (first_choice choices) id call (Some server)) None before after tb ta
    → HasRun g script_db.database id after
asked_on g script_db asks id before after call server tb ta law new behind told = record {
  given = behind.given;
  cell = told.ran.cell;
  stands = told.cell;
  run = law.ask script_db asks id behind.cell (first_choice told.choices) call (Some server) told.ran new behind.run told.is;
}

-- a packet that is delivered
delivers : (script_db : ScriptDatabase) (c : Cell) (choices : Choices) (number : ℕ) → 0 < number → number ≤ length c.run.world.packets
    → run_in script_db c choices (line.Deliver number) ≡ Ok (delivered script_db c (first_choice choices) number)
delivers script_db c choices number some within =
    let there : (nat_lt 0 number && nat_le number (length c.run.world.packets)) ≡ true = grind (arith, nat_tests) in
    ap (λ (b : Bool). if b then Ok (delivered script_db c (first_choice choices) number) else Err why.Packet) there

pub delivered_on : {D V : Type 0} (g : Ghosts D) (script_db : ScriptDatabase) (asks : ℕ) (before after : OpenCell D V g) (number : ℕ)
    (tb ta : List ℕ)
    → CellsGoOn → 0 < number → number ≤ length before.packets.sent → (behind : HasRun g script_db.database asks before)
    → CellTold g script_db behind.given
    (λ choices. Ok (delivered script_db behind.cell (first_choice choices) number)) None before after tb ta
    → HasRun g script_db.database asks after
delivered_on g script_db asks before after number tb ta law some within behind told =
    let inside : number ≤ length behind.cell.run.world.packets = let sent = ap length behind.stands.sent in omega (arith, within, sent) in
    record {
      given = behind.given;
      cell = told.ran.cell;
      stands = told.cell;
      run = law.line script_db asks behind.cell told.choices (line.Deliver number) told.ran tt behind.run
          (delivers script_db behind.cell told.choices number some inside ∙ told.is);
    }

-- a packet that waits no longer
pub handed_on : {D V : Type 0} (g : Ghosts D) (script_db : ScriptDatabase) (asks : ℕ) (running : OpenCell D V g) (p : Traffic)
    (number : ℕ) → CellsGoOn
    → 0 < number → number ≤ length running.packets.sent → p ≡ handed_over running.packets number → HasRun g script_db.database asks running
    → HasRun g script_db.database asks (with_packets running p)
handed_on g script_db asks running p number law some within is behind =
    let c = behind.cell in
    let handed = set c.handed (number - 1) true in
    let inside : number ≤ length c.run.world.packets = let sent = ap length behind.stands.sent in omega (arith, within, sent) in
    let there : (nat_lt 0 number && nat_le number (length c.run.world.packets)) ≡ true = grind (arith, nat_tests) in
    record {
      given = behind.given;
      cell = with_handed c handed;
      stands = stands_with running c p handed behind.stands (ap (λ (t : Traffic). t.sent) is)
          (ap (λ (h : List Bool). set h (number - 1) true) behind.stands.handed ∙ sym (ap (λ (t : Traffic). t.handed) is));
      run = law.line script_db asks c sound_choices (line.Drop number) (resting (with_handed c handed)) tt behind.run
          (ap (λ (b : Bool). if b then Ok (resting (with_handed c handed)) else Err why.Packet) there);
    }

-- ---- clocks

-- the same cell
same_stands : {D V : Type 0} (g : Ghosts D) (db : Database) (asks : ℕ) (before after : OpenCell D V g)
    → after.sites.items ≡ before.sites.items
    → after.hosts.items ≡ before.hosts.items → after.packets ≡ before.packets → HasRun g db asks before → HasRun g db asks after
same_stands {D} {V} g db asks before after sites hosts packets behind =
    let c = behind.cell in
    let stands = behind.stands in
    record {
      given = behind.given;
      cell = c;
      stands = record {
        hosts = stands.hosts ∙ sym hosts;
        sites = subst (λ (l : List (Site D V g)). AreSitesOf l c.run.world.sites) (sym sites) stands.sites;
        sent = stands.sent ∙ ap (λ (t : Traffic). t.sent) (sym packets);
        handed = stands.handed ∙ ap (λ (t : Traffic). t.handed) (sym packets);
        armed = subst (λ (l : List (Site D V g)). AreArmed g l c.armed) (sym sites) stands.armed;
        disks = subst (λ (l : List (Site D V g)). HoldRun db behind.given false c (map (λ site. held g (site_disk site)) l))
            (sym sites) stands.disks;
      };
      run = behind.run;
    }

-- Clocks that go on by no second at all leave the cell as it was, though that is no event of the world.
pub ticks_run : {D V : Type 0} (g : Ghosts D) (script_db : ScriptDatabase) (asks : ℕ) (before after : OpenCell D V g) (l : Line)
    (seconds : ℕ) (tb ta : List ℕ)
    → CellsGoOn → (1 ≤ seconds → TicksOn l) → (seconds ≡ 0 → after.sites.items ≡ before.sites.items)
    → after.hosts.items ≡ before.hosts.items
    → after.packets ≡ before.packets → (behind : HasRun g script_db.database asks before)
    → CellTold g script_db behind.given (λ choices. run_in script_db behind.cell choices l) None before after tb ta
    → HasRun g script_db.database asks after
ticks_run {D} {V} g script_db asks before after l seconds tb ta law on rests hosts packets behind told = by seconds refl
  where
    by : (n : ℕ) → seconds ≡ n → HasRun g script_db.database asks after
    by zero is = same_stands g script_db.database asks before after (rests is) hosts packets behind
    by (suc n) is = runs_on g script_db asks before after l tb ta law (on (omega (arith, is))) behind told
