-- Faults are told of servers of the cell alone.
use Rattle.std.proofs.Common.{Bool, true, false, cond, ◌≡◌, ℕ, ◌+◌, ◌<◌, ◌≤◌, ◌==◌, List, [], ◌∷◌, ◌++◌, length, refl, ap, ◌∙◌, arith}
use Rattle.std.proofs.lemmas.Bool.Decides.{nat_tests}
use Rattle.std.proofs.lemmas.List.{length-map, length-set}
use Rattle.std.proofs.lemmas.Option.{slice_get_within}
use Rattle.std.specs.Prelude.{Option, Some, None}
use Rattle.db_image.specs.Database.{Database}
use Rattle.cell_model.specs.declared.events.NodeEvent.{NodeEvent}
use Rattle.cell_model.specs.declared.events.Output.{Output}
use Rattle.cell_model.specs.declared.events.Output.TheVariants as output
use Rattle.cell_model.specs.Book.{Run, first_run}
use Rattle.cell_model.specs.Node.{Node, Down, Halted, Up}
use Rattle.cell_model.specs.Step.{Member, Evaluation, Shown}
use Rattle.cell_model.specs.World as world
use Rattle.cell_model.specs.World.{Site, World, Trigger, Event, Tick, Tick_all, Step, Stop, Fault, Crash, Restart, Happening, Happened, SiteHappened}
use Rattle.cell_model.specs.World.{member, site_of, occasion, seen_from, seen_of_output, number_after, packet_of, first_site, first_seen, step_at}
use Rattle.cell_model.specs.World.{stop_at, fault_at, crash_at, restart_at, ticked, happens_at, triggered, happens, world_after, seen_of}
use Rattle.cell_runs.specs.Script.{Cell, Told, told}
use Rattle.cell_runs.specs.ScriptDatabase.{Databases}
use Rattle.cell_runs.specs.Trace.{TraceItem, Tells, Shows, is_fault_of, fault_count}
use Rattle.script_laws.specs.Runs.{database_of, first_of, happenings_of, IsRunOfCell, ScriptsAreRuns}
use Rattle.script_laws.specs.Sound.{sites_told, FaultsHaveServers}
use Rattle.script_laws.proofs.Parts.{world_of_run}
use Rattle.script_laws.proofs.Worlds.{length-tick}

-- ---- counts

abbrev faults : ℕ → List Happening → ℕ
faults k [] = 0
faults k (h ∷ seen) = cond (is_fault_of k h) 1 0 + faults k seen

faults-append : (k : ℕ) (xs ys : List Happening) → faults k (xs ++ ys) ≡ faults k xs + faults k ys
faults-append k [] ys = omega arith
faults-append k (h ∷ xs) ys = omega (arith, faults-append k xs ys)

faults-told : (k : ℕ) (items : List TraceItem) → fault_count k items ≡ faults k (happenings_of items)
faults-told k [] = refl
faults-told k (Tells h ∷ items) = omega (arith, faults-told k items)
faults-told k (Shows server clock showing ∷ items) = faults-told k items

other : (j k n : ℕ) → j < k → n ≡ 0 → cond (j == k) 1 0 + n ≡ 0
other j k n below none = grind (arith, nat_tests)

-- ---- one event

output_none : (k j number : ℕ) (o : Output) (evaluation : Option Evaluation) (n : ℕ) → n ≡ 0
    → cond (is_fault_of k (seen_of_output j number o evaluation)) 1 0 + n ≡ 0
output_none k j number (output.Send packet) evaluation n none = omega (arith, none)
output_none k j number (output.Reply id r) evaluation n none = omega (arith, none)
output_none k j number (output.Announce version) evaluation n none = omega (arith, none)

shown_none : (k j number : ℕ) (shown : List Shown) → faults k (seen_from j number shown) ≡ 0
shown_none k j number [] = refl
shown_none k j number (one ∷ shown) =
    output_none k j number one.output one.evaluation (faults k (seen_from j (number_after number (packet_of one)) shown))
    (shown_none k j (number_after number (packet_of one)) shown)

-- an event keeps the count of servers, and tells of no fault of server k
record IsMild (k : ℕ) (w : World) (h : Happened) : Type 0 where
  pub sites : length h.world.sites ≡ length w.sites
  pub none : faults k h.seen ≡ 0

at_mild : (k j : ℕ) (w : World) (f : Site → SiteHappened) (o : Option Site) → site_of w j ≡ o → length w.sites ≤ k
    → ((site : Site) → j < k → faults k (f site).marks ≡ 0) → IsMild k w (happens_at w j f o)
at_mild k j w f None is beyond mild = record { sites = refl; none = refl }
at_mild k j w f (Some site) is beyond mild = record {
  sites = length-set w.sites j (f site).site;
  none =
      let shown = seen_from j (length w.packets + 1) (f site).shown in
      omega (
        arith,
        faults-append k shown (f site).marks,
        shown_none k j (length w.packets + 1) (f site).shown,
        mild site (omega (arith, slice_get_within w.sites j site is, beyond)),
      );
}

step_marks : (db : Database) (k : ℕ) (m : Member) (trigger : Trigger) (e : NodeEvent) (site : Site) (short : List Bool) (node : Node)
    → faults k (step_at db m trigger e short site node).marks ≡ 0
step_marks db k m (world.Delivery number) e site short Down = refl
step_marks db k m (world.Beacon_turn server) e site short Down = refl
step_marks db k m (world.Recover_turn server) e site short Down = refl
step_marks db k m (world.Asking server id call) e site short Down = refl
step_marks db k m trigger e site short (Halted h) = refl
step_marks db k m trigger e site short (Up s) = refl

stop_marks : (db : Database) (k : ℕ) (m : Member) (e : NodeEvent) (site : Site) (short : List Bool) (made : ℕ) (node : Node)
    → m.me < k → faults k (stop_at db m e short made site node).marks ≡ 0
stop_marks db k m e site short made Down below = refl
stop_marks db k m e site short made (Halted h) below = other m.me k 0 below refl
stop_marks db k m e site short made (Up s) below = other m.me k 0 below refl

fault_marks : (db : Database) (k : ℕ) (m : Member) (e : NodeEvent) (site : Site) (short : List Bool) (made : ℕ) (node : Node)
    → m.me < k → faults k (fault_at db m e short made site node).marks ≡ 0
fault_marks db k m e site short made Down below = refl
fault_marks db k m e site short made (Halted h) below = refl
fault_marks db k m e site short made (Up s) below = other m.me k 0 below refl

restart_marks : (k j n : ℕ) (failed : Bool) (site : Site) → j < k → faults k (restart_at n j failed site).marks ≡ 0
restart_marks k j n true site below = other j k 0 below refl
restart_marks k j n false site below = refl

triggered_mild : (k : ℕ) (w : World) (f : Member → NodeEvent → Site → SiteHappened) (o : Option (ℕ × NodeEvent)) → length w.sites ≤ k
    → ((m : Member) (e : NodeEvent) (site : Site) → m.me < k → faults k (f m e site).marks ≡ 0) → IsMild k w (triggered w f o)
triggered_mild k w f None beyond mild = record { sites = refl; none = refl }
triggered_mild k w f (Some o) beyond mild =
    at_mild k o.0 w (f (member w o.0) o.1) (site_of w o.0) refl beyond (λ site below. mild (member w o.0) o.1 site below)

event_mild : (db : Database) (k : ℕ) (w : World) (e : Event) → length w.sites ≤ k → IsMild k w (happens db w e)
event_mild db k w (Tick server seconds) beyond = record { sites = length-tick w.sites server seconds; none = refl }
event_mild db k w (Tick_all seconds) beyond = record { sites = length-map w.sites (ticked seconds); none = refl }
event_mild db k w (Step trigger short) beyond =
    triggered_mild k w (λ m e site. step_at db m trigger e short site site.node) (occasion w trigger) beyond
    (λ m e site below. step_marks db k m trigger e site short site.node)
event_mild db k w (Stop trigger short made) beyond =
    triggered_mild k w (λ m e site. stop_at db m e short made site site.node) (occasion w trigger) beyond
    (λ m e site below. stop_marks db k m e site short made site.node below)
event_mild db k w (Fault trigger short made) beyond =
    triggered_mild k w (λ m e site. fault_at db m e short made site site.node) (occasion w trigger) beyond
    (λ m e site below. fault_marks db k m e site short made site.node below)
event_mild db k w (Crash server) beyond = at_mild k server w crash_at (site_of w server) refl beyond (λ site below. refl)
event_mild db k w (Restart server failed) beyond =
    at_mild k server w (restart_at (length w.hosts) server failed) (site_of w server) refl beyond
    (λ site below. restart_marks k server (length w.hosts) failed site below)

-- ---- a run

same_sites : (db : Database) (w : World) (events : List Event) → length (world_after db w events).sites ≡ length w.sites
same_sites db w [] = refl
same_sites db w (e ∷ events) =
    let mild = event_mild db (length w.sites) w e (omega arith) in same_sites db (happens db w e).world events ∙ mild.sites

run_none : (db : Database) (k : ℕ) (w : World) (events : List Event) → length w.sites ≤ k → faults k (seen_of db w events) ≡ 0
run_none db k w [] beyond = refl
run_none db k w (e ∷ events) beyond =
    let mild = event_mild db k w e beyond in
    let after : World = (happens db w e).world in
    omega (
      arith,
      mild.none,
      run_none db k after events (omega (arith, mild.sites, beyond)),
      faults-append k (happens db w e).seen (seen_of db after events),
    )

first_none : (k server : ℕ) (failed : List Bool) → server + length failed ≤ k → faults k (first_seen server failed) ≡ 0
first_none k server [] beyond = refl
first_none k server (true ∷ failed) beyond =
    other server k (faults k (first_seen (server + 1) failed)) (omega (arith, beyond))
    (first_none k (server + 1) failed (omega (arith, beyond)))
first_none k server (false ∷ failed) beyond = first_none k (server + 1) failed (omega (arith, beyond))

-- ---- what is told

cell_none : (dbs : Databases) (t : Told) (k : ℕ) (cell : Option Cell) → IsRunOfCell dbs t cell → sites_told cell ≤ k
    → fault_count k t.items ≡ 0
cell_none dbs t k None is beyond = ap (fault_count k) is.0
cell_none dbs t k (Some c) is beyond =
    let db = database_of dbs c in
    let opened = first_seen 0 c.opening.failed in
    let seen = seen_of db (first_of c) c.events in
    let same : length c.run.world.sites ≡ length (first_of c).sites =
    ap (λ (r : Run). length r.world.sites) is.run ∙ ap (λ (w : World). length w.sites) (world_of_run db (first_run (first_of c)) c.events)
    ∙ same_sites db (first_of c) c.events in
    let each : length (first_of c).sites ≡ length c.opening.failed =
    length-map c.opening.failed (first_site (length c.run.world.hosts) c.opening.clock) in
    omega (
      arith,
      faults-told k t.items,
      ap (faults k) is.seen.split,
      faults-append k opened seen,
      faults-append k (happenings_of t.items) is.seen.back,
      first_none k 0 c.opening.failed (omega (arith, same, each, beyond)),
      run_none db k (first_of c) c.events (omega (arith, same, beyond)),
    )

pub faults_have_servers : ScriptsAreRuns → FaultsHaveServers
faults_have_servers runs dbs names readings k beyond =
    cell_none dbs (told dbs readings) k (told dbs readings).stage.cell (runs dbs names readings) beyond
