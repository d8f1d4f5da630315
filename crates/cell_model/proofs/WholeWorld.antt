-- The durable state of each server along a run.
use Rattle.std.proofs.Common.{Bool, true, false, ◌≡◌, ℕ, zero, suc, List, [], ◌∷◌, length, map, set, refl, sym, ap, subst, ◌∙◌}
use Rattle.std.specs.Prelude.{Option, Some, None, slice_get}
use Rattle.db_image.specs.Database.{Database}
use Rattle.cell_model.specs.declared.events.NodeEvent.{NodeEvent}
use Rattle.cell_model.specs.declared.events.NodeEvent.TheVariants as event
use Rattle.cell_model.specs.Durable.{Durable, durable_after_all}
use Rattle.cell_model.specs.Laws.{IsOf, AllDurable, DatabaseIsDurable}
use Rattle.cell_model.specs.Node.{Node, Down, Halted, Up, Server, Waiting}
use Rattle.cell_model.specs.NodeRule.{step_of}
use Rattle.cell_model.specs.Step.{Member}
use Rattle.cell_model.specs.World.{Site, World, Trigger, Event, Tick, Tick_all, Step, Stop, Fault, Crash, Restart, SiteHappened, step_at, stop_at, fault_at, crash_at, restart_at, happens_at, ticked, tick_at, triggered, occasion, member, site_of, happens, world_after, first_site, first_world}
use Rattle.cell_model.proofs.Sound.{state_of}
use Rattle.cell_model.proofs.SoundSteps.{AskStands, step_is}
use Rattle.cell_model.proofs.SoundWrites.{AllStand}

-- any call, under any id
AnyCall : ℕ → List ℕ → Type 0
AnyCall id call = Unit {0}

all_stand : (waiting : List Waiting) → AllStand AnyCall waiting
unfolding AnyCall
all_stand [] = tt
all_stand (w ∷ waiting) = (tt, all_stand waiting)

ask_stands : (e : NodeEvent) → AskStands AnyCall e
unfolding AnyCall
ask_stands (event.Packet p) = tt
ask_stands event.BeaconTurn = tt
ask_stands event.RecoverTurn = tt
ask_stands (event.Ask id call) = tt

-- The durable calls of a step lead to the version and the image that the server has after it.
pub step_leads : (db : Database) (m : Member) (s : Server) (now : ℕ) (e : NodeEvent) (short : List Bool) → durable_after_all (state_of s) (step_of db m s now e short).calls ≡ state_of (step_of db m s now e short).server
step_leads db m s now e short = (step_is db now AnyCall m s e short (all_stand s.waiting) (ask_stands e)).leads

-- what happens at a site keeps this of it
abbrev Keeps : (Site → SiteHappened) → Type 0
Keeps f = (site : Site) → IsOf site.durable site.node → IsOf (f site).site.durable (f site).site.node

-- a site that stays
stays : (site : Site) (node : Node) → site.node ≡ node → IsOf site.durable node → IsOf site.durable site.node
stays site node is holds = subst (IsOf site.durable) (sym is) holds

step_keeps : (db : Database) (m : Member) (trigger : Trigger) (e : NodeEvent) (short : List Bool) → Keeps (λ site. step_at db m trigger e short site site.node)
step_keeps db m trigger e short site = at site.node refl
  where
    at : (node : Node) → site.node ≡ node → IsOf site.durable node → IsOf (step_at db m trigger e short site node).site.durable (step_at db m trigger e short site node).site.node
    at Down is holds = stays site Down is holds
    at (Halted h) is holds = stays site (Halted h) is holds
    at (Up s) is holds =
        ap (λ (d : Durable). durable_after_all d (step_of db m s site.clock e short).calls) holds ∙ step_leads db m s site.clock e short

stop_keeps : (db : Database) (m : Member) (e : NodeEvent) (short : List Bool) (made : ℕ) → Keeps (λ site. stop_at db m e short made site site.node)
stop_keeps db m e short made site = at site.node refl
  where
    at : (node : Node) → site.node ≡ node → IsOf site.durable node → IsOf (stop_at db m e short made site node).site.durable (stop_at db m e short made site node).site.node
    at Down is holds = stays site Down is holds
    at (Halted h) is holds = tt
    at (Up s) is holds = tt

fault_keeps : (db : Database) (m : Member) (e : NodeEvent) (short : List Bool) (made : ℕ) → Keeps (λ site. fault_at db m e short made site site.node)
fault_keeps db m e short made site = at site.node refl
  where
    at : (node : Node) → site.node ≡ node → IsOf site.durable node → IsOf (fault_at db m e short made site node).site.durable (fault_at db m e short made site node).site.node
    at Down is holds = stays site Down is holds
    at (Halted h) is holds = stays site (Halted h) is holds
    at (Up s) is holds = tt

restart_keeps : (n k : ℕ) (failed : Bool) → Keeps (restart_at n k failed)
restart_keeps n k true site holds = holds
restart_keeps n k false site holds = refl

-- with one site another
all_set : (sites : List Site) (k : ℕ) (site : Site) → AllDurable sites → IsOf site.durable site.node → AllDurable (set sites k site)
all_set [] k site all holds = tt
all_set (other ∷ sites) zero site all holds = (holds, all.1)
all_set (other ∷ sites) (suc k) site all holds = (all.0, all_set sites k site all.1 holds)

of_all : (sites : List Site) (k : ℕ) (site : Site) → slice_get sites k ≡ Some site → AllDurable sites → IsOf site.durable site.node
of_all [] k site is all = cc
of_all (other ∷ sites) zero site is all =
    let same : other ≡ site = cc in
    let P : Site → Type 0 = λ site. IsOf site.durable site.node in subst P same all.0
of_all (other ∷ sites) (suc k) site is all = of_all sites k site is all.1

at_one : (w : World) (k : ℕ) (f : Site → SiteHappened) → Keeps f → AllDurable w.sites → AllDurable (happens_at w k f (site_of w k)).world.sites
at_one w k f keeps all = by (site_of w k) refl
  where
    by : (o : Option Site) → site_of w k ≡ o → AllDurable (happens_at w k f o).world.sites
    by None is = all
    by (Some site) is = all_set w.sites k (f site).site all (keeps site (of_all w.sites k site is all))

at_trigger : (w : World) (f : Member → NodeEvent → Site → SiteHappened) (o : Option (ℕ × NodeEvent)) → ((m : Member) (e : NodeEvent) → Keeps (f m e)) → AllDurable w.sites → AllDurable (triggered w f o).world.sites
at_trigger w f None keeps all = all
at_trigger w f (Some o) keeps all = at_one w o.0 (f (member w o.0) o.1) (keeps (member w o.0) o.1) all

all_ticked : (seconds : ℕ) (sites : List Site) → AllDurable sites → AllDurable (map (ticked seconds) sites)
all_ticked seconds [] all = tt
all_ticked seconds (site ∷ sites) all = (all.0, all_ticked seconds sites all.1)

one_ticked : (sites : List Site) (k seconds : ℕ) → AllDurable sites → AllDurable (tick_at sites k seconds)
one_ticked [] k seconds all = tt
one_ticked (site ∷ sites) zero seconds all = all
one_ticked (site ∷ sites) (suc k) seconds all = (all.0, one_ticked sites k seconds all.1)

happened : (db : Database) (w : World) (e : Event) → AllDurable w.sites → AllDurable (happens db w e).world.sites
happened db w (Tick server seconds) all = one_ticked w.sites server seconds all
happened db w (Tick_all seconds) all = all_ticked seconds w.sites all
happened db w (Step trigger short) all =
    at_trigger w (λ m e site. step_at db m trigger e short site site.node) (occasion w trigger) (λ m e. step_keeps db m trigger e short) all
happened db w (Stop trigger short made) all =
    at_trigger w (λ m e site. stop_at db m e short made site site.node) (occasion w trigger) (λ m e. stop_keeps db m e short made) all
happened db w (Fault trigger short made) all =
    at_trigger w (λ m e site. fault_at db m e short made site site.node) (occasion w trigger) (λ m e. fault_keeps db m e short made) all
happened db w (Crash server) all = at_one w server crash_at (λ site holds. tt) all
happened db w (Restart server failed) all =
    at_one w server (restart_at (length w.hosts) server failed) (restart_keeps (length w.hosts) server failed) all

first_is : (n clock : ℕ) (failed : Bool) → IsOf (first_site n clock failed).durable (first_site n clock failed).node
first_is n clock true = tt
first_is n clock false = refl

all_first : (n clock : ℕ) (failed : List Bool) → AllDurable (map (first_site n clock) failed)
all_first n clock [] = tt
all_first n clock (f ∷ failed) = (first_is n clock f, all_first n clock failed)

along : (db : Database) (w : World) (events : List Event) → AllDurable w.sites → AllDurable (world_after db w events).sites
along db w [] all = all
along db w (e ∷ events) all = along db (happens db w e).world events (happened db w e all)

pub database_is_durable : DatabaseIsDurable
database_is_durable db hosts clock failed events = along db (first_world hosts clock failed) events (all_first (length hosts) clock failed)
