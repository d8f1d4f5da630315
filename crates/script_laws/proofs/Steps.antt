-- The events that lines bring are events of the world, and the world after each of them is again one that scripts lead to.
use Rattle.std.proofs.Common.{Bool, true, false, cond, not, ◌&&◌, ◌≡◌, ℕ, ◌<◌, ◌≤◌, List, length, refl, sym, ap, subst, ◌∙◌, arith}
use Rattle.std.proofs.lemmas.Bool.Decides.{nat_tests}
use Rattle.std.proofs.lemmas.List.{length-append}
use Rattle.std.proofs.lemmas.List.Elements.{All-nil}
use Rattle.std.specs.Prelude.{Some, is_some, All, map, nat_lt}
use Rattle.ubik_calls.specs.declared.packets.Packet.{Packet}
use Rattle.db_image.specs.Database.{Database}
use Rattle.cell_model.specs.declared.events.NodeEvent.{NodeEvent}
use Rattle.cell_model.specs.declared.events.NodeEvent.TheVariants as event
use Rattle.cell_model.specs.Node.{Node, Down, Halted, Up, Server}
use Rattle.cell_model.specs.NodeRule.{step_of, refusals}
use Rattle.cell_model.specs.World.{Site, World, Trigger, Event, Tick, Tick_all, Step, Stop, Fault, Crash, Restart, Happened, SiteHappened, packets_of}
use Rattle.cell_model.specs.World.{happened_at, happens_at, step_at, stop_at, fault_at, crash_at, restart_at, ticked, tick_at, occasion, member}
use Rattle.cell_model.specs.World.{site_of, triggered, happens, may_tick, is_down, has_disk, is_new_ask, holds_at, occurs, may_be_down, may_step}
use Rattle.cell_model.specs.World.{may_stop, may_fail, IsEvent}
use Rattle.cell_places.specs.Places.{IsBetween, IsPlacedStep, PacketsHavePlaces}
use Rattle.script_laws.specs.Runs.{AsksACall, IsScripted}
use Rattle.script_laws.specs.CellRuns.{NodeFits, SiteFits, Fits}
use Rattle.script_laws.proofs.Worlds.{AskFits, asked_fit, new_ask, site_later, fits_at, ticked_fits, all_ticked_fits}

both : (a b : Bool) → a ≡ true → b ≡ true → (a && b) ≡ true
both true b first second = second
both false b first second = first

-- An event of the world, and the world after it. A script may bring it, where what is asked is a call.
pub record IsLegal (calls : Type 0) (db : Database) (later : ℕ) (w : World) (e : Event) : Type 0 where
  pub event : IsEvent w e
  pub scripted : calls → IsScripted db e
  pub fits : Fits later (happens db w e).world
  pub hosts : (happens db w e).world.hosts ≡ w.hosts
  pub grows : length w.packets ≤ length (happens db w e).world.packets

-- so of one that happens at a server
happened_legal : (calls : Type 0) (db : Database) (asks later : ℕ) (w : World) (k : ℕ) (e : Event) (h : SiteHappened) → asks ≤ later → Fits asks w
    → happens db w e ≡ happened_at w k h → IsEvent w e → (calls → IsScripted db e)
    → SiteFits w.hosts later h.site → All (IsBetween w.hosts) (packets_of h.shown) → IsLegal calls db later w e
happened_legal calls db asks later w k e h more fits is event scripted site packets = record {
  event = event;
  scripted = scripted;
  fits = subst (λ (x : Happened). Fits later x.world) (sym is) (fits_at asks later w k h more fits site packets);
  hosts = ap (λ (x : Happened). x.world.hosts) is;
  grows =
      subst (λ (x : Happened). length w.packets ≤ length x.world.packets) (sym is)
      (omega (arith, length-append w.packets (packets_of h.shown)));
}

refusals_send : (P : Packet → Type 0) (e : NodeEvent) → All P (packets_of (refusals e))
refusals_send P (event.Packet p) = All-nil P
refusals_send P event.BeaconTurn = All-nil P
refusals_send P event.RecoverTurn = All-nil P
refusals_send P (event.Ask id call) = All-nil P

-- a trigger brings an event to a server of the cell
pub record IsOccasion (calls : Type 0) (db : Database) (asks later : ℕ) (w : World) (trigger : Trigger) (k : ℕ) (e : NodeEvent) (site : Site) : Type 0 where
  pub more : asks ≤ later
  pub brought : occasion w trigger ≡ Some (k, e)
  pub there : site_of w k ≡ Some site
  pub inside : k < length w.hosts
  pub site_fits : SiteFits w.hosts asks site
  pub asked : AskFits asks later e
  pub call : calls → AsksACall db trigger

module _ (calls : Type 0) (law : PacketsHavePlaces) (db : Database) (asks later : ℕ) (w : World) (fits : Fits asks w) (trigger : Trigger) (k : ℕ)
    (e : NodeEvent) (site : Site) (is : IsOccasion calls db asks later w trigger k e site) where
  -- ---- a step

  stepped_site : (short : List Bool) (node : Node) → NodeFits w.hosts node → SiteFits w.hosts later (step_at db (member w k) trigger e short site node).site
  stepped_site short Down fit = site_later w.hosts asks later site is.more is.site_fits
  stepped_site short (Halted h) fit =
      record { ids = asked_fit asks later site.asked e is.more is.asked is.site_fits.ids; node = is.site_fits.node }
  stepped_site short (Up s) fit =
      let t : IsPlacedStep (member w k) (step_of db (member w k) s site.clock e short) =
      law.steps db (member w k) s site.clock e short is.inside fit in
      record {
        ids = asked_fit asks later site.asked e is.more is.asked is.site_fits.ids;
        node = t.phase;
      }

  stepped_packets : (short : List Bool) (node : Node) → NodeFits w.hosts node
      → All (IsBetween w.hosts) (packets_of (step_at db (member w k) trigger e short site node).shown)
  stepped_packets short Down fit = All-nil (IsBetween w.hosts)
  stepped_packets short (Halted h) fit = refusals_send (IsBetween w.hosts) e
  stepped_packets short (Up s) fit = (law.steps db (member w k) s site.clock e short is.inside fit).packets

  may_be : (b : Bool) → is_down site.node ≡ b → (b ≡ true → may_be_down trigger ≡ true)
      → cond b (may_be_down trigger) (is_new_ask site.asked e) ≡ true
  may_be true at delivered = delivered refl
  may_be false at delivered = new_ask asks later site.asked e is.asked is.site_fits.ids

  -- a packet may come to a server that is down; else the server is up
  pub step_legal : (short : List Bool) → (is_down site.node ≡ true → may_be_down trigger ≡ true) → IsLegal calls db later w (Step trigger short)
  step_legal short delivered =
      happened_legal calls db asks later w k (Step trigger short) (step_at db (member w k) trigger e short site site.node) is.more fits
      (ap (triggered w (λ m e site. step_at db m trigger e short site site.node)) is.brought
      ∙ ap (happens_at w k (λ site. step_at db (member w k) trigger e short site site.node)) is.there)
      (ap (occurs w (may_step trigger)) is.brought ∙ ap (holds_at (may_step trigger e)) is.there ∙ may_be
      (is_down site.node) refl delivered)
      is.call (stepped_site short site.node is.site_fits.node) (stepped_packets short site.node is.site_fits.node)

  -- ---- a stop, and a fault

  module _ (s : Server) (up : site.node ≡ Up s) (short : List Bool) (made : ℕ) where
    pub stop_legal : IsLegal calls db later w (Stop trigger short made)
    stop_legal =
        happened_legal calls db asks later w k (Stop trigger short made) (stop_at db (member w k) e short made site (Up s)) is.more fits
        (ap (triggered w (λ m e site. stop_at db m e short made site site.node)) is.brought
        ∙ ap (happens_at w k (λ site. stop_at db (member w k) e short made site site.node)) is.there
        ∙ ap (λ (node : Node). happened_at w k (stop_at db (member w k) e short made site node)) up)
        (ap (occurs w may_stop) is.brought ∙ ap (holds_at (may_stop e)) is.there
        ∙ both (not (is_down site.node)) (is_new_ask site.asked e) (ap (λ (node : Node). not (is_down node)) up)
        (new_ask asks later site.asked e is.asked is.site_fits.ids))
        is.call
        (record { ids = (site_later w.hosts asks later site is.more is.site_fits).ids; node = tt }) (All-nil (IsBetween w.hosts))

    pub fault_legal : IsLegal calls db later w (Fault trigger short made)
    fault_legal =
        happened_legal calls db asks later w k (Fault trigger short made) (fault_at db (member w k) e short made site (Up s)) is.more fits
        (ap (triggered w (λ m e site. fault_at db m e short made site site.node)) is.brought
        ∙ ap (happens_at w k (λ site. fault_at db (member w k) e short made site site.node)) is.there
        ∙ ap (λ (node : Node). happened_at w k (fault_at db (member w k) e short made site node)) up)
        (ap (occurs w may_fail) is.brought ∙ ap (holds_at (may_fail e)) is.there
        ∙ both (has_disk site.node) (is_new_ask site.asked e) (ap has_disk up) (new_ask asks later site.asked e is.asked is.site_fits.ids))
        is.call
        (record { ids = asked_fit asks later site.asked e is.more is.asked is.site_fits.ids; node = tt })
        (refusals_send (IsBetween w.hosts) e)

-- ---- the other events

module _ (calls : Type 0) (law : PacketsHavePlaces) (db : Database) (asks : ℕ) (w : World) (fits : Fits asks w) (k : ℕ) (site : Site)
    (there : site_of w k ≡ Some site) (fit : SiteFits w.hosts asks site) where
  pub crash_legal : IsLegal calls db asks w (Crash k)
  crash_legal =
      happened_legal calls db asks asks w k (Crash k) (crash_at site) (omega arith) fits (ap (happens_at w k crash_at) there)
      (ap is_some there) (λ _. tt)
      (record { ids = fit.ids; node = tt }) (All-nil (IsBetween w.hosts))

  opened_fits : (failed : Bool) → SiteFits w.hosts asks (restart_at (length w.hosts) k failed site).site
  opened_fits true = fit
  opened_fits false = record { ids = tt; node = law.first (length w.hosts) site.durable site.clock }

  opened_sends : (failed : Bool) → All (IsBetween w.hosts) (packets_of (restart_at (length w.hosts) k failed site).shown)
  opened_sends true = All-nil (IsBetween w.hosts)
  opened_sends false = All-nil (IsBetween w.hosts)

  pub restart_legal : (failed : Bool) → is_down site.node ≡ true → IsLegal calls db asks w (Restart k failed)
  restart_legal failed down =
      happened_legal calls db asks asks w k (Restart k failed) (restart_at (length w.hosts) k failed site) (omega arith) fits
      (ap (happens_at w k (restart_at (length w.hosts) k failed)) there)
      (ap (holds_at (λ (site : Site). is_down site.node)) there ∙ down) (λ _. tt)
      (opened_fits failed) (opened_sends failed)

  pub tick_legal : (seconds : ℕ) → 0 < seconds → may_tick (tick_at w.sites k seconds) ≡ true → IsLegal calls db asks w (Tick k seconds)
  tick_legal seconds some may =
      let goes : nat_lt 0 seconds ≡ true = grind (arith, nat_tests) in
      record {
        event =
            both (nat_lt 0 seconds && is_some (site_of w k)) (may_tick (tick_at w.sites k seconds))
            (both (nat_lt 0 seconds) (is_some (site_of w k)) goes (ap is_some there)) may;
        scripted = λ _. tt;
        fits = ticked_fits asks w k seconds fits;
        hosts = refl;
        grows = omega arith;
      }

pub tick_all_legal : (calls : Type 0) (db : Database) (asks : ℕ) (w : World) (seconds : ℕ) → Fits asks w → 0 < seconds
    → may_tick (map (ticked seconds) w.sites) ≡ true → IsLegal calls db asks w (Tick_all seconds)
tick_all_legal calls db asks w seconds fits some may =
    let goes : nat_lt 0 seconds ≡ true = grind (arith, nat_tests) in
    record {
      event = both (nat_lt 0 seconds) (may_tick (map (ticked seconds) w.sites)) goes may;
      scripted = λ _. tt;
      fits = all_ticked_fits asks w seconds fits;
      hosts = refl;
      grows = omega arith;
    }
