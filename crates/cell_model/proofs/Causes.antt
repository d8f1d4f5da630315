-- Each reply has its cause in the event that it is seen in, in every world.
use Rattle.std.proofs.Common.{Bool, true, false, ◌≡◌, inl, inr, ℕ, suc, ◌+◌, List, [], ◌∷◌, ◌++◌, length, Contains, refl, sym, ap, subst, arith}
use Rattle.std.specs.Prelude.{Option, Some, None, option_map, option_and_then, IsSomeAnd}
use Rattle.db_image.specs.Database.{Database}
use Rattle.ubik_calls.specs.declared.packets.Packet.{Packet}
use Rattle.cell_model.specs.declared.events.NodeEvent.{NodeEvent}
use Rattle.cell_model.specs.declared.events.NodeEvent.TheVariants as event
use Rattle.cell_model.specs.declared.events.Output.{Output}
use Rattle.cell_model.specs.declared.events.Output.TheVariants as output
use Rattle.cell_model.specs.Book.{clock_in, clock_at}
use Rattle.cell_model.specs.Causes.{Waits, StandsAt, AllCaused, RepliesHaveCauses}
use Rattle.cell_model.specs.Node.{Node, Down, Halted, Up, Server, Waiting}
use Rattle.cell_model.specs.NodeRule.{step_of, refusals, place_of}
use Rattle.cell_model.specs.Step.{Member, Evaluation, Shown}
use Rattle.cell_model.specs.World.{Site, World, Trigger, Delivery, Beacon_turn, Recover_turn, Asking, Event, Tick, Tick_all, Step, Stop, Fault, Crash, Restart, Happening, SiteHappened, lost_at, number_after, packet_of, seen_of_output, seen_from, step_at, stop_at, fault_at, crash_at, restart_at, happens_at, triggered, delivered, packet_numbered, occasion, member, site_of, happens}
use Rattle.cell_model.proofs.Sound.{choices_behind, IsCausedOutput, AreCaused}
use Rattle.cell_model.proofs.SoundSteps.{AskStands, step_is}
use Rattle.cell_model.proofs.SoundWrites.{AllStand}

-- ---- what is seen of what is shown

module _ (db : Database) (w : World) (e : Event) where
  one_caused : (k number : ℕ) (o : Output) (evaluation : Option Evaluation) (short : List Bool) (seen : List Happening) → IsCausedOutput db (clock_at w k) (StandsAt w e k) short o → AllCaused db w e (choices_behind o short) seen → AllCaused db w e short (seen_of_output k number o evaluation ∷ seen)
  one_caused k number (output.Send packet) evaluation short seen first rest = rest
  one_caused k number (output.Reply id r) evaluation short seen first rest = (first, rest)
  one_caused k number (output.Announce version) evaluation short seen first rest = rest

  seen_caused : (k number : ℕ) (shown : List Shown) (marks : List Happening) (short : List Bool) → ((choices : List Bool) → AllCaused db w e choices marks) → AreCaused db (clock_at w k) (StandsAt w e k) short shown → AllCaused db w e short (seen_from k number shown ++ marks)
  seen_caused k number [] marks short silent all = silent short
  seen_caused k number (one ∷ shown) marks short silent all =
      one_caused k number one.output one.evaluation short (seen_from k (number_after number (packet_of one)) shown ++ marks) all.0
      (seen_caused k (number_after number (packet_of one)) shown marks (choices_behind one.output short) silent all.1)

  -- so of a site
  site_caused : (k : ℕ) (short : List Bool) (h : SiteHappened) → ((choices : List Bool) → AllCaused db w e choices h.marks) → AreCaused db (clock_at w k) (StandsAt w e k) short h.shown → AllCaused db w e short (seen_from k (length w.packets + 1) h.shown ++ h.marks)
  site_caused k short h silent all = seen_caused k (length w.packets + 1) h.shown h.marks short silent all

  refused : (k : ℕ) (short : List Bool) (what : NodeEvent) → AreCaused db (clock_at w k) (StandsAt w e k) short (refusals what)
  refused k short (event.Packet p) = tt
  refused k short event.BeaconTurn = tt
  refused k short event.RecoverTurn = tt
  refused k short (event.Ask id call) = (tt, tt)

-- ---- a step

-- those that wait stand under their ids
all_stand : (Stands : ℕ → List ℕ → Type 0) (waiting : List Waiting) → ((one : Waiting) → Contains waiting one → Stands one.id one.call) → AllStand Stands waiting
all_stand Stands [] each = tt
all_stand Stands (first ∷ waiting) each =
    (each first (0, (omega arith), refl), all_stand Stands waiting (λ one inside. each one (suc inside.0, (omega (arith, inside.1)), inside.2)))

-- the server that is at a place
at_site : (w : World) (k : ℕ) (site : Site) (P : Site → Type 0) → site_of w k ≡ Some site → P site → IsSomeAnd (site_of w k) P
at_site w k site P is holds =
    let Q : Option Site → Type 0 = λ o. IsSomeAnd o P in subst Q (sym is) holds

waiting_stand : (w : World) (trigger : Trigger) (short : List Bool) (k : ℕ) (site : Site) (s : Server) → site_of w k ≡ Some site → site.node ≡ Up s → AllStand (StandsAt w (Step trigger short) k) s.waiting
waiting_stand w trigger short k site s is up =
    all_stand (StandsAt w (Step trigger short) k) s.waiting (λ one inside. inr (at_site w k site (λ (site : Site). Waits site.node one.id one.call) is (waits one inside)))
  where
    waits : (one : Waiting) → Contains s.waiting one → Waits site.node one.id one.call
    waits one inside =
        let P : Node → Type 0 = λ node. Waits node one.id one.call in subst P (sym up) inside

lost_caused : (db : Database) (w : World) (e : Event) (trigger : Trigger) (choices : List Bool) → AllCaused db w e choices (lost_at trigger)
lost_caused db w e (Delivery number) choices = tt
lost_caused db w e (Beacon_turn server) choices = tt
lost_caused db w e (Recover_turn server) choices = tt
lost_caused db w e (Asking server id call) choices = tt

at_place : (db : Database) (w : World) (trigger : Trigger) (short : List Bool) (k : ℕ) (e : NodeEvent) → AskStands (StandsAt w (Step trigger short) k) e → AllCaused db w (Step trigger short) short (happens_at w k (λ site. step_at db (member w k) trigger e short site site.node) (site_of w k)).seen
at_place db w trigger short k e asks = by (site_of w k) refl
  where
    at_node : (site : Site) (node : Node) → site_of w k ≡ Some site → site.node ≡ node → AllCaused db w (Step trigger short) short (seen_from k (length w.packets + 1) (step_at db (member w k) trigger e short site node).shown ++ (step_at db (member w k) trigger e short site node).marks)
    at_node site Down is at = lost_caused db w (Step trigger short) trigger short
    at_node site (Halted h) is at =
        site_caused db w (Step trigger short) k short (step_at db (member w k) trigger e short site (Halted h)) (λ choices. tt) (refused db w (Step trigger short) k short e)
    at_node site (Up s) is at =
        let P : ℕ → Type 0 = λ now. AreCaused db now (StandsAt w (Step trigger short) k) short (step_of db (member w k) s site.clock e short).shown in
        site_caused db w (Step trigger short) k short (step_at db (member w k) trigger e short site (Up s)) (λ choices. tt)
        (subst P (sym (ap clock_in is)) (step_is db site.clock (StandsAt w (Step trigger short) k) (member w k) s e short (waiting_stand w trigger short k site s is at) asks).caused)

    by : (o : Option Site) → site_of w k ≡ o → AllCaused db w (Step trigger short) short (happens_at w k (λ site. step_at db (member w k) trigger e short site site.node) o).seen
    by None is = tt
    by (Some site) is = at_node site site.node is refl

step_caused : (db : Database) (w : World) (trigger : Trigger) (short : List Bool) → AllCaused db w (Step trigger short) short (happens db w (Step trigger short)).seen
step_caused db w (Delivery number) short = by (packet_numbered w number)
  where
    placed : (p : Packet) (place : Option ℕ) → AllCaused db w (Step (Delivery number) short) short (triggered w (λ m e site. step_at db m (Delivery number) e short site site.node) (option_map (λ k. (k, event.Packet p)) place)).seen
    placed p None = tt
    placed p (Some k) = at_place db w (Delivery number) short k (event.Packet p) tt

    by : (o : Option Packet) → AllCaused db w (Step (Delivery number) short) short (triggered w (λ m e site. step_at db m (Delivery number) e short site site.node) (option_and_then (delivered w.hosts) o)).seen
    by None = tt
    by (Some p) = placed p (place_of w.hosts p.to)
step_caused db w (Beacon_turn server) short = at_place db w (Beacon_turn server) short server event.BeaconTurn tt
step_caused db w (Recover_turn server) short = at_place db w (Recover_turn server) short server event.RecoverTurn tt
step_caused db w (Asking server id call) short = at_place db w (Asking server id call) short server (event.Ask id call) (inl (refl, refl, refl))

-- ---- the other events

-- where a site shows refusals alone
broken : (db : Database) (w : World) (e : Event) (k : ℕ) (f : Site → SiteHappened) → ((site : Site) (choices : List Bool) → AllCaused db w e choices (f site).marks) → ((site : Site) → AreCaused db (clock_at w k) (StandsAt w e k) [] (f site).shown) → (o : Option Site) → AllCaused db w e [] (happens_at w k f o).seen
broken db w e k f silent caused None = tt
broken db w e k f silent caused (Some site) = site_caused db w e k [] (f site) (silent site) (caused site)

stop_marks : (db : Database) (w : World) (ev : Event) (m : Member) (e : NodeEvent) (short : List Bool) (made : ℕ) (site : Site) (node : Node) (choices : List Bool) → AllCaused db w ev choices (stop_at db m e short made site node).marks
stop_marks db w ev m e short made site Down choices = tt
stop_marks db w ev m e short made site (Halted h) choices = tt
stop_marks db w ev m e short made site (Up s) choices = tt

stop_shown : (db : Database) (w : World) (ev : Event) (k : ℕ) (m : Member) (e : NodeEvent) (short : List Bool) (made : ℕ) (site : Site) (node : Node) → AreCaused db (clock_at w k) (StandsAt w ev k) [] (stop_at db m e short made site node).shown
stop_shown db w ev k m e short made site Down = tt
stop_shown db w ev k m e short made site (Halted h) = tt
stop_shown db w ev k m e short made site (Up s) = tt

fault_marks : (db : Database) (w : World) (ev : Event) (m : Member) (e : NodeEvent) (short : List Bool) (made : ℕ) (site : Site) (node : Node) (choices : List Bool) → AllCaused db w ev choices (fault_at db m e short made site node).marks
fault_marks db w ev m e short made site Down choices = tt
fault_marks db w ev m e short made site (Halted h) choices = tt
fault_marks db w ev m e short made site (Up s) choices = tt

fault_shown : (db : Database) (w : World) (ev : Event) (k : ℕ) (m : Member) (e : NodeEvent) (short : List Bool) (made : ℕ) (site : Site) (node : Node) → AreCaused db (clock_at w k) (StandsAt w ev k) [] (fault_at db m e short made site node).shown
fault_shown db w ev k m e short made site Down = tt
fault_shown db w ev k m e short made site (Halted h) = tt
fault_shown db w ev k m e short made site (Up s) = refused db w ev k [] e

restart_marks : (db : Database) (w : World) (ev : Event) (n k : ℕ) (failed : Bool) (site : Site) (choices : List Bool) → AllCaused db w ev choices (restart_at n k failed site).marks
restart_marks db w ev n k true site choices = tt
restart_marks db w ev n k false site choices = tt

restart_shown : (db : Database) (w : World) (ev : Event) (n k : ℕ) (failed : Bool) (site : Site) → AreCaused db (clock_at w k) (StandsAt w ev k) [] (restart_at n k failed site).shown
restart_shown db w ev n k true site = tt
restart_shown db w ev n k false site = tt

stop_caused : (db : Database) (w : World) (ev : Event) (short : List Bool) (made : ℕ) (o : Option (ℕ × NodeEvent)) → AllCaused db w ev [] (triggered w (λ m e site. stop_at db m e short made site site.node) o).seen
stop_caused db w ev short made None = tt
stop_caused db w ev short made (Some o) =
    let m = member w o.0 in
    broken db w ev o.0 (λ site. stop_at db m o.1 short made site site.node) (λ site choices. stop_marks db w ev m o.1 short made site site.node choices)
    (λ site. stop_shown db w ev o.0 m o.1 short made site site.node) (site_of w o.0)

fault_caused : (db : Database) (w : World) (ev : Event) (short : List Bool) (made : ℕ) (o : Option (ℕ × NodeEvent)) → AllCaused db w ev [] (triggered w (λ m e site. fault_at db m e short made site site.node) o).seen
fault_caused db w ev short made None = tt
fault_caused db w ev short made (Some o) =
    let m = member w o.0 in
    broken db w ev o.0 (λ site. fault_at db m o.1 short made site site.node) (λ site choices. fault_marks db w ev m o.1 short made site site.node choices)
    (λ site. fault_shown db w ev o.0 m o.1 short made site site.node) (site_of w o.0)

pub replies_have_causes : RepliesHaveCauses
replies_have_causes db w (Tick server seconds) = tt
replies_have_causes db w (Tick_all seconds) = tt
replies_have_causes db w (Step trigger short) = step_caused db w trigger short
replies_have_causes db w (Stop trigger short made) = stop_caused db w (Stop trigger short made) short made (occasion w trigger)
replies_have_causes db w (Fault trigger short made) = fault_caused db w (Fault trigger short made) short made (occasion w trigger)
replies_have_causes db w (Crash server) =
    broken db w (Crash server) server crash_at (λ site choices. tt) (λ site. tt) (site_of w server)
replies_have_causes db w (Restart server failed) =
    broken db w (Restart server failed) server (restart_at (length w.hosts) server failed) (restart_marks db w (Restart server failed) (length w.hosts) server failed)
    (restart_shown db w (Restart server failed) (length w.hosts) server failed) (site_of w server)
