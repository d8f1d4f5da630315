-- What each line of a script is in a cell that stands: a part that goes on with its run, or it is refused.
use Rattle.std.proofs.Common.{Bool, true, false, cond, true≢false, ◌≡◌, ℕ, suc, ◌+◌, ◌-◌, ◌<◌, ◌≤◌, ◌&&◌, nat_lt, nat_le, List, [], ◌∷◌, length, refl}
use Rattle.std.proofs.Common.{sym, ap, ◌∙◌, arith}
use Rattle.std.proofs.lemmas.Bool.{cond_both}
use Rattle.std.proofs.lemmas.Bool.Decides.{nat_tests}
use Rattle.std.proofs.lemmas.List.{length-set}
use Rattle.std.specs.Prelude.{Option, Some, None, IsSome, Ok, Err, IfOk, set, map}
use Rattle.ubik_types.specs.declared.hosts.Host.{Host}
use Rattle.ubik_calls.specs.declared.packets.Packet.{Packet}
use Rattle.cell_model.specs.declared.events.NodeEvent.{NodeEvent}
use Rattle.cell_model.specs.declared.events.NodeEvent.TheVariants as event
use Rattle.cell_model.specs.Step.{host_at}
use Rattle.cell_places.specs.Places.{PacketsHavePlaces}
use Rattle.cell_model.specs.World.{Site, Trigger, Beacon_turn, Recover_turn, Asking, Event, Tick, Tick_all, Crash, Restart, site_of, is_down}
use Rattle.cell_model.specs.World.{may_tick, tick_at, ticked}
use Rattle.cell_script.specs.declared.lines.Line.{Line}
use Rattle.cell_script.specs.declared.lines.Line.TheVariants as line
use Rattle.cell_script.specs.declared.lines.Why.TheVariants as why
use Rattle.cell_runs.specs.Script.{Choice, Choices, Cell, Cell_run, Run_or_why, cell_size_of, at_server, at_up, at_down, at_packet, is_down_at, unless_skewed}
use Rattle.cell_runs.specs.Script.{with_event, node_in, first_choice, first_waiting, dropped_of, delivered, resting, shown_site, stepped, run_in}
use Rattle.cell_runs.specs.Script.{asked, asked_at, asked_in}
use Rattle.cell_runs.specs.ScriptDatabase.{ScriptDatabase}
use Rattle.script_laws.specs.CellRuns.{Fits, SiteFits, TicksOn}
use Rattle.script_laws.specs.Runs.{happenings_of}
use Rattle.script_laws.proofs.Deliveries.{delivered_part, all_part}
use Rattle.script_laws.proofs.Parts.{IsPart, resting_part, event_part, stepped_part}
use Rattle.script_laws.proofs.Steps.{IsOccasion, crash_legal, restart_legal, tick_legal, tick_all_legal}
use Rattle.script_laws.proofs.Worlds.{site_there}

pub between : (number n : ℕ) → (nat_lt 0 number && nat_le number n) ≡ true → (0 < number) × (number ≤ n)
between number n is = (grind (arith, nat_tests), grind (arith, nat_tests))

length-dropped : (host : Host) (packets : List Packet) (handed : List Bool) → length (dropped_of host packets handed) ≡ length handed
length-dropped host [] handed = refl
length-dropped host (p ∷ packets) [] = refl
length-dropped host (p ∷ packets) (one ∷ handed) = ap suc (length-dropped host packets handed)

none_seen : (n k : ℕ) (o : Option Site) → happenings_of (shown_site n k o) ≡ []
none_seen n k None = refl
none_seen n k (Some site) = refl

module _ (calls : Type 0) (law : PacketsHavePlaces) (script_db : ScriptDatabase) (asks : ℕ) (c : Cell) (fits : Fits asks c.run.world)
    (each : length c.handed ≡ length c.run.world.packets) where
  abbrev IsPartOf : ℕ → Cell_run → Type 0
  IsPartOf later r = IsPart calls script_db later c.opening c.events c.run r

  abbrev MayPart : ℕ → Run_or_why → Type 0
  MayPart later r = IfOk r (IsPart calls script_db later c.opening c.events c.run)

  -- ---- the server that a line names

  server_part : (later number : ℕ) (does : ℕ → Run_or_why) → ((k : ℕ) → k < cell_size_of c → MayPart later (does k))
      → MayPart later (at_server c number does)
  server_part later number does runs =
      cond_both (nat_lt 0 number && nat_le number (cell_size_of c)) (does (number - 1)) (Err why.Server) (MayPart later)
      (λ there. let place = between number (cell_size_of c) there in runs (number - 1) (omega (arith, place.0, place.1))) (λ _. tt)

  -- at a server whose site this is
  record IsAt (k : ℕ) (down : Bool) (site : Site) : Type 0 where
    pub inside : k < cell_size_of c
    pub there : site_of c.run.world k ≡ Some site
    pub fit : SiteFits c.run.world.hosts asks site
    pub state : is_down site.node ≡ down

  is_at : (k : ℕ) (down : Bool) → k < cell_size_of c → is_down_at c k ≡ down → (site : Site) × IsAt k down site
  is_at k down inside is =
      let there = site_there asks c.run.world k fits inside in (
        there.0,
        record {
          inside = inside;
          there = there.1;
          fit = there.2;
          state = sym (ap (λ (o : Option Site). is_down (node_in o)) there.1) ∙ is;
        },
      )

  abbrev if_up : (ℕ → Cell_run) → ℕ → Run_or_why
  if_up does k = cond (is_down_at c k) (Err why.State) (Ok (does k))

  abbrev if_down : (ℕ → Cell_run) → ℕ → Run_or_why
  if_down does k = cond (is_down_at c k) (Ok (does k)) (Err why.State)

  up_part : (later number : ℕ) (does : ℕ → Cell_run) → ((k : ℕ) (site : Site) → IsAt k false site → IsPartOf later (does k))
      → MayPart later (at_up c number does)
  up_part later number does runs =
      server_part later number (if_up does) (λ k inside.
      cond_both (is_down_at c k) (Err why.State) (Ok (does k)) (MayPart later) (λ _. tt)
      (λ up. let at = is_at k false inside up in runs k at.0 at.1))

  down_part : (number : ℕ) (does : ℕ → Cell_run) → ((k : ℕ) (site : Site) → IsAt k true site → IsPartOf asks (does k))
      → MayPart asks (at_down c number does)
  down_part number does runs =
      server_part asks number (if_down does) (λ k inside.
      cond_both (is_down_at c k) (Ok (does k)) (Err why.State) (MayPart asks)
      (λ down. let at = is_at k true inside down in runs k at.0 at.1) (λ _. tt))

  -- a step of a server that is up
  turn_part : (later : ℕ) (choice : Choice) (trigger : Trigger) (k : ℕ) (e : NodeEvent) (site : Site) → IsAt k false site
      → IsOccasion calls script_db.database asks later c.run.world trigger k e site
      → IsPartOf later (stepped script_db c choice trigger)
  turn_part later choice trigger k e site at is =
      stepped_part calls law script_db asks later c choice trigger k e site fits each is (λ down. absurd (true≢false (sym down ∙ at.state)))

  -- ---- the lines

  skewed_part : (sites : List Site) (e : Event) → (may_tick sites ≡ true → IsPartOf asks (with_event script_db c e))
      → MayPart asks (unless_skewed script_db c sites e)
  skewed_part sites e runs = cond_both (may_tick sites) (Ok (with_event script_db c e)) (Err why.Skew) (MayPart asks) runs (λ _. tt)

  packet_part : (number : ℕ) (r : Cell_run) → (0 < number → number ≤ length c.run.world.packets → IsPartOf asks r)
      → MayPart asks (at_packet c number r)
  packet_part number r runs =
      cond_both (nat_lt 0 number && nat_le number (length c.run.world.packets)) (Ok r) (Err why.Packet) (MayPart asks)
      (λ there. let place = between number (length c.run.world.packets) there in runs place.0 place.1) (λ _. tt)

  abbrev shown_at : ℕ → Cell_run
  shown_at k = record { cell = c; items = shown_site (cell_size_of c) k (site_of c.run.world k); ending = None }

  pub line_part : (choices : Choices) (l : Line) → TicksOn l → MayPart asks (run_in script_db c choices l)
  line_part choices (line.Tick server seconds) on =
      server_part asks server (λ k. unless_skewed script_db c (tick_at c.run.world.sites k seconds) (Tick k seconds)) (λ k inside.
      let there = site_there asks c.run.world k fits inside in
      skewed_part (tick_at c.run.world.sites k seconds) (Tick k seconds) (λ may.
      event_part calls script_db asks c (Tick k seconds) each
      (tick_legal calls law script_db.database asks c.run.world fits k there.0 there.1 there.2 seconds (omega (arith, on)) may)))
  line_part choices (line.TickAll seconds) on =
      skewed_part (map (ticked seconds) c.run.world.sites) (Tick_all seconds) (λ may.
      event_part calls script_db asks c (Tick_all seconds) each
      (tick_all_legal calls script_db.database asks c.run.world seconds fits (omega (arith, on)) may))
  line_part choices (line.Beacon server) on =
      up_part asks server (λ k. stepped script_db c (first_choice choices) (Beacon_turn k)) (λ k site at.
      turn_part asks (first_choice choices) (Beacon_turn k) k event.BeaconTurn site at
      (record {
        more = omega arith;
        brought = refl;
        there = at.there;
        inside = at.inside;
        site_fits = at.fit;
        asked = tt;
        call = λ _. tt;
      }))
  line_part choices (line.Recover server) on =
      up_part asks server (λ k. stepped script_db c (first_choice choices) (Recover_turn k)) (λ k site at.
      turn_part asks (first_choice choices) (Recover_turn k) k event.RecoverTurn site at
      (record {
        more = omega arith;
        brought = refl;
        there = at.there;
        inside = at.inside;
        site_fits = at.fit;
        asked = tt;
        call = λ _. tt;
      }))
  line_part choices (line.Deliver packet) on =
      packet_part packet (delivered script_db c (first_choice choices) packet) (λ some within.
      delivered_part calls law script_db asks c (first_choice choices) packet fits each some within)
  line_part choices (line.Drop packet) on =
      packet_part packet (resting (record c { handed = set c.handed (packet - 1) true })) (λ some within.
      resting_part calls script_db asks c (set c.handed (packet - 1) true) c.armed [] fits (length-set c.handed (packet - 1) true ∙ each) refl)
  line_part choices (line.DropAll server) on =
      up_part asks server (λ k. resting (record c { handed = dropped_of (host_at c.run.world.hosts k) c.run.world.packets c.handed }))
      (λ k site at.
      resting_part calls script_db asks c (dropped_of (host_at c.run.world.hosts k) c.run.world.packets c.handed) c.armed [] fits
      (length-dropped (host_at c.run.world.hosts k) c.run.world.packets c.handed ∙ each) refl)
  line_part choices line.DeliverAll on = all_part calls law script_db asks choices.most c choices.each (first_waiting 1 c.handed) refl fits each
  line_part choices (line.Stop server most f) on =
      up_part asks server (λ k. resting (record c { armed = set c.armed k (Some (record { calls = most; made = 0 })) })) (λ k site at.
      resting_part calls script_db asks c c.handed (set c.armed k (Some (record { calls = most; made = 0 }))) [] fits each refl)
  line_part choices (line.Crash server) on =
      up_part asks server (λ k. with_event script_db (record c { armed = set c.armed k None }) (Crash k)) (λ k site at.
      event_part calls script_db asks (record c { armed = set c.armed k None }) (Crash k) each
      (crash_legal calls law script_db.database asks c.run.world fits k site at.there at.fit))
  line_part choices (line.Restart server) on =
      down_part server (λ k. with_event script_db c (Restart k (first_choice choices).fails)) (λ k site at.
      event_part calls script_db asks c (Restart k (first_choice choices).fails) each
      (restart_legal calls law script_db.database asks c.run.world fits k site at.there at.fit (first_choice choices).fails at.state))
  line_part choices (line.Show server) on =
      server_part asks server (λ k. Ok (shown_at k)) (λ k inside.
      resting_part calls script_db asks c c.handed c.armed (shown_site (cell_size_of c) k (site_of c.run.world k)) fits each
      (none_seen (cell_size_of c) k (site_of c.run.world k)))
  line_part choices (line.Cell servers clock k) on = tt
  line_part choices line.Nothing on = resting_part calls script_db asks c c.handed c.armed [] fits each refl
  line_part choices (line.Ask server words) on = tt

  -- ---- an ask

  module _ (later id : ℕ) (new : asks < id) (most : id ≤ later) (choice : Choice) (call : List ℕ)
      (names : calls → IsSome (script_db.database.writes call)) where
    pub at_part : (server : Option ℕ) → MayPart later (asked_at script_db c choice id call server)
    at_part None = tt
    at_part (Some number) =
        up_part later number (λ k. stepped script_db c choice (Asking k id call))
        (λ k site at. turn_part later choice (Asking k id call) k (event.Ask id call) site at
        (record {
          more = omega (arith, new, most);
          brought = refl;
          there = at.there;
          inside = at.inside;
          site_fits = at.fit;
          asked = (new, most);
          call = names;
        }))

  module _
      (names : calls → (words : List (List ℕ)) (call : List ℕ) → script_db.words.call_of words ≡ Some call
      → IsSome (script_db.database.writes call))
      (choice : Choice) (words : List (List ℕ)) where
    call_part : (server : Option ℕ) (call : Option (List ℕ)) → script_db.words.call_of words ≡ call
        → MayPart (asks + 1) (asked_in script_db c choice (asks + 1) words server call)
    call_part server None is = tt
    call_part server (Some call) is =
        at_part (asks + 1) (asks + 1) (omega arith) (omega arith) choice call (λ named. names named words call is) server

    pub ask_part : (server : Option ℕ) → MayPart (asks + 1) (asked script_db c choice (asks + 1) words server)
    ask_part server = call_part server (script_db.words.call_of words) refl
