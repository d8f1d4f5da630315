-- The hosts of a cell stay in each line.
use Rattle.std.proofs.Common.{Bool, true, false, cond, ◌≡◌, ℕ, zero, suc, ◌-◌, ◌&&◌, nat_lt, nat_le, List, [], length, refl, ◌∙◌}
use Rattle.std.specs.Prelude.{Option, Some, None, Ok, Err, IfOk, set, drop, map}
use Rattle.ubik_types.specs.declared.hosts.Host.{Host}
use Rattle.cell_model.specs.Step.{host_at}
use Rattle.cell_model.specs.World.{Site, Trigger, Delivery, Beacon_turn, Recover_turn, Asking, Event, Tick, Tick_all, Step, Stop, Fault, Crash, Restart}
use Rattle.cell_model.specs.World.{occasion, site_of, tick_at, ticked, may_tick}
use Rattle.cell_places.proofs.Hosts.{hosts_stay}
use Rattle.cell_script.specs.declared.lines.Line.{Line}
use Rattle.cell_script.specs.declared.lines.Line.TheVariants as line
use Rattle.cell_script.specs.declared.lines.Why.TheVariants as why
use Rattle.cell_runs.specs.declared.endings.Ending.{Ending}
use Rattle.cell_runs.specs.Script.{Choice, Choices, Cell, Cell_run, Run_or_why, DiskOutcome, Serves, Fails_after, Stops_after, outcome_of, place_in, stepped_so, stepped, delivered, all_delivered, unless_ended, choice_of, first_choice, first_waiting, at_server, at_up, at_down, at_packet, is_down_at, unless_skewed, run_in, asked, asked_in, with_event, cell_size_of, dropped_of, shown_site}
use Rattle.cell_runs.specs.ScriptDatabase.{ScriptDatabase}

module _ (script_db : ScriptDatabase) where
  -- ---- steps

  abbrev Stays : List Host → Cell_run → Type 0
  Stays hosts r = r.cell.run.world.hosts ≡ hosts

  so_stays : (c : Cell) (trigger : Trigger) (k : ℕ) (short : List Bool) (outcome : DiskOutcome)
      → Stays c.run.world.hosts (stepped_so script_db c trigger k short outcome)
  so_stays c trigger k short (Serves calls) = hosts_stay script_db.database c.run.world (Step trigger short)
  so_stays c trigger k short (Fails_after unheard made) = hosts_stay script_db.database c.run.world (Fault trigger unheard made)
  so_stays c trigger k short (Stops_after unheard made) = hosts_stay script_db.database c.run.world (Stop trigger unheard made)

  stepped_stays : (c : Cell) (choice : Choice) (trigger : Trigger) → Stays c.run.world.hosts (stepped script_db c choice trigger)
  stepped_stays c choice trigger =
      so_stays c trigger (place_in (occasion c.run.world trigger)) choice.short
      (outcome_of script_db.database c.run.world choice c.armed (occasion c.run.world trigger))

  delivered_stays : (c : Cell) (choice : Choice) (number : ℕ) → Stays c.run.world.hosts (delivered script_db c choice number)
  delivered_stays c choice number = stepped_stays (record c { handed = set c.handed (number - 1) true }) choice (Delivery number)

  unless_stays : (hosts : List Host) (r next : Cell_run) (o : Option Ending) → Stays hosts r → Stays r.cell.run.world.hosts next
      → Stays hosts (unless_ended r o next)
  unless_stays hosts r next None first second = second ∙ first
  unless_stays hosts r next (Some ending) first second = first

  all_stay : (most : ℕ) (c : Cell) (choices : List Choice) (o : Option ℕ)
      → Stays c.run.world.hosts (all_delivered script_db most c choices o)
  all_stay zero c choices None = refl
  all_stay zero c choices (Some number) = refl
  all_stay (suc most) c choices None = refl
  all_stay (suc most) c choices (Some number) =
      let r : Cell_run = delivered script_db c (choice_of choices) number in
      unless_stays c.run.world.hosts r (all_delivered script_db most r.cell (drop 1 choices) (first_waiting 1 r.cell.handed)) r.ending
      (delivered_stays c (choice_of choices) number) (all_stay most r.cell (drop 1 choices) (first_waiting 1 r.cell.handed))

  -- ---- lines

  module _ (c : Cell) where
    abbrev MayStay : Run_or_why → Type 0
    MayStay r = IfOk r (λ r. r.cell.run.world.hosts ≡ c.run.world.hosts)

    if_stays : (b : Bool) (x y : Run_or_why) → MayStay x → MayStay y → MayStay (cond b x y)
    if_stays true x y first second = first
    if_stays false x y first second = second

    server_stays : (number : ℕ) (does : ℕ → Run_or_why) → ((k : ℕ) → MayStay (does k)) → MayStay (at_server c number does)
    server_stays number does stays =
        if_stays (nat_lt 0 number && nat_le number (cell_size_of c)) (does (number - 1)) (Err why.Server) (stays (number - 1)) tt

    up_stays : (number : ℕ) (does : ℕ → Cell_run) → ((k : ℕ) → Stays c.run.world.hosts (does k)) → MayStay (at_up c number does)
    up_stays number does stays =
        server_stays number (λ k. cond (is_down_at c k) (Err why.State) (Ok (does k)))
        (λ k. if_stays (is_down_at c k) (Err why.State) (Ok (does k)) tt (stays k))

    down_stays : (number : ℕ) (does : ℕ → Cell_run) → ((k : ℕ) → Stays c.run.world.hosts (does k)) → MayStay (at_down c number does)
    down_stays number does stays =
        server_stays number (λ k. cond (is_down_at c k) (Ok (does k)) (Err why.State))
        (λ k. if_stays (is_down_at c k) (Ok (does k)) (Err why.State) (stays k) tt)

    packet_stays : (number : ℕ) (r : Cell_run) → Stays c.run.world.hosts r → MayStay (at_packet c number r)
    packet_stays number r stays = if_stays (nat_lt 0 number && nat_le number (length c.run.world.packets)) (Ok r) (Err why.Packet) stays tt

    skewed_stays : (sites : List Site) (e : Event) → MayStay (unless_skewed script_db c sites e)
    skewed_stays sites e =
        if_stays (may_tick sites) (Ok (with_event script_db c e)) (Err why.Skew) (hosts_stay script_db.database c.run.world e) tt

    pub line_stays : (choices : Choices) (l : Line) → MayStay (run_in script_db c choices l)
    line_stays choices (line.Tick server seconds) =
        server_stays server (λ k. unless_skewed script_db c (tick_at c.run.world.sites k seconds) (Tick k seconds))
        (λ k. skewed_stays (tick_at c.run.world.sites k seconds) (Tick k seconds))
    line_stays choices (line.TickAll seconds) = skewed_stays (map (ticked seconds) c.run.world.sites) (Tick_all seconds)
    line_stays choices (line.Beacon server) =
        up_stays server (λ k. stepped script_db c (first_choice choices) (Beacon_turn k))
        (λ k. stepped_stays c (first_choice choices) (Beacon_turn k))
    line_stays choices (line.Recover server) =
        up_stays server (λ k. stepped script_db c (first_choice choices) (Recover_turn k))
        (λ k. stepped_stays c (first_choice choices) (Recover_turn k))
    line_stays choices (line.Deliver packet) =
        packet_stays packet (delivered script_db c (first_choice choices) packet) (delivered_stays c (first_choice choices) packet)
    line_stays choices (line.Drop packet) =
        packet_stays packet (record { cell = record c { handed = set c.handed (packet - 1) true }; items = []; ending = None }) refl
    line_stays choices (line.DropAll server) =
        up_stays server (λ k.
        record {
          cell = record c
              { handed = dropped_of (host_at c.run.world.hosts k) c.run.world.packets c.handed };
          items = [];
          ending = None;
        }) (λ k. refl)
    line_stays choices line.DeliverAll = all_stay choices.most c choices.each (first_waiting 1 c.handed)
    line_stays choices (line.Stop server calls f) =
        up_stays server (λ k.
        record { cell = record c { armed = set c.armed k (Some (record { calls = calls; made = 0 })) }; items = []; ending = None })
        (λ k. refl)
    line_stays choices (line.Crash server) =
        up_stays server (λ k. with_event script_db (record c { armed = set c.armed k None }) (Crash k))
        (λ k. hosts_stay script_db.database c.run.world (Crash k))
    line_stays choices (line.Restart server) =
        down_stays server (λ k. with_event script_db c (Restart k (first_choice choices).fails))
        (λ k. hosts_stay script_db.database c.run.world (Restart k (first_choice choices).fails))
    line_stays choices (line.Show server) =
        server_stays server (λ k. Ok (record { cell = c; items = shown_site (cell_size_of c) k (site_of c.run.world k); ending = None }))
        (λ k. refl)
    line_stays choices (line.Cell servers clock k) = tt
    line_stays choices line.Nothing = refl
    line_stays choices (line.Ask server words) = tt

    pub ask_stays : (choice : Choice) (id : ℕ) (words : List (List ℕ)) (server : Option ℕ)
        → MayStay (asked script_db c choice id words server)
    ask_stays choice id words server = by server (script_db.words.call_of words)
      where
        by : (server : Option ℕ) (call : Option (List ℕ)) → MayStay (asked_in script_db c choice id words server call)
        by server None = tt
        by None (Some call) = tt
        by (Some number) (Some call) =
            up_stays number (λ k. stepped script_db c choice (Asking k id call)) (λ k. stepped_stays c choice (Asking k id call))
