-- In the cell of a script each host has its site: no event, and so no line, adds or takes one.
use Rattle.std.proofs.Common.{Bool, true, false, cond, ◌≡◌, ℕ, zero, suc, ◌-◌, ◌<◌, ◌&&◌, List, [], ◌∷◌, ◌+◌, Option, Some, None, IfSome, Result, Ok}
use Rattle.std.proofs.Common.{Err, IfOk, length, nat_le, nat_lt, refl, sym, subst, ◌∙◌, arith}
use Rattle.std.proofs.lemmas.List.{length-map, length-set}
use Rattle.std.specs.Prelude.{drop, map, set, slice_get}
use Rattle.db_image.specs.Database.{Database}
use Rattle.cell_model.specs.declared.events.NodeEvent.{NodeEvent}
use Rattle.cell_model.specs.Step.{Member, host_at}
use Rattle.cell_model.specs.World.{Site, World, Trigger, Delivery, Beacon_turn, Recover_turn, Asking, Event, Tick, Tick_all, Step, Stop, Fault, Crash}
use Rattle.cell_model.specs.World.{Restart, SiteHappened, member, site_of, occasion, first_site, step_at, stop_at, fault_at, crash_at, restart_at}
use Rattle.cell_model.specs.World.{may_tick, tick_at, ticked, happens_at, triggered, happens}
use Rattle.cell_script.specs.declared.lines.Line.{Line}
use Rattle.cell_script.specs.declared.lines.Line.TheVariants as line
use Rattle.cell_script.specs.declared.lines.Why.{Why}
use Rattle.cell_script.specs.declared.lines.Why.TheVariants as why
use Rattle.cell_script.specs.Meaning.{line_of}
use Rattle.cell_runs.specs.declared.endings.Ending.{Ending}
use Rattle.cell_runs.specs.declared.limits.TheConstants.{MAX_LINES}
use Rattle.cell_runs.specs.Script.{Choice, Choices, LineRead, Cell, Stage, Line_run, Cell_run, Run_or_why, ScriptEnd, Told, DiskOutcome, Serves, Fails_after}
use Rattle.cell_runs.specs.Script.{Stops_after, choice_of, first_choice, with_event, armed_at, counted_on, outcome_of, place_in, stepped_so, stepped, delivered}
use Rattle.cell_runs.specs.Script.{first_waiting, dropped_of, all_delivered, unless_ended, resting, cell_size_of, at_server, at_up}
use Rattle.cell_runs.specs.Script.{at_down, at_packet, is_down_at, unless_skewed, shown_site, run_in, asked_in, asked, in_stage, next_line}
use Rattle.cell_runs.specs.Script.{hosts_of}
use Rattle.cell_runs.specs.Script.{fails_at, run_first, kind_of_cell, run_standing, line_run, meaning_run, or_refused, line_result, told_with}
use Rattle.cell_runs.specs.Script.{told_after}
use Rattle.cell_runs.specs.ScriptDatabase.{ScriptDatabase, Databases}
use Rattle.script_laws.proofs.Telling.{length-hosts, length-fails}
use Rattle.script_laws.proofs.Worlds.{length-tick}

-- each host has its site
abbrev pub IsWhole : World → Type 0
IsWhole w = length w.sites ≡ length w.hosts

abbrev pub HasSites : Cell → Type 0
HasSites c = IsWhole c.run.world

element : {X : Type 0} (xs : List X) (k : ℕ) → k < length xs → (x : X) × (slice_get xs k ≡ Some x)
element [] k inside = absurd (omega arith)
element (x ∷ xs) zero inside = (x, refl)
element (x ∷ xs) (suc k) inside = element xs k (omega arith)

-- the site of a host
pub site_at : (w : World) (k : ℕ) → IsWhole w → k < length w.hosts → (site : Site) × (site_of w k ≡ Some site)
site_at w k whole inside = element w.sites k (omega (arith, whole))

-- ---- events

at_whole : (w : World) (k : ℕ) (f : Site → SiteHappened) (o : Option Site) → IsWhole w → IsWhole (happens_at w k f o).world
at_whole w k f None whole = whole
at_whole w k f (Some site) whole = length-set w.sites k (f site).site ∙ whole

triggered_whole : (w : World) (f : Member → NodeEvent → Site → SiteHappened) (o : Option (ℕ × NodeEvent)) → IsWhole w
    → IsWhole (triggered w f o).world
triggered_whole w f None whole = whole
triggered_whole w f (Some o) whole = at_whole w o.0 (f (member w o.0) o.1) (site_of w o.0) whole

event_whole : (db : Database) (w : World) (e : Event) → IsWhole w → IsWhole (happens db w e).world
event_whole db w (Tick server seconds) whole = length-tick w.sites server seconds ∙ whole
event_whole db w (Tick_all seconds) whole = length-map w.sites (ticked seconds) ∙ whole
event_whole db w (Step trigger short) whole =
    triggered_whole w (λ m e site. step_at db m trigger e short site site.node) (occasion w trigger) whole
event_whole db w (Stop trigger short made) whole =
    triggered_whole w (λ m e site. stop_at db m e short made site site.node) (occasion w trigger) whole
event_whole db w (Fault trigger short made) whole =
    triggered_whole w (λ m e site. fault_at db m e short made site site.node) (occasion w trigger) whole
event_whole db w (Crash server) whole = at_whole w server crash_at (site_of w server) whole
event_whole db w (Restart server failed) whole = at_whole w server (restart_at (length w.hosts) server failed) (site_of w server) whole

-- ---- parts of a line

module _ (script_db : ScriptDatabase) where
  event_has : (c : Cell) (e : Event) → HasSites c → HasSites (with_event script_db c e).cell
  event_has c e has = event_whole script_db.database c.run.world e has

  so_has : (c : Cell) (trigger : Trigger) (k : ℕ) (short : List Bool) (outcome : DiskOutcome) → HasSites c
      → HasSites (stepped_so script_db c trigger k short outcome).cell
  so_has c trigger k short (Serves calls) has =
      event_has (record c { armed = set c.armed k (counted_on calls (armed_at c.armed k)) }) (Step trigger short) has
  so_has c trigger k short (Fails_after unheard made) has = event_has c (Fault trigger unheard made) has
  so_has c trigger k short (Stops_after unheard made) has =
      event_has (record c { armed = set c.armed k None }) (Stop trigger unheard made) has

  stepped_has : (c : Cell) (choice : Choice) (trigger : Trigger) → HasSites c → HasSites (stepped script_db c choice trigger).cell
  stepped_has c choice trigger has =
      let o = occasion c.run.world trigger in
      so_has c trigger (place_in o) choice.short (outcome_of script_db.database c.run.world choice c.armed o) has

  delivered_has : (c : Cell) (choice : Choice) (number : ℕ) → HasSites c → HasSites (delivered script_db c choice number).cell
  delivered_has c choice number has = stepped_has (record c { handed = set c.handed (number - 1) true }) choice (Delivery number) has

  unless_has : (r next : Cell_run) (ending : Option Ending) → HasSites r.cell → HasSites next.cell
      → HasSites (unless_ended r ending next).cell
  unless_has r next None first second = second
  unless_has r next (Some ending) first second = first

  all_has : (most : ℕ) (c : Cell) (choices : List Choice) (o : Option ℕ) → HasSites c
      → HasSites (all_delivered script_db most c choices o).cell
  all_has zero c choices None has = has
  all_has zero c choices (Some number) has = has
  all_has (suc most) c choices None has = has
  all_has (suc most) c choices (Some number) has =
      let r : Cell_run = delivered script_db c (choice_of choices) number in
      let first : HasSites r.cell = delivered_has c (choice_of choices) number has in
      unless_has r (all_delivered script_db most r.cell (drop 1 choices) (first_waiting 1 r.cell.handed)) r.ending first
      (all_has most r.cell (drop 1 choices) (first_waiting 1 r.cell.handed) first)

  -- ---- lines

  abbrev MayHave : Run_or_why → Type 0
  MayHave r = IfOk r (λ r. HasSites r.cell)

  if_has : (b : Bool) (x y : Run_or_why) → MayHave x → MayHave y → MayHave (cond b x y)
  if_has true x y first second = first
  if_has false x y first second = second

  module _ (c : Cell) (has : HasSites c) where
    server_has : (number : ℕ) (does : ℕ → Run_or_why) → ((k : ℕ) → MayHave (does k)) → MayHave (at_server c number does)
    server_has number does runs =
        if_has (nat_lt 0 number && nat_le number (cell_size_of c)) (does (number - 1)) (Err why.Server) (runs (number - 1)) tt

    up_has : (number : ℕ) (does : ℕ → Cell_run) → ((k : ℕ) → HasSites (does k).cell) → MayHave (at_up c number does)
    up_has number does runs =
        server_has number (λ k. cond (is_down_at c k) (Err why.State) (Ok (does k)))
        (λ k. if_has (is_down_at c k) (Err why.State) (Ok (does k)) tt (runs k))

    down_has : (number : ℕ) (does : ℕ → Cell_run) → ((k : ℕ) → HasSites (does k).cell) → MayHave (at_down c number does)
    down_has number does runs =
        server_has number (λ k. cond (is_down_at c k) (Ok (does k)) (Err why.State))
        (λ k. if_has (is_down_at c k) (Ok (does k)) (Err why.State) (runs k) tt)

    packet_has : (number : ℕ) (r : Cell_run) → HasSites r.cell → MayHave (at_packet c number r)
    packet_has number r is = if_has (nat_lt 0 number && nat_le number (length c.run.world.packets)) (Ok r) (Err why.Packet) is tt

    skewed_has : (sites : List Site) (e : Event) → MayHave (unless_skewed script_db c sites e)
    skewed_has sites e = if_has (may_tick sites) (Ok (with_event script_db c e)) (Err why.Skew) (event_has c e has) tt

    line_has : (choices : Choices) (l : Line) → MayHave (run_in script_db c choices l)
    line_has choices (line.Tick server seconds) =
        server_has server (λ k. unless_skewed script_db c (tick_at c.run.world.sites k seconds) (Tick k seconds))
        (λ k. skewed_has (tick_at c.run.world.sites k seconds) (Tick k seconds))
    line_has choices (line.TickAll seconds) = skewed_has (map (ticked seconds) c.run.world.sites) (Tick_all seconds)
    line_has choices (line.Beacon server) =
        up_has server (λ k. stepped script_db c (first_choice choices) (Beacon_turn k))
        (λ k. stepped_has c (first_choice choices) (Beacon_turn k) has)
    line_has choices (line.Recover server) =
        up_has server (λ k. stepped script_db c (first_choice choices) (Recover_turn k))
        (λ k. stepped_has c (first_choice choices) (Recover_turn k) has)
    line_has choices (line.Deliver packet) =
        packet_has packet (delivered script_db c (first_choice choices) packet) (delivered_has c (first_choice choices) packet has)
    line_has choices (line.Drop packet) = packet_has packet (resting (record c { handed = set c.handed (packet - 1) true })) has
    line_has choices (line.DropAll server) =
        up_has server (λ k. resting (record c { handed = dropped_of (host_at c.run.world.hosts k) c.run.world.packets c.handed }))
        (λ k. has)
    line_has choices line.DeliverAll = all_has choices.most c choices.each (first_waiting 1 c.handed) has
    line_has choices (line.Stop server calls f) =
        up_has server (λ k. resting (record c { armed = set c.armed k (Some (record { calls = calls; made = 0 })) })) (λ k. has)
    line_has choices (line.Crash server) =
        up_has server (λ k. with_event script_db (record c { armed = set c.armed k None }) (Crash k))
        (λ k. event_has (record c { armed = set c.armed k None }) (Crash k) has)
    line_has choices (line.Restart server) =
        down_has server (λ k. with_event script_db c (Restart k (first_choice choices).fails))
        (λ k. event_has c (Restart k (first_choice choices).fails) has)
    line_has choices (line.Show server) =
        server_has server
        (λ k. Ok (record { cell = c; items = shown_site (cell_size_of c) k (site_of c.run.world k); ending = None })) (λ k. has)
    line_has choices (line.Cell servers clock k) = tt
    line_has choices line.Nothing = has
    line_has choices (line.Ask server words) = tt

    call_has : (choice : Choice) (id : ℕ) (words : List (List ℕ)) (server : Option ℕ) (call : Option (List ℕ))
        → MayHave (asked_in script_db c choice id words server call)
    call_has choice id words server None = tt
    call_has choice id words None (Some call) = tt
    call_has choice id words (Some number) (Some call) =
        up_has number (λ k. stepped script_db c choice (Asking k id call)) (λ k. stepped_has c choice (Asking k id call) has)

-- ---- each line, and all

-- so of the cell, if one stands
abbrev pub MayHaveSites : Option Cell → Type 0
MayHaveSites cell = IfSome cell HasSites

abbrev RunHas : {E : Type 0} → Result Line_run E → Type 0
RunHas r = IfOk r (λ run. MayHaveSites run.stage.cell)

in_stage_has : (st : Stage) (r : Run_or_why) → IfOk r (λ r. HasSites r.cell) → RunHas (in_stage st r)
in_stage_has st (Err w) has = tt
in_stage_has st (Ok r) has = has

first_has : (st : Stage) (choices : Choices) (l : Line) → st.cell ≡ None → RunHas (run_first st choices l)
first_has st choices line.Nothing none = subst MayHaveSites (sym none) tt
first_has st choices (line.Cell servers clock k) none =
    let failed = fails_at servers choices.each in
    length-map failed (first_site (length (hosts_of servers)) clock) ∙ length-fails servers choices.each ∙ sym (length-hosts 0 servers)
first_has st choices (line.Ask None words) none = tt
first_has st choices (line.Ask (Some server) words) none = tt
first_has st choices (line.Tick server seconds) none = tt
first_has st choices (line.TickAll seconds) none = tt
first_has st choices (line.Beacon server) none = tt
first_has st choices (line.Recover server) none = tt
first_has st choices (line.Deliver packet) none = tt
first_has st choices (line.Drop packet) none = tt
first_has st choices (line.DropAll server) none = tt
first_has st choices line.DeliverAll none = tt
first_has st choices (line.Stop server calls f) none = tt
first_has st choices (line.Crash server) none = tt
first_has st choices (line.Restart server) none = tt
first_has st choices (line.Show server) none = tt

module _ (dbs : Databases) where
  other_has : (st : Stage) (choices : Choices) (c : Cell) (l : Line) → HasSites c
      → RunHas (in_stage st (run_in (dbs (kind_of_cell c)) c choices l))
  other_has st choices c l has =
      in_stage_has st (run_in (dbs (kind_of_cell c)) c choices l) (line_has (dbs (kind_of_cell c)) c has choices l)

  standing_has : (st : Stage) (choices : Choices) (c : Cell) (l : Line) → HasSites c → RunHas (run_standing dbs st choices c l)
  standing_has st choices c (line.Ask server words) has =
      let script_db : ScriptDatabase = dbs (kind_of_cell c) in
      in_stage_has (record st { asks = st.asks + 1 }) (asked script_db c (first_choice choices) (st.asks + 1) words server)
      (call_has script_db c has (first_choice choices) (st.asks + 1) words server (script_db.words.call_of words))
  standing_has st choices c line.Nothing has = has
  standing_has st choices c (line.Cell servers clock k) has = tt
  standing_has st choices c (line.Tick server seconds) has = other_has st choices c (line.Tick server seconds) has
  standing_has st choices c (line.TickAll seconds) has = other_has st choices c (line.TickAll seconds) has
  standing_has st choices c (line.Beacon server) has = other_has st choices c (line.Beacon server) has
  standing_has st choices c (line.Recover server) has = other_has st choices c (line.Recover server) has
  standing_has st choices c (line.Deliver packet) has = other_has st choices c (line.Deliver packet) has
  standing_has st choices c (line.Drop packet) has = other_has st choices c (line.Drop packet) has
  standing_has st choices c (line.DropAll server) has = other_has st choices c (line.DropAll server) has
  standing_has st choices c line.DeliverAll has = other_has st choices c line.DeliverAll has
  standing_has st choices c (line.Stop server calls f) has = other_has st choices c (line.Stop server calls f) has
  standing_has st choices c (line.Crash server) has = other_has st choices c (line.Crash server) has
  standing_has st choices c (line.Restart server) has = other_has st choices c (line.Restart server) has
  standing_has st choices c (line.Show server) has = other_has st choices c (line.Show server) has

  any_has : (st : Stage) (choices : Choices) (l : Line) (cell : Option Cell) → st.cell ≡ cell → MayHaveSites cell
      → RunHas (line_run dbs st choices l cell)
  any_has st choices l None is has = first_has st choices l is
  any_has st choices l (Some c) is has = standing_has st choices c l has

  refused_has : (r : Result Line_run Why) → RunHas r → RunHas (or_refused r)
  refused_has (Ok run) is = is
  refused_has (Err w) is = tt

  meant_has : (st : Stage) (choices : Choices) (meaning : Result Line Why) → MayHaveSites st.cell
      → RunHas (meaning_run dbs st choices meaning)
  meant_has st choices (Err w) has = tt
  meant_has st choices (Ok l) has = any_has st choices l st.cell refl has

  if_run_has : (b : Bool) (x y : Result Line_run Ending) → RunHas x → RunHas y → RunHas (cond b x y)
  if_run_has true x y first second = first
  if_run_has false x y first second = second

  result_has : (st : Stage) (r : LineRead) → MayHaveSites st.cell → RunHas (line_result dbs st r)
  result_has st r has =
      let meaning : Result Line Why = line_of r.line in
      if_run_has (nat_le MAX_LINES st.lines) _ _ tt
      (refused_has (meaning_run dbs (next_line st) r.choices meaning) (meant_has (next_line st) r.choices meaning has))

  with_has : (t : Told) (o : Result Line_run Ending) → MayHaveSites t.stage.cell → RunHas o
      → MayHaveSites (told_with dbs t o).stage.cell
  with_has t (Err ending) has is = has
  with_has t (Ok run) has is = is

  -- a line leaves each host its site
  pub line_keeps_sites : (t : Told) (r : LineRead) (ended : Option ScriptEnd) → MayHaveSites t.stage.cell
      → MayHaveSites (told_after dbs t r ended).stage.cell
  line_keeps_sites t r None has = with_has t (line_result dbs t.stage r) has (result_has t.stage r has)
  line_keeps_sites t r (Some ended) has = has
