-- Lines in which memory is found bring no event in which it is not.
use Rattle.std.proofs.Common.{Bool, true, false, cond, ◌≡◌, ℕ, zero, suc, ◌-◌, ◌+◌, ◌&&◌, List, [], ◌∷◌, ◌++◌, Option, Some, None, IfSome, Result, Ok, Err, IfOk}
use Rattle.std.proofs.Common.{length, nat_le, nat_lt, refl, sym, subst}
use Rattle.std.proofs.lemmas.List.Elements.{All-nil, All-cons, All-append}
use Rattle.std.specs.List.{AllByRecursion}
use Rattle.std.specs.Prelude.{All, drop, map, set}
use Rattle.cell_model.specs.Step.{host_at}
use Rattle.cell_model.specs.World.{Site, Trigger, Delivery, Beacon_turn, Recover_turn, Asking, Event, Tick, Tick_all, Step, Stop, Fault, Crash}
use Rattle.cell_model.specs.World.{Restart, site_of, occasion, may_tick, tick_at, ticked}
use Rattle.cell_script.specs.declared.lines.Line.{Line}
use Rattle.cell_script.specs.declared.lines.Line.TheVariants as line
use Rattle.cell_script.specs.declared.lines.Why.{Why}
use Rattle.cell_script.specs.declared.lines.Why.TheVariants as why
use Rattle.cell_script.specs.Meaning.{line_of}
use Rattle.cell_runs.specs.declared.endings.Ending.{Ending}
use Rattle.cell_runs.specs.declared.endings.Ending.TheVariants.{Limit}
use Rattle.cell_runs.specs.declared.endings.Which.TheVariants.{Lines}
use Rattle.cell_runs.specs.declared.limits.TheConstants.{MAX_LINES}
use Rattle.cell_runs.specs.Script.{AreWhole, Choice, Choices, IsHeard, IsWhole, LineRead, Cell, Stage, Line_run, Cell_run, Run_or_why, ScriptEnd, Told}
use Rattle.cell_runs.specs.Script.{DiskOutcome, Serves, Fails_after, Stops_after, choice_of, first_choice, with_event, armed_at, counted_on, outcome_of}
use Rattle.cell_runs.specs.Script.{place_in, stepped_so, stepped, delivered, first_waiting, dropped_of, all_delivered, unless_ended, resting, cell_size_of}
use Rattle.cell_runs.specs.Script.{at_server, at_up, at_down, at_packet, is_down_at, unless_skewed, shown_site, run_in, asked_in, asked, in_stage, next_line}
use Rattle.cell_runs.specs.Script.{fails_at, opened_cell, run_first, kind_of_cell, run_standing, line_run, meaning_run, or_refused, line_result, told_with}
use Rattle.cell_runs.specs.Script.{told_after, told_from, first_told, told}
use Rattle.cell_runs.specs.ScriptDatabase.{ScriptDatabase, Databases}
use Rattle.script_laws.specs.Runs.{IsFound, FindsMemory, MemoryIsFound}
use Rattle.script_laws.proofs.SoundLines.{first_heard, later_heard}

module _ (script_db : ScriptDatabase) where
  -- ---- parts of a line

  event_finds : (c : Cell) (e : Event) → IsFound e → FindsMemory c → FindsMemory (with_event script_db c e).cell
  event_finds c e is finds = All-append IsFound c.events (e ∷ []) finds (All-cons IsFound e [] is (All-nil IsFound))

  so_finds : (c : Cell) (trigger : Trigger) (k : ℕ) (short : List Bool) (outcome : DiskOutcome) → short ≡ [] → FindsMemory c
      → FindsMemory (stepped_so script_db c trigger k short outcome).cell
  so_finds c trigger k short (Serves calls) heard finds =
      event_finds (record c { armed = set c.armed k (counted_on calls (armed_at c.armed k)) }) (Step trigger short) heard finds
  so_finds c trigger k short (Fails_after unheard made) heard finds = event_finds c (Fault trigger unheard made) tt finds
  so_finds c trigger k short (Stops_after unheard made) heard finds =
      event_finds (record c { armed = set c.armed k None }) (Stop trigger unheard made) tt finds

  stepped_finds : (c : Cell) (choice : Choice) (trigger : Trigger) → IsHeard choice → FindsMemory c
      → FindsMemory (stepped script_db c choice trigger).cell
  stepped_finds c choice trigger heard finds =
      let o = occasion c.run.world trigger in
      so_finds c trigger (place_in o) choice.short (outcome_of script_db.database c.run.world choice c.armed o) heard finds

  delivered_finds : (c : Cell) (choice : Choice) (number : ℕ) → IsHeard choice → FindsMemory c
      → FindsMemory (delivered script_db c choice number).cell
  delivered_finds c choice number heard finds =
      stepped_finds (record c { handed = set c.handed (number - 1) true }) choice (Delivery number) heard finds

  unless_finds : (r next : Cell_run) (ending : Option Ending) → FindsMemory r.cell → FindsMemory next.cell
      → FindsMemory (unless_ended r ending next).cell
  unless_finds r next None first second = second
  unless_finds r next (Some ending) first second = first

  all_finds : (most : ℕ) (c : Cell) (choices : List Choice) (o : Option ℕ) → AllByRecursion IsHeard choices → FindsMemory c
      → FindsMemory (all_delivered script_db most c choices o).cell
  all_finds zero c choices None heard finds = finds
  all_finds zero c choices (Some number) heard finds = finds
  all_finds (suc most) c choices None heard finds = finds
  all_finds (suc most) c choices (Some number) heard finds =
      let r : Cell_run = delivered script_db c (choice_of choices) number in
      let first : FindsMemory r.cell = delivered_finds c (choice_of choices) number (first_heard choices heard) finds in
      unless_finds r (all_delivered script_db most r.cell (drop 1 choices) (first_waiting 1 r.cell.handed)) r.ending first
      (all_finds most r.cell (drop 1 choices) (first_waiting 1 r.cell.handed) (later_heard choices heard) first)

  -- ---- lines

  abbrev MayFind : Run_or_why → Type 0
  MayFind r = IfOk r (λ r. FindsMemory r.cell)

  if_finds : (b : Bool) (x y : Run_or_why) → MayFind x → MayFind y → MayFind (cond b x y)
  if_finds true x y first second = first
  if_finds false x y first second = second

  module _ (c : Cell) (finds : FindsMemory c) where
    server_finds : (number : ℕ) (does : ℕ → Run_or_why) → ((k : ℕ) → MayFind (does k)) → MayFind (at_server c number does)
    server_finds number does runs =
        if_finds (nat_lt 0 number && nat_le number (cell_size_of c)) (does (number - 1)) (Err why.Server) (runs (number - 1)) tt

    up_finds : (number : ℕ) (does : ℕ → Cell_run) → ((k : ℕ) → FindsMemory (does k).cell) → MayFind (at_up c number does)
    up_finds number does runs =
        server_finds number (λ k. cond (is_down_at c k) (Err why.State) (Ok (does k)))
        (λ k. if_finds (is_down_at c k) (Err why.State) (Ok (does k)) tt (runs k))

    down_finds : (number : ℕ) (does : ℕ → Cell_run) → ((k : ℕ) → FindsMemory (does k).cell) → MayFind (at_down c number does)
    down_finds number does runs =
        server_finds number (λ k. cond (is_down_at c k) (Ok (does k)) (Err why.State))
        (λ k. if_finds (is_down_at c k) (Ok (does k)) (Err why.State) (runs k) tt)

    packet_finds : (number : ℕ) (r : Cell_run) → FindsMemory r.cell → MayFind (at_packet c number r)
    packet_finds number r is = if_finds (nat_lt 0 number && nat_le number (length c.run.world.packets)) (Ok r) (Err why.Packet) is tt

    skewed_finds : (sites : List Site) (e : Event) → IsFound e → MayFind (unless_skewed script_db c sites e)
    skewed_finds sites e is = if_finds (may_tick sites) (Ok (with_event script_db c e)) (Err why.Skew) (event_finds c e is finds) tt

    line_finds : (choices : Choices) (l : Line) → AllByRecursion IsHeard choices.each → MayFind (run_in script_db c choices l)
    line_finds choices (line.Tick server seconds) heard =
        server_finds server (λ k. unless_skewed script_db c (tick_at c.run.world.sites k seconds) (Tick k seconds))
        (λ k. skewed_finds (tick_at c.run.world.sites k seconds) (Tick k seconds) tt)
    line_finds choices (line.TickAll seconds) heard = skewed_finds (map (ticked seconds) c.run.world.sites) (Tick_all seconds) tt
    line_finds choices (line.Beacon server) heard =
        up_finds server (λ k. stepped script_db c (first_choice choices) (Beacon_turn k))
        (λ k. stepped_finds c (first_choice choices) (Beacon_turn k) (first_heard choices.each heard) finds)
    line_finds choices (line.Recover server) heard =
        up_finds server (λ k. stepped script_db c (first_choice choices) (Recover_turn k))
        (λ k. stepped_finds c (first_choice choices) (Recover_turn k) (first_heard choices.each heard) finds)
    line_finds choices (line.Deliver packet) heard =
        packet_finds packet (delivered script_db c (first_choice choices) packet)
        (delivered_finds c (first_choice choices) packet (first_heard choices.each heard) finds)
    line_finds choices (line.Drop packet) heard = packet_finds packet (resting (record c { handed = set c.handed (packet - 1) true })) finds
    line_finds choices (line.DropAll server) heard =
        up_finds server (λ k. resting (record c { handed = dropped_of (host_at c.run.world.hosts k) c.run.world.packets c.handed }))
        (λ k. finds)
    line_finds choices line.DeliverAll heard = all_finds choices.most c choices.each (first_waiting 1 c.handed) heard finds
    line_finds choices (line.Stop server calls f) heard =
        up_finds server (λ k. resting (record c { armed = set c.armed k (Some (record { calls = calls; made = 0 })) })) (λ k. finds)
    line_finds choices (line.Crash server) heard =
        up_finds server (λ k. with_event script_db (record c { armed = set c.armed k None }) (Crash k))
        (λ k. event_finds (record c { armed = set c.armed k None }) (Crash k) tt finds)
    line_finds choices (line.Restart server) heard =
        down_finds server (λ k. with_event script_db c (Restart k (first_choice choices).fails))
        (λ k. event_finds c (Restart k (first_choice choices).fails) tt finds)
    line_finds choices (line.Show server) heard =
        server_finds server
        (λ k. Ok (record { cell = c; items = shown_site (cell_size_of c) k (site_of c.run.world k); ending = None })) (λ k. finds)
    line_finds choices (line.Cell servers clock k) heard = tt
    line_finds choices line.Nothing heard = finds
    line_finds choices (line.Ask server words) heard = tt

    call_finds : (choice : Choice) (id : ℕ) (words : List (List ℕ)) (server : Option ℕ) (call : Option (List ℕ)) → IsHeard choice
        → MayFind (asked_in script_db c choice id words server call)
    call_finds choice id words server None heard = tt
    call_finds choice id words None (Some call) heard = tt
    call_finds choice id words (Some number) (Some call) heard =
        up_finds number (λ k. stepped script_db c choice (Asking k id call))
        (λ k. stepped_finds c choice (Asking k id call) heard finds)

-- ---- each line, and all

-- so of the cell, if one stands
abbrev MayFindAll : Option Cell → Type 0
MayFindAll cell = IfSome cell FindsMemory

abbrev RunFinds : {E : Type 0} → Result Line_run E → Type 0
RunFinds r = IfOk r (λ run. MayFindAll run.stage.cell)

in_stage_finds : (st : Stage) (r : Run_or_why) → IfOk r (λ r. FindsMemory r.cell) → RunFinds (in_stage st r)
in_stage_finds st (Err w) finds = tt
in_stage_finds st (Ok r) finds = finds

first_finds : (st : Stage) (choices : Choices) (l : Line) → st.cell ≡ None → RunFinds (run_first st choices l)
first_finds st choices line.Nothing none = subst MayFindAll (sym none) tt
first_finds st choices (line.Cell servers clock k) none = All-nil IsFound
first_finds st choices (line.Ask None words) none = tt
first_finds st choices (line.Ask (Some server) words) none = tt
first_finds st choices (line.Tick server seconds) none = tt
first_finds st choices (line.TickAll seconds) none = tt
first_finds st choices (line.Beacon server) none = tt
first_finds st choices (line.Recover server) none = tt
first_finds st choices (line.Deliver packet) none = tt
first_finds st choices (line.Drop packet) none = tt
first_finds st choices (line.DropAll server) none = tt
first_finds st choices line.DeliverAll none = tt
first_finds st choices (line.Stop server calls f) none = tt
first_finds st choices (line.Crash server) none = tt
first_finds st choices (line.Restart server) none = tt
first_finds st choices (line.Show server) none = tt

module _ (dbs : Databases) where
  other_finds : (st : Stage) (choices : Choices) (c : Cell) (l : Line) → AllByRecursion IsHeard choices.each → FindsMemory c
      → RunFinds (in_stage st (run_in (dbs (kind_of_cell c)) c choices l))
  other_finds st choices c l heard finds =
      in_stage_finds st (run_in (dbs (kind_of_cell c)) c choices l) (line_finds (dbs (kind_of_cell c)) c finds choices l heard)

  standing_finds : (st : Stage) (choices : Choices) (c : Cell) (l : Line) → AllByRecursion IsHeard choices.each → FindsMemory c
      → RunFinds (run_standing dbs st choices c l)
  standing_finds st choices c (line.Ask server words) heard finds =
      let script_db : ScriptDatabase = dbs (kind_of_cell c) in
      in_stage_finds (record st { asks = st.asks + 1 }) (asked script_db c (first_choice choices) (st.asks + 1) words server)
      (call_finds script_db c finds (first_choice choices) (st.asks + 1) words server (script_db.words.call_of words) (first_heard choices.each heard))
  standing_finds st choices c line.Nothing heard finds = finds
  standing_finds st choices c (line.Cell servers clock k) heard finds = tt
  standing_finds st choices c (line.Tick server seconds) heard finds = other_finds st choices c (line.Tick server seconds) heard finds
  standing_finds st choices c (line.TickAll seconds) heard finds = other_finds st choices c (line.TickAll seconds) heard finds
  standing_finds st choices c (line.Beacon server) heard finds = other_finds st choices c (line.Beacon server) heard finds
  standing_finds st choices c (line.Recover server) heard finds = other_finds st choices c (line.Recover server) heard finds
  standing_finds st choices c (line.Deliver packet) heard finds = other_finds st choices c (line.Deliver packet) heard finds
  standing_finds st choices c (line.Drop packet) heard finds = other_finds st choices c (line.Drop packet) heard finds
  standing_finds st choices c (line.DropAll server) heard finds = other_finds st choices c (line.DropAll server) heard finds
  standing_finds st choices c line.DeliverAll heard finds = other_finds st choices c line.DeliverAll heard finds
  standing_finds st choices c (line.Stop server calls f) heard finds = other_finds st choices c (line.Stop server calls f) heard finds
  standing_finds st choices c (line.Crash server) heard finds = other_finds st choices c (line.Crash server) heard finds
  standing_finds st choices c (line.Restart server) heard finds = other_finds st choices c (line.Restart server) heard finds
  standing_finds st choices c (line.Show server) heard finds = other_finds st choices c (line.Show server) heard finds

  any_finds : (st : Stage) (choices : Choices) (l : Line) (cell : Option Cell) → st.cell ≡ cell → AllByRecursion IsHeard choices.each → MayFindAll cell
      → RunFinds (line_run dbs st choices l cell)
  any_finds st choices l None is heard finds = first_finds st choices l is
  any_finds st choices l (Some c) is heard finds = standing_finds st choices c l heard finds

  meant_finds : (st : Stage) (choices : Choices) (meaning : Result Line Why) → AllByRecursion IsHeard choices.each → MayFindAll st.cell
      → RunFinds (meaning_run dbs st choices meaning)
  meant_finds st choices (Err w) heard finds = tt
  meant_finds st choices (Ok l) heard finds = any_finds st choices l st.cell refl heard finds

  refused_finds : (r : Result Line_run Why) → RunFinds r → RunFinds (or_refused r)
  refused_finds (Ok run) finds = finds
  refused_finds (Err w) finds = tt

  unless_past : (past : Bool) (r : Result Line_run Ending) → RunFinds r
      → RunFinds (cond {A = Result Line_run Ending} past (Err (Limit Lines)) r)
  unless_past true r finds = tt
  unless_past false r finds = finds

  with_finds : (t : Told) (r : Result Line_run Ending) → MayFindAll t.stage.cell → RunFinds r → MayFindAll (told_with dbs t r).stage.cell
  with_finds t (Ok run) before finds = finds
  with_finds t (Err ending) before finds = before

  after_finds : (t : Told) (r : LineRead) (ended : Option ScriptEnd) → IsWhole r.choices → MayFindAll t.stage.cell
      → MayFindAll (told_after dbs t r ended).stage.cell
  after_finds t r None whole before =
      with_finds t (line_result dbs t.stage r) before
      (unless_past (nat_le MAX_LINES t.stage.lines) (or_refused (meaning_run dbs (next_line t.stage) r.choices (line_of r.line)))
      (refused_finds (meaning_run dbs (next_line t.stage) r.choices (line_of r.line))
      (meant_finds (next_line t.stage) r.choices (line_of r.line) whole.found before)))
  after_finds t r (Some h) whole before = before

  from_finds : (t : Told) (readings : List LineRead) → AreWhole readings → MayFindAll t.stage.cell
      → MayFindAll (told_from dbs t readings).stage.cell
  from_finds t [] whole before = before
  from_finds t (r ∷ readings) whole before =
      from_finds (told_after dbs t r t.ended) readings whole.1 (after_finds t r t.ended whole.0 before)

pub memory_is_found : MemoryIsFound
memory_is_found dbs readings whole = from_finds dbs first_told readings whole tt
