-- The meaning of a script: each line is a list of events of the world, given what the lines before it left, or the script ends
-- there (own). The free choices are where a disk fails, whether a stop lets the durable call take place in which it comes, and where memory
-- is not found.
use Rattle.std.specs.List.{AllByRecursion}
use Rattle.std.specs.Prelude.{ℕ, zero, suc, ◌≡◌, ◌+◌, ◌-◌, ◌==◌, ◌&&◌, ◌||◌, nat_lt, nat_le, not, Bool, true, false, if◌then◌else◌, Option, Some, None, is_none, Result, Ok, Err, List, [], ◌∷◌, ◌++◌, length, map, replicate, set, slice_get, drop}
use Rattle.ubik_types.specs.declared.hosts.Host.{Host}
use Rattle.ubik_types.specs.declared.versions.Version.{Version}
use Rattle.ubik_types.specs.Lease.{lease_end}
use Rattle.ubik_types.specs.Phase.{phase_of}
use Rattle.ubik_types.specs.Version.{zero_version, version_eq}
use Rattle.ubik_calls.specs.declared.packets.Packet.{Packet}
use Rattle.ubik_calls.specs.Length.{packet_length}
use Rattle.db_image.specs.Database.{Database}
use Rattle.cell_model.specs.declared.events.NodeEvent.{NodeEvent}
use Rattle.cell_model.specs.Book.{Run, first_run, run_with, clock_at}
use Rattle.cell_model.specs.Durable.{Made, version_after}
use Rattle.cell_model.specs.Node.{Node, Down, Halted, Up, Server}
use Rattle.cell_model.specs.NodeRule.{place_of, step_of}
use Rattle.cell_model.specs.Step.{host_at}
use Rattle.cell_model.specs.World.{Site, World, Trigger, Delivery, Beacon_turn, Recover_turn, Asking, Event, Tick, Tick_all, Step, Stop, Fault, Crash, Restart, Happening, Sent, Happened, happens, first_world, first_seen, calls_on, occasion, member, site_of, is_down, may_tick, tick_at, ticked}
use Rattle.cell_script.specs.declared.lines.Kind.{Kind}
use Rattle.cell_script.specs.declared.lines.Line.{Line}
use Rattle.cell_script.specs.declared.lines.Line.TheVariants as line
use Rattle.cell_script.specs.Meaning.{line_of}
use Rattle.cell_script.specs.declared.lines.Why.{Why}
use Rattle.cell_script.specs.declared.lines.Why.TheVariants as why
use Rattle.cell_runs.specs.declared.limits.TheConstants.{MAX_LINES, MAX_PACKETS, MAX_PACKET_BYTES}
use Rattle.cell_runs.specs.declared.endings.Ending.{Ending}
use Rattle.cell_runs.specs.declared.endings.Ending.TheVariants.{Refused, Limit}
use Rattle.cell_runs.specs.declared.endings.Which.TheVariants.{Lines, Packets, PacketBytes}
use Rattle.cell_runs.specs.ScriptDatabase.{ScriptDatabase, Databases}
use Rattle.cell_runs.specs.declared.traces.Showing.{Showing}
use Rattle.cell_runs.specs.Trace.{TraceItem, Tells, Shows, trace, ending_text}

-- The choices of a step or an opening: whether its disk fails; how many of its durable calls took place, where it does; and
-- whether the durable call took place in which an armed disk stops. Want of memory is a choice too: which of its replies are for
-- that, in their order. Of a step in which the disk fails or stops no reply is seen (`unheard`). In one that the disk serves such a
-- reply ends the run (`short`).
pub record Choice : Type 0 where
  pub fails : Bool
  pub made : ℕ
  pub took : Bool
  pub unheard : List Bool
  pub short : List Bool

abbrev pub sound : Choice
sound = record { fails = false; made = 0; took = false; unheard = []; short = [] }

-- no reply that is seen of the step is for want of memory
abbrev pub IsHeard : Choice → Type 0
IsHeard choice = choice.short ≡ []

-- the first of these choices; where nothing is said of it the disk is sound
abbrev pub choice_of : List Choice → Choice
choice_of [] = sound
choice_of (choice ∷ _) = choice

-- The choices of a line: those of the steps and openings in it, in their order; and how many packets it hands over at most, where it
-- hands over all that wait. That is as many as a script may send, but where memory runs out in the line, which ends the run: there the
-- disks hold what the deliveries before that left.
pub record Choices : Type 0 where
  pub each : List Choice
  pub most : ℕ

-- every disk is sound, and the line is run to its end
abbrev pub sound_choices : Choices
sound_choices = record { each = []; most = MAX_PACKETS }

-- the line is run to its end, and memory is found in it
pub record IsWhole (choices : Choices) : Type 0 where
  pub most : choices.most ≡ MAX_PACKETS
  pub found : AllByRecursion IsHeard choices.each

-- the choice for the first step of a line
abbrev pub first_choice : Choices → Choice
first_choice choices = choice_of choices.each

-- a line that was read, and the choices of it
pub record LineRead : Type 0 where
  pub line : List ℕ
  pub choices : Choices

-- each line is run to its end
abbrev pub AreWhole : List LineRead → Type 0
AreWhole [] = Unit {0}
AreWhole (r ∷ readings) = IsWhole r.choices × AreWhole readings

-- a disk that is to stop: how many changing calls it lets pass, and how many there were since
pub record Armed : Type 0 where
  pub calls : ℕ
  pub made : ℕ

-- the opening of a cell: its kind, its clock, and at which servers the disk failed in it
pub record Opening : Type 0 where
  pub kind : Kind
  pub clock : ℕ
  pub failed : List Bool

-- a cell that stands: which one, the events since its opening, the run that they make, which packets were delivered or dropped,
-- and which disks are armed
pub record Cell : Type 0 where
  pub opening : Opening
  pub events : List Event
  pub run : Run
  pub handed : List Bool
  pub armed : List (Option Armed)

-- the first world of a cell
abbrev pub first_of : Cell → World
first_of c = first_world c.run.world.hosts c.opening.clock c.opening.failed

-- what the lines so far left: how many there were, how many calls were asked, and the cell, once there is one
pub record Stage : Type 0 where
  pub lines : ℕ
  pub asks : ℕ
  pub cell : Option Cell

abbrev pub first_stage : Stage
first_stage = record { lines = 0; asks = 0; cell = None }

-- what a line leaves, what it tells, and how the script ends in it, if it does
pub record Line_run : Type 0 where
  pub stage : Stage
  pub items : List TraceItem
  pub ending : Option Ending

-- what a part of a line leaves of a cell, what it tells, and how the script ends in it, if it does
pub record Cell_run : Type 0 where
  pub cell : Cell
  pub items : List TraceItem
  pub ending : Option Ending

-- server k, which is counted from 0, has the host 10.0.0.(k + 1)
abbrev pub hosts_from : ℕ → ℕ → List Host
hosts_from k zero = []
hosts_from k (suc n) = record { 0 = 167772161 + k } ∷ hosts_from (k + 1) n

abbrev pub hosts_of : ℕ → List Host
hosts_of n = hosts_from 0 n

-- how many bytes the frames of these packets have
abbrev pub bytes_of : List Packet → ℕ
bytes_of [] = 0
bytes_of (p ∷ packets) = packet_length p + bytes_of packets

-- the limit that a packet passes, by its number and by the bytes of all packets up to it
abbrev pub passed_by : (number bytes : ℕ) → Option Ending
passed_by number bytes =
    if nat_lt MAX_PACKETS number then Some (Limit Packets)
    else (if nat_lt MAX_PACKET_BYTES bytes then Some (Limit PacketBytes) else None)

-- What is told of what was seen after packets of so many bytes: all of it, or what stands before the first packet that passes a
-- limit.
pub record Within : Type 0 where
  pub items : List TraceItem
  pub ending : Option Ending

abbrev pub within_more : TraceItem → Within → Within
within_more item rest = record { items = item ∷ rest.items; ending = rest.ending }

abbrev pub within_packet : TraceItem → Option Ending → Within → Within
within_packet item None rest = within_more item rest
within_packet item (Some ending) rest = record { items = []; ending = Some ending }

abbrev pub within : ℕ → List Happening → Within
within bytes [] = record { items = []; ending = None }
within bytes (Sent number p ∷ seen) =
    within_packet (Tells (Sent number p)) (passed_by number (bytes + packet_length p)) (within (bytes + packet_length p) seen)
within bytes (h ∷ seen) = within_more (Tells h) (within bytes seen)

-- a cell after an event; packets that are sent in it wait
abbrev pub cell_after : Cell → Event → Happened → Cell
cell_after c e h =
    record c {
      events = c.events ++ e ∷ [];
      run = run_with c.run e h;
      handed = c.handed ++ replicate (length h.world.packets - length c.run.world.packets) false;
    }

-- an event
abbrev pub happened : Cell → Event → Happened → Cell_run
happened c e h =
    let told = within (bytes_of c.run.world.packets) h.seen in
    record { cell = cell_after c e h; items = told.items; ending = told.ending }

abbrev pub with_event : ScriptDatabase → Cell → Event → Cell_run
with_event script_db c e = happened c e (happens script_db.database c.run.world e)

abbrev pub one_more : Option ℕ → Option ℕ
one_more None = None
one_more (Some n) = Some (n + 1)

-- how many changing calls of their disk durable calls make, one after the other
abbrev pub calls_on_all : Version → List Made → ℕ
calls_on_all version [] = 0
calls_on_all version (made ∷ calls) = calls_on version made + calls_on_all (version_after made.call) calls

-- How many durable calls are whole before the one in which a disk stops that lets so many changing calls pass, if it stops in
-- one of these.
abbrev pub calls_before_stop : Version → ℕ → List Made → Option ℕ
calls_before_stop version left [] = None
calls_before_stop version left (made ∷ calls) =
    if nat_lt left (calls_on version made) then Some 0
    else one_more (calls_before_stop (version_after made.call) (left - calls_on version made) calls)

-- the same of a disk that may be armed
abbrev pub stops_in : Version → List Made → Option Armed → Option ℕ
stops_in version calls None = None
stops_in version calls (Some armed) = calls_before_stop version (armed.calls - armed.made) calls

abbrev pub armed_at : List (Option Armed) → ℕ → Option Armed
armed_at [] k = None
armed_at (armed ∷ more) zero = armed
armed_at (armed ∷ more) (suc k) = armed_at more k

abbrev pub counted_on : ℕ → Option Armed → Option Armed
counted_on calls None = None
counted_on calls (Some armed) = Some (record armed { made = armed.made + calls })

-- a step that the server of a trigger makes: what the disk does in it
pub data DiskOutcome : Type 0 where
  -- it serves the step, in so many changing calls
  Serves : (calls : ℕ) → DiskOutcome
  -- it fails or stops after so many durable calls of the step with these replies for want of memory
  Fails_after : (short : List Bool) → (made : ℕ) → DiskOutcome
  Stops_after : (short : List Bool) → (made : ℕ) → DiskOutcome

abbrev pub or_stops : DiskOutcome → (short : List Bool) → (took : Bool) → Option ℕ → DiskOutcome
or_stops other short took None = other
or_stops other short took (Some made) = Stops_after short (if took then made + 1 else made)

-- the disk that serves a step, or stops in it, where it is armed for that
abbrev pub served_or_stops : Choice → Version → (List Bool → List Made) → Option Armed → DiskOutcome
served_or_stops choice version calls_with armed =
    or_stops (Serves (calls_on_all version (calls_with choice.short))) choice.short choice.took (stops_in version (calls_with choice.short) armed)

-- An armed disk stops where it must; else it fails or not. `calls_with` has the durable calls of the step, by its replies for want of memory.
abbrev pub outcome_up : Choice → Version → (List Bool → List Made) → Option Armed → DiskOutcome
outcome_up choice version calls_with armed =
    if choice.fails then Fails_after choice.unheard choice.made
    else or_stops (served_or_stops choice version calls_with armed) choice.unheard choice.took (stops_in version (calls_with choice.unheard) armed)

-- a server that is down or halted makes no call of its disk
abbrev pub outcome_at : Database → World → Choice → List (Option Armed) → ℕ × NodeEvent → Node → DiskOutcome
outcome_at db w choice armed o (Up s) =
    outcome_up choice s.version (λ short. (step_of db (member w o.0) s (clock_at w o.0) o.1 short).calls) (armed_at armed o.0)
outcome_at db w choice armed o _ = Serves 0

abbrev pub node_in : Option Site → Node
node_in None = Down
node_in (Some site) = site.node

abbrev pub outcome_of : Database → World → Choice → List (Option Armed) → Option (ℕ × NodeEvent) → DiskOutcome
outcome_of db w choice armed None = Serves 0
outcome_of db w choice armed (Some o) = outcome_at db w choice armed o (node_in (site_of w o.0))

abbrev pub place_in : Option (ℕ × NodeEvent) → ℕ
place_in None = 0
place_in (Some o) = o.0

-- The step that a trigger brings. A stop disarms its disk.
abbrev pub stepped_so : ScriptDatabase → Cell → Trigger → ℕ → (short : List Bool) → DiskOutcome → Cell_run
stepped_so script_db c trigger k short (Serves calls) =
    with_event script_db (record c { armed = set c.armed k (counted_on calls (armed_at c.armed k)) }) (Step trigger short)
stepped_so script_db c trigger k short (Fails_after unheard made) = with_event script_db c (Fault trigger unheard made)
stepped_so script_db c trigger k short (Stops_after unheard made) =
    with_event script_db (record c { armed = set c.armed k None }) (Stop trigger unheard made)

abbrev pub stepped : ScriptDatabase → Cell → Choice → Trigger → Cell_run
stepped script_db c choice trigger =
    let w = c.run.world in
    let o = occasion w trigger in
    stepped_so script_db c trigger (place_in o) choice.short (outcome_of script_db.database w choice c.armed o)

-- a packet is delivered, and waits no longer
abbrev pub delivered : ScriptDatabase → Cell → Choice → ℕ → Cell_run
delivered script_db c choice number =
    stepped script_db (record c { handed = set c.handed (number - 1) true }) choice (Delivery number)

-- the lowest number of a packet that waits, those from `number` on being looked at
abbrev pub first_waiting : ℕ → List Bool → Option ℕ
first_waiting number [] = None
first_waiting number (handed ∷ more) = if handed then first_waiting (number + 1) more else Some number

abbrev pub joined_run : List TraceItem → Cell_run → Cell_run
joined_run items r = record r { items = items ++ r.items }

abbrev pub resting : Cell → Cell_run
resting c = record { cell = c; items = []; ending = None }

abbrev pub unless_ended : Cell_run → Option Ending → Cell_run → Cell_run
unless_ended r None next = joined_run r.items next
unless_ended r (Some ending) next = r

-- Waiting packets are delivered one after the other, the lowest number first, those among them that are sent meanwhile. There
-- are no more of them than a script may send.
abbrev pub all_delivered : ScriptDatabase → (most : ℕ) → Cell → List Choice → Option ℕ → Cell_run
all_delivered script_db most c choices None = resting c
all_delivered script_db zero c choices (Some number) = resting c
all_delivered script_db (suc most) c choices (Some number) =
    let r = delivered script_db c (choice_of choices) number in
    unless_ended r r.ending (all_delivered script_db most r.cell (drop 1 choices) (first_waiting 1 r.cell.handed))

-- packets to or from a host wait no longer
abbrev pub is_of_host : Host → Packet → Bool
is_of_host host p = p.from.0 == host.0 || p.to.0 == host.0

abbrev pub dropped_of : Host → List Packet → List Bool → List Bool
dropped_of host [] handed = handed
dropped_of host (p ∷ packets) [] = []
dropped_of host (p ∷ packets) (handed ∷ more) = (handed || is_of_host host p) ∷ dropped_of host packets more

-- what is shown of a server: of a halted one what it kept
abbrev pub showing_of : ℕ → Node → Option Showing
showing_of n Down = None
showing_of n (Halted h) = Some (record { version = h.version; phase = h.phase; until = lease_end n h.starts; len = h.len })
showing_of n (Up s) =
    Some (record { version = s.version; phase = phase_of s.phase; until = lease_end n s.starts; len = length s.image })

abbrev pub shown_site : ℕ → ℕ → Option Site → List TraceItem
shown_site n k None = []
shown_site n k (Some site) = Shows k site.clock (showing_of n site.node) ∷ []

abbrev pub cell_size_of : Cell → ℕ
cell_size_of c = length c.run.world.hosts

-- a line that is run in a cell, or the reason for which it is refused
abbrev pub Run_or_why : Type 0
Run_or_why = Result Cell_run Why

-- server `number`, counted from 1, is one of the cell
abbrev pub at_server : Cell → ℕ → (ℕ → Run_or_why) → Run_or_why
at_server c number does =
    if nat_lt 0 number && nat_le number (cell_size_of c) then does (number - 1) else Err why.Server

abbrev pub is_down_at : Cell → ℕ → Bool
is_down_at c k = is_down (node_in (site_of c.run.world k))

-- the server is one of the cell, and is up
abbrev pub at_up : Cell → ℕ → (ℕ → Cell_run) → Run_or_why
at_up c number does = at_server c number (λ k. if is_down_at c k then Err why.State else Ok (does k))

-- the same, and is down
abbrev pub at_down : Cell → ℕ → (ℕ → Cell_run) → Run_or_why
at_down c number does = at_server c number (λ k. if is_down_at c k then Ok (does k) else Err why.State)

-- the packet was sent
abbrev pub at_packet : Cell → ℕ → Cell_run → Run_or_why
at_packet c number r = if nat_lt 0 number && nat_le number (length c.run.world.packets) then Ok r else Err why.Packet

-- a tick that would part two clocks is refused; by the bounds of a script's numbers clocks stay moments
abbrev pub unless_skewed : ScriptDatabase → Cell → List Site → Event → Run_or_why
unless_skewed script_db c sites e = if may_tick sites then Ok (with_event script_db c e) else Err why.Skew

-- the line in a cell that stands, but for an ask
abbrev pub run_in : ScriptDatabase → Cell → Choices → Line → Run_or_why
run_in script_db c choices (line.Tick server seconds) =
    at_server c server (λ k. unless_skewed script_db c (tick_at c.run.world.sites k seconds) (Tick k seconds))
run_in script_db c choices (line.TickAll seconds) =
    unless_skewed script_db c (map (ticked seconds) c.run.world.sites) (Tick_all seconds)
run_in script_db c choices (line.Beacon server) = at_up c server (λ k. stepped script_db c (first_choice choices) (Beacon_turn k))
run_in script_db c choices (line.Recover server) = at_up c server (λ k. stepped script_db c (first_choice choices) (Recover_turn k))
run_in script_db c choices (line.Deliver packet) = at_packet c packet (delivered script_db c (first_choice choices) packet)
run_in script_db c choices (line.Drop packet) = at_packet c packet (resting (record c { handed = set c.handed (packet - 1) true }))
run_in script_db c choices (line.DropAll server) =
    at_up c server (λ k. resting (record c { handed = dropped_of (host_at c.run.world.hosts k) c.run.world.packets c.handed }))
run_in script_db c choices line.DeliverAll = Ok (all_delivered script_db choices.most c choices.each (first_waiting 1 c.handed))
run_in script_db c choices (line.Stop server calls f) =
    at_up c server (λ k. resting (record c { armed = set c.armed k (Some (record { calls = calls; made = 0 })) }))
run_in script_db c choices (line.Crash server) =
    at_up c server (λ k. with_event script_db (record c { armed = set c.armed k None }) (Crash k))
run_in script_db c choices (line.Restart server) =
    at_down c server (λ k. with_event script_db c (Restart k (first_choice choices).fails))
run_in script_db c choices (line.Show server) =
    at_server c server (λ k. Ok (record {
      cell = c;
      items = shown_site (cell_size_of c) k (site_of c.run.world k);
      ending = None;
    }))
run_in script_db c choices (line.Cell servers clock k) = Err why.Cell
run_in script_db c choices line.Nothing = Ok (resting c)
run_in script_db c choices (line.Ask server words) = Err why.Syntax

-- a call at a server that is up, under the next number
abbrev pub asked_at : ScriptDatabase → Cell → Choice → ℕ → List ℕ → Option ℕ → Run_or_why
asked_at script_db c choice id call None = Err why.Number
asked_at script_db c choice id call (Some number) = at_up c number (λ k. stepped script_db c choice (Asking k id call))

abbrev pub asked_in : ScriptDatabase → Cell → Choice → ℕ → List (List ℕ) → Option ℕ → Option (List ℕ) → Run_or_why
asked_in script_db c choice id words server None = Err why.Syntax
asked_in script_db c choice id words server (Some call) = asked_at script_db c choice id call server

-- the words of the call come first, and then the number of the server
abbrev pub asked : ScriptDatabase → Cell → Choice → ℕ → List (List ℕ) → Option ℕ → Run_or_why
asked script_db c choice id words server = asked_in script_db c choice id words server (script_db.words.call_of words)

abbrev pub next_line : Stage → Stage
next_line st = record st { lines = st.lines + 1 }

abbrev pub in_stage : Stage → Run_or_why → Result Line_run Why
in_stage st (Err w) = Err w
in_stage st (Ok r) =
    Ok (record { stage = record st { cell = Some r.cell }; items = r.items; ending = r.ending })

-- at each server of n whether the disk fails in the opening
abbrev pub fails_at : ℕ → List Choice → List Bool
fails_at zero choices = []
fails_at (suc n) choices = (choice_of choices).fails ∷ fails_at n (drop 1 choices)

abbrev pub opened_cell : ℕ → ℕ → Kind → List Bool → Cell
opened_cell n clock k failed =
    record {
      opening = record { kind = k; clock = clock; failed = failed };
      events = [];
      run = first_run (first_world (hosts_of n) clock failed);
      handed = [];
      armed = replicate n None;
    }

-- a cell is opened: at first and once
abbrev pub opened : Stage → Choices → ℕ → ℕ → Kind → Line_run
opened st choices n clock k =
    record {
      stage = record st { cell = Some (opened_cell n clock k (fails_at n choices.each)) };
      items = map Tells (first_seen 0 (fails_at n choices.each));
      ending = None;
    }

-- where no cell stands: a cell may be opened, and of an ask the number of the server is judged alone
abbrev pub run_first : Stage → Choices → Line → Result Line_run Why
run_first st choices line.Nothing = Ok (record { stage = st; items = []; ending = None })
run_first st choices (line.Cell servers clock k) = Ok (opened st choices servers clock k)
run_first st choices (line.Ask None words) = Err why.Number
run_first st choices _ = Err why.Cell

abbrev pub kind_of_cell : Cell → Kind
kind_of_cell c = c.opening.kind

abbrev pub run_standing : Databases → Stage → Choices → Cell → Line → Result Line_run Why
run_standing dbs st choices c (line.Ask server words) =
    in_stage (record st { asks = st.asks + 1 })
    (asked (dbs (kind_of_cell c)) c (first_choice choices) (st.asks + 1) words server)
run_standing dbs st choices c l = in_stage st (run_in (dbs (kind_of_cell c)) c choices l)

abbrev pub line_run : Databases → Stage → Choices → Line → Option Cell → Result Line_run Why
line_run dbs st choices l None = run_first st choices l
line_run dbs st choices l (Some c) = run_standing dbs st choices c l

-- a line that was understood, or was not
abbrev pub meaning_run : Databases → Stage → Choices → Result Line Why → Result Line_run Why
meaning_run dbs st choices (Err w) = Err w
meaning_run dbs st choices (Ok l) = line_run dbs st choices l st.cell

abbrev pub or_refused : Result Line_run Why → Result Line_run Ending
or_refused (Ok run) = Ok run
or_refused (Err w) = Err (Refused w)

-- how many servers the cell has that stands; 0 where none does
abbrev pub servers_of : Option Cell → ℕ
servers_of None = 0
servers_of (Some c) = cell_size_of c

-- what becomes of a line; a script has 20,000 of them at most
abbrev pub line_result : Databases → Stage → LineRead → Result Line_run Ending
line_result dbs st r =
    if nat_le MAX_LINES st.lines then Err (Limit Lines)
    else or_refused (meaning_run dbs (next_line st) r.choices (line_of r.line))

-- where a script ended before its end: the number of the line, and why
pub record ScriptEnd : Type 0 where
  pub line : ℕ
  pub ending : Ending

-- what the lines so far left, all that they told, the text of it, and where the script ended, if it did
pub record Told : Type 0 where
  pub stage : Stage
  pub items : List TraceItem
  pub text : List ℕ
  pub ended : Option ScriptEnd

abbrev pub first_told : Told
first_told = record { stage = first_stage; items = []; text = []; ended = None }

abbrev pub end_text : Option ScriptEnd → List ℕ
end_text None = []
end_text (Some h) = ending_text h.line h.ending

abbrev pub ended_at : ℕ → Option Ending → Option ScriptEnd
ended_at line None = None
ended_at line (Some ending) = Some (record { line = line; ending = ending })

abbrev pub text_in : Databases → Option Cell → List TraceItem → List ℕ
text_in dbs None items = []
text_in dbs (Some c) items = trace (dbs (kind_of_cell c)) c.run.world.hosts items

-- a line that was run tells what it tells, and where the script ends in it; one that was not tells why
abbrev pub told_with : Databases → Told → Result Line_run Ending → Told
told_with dbs t (Err ending) =
    let ended = ended_at (t.stage.lines + 1) (Some ending) in
    record t { text = t.text ++ end_text ended; ended = ended }
told_with dbs t (Ok run) =
    let ended = ended_at (t.stage.lines + 1) run.ending in
    record {
      stage = run.stage;
      items = t.items ++ run.items;
      text = t.text ++ text_in dbs run.stage.cell run.items ++ end_text ended;
      ended = ended;
    }

-- one more line; nothing is told after the line at which the script ended
abbrev pub told_after : Databases → Told → LineRead → Option ScriptEnd → Told
told_after dbs t r None = told_with dbs t (line_result dbs t.stage r)
told_after dbs t r (Some h) = t

-- all that these lines tell
abbrev pub told_from : Databases → Told → List LineRead → Told
told_from dbs t [] = t
told_from dbs t (r ∷ readings) = told_from dbs (told_after dbs t r t.ended) readings

abbrev pub told : Databases → List LineRead → Told
told dbs readings = told_from dbs first_told readings
