-- What a turn makes of a station.
use Rattle.std.specs.Prelude.{◌≡◌, ◌⊎◌, ℕ, ◌+◌, ◌≤◌, if◌then◌else◌, List, [], ◌∷◌, ◌++◌, Result, Ok, Err}
use Rattle.disk_base.specs.declared.disks.Disk.{Ghosts}
use Rattle.db_image.specs.Standing.{Standing}
use Rattle.ubik_calls.specs.declared.frames.Frame.{Frame}
use Rattle.ubik_calls.specs.declared.frames.Frame.TheVariants as frame
use Rattle.ubik_calls.specs.declared.frames.FrameFault.{FrameFault}
use Rattle.ubik_calls.specs.Reading.{frame_of}
use Rattle.ubik_calls.specs.WireGrammar.{spelling}
use Rattle.cell_model.specs.declared.events.NodeEvent.{NodeEvent}
use Rattle.cell_model.specs.declared.events.NodeEvent.TheVariants as event
use Rattle.cell_model.specs.declared.events.Output.{Output}
use Rattle.cell_model.specs.Node.{halted_from}
use Rattle.cell_model.specs.Step.{Member}
use Rattle.ubik_node.specs.declared.nodes.Node.{Node}
use Rattle.ubik_node.specs.Debug.{debug_of}
use Rattle.ubik_node.specs.Node.{own_member, up_server}
use Rattle.ubik_node.specs.Taking.{is_for}
use Rattle.server_rounds.specs.declared.sendings.Sending.{Sending}
use Rattle.server_rounds.specs.declared.sendings.Sending.TheVariants as sending
use Rattle.server_rounds.specs.declared.turns.Turn.{Turn}
use Rattle.server_rounds.specs.declared.turns.Turn.TheVariants as turn
use Rattle.server_rounds.specs.declared.turns.TurnEnd.{TurnEnd}
use Rattle.server_rounds.specs.declared.turns.TurnEnd.TheVariants as end
use Rattle.server_station.specs.declared.askers.Asker.{Asker}
use Rattle.server_journal.specs.declared.counts.Limits.{Limits}
use Rattle.server_journal.specs.declared.items.JournalItem.{JournalItem}
use Rattle.server_journal.specs.Counts.{bytes_of}
use Rattle.server_station.specs.declared.recorded.StationEnd.{StationEnd}
use Rattle.server_station.specs.declared.recorded.StationEnd.TheVariants.{Done, Halted, JournalFull}
use Rattle.server_station.specs.Frames.{frames_of, askers_after, IsCut}
use Rattle.server_station.specs.Recording.{Records, IsRefused}

-- what a turn is to do
pub data Act : Type 0 where
  -- a step with an event; of a call: who waits for its reply
  Makes : (event : NodeEvent) → (asker : List Asker) → Act
  -- no step: the server tells of itself, to a peer under a number
  Tells : (peer number : ℕ) → Act
  -- nothing
  Rests : Act

-- A packet is taken where it is for this server, from another one of the cell. A call gets the next id, beside so many before it.
abbrev pub act_of_frame : Member → ℕ → ℕ → Result Frame FrameFault → Act
act_of_frame m asks peer (Ok (frame.Packet p)) = if is_for m p then Makes (event.Packet p) [] else Rests
act_of_frame m asks peer (Ok (frame.Ask number call)) =
    Makes (event.Ask (asks + 1) call) (record { id = asks + 1; peer = peer; number = number } ∷ [])
act_of_frame m asks peer (Ok (frame.Debug number)) = Tells peer number
act_of_frame m asks peer (Ok (frame.Reply number r)) = Rests
act_of_frame m asks peer (Ok (frame.DebugIs number is)) = Rests
act_of_frame m asks peer (Err e) = Rests

abbrev pub act_of : Member → ℕ → Turn → Act
act_of m asks turn.Beacon = Makes event.BeaconTurn []
act_of m asks turn.Recover = Makes event.RecoverTurn []
act_of m asks (turn.Frame peer bytes) = act_of_frame m asks peer (frame_of bytes)

-- what a server tells of itself at a moment
abbrev pub debug_answer : {D V : Type 0} {g : Ghosts D} → Node D V g → ℕ → (peer number : ℕ) → Sending
debug_answer n now peer number =
    sending.Answer peer (spelling (frame.DebugIs number (debug_of (own_member n) (halted_from (up_server n)) now)))

-- a station as turns see it: its node, its journal, the clients that wait, and all that its steps have put out since it was opened
pub record Seen (D V : Type 0) (g : Ghosts D) : Type 0 where
  pub node : Node D V g
  pub items : List JournalItem
  pub askers : List Asker
  pub put : List Output

abbrev pub seen : {D V : Type 0} {g : Ghosts D} → Node D V g → List JournalItem → List Asker → List Output → Seen D V g
seen node items askers put = record { node = node; items = items; askers = askers; put = put }

-- a step of it, which ended so and put this out
abbrev pub RecordsIn : {D V : Type 0} (g : Ghosts D) → Standing → Limits → NodeEvent → ℕ → (before after : Seen D V g) → StationEnd
    → List Output → Type 0
RecordsIn g d limits event now before after end outputs =
    Records g d limits end event now before.node after.node before.items after.items outputs

-- its step was made, and all that goes out of it was sent
abbrev pub SendsAll : (List Output → Type 0) → (askers left : List Asker) → List Sending → (was is : List Output) → Type 0
SendsAll Made askers left sent was is =
    (outputs : List Output) × Made outputs × (sent ≡ frames_of askers outputs) × (left ≡ askers_after askers outputs)
    × (is ≡ was ++ outputs)

-- its step was made, and memory ran out before all that goes out of it was sent
abbrev pub SendsFirst : (List Output → Type 0) → (askers left : List Asker) → List Sending → (was is : List Output) → Type 0
SendsFirst Made askers left sent was is = (outputs : List Output) × Made outputs × IsCut askers outputs sent left × (is ≡ was ++ outputs)

-- How a turn ended that makes a step with this event, for which these wait: `askers` are those that wait once the step is made.
abbrev pub TurnsBy : {D V : Type 0} (g : Ghosts D) → Standing → Limits → NodeEvent → List Asker → ℕ → (before after : Seen D V g)
    → List Sending → TurnEnd → Type 0
TurnsBy g d limits event asker now before after sent end.Done =
    SendsAll (RecordsIn g d limits event now before after Done) (before.askers ++ asker) after.askers sent before.put after.put
TurnsBy g d limits event asker now before after sent end.Halted =
    SendsAll (RecordsIn g d limits event now before after Halted) (before.askers ++ asker) after.askers sent before.put after.put
TurnsBy g d limits event asker now before after sent end.Cut =
    SendsFirst (λ outputs. RecordsIn g d limits event now before after Done outputs
    ⊎ RecordsIn g d limits event now before after Halted outputs)
    (before.askers ++ asker) after.askers sent before.put after.put
TurnsBy g d limits event asker now before after sent (end.JournalFull entries bytes) =
    RecordsIn g d limits event now before after (JournalFull entries bytes) [] × (after.askers ≡ before.askers) × (sent ≡ [])
    × (after.put ≡ before.put)
TurnsBy g d limits event asker now before after sent end.NoMemory =
    IsRefused g d event now before.node after.node before.items after.items [] × (after.askers ≡ before.askers) × (sent ≡ [])
    × (after.put ≡ before.put)

-- how a turn ended that makes no step, and has this to send
abbrev pub RestsBy : {D V : Type 0} {g : Ghosts D} → (before after : Seen D V g) → (all sent : List Sending) → TurnEnd → Type 0
RestsBy before after all sent end.Done = (after ≡ before) × (sent ≡ all)
RestsBy before after all sent end.NoMemory = (after ≡ before) × (sent ≡ [])
RestsBy before after all sent _ = ⊥

-- how a turn ended
abbrev pub Turned : {D V : Type 0} (g : Ghosts D) → Standing → Limits → Act → ℕ → (before after : Seen D V g) → List Sending → TurnEnd
    → Type 0
Turned g d limits (Makes event asker) now before after sent end = TurnsBy g d limits event asker now before after sent end
Turned g d limits (Tells peer number) now before after sent end =
    RestsBy before after (debug_answer before.node now peer number ∷ []) sent end
Turned g d limits Rests now before after sent end = RestsBy before after [] sent end

-- where the journal had no room for a turn, it would have had no more than the greatest frame brings beside its items
abbrev pub IsFullByFrame : List JournalItem → TurnEnd → Type 0
IsFullByFrame items (end.JournalFull entries bytes) = bytes ≤ bytes_of items + 2097184
IsFullByFrame items _ = Unit {0}
