-- A schedule of a server that runs, and what does not fit into it (own).
use Rattle.std.specs.Prelude.{◌≡◌, ℕ, true, false, Some, List, [], ◌∷◌, ◌++◌}
use Rattle.db_image.specs.declared.services.CallReply.{CallReply}
use Rattle.db_image.specs.declared.services.CallReply.TheVariants as call_reply
use Rattle.ubik_calls.specs.declared.packets.Packet.{Packet}
use Rattle.ubik_calls.specs.declared.replies.Reply.TheVariants as reply
use Rattle.cell_model.specs.declared.events.NodeEvent.{NodeEvent}
use Rattle.cell_model.specs.declared.events.NodeEvent.TheVariants as event
use Rattle.cell_model.specs.declared.events.Output.TheVariants as output
use Rattle.cell_model.specs.Durable.{durable, no_database}
use Rattle.cell_model.specs.Evaluating.{KeepsStates, Told}
use Rattle.cell_model.specs.World.{World, Trigger, Beacon_turn, Recover_turn, Asking, first_world}
use Rattle.journal_model.specs.Items.{JournalItem}
use Rattle.journal_model.specs.Schedules.{ScheduleEntry, Tick_all, Open, Item, Progress, Fits, Life, life_from, life_in}
use Rattle.cell_examples.specs.Register.{one_byte, register}
use Rattle.cell_examples.specs.Showing.{host, version}

-- a cell of one that is opened at 100
abbrev pub one : World
one = first_world (host 1 ∷ []) 100 (false ∷ [])

-- an item of which some replies are for want of memory, and of one of which none is
abbrev pub item_short : ℕ → ℕ → NodeEvent → JournalItem
item_short short now e = record { now = now; event = e; short = short; halted = false; evaluations = [] }

abbrev pub item : ℕ → NodeEvent → JournalItem
item now e = item_short 0 now e

abbrev pub halting : ℕ → NodeEvent → JournalItem
halting now e = record { now = now; event = e; short = 0; halted = true; evaluations = [] }

-- so many of the step's durable calls were made
abbrev pub after_calls : ℕ → Progress
after_calls made = record { short = []; made = made }

abbrev pub turns_beacon : ℕ → ScheduleEntry
turns_beacon now = Item 0 (Beacon_turn 0) (item now event.BeaconTurn) (after_calls 0)

abbrev pub turns_recover : ℕ → ScheduleEntry
turns_recover now = Item 0 (Recover_turn 0) (item now event.RecoverTurn) (after_calls 0)

-- an ask in whose step this was evaluated
abbrev pub asked_told : Told → ℕ → ℕ → List ℕ → ScheduleEntry
asked_told told now id call =
    Item 0 (Asking 0 id call) (record { now = now; event = event.Ask id call; short = 0; halted = false; evaluations = told }) (after_calls 0)

abbrev pub asked_short : ℕ → ℕ → ℕ → List ℕ → ScheduleEntry
asked_short short now id call = Item 0 (Asking 0 id call) (item_short short now (event.Ask id call)) (after_calls 0)

abbrev pub asked : ℕ → ℕ → List ℕ → ScheduleEntry
asked now id call = asked_short 0 now id call

-- It leads, is asked to write and to read, finds no memory for a call, and its disk fails behind the durable call of another write.
abbrev pub serves : List ScheduleEntry
serves =
    Tick_all 76 ∷ turns_beacon 176 ∷ turns_recover 176 ∷ asked 176 1 (7 ∷ []) ∷ asked 176 2 [] ∷ asked_short 1 176 3 []
    ∷ Item 0 (Asking 0 4 (9 ∷ [])) (halting 176 (event.Ask 4 (9 ∷ []))) (after_calls 1) ∷ []

-- It is opened again, and has that write.
abbrev pub serves_again : List ScheduleEntry
serves_again =
    serves
    ++ Tick_all 76 ∷ Open 0 252 (durable (version 176 3) (9 ∷ [])) ∷ Tick_all 76 ∷ turns_beacon 328 ∷ turns_recover 328 ∷ asked 328 1 [] ∷ []

-- a call that was evaluated at 176 over an image, with a reply and an image after it
abbrev pub evaluated : (image call : List ℕ) → CallReply → (after : List ℕ) → Told
evaluated image call answer after =
    Some (record { image = image; moment = 176; call = call; outcome = record { reply = answer; image = after } }) ∷ []

-- it leads
abbrev pub leads : List ScheduleEntry
leads = Tick_all 76 ∷ turns_beacon 176 ∷ turns_recover 176 ∷ []

-- It is told of a write what the database has; and of a read what might come to be over an image that it does not have, of two bytes.
abbrev pub serves_told : List ScheduleEntry
serves_told =
    leads ++ asked_told (evaluated [] (7 ∷ []) (call_reply.Done []) (7 ∷ [])) 176 1 (7 ∷ [])
    ∷ asked_told (evaluated (8 ∷ 9 ∷ []) [] (call_reply.Rule 5) (8 ∷ 9 ∷ [])) 176 2 [] ∷ []

-- the server after a schedule
abbrev pub life_of_one : List ScheduleEntry → Life
life_of_one schedule = life_in register one 0 (life_from 1 no_database 100) schedule

-- a schedule does not fit
abbrev pub Cheats : List ScheduleEntry → Type 0
Cheats schedule = Fits one_byte one schedule → ⊥

-- A server that runs, is halted and is opened again has a schedule that fits, and puts this out since it was last opened.
pub record ServersRun : Type 0 where
  pub fits : Fits one_byte one serves_again
  pub halted :
      (life_of_one serves).outputs
      ≡ output.Announce (version 176 1) ∷ output.Announce (version 176 2) ∷ output.Reply 1 (reply.Ok [])
      ∷ output.Reply 2 (reply.Ok (7 ∷ [])) ∷ output.Reply 3 reply.NoMemory ∷ output.Reply 4 reply.DiskFault ∷ []
  pub again : (life_of_one serves_again).outputs ≡ output.Announce (version 328 1) ∷ output.Reply 1 (reply.Ok (9 ∷ [])) ∷ []

-- A schedule fits in whose items something is told that may have come, and puts out what it would without.
pub record ToldServersRun : Type 0 where
  -- over a database no call of which leaves its states
  pub states : KeepsStates one_byte
  pub fits : Fits one_byte one serves_told
  pub outputs :
      (life_of_one serves_told).outputs
      ≡ output.Announce (version 176 1) ∷ output.Announce (version 176 2) ∷ output.Reply 1 (reply.Ok [])
      ∷ output.Reply 2 (reply.Ok (7 ∷ [])) ∷ []

-- What does not fit.
pub record CheatsDoNotFit : Type 0 where
  -- a packet that nobody sent, whatever is said to bring it
  pub packet : (trigger : Trigger) (p : Packet) (progress : Progress) → Cheats (Item 0 trigger (item 100 (event.Packet p)) progress ∷ [])
  -- an opening that finds another image than the disk has, or takes place at another moment than the clock shows
  pub disk : Cheats (serves ++ Open 0 176 (durable (version 176 3) (8 ∷ [])) ∷ [])
  pub moment : Cheats (serves ++ Open 0 177 (durable (version 176 3) (9 ∷ [])) ∷ [])
  -- a step at another moment
  pub clock : Cheats (turns_beacon 101 ∷ [])
  -- an id that was asked before
  pub id : Cheats (asked 100 1 [] ∷ asked 100 1 [] ∷ [])
  -- memory that is said to have run out for a reply that the step does not have
  pub short : Cheats (asked_short 2 100 1 [] ∷ [])
  -- what could not have come: over an image that stands for a state another reply, or another image, than the database has; over one that
  -- stands for none, another image behind a call that does not write
  pub reply : Cheats (leads ++ asked_told (evaluated [] (7 ∷ []) (call_reply.Rule 5) (7 ∷ [])) 176 1 (7 ∷ []) ∷ [])
  pub image : Cheats (leads ++ asked_told (evaluated [] (7 ∷ []) (call_reply.Done []) (8 ∷ [])) 176 1 (7 ∷ []) ∷ [])
  pub rests : Cheats (leads ++ asked_told (evaluated (8 ∷ 9 ∷ []) [] (call_reply.Done []) (7 ∷ 7 ∷ [])) 176 1 [] ∷ [])
  -- a halted server that goes on
  pub halted : Cheats (serves ++ turns_beacon 176 ∷ [])
  -- clocks that go on by nothing
  pub tick : Cheats (Tick_all 0 ∷ [])
