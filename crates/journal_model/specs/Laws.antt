-- An item tells its step (own).
use Rattle.std.specs.Prelude.{ℕ, ◌+◌, ◌≡◌, ◌≤◌, Bool, true, false, List, [], ◌∷◌, ◌++◌, length}
use Rattle.db_image.specs.Database.{Database}
use Rattle.db_image.specs.Standing.{Standing}
use Rattle.cell_model.specs.declared.events.NodeEvent.{NodeEvent}
use Rattle.cell_model.specs.declared.events.Output.{Output}
use Rattle.cell_model.specs.Evaluating.{Databases, MayAllCome, Told, told_by}
use Rattle.cell_model.specs.Node.{Node, Halted, Up, Server, HaltedServer, halted_from}
use Rattle.cell_model.specs.NodeRule.{refusals, step_by}
use Rattle.cell_model.specs.Step.{Member, Stepped, outputs_of}
use Rattle.journal_model.specs.Items.{JournalItem, bits, shorts_of}
use Rattle.journal_model.specs.Replay.{AreItemsOf, replayed}

-- the item of a step that was made to its end, and that of one after which the server is halted
abbrev pub item_of : ℕ → NodeEvent → Told → Stepped → JournalItem
item_of now e told t = record { now = now; event = e; short = bits (shorts_of (outputs_of t.shown)); halted = false; evaluations = told }

abbrev pub halted_item : ℕ → NodeEvent → JournalItem
halted_item now e = record { now = now; event = e; short = 0; halted = true; evaluations = [] }

-- the replay of these items leaves this server, and has put this out
abbrev pub LeadsTo : Database → Member → Node → List JournalItem → Node → List Output → Type 0
LeadsTo db m opened items node outputs = replayed db m opened items ≡ record { node = node; outputs = outputs }

-- One item more is one step more. Whichever replies of a step are for want of memory, the step is the one of the item that is made of what
-- it put out: where it has no more replies than an item has bits.
pub record ItemsTellSteps : Type 0 where
  pub step : (db : Database) (m : Member) (opened : Node) (items : List JournalItem) (s : Server) (outputs : List Output) (now : ℕ) (e : NodeEvent)
      (short : List Bool) (told : Told) →
      let t = step_by (told_by db told) m s now e short in
      length (shorts_of (outputs_of t.shown)) ≤ 128 → LeadsTo db m opened items (Up s) outputs →
      LeadsTo db m opened (items ++ item_of now e told t ∷ []) (Up t.server) (outputs ++ outputs_of t.shown)
  pub halt : (db : Database) (m : Member) (opened : Node) (items : List JournalItem) (s : Server) (outputs : List Output) (now : ℕ) (e : NodeEvent) →
      LeadsTo db m opened items (Up s) outputs →
      LeadsTo db m opened (items ++ halted_item now e ∷ []) (Halted (halted_from s)) (outputs ++ outputs_of (refusals e))
  pub halted : (db : Database) (m : Member) (opened : Node) (items : List JournalItem) (h : HaltedServer) (outputs : List Output) (now : ℕ)
      (e : NodeEvent) → LeadsTo db m opened items (Halted h) outputs →
      LeadsTo db m opened (items ++ halted_item now e ∷ []) (Halted h) (outputs ++ outputs_of (refusals e))

-- The journal of a server that was opened so: each item may come behind those before it, and their replay leaves this server and has put
-- this out.
pub record IsJournal (d : Standing) (m : Member) (opened : Node) (items : List JournalItem) (node : Node) (outputs : List Output) : Type 0 where
  pub each : AreItemsOf d m opened items
  pub leads : LeadsTo d.database m opened items node outputs

-- A journal stays one with each step, whichever replies of it are for want of memory, where what was evaluated in it may have come.
pub record StepsKeepJournals (d : Standing) : Type 0 where
  pub step : (m : Member) (opened : Node) (items : List JournalItem) (s : Server) (outputs : List Output) (now : ℕ) (e : NodeEvent)
      (short : List Bool) (told : Told) →
      let t = step_by (told_by d.database told) m s now e short in
      length (shorts_of (outputs_of t.shown)) ≤ 128 → MayAllCome d told → IsJournal d m opened items (Up s) outputs →
      IsJournal d m opened (items ++ item_of now e told t ∷ []) (Up t.server) (outputs ++ outputs_of t.shown)
  pub halt : (m : Member) (opened : Node) (items : List JournalItem) (s : Server) (outputs : List Output) (now : ℕ) (e : NodeEvent) →
      IsJournal d m opened items (Up s) outputs →
      IsJournal d m opened (items ++ halted_item now e ∷ []) (Halted (halted_from s)) (outputs ++ outputs_of (refusals e))
  pub halted : (m : Member) (opened : Node) (items : List JournalItem) (h : HaltedServer) (outputs : List Output) (now : ℕ) (e : NodeEvent) →
      IsJournal d m opened items (Halted h) outputs →
      IsJournal d m opened (items ++ halted_item now e ∷ []) (Halted h) (outputs ++ outputs_of (refusals e))

-- A step answers at most each call that waits, the write in flight, and the call that was asked. Where at most 64 wait, it has 66 replies or fewer.
abbrev pub StepsReplyFew : Type 0
StepsReplyFew =
    (dbs : Databases) (m : Member) (s : Server) (now : ℕ) (e : NodeEvent) (short : List Bool) →
    length (shorts_of (outputs_of (step_by dbs m s now e short).shown)) ≤ length s.waiting + 2
