-- The replay of a journal: what a server is after the steps of these items, and what it put out in them (own).
use Rattle.std.specs.Prelude.{◌≡◌, true, if◌then◌else◌, List, [], ◌∷◌, ◌++◌}
use Rattle.db_image.specs.Database.{Database}
use Rattle.db_image.specs.Standing.{Standing}
use Rattle.cell_model.specs.declared.events.Output.{Output}
use Rattle.cell_model.specs.Evaluating.{MayAllCome, told_by}
use Rattle.cell_model.specs.Node.{Node, Down, Halted, Up, Server, halted_from}
use Rattle.cell_model.specs.NodeRule.{step_by, refusals}
use Rattle.cell_model.specs.Step.{Member, Stepped, outputs_of}
use Rattle.journal_model.specs.Items.{JournalItem, bits, choices_of, shorts_of}

-- a server, and what it put out
pub record Replayed : Type 0 where
  pub node : Node
  pub outputs : List Output

-- the server after a step that was made to its end
abbrev pub made : Stepped → Replayed
made t = record { node = Up t.server; outputs = outputs_of t.shown }

-- the server after a step in which it was halted, and after each step behind that: it answers an ask with the fault of its disk
abbrev pub refused : Node → JournalItem → Replayed
refused node item = record { node = node; outputs = outputs_of (refusals item.event) }

-- the step that an item is of: that of its event at its moment, with its choices, and with its evaluations
abbrev pub step_in : Database → Member → Server → JournalItem → Stepped
step_in db m s item = step_by (told_by db item.evaluations) m s item.now item.event (choices_of item)

-- A server after one item more, and what it puts out in its step. One that is down makes none.
abbrev pub item_replayed : Database → Member → Node → JournalItem → Replayed
item_replayed db m (Up s) item = if item.halted then refused (Halted (halted_from s)) item else made (step_in db m s item)
item_replayed db m (Halted h) item = refused (Halted h) item
item_replayed db m Down item = record { node = Down; outputs = [] }

-- behind this, what a later replay gives
abbrev pub then_replayed : Replayed → Replayed → Replayed
then_replayed first later = record { node = later.node; outputs = first.outputs ++ later.outputs }

-- the items of a journal, one after the other
abbrev pub replayed : Database → Member → Node → List JournalItem → Replayed
replayed db m node [] = record { node = node; outputs = [] }
replayed db m node (item ∷ items) =
    let first = item_replayed db m node item in then_replayed first (replayed db m first.node items)

-- a server that is halted stays so
abbrev pub StaysHalted : Node → JournalItem → Type 0
StaysHalted (Halted h) item = item.halted ≡ true
StaysHalted node item = Unit {0}

-- What an item may be, at this server: of its own making, whatever happens elsewhere. The bits that are set are those of the replies that
-- are for want of memory, of all replies of the step: where no reply is to be had, or where the rule gives another one, no bit is set. What
-- was evaluated in the step may have come, so over an image that stands for a state it is what the database has.
pub record IsItemOf (d : Standing) (m : Member) (node : Node) (item : JournalItem) : Type 0 where
  pub halted : StaysHalted node item
  pub short : item.short ≡ bits (shorts_of (item_replayed d.database m node item).outputs)
  pub may : MayAllCome d item.evaluations

-- the items of a journal, each at the server that those before it leave
abbrev pub AreItemsOf : Standing → Member → Node → List JournalItem → Type 0
AreItemsOf d m node [] = Unit {0}
AreItemsOf d m node (item ∷ items) = IsItemOf d m node item × AreItemsOf d m (item_replayed d.database m node item).node items
