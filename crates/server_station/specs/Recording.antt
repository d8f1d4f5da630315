-- What a recorded step does.
use Rattle.std.specs.Prelude.{◌≡◌, ◌≢◌, ◌↔◌, ◌⊎◌, ℕ, true, false, IsSome, List, [], ◌∷◌, ◌++◌}
use Rattle.disk_base.specs.declared.disks.Disk.{Ghosts}
use Rattle.db_image.specs.Standing.{Standing}
use Rattle.cell_model.specs.declared.events.NodeEvent.{NodeEvent}
use Rattle.cell_model.specs.declared.events.Output.{Output}
use Rattle.ubik_node.specs.declared.nodes.Node.{Node}
use Rattle.ubik_node.specs.declared.nodes.StepEnd.{StepEnd}
use Rattle.ubik_node.specs.declared.nodes.StepEnd.TheVariants as step
use Rattle.ubik_node.specs.Built.{TakesNoMemory}
use Rattle.ubik_node.specs.Node.{Calls, HoldsStates, Needs, Steps, StepsFreely, last_after, node_of, own_member}
use Rattle.server_journal.specs.declared.counts.Full.{Full}
use Rattle.server_journal.specs.declared.counts.Full.TheVariants as full
use Rattle.server_journal.specs.declared.counts.Limits.{Limits}
use Rattle.server_journal.specs.declared.items.JournalItem.{JournalItem}
use Rattle.server_station.specs.declared.recorded.StationEnd.{StationEnd}
use Rattle.server_station.specs.declared.recorded.StationEnd.TheVariants.{Done, Halted, JournalFull, NoMemory}
use Rattle.server_journal.specs.Counts.{counts_of, is_past, with_event}
use Rattle.server_journal.specs.Items.{item_of}

-- how a step ends that the journal does not take
abbrev pub refused_by : Full → StationEnd
refused_by (full.Limit entries bytes) = JournalFull entries bytes
refused_by full.NoMemory = NoMemory

-- A step of the node at a moment that ended so: the node's own clauses, word for word, but for those on disks that tell no files, and on states that
-- images go on to stand for.
pub record IsStep {D V : Type 0} (g : Ghosts D) (d : Standing) (end : StepEnd) (event : NodeEvent) (now : ℕ) (before after : Node D V g)
    (outputs : List Output) : Type 0 where
  pub steps : Needs d.database (own_member before) (node_of before) event now (g.files before.store.disk)
      → StepsFreely g d (own_member before) end event now (node_of before) (node_of after) outputs before.store.disk after.store.disk
  pub meant : Needs d.database (own_member before) (node_of before) event now (g.files before.store.disk) → HoldsStates d (node_of before)
      → Steps g d.database (own_member before) end event now (node_of before) (node_of after) outputs before.store.disk after.store.disk
  pub member : own_member after ≡ own_member before
  pub memory : TakesNoMemory event → end ≢ step.NoMemory
  pub halts : (end ≡ step.Halted) ↔ (after.store.failed ≡ true)
  pub told : end ≢ step.Halted → IsSome (g.files before.store.disk) → IsSome (g.files after.store.disk)
  pub calls : Calls g before after end
  pub last : after.last ≡ last_after end before.last now

-- the step was made, and its item is the journal's next one
pub record IsRecorded {D V : Type 0} (g : Ghosts D) (d : Standing) (end : StepEnd) (event : NodeEvent) (now : ℕ)
    (before after : Node D V g) (was is : List JournalItem) (outputs : List Output) : Type 0 where
  pub step : IsStep g d end event now before after outputs
  pub item : is ≡ was ++ item_of now event outputs after.store.failed ∷ []

-- The step was not made, and the journal is as before. Either the node was not touched, or memory ran out in its step.
pub record IsRefused {D V : Type 0} (g : Ghosts D) (d : Standing) (event : NodeEvent) (now : ℕ) (before after : Node D V g)
    (was is : List JournalItem) (outputs : List Output) : Type 0 where
  pub node : (after ≡ before) ⊎ IsStep g d step.NoMemory event now before after []
  pub items : is ≡ was
  pub outputs_are : outputs ≡ []

-- How a recorded step at a moment ended, beside a journal of these limits. It is full exactly where the item would go past a limit.
abbrev pub Records : {D V : Type 0} (g : Ghosts D) → Standing → Limits → StationEnd → NodeEvent → ℕ → (before after : Node D V g)
    → (was is : List JournalItem) → List Output → Type 0
Records g d limits Done event now before after was is outputs =
    (is_past limits (with_event (counts_of was) event) ≡ false) × IsRecorded g d step.Done event now before after was is outputs
Records g d limits Halted event now before after was is outputs =
    (is_past limits (with_event (counts_of was) event) ≡ false) × IsRecorded g d step.Halted event now before after was is outputs
Records g d limits NoMemory event now before after was is outputs =
    (is_past limits (with_event (counts_of was) event) ≡ false) × IsRefused g d event now before after was is outputs
Records g d limits (JournalFull entries bytes) event now before after was is outputs =
    let n = with_event (counts_of was) event in
    (is_past limits n ≡ true) × (entries ≡ n.entries) × (bytes ≡ n.bytes) × (after ≡ before) × (is ≡ was) × (outputs ≡ [])
