-- A step that ended for want of memory puts nothing out, and the id of a call does not matter where no step is made.
use Rattle.std.proofs.Common.{ℕ, Bool, List, [], refl}
use Rattle.disk_base.specs.declared.disks.Disk.{Ghosts}
use Rattle.db_image.specs.Standing.{Standing}
use Rattle.cell_model.specs.declared.events.NodeEvent.{NodeEvent}
use Rattle.cell_model.specs.declared.events.Output.{Output}
use Rattle.cell_model.specs.Node as model
use Rattle.cell_model.specs.NodeRule.{step_by, step_of}
use Rattle.cell_model.specs.Step.{Stepped}
use Rattle.ubik_node.specs.Choices.{Choices, dbs_of}
use Rattle.ubik_node.specs.declared.nodes.Node.{Node}
use Rattle.ubik_node.specs.declared.nodes.StepEnd.TheVariants as step
use Rattle.ubik_node.specs.Node.{StepsBy, node_of, own_member}
use Rattle.server_station.specs.Recording.{IsStep}

cleared_steps : {D Choice : Type 0} (g : Ghosts D) (made : model.Server → Choice → Stepped) (event : NodeEvent)
    (before after : model.Node) (out : List Output) (old new : D)
    → StepsBy g made step.NoMemory event before after out old new → StepsBy g made step.NoMemory event before after [] old new
cleared_steps g made event (model.Up s) after out old new ended = (ended.0, refl, ended.2)
cleared_steps g made event (model.Halted h) after out old new ended = ended
cleared_steps g made event model.Down after out old new ended = ended

pub cleared : {D V : Type 0} (g : Ghosts D) (d : Standing) (event : NodeEvent) (now : ℕ) (before after : Node D V g) (out : List Output)
    → IsStep g d step.NoMemory event now before after out → IsStep g d step.NoMemory event now before after []
cleared g d event now before after out ended =
    record {
      steps =
          λ needs. cleared_steps g (λ s (o : Choices d). step_by (dbs_of o) (own_member before) s now event o.short) event
          (node_of before) (node_of after) out before.store.disk after.store.disk (ended.steps needs);
      meant =
          λ needs holds. cleared_steps g (λ s (short : List Bool). step_of d.database (own_member before) s now event short) event
          (node_of before) (node_of after) out before.store.disk after.store.disk (ended.meant needs holds);
      member = ended.member;
      memory = ended.memory;
      halts = ended.halts;
      told = ended.told;
      calls = ended.calls;
      last = ended.last;
    }
