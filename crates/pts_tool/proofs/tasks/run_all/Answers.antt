use Rattle.std.proofs.Common.{Ok, Err, refl, arith, rules}
use Rattle.tool_base.specs.declared.stops.Stop.TheVariants as stop
use Rattle.tool_base.proofs.Working.{told_err}
use Rattle.pts_tool.proofs.Worked.{item_done, item_part, item_stops}
use Rattle.pts_tool.proofs.tasks.run_all.Goals as goal

pub returns-in_err-text-clause-told : goal.returns-in_err-text-clause-told
returns-in_err-text-clause-told g c =
    record {
      now = c.run.new.client;
      ran = told_err c.in_err-text.field-0.0 c.from_residual.result c.from_residual.ensures.1
          (item_stops c.args.tasks.now c.loop-task.task-index c.task-item.result _ _ _ _ _ _ _ _ _ c.in_err-text.field-0.0
          (omega arith) c.task-item.is c.loop-task.invariant.under c.in_err-text.ensures);
    }

pub returns-in_err-say-clause-told : goal.returns-in_err-say-clause-told
returns-in_err-say-clause-told g c =
    record {
      now = c.run.new.client;
      ran =
          told_err stop.WriteFault c.from_residual-in_err-say.result
          (rw c.in_err-say.ensures.said.0 at c.from_residual-in_err-say.ensures.1)
          (item_part c.args.tasks.now c.loop-task.task-index c.task-item.result _ _ _ _ _ _ _ _ _ _ c.in_ok-text.text
          (omega arith) c.task-item.is c.loop-task.invariant.under c.in_ok-text.ensures
          (rw c.as_slice.ensures at c.in_err-say.ensures.said.1));
    }

pub loop-task-preserved : goal.loop-task-preserved
loop-task-preserved g c =
    record {
      under =
          item_done c.args.tasks.now c.loop-task.task-index c.task-item.result _ _ _ _ _ _ _ _ _ _ c.in_ok-text.text
          (omega arith) c.task-item.is c.loop-task.invariant.under c.in_ok-text.ensures (rw c.as_slice.ensures at c.in_ok-say.ensures.said);
      falls = omega (arith, c.loop-task.invariant.falls, c.in_ok-say.ensures.cause.never_falls);
    }
