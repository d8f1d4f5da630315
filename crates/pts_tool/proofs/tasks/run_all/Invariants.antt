use Rattle.std.proofs.Common.{◌≤◌, drop}
use Rattle.tool_base.specs.Running.{Under}
use Rattle.pts_tool.specs.Courses.{works}
use Rattle.pts_tool.proofs.tasks.run_all.Given as goal

abbrev pub invariant-loop-task : goal.invariant-loop-task
invariant-loop-task g l = record {
  under : Under (works l.tasks) l.initial.client (works (drop l.task-index l.tasks)) l.client (g.L.Link.exchanges l.initial.link)
      (g.L.Link.exchanges l.link)
      (g.K.Sink.written l.initial.out) (g.K.Sink.written l.out);
  falls : g.K.Sink.faults l.initial.out ≤ g.K.Sink.faults l.out;
}
