use Rattle.std.proofs.Common.{◌≤◌, false, drop}
use Rattle.tool_base.specs.Course.{Asker}
use Rattle.tool_base.specs.Running.{Under}
use Rattle.udebug_tool.specs.Kinds.{kind_port}
use Rattle.udebug_tool.specs.Looking.{looks}
use Rattle.udebug_tool.proofs.running.run_udebug.Given as goal

abbrev pub invariant-loop-host : goal.invariant-loop-host
invariant-loop-host g l =
    let asker : Asker = record { hosts = l.hosts; port = kind_port l.fn.kind; number = 0 } in
    record {
      under : Under (looks false l.hosts) asker (looks l.any (drop l.host-index l.hosts)) l.client (g.L.Link.exchanges l.fn.link) (g.L.Link.exchanges l.link)
          (g.K.Sink.written l.fn.out) (g.K.Sink.written l.out);
      falls : g.K.Sink.faults l.fn.out ≤ g.K.Sink.faults l.out;
    }
