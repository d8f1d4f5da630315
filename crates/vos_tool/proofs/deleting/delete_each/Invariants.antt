use Rattle.std.proofs.Common.{[], drop}
use Rattle.tool_base.specs.Running.{Led}
use Rattle.vos_tool.specs.Deleting.{deletes}
use Rattle.vos_tool.specs.Each.{each}
use Rattle.vos_tool.proofs.deleting.delete_each.Given as goal

abbrev pub invariant-loop-volume : goal.invariant-loop-volume
invariant-loop-volume g l =
    Led (each deletes l.volumes) l.initial.client (g.L.Link.exchanges l.initial.link) []
    (each deletes (drop l.volume-index l.volumes)) l.client (g.L.Link.exchanges l.link)
