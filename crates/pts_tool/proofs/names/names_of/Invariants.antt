use Rattle.std.proofs.Common.{◌≡◌, ◌-◌, []}
use Rattle.tool_base.specs.Running.{Led}
use Rattle.pts_tool.specs.Names.{names_by, the_names}
use Rattle.pts_tool.proofs.names.names_of.Given as goal

abbrev pub invariant-loop : goal.invariant-loop
invariant-loop g l =
    Led (the_names l.ids) l.initial.client (g.L.Link.exchanges l.initial.link) []
    (names_by (l.calls - l.counter) l.names.items l.left) l.client (g.L.Link.exchanges l.link)
