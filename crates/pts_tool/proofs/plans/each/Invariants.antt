use Rattle.std.proofs.Common.{◌≡◌, map, take}
use Rattle.pts_tool.specs.Plans.{deed_task}
use Rattle.pts_tool.proofs.plans.each.Given as goal

abbrev pub invariant-loop-named : goal.invariant-loop-named
invariant-loop-named l = l.tasks.items ≡ map (deed_task l.deed) (take l.named-index l.entries)
