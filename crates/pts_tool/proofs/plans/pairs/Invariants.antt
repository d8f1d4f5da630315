use Rattle.std.proofs.Common.{◌≡◌, take}
use Rattle.pts_tool.specs.Plans.{pairs}
use Rattle.pts_tool.proofs.plans.pairs.Given as goal

abbrev pub invariant-loop-user : goal.invariant-loop-user
invariant-loop-user l = l.tasks.items ≡ pairs l.adds (take l.user-index l.users) l.groups
