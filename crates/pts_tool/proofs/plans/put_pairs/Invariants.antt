use Rattle.std.proofs.Common.{◌≡◌, ◌++◌, map, take}
use Rattle.pts_tool.specs.declared.tasks.Task.TheVariants as task
use Rattle.pts_tool.proofs.plans.put_pairs.Given as goal

abbrev pub invariant-loop-named : goal.invariant-loop-named
invariant-loop-named l =
    l.tasks.items ≡ l.initial.tasks.items ++ map (λ group. task.Member l.user group l.adds) (take l.named-index l.groups)
