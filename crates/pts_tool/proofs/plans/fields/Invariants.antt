use Rattle.std.proofs.Common.{◌≡◌, map, take, List, ℕ}
use Rattle.pts_tool.specs.declared.tasks.Task.TheVariants as task
use Rattle.pts_tool.proofs.plans.fields.Given as goal

abbrev pub invariant-loop-named : goal.invariant-loop-named
invariant-loop-named l = l.tasks.items ≡ map (λ (entry : List ℕ). task.SetFields entry l.mask l.bits l.limit) (take l.named-index l.entries)
