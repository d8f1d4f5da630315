use Rattle.std.proofs.Common.{◌≡◌, ◌++◌, Some, drop, map}
use Rattle.pts_tool.specs.Plans.{made}
use Rattle.pts_tool.proofs.plans.made.Given as goal

abbrev pub invariant-loop-word : goal.invariant-loop-word
invariant-loop-word l =
    l.tasks.items ++ made l.is_group l.owner (drop l.word-index l.names) (map Some l.left)
    ≡ made l.is_group l.owner l.names (map Some l.ids)
