use Rattle.std.proofs.Common.{◌≡◌, ◌++◌, ap, ◌∙◌, refl, rules, arith}
use Rattle.pts_tool.proofs.Worked.{pairs_more}
use Rattle.pts_tool.proofs.plans.pairs.Goals as goal

pub loop-user-preserved : goal.loop-user-preserved
loop-user-preserved c =
    rw (c.loop-user.invariant) at c.in_ok-put_pairs.ensures
    ∙ pairs_more c.args.adds c.args.users.now c.args.groups.now c.loop-user.user-index c.user-item.result (omega arith) (search rules)
