use Rattle.std.proofs.Common.{rules, arith}
use Rattle.ubik_recovery.proofs.Best.{first-step}
use Rattle.ubik_recovery.proofs.answers.first_with.Goals as goal

pub loop-i-preserved : goal.loop-i-preserved
loop-i-preserved c =
    let step = first-step c.args.answers.now c.args.version c.loop-i.i (omega arith) (search rules) in
    omega (arith, step, c.loop-i.invariant)
