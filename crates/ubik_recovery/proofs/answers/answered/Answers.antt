use Rattle.std.proofs.Common.{rules, ◌∙◌, arith}
use Rattle.std.proofs.lemmas.List.{length-set}
use Rattle.ubik_recovery.proofs.Places.{marks-step}
use Rattle.ubik_recovery.proofs.answers.answered.Goals as goal

pub loop-i-preserved : goal.loop-i-preserved
loop-i-preserved c =
    (length-set c.loop-i.set c.loop-i.i c.is_some.result ∙ c.loop-i.invariant.0, marks-step c.args.answers.now c.loop-i.set c.loop-i.i c.is_some.result (omega arith) (omega arith) (search rules) c.loop-i.invariant.1)
