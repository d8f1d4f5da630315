use Rattle.std.proofs.Common.{rules, sym, ◌∙◌, arith}
use Rattle.ubik_recovery.proofs.Best.{best-step, best-end}
use Rattle.ubik_recovery.proofs.answers.best_version.Goals as goal

pub loop-answer-preserved : goal.loop-answer-preserved
loop-answer-preserved c =
    c.loop-answer.invariant ∙ best-step c.args.answers.now c.loop-answer.best c.later_answer-best.result c.loop-answer.answer-index (omega arith) (search rules)

pub returns : goal.returns
returns c =
    sym (c.loop-answer.invariant ∙ best-end c.args.answers.now c.loop-answer.best c.loop-answer.answer-index (omega arith))
