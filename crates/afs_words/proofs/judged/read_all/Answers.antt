use Rattle.std.proofs.Common.{arith}
use Rattle.std.proofs.lemmas.Result.{err_from_is_err_and}
use Rattle.afs_words.proofs.Refusing.{first_refused}
use Rattle.afs_words.proofs.judged.read_all.Goals as goal

pub returns-in_err-values-clause-judged : goal.returns-in_err-values-clause-judged
returns-in_err-values-clause-judged c =
    let p = err_from_is_err_and c.from_residual.result c.from_residual.ensures.1 in
    rw (p.1, p.2) (first_refused c.args.slots.now c.loop-slot.slot-index c.args.named c.args.chosen c.slot-item.result c.in_err-values.field-0.0
    (omega arith) c.slot-item.is c.loop-slot.invariant.0 c.in_err-values.ensures.judged)
