use Rattle.std.proofs.Common.{cond}
use Rattle.xdr_base.specs.Reading.{past, truth_at}
use Rattle.xdr_base.proofs.ReadBack.{gets_back, truth_again, word_left}
use Rattle.xdr_base.proofs.readers.XdrReader.get_bool.Goals as goal

pub returns-clause-back : goal.returns-clause-back
returns-clause-back c = λ b after e.
    let from = c.args.self.now in
    gets_back (λ x. x) _ _ c.next_truth.result (truth_at from) b (past 4 from) after c.next_truth.ensures.exact (truth_again from b after e) (word_left from (cond b 1 0) after e)
