use Rattle.std.proofs.Common.{arith}
use Rattle.xdr_base.specs.Reading.{past, count_at}
use Rattle.xdr_base.proofs.ReadBack.{gets_back, count_again, word_left}
use Rattle.xdr_base.proofs.readers.XdrReader.get_count.Goals as goal

pub returns-clause-back : goal.returns-clause-back
returns-clause-back c = λ n after le e.
    let from = c.args.self.now in
    gets_back (λ x. x) _ _ c.next_count.result (count_at c.args.most from) n (past 4 from) after c.next_count.ensures.exact (count_again c.args.most from n after (omega arith) le e) (word_left from n after e)
