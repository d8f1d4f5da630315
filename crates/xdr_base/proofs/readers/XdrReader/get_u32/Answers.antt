use Rattle.xdr_base.specs.Reading.{past, word_at}
use Rattle.xdr_base.proofs.ReadBack.{gets_back, word_again, word_left}
use Rattle.xdr_base.proofs.readers.XdrReader.get_u32.Goals as goal

pub returns-clause-back : goal.returns-clause-back
returns-clause-back c = λ n after lt e.
    let from = c.args.self.now in
    gets_back (λ x. x) _ _ c.next_word.result (word_at from) n (past 4 from) after c.next_word.ensures.exact (word_again from n after lt e) (word_left from n after e)
