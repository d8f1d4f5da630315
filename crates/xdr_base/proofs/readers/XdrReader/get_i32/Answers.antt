use Rattle.std.specs.Int.{w32, cast_unsigned}
use Rattle.xdr_base.specs.Reading.{past, signed_at}
use Rattle.xdr_base.proofs.ReadBack.{gets_back, signed_again, word_left}
use Rattle.xdr_base.proofs.readers.XdrReader.get_i32.Goals as goal

pub returns-clause-back : goal.returns-clause-back
returns-clause-back c = λ z after fits e.
    let from = c.args.self.now in
    gets_back (λ x. x) _ _ c.next_signed.result (signed_at from) z (past 4 from) after c.next_signed.ensures.exact (signed_again from z after fits e) (word_left from (cast_unsigned w32 z) after e)
