use Rattle.std.proofs.Common.{arith, length}
use Rattle.xdr_base.specs.Spelling.{opaque_len}
use Rattle.xdr_base.specs.Reading.{past, opaque_at}
use Rattle.xdr_base.proofs.ReadBack.{gets_back, opaque_again, opaque_left}
use Rattle.xdr_base.proofs.readers.XdrReader.get_bytes.Goals as goal

pub returns-clause-back : goal.returns-clause-back
returns-clause-back c = λ bytes after le e.
    let from = c.args.self.now in
    gets_back (λ x. x.now) _ _ c.next_opaque.result (opaque_at c.args.most from) bytes (past (opaque_len (length bytes)) from) after c.next_opaque.ensures.exact (opaque_again c.args.most from bytes after (omega arith) le e) (opaque_left from bytes after e)
