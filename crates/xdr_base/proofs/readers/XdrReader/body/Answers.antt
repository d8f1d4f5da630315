use Rattle.std.proofs.Common.{◌≡◌, length, ◌+◌, ◌-◌, ap, sym, ◌∙◌, arith}
use Rattle.xdr_base.specs.Spelling.{padding}
use Rattle.xdr_base.specs.Reading.{Reading}
use Rattle.xdr_base.proofs.Padding.{body_found}
use Rattle.xdr_base.proofs.readers.XdrReader.body.Goals as goal

pub returns-clause-found : goal.returns-clause-found
returns-clause-found c =
    let rest : c.self.inside.rest.now ≡ c.args.self.now.rest = ap (λ (r : Reading). r.rest) c.self.view_is in
    let len : 4 + c.args.len - 4 ≡ c.args.len = omega arith in
    let h = body_found c.args.self.now.rest c.args.len (padding c.args.len) (omega (arith, ap length rest, c.opaque_len-size.ensures)) (sym c.is_padded.ensures ∙ c.if-not-is_padded.false) in
    rw (len, rest) h
