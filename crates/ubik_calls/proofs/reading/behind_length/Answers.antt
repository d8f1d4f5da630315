use Rattle.std.proofs.Common.{◌≡◌, ◌-◌, length, sym, ap, ◌∙◌, arith}
use Rattle.xdr_base.specs.Reading.{Reading}
use Rattle.ubik_calls.proofs.Taken.{length_said}
use Rattle.ubik_calls.proofs.reading.behind_length.Goals as goal

pub returns-clause-found : goal.returns-clause-found
returns-clause-found c =
    let start = ap (λ (r : Reading). r.rest) c.new-reader.ensures in
    let same : c.in_ok-said.said ≡ length c.args.frame.now - 4 = omega arith in
    length_said c.args.frame.now c.number.new.reader c.in_ok-said.said (sym start ∙ c.in_ok-said.ensures.found.text_is) same
