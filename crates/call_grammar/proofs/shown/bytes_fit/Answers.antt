use Rattle.std.proofs.Common.{arith}
use Rattle.call_grammar.proofs.Fitting.{bytes_fit}
use Rattle.call_grammar.proofs.shown.bytes_fit.Goals as goal

pub returns : goal.returns
returns c = bytes_fit c.args.bytes.now (λ i. omega (arith, c.type_inv.bytes i))
