use Rattle.std.proofs.Common.{length, ap, arith}
use Rattle.vl_service.proofs.Lengths.{answer_len}
use Rattle.vl_service.proofs.looks.tell.Goals as goal

pub returns-clause-short : goal.returns-clause-short
returns-clause-short c = omega (arith, answer_len c.args.answer.now c.requires, ap length c.in_ok-bytes.ensures)
