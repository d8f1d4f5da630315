use Rattle.std.proofs.Common.{length, ap, arith}
use Rattle.db_blocks.proofs.Keeping.{few_so}
use Rattle.db_blocks.proofs.keyed.scan_first.Goals as goal

pub returns-clause-few : goal.returns-clause-few
returns-clause-few g c =
    few_so c.read_blocks.result (λ blocks. length blocks.items) _ c.args.most (omega
    (arith, ap length c.as_slice.ensures.value, c.in_ok-kept.ensures.few)) c.read_blocks.ensures.count
