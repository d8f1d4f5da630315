use Rattle.std.proofs.Common.{arith}
use Rattle.db_image.proofs.BlockNumbers.{before_others, before_these}
use Rattle.db_image.proofs.places.blocks_before.Goals as goal

pub returns-clause-these : goal.returns-clause-these
returns-clause-these c = λ k below.
    before_these c.args.layout c.args.at c.from-behind.result c.from-block.result k
    (omega arith) (omega arith) (omega arith) (omega arith) (omega (arith, below))

pub returns-clause-others : goal.returns-clause-others
returns-clause-others c = λ some k past.
    before_others c.args.layout c.args.at c.from-behind.result c.from-block.result k
    (omega arith) (omega arith) (omega (arith, some)) (omega (arith, past))
