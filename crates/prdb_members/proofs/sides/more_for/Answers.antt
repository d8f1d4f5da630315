use Rattle.std.proofs.Common.{refl, arith}
use Rattle.db_blocks.specs.Bytes.{zeros}
use Rattle.prdb_members.proofs.Places.{taken_one}
use Rattle.prdb_members.proofs.sides.more_for.Goals as goal

pub returns-clause-bytes : goal.returns-clause-bytes
unfolding zeros
returns-clause-bytes g c =
    taken_one c.args.d.now.bytes c.take_block.new.d.bytes c.args.count c.args.there.now (zeros 192) c.free_blocks.result
    c.free_blocks.ensures.is refl c.in_ok-number.ensures.bytes (omega arith)
