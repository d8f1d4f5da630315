use Rattle.std.proofs.Common.{arith}
use Rattle.prdb_members.proofs.Places.{freed_number, freed_one}
use Rattle.prdb_members.proofs.sides.free_first.Goals as goal

pub free_block-requires-clause-block : goal.free_block-requires-clause-block
free_block-requires-clause-block g c =
    rw (c.free_blocks.ensures.is) (freed_number c.args.d.now.len _ c.args.freed.now c.requires.within c.in-len1-up.len_at_least (omega arith))

pub returns-in-len1-up-clause-bytes : goal.returns-in-len1-up-clause-bytes
returns-in-len1-up-clause-bytes g c =
    freed_one c.free_block.result c.args.d.now.bytes c.free_block.new.d.bytes c.args.freed.now _ c.free_blocks.result
    c.in-len1-up.len_at_least c.free_blocks.ensures.is (omega arith) c.free_block.ensures.bytes
