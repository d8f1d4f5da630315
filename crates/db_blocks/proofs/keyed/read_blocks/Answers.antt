use Rattle.db_blocks.proofs.Keeping.{reading_more}
use Rattle.db_blocks.proofs.keyed.read_blocks.Goals as goal

pub loop-k-preserved : goal.loop-k-preserved
loop-k-preserved g c =
    reading_more g.I.ImageRead c.args.d.now c.loop-k.d c.read_block.new.d c.args.head c.args.kept.now c.loop-k.blocks.items
    c.push.new.self.items c.in_ok-block.block
    c.loop-k.k-index _ _ c.loop-k.invariant c.in_ok-block.ensures.frame c.in_ok-block.ensures.cost c.loop-k-test.true
    c.in_ok-block.ensures.block c.in_ok-push.ensures.items
