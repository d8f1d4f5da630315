use Rattle.ubik_write.proofs.Patches.{laid-over}
use Rattle.ubik_write.proofs.undo.lay.Goals as goal

pub returns-then-start-end : goal.returns-then-start-end
returns-then-start-end c =
    laid-over c.args.bytes.now c.args.from c.args.at c.args.buf.now c.copy_from_slice.new.self c.max-start.result c.min-end.result c.max-start.ensures c.min-end.ensures c.if-start-end.true c.copy_from_slice.ensures.after
