use Rattle.base_bench.specs.LongAsk.{long_ask}
use Rattle.base_bench.proofs.Asks.{is_frame, same_frame}
use Rattle.base_bench.proofs.frame_text.is_read.Goals as goal

pub returns-in-Ok : goal.returns-in-Ok
returns-in-Ok c =
    let stands = c.decode.ensures.only (long_ask c.args.len) (is_frame c.args.len c.requires.fits) c.requires.ask in
    c.is_ask.ensures (same_frame _ _ _ stands c.in-Ok.is)
