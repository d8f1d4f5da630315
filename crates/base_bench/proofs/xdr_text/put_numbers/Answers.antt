use Rattle.base_bench.proofs.Numbers.{none_written, one_written}
use Rattle.base_bench.proofs.xdr_text.put_numbers.Goals as goal

pub loop-number-init : goal.loop-number-init
loop-number-init c = none_written c.args.writer.now

pub loop-number-preserved : goal.loop-number-preserved
loop-number-preserved c =
    one_written c.args.writer.now c.loop-number.writer c.put_u32.new.self c.loop-number.number c.loop-number.invariant c.in_ok-put_u32.ensures.ok
