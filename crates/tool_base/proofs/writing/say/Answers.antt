use Rattle.std.proofs.Common.{refl}
use Rattle.tool_base.proofs.Saying.{said_part}
use Rattle.tool_base.proofs.writing.say.Goals as goal

pub returns-in-Err-clause-said : goal.returns-in-Err-clause-said
returns-in-Err-clause-said g c =
    (refl, said_part (g.K.Sink.written c.args.out.now) (g.K.Sink.written c.write_whole.new.out) c.args.text.now c.in-Err.ensures.told)
