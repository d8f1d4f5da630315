use Rattle.vos_tool.proofs.Lengths.{spelled_len}
use Rattle.vos_tool.proofs.asking.ask.Goals as goal

pub ask-requires : goal.ask-requires
ask-requires g c = spelled_len c.args.call.now _ c.requires c.in_ok-bytes.ensures
