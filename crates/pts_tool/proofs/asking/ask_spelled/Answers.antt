use Rattle.std.proofs.Common.{refl, arith, ◌∙◌}
use Rattle.pts_tool.proofs.Spelling.{is_spelled, spelling_len}
use Rattle.pts_tool.proofs.asking.ask_spelled.Goals as goal

pub spell_call-requires : goal.spell_call-requires
spell_call-requires g c =
    is_spelled c.args.call.now c.requires

pub ask-requires : goal.ask-requires
ask-requires g c =
    rw c.in_ok-spelled.ensures (spelling_len c.args.call.now (is_spelled c.args.call.now c.requires))
