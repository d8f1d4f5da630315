use Rattle.std.proofs.Common.{refl}
use Rattle.tool_base.proofs.Working.{told_none}
use Rattle.pts_tool.proofs.running.run_words.Goals as goal

pub returns-in_err-tasks-clause-told : goal.returns-in_err-tasks-clause-told
returns-in_err-tasks-clause-told g c =
    told_none _ _ _ _ c.from_residual.result c.from_residual.ensures.1
