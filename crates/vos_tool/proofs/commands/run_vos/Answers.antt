use Rattle.std.proofs.Common.{codes}
use Rattle.tool_base.proofs.Commanding.{caused, commanded}
use Rattle.vos_tool.specs.Command.{vos_course}
use Rattle.vos_tool.proofs.commands.run_vos.Goals as goal

pub returns-clause-command : goal.returns-clause-command
returns-clause-command g c =
    commanded (codes "vos") (vos_course c.args.words.now) _ _ _ _ _ _ _ _ c.run-end.result c.say_end-left.result c.of.ensures
    (rw c.new-client.ensures at c.run-end.ensures.told) c.say_end-left.ensures.said

pub returns-clause-cause : goal.returns-clause-cause
returns-clause-cause g c =
    caused _ _ _ _ _ c.run-end.result c.say_end-left.result c.of.ensures c.run-end.ensures.cause c.say_end-left.ensures.cause
