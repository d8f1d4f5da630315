use Rattle.std.proofs.Common.{codes, refl}
use Rattle.tool_base.proofs.Commanding.{commanded}
use Rattle.pts_tool.specs.Courses.{pts_course}
use Rattle.pts_tool.proofs.running.run_pts.Goals as goal

pub returns-clause-commanded : goal.returns-clause-commanded
returns-clause-commanded g c =
    commanded (codes "pts") (pts_course c.args.words.now) _ _ _ _ _ _ _ _ c.run_words-end.result c.say_end.result c.of.ensures
    (rw (c.new-client.ensures) at c.run_words-end.ensures.told) c.say_end.ensures.said
