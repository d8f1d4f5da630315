use Rattle.std.proofs.Common.{refl, sym, ◌∙◌}
use Rattle.pts_tool.proofs.Asked.{ran_refused, ran_spelled}
use Rattle.pts_tool.proofs.asking.ask.Goals as goal

pub returns-then-has_spelling : goal.returns-then-has_spelling
returns-then-has_spelling g c =
    ran_spelled g.A.FromAnswer.taken c.args.call.now _ _ _ _ _ (sym c.has_spelling.ensures ∙ c.if-has_spelling.true) c.ask_spelled.ensures

pub returns-else-has_spelling : goal.returns-else-has_spelling
returns-else-has_spelling g c =
    ran_refused g.A.FromAnswer.taken c.args.call.now _ _ (sym c.has_spelling.ensures ∙ c.if-has_spelling.false)
