use Rattle.std.proofs.Common.{sym, ◌∙◌}
use Rattle.pt_turns.proofs.Looked.{none_under, under_so}
use Rattle.pt_turns.proofs.sought.ids_under.Goals as goal

pub returns-then-has_colon-clause-found : goal.returns-then-has_colon-clause-found
returns-then-has_colon-clause-found g c =
    none_under c.args.d.now.bytes c.args.whole.now c.new.result.items c.new.ensures.items (sym c.has_colon.ensures ∙ c.if-has_colon.true)

pub returns-clause-found : goal.returns-clause-found
returns-clause-found g c = under_so c.ids_where.result (λ ids. ids.items) c.args.d.now.bytes c.args.whole.now c.ids_where.ensures.found
