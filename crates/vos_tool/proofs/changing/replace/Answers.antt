use Rattle.vos_tool.proofs.Attempting.{ran_refused, ran_replaced, ran_unreplaced}
use Rattle.vos_tool.proofs.changing.replace.Goals as goal

pub returns-in-Ok : goal.returns-in-Ok
returns-in-Ok g c = ran_replaced c.args.id c.args.entry _ _ _ _ tt c.in-Ok.ensures.ran

pub returns-in-Refused : goal.returns-in-Refused
returns-in-Refused g c =
    ran_refused c.args.id c.args.entry _ _ _ _ _ _ c.in-Refused.why _ (rw c.in-Refused.is at c.in-Err.ensures.ran) c.give_up.ensures

pub returns : goal.returns
returns g c = ran_unreplaced c.args.id c.args.entry _ _ _ _ c.in-Err.stop c.in-Err.ensures.ran c.in_default.not-Refused
