use Rattle.std.proofs.Common.{Ok, Err}
use Rattle.vos_tool.proofs.Attempting.{ran_gives_up, short_gives_up}
use Rattle.vos_tool.proofs.changing.give_up.Goals as goal

pub returns-in-Ok : goal.returns-in-Ok
returns-in-Ok g c = ran_gives_up c.args.id c.args.why _ _ _ _ (Ok tt) c.in-Ok.ensures (λ is. cc)

pub returns-in-NoMemory : goal.returns-in-NoMemory
returns-in-NoMemory g c = short_gives_up c.args.id c.args.why _ _ _ _ (rw c.in-NoMemory.is at c.in-Err.ensures)

pub returns-in_default : goal.returns-in_default
returns-in_default g c =
    ran_gives_up c.args.id c.args.why _ _ _ _ (Err c.in-Err.stop) c.in-Err.ensures (λ is. c.in_default.not-NoMemory (cc))
