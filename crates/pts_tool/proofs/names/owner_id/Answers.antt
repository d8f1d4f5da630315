use Rattle.std.proofs.Common.{pos, Ok, refl}
use Rattle.tool_base.proofs.Walking.{ran_is}
use Rattle.pts_tool.proofs.names.owner_id.Goals as goal

pub returns-in-Some : goal.returns-in-Some
returns-in-Some g c =
    rw c.in-Some.is c.entry_id.ensures

pub returns-in-None : goal.returns-in-None
returns-in-None g c =
    rw c.in-None.is (ran_is _ _ (Ok (pos 0)) _ tt refl)
