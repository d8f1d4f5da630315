use Rattle.std.proofs.Common.{refl}
use Rattle.pts_tool.proofs.names.names_of_some.Goals as goal

pub returns : goal.returns
returns g c =
    rw c.in_ok-ids.ensures at c.ask.ensures
