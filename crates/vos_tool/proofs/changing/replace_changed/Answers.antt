use Rattle.vos_tool.proofs.Given.{given_fits}
use Rattle.vos_tool.proofs.changing.replace_changed.Goals as goal

pub replace-requires : goal.replace-requires
replace-requires g c = given_fits c.args.entry c.in-Some.sites c.requires (rw c.in-Some.is at c.in_ok-changed.ensures.few)
