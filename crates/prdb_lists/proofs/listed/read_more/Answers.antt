use Rattle.std.proofs.Common.{sym, ◌∙◌}
use Rattle.std.proofs.lemmas.Int.{to_z-of_z}
use Rattle.prdb_lists.proofs.ListRead.{not_more}
use Rattle.prdb_lists.proofs.listed.read_more.Goals as goal

pub returns-then-not-is_more_of-clause-fault : goal.returns-then-not-is_more_of-clause-fault
returns-then-not-is_more_of-clause-fault g c =
    let fits = c.ranges.entry in
    let raw = c.is_more_of.ensures in
    let is = simp to_z-of_z at raw in
    not_more c.args.d.now.bytes c.args.entry c.args.link c.args.count c.in_ok-block.block c.in_ok-block.ensures.block
    (sym is ∙ c.if-not-is_more_of.true)
