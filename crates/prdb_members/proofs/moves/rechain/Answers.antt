use Rattle.std.proofs.lemmas.Result.{err_from_is_err_and}
use Rattle.db_blocks.proofs.Scanned.{drafts_then}
use Rattle.prdb_members.proofs.MoveCosts.{rechain_both, rechain_out}
use Rattle.prdb_members.proofs.moves.rechain.Goals as goal

pub returns-in_err-take_out-clause-frame : goal.returns-in_err-take_out-clause-frame
returns-in_err-take_out-clause-frame g c =
    let p = err_from_is_err_and c.from_residual.result c.from_residual.ensures.1 in rw (p.1, p.2) c.in_err-take_out.ensures.frame.drafts

pub returns-clause-frame : goal.returns-clause-frame
returns-clause-frame g c =
    drafts_then g.I.ImageRead c.args.d.now c.take_out.new.d c.put_first.new.d _ _ c.in_ok-take_out.ensures.frame.drafts
    c.put_first.ensures.frame.drafts

pub returns-in_err-take_out-clause-cost : goal.returns-in_err-take_out-clause-cost
returns-in_err-take_out-clause-cost g c =
    rechain_out c.args.d.now.layout c.args.d.now.len c.id_links.result (g.I.ImageRead.asked c.args.d.now.image)
    (g.I.ImageRead.asked c.take_out.new.d.image) c.id_links.ensures.is c.take_out.ensures.frame.cost

pub returns-clause-cost : goal.returns-clause-cost
returns-clause-cost g c =
    rechain_both c.args.d.now.layout c.take_out.new.d.layout c.args.d.now.len c.id_links.result (g.I.ImageRead.asked c.args.d.now.image)
    (g.I.ImageRead.asked c.take_out.new.d.image) (g.I.ImageRead.asked c.put_first.new.d.image) c.id_links.ensures.is
    c.take_out.ensures.frame.drafts.layout c.take_out.ensures.frame.cost c.put_first.ensures.frame.cost
