use Rattle.std.proofs.Common.{◌*◌, arith}
use Rattle.std.proofs.lemmas.Result.{err_from_is_err_and}
use Rattle.db_chains.proofs.Results.{drafts_so, err_same}
use Rattle.db_chains.specs.Ends.{first_cost}
use Rattle.db_chains.proofs.Drafted.{drafts_after}
use Rattle.vldb_records.specs.Changes.{enter_cost}
use Rattle.vldb_records.proofs.inserts.enter.Goals as goal

pub returns-in_err-enter_id-2-clause-frame : goal.returns-in_err-enter_id-2-clause-frame
returns-in_err-enter_id-2-clause-frame g c =
    let p = err_from_is_err_and c.from_residual-in_err-enter_id-2.result c.from_residual-in_err-enter_id-2.ensures.1 in
    let layout = c.args.d.now.layout in
    drafts_so g.I.ImageRead (enter_cost layout) c.args.d.now c.enter_id-2.new.d _ _
    (drafts_after g.I.ImageRead (2 * first_cost layout) first_cost (enter_cost layout) c.args.d.now c.enter_id.new.d c.enter_id-2.new.d _ _
    (drafts_after g.I.ImageRead (first_cost layout) first_cost (2 * first_cost layout) c.args.d.now c.put_first.new.d c.enter_id.new.d _ _
    c.put_first.ensures.frame c.enter_id.ensures.frame (omega arith))
    c.enter_id-2.ensures.frame (omega arith))
    (λ h. err_same c.enter_id-2.result c.from_residual-in_err-enter_id-2.result c.in_err-enter_id-2.field-0.0 _ _ c.in_err-enter_id-2.was
    p.1 p.2 h)

pub returns-clause-frame : goal.returns-clause-frame
returns-clause-frame g c =
    let layout = c.args.d.now.layout in
    drafts_after g.I.ImageRead (3 * first_cost layout) first_cost (enter_cost layout) c.args.d.now c.enter_id-2.new.d c.enter_id-3.new.d _ _
    (drafts_after g.I.ImageRead (2 * first_cost layout) first_cost (3 * first_cost layout) c.args.d.now c.enter_id.new.d c.enter_id-2.new.d
    _ _
    (drafts_after g.I.ImageRead (first_cost layout) first_cost (2 * first_cost layout) c.args.d.now c.put_first.new.d c.enter_id.new.d _ _
    c.put_first.ensures.frame c.enter_id.ensures.frame (omega arith))
    c.enter_id-2.ensures.frame (omega arith))
    c.enter_id-3.ensures.frame (omega arith)
