use Rattle.std.proofs.Common.{◌+◌, arith}
use Rattle.std.proofs.lemmas.Result.{err_from_is_err_and}
use Rattle.db_chains.proofs.Results.{drafts_so, err_same, err_so}
use Rattle.db_chains.specs.Ends.{out_cost}
use Rattle.db_chains.proofs.Drafted.{drafts_on}
use Rattle.vldb_chains.specs.Places.{id_links, name_links}
use Rattle.vldb_records.specs.Changes.{leave_cost}
use Rattle.vldb_records.proofs.RemoveClauses.{backup_cause, name_cause, name_made, ro_cause, ro_made, rw_cause, rw_made}
use Rattle.vldb_records.proofs.removes.leave.Goals as goal

pub returns-in_err-take_out-clause-fault : goal.returns-in_err-take_out-clause-fault
returns-in_err-take_out-clause-fault g c =
    let p = err_from_is_err_and c.from_residual.result c.from_residual.ensures.1 in
    rw (p.1, p.2) (name_cause c.args.d.now.bytes c.name_links.result c.name_chain.result c.args.number c.name_in.result.now
    c.args.block.now c.in_err-take_out.field-0.0 c.name_links.ensures.is c.name_chain.ensures.place c.name_in.ensures
    c.in_err-take_out.ensures.fault)

pub returns-in_err-leave_id-clause-fault : goal.returns-in_err-leave_id-clause-fault
returns-in_err-leave_id-clause-fault g c =
    let p = err_from_is_err_and c.from_residual-in_err-leave_id.result c.from_residual-in_err-leave_id.ensures.1 in
    let named = name_made c.args.d.now.bytes c.take_out.new.d.bytes c.name_links.result c.name_chain.result c.args.number
    c.name_in.result.now c.args.block.now c.name_links.ensures.is c.name_chain.ensures.place c.name_in.ensures
    c.in_ok-take_out.ensures.bytes in
    rw (p.1, p.2) (rw_cause c.args.d.now.bytes c.take_out.new.d.bytes c.args.number c.word_at.result c.args.block.now
    c.in_err-leave_id.field-0.0 c.word_at.ensures named c.in_err-leave_id.ensures.fault)

pub returns-in_err-leave_id-2-clause-fault : goal.returns-in_err-leave_id-2-clause-fault
returns-in_err-leave_id-2-clause-fault g c =
    let p = err_from_is_err_and c.from_residual-in_err-leave_id-2.result c.from_residual-in_err-leave_id-2.ensures.1 in
    let named = name_made c.args.d.now.bytes c.take_out.new.d.bytes c.name_links.result c.name_chain.result c.args.number
    c.name_in.result.now c.args.block.now c.name_links.ensures.is c.name_chain.ensures.place c.name_in.ensures
    c.in_ok-take_out.ensures.bytes in
    let first = rw_made c.args.d.now.bytes c.take_out.new.d.bytes c.leave_id.new.d.bytes c.args.number c.word_at.result
    c.args.block.now c.word_at.ensures named c.in_ok-leave_id.ensures.bytes in
    rw (p.1, p.2) (ro_cause c.args.d.now.bytes c.leave_id.new.d.bytes c.args.number c.word_at-2.result c.args.block.now
    c.in_err-leave_id-2.field-0.0 c.word_at-2.ensures first c.in_err-leave_id-2.ensures.fault)

pub returns-in_err-leave_id-2-clause-frame : goal.returns-in_err-leave_id-2-clause-frame
returns-in_err-leave_id-2-clause-frame g c =
    let p = err_from_is_err_and c.from_residual-in_err-leave_id-2.result c.from_residual-in_err-leave_id-2.ensures.1 in
    let layout = c.args.d.now.layout in
    let len = c.args.d.now.len in
    let named = rw c.name_links.ensures.is at c.take_out.ensures.frame in
    drafts_so g.I.ImageRead (leave_cost layout len) c.args.d.now c.leave_id-2.new.d _ _
    (drafts_on g.I.ImageRead (out_cost name_links layout len + out_cost id_links layout len) (out_cost id_links) (leave_cost layout len)
    c.args.d.now c.leave_id.new.d c.leave_id-2.new.d _ _
    (drafts_on g.I.ImageRead (out_cost name_links layout len) (out_cost id_links)
    (out_cost name_links layout len + out_cost id_links layout len) c.args.d.now c.take_out.new.d c.leave_id.new.d _ _
    named c.take_out.ensures.len c.leave_id.ensures.frame (omega arith))
    (omega (arith, c.leave_id.ensures.len, c.take_out.ensures.len)) c.leave_id-2.ensures.frame (omega arith))
    (λ h. err_same c.leave_id-2.result c.from_residual-in_err-leave_id-2.result c.in_err-leave_id-2.field-0.0 _ _ c.in_err-leave_id-2.was
    p.1 p.2 h)

pub returns-clause-fault : goal.returns-clause-fault
returns-clause-fault g c =
    let named = name_made c.args.d.now.bytes c.take_out.new.d.bytes c.name_links.result c.name_chain.result c.args.number
    c.name_in.result.now c.args.block.now c.name_links.ensures.is c.name_chain.ensures.place c.name_in.ensures
    c.in_ok-take_out.ensures.bytes in
    let first = rw_made c.args.d.now.bytes c.take_out.new.d.bytes c.leave_id.new.d.bytes c.args.number c.word_at.result
    c.args.block.now c.word_at.ensures named c.in_ok-leave_id.ensures.bytes in
    let second = ro_made c.args.d.now.bytes c.leave_id.new.d.bytes c.leave_id-2.new.d.bytes c.args.number c.word_at-2.result
    c.args.block.now c.word_at-2.ensures first c.in_ok-leave_id-2.ensures.bytes in
    err_so c.leave_id-3.result _ _ c.leave_id-3.ensures.fault (λ fault cause.
    backup_cause c.args.d.now.bytes c.leave_id-2.new.d.bytes c.args.number c.word_at-3.result c.args.block.now fault
    c.word_at-3.ensures second cause)

pub returns-clause-frame : goal.returns-clause-frame
returns-clause-frame g c =
    let layout = c.args.d.now.layout in
    let len = c.args.d.now.len in
    let named = rw c.name_links.ensures.is at c.take_out.ensures.frame in
    let two = out_cost name_links layout len + out_cost id_links layout len in
    drafts_on g.I.ImageRead (two + out_cost id_links layout len) (out_cost id_links) (leave_cost layout len) c.args.d.now
    c.leave_id-2.new.d c.leave_id-3.new.d _ _
    (drafts_on g.I.ImageRead two (out_cost id_links) (two + out_cost id_links layout len) c.args.d.now c.leave_id.new.d
    c.leave_id-2.new.d _ _
    (drafts_on g.I.ImageRead (out_cost name_links layout len) (out_cost id_links) two c.args.d.now c.take_out.new.d c.leave_id.new.d _ _
    named c.take_out.ensures.len c.leave_id.ensures.frame (omega arith))
    (omega (arith, c.leave_id.ensures.len, c.take_out.ensures.len)) c.leave_id-2.ensures.frame (omega arith))
    (omega (arith, c.leave_id-2.ensures.len, c.leave_id.ensures.len, c.take_out.ensures.len)) c.leave_id-3.ensures.frame (omega arith)
