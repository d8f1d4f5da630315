use Rattle.std.proofs.Common.{◌+◌, arith}
use Rattle.std.proofs.lemmas.Result.{err_from_is_err_and}
use Rattle.db_chains.proofs.Results.{drafts_so, err_same, err_so}
use Rattle.db_chains.proofs.Drafted.{drafts_on}
use Rattle.vldb_chains.specs.Places.{id_links, name_links}
use Rattle.vldb_records.specs.Changes.{move_cost, moves_cost}
use Rattle.vldb_records.proofs.Moves.{backup_cause, name_cause, name_made, ro_cause, ro_made, rw_cause, rw_made}
use Rattle.vldb_records.proofs.replaces.move_to.Goals as goal

pub returns-in_err-move_name-clause-fault : goal.returns-in_err-move_name-clause-fault
returns-in_err-move_name-clause-fault g c =
    let p = err_from_is_err_and c.from_residual.result c.from_residual.ensures.1 in
    rw (p.1, p.2) (name_cause c.args.d.now.bytes c.args.number c.name_in.result.now c.args.block.now c.in_err-move_name.field-0.0
    c.name_in.ensures c.in_err-move_name.ensures.fault)

pub returns-in_err-move_id-clause-fault : goal.returns-in_err-move_id-clause-fault
returns-in_err-move_id-clause-fault g c =
    let p = err_from_is_err_and c.from_residual-in_err-move_id.result c.from_residual-in_err-move_id.ensures.1 in
    let named = name_made c.args.d.now.bytes c.move_name.new.d.bytes c.args.number c.name_in.result.now c.as_slice.result.now
    c.args.block.now c.args.e.now c.name_in.ensures c.as_slice.ensures c.in_ok-move_name.ensures.bytes in
    rw (p.1, p.2) (rw_cause c.args.d.now.bytes c.move_name.new.d.bytes c.args.number c.word_at.result c.args.block.now c.args.e.now
    c.in_err-move_id.field-0.0 c.word_at.ensures named c.in_err-move_id.ensures.fault)

pub returns-in_err-move_id-2-clause-fault : goal.returns-in_err-move_id-2-clause-fault
returns-in_err-move_id-2-clause-fault g c =
    let p = err_from_is_err_and c.from_residual-in_err-move_id-2.result c.from_residual-in_err-move_id-2.ensures.1 in
    let named = name_made c.args.d.now.bytes c.move_name.new.d.bytes c.args.number c.name_in.result.now c.as_slice.result.now
    c.args.block.now c.args.e.now c.name_in.ensures c.as_slice.ensures c.in_ok-move_name.ensures.bytes in
    let first = rw_made c.args.d.now.bytes c.move_name.new.d.bytes c.move_id.new.d.bytes c.args.number c.word_at.result
    c.args.block.now c.args.e.now c.word_at.ensures named c.in_ok-move_id.ensures.bytes in
    rw (p.1, p.2) (ro_cause c.args.d.now.bytes c.move_id.new.d.bytes c.args.number c.word_at-2.result c.args.block.now c.args.e.now
    c.in_err-move_id-2.field-0.0 c.word_at-2.ensures first c.in_err-move_id-2.ensures.fault)

pub returns-in_err-move_id-2-clause-frame : goal.returns-in_err-move_id-2-clause-frame
returns-in_err-move_id-2-clause-frame g c =
    let p = err_from_is_err_and c.from_residual-in_err-move_id-2.result c.from_residual-in_err-move_id-2.ensures.1 in
    let layout = c.args.d.now.layout in
    let len = c.args.d.now.len in
    drafts_so g.I.ImageRead (moves_cost layout len) c.args.d.now c.move_id-2.new.d _ _
    (drafts_on g.I.ImageRead (move_cost name_links layout len + move_cost id_links layout len) (move_cost id_links)
    (moves_cost layout len) c.args.d.now c.move_id.new.d c.move_id-2.new.d _ _
    (drafts_on g.I.ImageRead (move_cost name_links layout len) (move_cost id_links)
    (move_cost name_links layout len + move_cost id_links layout len) c.args.d.now c.move_name.new.d c.move_id.new.d _ _
    c.move_name.ensures.frame c.move_name.ensures.len c.move_id.ensures.frame (omega arith))
    (omega (arith, c.move_id.ensures.len, c.move_name.ensures.len)) c.move_id-2.ensures.frame (omega arith))
    (λ h. err_same c.move_id-2.result c.from_residual-in_err-move_id-2.result c.in_err-move_id-2.field-0.0 _ _ c.in_err-move_id-2.was
    p.1 p.2 h)

pub returns-clause-fault : goal.returns-clause-fault
returns-clause-fault g c =
    let named = name_made c.args.d.now.bytes c.move_name.new.d.bytes c.args.number c.name_in.result.now c.as_slice.result.now
    c.args.block.now c.args.e.now c.name_in.ensures c.as_slice.ensures c.in_ok-move_name.ensures.bytes in
    let first = rw_made c.args.d.now.bytes c.move_name.new.d.bytes c.move_id.new.d.bytes c.args.number c.word_at.result
    c.args.block.now c.args.e.now c.word_at.ensures named c.in_ok-move_id.ensures.bytes in
    let second = ro_made c.args.d.now.bytes c.move_id.new.d.bytes c.move_id-2.new.d.bytes c.args.number c.word_at-2.result
    c.args.block.now c.args.e.now c.word_at-2.ensures first c.in_ok-move_id-2.ensures.bytes in
    err_so c.move_id-3.result _ _ c.move_id-3.ensures.fault (λ fault cause.
    backup_cause c.args.d.now.bytes c.move_id-2.new.d.bytes c.args.number c.word_at-3.result c.args.block.now c.args.e.now fault
    c.word_at-3.ensures second cause)

pub returns-clause-frame : goal.returns-clause-frame
returns-clause-frame g c =
    let layout = c.args.d.now.layout in
    let len = c.args.d.now.len in
    let two = move_cost name_links layout len + move_cost id_links layout len in
    drafts_on g.I.ImageRead (two + move_cost id_links layout len) (move_cost id_links) (moves_cost layout len) c.args.d.now
    c.move_id-2.new.d c.move_id-3.new.d _ _
    (drafts_on g.I.ImageRead two (move_cost id_links) (two + move_cost id_links layout len) c.args.d.now c.move_id.new.d
    c.move_id-2.new.d _ _
    (drafts_on g.I.ImageRead (move_cost name_links layout len) (move_cost id_links) two c.args.d.now c.move_name.new.d
    c.move_id.new.d _ _
    c.move_name.ensures.frame c.move_name.ensures.len c.move_id.ensures.frame (omega arith))
    (omega (arith, c.move_id.ensures.len, c.move_name.ensures.len)) c.move_id-2.ensures.frame (omega arith))
    (omega (arith, c.move_id-2.ensures.len, c.move_id.ensures.len, c.move_name.ensures.len)) c.move_id-3.ensures.frame (omega arith)
