use Rattle.std.proofs.Common.{◌+◌, arith}
use Rattle.std.proofs.lemmas.Result.{err_from_is_err_and}
use Rattle.db_chains.proofs.Results.{err_so, ok_so}
use Rattle.db_chains.specs.Ends.{walk_cost}
use Rattle.db_chains.specs.Free.{free_cost}
use Rattle.db_chains.proofs.Drafted.{drafts_on}
use Rattle.vldb_chains.specs.Places.{free_blocks, id_links}
use Rattle.vldb_records.specs.Changes.{leave_cost, remove_cost}
use Rattle.vldb_records.proofs.RemoveClauses.{find_cause, free_cause, leave_cause, looks_on, none_cause, removed_bytes, removed_makes}
use Rattle.vldb_records.proofs.removes.remove.Goals as goal

pub returns-in_err-link-clause-fault : goal.returns-in_err-link-clause-fault
returns-in_err-link-clause-fault g c =
    let p = err_from_is_err_and c.from_residual.result c.from_residual.ensures.1 in
    rw (p.1, p.2) (find_cause c.args.d.now.bytes c.args.own c.in_err-link.field-0.0
    (rw (c.id_links.ensures.is, c.id_chain.ensures.place) at c.in_err-link.ensures.fault))

pub returns-in_default-clause-fault : goal.returns-in_default-clause-fault
returns-in_default-clause-fault g c =
    let first = rw (c.id_links.ensures.is, c.id_chain.ensures.place) at c.in_ok-link.ensures.found in
    none_cause c.args.d.now.bytes c.args.own c.len.result (rw c.in_default.is at first)

pub returns-in_err-leave-clause-fault : goal.returns-in_err-leave-clause-fault
returns-in_err-leave-clause-fault g c =
    let p = err_from_is_err_and c.from_residual-in_err-leave.result c.from_residual-in_err-leave.ensures.1 in
    let first = rw (c.id_links.ensures.is, c.id_chain.ensures.place) at c.in_ok-link.ensures.found in
    let within = c.in_ok-link.ensures.within in
    let fits = rw c.in-Some.is at within in
    rw (p.1, p.2) (leave_cause c.args.d.now.bytes c.find_link.new.d.bytes c.args.own c.args.d.now.len c.in-Some.link
    c.in_err-leave.field-0.0 c.find_link.ensures.frame.same.bytes c.find_link.ensures.told (omega (arith, fits))
    (rw c.in-Some.is at first) c.in_err-leave.ensures.fault)

pub returns-clause-bytes : goal.returns-clause-bytes
returns-clause-bytes g c =
    let first = rw (c.id_links.ensures.is, c.id_chain.ensures.place) at c.in_ok-link.ensures.found in
    let last = rw (c.id_links.ensures.is, c.id_chain.ensures.place) at c.in_ok-link.ensures.exact in
    let within = c.in_ok-link.ensures.within in
    let fits = rw c.in-Some.is at within in
    ok_so c.free_block.result _ _ (rw c.free_blocks.ensures.is at c.free_block.ensures.bytes) (λ made.
    removed_bytes c.args.d.now.bytes c.find_link.new.d.bytes c.leave.new.d.bytes c.free_block.new.d.bytes c.args.own c.args.d.now.len
    c.in-Some.link c.find_link.ensures.frame.same.bytes c.find_link.ensures.told (omega (arith, fits)) (rw c.in-Some.is at first)
    (rw c.in-Some.is at last) c.in_ok-leave.ensures.bytes made)

pub returns-clause-holds : goal.returns-clause-holds
returns-clause-holds g c =
    ok_so c.free_block.result _ _ (returns-clause-bytes g c) (removed_makes c.args.d.now.bytes c.free_block.new.d.bytes c.args.own)

pub returns-clause-fault : goal.returns-clause-fault
returns-clause-fault g c =
    let first = rw (c.id_links.ensures.is, c.id_chain.ensures.place) at c.in_ok-link.ensures.found in
    let within = c.in_ok-link.ensures.within in
    let fits = rw c.in-Some.is at within in
    err_so c.free_block.result _ _ (rw c.free_blocks.ensures.is at c.free_block.ensures.fault) (λ fault cause.
    free_cause c.args.d.now.bytes c.find_link.new.d.bytes c.leave.new.d.bytes c.args.own c.args.d.now.len c.in-Some.link fault
    c.find_link.ensures.frame.same.bytes c.find_link.ensures.told (omega (arith, fits)) (rw c.in-Some.is at first)
    c.in_ok-leave.ensures.bytes cause)

pub returns-clause-frame : goal.returns-clause-frame
returns-clause-frame g c =
    let layout = c.args.d.now.layout in
    let len = c.args.d.now.len in
    let most = rw c.id_links.ensures.is at c.find_link.ensures.most in
    drafts_on g.I.ImageRead (walk_cost id_links len + leave_cost layout len) (free_cost free_blocks) (remove_cost layout len) c.args.d.now
    c.leave.new.d c.free_block.new.d _ _
    (drafts_on g.I.ImageRead (walk_cost id_links len) leave_cost (walk_cost id_links len + leave_cost layout len) c.args.d.now
    c.find_link.new.d c.leave.new.d _ _
    (looks_on g.I.ImageRead (walk_cost id_links len) c.args.d.now c.find_link.new.d _ c.find_link.ensures.frame most)
    c.find_link.ensures.frame.same.len c.leave.ensures.frame (omega arith))
    (omega (arith, c.leave.ensures.len, c.find_link.ensures.frame.same.len)) c.free_block.ensures.frame (omega arith)
