use Rattle.std.proofs.lemmas.Int.{to_z-of_z}
use Rattle.std.proofs.lemmas.Result.{err_from_is_err_and}
use Rattle.db_blocks.proofs.Scanned.{drafts_after, drafts_then}
use Rattle.prdb_lists.proofs.Written.{drafts_looks, drafts_so}
use Rattle.prdb_turns.proofs.Disowned.{IsBegun, disowned_ok, find_cause, groups_cause, list_cause, rest_err}
use Rattle.prdb_turns.proofs.owners.disown.Goals as goal

pub returns-clause-bytes : goal.returns-clause-bytes
returns-clause-bytes g c =
    let fits = c.ranges.owner in
    let ids = c.deref.ensures.value in
    let last = c.deref-2.ensures.value in
    let order = c.in_ok-groups.ensures.found in
    let gave = c.in_ok-give.ensures.bytes in
    let list = c.in_ok-rest.ensures.found in
    let given = c.give-2.ensures.bytes in
    let begun : IsBegun c.args.d.now.bytes c.owned_in_order.new.d.bytes c.give.new.d.bytes c.args.owner c.in_ok-groups.groups.items = record {
      found = simp to_z-of_z at order;
      same = c.owned_in_order.ensures.frame.same.bytes;
      gives = rw ids at gave;
    } in
    disowned_ok c.give-2.result c.args.d.now.bytes c.owned_in_order.new.d.bytes c.give.new.d.bytes c.ids_where.new.d.bytes
    c.give-2.new.d.bytes c.args.owner c.in_ok-groups.groups.items c.in_ok-rest.rest.items begun (simp to_z-of_z at list)
    c.ids_where.ensures.frame.same.bytes (rw last at given)

pub returns-clause-fault : goal.returns-clause-fault
returns-clause-fault g c =
    let fits = c.ranges.owner in
    let ids = c.deref.ensures.value in
    let last = c.deref-2.ensures.value in
    let order = c.in_ok-groups.ensures.found in
    let gave = c.in_ok-give.ensures.bytes in
    let list = c.in_ok-rest.ensures.found in
    let cause = c.give-2.ensures.fault in
    let begun : IsBegun c.args.d.now.bytes c.owned_in_order.new.d.bytes c.give.new.d.bytes c.args.owner c.in_ok-groups.groups.items = record {
      found = simp to_z-of_z at order;
      same = c.owned_in_order.ensures.frame.same.bytes;
      gives = rw ids at gave;
    } in
    rest_err c.give-2.result c.args.d.now.bytes c.owned_in_order.new.d.bytes c.give.new.d.bytes c.ids_where.new.d.bytes
    c.args.owner c.in_ok-groups.groups.items c.in_ok-rest.rest.items begun (simp to_z-of_z at list)
    c.ids_where.ensures.frame.same.bytes (rw last at cause)

pub returns-in_err-groups-clause-fault : goal.returns-in_err-groups-clause-fault
returns-in_err-groups-clause-fault g c =
    let fits = c.ranges.owner in
    let p = err_from_is_err_and c.from_residual.result c.from_residual.ensures.1 in
    rw (p.1, p.2) (find_cause c.args.d.now.bytes _ c.in_err-groups.field-0.0 c.in_err-groups.ensures.fault)

pub returns-in_err-give-clause-fault : goal.returns-in_err-give-clause-fault
returns-in_err-give-clause-fault g c =
    let fits = c.ranges.owner in
    let p = err_from_is_err_and c.from_residual-in_err-give.result c.from_residual-in_err-give.ensures.1 in
    let ids = c.deref.ensures.value in
    let order = c.in_ok-groups.ensures.found in
    let cause = c.in_err-give.ensures.fault in
    rw (p.1, p.2) (groups_cause c.args.d.now.bytes c.owned_in_order.new.d.bytes c.args.owner c.in_ok-groups.groups.items
    c.in_err-give.field-0.0 (simp to_z-of_z at order) c.owned_in_order.ensures.frame.same.bytes (rw ids at cause))

pub returns-in_err-rest-clause-fault : goal.returns-in_err-rest-clause-fault
returns-in_err-rest-clause-fault g c =
    let fits = c.ranges.owner in
    let p = err_from_is_err_and c.from_residual-in_err-rest.result c.from_residual-in_err-rest.ensures.1 in
    let ids = c.deref.ensures.value in
    let order = c.in_ok-groups.ensures.found in
    let gave = c.in_ok-give.ensures.bytes in
    rw (p.1, p.2) (list_cause c.args.d.now.bytes c.owned_in_order.new.d.bytes c.give.new.d.bytes c.args.owner
    c.in_ok-groups.groups.items c.in_err-rest.field-0.0
    record { found = simp to_z-of_z at order; same = c.owned_in_order.ensures.frame.same.bytes; gives = rw ids at gave } c.in_err-rest.ensures.fault)

pub returns-in_err-give-clause-frame : goal.returns-in_err-give-clause-frame
returns-in_err-give-clause-frame g c =
    let p = err_from_is_err_and c.from_residual-in_err-give.result c.from_residual-in_err-give.ensures.1 in
    rw (p.1, p.2) (drafts_after g.I.ImageRead c.args.d.now c.owned_in_order.new.d c.give.new.d _ _ c.owned_in_order.ensures.frame
    c.in_err-give.ensures.frame)

pub returns-in_err-rest-clause-frame : goal.returns-in_err-rest-clause-frame
returns-in_err-rest-clause-frame g c =
    let p = err_from_is_err_and c.from_residual-in_err-rest.result c.from_residual-in_err-rest.ensures.1 in
    rw (p.1, p.2) (drafts_so g.I.ImageRead c.args.d.now c.ids_where.new.d _ _
    (drafts_looks g.I.ImageRead c.args.d.now c.give.new.d c.ids_where.new.d _ _
    (drafts_after g.I.ImageRead c.args.d.now c.owned_in_order.new.d c.give.new.d _ _ c.owned_in_order.ensures.frame c.give.ensures.frame)
    c.in_err-rest.ensures.frame) (λ h. cc))

pub returns-clause-frame : goal.returns-clause-frame
returns-clause-frame g c =
    drafts_then g.I.ImageRead c.args.d.now c.ids_where.new.d c.give-2.new.d _ _
    (drafts_looks g.I.ImageRead c.args.d.now c.give.new.d c.ids_where.new.d _ _
    (drafts_after g.I.ImageRead c.args.d.now c.owned_in_order.new.d c.give.new.d _ _ c.owned_in_order.ensures.frame c.give.ensures.frame)
    c.ids_where.ensures.frame) c.give-2.ensures.frame
