use Rattle.std.proofs.Common.{◌≡◌, ◌<◌, length, arith, sym, subst}
use Rattle.std.proofs.lemmas.Int.{to_z-of_z}
use Rattle.std.proofs.lemmas.Bool.Decides.{nat_tests}
use Rattle.std.proofs.lemmas.Result.{err_from_is_err_and}
use Rattle.db_blocks.proofs.Scanned.{drafts_after, drafts_then}
use Rattle.prdb_members.proofs.PartingEnds.{Finds, entry_cause, none_parts, parts_keep, some_err, some_keep, some_parts}
use Rattle.prdb_members.proofs.partings.remove_pairs.Goals as goal

pub returns-then-is_empty-clause-bytes : goal.returns-then-is_empty-clause-bytes
returns-then-is_empty-clause-bytes g c =
    let fits = c.ranges.id in
    let list_raw = c.in_ok-others.ensures.found in
    let list = simp to_z-of_z at list_raw in
    let items : Finds c.args.d.now.bytes c.args.id c.as_slice-others.result.now =
    subst (Finds c.args.d.now.bytes c.args.id) (sym c.as_slice-others.ensures.value) list in
    let none : length c.as_slice-others.result.now ≡ 0 = grind (arith, nat_tests, c.is_empty.ensures, c.if-is_empty.true) in
    none_parts c.args.d.now.bytes c.elements.new.d.bytes c.args.id c.as_slice-others.result.now c.elements.ensures.frame.same.bytes none
    items

pub returns-then-is_empty-clause-holds : goal.returns-then-is_empty-clause-holds
returns-then-is_empty-clause-holds g c =
    let fits = c.ranges.id in
    let list_raw = c.in_ok-others.ensures.found in
    let list = simp to_z-of_z at list_raw in
    let items : Finds c.args.d.now.bytes c.args.id c.as_slice-others.result.now =
    subst (Finds c.args.d.now.bytes c.args.id) (sym c.as_slice-others.ensures.value) list in
    let none : length c.as_slice-others.result.now ≡ 0 = grind (arith, nat_tests, c.is_empty.ensures, c.if-is_empty.true) in
    parts_keep c.args.d.now.bytes c.elements.new.d.bytes c.args.id c.as_slice-others.result.now items
    (none_parts c.args.d.now.bytes c.elements.new.d.bytes c.args.id c.as_slice-others.result.now c.elements.ensures.frame.same.bytes none
    items)

pub returns-in_err-empty_list-clause-fault : goal.returns-in_err-empty_list-clause-fault
returns-in_err-empty_list-clause-fault g c =
    let fits = c.ranges.id in
    let list_raw = c.in_ok-others.ensures.found in
    let list = simp to_z-of_z at list_raw in
    let items : Finds c.args.d.now.bytes c.args.id c.as_slice-others.result.now =
    subst (Finds c.args.d.now.bytes c.args.id) (sym c.as_slice-others.ensures.value) list in
    let some : 0 < length c.as_slice-others.result.now = grind (arith, nat_tests, c.is_empty.ensures, c.if-is_empty.false) in
    let cause_raw = c.in_err-empty_list.ensures.fault in
    let p = err_from_is_err_and c.from_residual-in_err-empty_list.result c.from_residual-in_err-empty_list.ensures.1 in
    rw (p.1, p.2)
    (entry_cause c.args.d.now.bytes c.elements.new.d.bytes c.args.id c.as_slice-others.result.now c.in_err-empty_list.field-0.0
    c.elements.ensures.frame.same.bytes some items (simp to_z-of_z at cause_raw))

pub returns-clause-bytes : goal.returns-clause-bytes
returns-clause-bytes g c =
    let fits = c.ranges.id in
    let list_raw = c.in_ok-others.ensures.found in
    let list = simp to_z-of_z at list_raw in
    let items : Finds c.args.d.now.bytes c.args.id c.as_slice-others.result.now =
    subst (Finds c.args.d.now.bytes c.args.id) (sym c.as_slice-others.ensures.value) list in
    let some : 0 < length c.as_slice-others.result.now = grind (arith, nat_tests, c.is_empty.ensures, c.if-is_empty.false) in
    let one_raw = c.in_ok-empty_list.ensures.bytes in
    let all_raw = c.take_from_all.ensures.bytes in
    some_parts c.take_from_all.result c.args.d.now.bytes c.elements.new.d.bytes c.empty_list.new.d.bytes c.take_from_all.new.d.bytes
    c.args.id c.as_slice-others.result.now c.elements.ensures.frame.same.bytes some items (simp to_z-of_z at one_raw)
    (simp to_z-of_z at all_raw)

pub returns-clause-holds : goal.returns-clause-holds
returns-clause-holds g c =
    let fits = c.ranges.id in
    let list_raw = c.in_ok-others.ensures.found in
    let list = simp to_z-of_z at list_raw in
    let items : Finds c.args.d.now.bytes c.args.id c.as_slice-others.result.now =
    subst (Finds c.args.d.now.bytes c.args.id) (sym c.as_slice-others.ensures.value) list in
    let some : 0 < length c.as_slice-others.result.now = grind (arith, nat_tests, c.is_empty.ensures, c.if-is_empty.false) in
    let one_raw = c.in_ok-empty_list.ensures.bytes in
    let all_raw = c.take_from_all.ensures.bytes in
    some_keep c.take_from_all.result c.args.d.now.bytes c.take_from_all.new.d.bytes c.args.id c.as_slice-others.result.now items
    (some_parts c.take_from_all.result c.args.d.now.bytes c.elements.new.d.bytes c.empty_list.new.d.bytes c.take_from_all.new.d.bytes
    c.args.id c.as_slice-others.result.now c.elements.ensures.frame.same.bytes some items (simp to_z-of_z at one_raw)
    (simp to_z-of_z at all_raw))

pub returns-clause-fault : goal.returns-clause-fault
returns-clause-fault g c =
    let fits = c.ranges.id in
    let list_raw = c.in_ok-others.ensures.found in
    let list = simp to_z-of_z at list_raw in
    let items : Finds c.args.d.now.bytes c.args.id c.as_slice-others.result.now =
    subst (Finds c.args.d.now.bytes c.args.id) (sym c.as_slice-others.ensures.value) list in
    let some : 0 < length c.as_slice-others.result.now = grind (arith, nat_tests, c.is_empty.ensures, c.if-is_empty.false) in
    let one_raw = c.in_ok-empty_list.ensures.bytes in
    let cause_raw = c.take_from_all.ensures.fault in
    some_err c.take_from_all.result c.args.d.now.bytes c.elements.new.d.bytes c.empty_list.new.d.bytes c.args.id
    c.as_slice-others.result.now c.elements.ensures.frame.same.bytes some items (simp to_z-of_z at one_raw) (simp to_z-of_z at cause_raw)

pub returns-clause-frame : goal.returns-clause-frame
returns-clause-frame g c =
    drafts_after g.I.ImageRead c.args.d.now c.elements.new.d c.take_from_all.new.d _ _ c.elements.ensures.frame
    (drafts_then g.I.ImageRead c.elements.new.d c.empty_list.new.d c.take_from_all.new.d _ _ c.in_ok-empty_list.ensures.frame
    c.take_from_all.ensures.frame)
