use Rattle.std.proofs.Common.{◌≡◌, arith}
use Rattle.std.proofs.lemmas.Int.{to_z-of_z}
use Rattle.std.proofs.lemmas.Result.{err_from_is_err_and}
use Rattle.prdb_finds.proofs.Ended.{looks_well}
use Rattle.prdb_finds.proofs.Lookups.{id_fault}
use Rattle.pt_looks.proofs.Linked.{link_cause, link_none, link_told}
use Rattle.pt_looks.proofs.entries.told_of_id.Goals as goal

pub told_first-requires : goal.told_first-requires
told_first-requires g c =
    let none : c.args.d.now.len ≡ 0 = omega (arith, c.len.ensures.size) in
    let told = c.len.ensures.told in
    record { len = none; empty = rw none at told }

pub returns-in_err-link-clause-fault : goal.returns-in_err-link-clause-fault
returns-in_err-link-clause-fault g c =
    let fits = c.ranges.id in
    let p = err_from_is_err_and c.from_residual.result c.from_residual.ensures.1 in
    let cause = c.in_err-link.ensures.fault in
    rw (p.1, p.2) (id_fault c.args.d.now.bytes c.len.result c.args.id c.in_err-link.field-0.0 (rw c.len.ensures.size c.len.ensures.told)
    (omega arith) (simp to_z-of_z at cause))

pub returns-in_default-clause-found : goal.returns-in_default-clause-found
returns-in_default-clause-found g c =
    let fits = c.ranges.id in
    let raw = c.in_ok-link.ensures.found in
    link_none c.args.d.now.bytes c.len.result c.args.id c.in_ok-link.field-0 c.in_default.is (rw c.len.ensures.size c.len.ensures.told)
    (omega arith) (simp to_z-of_z at raw)

pub returns-in_err-entry-clause-fault : goal.returns-in_err-entry-clause-fault
returns-in_err-entry-clause-fault g c =
    let fits = c.ranges.id in
    let p = err_from_is_err_and c.from_residual-in_err-entry.result c.from_residual-in_err-entry.ensures.1 in
    let raw = c.in_ok-link.ensures.exact in
    rw (p.1, p.2) (link_cause c.args.d.now.bytes c.len.result c.args.id c.in_ok-link.field-0 c.in-Some.link c.in_err-entry.field-0.0
    c.in-Some.is (rw c.len.ensures.size c.len.ensures.told) (omega arith) (simp to_z-of_z at raw) c.in_err-entry.ensures.fault)

pub returns-clause-found : goal.returns-clause-found
returns-clause-found g c =
    let fits = c.ranges.id in
    let raw = c.in_ok-link.ensures.exact in
    link_told c.args.d.now.bytes c.len.result c.args.id c.in_ok-link.field-0 c.in-Some.link c.in_ok-entry.entry c.in-Some.is
    (rw c.len.ensures.size c.len.ensures.told) (omega arith) (simp to_z-of_z at raw) c.in_ok-entry.ensures.told

pub returns-clause-frame : goal.returns-clause-frame
returns-clause-frame g c = looks_well g.I.ImageRead c.args.d.now c.find_link.new.d _ _ c.find_link.ensures.frame.looks (λ e. cc)

pub returns-clause-cost : goal.returns-clause-cost
returns-clause-cost g c =
    let fits = c.ranges.id in
    let costs = c.find_link.ensures.cost in
    simp to_z-of_z at costs
