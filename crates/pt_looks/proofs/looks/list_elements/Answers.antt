use Rattle.std.proofs.Common.{◌≤◌, length, refl, arith}
use Rattle.std.proofs.lemmas.Int.{to_z-of_z}
use Rattle.std.proofs.lemmas.Result.{err_from_is_err_and}
use Rattle.prdb_layout.specs.State.{PrEntry}
use Rattle.pt_calls.specs.declared.answers.PtAnswer.TheVariants as answer
use Rattle.pt_service.specs.Meaning.{Answers}
use Rattle.pt_service.specs.State.{State, elements}
use Rattle.pt_looks.proofs.Counted.{elements_few, elements_told}
use Rattle.pt_looks.proofs.Costs.{entry_alone, entry_then}
use Rattle.pt_looks.proofs.Ended.{known_ends, unknown_ends}
use Rattle.pt_looks.proofs.Many.{err_many, long_same, no_disk_fault}
use Rattle.pt_looks.proofs.States.{looked_then, of_same}
use Rattle.pt_looks.proofs.looks.list_elements.Goals as goal

pub returns-then-branch-clause-meant : goal.returns-then-branch-clause-meant
returns-then-branch-clause-meant g c =
    let fits = c.ranges.id in
    let found = c.in_ok-is_unknown.ensures.found in
    let none = rw c.if-branch.true at found in
    unknown_ends c.args.d.now.bytes c.args.id (λ (s : State) (e : PrEntry). Answers (answer.Ids (elements s c.args.id))) _
    (simp to_z-of_z at none) refl

pub returns-clause-meant : goal.returns-clause-meant
returns-clause-meant g c =
    let fits = c.ranges.id in
    let found = c.in_ok-is_unknown.ensures.found in
    let known = rw c.if-branch.false at found in
    let list = c.in_ok-ids.ensures.found in
    known_ends c.tell_ids.result c.args.d.now.bytes c.is_unknown.new.d.bytes c.args.id
    (λ (s : State). elements s c.args.id) c.in_ok-ids.ids (simp to_z-of_z at known)
    c.is_unknown.ensures.frame.same.bytes
    (elements_told c.is_unknown.new.d.bytes c.args.id c.in_ok-ids.ids (simp to_z-of_z at list)) (rw c.into_vec.ensures.value at c.tell_ids.ensures.told)

pub returns-clause-fault : goal.returns-clause-fault
returns-clause-fault g c =
    let fits = c.ranges.id in
    let list = c.in_ok-ids.ensures.found in
    let same = c.elements.ensures.frame.same in
    let first = c.is_unknown.ensures.frame.same in
    err_many c.tell_ids.result c.args.d.now.bytes (length c.in_ok-ids.ids)
    (rw c.into_vec.ensures.value at c.tell_ids.ensures.fault)
    (of_same c.args.d.now.bytes c.is_unknown.new.d.bytes (λ (s : State). length c.in_ok-ids.ids ≤ 262143) first.bytes
    (elements_few c.is_unknown.new.d.bytes c.elements.new.d.len c.args.id c.in_ok-ids.ids
    (long_same c.is_unknown.new.d.bytes c.elements.new.d.bytes c.elements.new.d.len same.bytes c.len.ensures.told)
    (omega (arith, same.len, first.len, c.requires)) (simp to_z-of_z at list)))

pub returns-clause-frame : goal.returns-clause-frame
returns-clause-frame g c =
    looked_then g.I.ImageRead c.args.d.now c.is_unknown.new.d c.elements.new.d _ _ _ c.is_unknown.ensures.frame
    c.elements.ensures.frame (λ h. absurd (no_disk_fault c.tell_ids.result _ c.tell_ids.ensures.fault h))

pub returns-in_err-ids-clause-frame : goal.returns-in_err-ids-clause-frame
returns-in_err-ids-clause-frame g c =
    let p = err_from_is_err_and c.from_residual-in_err-ids.result c.from_residual-in_err-ids.ensures.1 in
    rw (p.1, p.2) (looked_then g.I.ImageRead c.args.d.now c.is_unknown.new.d c.elements.new.d _ _ _ c.is_unknown.ensures.frame
    c.in_err-ids.ensures.frame (λ h. cc))

pub returns-in_err-is_unknown-clause-cost : goal.returns-in_err-is_unknown-clause-cost
returns-in_err-is_unknown-clause-cost g c =
    let fits = c.ranges.id in
    let one = c.is_unknown.ensures.cost in
    entry_alone g.I.ImageRead c.args.id c.args.d.now c.is_unknown.new.d (simp to_z-of_z at one)

pub returns-then-branch-clause-cost : goal.returns-then-branch-clause-cost
returns-then-branch-clause-cost g c =
    let fits = c.ranges.id in
    let one = c.is_unknown.ensures.cost in
    entry_alone g.I.ImageRead c.args.id c.args.d.now c.is_unknown.new.d (simp to_z-of_z at one)

pub returns-in_err-ids-clause-cost : goal.returns-in_err-ids-clause-cost
returns-in_err-ids-clause-cost g c =
    let fits = c.ranges.id in
    let one = c.is_unknown.ensures.cost in
    let list = c.elements.ensures.cost in
    entry_then g.I.ImageRead c.args.id c.args.d.now c.is_unknown.new.d c.elements.new.d (simp to_z-of_z at one)
    c.is_unknown.ensures.frame.same.bytes (simp to_z-of_z at list)

pub returns-clause-cost : goal.returns-clause-cost
returns-clause-cost g c =
    let fits = c.ranges.id in
    let one = c.is_unknown.ensures.cost in
    let list = c.elements.ensures.cost in
    entry_then g.I.ImageRead c.args.id c.args.d.now c.is_unknown.new.d c.elements.new.d (simp to_z-of_z at one)
    c.is_unknown.ensures.frame.same.bytes (simp to_z-of_z at list)
