use Rattle.std.proofs.Common.{refl, sym, ◌∙◌}
use Rattle.std.specs.Int.{w32}
use Rattle.std.proofs.lemmas.Int.{to_z-of_z}
use Rattle.std.proofs.lemmas.Result.{err_from_is_err_and}
use Rattle.pt_service.proofs.Frames.{drafted, looked, no_disk}
use Rattle.pt_changes.proofs.Deleted.{delete_fixed, delete_made, delete_unknown, disown_fault, parts_fault, remove_fault, strips_so}
use Rattle.pt_changes.proofs.Frames.{changed_thrice, changed_twice}
use Rattle.pt_changes.proofs.leaving.delete.Goals as goal

pub returns-then-branch-clause-meant : goal.returns-then-branch-clause-meant
returns-then-branch-clause-meant g c =
    let fits = c.ranges.id in
    let unknown = c.in_ok-is_unknown.ensures.found in
    let none = rw c.if-branch.true at unknown in
    delete_unknown c.args.d.now.bytes c.is_unknown.new.d.bytes c.args.id _ (simp to_z-of_z at none) refl
    c.is_unknown.ensures.frame.same.bytes

pub returns-then-is_fixed-clause-meant : goal.returns-then-is_fixed-clause-meant
returns-then-is_fixed-clause-meant g c =
    let fits = c.ranges.id in
    let known = c.in_ok-is_unknown.ensures.found in
    let some = rw c.if-branch.false at known in
    let fixed = sym c.is_fixed.ensures ∙ c.if-is_fixed.true in
    delete_fixed c.args.d.now.bytes c.is_unknown.new.d.bytes c.args.id _ (simp to_z-of_z at some) (simp to_z-of_z at fixed) refl
    c.is_unknown.ensures.frame.same.bytes

pub returns-then-branch-clause-frame : goal.returns-then-branch-clause-frame
returns-then-branch-clause-frame g c = looked g.I.ImageRead c.args.d.now c.is_unknown.new.d _ _ c.in_ok-is_unknown.ensures.frame
    (λ h. absurd cc)

pub returns-then-is_fixed-clause-frame : goal.returns-then-is_fixed-clause-frame
returns-then-is_fixed-clause-frame g c = looked g.I.ImageRead c.args.d.now c.is_unknown.new.d _ _ c.in_ok-is_unknown.ensures.frame
    (λ h. absurd cc)

pub returns-in_err-end-clause-frame : goal.returns-in_err-end-clause-frame
returns-in_err-end-clause-frame g c =
    let p = err_from_is_err_and c.from_residual-in_err-end.result c.from_residual-in_err-end.ensures.1 in
    looked g.I.ImageRead c.args.d.now c.is_unknown.new.d _ _ c.in_ok-is_unknown.ensures.frame
    (λ h. absurd (no_disk c.from_residual-in_err-end.result p.0 p.1 p.2 h))

pub returns-in_err-remove_pairs-clause-fault : goal.returns-in_err-remove_pairs-clause-fault
returns-in_err-remove_pairs-clause-fault g c =
    let p = err_from_is_err_and c.from_residual-in_err-remove_pairs.result c.from_residual-in_err-remove_pairs.ensures.1 in
    rw (p.1, p.2) (parts_fault c.args.d.now.bytes c.is_unknown.new.d.bytes c.in_err-remove_pairs.field-0.0
    c.is_unknown.ensures.frame.same.bytes
    c.in_err-remove_pairs.ensures.fault)

pub returns-in_err-remove_pairs-clause-frame : goal.returns-in_err-remove_pairs-clause-frame
returns-in_err-remove_pairs-clause-frame g c =
    let p = err_from_is_err_and c.from_residual-in_err-remove_pairs.result c.from_residual-in_err-remove_pairs.ensures.1 in
    rw (p.1, p.2) (drafted g.I.ImageRead c.args.d.now c.is_unknown.new.d c.remove_pairs.new.d _ _ _ c.in_ok-is_unknown.ensures.frame
    c.in_err-remove_pairs.ensures.frame (λ h. cc))

pub returns-in_err-disown-clause-fault : goal.returns-in_err-disown-clause-fault
returns-in_err-disown-clause-fault g c =
    let fits = c.ranges.id in
    let p = err_from_is_err_and c.from_residual-in_err-disown.result c.from_residual-in_err-disown.ensures.1 in
    let known = c.in_ok-is_unknown.ensures.found in
    let some = rw c.if-branch.false at known in
    let free = sym c.is_fixed.ensures ∙ c.if-is_fixed.false in
    let strips =
    strips_so c.args.d.now.bytes c.is_unknown.new.d.bytes c.remove_pairs.new.d.bytes _ c.args.id (to_z-of_z w32 c.args.id c.ranges.id)
    c.is_unknown.ensures.frame.same.bytes
    c.in_ok-remove_pairs.ensures.bytes in
    let cause = c.in_err-disown.ensures.fault in
    rw (p.1, p.2) (disown_fault c.args.d.now.bytes c.is_unknown.new.d.bytes c.remove_pairs.new.d.bytes c.args.id
    c.in_err-disown.field-0.0 (simp to_z-of_z at some) (simp to_z-of_z at free) strips (simp to_z-of_z at cause))

pub returns-in_err-disown-clause-frame : goal.returns-in_err-disown-clause-frame
returns-in_err-disown-clause-frame g c =
    let p = err_from_is_err_and c.from_residual-in_err-disown.result c.from_residual-in_err-disown.ensures.1 in
    rw (p.1, p.2) (changed_twice g.I.ImageRead c.args.d.now c.is_unknown.new.d c.remove_pairs.new.d c.disown.new.d _ _ _ _
    c.in_ok-is_unknown.ensures.frame c.in_ok-remove_pairs.ensures.frame c.in_err-disown.ensures.frame (λ h. cc))

pub returns-in_err-remove-clause-fault : goal.returns-in_err-remove-clause-fault
returns-in_err-remove-clause-fault g c =
    let fits = c.ranges.id in
    let p = err_from_is_err_and c.from_residual-in_err-remove.result c.from_residual-in_err-remove.ensures.1 in
    let known = c.in_ok-is_unknown.ensures.found in
    let some = rw c.if-branch.false at known in
    let free = sym c.is_fixed.ensures ∙ c.if-is_fixed.false in
    let strips =
    strips_so c.args.d.now.bytes c.is_unknown.new.d.bytes c.remove_pairs.new.d.bytes _ c.args.id (to_z-of_z w32 c.args.id c.ranges.id)
    c.is_unknown.ensures.frame.same.bytes
    c.in_ok-remove_pairs.ensures.bytes in
    let disowns = c.in_ok-disown.ensures.bytes in
    let cause = c.in_err-remove.ensures.fault in
    rw (p.1, p.2) (remove_fault c.args.d.now.bytes c.is_unknown.new.d.bytes c.remove_pairs.new.d.bytes c.disown.new.d.bytes c.args.id
    c.in_err-remove.field-0.0 (simp to_z-of_z at some) (simp to_z-of_z at free) strips (simp to_z-of_z at disowns)
    (simp to_z-of_z at cause))

pub returns-in_err-remove-clause-frame : goal.returns-in_err-remove-clause-frame
returns-in_err-remove-clause-frame g c =
    let p = err_from_is_err_and c.from_residual-in_err-remove.result c.from_residual-in_err-remove.ensures.1 in
    rw (p.1, p.2) (changed_thrice g.I.ImageRead c.args.d.now c.is_unknown.new.d c.remove_pairs.new.d c.disown.new.d c.remove.new.d
    _ _ _ _ _
    c.in_ok-is_unknown.ensures.frame c.in_ok-remove_pairs.ensures.frame c.in_ok-disown.ensures.frame
    c.in_err-remove.ensures.frame.drafts (λ h. cc))

pub returns-clause-meant : goal.returns-clause-meant
returns-clause-meant g c =
    let fits = c.ranges.id in
    let known = c.in_ok-is_unknown.ensures.found in
    let some = rw c.if-branch.false at known in
    let free = sym c.is_fixed.ensures ∙ c.if-is_fixed.false in
    let strips =
    strips_so c.args.d.now.bytes c.is_unknown.new.d.bytes c.remove_pairs.new.d.bytes _ c.args.id (to_z-of_z w32 c.args.id c.ranges.id)
    c.is_unknown.ensures.frame.same.bytes
    c.in_ok-remove_pairs.ensures.bytes in
    let disowns = c.in_ok-disown.ensures.bytes in
    let removed = c.in_ok-remove.ensures.bytes in
    delete_made c.args.d.now.bytes c.is_unknown.new.d.bytes c.remove_pairs.new.d.bytes c.disown.new.d.bytes c.remove.new.d.bytes c.args.id
    c.in_ok-end.end (simp to_z-of_z at some) (simp to_z-of_z at free) strips (simp to_z-of_z at disowns)
    (simp to_z-of_z at removed) c.in_ok-end.ensures.told

pub returns-clause-frame : goal.returns-clause-frame
returns-clause-frame g c =
    changed_thrice g.I.ImageRead c.args.d.now c.is_unknown.new.d c.remove_pairs.new.d c.disown.new.d c.remove.new.d
    _ _ _ _ _
    c.in_ok-is_unknown.ensures.frame c.in_ok-remove_pairs.ensures.frame c.in_ok-disown.ensures.frame
    c.in_ok-remove.ensures.frame.drafts (λ h. absurd cc)
