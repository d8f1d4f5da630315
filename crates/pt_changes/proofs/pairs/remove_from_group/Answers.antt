use Rattle.std.proofs.Common.{refl, ◌∙◌}
use Rattle.std.proofs.lemmas.Int.{to_z-of_z}
use Rattle.std.proofs.lemmas.Result.{err_from_is_err_and}
use Rattle.pt_service.specs.Meaning.{parts}
use Rattle.pt_service.specs.State.{State}
use Rattle.pt_service.proofs.Frames.{no_disk}
use Rattle.pt_changes.proofs.Frames.{drafted_two, looked_two}
use Rattle.pt_changes.proofs.Paired.{pair_refuses, part_fault, part_made, part_not_there}
use Rattle.pt_changes.proofs.pairs.remove_from_group.Goals as goal

pub returns-in-Some-clause-meant : goal.returns-in-Some-clause-meant
returns-in-Some-clause-meant g c =
    let one = c.ranges.member in
    let two = c.ranges.group in
    let found = c.in_ok-rule.ensures.found in
    let fault = rw c.in-Some.is at found in
    pair_refuses c.args.d.now.bytes c.pair_fault.new.d.bytes c.args.member c.args.group (λ (s : State). parts s c.args.member c.args.group)
    c.in-Some.rule _
    (simp to_z-of_z at fault) refl c.pair_fault.ensures.frame.same.bytes

pub returns-then-not-branch-clause-meant : goal.returns-then-not-branch-clause-meant
returns-then-not-branch-clause-meant g c =
    let one = c.ranges.member in
    let two = c.ranges.group in
    let found = c.in_ok-rule.ensures.found in
    let good = rw c.in_default.is at found in
    let is = c.in_ok-is_in.ensures.found in
    let gone = rw c.if-not-branch.true at is in
    part_not_there c.args.d.now.bytes c.pair_fault.new.d.bytes c.is_in.new.d.bytes c.args.member c.args.group _ (simp to_z-of_z at good)
    c.pair_fault.ensures.frame.same.bytes (simp to_z-of_z at gone) refl
    (c.is_in.ensures.frame.same.bytes ∙ c.pair_fault.ensures.frame.same.bytes)

pub returns-clause-meant : goal.returns-clause-meant
returns-clause-meant g c =
    let one = c.ranges.member in
    let two = c.ranges.group in
    let found = c.in_ok-rule.ensures.found in
    let good = rw c.in_default.is at found in
    let is = c.in_ok-is_in.ensures.found in
    let there = rw c.if-not-branch.false at is in
    let made = c.in_ok-remove_pair.ensures.bytes in
    part_made c.args.d.now.bytes c.pair_fault.new.d.bytes c.is_in.new.d.bytes c.remove_pair.new.d.bytes c.args.member c.args.group
    c.in_ok-end.end (simp to_z-of_z at good)
    c.pair_fault.ensures.frame.same.bytes (simp to_z-of_z at there)
    (c.is_in.ensures.frame.same.bytes ∙ c.pair_fault.ensures.frame.same.bytes)
    (simp to_z-of_z at made) c.in_ok-end.ensures.told

pub returns-in_err-remove_pair-clause-fault : goal.returns-in_err-remove_pair-clause-fault
returns-in_err-remove_pair-clause-fault g c =
    let one = c.ranges.member in
    let two = c.ranges.group in
    let p = err_from_is_err_and c.from_residual-in_err-remove_pair.result c.from_residual-in_err-remove_pair.ensures.1 in
    let is = c.in_ok-is_in.ensures.found in
    let there = rw c.if-not-branch.false at is in
    let cause = c.in_err-remove_pair.ensures.fault in
    rw (p.1, p.2) (part_fault c.args.d.now.bytes c.pair_fault.new.d.bytes c.is_in.new.d.bytes c.args.member c.args.group
    c.in_err-remove_pair.field-0.0
    c.pair_fault.ensures.frame.same.bytes (simp to_z-of_z at there)
    (c.is_in.ensures.frame.same.bytes ∙ c.pair_fault.ensures.frame.same.bytes) (simp to_z-of_z at cause))

pub returns-in_err-remove_pair-clause-frame : goal.returns-in_err-remove_pair-clause-frame
returns-in_err-remove_pair-clause-frame g c =
    let p = err_from_is_err_and c.from_residual-in_err-remove_pair.result c.from_residual-in_err-remove_pair.ensures.1 in
    rw (p.1, p.2) (drafted_two g.I.ImageRead c.args.d.now c.pair_fault.new.d c.is_in.new.d c.remove_pair.new.d _ _ _ _
    c.in_ok-rule.ensures.frame
    c.in_ok-is_in.ensures.frame c.in_err-remove_pair.ensures.frame (λ h. cc))

pub returns-clause-frame : goal.returns-clause-frame
returns-clause-frame g c =
    drafted_two g.I.ImageRead c.args.d.now c.pair_fault.new.d c.is_in.new.d c.remove_pair.new.d _ _ _ _ c.in_ok-rule.ensures.frame
    c.in_ok-is_in.ensures.frame c.in_ok-remove_pair.ensures.frame (λ h. absurd cc)

pub returns-then-not-branch-clause-frame : goal.returns-then-not-branch-clause-frame
returns-then-not-branch-clause-frame g c =
    looked_two g.I.ImageRead c.args.d.now c.pair_fault.new.d c.is_in.new.d _ _ _ c.in_ok-rule.ensures.frame c.in_ok-is_in.ensures.frame
    (λ h. absurd cc)

pub returns-in_err-is_in-clause-frame : goal.returns-in_err-is_in-clause-frame
returns-in_err-is_in-clause-frame g c =
    let p = err_from_is_err_and c.from_residual-in_err-is_in.result c.from_residual-in_err-is_in.ensures.1 in
    rw (p.1, p.2) (looked_two g.I.ImageRead c.args.d.now c.pair_fault.new.d c.is_in.new.d _ _ _ c.in_ok-rule.ensures.frame
    c.in_err-is_in.ensures.frame (λ h. cc))

pub returns-in_err-end-clause-frame : goal.returns-in_err-end-clause-frame
returns-in_err-end-clause-frame g c =
    let p = err_from_is_err_and c.from_residual-in_err-end.result c.from_residual-in_err-end.ensures.1 in
    looked_two g.I.ImageRead c.args.d.now c.pair_fault.new.d c.is_in.new.d _ _ _ c.in_ok-rule.ensures.frame c.in_ok-is_in.ensures.frame
    (λ h. absurd (no_disk c.from_residual-in_err-end.result p.0 p.1 p.2 h))
