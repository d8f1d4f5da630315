use Rattle.std.proofs.Common.{sym, ◌∙◌}
use Rattle.std.proofs.lemmas.Result.{err_from_is_err_and}
use Rattle.prdb_layout.specs.RecordEnds.{seen}
use Rattle.db_blocks.proofs.Scanned.{looks_then}
use Rattle.pt_looks.proofs.States.{looked_then}
use Rattle.pt_turns.proofs.Shared.{rule_equal, rule_kept, rule_long, rule_none, rule_turns}
use Rattle.pt_turns.proofs.deciding.name_fault.Goals as goal

pub returns-then-keeps_name-clause-found : goal.returns-then-keeps_name-clause-found
returns-then-keeps_name-clause-found g c =
    rule_kept c.args.d.now.bytes (seen c.args.e.now) c.args.new.now (sym c.keeps_name.ensures ∙ c.if-keeps_name.true)

pub returns-then-turns-clause-found : goal.returns-then-turns-clause-found
returns-then-turns-clause-found g c =
    let found = c.in_ok-turns.ensures.found in
    rule_turns c.args.d.now.bytes (seen c.args.e.now) c.args.new.now (rw c.if-turns.true at found)

pub returns-then-has_long_name-clause-found : goal.returns-then-has_long_name-clause-found
returns-then-has_long_name-clause-found g c =
    let first = c.in_ok-turns.ensures.found in
    let text = c.as_slice.ensures in
    let second = c.in_ok-groups.ensures.found in
    let value = c.deref.ensures.value in
    let long = c.has_long_name.ensures in
    rule_long c.args.d.now.bytes c.turns_its_groups.new.d.bytes (seen c.args.e.now) c.args.new.now c.in_ok-groups.groups.items
    (rw c.if-turns.false at first) c.turns_its_groups.ensures.frame.same.bytes (rw text at second)
    (sym (rw value at long) ∙ c.if-has_long_name.true)

pub returns-then-equal-clause-found : goal.returns-then-equal-clause-found
returns-then-equal-clause-found g c =
    let first = c.in_ok-turns.ensures.found in
    let text = c.as_slice.ensures in
    let second = c.in_ok-groups.ensures.found in
    let value = c.deref.ensures.value in
    let long = c.has_long_name.ensures in
    let again = c.deref-2.ensures.value in
    let third = c.in_ok-equal.ensures.found in
    let shared = rw c.if-equal.true at third in
    rule_equal c.args.d.now.bytes c.turns_its_groups.new.d.bytes c.groups_under.new.d.bytes (seen c.args.e.now) c.args.new.now
    c.in_ok-groups.groups.items
    (sym c.keeps_name.ensures ∙ c.if-keeps_name.false) (rw c.if-turns.false at first) c.turns_its_groups.ensures.frame.same.bytes
    (rw text at second) (sym (rw value at long) ∙ c.if-has_long_name.false)
    (c.groups_under.ensures.frame.same.bytes ∙ c.turns_its_groups.ensures.frame.same.bytes) (rw again at shared)

pub returns-clause-found : goal.returns-clause-found
returns-clause-found g c =
    let first = c.in_ok-turns.ensures.found in
    let text = c.as_slice.ensures in
    let second = c.in_ok-groups.ensures.found in
    let value = c.deref.ensures.value in
    let long = c.has_long_name.ensures in
    let again = c.deref-2.ensures.value in
    let third = c.in_ok-equal.ensures.found in
    let shared = rw c.if-equal.false at third in
    rule_none c.args.d.now.bytes c.turns_its_groups.new.d.bytes c.groups_under.new.d.bytes (seen c.args.e.now) c.args.new.now
    c.in_ok-groups.groups.items
    (sym c.keeps_name.ensures ∙ c.if-keeps_name.false) (rw c.if-turns.false at first) c.turns_its_groups.ensures.frame.same.bytes
    (rw text at second) (sym (rw value at long) ∙ c.if-has_long_name.false)
    (c.groups_under.ensures.frame.same.bytes ∙ c.turns_its_groups.ensures.frame.same.bytes) (rw again at shared)

pub returns-in_err-equal-clause-frame : goal.returns-in_err-equal-clause-frame
returns-in_err-equal-clause-frame g c =
    let p = err_from_is_err_and c.from_residual-in_err-equal.result c.from_residual-in_err-equal.ensures.1 in
    rw (p.1, p.2) (looked_then g.I.ImageRead c.args.d.now c.groups_under.new.d c.has_equal_names.new.d _ _ _
    (looks_then g.I.ImageRead c.args.d.now c.turns_its_groups.new.d c.groups_under.new.d _ _ c.turns_its_groups.ensures.frame
    c.groups_under.ensures.frame)
    c.in_err-equal.ensures.frame (λ h. cc))

pub returns-then-equal-clause-frame : goal.returns-then-equal-clause-frame
returns-then-equal-clause-frame g c =
    looked_then g.I.ImageRead c.args.d.now c.groups_under.new.d c.has_equal_names.new.d _ _ _
    (looks_then g.I.ImageRead c.args.d.now c.turns_its_groups.new.d c.groups_under.new.d _ _ c.turns_its_groups.ensures.frame
    c.groups_under.ensures.frame)
    c.in_ok-equal.ensures.frame (λ h. absurd cc)

pub returns-clause-frame : goal.returns-clause-frame
returns-clause-frame g c =
    looked_then g.I.ImageRead c.args.d.now c.groups_under.new.d c.has_equal_names.new.d _ _ _
    (looks_then g.I.ImageRead c.args.d.now c.turns_its_groups.new.d c.groups_under.new.d _ _ c.turns_its_groups.ensures.frame
    c.groups_under.ensures.frame)
    c.in_ok-equal.ensures.frame (λ h. absurd cc)
