use Rattle.std.proofs.Common.{arith, rules, sym, subst, ◌≡◌, ℤ, true}
use Rattle.std.specs.Prelude.{FitsSigned}
use Rattle.std.specs.Int.{w32}
use Rattle.std.proofs.lemmas.Int.{to_z-of_z}
use Rattle.pt_service.specs.State.{is_id}
use Rattle.pt_service.proofs.Unused.{behind_is, passed_end, passed_free, passed_more, passed_none}
use Rattle.pt_service.proofs.entering.first_unused.Goals as goal

pub loop-n-init : goal.loop-n-init
loop-n-init g c = passed_none g.I.ImageRead c.args.d.now c.args.group c.args.passed

pub is_unused-requires : goal.is_unused-requires
is_unused-requires g c = omega (arith, c.loop-n.invariant.frame.same.len, c.requires)

pub loop-n-preserved : goal.loop-n-preserved
loop-n-preserved g c =
    let fits : FitsSigned w32 c.id_behind-id.result = search rules in
    let found = c.in_ok-is_unused.ensures.found in
    let used = rw c.if-branch.false at found in
    passed_more g.I.ImageRead c.args.d.now c.loop-n.d c.is_unused.new.d c.args.group c.args.passed c.loop-n.n c.id_behind-id.result _
    c.loop-n-test.true c.loop-n.invariant
    c.in_ok-is_unused.ensures.frame c.id_behind-id.ensures (simp to_z-of_z at used)

pub returns-then-branch-clause-found : goal.returns-then-branch-clause-found
returns-then-branch-clause-found g c =
    let fits : FitsSigned w32 c.id_behind-id.result = search rules in
    let found = c.in_ok-is_unused.ensures.found in
    let free = rw c.if-branch.true at found in
    let told = passed_free g.I.ImageRead c.args.d.now c.loop-n.d c.args.group c.args.passed c.loop-n.n c.id_behind-id.result
    c.loop-n-test.true c.loop-n.invariant
    c.id_behind-id.ensures (simp to_z-of_z at free) in
    rw to_z-of_z told

pub returns-then-branch-clause-id : goal.returns-then-branch-clause-id
returns-then-branch-clause-id g c =
    let fits : FitsSigned w32 c.id_behind-id.result = search rules in
    let is = subst (λ (z : ℤ). is_id c.args.group z ≡ true) (sym c.id_behind-id.ensures)
    (behind_is c.args.group c.loop-n.n c.loop-n-test.true) in
    rw to_z-of_z is

pub returns-clause-found : goal.returns-clause-found
returns-clause-found g c =
    passed_end g.I.ImageRead c.args.d.now c.loop-n.d c.args.group c.args.passed c.loop-n.n c.loop-n-test.false c.loop-n.invariant
