use Rattle.std.proofs.Common.{ℤ, refl, rules}
use Rattle.std.specs.Prelude.{FitsSigned}
use Rattle.std.specs.Int.{w32}
use Rattle.std.proofs.lemmas.Int.{to_z-of_z}
use Rattle.tool_base.specs.Course.{◌>>=◌}
use Rattle.tool_base.proofs.Walking.{ran_broken, ran_then}
use Rattle.pts_tool.specs.Courses.{moves, member_call, does}
use Rattle.pts_tool.specs.Names.{the_id}
use Rattle.pts_tool.proofs.making.move_member.Goals as goal

pub returns-in_err-member : goal.returns-in_err-member
unfolding moves
returns-in_err-member g c =
    ran_broken (λ (member : ℤ). the_id c.args.group.now >>= λ (of : ℤ). does (member_call c.args.adds member of))
    c.in_err-member.field-0.0 c.from_residual.result c.from_residual.ensures.1 refl c.in_err-member.ensures

pub returns-in_err-group : goal.returns-in_err-group
unfolding moves
returns-in_err-group g c =
    ran_then (λ (member : ℤ). the_id c.args.group.now >>= λ (of : ℤ). does (member_call c.args.adds member of)) c.in_ok-member.member
    refl c.in_ok-member.ensures
    (ran_broken (λ (of : ℤ). does (member_call c.args.adds c.in_ok-member.member of)) c.in_err-group.field-0.0
    c.from_residual-in_err-group.result c.from_residual-in_err-group.ensures.1 refl c.in_err-group.ensures)

pub returns : goal.returns
unfolding moves
returns g c =
    let fits0 : FitsSigned w32 c.in_ok-member.member = search rules in
    let fits1 : FitsSigned w32 c.in_ok-group.group = search rules in
    ran_then (λ (member : ℤ). the_id c.args.group.now >>= λ (of : ℤ). does (member_call c.args.adds member of)) c.in_ok-member.member
    refl c.in_ok-member.ensures
    (ran_then (λ (of : ℤ). does (member_call c.args.adds c.in_ok-member.member of)) c.in_ok-group.group refl c.in_ok-group.ensures
    ((rw (c.member_call-call.ensures, to_z-of_z w32 c.in_ok-member.member fits0, to_z-of_z w32 c.in_ok-group.group fits1) at
    c.do_call.ensures)))
