use Rattle.std.proofs.Common.{ℤ, Ok, ap, refl, rules}
use Rattle.std.specs.Prelude.{FitsSigned}
use Rattle.std.specs.Int.{w32}
use Rattle.std.proofs.lemmas.Int.{to_z-of_z}
use Rattle.tool_base.specs.Course.{◌>>=◌, gives}
use Rattle.tool_base.proofs.Walking.{ran_broken, ran_lacks, ran_then, ran_is}
use Rattle.pts_tool.specs.Courses.{creates, new_id}
use Rattle.pts_tool.specs.Texts.{made_text}
use Rattle.pts_tool.proofs.making.create.Goals as goal

pub returns-in_err-owner : goal.returns-in_err-owner
unfolding creates
returns-in_err-owner g c =
    ran_broken (λ (by : ℤ). new_id c.args.name.now c.args.is_group by c.args.id >>= λ (found : ℤ). gives
    (made_text c.args.is_group c.args.name.now found)) c.in_err-owner.field-0.0 c.from_residual.result c.from_residual.ensures.1 refl
    c.in_err-owner.ensures

pub returns-in_err-id : goal.returns-in_err-id
unfolding creates
returns-in_err-id g c =
    let fits0 : FitsSigned w32 c.in_ok-owner.owner = search rules in
    ran_then (λ (by : ℤ). new_id c.args.name.now c.args.is_group by c.args.id >>= λ (found : ℤ). gives
    (made_text c.args.is_group c.args.name.now found)) c.in_ok-owner.owner refl c.in_ok-owner.ensures
    (ran_broken (λ (found : ℤ). gives (made_text c.args.is_group c.args.name.now found)) c.in_err-id.field-0.0
    c.from_residual-in_err-id.result c.from_residual-in_err-id.ensures.1 refl
    (rw (to_z-of_z w32 c.in_ok-owner.owner fits0) at c.in_err-id.ensures))

pub returns-in_err-text : goal.returns-in_err-text
unfolding creates
returns-in_err-text g c =
    let fits0 : FitsSigned w32 c.in_ok-owner.owner = search rules in
    ran_then (λ (by : ℤ). new_id c.args.name.now c.args.is_group by c.args.id >>= λ (found : ℤ). gives
    (made_text c.args.is_group c.args.name.now found)) c.in_ok-owner.owner refl c.in_ok-owner.ensures
    (ran_lacks (λ (found : ℤ). gives (made_text c.args.is_group c.args.name.now found)) c.in_ok-id.id c.from_residual-in_err-text.result
    c.from_residual-in_err-text.ensures.1 refl (rw (to_z-of_z w32 c.in_ok-owner.owner fits0) at c.in_ok-id.ensures))

pub returns : goal.returns
unfolding creates
returns g c =
    let fits0 : FitsSigned w32 c.in_ok-owner.owner = search rules in
    let fits1 : FitsSigned w32 c.in_ok-id.id = search rules in
    ran_then (λ (by : ℤ). new_id c.args.name.now c.args.is_group by c.args.id >>= λ (found : ℤ). gives
    (made_text c.args.is_group c.args.name.now found)) c.in_ok-owner.owner refl c.in_ok-owner.ensures
    (ran_then (λ (found : ℤ). gives (made_text c.args.is_group c.args.name.now found)) c.in_ok-id.id refl
    (rw (to_z-of_z w32 c.in_ok-owner.owner fits0) at c.in_ok-id.ensures)
    (ran_is _ _ (Ok (made_text c.args.is_group c.args.name.now c.in_ok-id.id)) _ tt
    (ap Ok (rw (c.as_slice.ensures, to_z-of_z w32 c.in_ok-id.id fits1) at c.in_ok-text.ensures))))
