use Rattle.std.proofs.Common.{ℤ, Ok, ap, refl, rules}
use Rattle.std.specs.Prelude.{FitsSigned}
use Rattle.std.specs.Int.{w32}
use Rattle.std.proofs.lemmas.Int.{to_z-of_z}
use Rattle.tool_base.specs.Course.{gives}
use Rattle.tool_base.proofs.Walking.{ran_broken, ran_lacks, ran_then, ran_is}
use Rattle.pts_tool.specs.Courses.{found_line}
use Rattle.pts_tool.specs.Texts.{owned_line}
use Rattle.pt_calls.specs.declared.answers.PtEntry.{PtEntry}
use Rattle.pts_tool.proofs.listing.found_line.Goals as goal

pub returns-in_err-found : goal.returns-in_err-found
unfolding found_line
returns-in_err-found g c =
    let fits0 : FitsSigned w32 c.args.id = search rules in
    ran_broken (λ (found : PtEntry). gives (owned_line found.name found.id)) c.in_err-found.field-0.0 c.from_residual.result
    c.from_residual.ensures.1 refl (rw (to_z-of_z w32 c.args.id fits0) at c.in_err-found.ensures)

pub returns-in_err-line : goal.returns-in_err-line
unfolding found_line
returns-in_err-line g c =
    let fits0 : FitsSigned w32 c.args.id = search rules in
    ran_lacks (λ (found : PtEntry). gives (owned_line found.name found.id)) c.in_ok-found.found c.from_residual-in_err-line.result
    c.from_residual-in_err-line.ensures.1 refl (rw (to_z-of_z w32 c.args.id fits0) at c.in_ok-found.ensures)

pub returns : goal.returns
unfolding found_line
returns g c =
    let fits0 : FitsSigned w32 c.args.id = search rules in
    let fits1 : FitsSigned w32 c.in_ok-found.found.id = search rules in
    ran_then (λ (found : PtEntry). gives (owned_line found.name found.id)) c.in_ok-found.found refl
    (rw (to_z-of_z w32 c.args.id fits0) at c.in_ok-found.ensures)
    (ran_is _ _ (Ok (owned_line c.in_ok-found.found.name c.in_ok-found.found.id)) _ tt
    (ap Ok (rw (c.as_slice.ensures, to_z-of_z w32 c.in_ok-found.found.id fits1) at c.in_ok-line.ensures)))
