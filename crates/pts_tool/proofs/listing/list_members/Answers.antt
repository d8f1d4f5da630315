use Rattle.std.proofs.Common.{ℤ, refl, rules}
use Rattle.std.specs.Prelude.{FitsSigned}
use Rattle.std.specs.Int.{w32}
use Rattle.std.proofs.lemmas.Int.{to_z-of_z}
use Rattle.pt_calls.specs.declared.calls.PtCall.TheVariants as call
use Rattle.tool_base.specs.Course.{◌>>=◌}
use Rattle.tool_base.proofs.Walking.{ran_broken, ran_lacks, ran_then}
use Rattle.pts_tool.specs.Courses.{lists_members, lists_names}
use Rattle.pts_tool.specs.Answers.{entry_in}
use Rattle.pts_tool.specs.Asking.{asks}
use Rattle.pts_tool.specs.Texts.{members_line}
use Rattle.pt_calls.specs.declared.answers.PtEntry.{PtEntry}
use Rattle.pts_tool.proofs.listing.list_members.Goals as goal

pub returns-in_err-id : goal.returns-in_err-id
unfolding lists_members
returns-in_err-id g c =
    ran_broken (λ (id : ℤ). asks entry_in (call.ListEntry id) >>= λ (found : PtEntry). lists_names (members_line found.name found.id)
    (call.ListElements id)) c.in_err-id.field-0.0 c.from_residual.result c.from_residual.ensures.1 refl c.in_err-id.ensures

pub returns-in_err-found : goal.returns-in_err-found
unfolding lists_members
returns-in_err-found g c =
    let fits0 : FitsSigned w32 c.in_ok-id.id = search rules in
    ran_then (λ (id : ℤ). asks entry_in (call.ListEntry id) >>= λ (found : PtEntry). lists_names (members_line found.name found.id)
    (call.ListElements id)) c.in_ok-id.id refl c.in_ok-id.ensures
    (ran_broken (λ (found : PtEntry). lists_names (members_line found.name found.id) (call.ListElements c.in_ok-id.id))
    c.in_err-found.field-0.0 c.from_residual-in_err-found.result c.from_residual-in_err-found.ensures.1 refl
    (rw (to_z-of_z w32 c.in_ok-id.id fits0) at c.in_err-found.ensures))

pub returns-in_err-head : goal.returns-in_err-head
unfolding lists_members
returns-in_err-head g c =
    let fits0 : FitsSigned w32 c.in_ok-id.id = search rules in
    ran_then (λ (id : ℤ). asks entry_in (call.ListEntry id) >>= λ (found : PtEntry). lists_names (members_line found.name found.id)
    (call.ListElements id)) c.in_ok-id.id refl c.in_ok-id.ensures
    (ran_lacks (λ (found : PtEntry). lists_names (members_line found.name found.id) (call.ListElements c.in_ok-id.id))
    c.in_ok-found.found c.from_residual-in_err-head.result c.from_residual-in_err-head.ensures.1 refl
    (rw (to_z-of_z w32 c.in_ok-id.id fits0) at c.in_ok-found.ensures))

pub returns : goal.returns
unfolding lists_members
returns g c =
    let fits0 : FitsSigned w32 c.in_ok-id.id = search rules in
    let fits1 : FitsSigned w32 c.in_ok-found.found.id = search rules in
    ran_then (λ (id : ℤ). asks entry_in (call.ListEntry id) >>= λ (found : PtEntry). lists_names (members_line found.name found.id)
    (call.ListElements id)) c.in_ok-id.id refl c.in_ok-id.ensures
    (ran_then (λ (found : PtEntry). lists_names (members_line found.name found.id) (call.ListElements c.in_ok-id.id)) c.in_ok-found.found
    refl (rw (to_z-of_z w32 c.in_ok-id.id fits0) at c.in_ok-found.ensures)
    ((rw (c.in_ok-head.ensures, c.as_slice.ensures, to_z-of_z w32 c.in_ok-found.found.id fits1, to_z-of_z w32 c.in_ok-id.id fits0) at
    c.list_names.ensures)))
