use Rattle.std.proofs.Common.{ℤ, ℕ, List, refl, rules}
use Rattle.std.specs.Prelude.{FitsSigned}
use Rattle.std.specs.Int.{w32}
use Rattle.std.proofs.lemmas.Int.{to_z-of_z}
use Rattle.pt_calls.specs.declared.calls.PtCall.TheVariants as call
use Rattle.tool_base.specs.Course.{◌>>=◌}
use Rattle.tool_base.proofs.Walking.{ran_broken, ran_then}
use Rattle.pts_tool.specs.Courses.{lists_owned, lists_names, owner_line}
use Rattle.pts_tool.proofs.listing.list_owned.Goals as goal

pub returns-in_err-id : goal.returns-in_err-id
unfolding lists_owned
returns-in_err-id g c =
    ran_broken (λ (id : ℤ). owner_line id >>= λ (head : List ℕ). lists_names head (call.ListOwned id)) c.in_err-id.field-0.0
    c.from_residual.result c.from_residual.ensures.1 refl c.in_err-id.ensures

pub returns-in_err-head : goal.returns-in_err-head
unfolding lists_owned
returns-in_err-head g c =
    let fits0 : FitsSigned w32 c.in_ok-id.id = search rules in
    ran_then (λ (id : ℤ). owner_line id >>= λ (head : List ℕ). lists_names head (call.ListOwned id)) c.in_ok-id.id refl c.in_ok-id.ensures
    (ran_broken (λ (head : List ℕ). lists_names head (call.ListOwned c.in_ok-id.id)) c.in_err-head.field-0.0
    c.from_residual-in_err-head.result c.from_residual-in_err-head.ensures.1 refl
    (rw (to_z-of_z w32 c.in_ok-id.id fits0) at c.in_err-head.ensures))

pub returns : goal.returns
unfolding lists_owned
returns g c =
    let fits0 : FitsSigned w32 c.in_ok-id.id = search rules in
    ran_then (λ (id : ℤ). owner_line id >>= λ (head : List ℕ). lists_names head (call.ListOwned id)) c.in_ok-id.id refl c.in_ok-id.ensures
    (ran_then (λ (head : List ℕ). lists_names head (call.ListOwned c.in_ok-id.id)) c.in_ok-head.head refl
    (rw (to_z-of_z w32 c.in_ok-id.id fits0) at c.in_ok-head.ensures)
    ((rw (to_z-of_z w32 c.in_ok-id.id fits0) at c.list_names.ensures)))
