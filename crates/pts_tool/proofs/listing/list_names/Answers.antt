use Rattle.std.proofs.Common.{ℤ, ℕ, List, ◌++◌, Ok, ap, refl}
use Rattle.tool_base.specs.Course.{◌>>=◌, gives}
use Rattle.tool_base.proofs.Walking.{ran_broken, ran_lacks, ran_then, ran_is}
use Rattle.pts_tool.specs.Courses.{lists_names}
use Rattle.pts_tool.specs.Names.{the_names}
use Rattle.pts_tool.specs.Texts.{names_text}
use Rattle.pts_tool.proofs.listing.list_names.Goals as goal

pub returns-in_err-ids : goal.returns-in_err-ids
unfolding lists_names
returns-in_err-ids g c =
    ran_broken (λ (ids : List ℤ). the_names ids >>= λ (names : List (List ℕ)). gives (c.args.head ++ names_text names))
    c.in_err-ids.field-0.0 c.from_residual.result c.from_residual.ensures.1 refl c.in_err-ids.ensures

pub returns-in_err-names : goal.returns-in_err-names
unfolding lists_names
returns-in_err-names g c =
    ran_then (λ (ids : List ℤ). the_names ids >>= λ (names : List (List ℕ)). gives (c.args.head ++ names_text names)) c.in_ok-ids.ids
    refl c.in_ok-ids.ensures
    (ran_broken (λ (names : List (List ℕ)). gives (c.args.head ++ names_text names)) c.in_err-names.field-0.0
    c.from_residual-in_err-names.result c.from_residual-in_err-names.ensures.1 refl (rw (c.as_slice.ensures) at c.in_err-names.ensures))

pub returns-in_err-text : goal.returns-in_err-text
unfolding lists_names
returns-in_err-text g c =
    ran_then (λ (ids : List ℤ). the_names ids >>= λ (names : List (List ℕ)). gives (c.args.head ++ names_text names)) c.in_ok-ids.ids
    refl c.in_ok-ids.ensures
    (ran_lacks (λ (names : List (List ℕ)). gives (c.args.head ++ names_text names)) c.in_ok-names.names
    c.from_residual-in_err-text.result c.from_residual-in_err-text.ensures.1 refl (rw (c.as_slice.ensures) at c.in_ok-names.ensures))

pub returns : goal.returns
unfolding lists_names
returns g c =
    ran_then (λ (ids : List ℤ). the_names ids >>= λ (names : List (List ℕ)). gives (c.args.head ++ names_text names)) c.in_ok-ids.ids
    refl c.in_ok-ids.ensures
    (ran_then (λ (names : List (List ℕ)). gives (c.args.head ++ names_text names)) c.in_ok-names.names refl
    (rw (c.as_slice.ensures) at c.in_ok-names.ensures)
    (ran_is _ _ (Ok (c.args.head ++ names_text c.in_ok-names.names)) _ tt (ap Ok c.in_ok-text.ensures)))
