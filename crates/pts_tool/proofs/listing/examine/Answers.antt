use Rattle.std.proofs.Common.{ℤ, ℕ, List, [], ◌∷◌, Ok, ap, refl, rules}
use Rattle.std.specs.Prelude.{FitsSigned}
use Rattle.std.specs.Int.{w32}
use Rattle.std.proofs.lemmas.Int.{to_z-of_z}
use Rattle.pt_calls.specs.declared.calls.PtCall.TheVariants as call
use Rattle.tool_base.specs.Course.{◌>>=◌, gives}
use Rattle.tool_base.proofs.Walking.{ran_broken, ran_lacks, ran_then, ran_is}
use Rattle.pts_tool.specs.Courses.{examines}
use Rattle.pts_tool.specs.Answers.{entry_in}
use Rattle.pts_tool.specs.Asking.{asks}
use Rattle.pts_tool.specs.Names.{the_names}
use Rattle.pts_tool.specs.Texts.{entry_text}
use Rattle.pt_calls.specs.declared.answers.PtEntry.{PtEntry}
use Rattle.pts_tool.proofs.listing.examine.Goals as goal

pub returns-in_err-id : goal.returns-in_err-id
unfolding examines
returns-in_err-id g c =
    ran_broken (λ (id : ℤ). asks entry_in (call.ListEntry id) >>= λ (found : PtEntry). the_names
    (found.owner ∷ found.creator ∷ []) >>= λ (names : List (List ℕ)). gives (entry_text found names)) c.in_err-id.field-0.0
    c.from_residual.result c.from_residual.ensures.1 refl c.in_err-id.ensures

pub returns-in_err-found : goal.returns-in_err-found
unfolding examines
returns-in_err-found g c =
    let fits0 : FitsSigned w32 c.in_ok-id.id = search rules in
    ran_then (λ (id : ℤ). asks entry_in (call.ListEntry id) >>= λ (found : PtEntry). the_names
    (found.owner ∷ found.creator ∷ []) >>= λ (names : List (List ℕ)). gives (entry_text found names)) c.in_ok-id.id refl c.in_ok-id.ensures
    (ran_broken (λ (found : PtEntry). the_names (found.owner ∷ found.creator ∷ []) >>= λ (names : List (List ℕ)). gives
    (entry_text found names)) c.in_err-found.field-0.0 c.from_residual-in_err-found.result c.from_residual-in_err-found.ensures.1 refl
    (rw (to_z-of_z w32 c.in_ok-id.id fits0) at c.in_err-found.ensures))

pub returns-in_err-names : goal.returns-in_err-names
unfolding examines
returns-in_err-names g c =
    let fits0 : FitsSigned w32 c.in_ok-id.id = search rules in
    let fits1 : FitsSigned w32 c.in_ok-found.found.owner = search rules in
    let fits2 : FitsSigned w32 c.in_ok-found.found.creator = search rules in
    ran_then (λ (id : ℤ). asks entry_in (call.ListEntry id) >>= λ (found : PtEntry). the_names
    (found.owner ∷ found.creator ∷ []) >>= λ (names : List (List ℕ)). gives (entry_text found names)) c.in_ok-id.id refl c.in_ok-id.ensures
    (ran_then (λ (found : PtEntry). the_names (found.owner ∷ found.creator ∷ []) >>= λ (names : List (List ℕ)). gives
    (entry_text found names)) c.in_ok-found.found refl (rw (to_z-of_z w32 c.in_ok-id.id fits0) at c.in_ok-found.ensures)
    (ran_broken (λ (names : List (List ℕ)). gives (entry_text c.in_ok-found.found names)) c.in_err-names.field-0.0
    c.from_residual-in_err-names.result c.from_residual-in_err-names.ensures.1 refl
    (rw (to_z-of_z w32 c.in_ok-found.found.owner fits1, to_z-of_z w32 c.in_ok-found.found.creator fits2) at c.in_err-names.ensures)))

pub returns-in_err-text : goal.returns-in_err-text
unfolding examines
returns-in_err-text g c =
    let fits0 : FitsSigned w32 c.in_ok-id.id = search rules in
    let fits1 : FitsSigned w32 c.in_ok-found.found.owner = search rules in
    let fits2 : FitsSigned w32 c.in_ok-found.found.creator = search rules in
    ran_then (λ (id : ℤ). asks entry_in (call.ListEntry id) >>= λ (found : PtEntry). the_names
    (found.owner ∷ found.creator ∷ []) >>= λ (names : List (List ℕ)). gives (entry_text found names)) c.in_ok-id.id refl c.in_ok-id.ensures
    (ran_then (λ (found : PtEntry). the_names (found.owner ∷ found.creator ∷ []) >>= λ (names : List (List ℕ)). gives
    (entry_text found names)) c.in_ok-found.found refl (rw (to_z-of_z w32 c.in_ok-id.id fits0) at c.in_ok-found.ensures)
    (ran_lacks (λ (names : List (List ℕ)). gives (entry_text c.in_ok-found.found names)) c.in_ok-names.names
    c.from_residual-in_err-text.result c.from_residual-in_err-text.ensures.1 refl
    (rw (to_z-of_z w32 c.in_ok-found.found.owner fits1, to_z-of_z w32 c.in_ok-found.found.creator fits2) at c.in_ok-names.ensures)))

pub returns : goal.returns
unfolding examines
returns g c =
    let fits0 : FitsSigned w32 c.in_ok-id.id = search rules in
    let fits1 : FitsSigned w32 c.in_ok-found.found.owner = search rules in
    let fits2 : FitsSigned w32 c.in_ok-found.found.creator = search rules in
    ran_then (λ (id : ℤ). asks entry_in (call.ListEntry id) >>= λ (found : PtEntry). the_names
    (found.owner ∷ found.creator ∷ []) >>= λ (names : List (List ℕ)). gives (entry_text found names)) c.in_ok-id.id refl c.in_ok-id.ensures
    (ran_then (λ (found : PtEntry). the_names (found.owner ∷ found.creator ∷ []) >>= λ (names : List (List ℕ)). gives
    (entry_text found names)) c.in_ok-found.found refl (rw (to_z-of_z w32 c.in_ok-id.id fits0) at c.in_ok-found.ensures)
    (ran_then (λ (names : List (List ℕ)). gives (entry_text c.in_ok-found.found names)) c.in_ok-names.names refl
    (rw (to_z-of_z w32 c.in_ok-found.found.owner fits1, to_z-of_z w32 c.in_ok-found.found.creator fits2) at c.in_ok-names.ensures)
    (ran_is _ _ (Ok (entry_text c.in_ok-found.found c.in_ok-names.names)) _ tt (ap Ok c.in_ok-text.ensures))))
