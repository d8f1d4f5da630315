use Rattle.std.proofs.Common.{if◌then◌else◌, ◌≡◌, ◌∙◌, Bool, Ok, Err, ap, refl, sym, subst}
use Rattle.std.specs.Prelude.{MatchResult}
use Rattle.std.proofs.lemmas.Result.{err_from_is_err_and}
use Rattle.cell_script.specs.declared.lines.Why.TheVariants as why
use Rattle.cell_runs.specs.Script.{at_up, is_down_at}
use Rattle.cell_sites.proofs.AtPlace.{down_at, up_at}
use Rattle.cell_sites.proofs.cells.OpenCell.place_up.Goals as goal

pub returns-in_err-k-clause-up : goal.returns-in_err-k-clause-up
returns-in_err-k-clause-up g c = λ c' does same stands.
    let e = err_from_is_err_and c.from_residual.result c.from_residual.ensures.1 in
    subst (λ r. MatchResult r (λ k. at_up c' c.args.server does ≡ Ok (does k)) (λ w. at_up c' c.args.server does ≡ Err w)) (sym e.1)
    (c.in_err-k.ensures.there c' (λ k. if is_down_at c' k then Err why.State else Ok (does k)) same ∙ ap Err (sym e.2))

pub returns-then-is_up-clause-up : goal.returns-then-is_up-clause-up
returns-then-is_up-clause-up g c = λ c' does same stands.
    let up = c.if-is_up.ensures in
    c.in_ok-k.ensures.there c' (λ k. if is_down_at c' k then Err why.State else Ok (does k)) same
    ∙ ap (λ (b : Bool). if b then Err why.State else Ok (does c.in_ok-k.k))
    (up_at c.args.self.now c' c.in_ok-k.k _ up.node stands up.there refl)

pub returns-else-is_up-clause-up : goal.returns-else-is_up-clause-up
returns-else-is_up-clause-up g c = λ c' does same stands.
    let down = c.if-is_up.ensures in
    c.in_ok-k.ensures.there c' (λ k. if is_down_at c' k then Err why.State else Ok (does k)) same
    ∙ ap (λ (b : Bool). if b then Err why.State else Ok (does c.in_ok-k.k))
    (down_at c.args.self.now c' c.in_ok-k.k _ down.disk stands down.there refl)
