use Rattle.std.proofs.Common.{sym, ◌∙◌, rules}
use Rattle.std.specs.Prelude.{FitsSigned}
use Rattle.std.specs.Int.{w32}
use Rattle.std.proofs.lemmas.Int.{to_z-of_z}
use Rattle.std.proofs.lemmas.Result.{err_from_is_err_and}
use Rattle.prdb_layout.specs.Registry.{Registry}
use Rattle.pt_calls.specs.declared.answers.PtAnswer.TheVariants as answer
use Rattle.pt_service.specs.Meaning.{Maxima, maximum_set}
use Rattle.pt_service.proofs.Done.{changed}
use Rattle.pt_service.proofs.Frames.{drafted}
use Rattle.pt_service.proofs.Refitted.{are_maxima, max_set, maxima_left}
use Rattle.pt_service.proofs.fields.set_max.Goals as goal

pub set_maxima-requires-clause-maxima : goal.set_maxima-requires-clause-maxima
set_maxima-requires-clause-maxima g c =
    let id = c.ranges.id in
    let first : FitsSigned w32 c.with_maximum-next.result.0 = search rules in
    let second : FitsSigned w32 c.with_maximum-next.result.1 = search rules in
    let user : FitsSigned w32 c.in_ok-max_user.max_user = search rules in
    let least : FitsSigned w32 c.in_ok-max_user.max_group = search rules in
    let test = sym c.is_maximum.ensures ∙ c.if-not-is_maximum.false in
    let same = c.with_maximum-next.ensures in
    simp to_z-of_z (are_maxima c.args.id c.in_ok-max_user.max_user c.in_ok-max_user.max_group c.args.group c.in_ok-max_user.ensures.range id
    (simp to_z-of_z at test) c.with_maximum-next.result (simp to_z-of_z at same))

pub returns-in_err-set_maxima-clause-frame : goal.returns-in_err-set_maxima-clause-frame
returns-in_err-set_maxima-clause-frame g c =
    let p = err_from_is_err_and c.from_residual-in_err-set_maxima.result c.from_residual-in_err-set_maxima.ensures.1 in
    rw (p.1, p.2) (drafted g.I.ImageRead c.args.d.now c.maxima.new.d c.set_maxima.new.d _ _ _ c.in_ok-max_user.ensures.frame.looks
    c.in_err-set_maxima.ensures.frame.drafts (λ h. cc))

pub returns-clause-meant : goal.returns-clause-meant
returns-clause-meant g c =
    let id = c.ranges.id in
    let first : FitsSigned w32 c.with_maximum-next.result.0 = search rules in
    let second : FitsSigned w32 c.with_maximum-next.result.1 = search rules in
    let user : FitsSigned w32 c.in_ok-max_user.max_user = search rules in
    let least : FitsSigned w32 c.in_ok-max_user.max_group = search rules in
    let test = sym c.is_maximum.ensures ∙ c.if-not-is_maximum.false in
    let same = c.with_maximum-next.ensures in
    let set = c.in_ok-set_maxima.ensures.bytes in
    changed c.args.d.now.bytes c.set_maxima.new.d.bytes (λ (r : Registry). maximum_set r c.args.id c.args.group) answer.Done
    (Maxima c.with_maximum-next.result.0 c.with_maximum-next.result.1) c.in_ok-end.end
    (max_set c.args.d.now.bytes c.args.id c.in_ok-max_user.max_user c.in_ok-max_user.max_group c.args.group c.with_maximum-next.result
    (simp to_z-of_z at test)
    c.in_ok-max_user.ensures.found (simp to_z-of_z at same)) c.in_ok-end.ensures.told
    (maxima_left c.args.d.now.bytes c.maxima.new.d.bytes c.set_maxima.new.d.bytes c.with_maximum-next.result.0 c.with_maximum-next.result.1
    c.in_ok-max_user.ensures.frame.looks.same.bytes (simp to_z-of_z at set))
