use Rattle.std.proofs.Common.{rules}
use Rattle.std.specs.Prelude.{FitsSigned}
use Rattle.std.specs.Int.{w32}
use Rattle.std.proofs.lemmas.Int.{to_z-of_z}
use Rattle.prdb_layout.specs.Registry.{Registry}
use Rattle.pt_calls.specs.declared.answers.PtAnswer.TheVariants as answer
use Rattle.pt_service.proofs.Done.{answered_by}
use Rattle.pt_service.proofs.Told.{maxima_told}
use Rattle.pt_service.proofs.looks.list_max.Goals as goal

pub returns-clause-meant : goal.returns-clause-meant
returns-clause-meant g c =
    let user : FitsSigned w32 c.in_ok-user.user = search rules in
    let least : FitsSigned w32 c.in_ok-user.group = search rules in
    let told = c.in_ok-end.ensures.told in
    answered_by c.args.d.now.bytes c.maxima.new.d.bytes (λ (r : Registry). answer.Maxima r.max_user r.max_group)
    (answer.Maxima c.in_ok-user.user c.in_ok-user.group) c.in_ok-end.end
    (maxima_told c.args.d.now.bytes c.in_ok-user.user c.in_ok-user.group c.in_ok-user.ensures.found) (simp to_z-of_z at told)
    c.maxima.ensures.frame.looks.same.bytes
