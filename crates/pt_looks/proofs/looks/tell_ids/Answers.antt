use Rattle.std.proofs.Common.{ℤ, List, ap, ◌∙◌, arith}
use Rattle.db_image.specs.Ends.{end_of}
use Rattle.pt_calls.specs.declared.answers.PtAnswer.TheVariants as answer
use Rattle.pt_service.specs.Meaning.{Answers, reply_by}
use Rattle.pt_looks.proofs.Spelled.{ids_short}
use Rattle.pt_looks.proofs.looks.tell_ids.Goals as goal

pub tell-requires : goal.tell-requires
tell-requires c =
    let p = ids_short c.new.result c.args.ids.items c.new.ensures (omega arith) in
    record { spelled = p.0; short = p.1 }

pub returns-clause-told : goal.returns-clause-told
returns-clause-told c =
    c.in_ok-end.ensures.told ∙ ap (λ (xs : List ℤ). end_of (reply_by (Answers (answer.Ids xs)))) c.new.ensures
