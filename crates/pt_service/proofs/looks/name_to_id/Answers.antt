use Rattle.std.proofs.Common.{◌≡◌, map, ap, arith}
use Rattle.pt_calls.proofs.Steps.{ids_len}
use Rattle.prdb_layout.specs.Registry.{Registry}
use Rattle.pt_calls.specs.Meaning.{id_or_anonymous}
use Rattle.pt_calls.specs.declared.answers.PtAnswer.TheVariants as answer
use Rattle.pt_service.proofs.Done.{answered_by, told_map}
use Rattle.pt_service.proofs.looks.name_to_id.Goals as goal

pub tell-requires : goal.tell-requires
tell-requires g c =
    record {
      spelled = omega (arith, c.in_ok-ids.ensures.count, c.requires.count);
      short = omega
          (arith, ids_len c.in_ok-ids.ids, c.in_ok-ids.ensures.count, c.requires.count);
    }

pub returns-clause-meant : goal.returns-clause-meant
returns-clause-meant g c =
    answered_by c.args.d.now.bytes c.ids_of.new.d.bytes (λ (r : Registry). answer.Ids (map (id_or_anonymous r) c.args.names.now))
    (answer.Ids c.in_ok-ids.ids) c.in_ok-end.end
    (told_map c.args.d.now.bytes (λ (r : Registry). c.in_ok-ids.ids ≡ map (id_or_anonymous r) c.args.names.now)
    (λ (r : Registry). answer.Ids c.in_ok-ids.ids ≡ answer.Ids (map (id_or_anonymous r) c.args.names.now)) (λ r is. ap answer.Ids is)
    c.in_ok-ids.ensures.found) c.in_ok-end.ensures.told
    c.ids_of.ensures.frame.same.bytes
