use Rattle.std.proofs.Common.{◌≡◌, map, ap, arith}
use Rattle.pt_service.proofs.Lengths.{names_len, names_spelled}
use Rattle.prdb_layout.specs.Registry.{Registry}
use Rattle.pt_calls.specs.declared.answers.PtAnswer.TheVariants as answer
use Rattle.pt_service.specs.Meaning.{name_of}
use Rattle.pt_service.proofs.Done.{answered_by, told_map}
use Rattle.pt_service.proofs.looks.id_to_name.Goals as goal

pub tell-requires : goal.tell-requires
tell-requires g c =
    let count = c.in_ok-names.ensures.count in
    record {
      spelled = (omega (arith, count, c.requires.count), names_spelled c.in_ok-names.names c.in_ok-names.ensures.lens);
      short = names_len c.in_ok-names.names c.in_ok-names.ensures.lens (omega (arith, count, c.requires.count));
    }

pub returns-clause-meant : goal.returns-clause-meant
returns-clause-meant g c =
    answered_by c.args.d.now.bytes c.names_of.new.d.bytes (λ (r : Registry). answer.Names (map (name_of r) c.args.ids.now))
    (answer.Names c.in_ok-names.names) c.in_ok-end.end
    (told_map c.args.d.now.bytes (λ (r : Registry). c.in_ok-names.names ≡ map (name_of r) c.args.ids.now)
    (λ (r : Registry). answer.Names c.in_ok-names.names ≡ answer.Names (map (name_of r) c.args.ids.now)) (λ r is. ap answer.Names is)
    c.in_ok-names.ensures.found) c.in_ok-end.ensures.told
    c.names_of.ensures.frame.same.bytes
