use Rattle.recovery_laws.proofs.Standing.{images_stand}
use Rattle.recovery_laws.proofs.laws.law_images_stand.Goals as goal

pub returns : goal.returns
returns g c = record {
  service = λ block. record {
    empty = (g.S.DraftService.standing.meaning.first, g.met.S.DraftService.empty_is_first);
    leads = λ image now call meant. (
      (g.S.DraftService.standing.meaning.call meant.0 now call).state,
      (g.met.S.DraftService.is_meant image meant.0 now call meant.1).stands,
    );
    keeps = record { block = block; grows = g.met.S.DraftService.never_shrinks };
  };
  stand = images_stand c.law_one_label.ensures g.S.DraftService.standing;
}
