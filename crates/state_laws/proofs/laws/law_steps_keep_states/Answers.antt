use Rattle.state_laws.proofs.Keeping.{steps_keep_states}
use Rattle.state_laws.proofs.laws.law_steps_keep_states.Goals as goal

pub returns : goal.returns
returns g c =
    let d = g.S.DraftService.standing in
    steps_keep_states d (λ image s now call stands. ((d.meaning.call s now call).state, (g.met.S.DraftService.is_meant image s now call stands).stands))
