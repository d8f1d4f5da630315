use Rattle.flight_laws.proofs.Writes.{writes_stand}
use Rattle.flight_laws.proofs.laws.law_writes_stand.Goals as goal

pub returns : goal.returns
returns g c = writes_stand c.law_writes_are_made.ensures g.S.DraftService.standing
