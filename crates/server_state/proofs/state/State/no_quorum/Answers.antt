use Rattle.server_state.proofs.Plain.{spelled_as}
use Rattle.std.proofs.Common.{refl}
use Rattle.server_state.proofs.state.State.no_quorum.Goals as goal

pub returns-clause-spelled : goal.returns-clause-spelled
returns-clause-spelled c = spelled_as _ _ refl tt
