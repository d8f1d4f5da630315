use Rattle.server_state.proofs.Plain.{spelled_packet}
use Rattle.server_state.proofs.state.State.packet_to.Goals as goal

pub returns-clause-spelled : goal.returns-clause-spelled
returns-clause-spelled c = spelled_packet _ c.requires.plain
