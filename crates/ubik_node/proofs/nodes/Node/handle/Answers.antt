use Rattle.ubik_node.proofs.Alike.{alike_shows, none_free, on_made}
use Rattle.std.proofs.Common.{refl}
use Rattle.server_state.specs.State.{server_of}
use Rattle.ubik_node.specs.Choices.{none_chosen}
use Rattle.ubik_node.specs.Node.{held}
use Rattle.ubik_node.proofs.Endings.{shown_ends}
use Rattle.ubik_node.proofs.nodes.Node.handle.Goals as goal

pub returns-in-Packet-clause-ends : goal.returns-in-Packet-clause-ends
returns-in-Packet-clause-ends g c = rw c.in-Packet.is c.receive.ensures.ends

pub returns-in-BeaconTurn-clause-ends : goal.returns-in-BeaconTurn-clause-ends
returns-in-BeaconTurn-clause-ends g c =
    let n = c.args.self.now in
    rw c.in-BeaconTurn.is (
      none_chosen g.V.DraftService.standing,
      shown_ends g.D.Disk (held n) n.state c.beacon_turn.new.self c.args.self.now.stored c.requires.not_halted refl c.beacon_turn.ensures.kept c.beacon_turn.ensures.shows,
    )

pub returns-in-RecoverTurn-clause-ends : goal.returns-in-RecoverTurn-clause-ends
returns-in-RecoverTurn-clause-ends g c = rw c.in-RecoverTurn.is c.recover.ensures.ends

pub returns-in-Ask-clause-ends : goal.returns-in-Ask-clause-ends
returns-in-Ask-clause-ends g c = rw c.in-Ask.is (rw c.as_slice.ensures at c.ask.ensures.ends)

pub returns-in-Packet-clause-alike : goal.returns-in-Packet-clause-alike
returns-in-Packet-clause-alike g c = rw c.in-Packet.is c.receive.ensures.alike

pub returns-in-BeaconTurn-clause-alike : goal.returns-in-BeaconTurn-clause-alike
returns-in-BeaconTurn-clause-alike g c = rw c.in-BeaconTurn.is ((server_of c.args.self.now.state).image, refl, none_free g.V.DraftService.standing.database, alike_shows c.beacon_turn.ensures.shows)

pub returns-in-RecoverTurn-clause-alike : goal.returns-in-RecoverTurn-clause-alike
returns-in-RecoverTurn-clause-alike g c = rw c.in-RecoverTurn.is (on_made c.recover.result c.recover.ensures.alike (λ made. ((server_of c.args.self.now.state).image, refl, none_free g.V.DraftService.standing.database, made)))

pub returns-in-Ask-clause-alike : goal.returns-in-Ask-clause-alike
returns-in-Ask-clause-alike g c = rw c.in-Ask.is (rw c.as_slice.ensures at c.ask.ensures.alike)
