use Rattle.ubik_node.proofs.Alike.{alike_made, alike_shows, on_made}
use Rattle.std.proofs.Common.{refl, sym}
use Rattle.std.proofs.lemmas.List.{append-nil}
use Rattle.ubik_node.specs.Choices.{none_chosen}
use Rattle.ubik_node.specs.Node.{held}
use Rattle.ubik_node.proofs.Endings.{rests_ends}
use Rattle.ubik_node.proofs.nodes.Node.perform.Goals as goal

pub returns-in-Rest-clause-ends : goal.returns-in-Rest-clause-ends
returns-in-Rest-clause-ends g c =
    rw c.in-Rest.is (none_chosen g.V.DraftService.standing, rests_ends g.D.Disk (held c.args.self.now) c.args.self.now.stored c.requires.not_halted (record { server = refl; calls = refl; outputs = sym (append-nil c.args.out.now) }))

pub returns-in-Send-clause-ends : goal.returns-in-Send-clause-ends
returns-in-Send-clause-ends g c =
    rw c.in-Send.is (none_chosen g.V.DraftService.standing, rests_ends g.D.Disk (held c.args.self.now) c.args.self.now.stored c.requires.not_halted (record { server = refl; calls = refl; outputs = c.send.ensures.sent }))

pub returns-in-SendPiece-clause-ends : goal.returns-in-SendPiece-clause-ends
returns-in-SendPiece-clause-ends g c = rw c.in-SendPiece.is (none_chosen g.V.DraftService.standing, c.send_piece.ensures.ends)

pub returns-in-TakeVersion-clause-ends : goal.returns-in-TakeVersion-clause-ends
returns-in-TakeVersion-clause-ends g c = rw c.in-TakeVersion.is (none_chosen g.V.DraftService.standing, c.take_version.ensures)

pub returns-in-TakeWrite-clause-ends : goal.returns-in-TakeWrite-clause-ends
returns-in-TakeWrite-clause-ends g c = rw c.in-TakeWrite.is (none_chosen g.V.DraftService.standing, c.take_write.ensures.ends)

pub returns-in-EndText-clause-ends : goal.returns-in-EndText-clause-ends
returns-in-EndText-clause-ends g c = rw c.in-EndText.is (none_chosen g.V.DraftService.standing, c.end_text.ensures.ends)

pub returns-in-Relabel-clause-ends : goal.returns-in-Relabel-clause-ends
returns-in-Relabel-clause-ends g c = rw c.in-Relabel.is (none_chosen g.V.DraftService.standing, c.relabel.ensures.ends)

pub returns-in-Settle-clause-ends : goal.returns-in-Settle-clause-ends
returns-in-Settle-clause-ends g c = rw c.in-Settle.is c.settle_with_turns.ensures.ends

pub returns-in-Rest-clause-alike : goal.returns-in-Rest-clause-alike
returns-in-Rest-clause-alike g c =
    rw c.in-Rest.is (λ dbs short. alike_shows (record { server = refl; calls = refl; outputs = sym (append-nil c.args.out.now) }))

pub returns-in-Send-clause-alike : goal.returns-in-Send-clause-alike
returns-in-Send-clause-alike g c =
    rw c.in-Send.is (λ dbs short. alike_shows (record { server = refl; calls = refl; outputs = c.send.ensures.sent }))

pub returns-in-SendPiece-clause-alike : goal.returns-in-SendPiece-clause-alike
returns-in-SendPiece-clause-alike g c = rw c.in-SendPiece.is (on_made c.send_piece.result c.send_piece.ensures.alike (λ made dbs short. made))

pub returns-in-TakeVersion-clause-alike : goal.returns-in-TakeVersion-clause-alike
returns-in-TakeVersion-clause-alike g c =
    rw c.in-TakeVersion.is (on_made c.take_version.result (c.take_version.ensures.made tt) (λ made dbs short. alike_made g.D.Disk made))

pub returns-in-TakeWrite-clause-alike : goal.returns-in-TakeWrite-clause-alike
returns-in-TakeWrite-clause-alike g c = rw c.in-TakeWrite.is (on_made c.take_write.result c.take_write.ensures.alike (λ made dbs short. made))

pub returns-in-EndText-clause-alike : goal.returns-in-EndText-clause-alike
returns-in-EndText-clause-alike g c = rw c.in-EndText.is (on_made c.end_text.result c.end_text.ensures.alike (λ made dbs short. made))

pub returns-in-Relabel-clause-alike : goal.returns-in-Relabel-clause-alike
returns-in-Relabel-clause-alike g c = rw c.in-Relabel.is (on_made c.relabel.result c.relabel.ensures.alike (λ made dbs short. made))

pub returns-in-Settle-clause-alike : goal.returns-in-Settle-clause-alike
returns-in-Settle-clause-alike g c = rw c.in-Settle.is c.settle_with_turns.ensures.alike
