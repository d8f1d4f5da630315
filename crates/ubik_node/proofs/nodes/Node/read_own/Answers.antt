use Rattle.server_state.specs.State.{server_of}
use Rattle.ubik_node.proofs.Alike.{read_alike}
use Rattle.ubik_store.specs.Store.{image_in}
use Rattle.ubik_node.specs.Node.{held}
use Rattle.ubik_node.proofs.Evaluated.{answers_of}
use Rattle.ubik_node.proofs.Made.{made_here}
use Rattle.ubik_node.proofs.Reading.{read_ended, replied_as}
use Rattle.ubik_node.proofs.nodes.Node.read_own.Goals as goal

pub returns-clause-ends : goal.returns-clause-ends
returns-clause-ends g c =
    let n = c.args.self.now in
    let d = g.V.DraftService.standing in
    let files = g.D.Disk.files n.store.disk in
    let told = answers_of d (image_in files) c.args.now c.args.call.now c.evaluate-made.result c.evaluate-made.ensures.made in
    read_ended g.D.Disk d (held n) c.evaluate-made.new.store c.args.self.now.stored c.requires.not_halted n.state.image c.args.now c.args.id c.args.call.now c.args.out.now c.answer_read.new.out told.one told.may
    c.evaluate-made.result c.answer_read.result
    c.evaluate-made.ensures.same c.evaluate-made.ensures.failed c.evaluate-made.ensures.disk
    (λ tells. replied_as d told.one n.state.image c.args.now c.args.call.now (image_in files) c.evaluate-made.result
    (λ e made. made_here d told.one files n.state.image c.args.now c.args.call.now e tells (c.args.self.now.stored.image c.requires.not_halted) made) told.says)
    c.answer_read.ensures.fault c.answer_read.ensures.memory c.answer_read.ensures.replied

pub returns-clause-alike : goal.returns-clause-alike
returns-clause-alike g c =
    let st = c.args.self.now.state in
    read_alike g.V.DraftService.standing.database (server_of st) c.args.now c.args.id c.args.call.now st.image c.args.out.now c.answer_read.new.out c.evaluate-made.result c.answer_read.result
    c.evaluate-made.ensures.grammar c.evaluate-made.ensures.short c.answer_read.ensures.replied
