use Rattle.ubik_node.proofs.Alike.{read_alike}
use Rattle.std.proofs.Common.{◌≡◌, ◌∙◌, ℕ, List, OnOk, Option, Some, None, sym, ap, subst, arith}
use Rattle.std.specs.Option.{option_map}
use Rattle.std.specs.Prelude.{option_copied}
use Rattle.cell_model.specs.Writes.{announced_image, image_before}
use Rattle.site_writes.specs.OwnWrite.{OwnRecord}
use Rattle.ubik_store.specs.Store.{image_in}
use Rattle.ubik_write.specs.Flight.{FlightRecord}
use Rattle.ubik_write.specs.Undo as undo
use Rattle.ubik_node.specs.Alike.{ReadsAlike}
use Rattle.ubik_node.specs.Node.{held, up_server}
use Rattle.ubik_node.specs.Serving.{ReadsFrom}
use Rattle.server_state.specs.Writing.{own_of}
use Rattle.ubik_node.proofs.Evaluated.{answers_of}
use Rattle.ubik_node.proofs.Reading.{made_from, read_ended, replied_as}
use Rattle.ubik_node.proofs.nodes.Node.read.Goals as goal

-- the announced image, by the write in flight
abbrev announced : List ℕ → Option OwnRecord → List ℕ
announced image own = image_before image (option_map (λ (write : OwnRecord). write.flight) own)

pub returns-in_default-clause-ends : goal.returns-in_default-clause-ends
returns-in_default-clause-ends g c =
    let n = c.args.self.now in
    let none : own_of n.state.writes ≡ None = sym c.in_flight.ensures ∙ ap option_copied c.in_default.is in
    subst (λ (image : List ℕ). ReadsFrom g.D.Disk g.V.DraftService.standing (held n) (held c.read_own.new.self) image c.args.now c.args.id c.args.call.now c.args.out.now c.read_own.new.out c.read_own.result) (sym (ap (announced n.state.image) none)) c.read_own.ensures.ends

pub returns-clause-ends : goal.returns-clause-ends
returns-clause-ends g c =
    let n = c.args.self.now in
    let d = g.V.DraftService.standing in
    let files = g.D.Disk.files n.store.disk in
    let own : own_of n.state.writes ≡ Some c.in-Some.write.now = sym c.in_flight.ensures ∙ ap option_copied c.in-Some.is in
    let undone = n.state.written.undone c.in-Some.write.now own in
    let flight = c.flight.result.now in
    let image = announced_image (up_server n) in
    let before : undo.image_before flight.undo flight.old_len n.state.image ≡ image =
    ap (λ (f : FlightRecord). undo.image_before f.undo f.old_len n.state.image) c.flight.ensures.flight ∙ sym undone.bytes ∙ sym (ap (announced n.state.image) own) in
    let read = option_map (undo.image_before flight.undo flight.old_len) (image_in files) in
    let told = answers_of d read c.args.now c.args.call.now c.evaluate_before-made.result c.evaluate_before-made.ensures.made in
    read_ended g.D.Disk d (held n) c.evaluate_before-made.new.store c.args.self.now.stored c.requires.not_halted image c.args.now c.args.id c.args.call.now c.args.out.now c.answer_read.new.out told.one told.may
    c.evaluate_before-made.result c.answer_read.result
    c.evaluate_before-made.ensures.same c.evaluate_before-made.ensures.failed c.evaluate_before-made.ensures.disk
    (λ tells. replied_as d told.one image c.args.now c.args.call.now read c.evaluate_before-made.result
    (λ e made. made_from d told.one files (undo.image_before flight.undo flight.old_len) n.state.image image c.args.now c.args.call.now e tells (c.args.self.now.stored.image c.requires.not_halted) before made) told.says)
    c.answer_read.ensures.fault c.answer_read.ensures.memory c.answer_read.ensures.replied

pub evaluate_before-made-requires-clause-fits : goal.evaluate_before-made-requires-clause-fits
evaluate_before-made-requires-clause-fits g c =
    let own : own_of c.args.self.now.state.writes ≡ Some c.in-Some.write.now = sym c.in_flight.ensures ∙ ap option_copied c.in-Some.is in
    let undone = c.args.self.now.state.written.undone c.in-Some.write.now own in
    omega (arith, undone.fits, ap (λ (f : FlightRecord). f.old_len) c.flight.ensures.flight)

pub returns-in_default-clause-alike : goal.returns-in_default-clause-alike
returns-in_default-clause-alike g c =
    let n = c.args.self.now in
    let none : own_of n.state.writes ≡ None = sym c.in_flight.ensures ∙ ap option_copied c.in_default.is in
    let s = up_server n in
    subst (λ (image : List ℕ). OnOk c.read_own.result (ReadsAlike g.V.DraftService.standing.database s c.args.now c.args.id c.args.call.now image (up_server c.read_own.new.self) c.args.out.now c.read_own.new.out))
    (sym (ap (announced n.state.image) none)) c.read_own.ensures.alike

pub returns-clause-alike : goal.returns-clause-alike
returns-clause-alike g c =
    let s = up_server c.args.self.now in
    read_alike g.V.DraftService.standing.database s c.args.now c.args.id c.args.call.now (announced_image s) c.args.out.now c.answer_read.new.out c.evaluate_before-made.result c.answer_read.result
    c.evaluate_before-made.ensures.grammar c.evaluate_before-made.ensures.short c.answer_read.ensures.replied
