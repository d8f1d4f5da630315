use Rattle.std.proofs.Common.{◌∙◌, ◌++◌, [], refl, sym, ap}
use Rattle.ubik_calls.specs.declared.packets.Body.TheVariants as body
use Rattle.cell_model.specs.Durable as durable
use Rattle.cell_model.specs.Durable.{Received}
use Rattle.cell_model.specs.Step.{Member, outputs_of, sends_to}
use Rattle.ubik_store.specs.DurableCall.{IsNeverLong}
use Rattle.ubik_store.specs.Rewrite.Rewrite.{Changed}
use Rattle.ubik_node.specs.Node.{held}
use Rattle.server_state.specs.State.{member_of, server_of}
use Rattle.ubik_node.proofs.Calling.{call_failed, call_made}
use Rattle.ubik_node.proofs.Endings.{handed_ends, ok_not, reads_none}
use Rattle.ubik_node.proofs.nodes.Node.take_version.Goals as goal

pub returns-in_err-relabel : goal.returns-in_err-relabel
returns-in_err-relabel g c =
    let n = c.args.self.now in
    let st = n.state in
    handed_ends g.D.Disk c.from_residual.result c.in_err-relabel.field-0.0 c.from_residual.ensures.1
    (call_failed g.D.Disk (held n) c.args.self.now.stored c.requires.not_halted n.store (reads_none g.D.Disk n.store.disk) (λ none. none) c.args.self.now.stored c.requires.not_halted c.relabel.new.self
    (Changed []) c.args.new st.image (record { call = durable.Relabel c.args.new; reason = Received }) refl refl (λ _. tt) (λ _. refl) refl IsNeverLong c.in_err-relabel.field-0.0 c.in_err-relabel.ensures.ended
    (rw (c.args.self.now.stored.version c.requires.not_halted) c.requires.may.newer) (λ bytes long. absurd long) (c.in_err-relabel.ensures.durable c.requires.not_halted))

pub returns : goal.returns
returns g c =
    let n = c.args.self.now in
    let st = n.state in
    let later = c.relabel.new.self in
    let last = c.relabel-2.new.self in
    let done = c.in_ok-relabel.ensures.ended in
    call_made g.D.Disk (held n) c.args.self.now.stored c.requires.not_halted n.store (reads_none g.D.Disk n.store.disk) (λ none. none) c.args.self.now.stored c.requires.not_halted later
    (Changed []) c.args.new st.image (record { call = durable.Relabel c.args.new; reason = Received }) refl refl (λ _. tt) (λ _. refl) refl (server_of last) (member_of last) c.relabel-2.ensures.place done (c.relabel.ensures.durable c.requires.not_halted)
    (λ failed. ok_not c.in_ok-relabel.field-0 (sym c.in_ok-relabel.was ∙ failed))
    (λ told. (
      sym c.relabel-2.ensures.after,
      c.send.ensures.sent ∙ ap (λ (m : Member). c.args.out.now ++ outputs_of (sends_to m c.args.to (body.VersionKept c.args.new))) c.relabel-2.ensures.place,
    ))
