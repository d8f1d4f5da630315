use Rattle.ubik_node.proofs.HeldImages.{held_length}
use Rattle.std.proofs.Common.{◌∙◌, ℕ, List, refl, sym, ap, arith, ◌≡◌, length}
use Rattle.ubik_node.proofs.Rested.{phase_is}
use Rattle.server_state.specs.declared.state.State.{State}
use Rattle.ubik_types.specs.Phase.{phase_of}
use Rattle.cell_model.specs.Durable as durable
use Rattle.cell_model.specs.Durable.{Received}
use Rattle.cell_model.specs.Step.{with_database}
use Rattle.ubik_recovery.specs.Record.{RecoveryRecord}
use Rattle.ubik_store.specs.Rewrite.Rewrite.{Replaced}
use Rattle.ubik_store.specs.Store.{IsTooLong}
use Rattle.cell_model.specs.Node.{Server}
use Rattle.ubik_node.specs.Node.{held}
use Rattle.server_state.specs.Receiving.{received_in}
use Rattle.server_state.specs.State.{member_of, server_of, announced}
use Rattle.ubik_node.proofs.Calling.{call_failed, call_made, held_as}
use Rattle.ubik_node.proofs.Ended.{taken_from}
use Rattle.ubik_node.proofs.Endings.{handed_ends, ok_not, reads_none}
use Rattle.ubik_node.proofs.Received.{held_text}
use Rattle.ubik_node.proofs.nodes.Node.install.Goals as goal

-- what a server serves by is told by its phase
same_phase : (x y : State) → (server_of x).phase ≡ (server_of y).phase → x.recovery.phase ≡ y.recovery.phase
same_phase x y same = sym (phase_is (announced x) x.recovery) ∙ ap phase_of same ∙ phase_is (announced y) y.recovery

pub returns-in_err-install_received-clause-ends : goal.returns-in_err-install_received-clause-ends
returns-in_err-install_received-clause-ends g c =
    let n = c.args.self.now in
    let v = c.args.version in
    let text = received_in n.state in
    let mid = c.install_received.new.state in
    let failed = c.in_err-install_received.ensures in
    handed_ends g.D.Disk c.from_residual.result c.in_err-install_received.field-0.0 c.from_residual.ensures.1
    (held_as g.D.Disk (server_of mid) (member_of mid) failed.back c.install_received.ensures.kept.member
    (call_failed g.D.Disk (held n) n.stored c.requires.not_halted n.store (reads_none g.D.Disk n.store.disk) (λ none. none) n.stored c.requires.not_halted c.install_received.new.store
    (Replaced text) v text (record { call = durable.Install v text; reason = Received }) refl refl (λ _. tt) (λ _. refl) refl (IsTooLong text) c.in_err-install_received.field-0.0 failed.ended
    (rw (n.stored.version c.requires.not_halted) c.requires.newer) (λ bytes long. absurd (omega (arith, long.0, c.requires.fits))) (failed.durable c.requires.not_halted)))

pub returns-clause-ends : goal.returns-clause-ends
returns-clause-ends g c =
    let n = c.args.self.now in
    let st = n.state in
    let v = c.args.version in
    let text = received_in st in
    let later = c.install_received.new.store in
    let done = c.in_ok-install_received.ensures in
    let last = c.take_over.new.self in
    call_made g.D.Disk (held n) n.stored c.requires.not_halted n.store (reads_none g.D.Disk n.store.disk) (λ none. none) n.stored c.requires.not_halted later
    (Replaced text) v text (record { call = durable.Install v text; reason = Received }) refl refl (λ _. tt) (λ _. refl) refl (server_of last) (member_of last)
    (c.take_over.ensures.place ∙ c.install_received.ensures.kept.member) done.ended
    (c.install_received.ensures.durable c.requires.not_halted) (λ failed. ok_not c.in_ok-install_received.field-0 (sym c.in_ok-install_received.was ∙ failed))
    (λ told. (
      sym (c.take_over.ensures.after ∙ taken_from st c.install_received.new.state v c.of.result done.after
          ∙ ap (λ (bytes : List ℕ). with_database (server_of st) v bytes) (held_text (g.D.Disk.files n.store.disk) (g.D.Disk.files later.disk) later.len text c.of.result told done.image c.of.ensures)),
      refl,
    ))

pub install_received-requires-clause-version : goal.install_received-requires-clause-version
install_received-requires-clause-version g c = c.requires.version

pub take_over-requires-clause-resting : goal.take_over-requires-clause-resting
take_over-requires-clause-resting g c = λ serves. c.requires.resting (sym (ap (λ (r : RecoveryRecord). r.phase) c.in_ok-install_received.ensures.recovery) ∙ serves)

pub returns-clause-resting : goal.returns-clause-resting
returns-clause-resting g c = λ serves.
    c.requires.resting (sym (ap (λ (r : RecoveryRecord). r.phase) c.in_ok-install_received.ensures.recovery)
    ∙ sym (same_phase c.take_over.new.self c.install_received.new.state (ap (λ (s : Server). s.phase) c.take_over.ensures.after)) ∙ serves)

pub returns-clause-bytes : goal.returns-clause-bytes
returns-clause-bytes g c =
    let st = c.args.self.now.state in
    let done = c.in_ok-install_received.ensures in (
      c.of.result,
      ap length c.of.ensures ∙ held_length g.D.Disk c.install_received.new.store (c.install_received.ensures.sound.ready done.ended.failed) ∙ done.ended.len,
      c.take_over.ensures.after ∙ taken_from st c.install_received.new.state c.args.version c.of.result done.after,
    )
