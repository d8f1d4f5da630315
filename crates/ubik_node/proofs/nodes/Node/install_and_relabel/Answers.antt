use Rattle.ubik_node.proofs.HeldImages.{held_length}
use Rattle.ubik_node.specs.Alike.{blank, blank_outputs}
use Rattle.ubik_node.proofs.Alike.{settled_alike}
use Rattle.std.proofs.Common.{◌≡◌, ◌≢◌, ◌∙◌, ◌∷◌, ℕ, List, None, length, Err, refl, sym, ap, subst, arith, length-take, ◌++◌}
use Rattle.std.specs.Result.{is_err}
use Rattle.std.proofs.lemmas.Bool.{false≢true}
use Rattle.ubik_types.specs.declared.versions.Version.{Version}
use Rattle.ubik_types.specs.Phase.{Send}
use Rattle.ubik_types.specs.Version.{version_lt}
use Rattle.ubik_recovery.specs.Record.{RecoveryRecord, polled_of}
use Rattle.ubik_store.specs.declared.faults.StoreFault.TheVariants.{NoMemory}
use Rattle.ubik_store.specs.Rewrite.Rewrite.{Replaced}
use Rattle.ubik_store.specs.Store.{IsTooLong}
use Rattle.cell_model.specs.Durable as durable
use Rattle.cell_model.specs.Durable.{Made, Received}
use Rattle.cell_model.specs.Node.{Server, halted_from}
use Rattle.cell_model.specs.Pieces.{piece_from}
use Rattle.cell_model.specs.Polls.{only_holder}
use Rattle.cell_model.specs.Recovery.{own_relabelling, relabelled_to}
use Rattle.cell_model.specs.Step.{Member, with_database, with_phase, Shown, outputs_of}
use Rattle.cell_model.specs.Writes.{settled}
use Rattle.ubik_node.specs.Node.{held}
use Rattle.server_state.specs.Receiving.{received_in}
use Rattle.server_state.specs.State.{ShowsBehind, member_of, server_of}
use Rattle.ubik_node.proofs.Endings.{handed_ends, short_ends}
use Rattle.ubik_node.proofs.Calling.{held_as}
use Rattle.ubik_node.proofs.Ended.{disk_alone, taken_from}
use Rattle.ubik_node.proofs.Fetching.{first_of, held_twice}
use Rattle.state_laws.proofs.Waiting.{settled_calls}
use Rattle.ubik_node.proofs.Fronts.{failed_from, text_kept}
use Rattle.ubik_node.proofs.Relabelled.{relabel_outputs}
use Rattle.ubik_node.proofs.TwoCalls.{both_made, first_failed, second_failed}
use Rattle.ubik_node.proofs.nodes.Node.install_and_relabel.Goals as goal

pub returns-in_err-bytes_of-clause-ends : goal.returns-in_err-bytes_of-clause-ends
returns-in_err-bytes_of-clause-ends g c =
    handed_ends g.D.Disk c.from_residual.result _ c.from_residual.ensures.1 (short_ends g.D.Disk (held c.args.self.now) c.args.self.now.stored c.requires.not_halted)

pub returns-in_err-give-clause-ends : goal.returns-in_err-give-clause-ends
returns-in_err-give-clause-ends g c =
    handed_ends g.D.Disk c.from_residual-in_err-give.result _ c.from_residual-in_err-give.ensures.1 (short_ends g.D.Disk (held c.args.self.now) c.args.self.now.stored c.requires.not_halted)

pub returns-in_err-install_received-clause-ends : goal.returns-in_err-install_received-clause-ends
returns-in_err-install_received-clause-ends g c =
    let n = c.args.self.now in
    let m = member_of n.state in
    let text = received_in c.args.self.now.state in
    let best = c.args.best in
    let v = c.args.new in
    let installs : Made = record { call = durable.Install best text; reason = Received } in
    let s = with_database (server_of n.state) best text in
    handed_ends g.D.Disk c.from_residual-in_err-install_received.result c.in_err-install_received.field-0.0 c.from_residual-in_err-install_received.ensures.1
    (held_as g.D.Disk (server_of c.install_received.new.state) (member_of c.install_received.new.state) c.in_err-install_received.ensures.back c.install_received.ensures.kept.member
    (first_failed g.D.Disk (held n) c.args.self.now.stored c.requires.not_halted c.install_received.new.store c.install_received.ensures.sound (Replaced text) best text installs (own_relabelling v) refl refl (λ _. tt) (λ _. refl)
    (ap (λ (calls : List Made). installs ∷ own_relabelling v ∷ calls) (settled_calls m (relabelled_to m s (polled_of c.args.next) v).server)) (IsTooLong text) c.in_err-install_received.field-0.0 c.in_err-install_received.ensures.ended
    (rw (c.args.self.now.stored.version c.requires.not_halted) c.requires.may.newer) (λ bytes long. absurd (omega (arith, long.0, c.requires.fits))) (c.in_err-install_received.ensures.durable c.requires.not_halted)))

pub returns-in_err-relabel-clause-ends : goal.returns-in_err-relabel-clause-ends
returns-in_err-relabel-clause-ends g c =
    let n = c.args.self.now in
    let m = member_of n.state in
    let text = received_in c.args.self.now.state in
    let best = c.args.best in
    let v = c.args.new in
    let installs : Made = record { call = durable.Install best text; reason = Received } in
    let s = with_database (server_of n.state) best text in
    let done = c.in_ok-install_received.ensures.ended in
    let mid = c.install_received.new.state in
    let newer = ap (λ (w : Version). version_lt w v) done.version ∙ c.requires.newer in
    let e = c.in_err-relabel.field-0.0 in
    let some : e ≢ NoMemory = λ is. c.in_err-relabel.ensures.no_memory done.room (ap Err is) in
    handed_ends g.D.Disk c.from_residual-in_err-relabel.result e c.from_residual-in_err-relabel.ensures.1
    (failed_from g.D.Disk (held n) (server_of n.state) m refl refl (record (held n) { store = c.relabel.new.self }) (server_of mid) (member_of mid) e
    (λ other. absurd (other (disk_alone g.D.Disk v c.install_received.new.store c.relabel.new.self e c.in_err-relabel.ensures.ended some newer)))
    (λ _. ap halted_from c.in_ok-install_received.ensures.after ∙ text_kept n.state None) c.install_received.ensures.kept.member
    (second_failed g.D.Disk (held n) c.args.self.now.stored c.requires.not_halted c.install_received.new.store c.install_received.ensures.sound (Replaced text) best text installs (own_relabelling v) refl refl (λ _. tt) (λ _. refl)
    done
    (c.install_received.ensures.durable c.requires.not_halted) (λ failed. false≢true (ap is_err (sym c.in_ok-install_received.was ∙ failed))) c.relabel.new.self v (λ _. refl) refl (ap (λ (calls : List Made). installs ∷ own_relabelling v ∷ calls) (settled_calls m (relabelled_to m s (polled_of c.args.next) v).server)) e c.in_err-relabel.ensures.ended
    some newer (c.in_err-relabel.ensures.durable done.failed)))

pub returns : goal.returns
returns g c =
    let n = c.args.self.now in
    let st = n.state in
    let m = member_of st in
    let text = received_in st in
    let got = c.received-text.result.now in
    let read : got ≡ text = c.received-text.ensures in
    let best = c.args.best in
    let poll = polled_of c.args.next in
    let v = c.args.new in
    let installs : Made = record { call = durable.Install best text; reason = Received } in
    let bytes = c.of.result in
    let done = c.in_ok-install_received.ensures.ended in
    let also = c.in_ok-relabel.ensures.ended in
    let later = c.relabel.new.self in
    let took = c.take_over.new.self in
    let sending = c.begin_sending.new.self in
    let last = c.settle.new.self in
    let s = with_database (server_of st) best text in
    let after : Server = (relabelled_to m s poll v).server in
    let sent : Server → Member → Server = λ x k. with_phase (with_database x v x.image) (Send poll (record { old = x.version; holders = only_holder k })) in
    let here : member_of took ≡ m = c.take_over.ensures.place ∙ c.install_received.ensures.kept.member in
    let taken = c.take_over.ensures.after ∙ taken_from st c.install_received.new.state best bytes c.in_ok-install_received.ensures.after in
    let sends : server_of sending ≡ record after { image = bytes } =
    c.begin_sending.ensures.after ∙ ap (λ (x : Server). sent x (member_of took)) taken ∙ ap (sent (with_database (server_of st) best bytes)) here in
    let place : member_of sending ≡ m = c.begin_sending.ensures.place ∙ here in
    let shows : ShowsBehind (settled m (record after { image = bytes })) (server_of last) c.give.new.out c.settle.new.out =
    subst (λ (x : Server). ShowsBehind (settled m x) (server_of last) c.give.new.out c.settle.new.out) sends
    (subst (λ (x : Member). ShowsBehind (settled x (server_of sending)) (server_of last) c.give.new.out c.settle.new.out) place c.settle.ensures.shows) in
    -- what it puts out, once it is known what the settling shows
    let puts = λ (out : c.settle.new.out ≡ c.give.new.out ++ outputs_of (settled m after).shown).
    relabel_outputs m poll best after c.poll.result (length got) c.in_ok-bytes_of.field-0 c.args.out.now c.give.new.out c.settle.new.out (settled m after).shown st.place c.poll.ensures (ap length read)
    (λ more. first_of got c.in_ok-bytes_of.field-0 c.min.result (omega (arith, c.min.ensures)) c.in_ok-bytes_of.ensures ∙ ap (λ (xs : List ℕ). piece_from xs 0) read)
    c.in_ok-give.ensures.given out in
    let long : length bytes ≡ length text =
    ap length c.of.ensures ∙ held_length g.D.Disk later (c.relabel.ensures.sound.ready also.failed) ∙ also.len ∙ done.len in
    let alike = settled_alike m after bytes text long in
    record {
      ends =
          both_made g.D.Disk (held n) c.args.self.now.stored c.requires.not_halted c.install_received.new.store c.install_received.ensures.sound (Replaced text) best text installs (own_relabelling v) refl refl (λ _. tt) (λ _. refl)
          done (c.install_received.ensures.durable c.requires.not_halted) (λ failed. false≢true (ap is_err (sym c.in_ok-install_received.was ∙ failed))) later v (λ _. refl) refl (ap (λ (calls : List Made). installs ∷ own_relabelling v ∷ calls) (settled_calls m after))
          (server_of last) (member_of last) (c.settle.ensures.kept.member ∙ place) also (c.relabel.ensures.durable done.failed) (λ failed. false≢true (ap is_err (sym c.in_ok-relabel.was ∙ failed)))
          (λ told.
          let whole = held_twice (g.D.Disk.files n.store.disk) (g.D.Disk.files c.install_received.new.store.disk) (g.D.Disk.files later.disk) later.len text bytes told c.in_ok-install_received.ensures.image also.image c.of.ensures in
          let known = subst (λ (xs : List ℕ). ShowsBehind (settled m (record after { image = xs })) (server_of last) c.give.new.out c.settle.new.out) whole shows in
          (known.server, puts known.outputs));
      alike = record {
        server = sym alike.0 ∙ ap blank shows.server;
        outputs = ap blank_outputs (puts (shows.outputs ∙ ap (λ (shown : List Shown). c.give.new.out ++ outputs_of shown) alike.1));
      };
    }

pub give-requires-clause-few : goal.give-requires-clause-few
give-requires-clause-few g c = omega (arith, c.requires.few)

pub install_received-requires-clause-version : goal.install_received-requires-clause-version
install_received-requires-clause-version g c = c.requires.may.version

pub slice_bounds-first-end : goal.slice_bounds-first-end
slice_bounds-first-end g c = omega (arith, length-take c.min.result c.received-text.result.now, c.min.ensures)

pub give-requires-clause-plain : goal.give-requires-clause-plain
give-requires-clause-plain g c = record { old = c.requires.may.version; new = c.requires.new; piece = omega (arith, ap length c.in_ok-bytes_of.ensures, length-take c.min.result c.received-text.result.now, c.min.ensures) }

pub take_over-requires-clause-resting : goal.take_over-requires-clause-resting
take_over-requires-clause-resting g c = λ serves.
    c.requires.may.rests (sym (ap (λ (r : RecoveryRecord). r.phase) c.in_ok-install_received.ensures.recovery) ∙ serves)
