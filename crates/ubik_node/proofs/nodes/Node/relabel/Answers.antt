use Rattle.ubik_store.specs.Rewrite.Rewrite.{Changed}
use Rattle.ubik_node.specs.Alike.{blank}
use Rattle.ubik_node.proofs.Alike.{piece_long, relabel_alike}
use Rattle.std.proofs.Common.{◌≡◌, ◌<◌, ◌∷◌, ◌∙◌, ℕ, true, List, [], refl, sym, ap, subst, min, ◌-◌}
use Rattle.std.specs.Result.{is_err}
use Rattle.std.proofs.lemmas.Bool.{false≢true}
use Rattle.ubik_types.specs.declared.versions.Version.{Version}
use Rattle.ubik_types.specs.Version.{version_lt}
use Rattle.ubik_recovery.specs.Record.{polled_of}
use Rattle.ubik_store.specs.DurableCall.{IsNeverLong}
use Rattle.cell_model.specs.Durable.{Made}
use Rattle.cell_model.specs.Node.{Server}
use Rattle.cell_model.specs.Recovery.{own_relabelling, relabelled_to}
use Rattle.cell_model.specs.Step.{Member}
use Rattle.cell_model.specs.Writes.{settled}
use Rattle.ubik_node.specs.Node.{held}
use Rattle.server_state.specs.State.{ShowsBehind, member_of, server_of}
use Rattle.ubik_node.proofs.Calling.{call_failed, call_made, short_ends_read, unread_ends}
use Rattle.ubik_node.proofs.Endings.{handed_ends, ok_not}
use Rattle.ubik_node.proofs.Stored.{read_keeps}
use Rattle.state_laws.proofs.Waiting.{settled_calls}
use Rattle.ubik_node.proofs.Relabelled.{piece_known, relabel_outputs}
use Rattle.server_state.proofs.Plain.{own_version}
use Rattle.ubik_node.proofs.nodes.Node.relabel.Goals as goal

pub returns-in_err-piece-clause-ends : goal.returns-in_err-piece-clause-ends
returns-in_err-piece-clause-ends g c =
    handed_ends g.D.Disk c.from_residual.result c.in_err-piece.field-0.0 c.from_residual.ensures.1
    (unread_ends g.D.Disk (held c.args.self.now) c.first_piece.new.store c.first_piece.result c.in_err-piece.field-0.0 c.in_err-piece.was c.first_piece.ensures.fault c.args.self.now.stored c.requires.not_halted c.first_piece.ensures.same
    c.first_piece.ensures.failed c.first_piece.ensures.disk)

pub returns-in_err-give-clause-ends : goal.returns-in_err-give-clause-ends
returns-in_err-give-clause-ends g c =
    let went = λ (failed : _). false≢true (ap is_err failed) in
    handed_ends g.D.Disk c.from_residual-in_err-give.result _ c.from_residual-in_err-give.ensures.1
    (short_ends_read g.D.Disk (held c.args.self.now) c.first_piece.new.store c.args.self.now.stored c.requires.not_halted (c.in_ok-piece.ensures.same went) c.in_ok-piece.ensures.disk went)

pub returns-in_err-relabel-clause-ends : goal.returns-in_err-relabel-clause-ends
returns-in_err-relabel-clause-ends g c =
    let n = c.args.self.now in
    let st = n.state in
    let m = member_of st in
    let v = c.args.new in
    let went = λ (failed : _). false≢true (ap is_err failed) in
    let stays = c.in_ok-piece.ensures.same went in
    let still = read_keeps g.D.Disk c.first_piece.new.store c.in_ok-piece.ensures.sound n.stored stays c.in_ok-piece.ensures.disk went in
    handed_ends g.D.Disk c.from_residual-in_err-relabel.result c.in_err-relabel.field-0.0 c.from_residual-in_err-relabel.ensures.1
    (call_failed g.D.Disk (held n) c.args.self.now.stored c.requires.not_halted c.first_piece.new.store c.in_ok-piece.ensures.disk went still (stays.failed ∙ c.requires.not_halted) c.relabel.new.self (Changed []) v st.image (own_relabelling v)
    refl refl (λ _. tt) (λ _. refl) (ap (λ (calls : List Made). own_relabelling v ∷ calls) (settled_calls m (relabelled_to m (server_of st) (polled_of c.args.next) v).server)) IsNeverLong c.in_err-relabel.field-0.0 c.in_err-relabel.ensures.ended
    (subst (λ (w : Version). version_lt w v ≡ true) (sym (stays.version ∙ c.args.self.now.stored.version c.requires.not_halted)) c.requires.may.newer) (λ bytes long. absurd long)
    (c.in_err-relabel.ensures.durable (stays.failed ∙ c.requires.not_halted)))

pub returns : goal.returns
returns g c =
    let n = c.args.self.now in
    let st = n.state in
    let m = member_of st in
    let poll = polled_of c.args.next in
    let v = c.args.new in
    let went = λ (failed : _). false≢true (ap is_err failed) in
    let stays = c.in_ok-piece.ensures.same went in
    let still = read_keeps g.D.Disk c.first_piece.new.store c.in_ok-piece.ensures.sound n.stored stays c.in_ok-piece.ensures.disk went in
    let done = c.in_ok-relabel.ensures.ended in
    let later = c.relabel.new.self in
    let before = c.begin_sending.new.self in
    let last = c.settle.new.self in
    let after : Server = (relabelled_to m (server_of st) poll v).server in
    let sends : server_of before ≡ after = c.begin_sending.ensures.after in
    let shows : ShowsBehind (settled m after) (server_of last) c.give.new.out c.settle.new.out =
    subst (λ (x : Server). ShowsBehind (settled m x) (server_of last) c.give.new.out c.settle.new.out) sends
    (subst (λ (x : Member). ShowsBehind (settled x (server_of before)) (server_of last) c.give.new.out c.settle.new.out) c.begin_sending.ensures.place c.settle.ensures.shows) in
    record {
      ends =
          call_made g.D.Disk (held n) c.args.self.now.stored c.requires.not_halted c.first_piece.new.store c.in_ok-piece.ensures.disk went still (stays.failed ∙ c.requires.not_halted) later (Changed []) v st.image (own_relabelling v)
          refl refl (λ _. tt) (λ _. refl) (ap (λ (calls : List Made). own_relabelling v ∷ calls) (settled_calls m after)) (server_of last) (member_of last) (c.settle.ensures.kept.member ∙ c.begin_sending.ensures.place) done
          (c.relabel.ensures.durable (stays.failed ∙ c.requires.not_halted)) (λ failed. ok_not c.in_ok-relabel.field-0 (sym c.in_ok-relabel.was ∙ failed))
          (λ knows. (
            shows.server,
            relabel_outputs m poll st.version after c.poll.result c.len-2.result c.in_ok-piece.piece c.args.out.now c.give.new.out c.settle.new.out (settled m after).shown st.place c.poll.ensures c.len-2.ensures
                (λ more. piece_known (g.D.Disk.files n.store.disk) c.in_ok-piece.piece st.image 0 (knows more) (c.in_ok-piece.ensures.piece (subst (λ (k : ℕ). 1 < k) (sym c.len.ensures.len) more)) (c.args.self.now.stored.image c.requires.not_halted))
                c.in_ok-give.ensures.given shows.outputs,
          ));
      alike = record {
        server = ap blank shows.server;
        outputs =
            relabel_alike m poll st.version after c.poll.result c.len-2.result c.in_ok-piece.piece c.args.out.now c.give.new.out c.settle.new.out (settled m after).shown st.place c.poll.ensures c.len-2.ensures
            (λ more. c.in_ok-piece.ensures.len (subst (λ (k : ℕ). 1 < k) (sym c.len.ensures.len) more) ∙ ap (λ (k : ℕ). min 8192 (k - 0)) (c.args.self.now.stored.len c.requires.not_halted) ∙ sym (piece_long st.image 0))
            c.in_ok-give.ensures.given shows.outputs;
      };
    }

pub give-requires-clause-few : goal.give-requires-clause-few
give-requires-clause-few g c = c.requires.few

pub give-requires-clause-plain : goal.give-requires-clause-plain
give-requires-clause-plain g c = record { old = own_version c.args.self.now.state; new = c.requires.may.version; piece = c.in_ok-piece.ensures.short }
