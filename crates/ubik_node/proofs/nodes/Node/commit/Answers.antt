use Rattle.std.proofs.Common.{◌≡◌, ◌+◌, ◌++◌, ◌∷◌, ◌∙◌, ℕ, List, [], None, Err, IsErrOf, length, refl, sym, ap, subst, append_assoc, arith}
use Rattle.ubik_types.specs.declared.images.Change.{Change}
use Rattle.ubik_types.specs.declared.versions.Version.{Version}
use Rattle.ubik_types.specs.Image.{effect}
use Rattle.ubik_types.specs.Logged.{logged, too_large}
use Rattle.ubik_types.specs.Version.{version_lt}
use Rattle.ubik_calls.specs.declared.replies.Reply.TheVariants as reply
use Rattle.cell_model.specs.declared.events.Output.{Output}
use Rattle.cell_model.specs.declared.events.Output.TheVariants as output
use Rattle.cell_model.specs.Node.{Server}
use Rattle.cell_model.specs.Step.{with_database}
use Rattle.cell_model.specs.Writes.{own_commit}
use Rattle.ubik_recovery.specs.Record.{held_alone, with_text}
use Rattle.ubik_recovery.specs.Rules.{recovering}
use Rattle.ubik_store.specs.declared.faults.StoreFault.TheVariants.{DiskFault}
use Rattle.ubik_store.specs.DurableCall.{Commits, IsDurable, IsNeverLong}
use Rattle.ubik_store.specs.Gaps.{CutsNoPut}
use Rattle.cell_model.specs.Durable.{label_calls}
use Rattle.ubik_store.specs.Rewrite.Rewrite.{Changed}
use Rattle.state_laws.specs.Over.{over}
use Rattle.ubik_node.specs.Alike.{blank, blank_outputs}
use Rattle.ubik_node.specs.Node.{held}
use Rattle.ubik_node.proofs.Alike.{blank_image}
use Rattle.ubik_node.proofs.TurnsAlike.{committed_long, written_long}
use Rattle.server_state.specs.State.{announced, member_of, server_of}
use Rattle.ubik_node.proofs.Calling.{commit_ended, ended, known_call_failed, known_call_made}
use Rattle.ubik_node.proofs.Committing.{is_alone, next_is_newer, written_alone}
use Rattle.ubik_node.proofs.Endings.{handed_ends, ok_not, reads_none}
use Rattle.ubik_node.proofs.HeldImages.{held_after}
use Rattle.server_state.proofs.Writes.{no_own}
use Rattle.ubik_node.proofs.nodes.Node.commit.Goals as goal

pub returns-in_err-commit_all-clause-ends : goal.returns-in_err-commit_all-clause-ends
returns-in_err-commit_all-clause-ends g c = λ now call image.
    let n = c.args.self.now in
    let st = n.state in
    let v = c.next_version-next.result in
    let e = c.in_err-commit_all.field-0.0 in
    let later = c.commit_all.new.store in
    let given = c.args.changes.now in
    let kept = logged (length st.image) given in
    let only = is_alone st.cell st.me c.requires.alone st.place in
    let leads = written_alone (server_of st) (announced st) st.recovery now c.args.id call c.args.answer image given c.requires.serving (member_of st) only v c.next_version-next.ensures (no_own _ c.requires.free) (st.of_cell.servers ∙ c.requires.alone) in
    let same : logged n.store.len c.args.changes.now ≡ kept = ap (λ (k : ℕ). logged k given) (c.args.self.now.stored.len c.requires.not_halted) in
    let fits : too_large 0 n.store.len c.args.changes.now ≡ None = ap (λ (k : ℕ). too_large 0 k given) (c.args.self.now.stored.len c.requires.not_halted) ∙ c.requires.within in
    let newer = ap (λ (own : Version). version_lt own v) (c.args.self.now.stored.version c.requires.not_halted) ∙ ap (version_lt st.version) c.next_version-next.ensures ∙ next_is_newer st.version in
    handed_ends g.D.Disk c.from_residual.result e c.from_residual.ensures.1
    (known_call_failed g.D.Disk (held n) c.args.self.now.stored c.requires.not_halted n.store (reads_none g.D.Disk n.store.disk) (λ none. none) c.args.self.now.stored c.requires.not_halted later
    (Changed kept) v image (own_commit v given image (record { moment = now; call = call }))
    (λ known. record { leads = ap (effect st.image) known.1.kept ∙ known.1.leads; same = refl; cuts = λ _. subst CutsNoPut (sym known.1.kept) known.1.puts; count = λ labelled. ap (λ (n : ℕ). 13 + n + label_calls labelled) (ap length (sym known.1.kept)); calls = leads.calls }) IsNeverLong e
    (commit_ended g.D.Disk v n.store later e newer (c.in_err-commit_all.ensures.memory fits) (λ is. c.commit_all.ensures.failed (c.in_err-commit_all.was ∙ ap Err is)) c.in_err-commit_all.ensures.refused)
    newer (λ bytes long. absurd long)
    (subst (λ (cs : List Change). IsDurable g.D.Disk cs v n.store later (IsErrOf (ended e) DiskFault)) same c.in_err-commit_all.ensures.durable))

pub returns-clause-ends : goal.returns-clause-ends
returns-clause-ends g c = λ now call image.
    let n = c.args.self.now in
    let st = n.state in
    let v = c.next_version-next.result in
    let later = c.commit_all.new.store in
    let given = c.args.changes.now in
    let kept = logged (length st.image) given in
    let only = is_alone st.cell st.me c.requires.alone st.place in
    let leads = written_alone (server_of st) (announced st) st.recovery now c.args.id call c.args.answer image given c.requires.serving (member_of st) only v c.next_version-next.ensures (no_own _ c.requires.free) (st.of_cell.servers ∙ c.requires.alone) in
    let same : logged n.store.len c.args.changes.now ≡ kept = ap (λ (k : ℕ). logged k given) (c.args.self.now.stored.len c.requires.not_halted) in
    let done : Commits g.D.Disk kept v n.store later = subst (λ (cs : List Change). Commits g.D.Disk cs v n.store later) same c.in_ok-commit_all.ensures.done in
    known_call_made g.D.Disk (held n) c.args.self.now.stored c.requires.not_halted n.store (reads_none g.D.Disk n.store.disk) (λ none. none) c.args.self.now.stored c.requires.not_halted later
    (Changed kept) v image (own_commit v given image (record { moment = now; call = call }))
    (λ known. record { leads = ap (effect st.image) known.1.kept ∙ known.1.leads; same = refl; cuts = λ _. subst CutsNoPut (sym known.1.kept) known.1.puts; count = λ labelled. ap (λ (n : ℕ). 13 + n + label_calls labelled) (ap length (sym known.1.kept)); calls = leads.calls })
    (server_of c.take_commit.new.self) (member_of c.take_commit.new.self) c.take_commit.ensures.place done
    (subst (λ (cs : List Change). IsDurable g.D.Disk cs v n.store later (IsErrOf c.commit_all.result DiskFault)) same c.commit_all.ensures.durable) (λ failed. ok_not c.in_ok-commit_all.field-0 (sym c.in_ok-commit_all.was ∙ failed))
    (λ known.
    let here : c.of-image.result ≡ image = c.of-image.ensures
    ∙ held_after (g.D.Disk.files n.store.disk) (g.D.Disk.files later.disk) later.len kept st.image image known.0 (c.args.self.now.stored.image c.requires.not_halted) done.image (ap (effect st.image) known.1.kept ∙ known.1.leads) in (
      leads.server ∙ sym (c.take_commit.ensures.after ∙ ap (λ (bytes : List ℕ). recovering v (with_text (held_alone st.recovery 0) None) (with_database (server_of st) v bytes)) here),
      c.put_reply.ensures ∙ ap (λ (o : List Output). o ++ output.Reply c.args.id (reply.Ok c.args.answer) ∷ []) c.put.ensures
          ∙ append_assoc c.args.out.now (output.Announce v ∷ []) (output.Reply c.args.id (reply.Ok c.args.answer) ∷ []) ∙ ap (λ (o : List Output). c.args.out.now ++ o) (sym leads.outputs),
    ))

pub returns-clause-line : goal.returns-clause-line
returns-clause-line g c = omega (arith, ap (λ (s : Server). length s.waiting) c.take_commit.ensures.after)

pub returns-clause-alike : goal.returns-clause-alike
returns-clause-alike g c = λ now call old image same made.
    let n = c.args.self.now in
    let st = n.state in
    let v = c.next_version-next.result in
    let later = c.commit_all.new.store in
    let given = c.args.changes.now in
    let done = subst (λ (k : ℕ). Commits g.D.Disk (logged k given) v n.store later) (n.stored.len c.requires.not_halted) c.in_ok-commit_all.ensures.done in
    let leads = written_alone (over (server_of st) old) (announced st) st.recovery now c.args.id call c.args.answer image given c.requires.serving (member_of st) (is_alone st.cell st.me c.requires.alone st.place) v c.next_version-next.ensures (no_own _ c.requires.free) (st.of_cell.servers ∙ c.requires.alone) in
    let long = written_long st.image old image c.of-image.result given same made (committed_long g.D.Disk n.store later v st.image (logged (length st.image) given) (n.stored.len c.requires.not_halted) done (c.commit_all.ensures.sound.ready done.failed) c.of-image.result c.of-image.ensures) in
    record {
      server = ap blank leads.server ∙ blank_image (recovering v (with_text (held_alone st.recovery 0) None) (with_database (server_of st) v image)) image c.of-image.result long ∙ ap blank (sym c.take_commit.ensures.after);
      outputs =
          ap blank_outputs (c.put_reply.ensures ∙ ap (λ (o : List Output). o ++ output.Reply c.args.id (reply.Ok c.args.answer) ∷ []) c.put.ensures
          ∙ append_assoc c.args.out.now (output.Announce v ∷ []) (output.Reply c.args.id (reply.Ok c.args.answer) ∷ []) ∙ ap (λ (o : List Output). c.args.out.now ++ o) (sym leads.outputs));
    }
