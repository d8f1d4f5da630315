use Rattle.ubik_store.specs.Rewrite.Rewrite.{Changed}
use Rattle.ubik_node.specs.Alike.{blank, blank_outputs}
use Rattle.ubik_node.proofs.Alike.{blank_database}
use Rattle.std.proofs.Common.{◌≡◌, ◌∙◌, ◌++◌, ℕ, List, None, Err, IsErrOf, length, refl, sym, ap, subst}
use Rattle.ubik_types.specs.declared.images.Change.{Change}
use Rattle.ubik_types.specs.Image.{effect}
use Rattle.ubik_types.specs.Logged.{logged, too_large}
use Rattle.ubik_types.specs.declared.versions.Version.{Version}
use Rattle.ubik_types.specs.Version.{version_lt}
use Rattle.ubik_calls.specs.declared.packets.Body.TheVariants as body
use Rattle.cell_model.specs.Durable as durable
use Rattle.cell_model.specs.Durable.{Received}
use Rattle.cell_model.specs.Step.{Member, outputs_of, sends_to, with_database}
use Rattle.ubik_store.specs.declared.faults.StoreFault.TheVariants.{DiskFault}
use Rattle.ubik_store.specs.DurableCall.{Commits, IsDurable, IsNeverLong}
use Rattle.ubik_node.specs.Node.{held}
use Rattle.server_state.specs.State.{member_of, server_of}
use Rattle.ubik_node.proofs.Calling.{call_failed, call_made, commit_ended, ended}
use Rattle.ubik_node.proofs.Endings.{handed_ends, ok_not, reads_none}
use Rattle.ubik_node.proofs.HeldImages.{held_after}
use Rattle.ubik_node.proofs.TurnsAlike.{committed_long}
use Rattle.ubik_node.proofs.nodes.Node.take_write.Goals as goal

pub returns-in_err-commit_all-clause-ends : goal.returns-in_err-commit_all-clause-ends
returns-in_err-commit_all-clause-ends g c =
    let n = c.args.self.now in
    let st = n.state in
    let v = c.args.new in
    let e = c.in_err-commit_all.field-0.0 in
    let later = c.commit_all.new.store in
    let kept = logged (length st.image) c.args.changes.now in
    let same : logged n.store.len c.args.changes.now ≡ kept = ap (λ (k : ℕ). logged k c.args.changes.now) (c.args.self.now.stored.len c.requires.not_halted) in
    let fits : too_large 0 n.store.len c.args.changes.now ≡ None = ap (λ (k : ℕ). too_large 0 k c.args.changes.now) (c.args.self.now.stored.len c.requires.not_halted) ∙ c.requires.fits in
    let newer = ap (λ (own : Version). version_lt own v) (c.args.self.now.stored.version c.requires.not_halted) ∙ c.requires.may.newer in
    handed_ends g.D.Disk c.from_residual.result e c.from_residual.ensures.1
    (call_failed g.D.Disk (held n) c.args.self.now.stored c.requires.not_halted n.store (reads_none g.D.Disk n.store.disk) (λ none. none) c.args.self.now.stored c.requires.not_halted later
    (Changed kept) v (effect st.image kept) (record { call = durable.Commit v kept (effect st.image kept); reason = Received }) refl refl (λ cuts. cuts) (λ _. refl) refl IsNeverLong e
    (commit_ended g.D.Disk v n.store later e newer (c.in_err-commit_all.ensures.memory fits) (λ is. c.commit_all.ensures.failed (c.in_err-commit_all.was ∙ ap Err is)) c.in_err-commit_all.ensures.refused)
    newer (λ bytes long. absurd long)
    (subst (λ (cs : List Change). IsDurable g.D.Disk cs v n.store later (IsErrOf (ended e) DiskFault)) same c.in_err-commit_all.ensures.durable))

pub returns : goal.returns
returns g c =
    let n = c.args.self.now in
    let st = n.state in
    let v = c.args.new in
    let later = c.commit_all.new.store in
    let last = c.take_over.new.self in
    let kept = logged (length st.image) c.args.changes.now in
    let same : logged n.store.len c.args.changes.now ≡ kept = ap (λ (k : ℕ). logged k c.args.changes.now) (c.args.self.now.stored.len c.requires.not_halted) in
    let done : Commits g.D.Disk kept v n.store later = subst (λ (cs : List Change). Commits g.D.Disk cs v n.store later) same c.in_ok-commit_all.ensures.done in
    let told_so = c.send.ensures.sent ∙ ap (λ (m : Member). c.args.out.now ++ outputs_of (sends_to m c.args.to (body.VersionKept v))) c.take_over.ensures.place in
    let long = committed_long g.D.Disk n.store later v st.image kept (c.args.self.now.stored.len c.requires.not_halted) done (c.commit_all.ensures.sound.ready done.failed) c.of.result c.of.ensures in
    record {
      ends =
          call_made g.D.Disk (held n) c.args.self.now.stored c.requires.not_halted n.store (reads_none g.D.Disk n.store.disk) (λ none. none) c.args.self.now.stored c.requires.not_halted later
          (Changed kept) v (effect st.image kept) (record { call = durable.Commit v kept (effect st.image kept); reason = Received }) refl refl (λ cuts. cuts) (λ _. refl) refl (server_of last) (member_of last) c.take_over.ensures.place done
          (subst (λ (cs : List Change). IsDurable g.D.Disk cs v n.store later (IsErrOf c.commit_all.result DiskFault)) same c.commit_all.ensures.durable) (λ failed. ok_not c.in_ok-commit_all.field-0 (sym c.in_ok-commit_all.was ∙ failed))
          (λ told. (
            sym (c.take_over.ensures.after
                ∙ ap (λ (bytes : List ℕ). with_database (server_of st) v bytes) (c.of.ensures ∙ held_after (g.D.Disk.files n.store.disk) (g.D.Disk.files later.disk) later.len kept st.image (effect st.image kept) told (c.args.self.now.stored.image c.requires.not_halted) done.image refl)),
            told_so,
          ));
      alike = record {
        server = blank_database (server_of st) v (effect st.image kept) c.of.result long ∙ ap blank (sym c.take_over.ensures.after);
        outputs = ap blank_outputs told_so;
      };
    }
