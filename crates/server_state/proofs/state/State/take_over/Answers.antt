use Rattle.std.proofs.Common.{None, ap, length, ◌∙◌}
use Rattle.ubik_types.specs.Phase.{PhaseRecord}
use Rattle.ubik_recovery.specs.Record.{RecoveryRecord, phase_record}
use Rattle.server_state.specs.State.{announced, server_of}
use Rattle.server_state.specs.Writing.{announced_of, own_of}
use Rattle.server_state.proofs.Polled.{unannounced}
use Rattle.server_state.proofs.Writes.{resting_free, written_free}
use Rattle.server_state.proofs.state.State.take_over.Goals as goal

pub returns-clause-after : goal.returns-clause-after
returns-clause-after c =
    let st = c.args.self.now in
    ap (λ (r : RecoveryRecord). record (server_of st) {
      version = c.args.version;
      image = c.args.image;
      phase = phase_record
          (announced_of c.args.version (own_of st.writes)) r;
      kept = None;
      received = r.text;
    }) c.drop_text.ensures
    ∙ ap (λ (p : PhaseRecord). record (server_of st)
    { version = c.args.version; image = c.args.image; phase = p; kept = None; received = None })
    (unannounced st.recovery None (announced_of c.args.version (own_of st.writes)) (announced st) c.requires.resting)

pub invariant_of-self-clause-written : goal.invariant_of-self-clause-written
invariant_of-self-clause-written c =
    let st = c.args.self.now in
    written_free (length st.cell) st.image c.args.image st.writes
    (resting_free st.writes st.recovery c.requires.resting st.serving) st.written
