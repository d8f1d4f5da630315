use Rattle.std.proofs.Common.{None, ap, ◌∙◌}
use Rattle.ubik_types.specs.Phase.{PhaseRecord}
use Rattle.ubik_recovery.specs.Record.{RecoveryRecord, phase_record}
use Rattle.server_state.specs.State.{announced, server_of}
use Rattle.server_state.specs.Writing.{announced_of, own_of}
use Rattle.server_state.proofs.Polled.{unannounced}
use Rattle.server_state.proofs.state.State.relabel.Goals as goal

pub returns-clause-after : goal.returns-clause-after
returns-clause-after c =
    let st = c.args.self.now in
    ap (λ (r : RecoveryRecord). record (server_of st) {
      version = c.args.version;
      image = st.image;
      phase = phase_record
          (announced_of c.args.version (own_of st.writes)) r;
      kept = None;
      received = r.text;
    }) c.drop_text.ensures
    ∙ ap (λ (p : PhaseRecord). record (server_of st)
    { version = c.args.version; image = st.image; phase = p; kept = None; received = None })
    (unannounced st.recovery None (announced_of c.args.version (own_of st.writes)) (announced st) c.requires.resting)
