use Rattle.std.proofs.Common.{◌≡◌, ◌<◌, ◌+◌, ◌++◌, ◌∷◌, [], length}
use Rattle.ubik_types.specs.declared.phases.Applied.TheVariants as applied
use Rattle.ubik_types.specs.declared.phases.Phase.TheVariants as phase
use Rattle.cell_model.specs.declared.events.Output.TheVariants as output
use Rattle.cell_model.specs.Lapse.{no_quorum}
use Rattle.server_state.specs.State.{Keeps, member_of, server_of}
use Rattle.server_state.specs.Writing.{waiting_of}
use Rattle.server_state.proofs.Writes.{refused_from}
use Rattle.server_state.proofs.state.State.last_counter.Given as goal

abbrev pub invariant-loop-asked : goal.invariant-loop-asked
invariant-loop-asked l =
    let st = l.fn.self in
    let refusal = no_quorum (member_of st) (server_of st) l.now phase.Poll applied.No in
    record {
      few : length l.out + length (waiting_of l.self.writes) < 200;
      kept : Keeps st l.self;
      server : server_of l.self ≡ record (server_of st) { waiting = waiting_of l.self.writes };
      rest : l.out ++ refused_from (waiting_of l.self.writes) 0 refusal ≡ (l.fn.out ++ output.Reply l.id refusal ∷ [])
          ++ refused_from (waiting_of st.writes) 0 refusal;
    }

abbrev pub decreases-loop-asked : goal.decreases-loop-asked
decreases-loop-asked l = length (waiting_of l.self.writes)
