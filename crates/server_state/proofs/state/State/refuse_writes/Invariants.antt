use Rattle.std.proofs.Common.{◌≡◌, ◌≤◌, ◌+◌, ◌++◌, length}
use Rattle.ubik_types.specs.declared.phases.Applied.TheVariants as applied
use Rattle.cell_model.specs.Lapse.{no_quorum, writes_refused}
use Rattle.cell_model.specs.Step.{outputs_of}
use Rattle.server_state.specs.State.{member_of, server_of}
use Rattle.server_state.specs.Writing.{waiting_of}
use Rattle.server_state.proofs.Writes.{refused_from}
use Rattle.server_state.proofs.state.State.refuse_writes.Given as goal

abbrev pub invariant-loop-place : goal.invariant-loop-place
invariant-loop-place l =
    let m = member_of l.self in
    let s = server_of l.self in
    record {
      few : length l.out ≤ 1 + l.place;
      rest : l.out ++ refused_from (waiting_of l.self.writes) l.place (no_quorum m s l.now l.phase applied.No) ≡ outputs_of
          (writes_refused m s l.now l.phase);
    }
