use Rattle.std.proofs.Common.{◌≡◌, ◌≤◌, ◌+◌, ◌++◌, length, drop}
use Rattle.cell_model.specs.Step.{outputs_of, sends_to_all}
use Rattle.cell_model.specs.Voting.{own_beacon}
use Rattle.server_state.specs.State.{server_of, member_of}
use Rattle.server_state.proofs.Sending.{left}
use Rattle.server_state.proofs.state.State.send_beacons.Given as goal

abbrev pub invariant-loop-k : goal.invariant-loop-k
invariant-loop-k l = record {
  few : length l.out ≤ length l.fn.out + l.k;
  rest : l.out ++ left (member_of l.self) (own_beacon (server_of l.self) l.now l.claim) l.k (drop l.k l.self.cell) ≡ l.fn.out
      ++ outputs_of (sends_to_all (member_of l.self) (own_beacon (server_of l.self) l.now l.claim));
}
