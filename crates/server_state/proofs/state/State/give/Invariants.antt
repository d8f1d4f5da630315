use Rattle.std.proofs.Common.{ℕ, ◌≡◌, ◌≤◌, ◌+◌, ◌++◌, length, drop}
use Rattle.cell_model.specs.Polls.{entry_at}
use Rattle.server_state.specs.Spreading.{given_bodies}
use Rattle.server_state.specs.State.{member_of}
use Rattle.server_state.proofs.Sending.{left_of}
use Rattle.server_state.proofs.state.State.give.Given as goal

abbrev pub invariant-loop-k : goal.invariant-loop-k
invariant-loop-k l =
    let bodies = λ (k : ℕ). given_bodies l.given (entry_at l.next.answers k) in
    record {
      few : length l.out ≤ length l.fn.out + l.k;
      rest : l.out ++ left_of (member_of l.self) bodies l.k (drop l.k l.self.cell) ≡ l.fn.out
          ++ left_of (member_of l.self) bodies 0 l.self.cell;
    }
