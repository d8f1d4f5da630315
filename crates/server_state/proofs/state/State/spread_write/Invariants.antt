use Rattle.std.proofs.Common.{ℕ, ◌≡◌, ◌≤◌, ◌++◌, [], if◌then◌else◌, length, take, drop}
use Rattle.ubik_types.specs.Quorum.{marked}
use Rattle.cell_model.specs.Polls.{is_marked}
use Rattle.cell_model.specs.Writes.{write_bodies}
use Rattle.server_state.specs.State.{member_of}
use Rattle.server_state.proofs.Sending.{left_of}
use Rattle.server_state.proofs.state.State.spread_write.Given as goal

abbrev pub invariant-loop-k : goal.invariant-loop-k
invariant-loop-k l =
    let bodies = λ (k : ℕ). if is_marked
    (marked (length l.self.cell) l.but.set) k then [] else write_bodies l.flight.old_version l.new l.flight.text in
    record {
      long : length l.fn.out ≤ length l.out;
      front : take (length l.fn.out) l.out ≡ l.fn.out;
      rest : l.out ++ left_of (member_of l.self) bodies l.k (drop l.k l.self.cell) ≡ l.fn.out
          ++ left_of (member_of l.self) bodies 0 l.self.cell;
    }
