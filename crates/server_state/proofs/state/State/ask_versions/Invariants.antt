use Rattle.std.proofs.Common.{ℕ, ◌≡◌, ◌≤◌, ◌+◌, ◌++◌, ◌∷◌, [], if◌then◌else◌, length, drop}
use Rattle.ubik_types.specs.Quorum.{marked}
use Rattle.ubik_calls.specs.declared.packets.Body.TheVariants as body
use Rattle.cell_model.specs.Polls.{is_marked}
use Rattle.server_state.specs.State.{member_of}
use Rattle.server_state.proofs.Sending.{left_of}
use Rattle.server_state.proofs.state.State.ask_versions.Given as goal

abbrev pub invariant-loop-k : goal.invariant-loop-k
invariant-loop-k l =
    let bodies = λ (k : ℕ). if is_marked (marked (length l.self.cell) l.but.set) k then [] else body.GetVersion l.poll ∷ [] in
    record {
      few : length l.out ≤ length l.fn.out + l.k;
      rest : l.out ++ left_of (member_of l.self) bodies l.k (drop l.k l.self.cell) ≡ l.fn.out
          ++ left_of (member_of l.self) bodies 0 l.self.cell;
    }
