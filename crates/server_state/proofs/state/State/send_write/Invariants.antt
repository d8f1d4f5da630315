use Rattle.std.proofs.Common.{◌≡◌, ◌≤◌, ◌-◌, ◌++◌, ◌∷◌, [], length, take}
use Rattle.ubik_calls.specs.declared.packets.Body.TheVariants as body
use Rattle.cell_model.specs.declared.events.Output.TheVariants.{Send}
use Rattle.cell_model.specs.Pieces.{piece_count}
use Rattle.cell_model.specs.Step.{packet_to}
use Rattle.server_state.specs.State.{member_of}
use Rattle.server_state.proofs.WritePackets.{pieces_left}
use Rattle.server_state.proofs.state.State.send_write.Given as goal

abbrev pub invariant-loop-number : goal.invariant-loop-number
invariant-loop-number l =
    let m = member_of l.self in
    let text = l.flight.text in
    record {
      long : length l.fn.out ≤ length l.out;
      front : take (length l.fn.out) l.out ≡ l.fn.out;
      rest : l.out ++ pieces_left m l.to l.new text l.number (piece_count text - l.number)
          ≡ (l.fn.out ++ Send (packet_to m l.to (body.Begin l.flight.old_version l.new (piece_count text) (length text))) ∷ [])
          ++ pieces_left m l.to l.new text 0 (piece_count text);
    }
