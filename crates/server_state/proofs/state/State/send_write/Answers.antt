use Rattle.std.proofs.Common.{◌≡◌, ◌+◌, ◌-◌, ◌<◌, ◌∷◌, [], ◌++◌, ℕ, List, length, take, drop, ap, ◌∙◌, ◌*◌, length-append, length-take, arith}
use Rattle.ubik_calls.specs.declared.packets.Body.TheVariants as body
use Rattle.ubik_calls.specs.declared.packets.Packet.{Packet}
use Rattle.cell_model.specs.declared.events.Output.{Output}
use Rattle.cell_model.specs.declared.events.Output.TheVariants.{Send}
use Rattle.cell_model.specs.Pieces.{numbered_piece, piece_count}
use Rattle.cell_model.specs.Step.{packet_to}
use Rattle.server_state.specs.State.{member_of}
use Rattle.server_state.proofs.WritePackets.{front_stays, piece_put, pieces_left}
use Rattle.server_state.proofs.state.State.send_write.Goals as goal

pub loop-number-preserved : goal.loop-number-preserved
loop-number-preserved c =
    let m = member_of c.args.self.now in
    let text = c.args.flight.now.text in
    let number = c.loop-number.number in
    let count = piece_count text in
    let old = c.args.out.now in
    let piece : List Output = Send (packet_to m c.args.to (body.PutPiece c.args.new number (numbered_piece text number))) ∷ [] in
    let all : List Output =
    (old ++ Send (packet_to m c.args.to (body.Begin c.args.flight.now.old_version c.args.new count (length text))) ∷ [])
    ++ pieces_left m c.args.to c.args.new text 0 count in
    let inside : number < count = omega arith in
    let out : c.push-in-loop-number.new.self ≡ c.loop-number.out ++ piece =
    c.in_ok-push-2.ensures.ok
    ∙ ap (λ (p : Packet). c.loop-number.out ++ Send p ∷ [])
    (c.packet_to-in-loop-number.ensures.packet
    ∙ ap (λ (bytes : List ℕ). packet_to m c.args.to (body.PutPiece c.args.new number bytes)) (c.in_ok-bytes.ensures ∙ c.piece.ensures)) in
    record {
      long = omega (arith, ap length out, length-append c.loop-number.out piece, c.loop-number.invariant.long);
      front =
          ap (λ (o : List Output). take (length old) o) out
          ∙ front_stays old c.loop-number.out piece c.loop-number.invariant.long c.loop-number.invariant.front;
      rest =
          ap (λ (o : List Output). o ++ pieces_left m c.args.to c.args.new text (number + 1) (count - (number + 1))) out
          ∙ piece_put m c.args.to c.args.new text number count c.loop-number.out all inside c.loop-number.invariant.rest;
    }

pub packet_to-requires-in-loop-number : goal.packet_to-requires-in-loop-number
packet_to-requires-in-loop-number c =
    let text = c.args.flight.now.text in
    record {
      plain = (
        c.requires.after,
        omega (arith, ap length (c.in_ok-bytes.ensures ∙ c.piece.ensures), length-take 8192 (drop (c.loop-number.number * 8192) text)),
      );
    }
