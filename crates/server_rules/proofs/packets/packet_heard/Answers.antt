use Rattle.std.proofs.Common.{◌≡◌, ◌∙◌, List, ℕ, Result, IfOk, sym, ap, subst}
use Rattle.ubik_types.specs.declared.memory.NoMemory.{NoMemory}
use Rattle.ubik_calls.specs.declared.packets.Body.{Body}
use Rattle.ubik_calls.specs.declared.packets.Body.TheVariants as body
use Rattle.cell_model.specs.NodeRule.{received_from}
use Rattle.cell_model.specs.Step.{Stepped}
use Rattle.server_state.specs.State.{member_of, server_of}
use Rattle.server_rules.specs.declared.acts.Act.{Act}
use Rattle.server_rules.specs.Acts.{stepped_by}
use Rattle.server_rules.proofs.packets.packet_heard.Goals as goal

heard_as : (r : Result Act NoMemory) (t : Body → Stepped) (u : Act → Stepped) (a b : Body) → a ≡ b → IfOk r (λ act. t b ≡ u act) → IfOk r (λ act. t a ≡ u act)
heard_as r t u a b is heard = subst (λ (x : Body). IfOk r (λ act. t x ≡ u act)) (sym is) heard

pub returns-in-Piece-clause-step : goal.returns-in-Piece-clause-step
returns-in-Piece-clause-step c = λ dbs short.
    let st = c.args.state.now in
    heard_as c.piece_told.result (λ b. received_from dbs (member_of st) (server_of st) c.args.now c.args.host c.args.from b short)
    (λ act. stepped_by dbs (member_of c.piece_told.new.state) c.args.now short (server_of c.piece_told.new.state) act) _ _
    (c.in-Piece.is ∙ ap (λ (bytes : List ℕ). body.Piece c.in-Piece.poll c.in-Piece.version c.in-Piece.total c.in-Piece.offset bytes) (sym c.as_slice.ensures))
    (c.piece_told.ensures.step dbs short)

pub returns-in-SendPiece-clause-step : goal.returns-in-SendPiece-clause-step
returns-in-SendPiece-clause-step c = λ dbs short.
    let st = c.args.state.now in
    heard_as c.piece_sent.result (λ b. received_from dbs (member_of st) (server_of st) c.args.now c.args.host c.args.from b short)
    (λ act. stepped_by dbs (member_of c.piece_sent.new.state) c.args.now short (server_of c.piece_sent.new.state) act) _ _
    (c.in-SendPiece.is ∙ ap (λ (bytes : List ℕ). body.SendPiece c.in-SendPiece.poll c.in-SendPiece.version c.in-SendPiece.total c.in-SendPiece.offset bytes) (sym c.as_slice-in-SendPiece.ensures))
    (c.piece_sent.ensures.step dbs c.args.now short)
