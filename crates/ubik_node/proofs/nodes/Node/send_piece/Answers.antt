use Rattle.ubik_node.specs.Alike.{blank_outputs}
use Rattle.ubik_node.proofs.Alike.{piece_alike, piece_long, send_alike}
use Rattle.std.proofs.Common.{◌≡◌, ◌∙◌, ◌++◌, ℕ, Bool, true, false, cond, List, length, refl, ap, min, ◌-◌, sym}
use Rattle.std.specs.Result.{is_err}
use Rattle.std.proofs.lemmas.Bool.{false≢true}
use Rattle.ubik_calls.specs.declared.packets.Body.{Body}
use Rattle.ubik_calls.specs.declared.packets.Body.TheVariants as body
use Rattle.cell_model.specs.Node.{Server}
use Rattle.cell_model.specs.Pieces.{piece_from}
use Rattle.cell_model.specs.Step.{outputs_of, sends_to}
use Rattle.server_rules.specs.Acts.{own_piece}
use Rattle.server_state.specs.State.{member_of, server_of}
use Rattle.ubik_node.specs.Node.{held}
use Rattle.ubik_node.proofs.Calling.{unread_ends}
use Rattle.ubik_node.proofs.Endings.{handed_ends, read_ends}
use Rattle.ubik_node.proofs.Relabelled.{piece_known}
use Rattle.ubik_node.proofs.nodes.Node.send_piece.Goals as goal

own_as : (s : Server) (poll at : ℕ) (asked : Bool) (bytes : List ℕ) → bytes ≡ piece_from s.image at
    → cond asked (body.Piece poll s.version (length s.image) at bytes) (body.SendPiece poll s.version (length s.image) at bytes) ≡ own_piece s poll at asked
own_as s poll at true bytes is = ap (λ (xs : List ℕ). body.Piece poll s.version (length s.image) at xs) is
own_as s poll at false bytes is = ap (λ (xs : List ℕ). body.SendPiece poll s.version (length s.image) at xs) is

pub returns-in_err-bytes-clause-ends : goal.returns-in_err-bytes-clause-ends
returns-in_err-bytes-clause-ends g c =
    handed_ends g.D.Disk c.from_residual.result c.in_err-bytes.field-0.0 c.from_residual.ensures.1
    (unread_ends g.D.Disk (held c.args.self.now) c.read_piece.new.store c.read_piece.result c.in_err-bytes.field-0.0 c.in_err-bytes.was c.read_piece.ensures.fault c.args.self.now.stored c.requires.not_halted c.read_piece.ensures.same
    c.read_piece.ensures.failed c.read_piece.ensures.disk)

pub returns-clause-ends : goal.returns-clause-ends
returns-clause-ends g c =
    let n = c.args.self.now in
    let st = n.state in
    let s = c.read_piece.new.store in
    let bytes = c.in_ok-bytes.bytes in
    let went = λ (failed : _). false≢true (ap is_err failed) in
    read_ends g.D.Disk (held n) (record (held n) { store = s }) refl refl c.args.self.now.stored c.requires.not_halted c.in_ok-bytes.ensures.disk went
    ((c.in_ok-bytes.ensures.same went).failed ∙ c.requires.not_halted) refl
    (λ told. (
      refl,
      c.send.ensures.sent ∙ ap (λ (x : Body). c.args.out.now ++ outputs_of (sends_to (member_of st) c.args.to x))
          (c.piece_of-piece.ensures.piece ∙ own_as (server_of st) c.args.poll c.args.at c.args.asked bytes
          (piece_known (g.D.Disk.files n.store.disk) bytes st.image c.args.at told c.in_ok-bytes.ensures.piece (c.args.self.now.stored.image c.requires.not_halted))),
    ))

pub returns-clause-alike : goal.returns-clause-alike
returns-clause-alike g c =
    let st = c.args.self.now.state in
    let m = member_of st in
    record {
      server = refl;
      outputs =
          ap blank_outputs (c.send.ensures.sent ∙ ap (λ (x : Body). c.args.out.now ++ outputs_of (sends_to m c.args.to x)) c.piece_of-piece.ensures.piece)
          ∙ send_alike m c.args.to _ (own_piece (server_of st) c.args.poll c.args.at c.args.asked) c.args.out.now
          (piece_alike (server_of st) c.args.poll c.args.at c.args.asked c.in_ok-bytes.bytes
          (c.in_ok-bytes.ensures.len ∙ ap (λ (k : ℕ). min 8192 (k - c.args.at)) (c.args.self.now.stored.len c.requires.not_halted) ∙ sym (piece_long st.image c.args.at)));
    }
