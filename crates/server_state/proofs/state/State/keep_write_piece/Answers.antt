use Rattle.std.proofs.Common.{◌∙◌}
use Rattle.server_state.proofs.KeptWrites.{same_new, still_over}
use Rattle.server_state.proofs.state.State.keep_write_piece.Goals as goal

pub invariant_of-self-then-ne-clause-begun : goal.invariant_of-self-then-ne-clause-begun
invariant_of-self-then-ne-clause-begun c = λ w is. c.args.self.now.begun w (c.in-Some.is ∙ is)

pub invariant_of-self-2-clause-begun : goal.invariant_of-self-2-clause-begun
invariant_of-self-2-clause-begun c =
    let st = c.args.self.now in
    still_over st.version c.in-Some.write _
    (same_new c.piece.result c.args.number c.args.bytes.now _ _ c.piece.ensures.ok c.piece.ensures.err)
    (st.begun c.in-Some.write c.in-Some.is)
