use Rattle.std.proofs.Common.{length, subst, sym}
use Rattle.std.proofs.lemmas.Bool.{cond_both}
use Rattle.server_state.specs.Recovering.{IsOfCell}
use Rattle.server_state.proofs.state.State.restore_phase.Goals as goal

pub invariant_of-self-clause-of_cell : goal.invariant_of-self-clause-of_cell
invariant_of-self-clause-of_cell c =
    let st = c.args.self.now in
    let n = length st.cell in
    let given : IsOfCell n c.in-Some.dropped.recovery = rw c.in-Some.is at c.requires.given in
    subst (IsOfCell n) (sym c.restore.ensures)
    (cond_both _ _ _ (IsOfCell n) (λ _. given)
    (λ _. record { servers = given.servers; answers = given.answers; old = given.old; text = st.of_cell.text }))
