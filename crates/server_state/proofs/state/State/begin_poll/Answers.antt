use Rattle.std.proofs.Common.{length, arith, sym, subst}
use Rattle.ubik_recovery.specs.Record.{RecoveryRecord}
use Rattle.server_state.specs.Recovering.{IsOfCell}
use Rattle.server_state.proofs.Polled.{of_begun}
use Rattle.server_state.proofs.state.State.begin_poll.Goals as goal

pub invariant_of-self-clause-of_cell : goal.invariant_of-self-clause-of_cell
invariant_of-self-clause-of_cell c =
    let st = c.args.self.now in
    subst (λ (r : RecoveryRecord). IsOfCell (length st.cell) r) (sym c.begin.ensures)
    (of_begun (length st.cell) st.recovery c.args.now st.me st.version
    (record { epoch = omega (arith, st.epoch_fits); counter = omega (arith, st.counter_fits) }) st.of_cell)
