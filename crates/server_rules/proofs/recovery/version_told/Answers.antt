use Rattle.std.proofs.Common.{◌∙◌, None, length, sym, ap, subst}
use Rattle.ubik_recovery.specs.Record.{RecoveryRecord, answered_by, with_text}
use Rattle.server_state.proofs.Polled.{of_answered, of_marks}
use Rattle.server_state.specs.Recovering.{IsOfCell}
use Rattle.server_rules.proofs.recovery.version_told.Goals as goal

pub polled-requires-clause-of_cell : goal.polled-requires-clause-of_cell
polled-requires-clause-of_cell c =
    let st = c.args.state.now in
    subst (λ (r : RecoveryRecord). IsOfCell (length st.cell) r)
    (sym (c.answer.ensures ∙ ap (λ (r : RecoveryRecord). answered_by r c.args.from c.args.version) c.marks-next.ensures))
    (of_answered (length st.cell) (with_text st.recovery None) c.args.from c.args.version c.requires.version (of_marks (length st.cell) st.recovery st.of_cell))
