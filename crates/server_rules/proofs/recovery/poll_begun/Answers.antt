use Rattle.std.proofs.Common.{◌≡◌, None, ap, sym, subst, ◌∙◌, length}
use Rattle.ubik_recovery.specs.Record.{RecoveryRecord, adopted, poll_begun, polled_of, with_text}
use Rattle.cell_model.specs.Recovery.{poll_asked}
use Rattle.server_state.specs.Recovering.{IsOfCell}
use Rattle.server_state.specs.State.{announced, member_of, server_of, server_with}
use Rattle.server_state.proofs.Plain.{own_version}
use Rattle.server_state.proofs.Polled.{of_begun, of_marks}
use Rattle.server_rules.specs.Acts.{GoesOn, stepped_by}
use Rattle.server_rules.proofs.Turns.{begun_asked, goes_as}
use Rattle.server_rules.proofs.recovery.poll_begun.Goals as goal

pub poll_asked-requires-clause-of_cell : goal.poll_asked-requires-clause-of_cell
poll_asked-requires-clause-of_cell c =
    let st = c.args.state.now in
    subst (λ (r : RecoveryRecord). IsOfCell (length st.cell) r)
    (sym (c.begin.ensures ∙ ap (λ (r : RecoveryRecord). poll_begun r c.args.now st.me st.version) c.marks-next.ensures))
    (of_begun (length st.cell) (with_text st.recovery None) c.args.now st.me st.version (own_version st) (of_marks (length st.cell) st.recovery st.of_cell))

pub returns-clause-step : goal.returns-clause-step
returns-clause-step c = λ dbs short.
    let st = c.args.state.now in
    let last = c.poll_asked.new.state in
    let begun = poll_begun (with_text st.recovery None) c.args.now st.me st.version in
    let next : c.begin.new.self ≡ begun = c.begin.ensures ∙ ap (λ (r : RecoveryRecord). poll_begun r c.args.now st.me st.version) c.marks-next.ensures in
    goes_as (begun_asked (member_of st) (server_of st) (announced st) st.recovery c.args.now (sym st.of_cell.servers))
    (subst (λ (r : RecoveryRecord). GoesOn (poll_asked (member_of st) (server_with st (adopted r st.recovery)) (polled_of r) c.args.now)
    (stepped_by dbs (member_of last) c.args.now short (server_of last) c.poll_asked.result) c.args.out.now c.poll_asked.new.out) next (c.poll_asked.ensures.step dbs short))
