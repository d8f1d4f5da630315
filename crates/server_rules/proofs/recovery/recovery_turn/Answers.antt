use Rattle.std.proofs.Common.{◌≡◌, ◌∙◌, true, false, length, sym, ap, subst}
use Rattle.ubik_types.specs.declared.phases.Phase.TheVariants as phase
use Rattle.cell_model.specs.Recovery.{poll_asked, recovered, relabelled}
use Rattle.ubik_recovery.specs.Record.{RecoveryRecord, adopted, is_fetch, polled_of}
use Rattle.server_state.specs.Recovering.{IsOfCell}
use Rattle.server_state.specs.State.{announced, member_of, server_of, server_with}
use Rattle.server_state.proofs.Polled.{of_marks}
use Rattle.server_rules.proofs.Turns.{goes_as, leased_here, marks_back, rests_on, shown_on, turn_begins, turn_fetch_over, turn_fetches, turn_in, turn_rests}
use Rattle.server_rules.proofs.recovery.recovery_turn.Goals as goal

pub returns-in-None-clause-step : goal.returns-in-None-clause-step
returns-in-None-clause-step c = λ dbs short.
    let st = c.args.state.now in
    goes_as (turn_begins (member_of st) (server_of st) c.args.now (announced st) st.recovery (sym c.phase.ensures ∙ c.in-None.is)
    (leased_here st c.args.now true st.voters (sym c.in_lease-leased.ensures ∙ c.if-leased.true))) (c.poll_begun.ensures.step dbs short)

pub returns-in-None-2-clause-step : goal.returns-in-None-2-clause-step
returns-in-None-2-clause-step c = λ dbs short.
    let st = c.args.state.now in
    rests_on (turn_rests (member_of st) (server_of st) c.args.now (announced st) st.recovery (sym c.phase.ensures ∙ c.in-None-2.is)
    (leased_here st c.args.now false st.voters (sym c.in_lease-leased.ensures ∙ c.if-leased.false)))

pub returns-in-Poll-clause-step : goal.returns-in-Poll-clause-step
returns-in-Poll-clause-step c = λ dbs short.
    let st = c.args.state.now in
    let m = member_of st in
    let r = st.recovery in
    let is = sym c.phase.ensures ∙ c.in-Poll.is in
    let same : poll_asked m (server_with st (adopted c.marks-next.result r)) (polled_of c.marks-next.result) c.args.now ≡ poll_asked m (server_of st) (polled_of r) c.args.now =
    ap (λ (x : RecoveryRecord). poll_asked m (server_with st (adopted x r)) (polled_of x) c.args.now) c.marks-next.ensures
    ∙ ap (λ (x : RecoveryRecord). poll_asked m (server_with st x) (polled_of r) c.args.now) (marks_back r (ap is_fetch is)) in
    goes_as (turn_in m (server_of st) c.args.now (announced st) r phase.Poll is ∙ sym same) (c.poll_asked.ensures.step dbs short)

pub returns-in-Fetch-clause-step : goal.returns-in-Fetch-clause-step
returns-in-Fetch-clause-step c = λ dbs short.
    let st = c.args.state.now in
    goes_as (turn_fetch_over (member_of st) (server_of st) c.args.now (announced st) st.recovery (sym c.phase.ensures ∙ c.in-Fetch.is) (sym c.poll_is_over-over.ensures ∙ c.if-over.true))
    (c.poll_begun-in-Fetch.ensures.step dbs short)

pub returns-in-Fetch-2-clause-step : goal.returns-in-Fetch-2-clause-step
returns-in-Fetch-2-clause-step c = λ dbs short.
    let st = c.args.state.now in
    rests_on (turn_fetches (member_of st) (server_of st) c.args.now (announced st) st.recovery (sym c.phase.ensures ∙ c.in-Fetch-2.is) (sym c.poll_is_over-over.ensures ∙ c.if-over.false)
    ∙ c.piece_wanted.ensures.step dbs c.args.now short)

pub returns-in-Relabel-clause-step : goal.returns-in-Relabel-clause-step
returns-in-Relabel-clause-step c = λ dbs short.
    let st = c.args.state.now in
    let m = member_of st in
    let r = st.recovery in
    let next = c.marks-next-in-Relabel in
    let is = sym c.phase.ensures ∙ c.in-Relabel.is in
    let same : relabelled m (server_with st (adopted next.result r)) (polled_of next.result) c.args.now ≡ relabelled m (server_of st) (polled_of r) c.args.now =
    ap (λ (x : RecoveryRecord). relabelled m (server_with st (adopted x r)) (polled_of x) c.args.now) next.ensures
    ∙ ap (λ (x : RecoveryRecord). relabelled m (server_with st x) (polled_of r) c.args.now) (marks_back r (ap is_fetch is)) in
    rests_on (turn_in m (server_of st) c.args.now (announced st) r phase.Relabel is ∙ sym same ∙ c.relabelled.ensures.step dbs short)

pub returns-in_ok-spread_again-in-Send-clause-step : goal.returns-in_ok-spread_again-in-Send-clause-step
returns-in_ok-spread_again-in-Send-clause-step c = λ dbs short.
    let st = c.args.state.now in
    shown_on (recovered (member_of st) (server_of st) c.args.now (server_of st).phase) (server_of c.spread_again.new.self) (c.in_ok-spread_again-in-Send.ensures.shows c.args.now)

pub poll_asked-requires-clause-of_cell : goal.poll_asked-requires-clause-of_cell
poll_asked-requires-clause-of_cell c =
    let st = c.args.state.now in subst (λ (r : RecoveryRecord). IsOfCell (length st.cell) r) (sym c.marks-next.ensures) (of_marks (length st.cell) st.recovery st.of_cell)

pub relabelled-requires-clause-of_cell : goal.relabelled-requires-clause-of_cell
relabelled-requires-clause-of_cell c =
    let st = c.args.state.now in subst (λ (r : RecoveryRecord). IsOfCell (length st.cell) r) (sym c.marks-next-in-Relabel.ensures) (of_marks (length st.cell) st.recovery st.of_cell)
