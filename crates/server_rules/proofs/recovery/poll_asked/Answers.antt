use Rattle.std.proofs.Common.{◌++◌, ℕ, List, length, ap, ◌∙◌}
use Rattle.ubik_types.specs.Quorum.{marked}
use Rattle.ubik_recovery.specs.Record.{polled_of}
use Rattle.cell_model.specs.Polls.{is_marked}
use Rattle.cell_model.specs.Recovery.{asks_versions, has_answered}
use Rattle.cell_model.specs.Step.{Shown, Stepped, outputs_of}
use Rattle.server_state.specs.State.{member_of}
use Rattle.server_rules.proofs.Turns.{asks_answered}
use Rattle.server_rules.proofs.recovery.poll_asked.Goals as goal

pub returns-clause-step : goal.returns-clause-step
returns-clause-step c = λ dbs short.
    let st = c.args.state.now in
    let next = c.args.next in
    let m = member_of st in
    let poll = polled_of next in
    record {
      shown = asks_versions m poll.number (has_answered poll);
      outputs =
          c.ask_versions.ensures.asked
          ∙ ap (λ (p : ℕ). c.args.out.now ++ outputs_of (asks_versions m p (is_marked (marked (length st.cell) c.answered.result.set)))) c.poll.ensures
          ∙ ap (λ (shown : List Shown). c.args.out.now ++ outputs_of shown) (asks_answered m poll (length st.cell) next.servers c.answered.result.set c.answered.ensures c.requires.of_cell.servers);
      step = ap (λ (u : Stepped). record { server = u.server; calls = u.calls; shown = asks_versions m poll.number (has_answered poll) ++ u.shown }) (c.polled.ensures.step dbs short);
    }

pub polled-requires-clause-of_cell : goal.polled-requires-clause-of_cell
polled-requires-clause-of_cell c = c.requires.of_cell
