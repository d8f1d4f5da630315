use Rattle.std.proofs.Common.{Some, None, ap, ◌∙◌}
use Rattle.cell_model.specs.Polls.{only_at}
use Rattle.ubik_recovery.specs.Record.{RecoveryRecord}
use Rattle.ubik_recovery.proofs.records.Recovery.begin.Goals as goal

pub returns : goal.returns
returns c =
    let answers = c.only_answer-self-inside.ensures c.self.inside.servers c.self.invariant.few in
    let polls = λ (r : RecoveryRecord). record r { poll = c.args.now; answers = only_at (Some c.args.own) None r.servers c.args.me } in
    rw answers (ap polls (c.self.view_is ∙ c.set_phase.ensures))
