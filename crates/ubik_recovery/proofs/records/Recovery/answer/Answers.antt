use Rattle.std.proofs.Common.{Some}
use Rattle.ubik_recovery.proofs.Places.{take-set_any}
use Rattle.ubik_recovery.proofs.records.Recovery.answer.Goals as goal

pub returns : goal.returns
returns c =
    let answers = take-set_any c.self.inside.servers c.self.inside.answers c.args.from (Some c.args.version) in
    rw (← c.self.view_is) cc
