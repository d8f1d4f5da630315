use Rattle.std.proofs.Common.{true}
use Rattle.ubik_recovery.proofs.Places.{take-set_any}
use Rattle.ubik_recovery.proofs.records.Recovery.hold.Goals as goal

pub returns : goal.returns
returns c =
    let holders = take-set_any c.self.inside.servers c.self.inside.holders c.args.from true in
    rw (← c.self.view_is) cc
