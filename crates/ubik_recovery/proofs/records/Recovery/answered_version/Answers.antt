use Rattle.std.proofs.Common.{sym, arith}
use Rattle.ubik_recovery.proofs.Places.{entry_at-take, entry_at-past}
use Rattle.ubik_recovery.proofs.records.Recovery.answered_version.Goals as goal

pub returns-then-from-self : goal.returns-then-from-self
returns-then-from-self c =
    rw (← c.self.view_is) (sym (entry_at-take c.self.inside.servers c.self.inside.answers c.args.from (omega arith)))

pub returns-else-from-self : goal.returns-else-from-self
returns-else-from-self c =
    rw (← c.self.view_is) (sym (entry_at-past c.self.inside.servers c.self.inside.answers c.args.from (omega arith)))
