use Rattle.std.proofs.Common.{Option, Some, None}
use Rattle.ubik_types.specs.declared.limits.TheConstants.{MAXSERVERS}
use Rattle.ubik_types.specs.declared.versions.Version.{Version}
use Rattle.ubik_recovery.proofs.Places.{take-only_at}
use Rattle.ubik_recovery.proofs.answers.only_answer.Goals as goal

pub returns : goal.returns
returns c = λ n few. let none : Option Version = None in take-only_at n MAXSERVERS c.args.me (Some c.args.own) none few
