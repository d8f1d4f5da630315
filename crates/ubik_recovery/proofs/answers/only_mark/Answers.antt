use Rattle.std.proofs.Common.{true, false}
use Rattle.ubik_types.specs.declared.limits.TheConstants.{MAXSERVERS}
use Rattle.ubik_recovery.proofs.Places.{take-only_at}
use Rattle.ubik_recovery.proofs.answers.only_mark.Goals as goal

pub returns : goal.returns
returns c = λ n few. take-only_at n MAXSERVERS c.args.me true false few
