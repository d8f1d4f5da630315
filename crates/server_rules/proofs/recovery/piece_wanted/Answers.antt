use Rattle.std.proofs.Common.{sym, subst}
use Rattle.ubik_types.specs.Version.{IsVersion}
use Rattle.server_state.proofs.Polled.{version_best}
use Rattle.server_rules.proofs.recovery.piece_wanted.Goals as goal

pub returns-clause-can : goal.returns-clause-can
returns-clause-can c =
    subst IsVersion (sym c.best.ensures.version) (version_best c.args.state.now.recovery c.args.state.now.of_cell.answers)
