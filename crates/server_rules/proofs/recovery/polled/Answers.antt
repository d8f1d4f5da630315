use Rattle.std.proofs.Common.{sym, subst}
use Rattle.ubik_types.specs.Version.{IsVersion}
use Rattle.server_state.proofs.Polled.{version_best}
use Rattle.server_rules.proofs.recovery.polled.Goals as goal

pub returns-then-lt-clause-leaves : goal.returns-then-lt-clause-leaves
returns-then-lt-clause-leaves c = record {
  can = subst IsVersion (sym c.best.ensures.version) (version_best c.args.next c.requires.of_cell.answers);
  kept = c.adopt-then-lt.ensures.kept;
  halts = λ fails. absurd fails;
  stays = λ short. absurd short;
}
