use Rattle.std.proofs.Common.{◌-◌}
use Rattle.std.specs.String.{string_bytes}
use Rattle.cell_runs.specs.ScriptDatabase.{script_database}
use Rattle.cell_runs.specs.declared.limits.TheConstants.{MAX_PACKETS}
use Rattle.cell_sites.proofs.Following.{Follows}
use Rattle.cell_sites.proofs.cells.OpenCell.deliver_all.Given as goal

abbrev pub invariant-loop : goal.invariant-loop
invariant-loop g l =
    Follows g.D.Disk (script_database g.V.DraftService.standing.database g.V.DraftWords.words) MAX_PACKETS (MAX_PACKETS - l.counter)
    l.initial.self l.self (string_bytes l.initial.text) (string_bytes l.text)
