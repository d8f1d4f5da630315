use Rattle.std.proofs.Common.{length}
use Rattle.std.specs.String.{string_bytes}
use Rattle.cell_runs.specs.ScriptDatabase.{script_database}
use Rattle.cell_sites.proofs.TellingOn.{TellsOn}
use Rattle.cell_sites.proofs.telling.tell_outputs.Given as goal

abbrev pub invariant-loop-output : goal.invariant-loop-output
invariant-loop-output g l =
    TellsOn (script_database g.V.DraftService.standing.database g.V.DraftWords.words) l.hosts l.server l.calls
    (string_bytes l.initial.text) l.initial.packets l.initial.out (string_bytes l.text) l.packets l.out

abbrev pub decreases-loop-output : goal.decreases-loop-output
decreases-loop-output g l = length l.out
