use Rattle.std.proofs.Common.{◌<◌, ℕ, get_or}
use Rattle.cell_model.specs.declared.events.Output.{Output}
use Rattle.cell_sites.specs.Telling.{IsNotShort}
use Rattle.cell_sites.proofs.telling.lacks_memory.Given as goal

abbrev pub invariant-loop-place : goal.invariant-loop-place
invariant-loop-place l = (i : ℕ) (d : Output) → i < l.place → IsNotShort (get_or l.out i d)
