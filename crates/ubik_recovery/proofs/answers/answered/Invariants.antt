use Rattle.std.proofs.Common.{◌≡◌, is_some, length, map, take}
use Rattle.ubik_types.specs.declared.limits.TheConstants.{MAXSERVERS}
use Rattle.ubik_recovery.proofs.answers.answered.Given as goal

abbrev pub invariant-loop-i : goal.invariant-loop-i
invariant-loop-i l = (length l.set ≡ MAXSERVERS) × (take l.i l.set ≡ map is_some (take l.i l.answers))
