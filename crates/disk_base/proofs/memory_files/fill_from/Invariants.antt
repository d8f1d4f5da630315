use Rattle.std.proofs.Common.{◌-◌, ◌≤◌, ◌∷◌, [], max}
use Rattle.disk_base.specs.declared.touches.Touch.TheVariants.{Wrote}
use Rattle.disk_base.specs.Touches.{IsFilled}
use Rattle.disk_base.proofs.memory_files.fill_from.Given as goal

-- the positions before this one are written
abbrev pub invariant-loop-at : goal.invariant-loop-at
invariant-loop-at l = record {
  filled : IsFilled l.byte (Wrote l.fn.start (l.at - l.fn.start) ∷ []) l.initial.file l.file;
  within : l.at ≤ max l.fn.start l.at-end;
}
