use Rattle.std.proofs.Common.{◌-◌, ◌≤◌, length, take}
use Rattle.db_image.specs.Draft.{IsFull, Lays}
use Rattle.db_image.proofs.overlays.Overlay.lay.Given as goal

abbrev pub invariant-loop-done : goal.invariant-loop-done
invariant-loop-done l = record {
  within : l.done ≤ length l.bytes;
  lays : Lays l.at (take l.done l.bytes) l.initial.self l.self;
  full : IsFull l.self;
}

abbrev pub decreases-loop-done : goal.decreases-loop-done
decreases-loop-done l = length l.bytes - l.done
