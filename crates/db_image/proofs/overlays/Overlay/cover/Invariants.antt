use Rattle.std.proofs.Common.{◌+◌, ◌-◌, ◌≤◌, length}
use Rattle.db_image.specs.Draft.{byte_over}
use Rattle.db_image.proofs.Writes.{Written}
use Rattle.db_image.proofs.overlays.Overlay.cover.Given as goal

abbrev pub invariant-loop-done : goal.invariant-loop-done
invariant-loop-done l = record {
  within : l.done ≤ length l.buf;
  laid : Written (λ i beneath. byte_over l.self (l.at + i) beneath) l.initial.buf l.buf l.done;
}

abbrev pub decreases-loop-done : goal.decreases-loop-done
decreases-loop-done l = length l.buf - l.done
