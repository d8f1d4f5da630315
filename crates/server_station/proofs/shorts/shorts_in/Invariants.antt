use Rattle.std.proofs.Common.{◌≡◌, ◌%◌, drop}
use Rattle.std.specs.Prelude.{◌^◌}
use Rattle.server_journal.specs.Items.{bits, shorts_of}
use Rattle.server_station.proofs.shorts.shorts_in.Given as goal

-- the bits of the replies from this place on
abbrev pub invariant-loop-place : goal.invariant-loop-place
invariant-loop-place l = l.short ≡ bits (shorts_of (drop l.place l.outputs)) % 2 ^ 128

abbrev pub decreases-loop-place : goal.decreases-loop-place
decreases-loop-place l = l.place
