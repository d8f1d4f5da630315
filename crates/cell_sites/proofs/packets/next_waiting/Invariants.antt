use Rattle.std.proofs.Common.{◌≡◌, ◌<◌, ◌≤◌, true, false, ℕ, get_or}
use Rattle.cell_sites.proofs.packets.next_waiting.Given as goal

abbrev pub invariant-loop-k : goal.invariant-loop-k
invariant-loop-k l = (j : ℕ) → l.low ≤ j → j < l.k → get_or l.handed j false ≡ true
