use Rattle.std.proofs.Common.{◌≡◌, ◌-◌, drop}
use Rattle.ubik_types.proofs.HostOrder.{first_twice}
use Rattle.ubik_types.proofs.hosts.first_repeated.Given as goal

abbrev pub invariant-loop-i : goal.invariant-loop-i
invariant-loop-i l = first_twice l.sorted ≡ first_twice (drop (l.i - 1) l.sorted)
