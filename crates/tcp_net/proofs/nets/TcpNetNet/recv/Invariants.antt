use Rattle.std.proofs.Common.{◌≡◌, []}
use Rattle.tcp_net.proofs.nets.TcpNetNet.recv.Given as goal

-- no frame stands in the buffer while the wait goes on
abbrev pub invariant-loop : goal.invariant-loop
invariant-loop g l =
    (goal.iterator-loop g).can_next l.iterator'
    × (goal.iterator-loop g).is_finite l.iterator'
    × (l.frame.items ≡ [])
