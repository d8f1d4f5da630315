use Rattle.std.proofs.Common.{◌≡◌}
use Rattle.tcp_net.proofs.connections.Connection.flush.Given as goal

abbrev pub invariant-loop : goal.invariant-loop
invariant-loop l = l.self.origin ≡ l.initial.self.origin
