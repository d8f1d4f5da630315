use Rattle.std.proofs.Common.{length, take, drop, ◌-◌, ◌∙◌, ap, ◌≤◌, List, ℕ, arith}
use Rattle.std.proofs.lemmas.Slice.{between_to_end}
use Rattle.tcp_net.proofs.Cuts.{moves}
use Rattle.tcp_net.proofs.queues.Queue.write.Goals as goal

pub returns-clause-ok : goal.returns-clause-ok
returns-clause-ok g c =
    let all = c.deref.result.now in
    let sent = c.args.self.now.sent in
    moves
    (g.W.Write.contents c.args.writer.now)
    (g.W.Write.contents c.write.new.self)
    c.args.self.now.begun.items
    (take (length all - sent) (drop sent all))
    _
    sent
    c.in_ok-count.count
    (between_to_end all sent (length all) (omega arith) ∙ ap (λ (r : List ℕ). drop sent r) c.deref.ensures.value)
    c.in_ok-count.ensures.bytes
