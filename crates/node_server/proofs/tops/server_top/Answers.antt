use Rattle.std.proofs.Common.{arith}
use Rattle.node_server.proofs.InMemory.{full_in_memory}
use Rattle.node_server.proofs.tops.server_top.Goals as goal

pub returns-clause-journal_full : goal.returns-clause-journal_full
returns-clause-journal_full g c = λ entries bytes is.
    full_in_memory _ _ _ entries bytes c.new-journal.ensures.limits (omega arith) c.server_over.ensures.explained.kept
    (c.server_over.ensures.explained.journal_full entries bytes is)
