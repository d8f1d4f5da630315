use Rattle.server_rules.proofs.packets.write_heard.Goals as goal

pub returns-in-Commit-clause-step : goal.returns-in-Commit-clause-step
returns-in-Commit-clause-step c = λ dbs now from short. rw c.in-Commit.is (c.write_committed.ensures.step dbs now short)
