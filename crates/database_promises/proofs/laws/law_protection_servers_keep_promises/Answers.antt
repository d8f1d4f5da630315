use Rattle.database_promises.proofs.laws.law_protection_servers_keep_promises.Goals as goal

pub returns : goal.returns
returns c = c.law_running_servers_keep_promises.ensures.service (λ none. absurd (cc))
