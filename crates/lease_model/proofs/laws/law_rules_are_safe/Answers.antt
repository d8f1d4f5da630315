use Rattle.lease_model.proofs.Numbers.{cell_is_safe, kept_74_is_safe, lease_61_is_safe}
use Rattle.lease_model.proofs.laws.law_rules_are_safe.Goals as goal

pub returns-clause-cell : goal.returns-clause-cell
returns-clause-cell c = cell_is_safe c.vote_quorums_share_a_server.ensures

pub returns-clause-kept_74 : goal.returns-clause-kept_74
returns-clause-kept_74 c = kept_74_is_safe c.vote_quorums_share_a_server.ensures

pub returns-clause-lease_61 : goal.returns-clause-lease_61
returns-clause-lease_61 c = lease_61_is_safe c.vote_quorums_share_a_server.ensures
