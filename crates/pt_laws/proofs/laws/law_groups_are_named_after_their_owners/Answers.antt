use Rattle.pt_laws.proofs.NamesFollow.{names_follow}
use Rattle.pt_laws.proofs.laws.law_groups_are_named_after_their_owners.Goals as goal

pub returns : goal.returns
returns c = names_follow
