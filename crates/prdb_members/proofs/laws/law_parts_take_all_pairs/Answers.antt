use Rattle.prdb_members.proofs.PartedAll.{parts_hold}
use Rattle.prdb_members.proofs.laws.law_parts_take_all_pairs.Goals as goal

pub returns : goal.returns
returns c = λ image r m id others. parts_hold others image r m id
