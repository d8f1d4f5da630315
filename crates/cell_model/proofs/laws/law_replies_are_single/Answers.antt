use Rattle.cell_model.proofs.GivenReplies.{given_are_single}
use Rattle.cell_model.proofs.SingleReplies.{replies_are_single}
use Rattle.cell_model.proofs.laws.law_replies_are_single.Goals as goal

pub returns : goal.returns
returns c = record { seen = replies_are_single; given = given_are_single }
