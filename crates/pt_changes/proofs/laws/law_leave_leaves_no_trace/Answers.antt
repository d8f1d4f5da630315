use Rattle.pt_changes.proofs.Left.{left_holds}
use Rattle.pt_changes.proofs.laws.law_leave_leaves_no_trace.Goals as goal

pub returns : goal.returns
returns c = left_holds
