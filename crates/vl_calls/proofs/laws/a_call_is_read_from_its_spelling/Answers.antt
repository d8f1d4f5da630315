use Rattle.vl_calls.proofs.Again.{spelling_again}
use Rattle.vl_calls.proofs.Taken.{read_alone}
use Rattle.vl_calls.proofs.laws.a_call_is_read_from_its_spelling.Goals as goal

pub returns : goal.returns
returns c = record { read = spelling_again; alone = read_alone }
