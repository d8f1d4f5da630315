use Rattle.std.proofs.Common.{arith}
use Rattle.ubik_calls.specs.Fields.{field_spelling, spelled}
use Rattle.server_diary.proofs.looking.look.Goals as goal

pub encode-requires : goal.encode-requires
unfolding spelled field_spelling
encode-requires g c = record { bounded = (tt, (tt, tt)); bound = omega arith }
