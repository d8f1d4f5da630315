use Rattle.std.proofs.Common.{inr, arith}
use Rattle.prdb_finds.proofs.places.owned_place.Goals as goal

pub returns-clause-apart : goal.returns-clause-apart
returns-clause-apart c = inr (c.args.number, 108, omega arith, omega arith, omega arith, inr (omega arith))
