use Rattle.std.proofs.Common.{rules}
use Rattle.ubik_write.proofs.PieceLists.{part-is_piece}
use Rattle.ubik_write.proofs.flights.Flight.piece.Goals as goal

pub returns : goal.returns
returns c = rw (← c.self.view_is) (search (rules, part-is_piece))
