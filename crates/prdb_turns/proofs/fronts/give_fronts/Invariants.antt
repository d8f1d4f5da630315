use Rattle.prdb_turns.specs.Fronts.{fronted}
use Rattle.prdb_turns.proofs.Refitting.{Refitting}
use Rattle.prdb_turns.proofs.fronts.give_fronts.Given as goal

abbrev pub invariant-loop-id : goal.invariant-loop-id
invariant-loop-id g l = Refitting g.I.ImageRead (fronted l.front) l.fn.d l.d l.ids l.id-index
