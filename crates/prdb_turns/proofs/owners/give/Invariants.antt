use Rattle.prdb_turns.specs.Owners.{with_owner}
use Rattle.prdb_turns.proofs.Refitting.{Refitting}
use Rattle.prdb_turns.proofs.owners.give.Given as goal

abbrev pub invariant-loop-id : goal.invariant-loop-id
invariant-loop-id g l = Refitting g.I.ImageRead (with_owner l.owner) l.fn.d l.d l.ids l.id-index
