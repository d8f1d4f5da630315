use Rattle.prdb_members.specs.Changes.{without_id}
use Rattle.prdb_members.specs.Sides.{HasInList}
use Rattle.prdb_members.proofs.PartingEnds.{Going}
use Rattle.prdb_members.proofs.partings.take_from_all.Given as goal

abbrev pub invariant-loop-entry : goal.invariant-loop-entry
invariant-loop-entry g l =
    Going g.I.ImageRead l.fn.d l.d (HasInList l.id) (λ entry. without_id entry l.id) l.entries l.entry-index
