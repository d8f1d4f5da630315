use Rattle.cell_script.proofs.Reading.{ReadsLine_ends}
use Rattle.cell_script.proofs.readers.LimitedReader.next_line.Goals as goal

pub returns-in-Some-clause-told : goal.returns-in-Some-clause-told
returns-in-Some-clause-told g c = λ going.
    ReadsLine_ends g.row.LIMIT _ _ _ _ _ _ _ c.loop-end.invariant.told c.loop-end.invariant.bound c.in-Some.ensures.told
