use Rattle.std.proofs.Common.{sym, ◌∙◌}
use Rattle.std.specs.Int.{w32}
use Rattle.std.proofs.lemmas.Int.{to_z-of_z}
use Rattle.prdb_layout.specs.RecordEnds.{seen}
use Rattle.prdb_entries.proofs.Empty.{empty_stays, not_stays}
use Rattle.prdb_entries.proofs.replaces.stays_empty.Goals as goal

pub returns-then-len-ne0-clause-value : goal.returns-then-len-ne0-clause-value
returns-then-len-ne0-clause-value c = λ image same.
    not_stays image c.args.id (seen c.args.e.now) (λ none. c.if-len-ne0.true (sym same ∙ none))

pub returns-clause-value : goal.returns-clause-value
returns-clause-value c =
    empty_stays c.is_first.result c.args.id (seen c.args.e.now) c.args.len c.if-len-ne0.false
    (rw (to_z-of_z w32 c.args.id c.ranges.id) at c.is_first.ensures.value)
