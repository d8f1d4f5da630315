-- A command that was understood.
use Rattle.std.specs.Prelude.{List}
use Rattle.afs_words.specs.declared.tables.Operation.{Operation}
use Rattle.afs_words.specs.declared.values.Slot.{Slot}

-- the operation, and its own switches in the order of the table with their values
pub record Command : Type 0 where
  pub operation : Operation
  pub switches : List Slot
