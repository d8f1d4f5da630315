-- What is free in a step of a node.
use Rattle.std.specs.Prelude.{Bool, List, []}
use Rattle.db_image.specs.Standing.{Standing}
use Rattle.cell_model.specs.Evaluating.{Databases, MayAllCome, Told, told_by}

-- which of its replies are for want of memory, and what came of calls over an image that holds no state of the database
pub record Choices (d : Standing) : Type 0 where
  pub short : List Bool
  pub told : Told
  pub may : MayAllCome d told

-- the databases by which its calls are evaluated, in their order
abbrev pub dbs_of : {d : Standing} → Choices d → Databases
dbs_of {d} o = told_by d.database o.told

-- nothing was chosen: each call found memory, and is evaluated as the database has it
abbrev pub none_chosen : (d : Standing) → Choices d
none_chosen d = record { short = []; told = []; may = tt }
