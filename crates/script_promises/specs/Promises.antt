-- What the run of a script of one server is worth (own).
use Rattle.std.specs.Prelude.{◌≡◌, IfSome, List}
use Rattle.db_image.specs.Standing.{Standing}
use Rattle.cell_runs.specs.Script.{LineRead, Cell, cell_size_of, told}
use Rattle.script_laws.specs.Runs.{FindsMemory}
use Rattle.script_promises.specs.Databases.{databases, standing_of}
use Rattle.script_promises.specs.Kept.{IsKept}
use Rattle.script_promises.specs.Order.{HasOneOrder}
use Rattle.script_promises.specs.Replies.{HasSingleReplies}

-- Committed transactions have one order, and what is acknowledged stays in it. Where memory is found, replies are those of a single copy.
pub record HasPromises (d : Standing) (c : Cell) : Type 0 where
  pub order : HasOneOrder d c
  pub kept : IsKept d c
  pub replies : FindsMemory c → HasSingleReplies d c

-- so it is of a cell's own database, where the cell has one server
abbrev pub KeepsPromises : Cell → Type 0
KeepsPromises c = cell_size_of c ≡ 1 → HasPromises (standing_of c) c

-- Whatever the lines, and whatever the disks do: a cell of one server that stands after them has this.
abbrev pub ScriptsKeepPromises : Type 0
ScriptsKeepPromises = (readings : List LineRead) → IfSome (told databases readings).stage.cell KeepsPromises
