-- What becomes of a write that a sync site began at another server.
use Rattle.std.specs.Prelude.{◌≡◌, ℕ, Option, Some, None, List, set}
use Rattle.ubik_types.specs.declared.images.Change.{Change}
use Rattle.cell_model.specs.Node.{KeptWrite}
use Rattle.ubik_write.specs.declared.pendings.PendingEnd.{PendingEnd}
use Rattle.ubik_write.specs.declared.pendings.PendingEnd.TheVariants as ended

-- the write with a piece at its place: one at or past the count changes nothing
abbrev pub with_piece_at : ℕ → List ℕ → KeptWrite → KeptWrite
with_piece_at number bytes w = record w { pieces = set w.pieces number (Some bytes) }

-- The end tells the changes, or that there are none. Want of memory tells nothing.
abbrev pub EndsBy : Option (List Change) → PendingEnd → Type 0
EndsBy changes (ended.Whole whole) = changes ≡ Some whole
EndsBy changes ended.Missing = changes ≡ None
EndsBy changes ended.NoMemory = Unit {0}
