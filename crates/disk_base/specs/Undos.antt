-- What undoes the changing calls of a file since its last sync: the bytes that each of them took.
use Rattle.std.specs.Prelude.{ℕ, ◌+◌, List, [], ◌∷◌, length, take, map}
use Rattle.disk_base.specs.declared.touches.Touch.{Touch}
use Rattle.disk_base.specs.declared.touches.Touch.TheVariants.{Wrote, Cut}
use Rattle.disk_base.specs.declared.undos.Undo.{Undo}
use Rattle.disk_base.specs.Files.{laid}

-- where the bytes stood that a call took
abbrev pub lost_from : Touch → ℕ
lost_from (Wrote at len) = at
lost_from (Cut len) = len

-- where they ended
abbrev pub lost_to : Undo → ℕ
lost_to undo = lost_from undo.touch + length undo.lost.items

-- what a file was before a call that left these bytes
abbrev pub undone : Undo → List ℕ → List ℕ
undone undo bytes = take undo.was (laid bytes (lost_from undo.touch) undo.lost.items)

-- what it was before all of them, the newest of which is the last
abbrev pub all_undone : List Undo → List ℕ → List ℕ
all_undone [] bytes = bytes
all_undone (undo ∷ later) bytes = undone undo (all_undone later bytes)

-- the calls themselves
abbrev pub touches_in : List Undo → List Touch
touches_in undos = map (λ undo. undo.touch) undos
