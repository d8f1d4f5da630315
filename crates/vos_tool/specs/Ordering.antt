-- Entries in the order of their names' bytes; equal names keep their order.
use Rattle.std.specs.Prelude.{Bool, if◌then◌else◌, List, [], ◌∷◌}
use Rattle.std.specs.Cmp.Lexicographic.{slice_cmp}
use Rattle.std.specs.Ordering.{is_lt, nat_cmp}
use Rattle.vldb_entries.specs.declared.entries.VlEntry.{VlEntry}

-- an element goes behind those that come before it, and before all others
unfoldable pub put_in : {X : Type 0} → (X → X → Bool) → X → List X → List X
put_in before e [] = e ∷ []
put_in before e (x ∷ xs) = if before x e then x ∷ put_in before e xs else e ∷ x ∷ xs

-- the last goes in first, so that elements of which none comes before another keep their order
unfoldable pub sorted_by : {X : Type 0} → (X → X → Bool) → List X → List X
sorted_by before [] = []
sorted_by before (x ∷ xs) = put_in before x (sorted_by before xs)

abbrev pub comes_before : VlEntry → VlEntry → Bool
comes_before a b = is_lt (slice_cmp nat_cmp a.name b.name)

abbrev pub by_name : List VlEntry → List VlEntry
by_name es = sorted_by comes_before es
