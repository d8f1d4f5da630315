-- Entries that get other text before the `:` of their names, and the order in which they do: that of their blocks.
use Rattle.std.specs.Prelude.{ℕ, ℤ, zero, suc, Bool, List, [], ◌∷◌, ◌++◌, if◌then◌else◌}
use Rattle.prdb_layout.specs.Blocks.{block_count}
use Rattle.prdb_layout.specs.Records.{block_in, entry_in}
use Rattle.prdb_layout.specs.Registry.{Registry}
use Rattle.prdb_layout.specs.State.{PrEntry}
use Rattle.pt_service.specs.Names.{with_front}
use Rattle.entry_scans.specs.Sought.{is_sought}
use Rattle.prdb_turns.specs.Refits.{MayRefits, after_refits, with_refits}

-- ---- names

-- an entry with other text before the `:` of its name
abbrev pub fronted : (front : List ℕ) → PrEntry → PrEntry
fronted front e = record e { name = with_front front e.name }

-- the entries of these ids have it, one after the other
abbrev pub after_fronts : (front : List ℕ) → List ℤ → Registry → List ℕ → List ℕ
after_fronts front those r image = after_refits (fronted front) those r image

abbrev pub with_fronts : (front : List ℕ) → List ℤ → Registry → Registry
with_fronts front those r = with_refits (fronted front) those r

-- they are there and may, one after the other
abbrev pub MayFronts : (front : List ℕ) → List ℤ → Registry → Type 0
MayFronts front those r = MayRefits (fronted front) those r

-- ---- in the order of their blocks

-- the id in a block, if that is of an entry which meets a test
abbrev pub id_if : (PrEntry → Bool) → (block : List ℕ) → List ℤ
id_if test block = if is_sought test block then (entry_in block).id ∷ [] else []

-- the ids of the entries that meet a test, of so many first blocks, in their order
abbrev pub ids_before : (PrEntry → Bool) → (count : ℕ) → List ℕ → List ℤ
ids_before test zero image = []
ids_before test (suc count) image = ids_before test count image ++ id_if test (block_in image count)

-- of all blocks
abbrev pub ids_by_block : (PrEntry → Bool) → List ℕ → List ℤ
ids_by_block test image = ids_before test (block_count image) image
