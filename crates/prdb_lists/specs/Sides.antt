-- One list of pairs among those of all entries: what holds of an image without words of chains between the two sides of a
-- change of a pair.
use Rattle.std.specs.Prelude.{ℕ, ℤ, ◌≡◌, ◌≢◌, ◌+◌, ◌<◌, ◌≤◌, List, IsSome, if◌then◌else◌, length}
use Rattle.std.specs.List.{Contains}
use Rattle.std.specs.Ordering.{int_eq}
use Rattle.db_blocks.specs.Blocks.{kind_of}
use Rattle.prdb_layout.specs.Blocks.{block_count}
use Rattle.prdb_layout.specs.Records.{IsLaidOut, block_in, entry_in}
use Rattle.prdb_layout.specs.Registry.{Registry, IsRegistry}
use Rattle.prdb_lists.specs.Layout.{AreLists, PairList}
use Rattle.prdb_lists.specs.declared.sides.Place.{Place}

-- An image that is not empty holds a registry, and a list for each entry. Nothing is said of whose ids stand in a list.
pub record HasLists (image : List ℕ) (r : Registry) (lists : ℤ → PairList) : Type 0 where
  pub valid : IsRegistry r
  pub laid : IsLaidOut image r
  pub are : AreLists image r lists

-- The ids of its lists are those of entries. The other side of a pair may be missing.
pub record HoldsLists (image : List ℕ) (r : Registry) (lists : ℤ → PairList) : Type 0 where
  pub has : HasLists image r lists
  pub members : (id : ℤ) → IsSome (r.entry id) → (other : ℤ) → Contains (lists id).ids other → IsSome (r.entry other)

-- where an entry stands that is there, and its list
pub record IsPlace (image : List ℕ) (r : Registry) (lists : ℤ → PairList) (p : Place) : Type 0 where
  pub there : IsSome (r.entry p.entry)
  pub below : p.found.number < block_count image
  pub kind : kind_of (block_in image p.found.number) ≡ 1
  pub id : (entry_in (block_in image p.found.number)).id ≡ p.entry
  pub block : p.found.block ≡ block_in image p.found.number
  pub ids : p.listed.ids ≡ (lists p.entry).ids
  pub more : p.listed.more.items ≡ (lists p.entry).more

-- with this list for an entry
abbrev pub set_list : ℤ → PairList → (ℤ → PairList) → ℤ → PairList
set_list x l lists id = if int_eq id x then l else lists id

-- The list of the entry in a block has these ids now. All other lists are as they were, and so are the blocks of the other entries.
pub record IsRelisted (old new : List ℕ) (longer : ℕ) (r : Registry) (lists : ℤ → PairList) (k : ℕ) (entry : ℤ)
    (ids : List ℤ) : Type 0 where
  pub list : PairList
  pub has : list.ids ≡ ids
  pub holds : HoldsLists new r (set_list entry list lists)
  pub size : length new ≤ length old + longer
  pub others : (j : ℕ) → j < block_count old → j ≢ k → kind_of (block_in old j) ≡ 1
      → (j < block_count new) × (block_in new j ≡ block_in old j)
