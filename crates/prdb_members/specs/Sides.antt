-- One list of pairs among those of all entries: what holds of an image between the two sides of a change of a pair.
use Rattle.std.specs.Prelude.{ℕ, ℤ, ◌+◌, List, [], ◌∷◌, IsSome}
use Rattle.std.specs.List.{Contains}
use Rattle.db_blocks.specs.Blocks.{IsWhole}
use Rattle.db_chains.specs.Ends.{HasSome}
use Rattle.db_chains.specs.Free.{free_links, with_freed as with_free_block}
use Rattle.prdb_layout.specs.Registry.{Registry}
use Rattle.prdb_layout.specs.declared.blocks.TheConstants.{HEAD_LEN}
use Rattle.prdb_lists.specs.Layout.{PairList}
use Rattle.prdb_lists.specs.Sides.{HasLists as HasPlainLists, IsPlace}
use Rattle.prdb_lists.specs.declared.sides.Place.{Place}
use Rattle.prdb_finds.specs.Places.{free_blocks}
use Rattle.prdb_finds.specs.Records.{AreChains}
use Rattle.prdb_finds.specs.Unchained.{unchained}
use Rattle.prdb_members.specs.Changes.{without_id}

-- An image that is not empty holds a registry with its chains, and a list for each entry. Nothing is said of whose ids stand in a list.
pub record HasLists (image : List ℕ) (r : Registry) (lists : ℤ → PairList) : Type 0 where
  pub size : IsWhole HEAD_LEN image
  pub without : HasPlainLists (unchained image) r lists
  pub chains : AreChains image

-- The ids of its lists are those of entries. The other side of a pair may be missing.
pub record HoldsLists (image : List ℕ) (r : Registry) (lists : ℤ → PairList) : Type 0 where
  pub has : HasLists image r lists
  pub members : (id : ℤ) → IsSome (r.entry id) → (other : ℤ) → Contains (lists id).ids other → IsSome (r.entry other)

-- an image has lists, and the entry is there
abbrev pub HasEntry : ℤ → List ℕ → Type 0
HasEntry entry image = (r : Registry) × (lists : ℤ → PairList) × HasLists image r lists × IsSome (r.entry entry)

-- an image holds lists, and a place is one of it, and the other entry is there
abbrev pub HoldsPlace : Place → ℤ → List ℕ → Type 0
HoldsPlace p id image = (r : Registry) × (lists : ℤ → PairList) × HoldsLists image r lists × IsPlace image r lists p × IsSome (r.entry id)

-- an image of a head and whole blocks has a chain of its free blocks
abbrev pub HasFreeChain : List ℕ → Type 0
HasFreeChain image = HasSome (free_links free_blocks) 20 image

-- an image holds lists, and an entry that is there has the id of another one in its list
abbrev pub HasInList : (id entry : ℤ) → List ℕ → Type 0
HasInList id entry image =
    (r : Registry) × (lists : ℤ → PairList) × HoldsLists image r lists × IsSome (r.entry entry) × IsSome (r.entry id)
    × Contains (lists entry).ids id

-- ---- one change after the other

-- when its turn comes, each of these may be changed
abbrev pub CanEach : {X : Type 0} → (X → List ℕ → Type 0) → (X → List ℕ → List ℕ) → List X → List ℕ → Type 0
CanEach may change [] image = Unit {0}
CanEach may change (x ∷ xs) image = may x image × CanEach may change xs (change x image)

abbrev pub CanFree : List ℕ → List ℕ → Type 0
CanFree more image = CanEach (λ k. HasFreeChain) (λ k. with_free_block free_blocks (k + 1)) more image

abbrev pub CanLose : (id : ℤ) → (entries : List ℤ) → List ℕ → Type 0
CanLose id entries image = CanEach (HasInList id) (λ entry. without_id entry id) entries image
