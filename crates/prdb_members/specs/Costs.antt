-- How many bytes a call on lists of pairs asks for at most (own).
use Rattle.std.specs.Prelude.{ℕ, ℤ, ◌≡◌, ◌⊎◌, ◌+◌, ◌*◌, ◌≤◌, true, List, IfSome, IsSome, length}
use Rattle.std.specs.List.{Contains}
use Rattle.db_image.specs.Draft.{Drafted, put_cost}
use Rattle.db_image.specs.declared.images.ImageRead.{Ghosts}
use Rattle.db_image.specs.declared.services.Layout.{Layout}
use Rattle.db_chains.specs.Chains.{HasChain}
use Rattle.db_chains.specs.Ends.{CostsAtMost, walk_cost}
use Rattle.db_chains.specs.Free.{free_cost, take_cost}
use Rattle.prdb_layout.specs.Registry.{Registry}
use Rattle.entry_scans.specs.Lists.{IsListOf}
use Rattle.prdb_lists.specs.Changes.{blocks_for}
use Rattle.prdb_lists.specs.Layout.{PairList}
use Rattle.prdb_lists.specs.Members.{MayLeave, Members, are_paired}
use Rattle.prdb_lists.specs.Moves.{MayMove}
use Rattle.prdb_finds.specs.Keys.{id_chain}
use Rattle.prdb_finds.specs.Places.{free_blocks, id_links}
use Rattle.prdb_finds.specs.Records.{Holds, whole}
use Rattle.prdb_members.specs.Sides.{HasLists}

-- ---- a list is read

-- a word, so many blocks of a chain, and so many continuation blocks
abbrev pub list_cost : (words blocks : ℕ) → ℕ
list_cost words blocks = 4 + 192 * (words + blocks)

-- the list of an id, which may be no entry's: the blocks of the one chain of the id, and those of the list
abbrev pub ListCosts : {I : Type 0} → Ghosts I → (id : ℤ) → (old new : Drafted I) → Type 0
ListCosts g id old new =
    IfSome old.bytes
    (λ image. (r : Registry) (m : Members) (ws : List ℕ) (ids : List ℤ) → Holds image r m → HasChain id_links image (id_chain id) ws
    → IsListOf (λ other. are_paired m id other ≡ true) ids → CostsAtMost g (list_cost (length ws) (blocks_for (length ids))) old new)

-- the place of an entry, which may not be there
abbrev pub PlaceCosts : {I : Type 0} → Ghosts I → (id : ℤ) → (old new : Drafted I) → Type 0
PlaceCosts g id old new =
    IfSome old.bytes
    (λ image. (r : Registry) (lists : ℤ → PairList) (ws : List ℕ) (blocks : ℕ) → HasLists image r lists
    → HasChain id_links image (id_chain id) ws → (IsSome (r.entry id) → length (lists id).more ≤ blocks)
    → CostsAtMost g (list_cost (length ws) blocks) old new)

-- ---- a list is read and written

-- a list of so many continuation blocks, and the block of its entry
abbrev pub relist_cost : Layout → (words blocks : ℕ) → ℕ
relist_cost layout words blocks = list_cost words blocks + put_cost layout 192 * (blocks + 1)

-- the list of an entry, which may not be there
abbrev pub RelistCosts : {I : Type 0} → Ghosts I → (id : ℤ) → (old new : Drafted I) → Type 0
RelistCosts g id old new =
    IfSome old.bytes
    (λ image. (r : Registry) (lists : ℤ → PairList) (ws : List ℕ) (blocks : ℕ) → HasLists image r lists
    → HasChain id_links image (id_chain id) ws → (IsSome (r.entry id) → length (lists id).more ≤ blocks)
    → CostsAtMost g (relist_cost old.layout (length ws) blocks) old new)

-- ---- a pair more

-- one side: a block is taken, and a list of so many blocks is written, with one more, and the entry's block
abbrev pub gain_cost : Layout → (blocks : ℕ) → ℕ
gain_cost layout blocks = take_cost layout + put_cost layout 192 * (blocks + 2)

-- Both lists are read and written, and the first image may be written before. The blocks of two id chains, those of the two lists and the
-- head are all that is asked for.
abbrev pub join_cost : Layout → (words more_words blocks more_blocks : ℕ) → ℕ
join_cost layout words more_words blocks more_blocks =
    put_cost layout 3264 + list_cost words blocks + list_cost more_words more_blocks + gain_cost layout blocks
    + gain_cost layout more_blocks

abbrev pub JoinCosts : {I : Type 0} → Ghosts I → (member group : ℤ) → (old new : Drafted I) → Type 0
JoinCosts g member group old new =
    IfSome old.bytes
    (λ image. (r : Registry) (m : Members) (ws vs : List ℕ) (groups members : List ℤ) → Holds image r m
    → HasChain id_links (whole image) (id_chain member) ws → HasChain id_links (whole image) (id_chain group) vs
    → IsListOf (λ other. are_paired m member other ≡ true) groups → IsListOf (λ other. are_paired m group other ≡ true) members
    → CostsAtMost g
    (join_cost old.layout (length ws) (length vs) (blocks_for (length groups)) (blocks_for (length members))) old new)

-- ---- a pair less

-- one side: a block is freed, in an image of this length, and a list of so many blocks at most is written, and the entry's block
abbrev pub lose_cost : Layout → (len blocks : ℕ) → ℕ
lose_cost layout len blocks = free_cost free_blocks layout len + put_cost layout 192 * (blocks + 1)

-- Both lists are read and written. The blocks of two id chains, those of the two lists, the free ones and the head are all that is asked for.
abbrev pub part_cost : Layout → (len words more_words blocks more_blocks : ℕ) → ℕ
part_cost layout len words more_words blocks more_blocks =
    list_cost words blocks + list_cost more_words more_blocks + lose_cost layout len blocks + lose_cost layout len more_blocks

-- where the pair is there
abbrev pub PartCosts : {I : Type 0} → Ghosts I → (member group : ℤ) → (old new : Drafted I) → Type 0
PartCosts g member group old new =
    IfSome old.bytes
    (λ image. (r : Registry) (m : Members) (ws vs : List ℕ) (groups members : List ℤ) → Holds image r m → MayLeave member group m
    → HasChain id_links image (id_chain member) ws → HasChain id_links image (id_chain group) vs
    → IsListOf (λ other. are_paired m member other ≡ true) groups → IsListOf (λ other. are_paired m group other ≡ true) members
    → CostsAtMost g
    (part_cost old.layout old.len (length ws) (length vs) (blocks_for (length groups)) (blocks_for (length members))) old new)

-- ---- another id

-- a block goes from the chain of one id to that of another one, in an image of this length
abbrev pub rechain_cost : Layout → (len : ℕ) → ℕ
rechain_cost layout len = walk_cost id_links len + 2 * (4 + 2 * put_cost layout 4)

-- The list of the entry is read, and its own and those of so many others are read and written. No chain of their ids has more words, and no
-- list more continuation blocks.
abbrev pub move_cost : Layout → (len count words blocks : ℕ) → ℕ
move_cost layout len count words blocks =
    list_cost words blocks + relist_cost layout words blocks * (count + 1) + rechain_cost layout len

-- an entry, or one of those that it is paired with
abbrev pub IsOneOf : (entry : ℤ) → (others : List ℤ) → ℤ → Type 0
IsOneOf entry others id = (id ≡ entry) ⊎ Contains others id

-- no chain of the ids of an entry and these others has more words, and none of their lists more continuation blocks
pub record AreAtMost (image : List ℕ) (m : Members) (entry : ℤ) (others : List ℤ) (words blocks : ℕ) : Type 0 where
  pub chains : (id : ℤ) → IsOneOf entry others id → (ws : List ℕ) → HasChain id_links image (id_chain id) ws → length ws ≤ words
  pub lists : (id : ℤ) → IsOneOf entry others id → (ids : List ℤ) → IsListOf (λ other. are_paired m id other ≡ true) ids
      → blocks_for (length ids) ≤ blocks

-- where the entry may get the other id
abbrev pub MoveCosts : {I : Type 0} → Ghosts I → (old_id new_id : ℤ) → (old new : Drafted I) → Type 0
MoveCosts g old_id new_id old new =
    IfSome old.bytes
    (λ image. (r : Registry) (m : Members) (others : List ℤ) (words blocks : ℕ) → Holds image r m → MayMove old_id new_id r
    → IsListOf (λ other. are_paired m old_id other ≡ true) others → AreAtMost image m old_id others words blocks
    → CostsAtMost g (move_cost old.layout old.len (length others) words blocks) old new)
