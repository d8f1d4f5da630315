-- How an image without words of chains holds the pairs of its entries (layout of format 1).
use Rattle.std.specs.Prelude.{ℕ, ℤ, ◌≡◌, ◌≢◌, ◌+◌, ◌-◌, ◌/◌, ◌%◌, ◌<◌, ◌^◌, true, List, [], ◌∷◌, length, take, drop, map, ◌++◌, IsSome, FitsSigned, slice_index_or}
use Rattle.std.specs.Int.{w32}
use Rattle.std.specs.List.{All, Contains}
use Rattle.prdb_layout.specs.Blocks.{block_count}
use Rattle.db_blocks.specs.Bytes.{word, words, filled}
use Rattle.db_blocks.specs.Blocks.{kind_of}
use Rattle.prdb_layout.specs.Bytes.{bits}
use Rattle.prdb_layout.specs.Records.{Holds, block_in, entry_in, field_numbers, whole}
use Rattle.prdb_layout.specs.Registry.{Registry}
use Rattle.entry_scans.specs.Lists.{IsAscending}
use Rattle.prdb_lists.specs.Members.{Members, ArePairs, are_paired}
use Rattle.db_blocks.specs.declared.blocks.TheConstants.{BLOCK_LEN}
use Rattle.prdb_layout.specs.declared.blocks.TheConstants.{PAIR_COUNT_AT}
use Rattle.prdb_lists.specs.declared.layout.TheConstants.{FIRST_IDS_AT, FIRST_IDS, MORE_IDS_AT, MORE_IDS}

-- the ids with which an entry is paired, and the numbers of the continuation blocks in which those behind the first ones lie
pub record PairList : Type 0 where
  pub ids : List ℤ
  pub more : List ℕ

-- the word that names the first of these blocks: its number from 1 on, or 0 where there is none
abbrev pub link_to : List ℕ → ℕ
link_to [] = 0
link_to (k ∷ blocks) = k + 1

-- Such a number in four bytes, as `word` spells it where it is below 2 ^ 32. The first byte is not reduced: a block of any image then has a
-- link of its own, and what is told of an image is bound to no length. No draft holds a block that needs it.
abbrev pub link_word : ℕ → List ℕ
link_word n = n / 2 ^ 24 ∷ n / 2 ^ 16 % 256 ∷ n / 2 ^ 8 % 256 ∷ n % 256 ∷ []

-- the words of a list in its entry's block: how many ids it has, and its first continuation block
abbrev pub list_words : PairList → List ℕ
list_words l = word (length l.ids) ++ link_word (link_to l.more)

-- ids in a field of this length, filled with zero bytes
abbrev pub id_field : ℕ → List ℤ → List ℕ
id_field len ids = filled len (words (map bits ids))

-- a continuation block of an entry, with the word of the next one
abbrev pub more_block : (entry : ℤ) → (next : ℕ) → List ℤ → List ℕ
more_block entry next ids = words (2 ∷ bits entry ∷ []) ++ link_word next ++ id_field (BLOCK_LEN - MORE_IDS_AT) ids

-- the continuation blocks of an entry, with these ids in them
abbrev pub IsChain : (image : List ℕ) → (entry : ℤ) → List ℕ → List ℤ → Type 0
IsChain image entry [] ids = ids ≡ []
IsChain image entry (k ∷ blocks) ids =
    (k < block_count image) × (ids ≢ []) × (block_in image k ≡ more_block entry (link_to blocks) (take MORE_IDS ids))
    × IsChain image entry blocks (drop MORE_IDS ids)

-- An entry's block with its list of pairs: their number, the first continuation block, and the first ids.
pub record IsListed (image : List ℕ) (entry : ℤ) (block : List ℕ) (l : PairList) : Type 0 where
  pub ascending : IsAscending l.ids
  pub fits : All (λ id. FitsSigned w32 id) l.ids
  pub few : length l.ids < 2 ^ 32
  pub front : take 8 (drop PAIR_COUNT_AT block) ≡ list_words l
  pub first : drop FIRST_IDS_AT block ≡ id_field (BLOCK_LEN - FIRST_IDS_AT) (take FIRST_IDS l.ids)
  pub chain : IsChain image entry l.more (drop FIRST_IDS l.ids)

-- The numbers at the front of an entry's block, in four bytes each: it tells another entry where one of them is another.
abbrev pub IsSpelled : List ℕ → Type 0
IsSpelled block = take PAIR_COUNT_AT block ≡ words (field_numbers (entry_in block))

-- no number stands twice in a list
abbrev pub IsDistinct : List ℕ → Type 0
IsDistinct numbers = (i j : ℕ) (d : ℕ) → i < j → j < length numbers → slice_index_or numbers i d ≢ slice_index_or numbers j d

-- The lists of all entries: each entry's block has its own, and each continuation block is one of one of them.
pub record AreLists (image : List ℕ) (r : Registry) (lists : ℤ → PairList) : Type 0 where
  pub listed : (k : ℕ) → k < block_count image → kind_of (block_in image k) ≡ 1
      → IsListed image (entry_in (block_in image k)).id (block_in image k) (lists (entry_in (block_in image k)).id)
  pub used : (k : ℕ) → k < block_count image → kind_of (block_in image k) ≡ 2 → (id : ℤ) × IsSome (r.entry id) × Contains (lists id).more k
  pub once : (id : ℤ) → IsSome (r.entry id) → IsDistinct (lists id).more
  pub spelled : (k : ℕ) → k < block_count image → kind_of (block_in image k) ≡ 1 → IsSpelled (block_in image k)

-- An image holds a registry and a set of pairs: each entry's list has the ids that it is paired with.
pub record HoldsPairs (image : List ℕ) (r : Registry) (m : Members) : Type 0 where
  pub holds : Holds image r
  pub valid : ArePairs r m
  pub lists : ℤ → PairList
  pub are : AreLists (whole image) r lists
  pub each : (id : ℤ) → IsSome (r.entry id) → (other : ℤ) → Contains (lists id).ids other → are_paired m id other ≡ true
  pub all : (id : ℤ) → IsSome (r.entry id) → (other : ℤ) → are_paired m id other ≡ true → Contains (lists id).ids other
