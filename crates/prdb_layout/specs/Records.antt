-- How an image without words of chains holds a registry, and such an image after each change (layout of format 1).
use Rattle.std.specs.Prelude.{ℕ, ℤ, ◌≡◌, ◌+◌, ◌-◌, ◌<◌, ◌⊎◌, Bool, ◌&&◌, ◌==◌, nat_lt, if◌then◌else◌, List, [], ◌∷◌, ◌++◌, length, take, drop, Option, Some, None}
use Rattle.std.specs.Int.{w32, cast_signed}
use Rattle.std.specs.Ordering.{int_eq}
use Rattle.std.specs.Str.{bytes_eq}
use Rattle.ubik_types.specs.Image.{changed}
use Rattle.ubik_types.specs.declared.images.Change.TheVariants.{Put}
use Rattle.prdb_layout.specs.Blocks.{block_count, block_name}
use Rattle.db_blocks.specs.Blocks.{block_in as any_block, block_place as any_place, first_block as any_first, with_block as with_any, word_at, kind_of}
use Rattle.db_blocks.specs.declared.blocks.TheConstants.{BLOCK_LEN}
use Rattle.db_blocks.specs.Bytes.{filled, number_word, word, words, zeros}
use Rattle.prdb_layout.specs.Bytes.{bits}
use Rattle.prdb_layout.specs.Layout.{layout}
use Rattle.prdb_layout.specs.Registry.{Registry, IsRegistry}
use Rattle.prdb_layout.specs.State.{PrEntry, initial_state}
use Rattle.prdb_layout.specs.declared.blocks.TheConstants.{HEAD_LEN, MAX_USER_AT, BLOCK_COUNT_AT, FLAGS_AT, ID_AT, OWNER_AT, CREATOR_AT, QUOTA_AT, PAIR_COUNT_AT, NAME_AT, NAME_FIELD, CHAINS_AT, CHAINS_LEN, END_AT}

-- ---- a block

-- the word at a place, with a sign
abbrev pub signed_at : List ℕ → ℕ → ℤ
signed_at block at = cast_signed w32 (word_at block at)

-- the entry whose fields stand in a block
abbrev pub entry_in : List ℕ → PrEntry
entry_in block = record {
  name = block_name block;
  flags = word_at block FLAGS_AT;
  id = signed_at block ID_AT;
  owner = signed_at block OWNER_AT;
  creator = signed_at block CREATOR_AT;
  quota = signed_at block QUOTA_AT;
}

-- an entry's block: zero bytes fill the field of its name, and stand where nothing has a place; nothing is said of its pairs
pub record IsEntryBlock (block : List ℕ) : Type 0 where
  pub kind : kind_of block ≡ 1
  pub name : take NAME_FIELD (drop NAME_AT block) ≡ filled NAME_FIELD (block_name block)
  pub chains : take CHAINS_LEN (drop CHAINS_AT block) ≡ zeros CHAINS_LEN
  pub behind : drop END_AT block ≡ zeros (BLOCK_LEN - END_AT)

-- a block of any kind; of a continuation nothing else is said
abbrev pub IsBlock : List ℕ → Type 0
IsBlock block = (block ≡ zeros BLOCK_LEN) ⊎ (kind_of block ≡ 2) ⊎ IsEntryBlock block

-- the numbers at the front of an entry's block: its kind, and its own
unfoldable pub field_numbers : PrEntry → List ℕ
field_numbers e = 1 ∷ e.flags ∷ bits e.id ∷ bits e.owner ∷ bits e.creator ∷ bits e.quota ∷ []

-- a block with the fields of this entry in place of those that it had; its pairs stay
unfoldable pub with_fields : PrEntry → List ℕ → List ℕ
with_fields e block =
    words (field_numbers e) ++ take (NAME_AT - PAIR_COUNT_AT) (drop PAIR_COUNT_AT block) ++ filled NAME_FIELD e.name ++ drop CHAINS_AT block

-- the block of a new entry, which has no pairs
abbrev pub new_block : PrEntry → List ℕ
new_block e = with_fields e (zeros BLOCK_LEN)

-- ---- an image

-- the empty image is read as the first one
unfoldable pub whole : List ℕ → List ℕ
whole [] = layout initial_state
whole (b ∷ bytes) = b ∷ bytes

-- where a block begins, and its bytes; the first behind the head has the number 0
abbrev pub block_place : ℕ → ℕ
block_place k = any_place HEAD_LEN k

abbrev pub block_in : List ℕ → ℕ → List ℕ
block_in image k = any_block HEAD_LEN image k

-- the head: the database's word, format 1, the maxima, the number of blocks, and zero bytes
abbrev pub head_with : (user group : ℤ) → (count : ℕ) → List ℕ
head_with user group count = words (0x50524442 ∷ 1 ∷ bits user ∷ bits group ∷ []) ++ number_word count ++ zeros (HEAD_LEN - BLOCK_COUNT_AT - 4)

-- An image that is not empty holds a registry: behind the head stand whole blocks, and the entries are those of its blocks, each in
-- one of them.
pub record IsLaidOut (image : List ℕ) (r : Registry) : Type 0 where
  pub size : length image ≡ block_place (block_count image)
  pub head : take HEAD_LEN image ≡ head_with r.max_user r.max_group (block_count image)
  pub blocks : (k : ℕ) → k < block_count image → IsBlock (block_in image k)
  pub there : (k : ℕ) → k < block_count image → kind_of (block_in image k) ≡ 1
      → r.entry (entry_in (block_in image k)).id ≡ Some (entry_in (block_in image k))
  pub only : (id : ℤ) (e : PrEntry) → r.entry id ≡ Some e
      → (k : ℕ) × (k < block_count image) × (kind_of (block_in image k) ≡ 1) × (entry_in (block_in image k) ≡ e)
  pub one : (j k : ℕ) → j < block_count image → k < block_count image → kind_of (block_in image j) ≡ 1 → kind_of (block_in image k) ≡ 1
      → (entry_in (block_in image j)).id ≡ (entry_in (block_in image k)).id → j ≡ k

-- an image without words of chains holds a valid registry; the empty image holds the first one
pub record Holds (image : List ℕ) (r : Registry) : Type 0 where
  pub valid : IsRegistry r
  pub laid : IsLaidOut (whole image) r

-- ---- which block

-- the first block that meets a test, or the number of blocks
abbrev pub first_block : (List ℕ → Bool) → List ℕ → ℕ
first_block test image = any_first HEAD_LEN test image

abbrev pub is_free : List ℕ → Bool
is_free block = kind_of block == 0

abbrev pub has_name : List ℕ → List ℕ → Bool
has_name name block = kind_of block == 1 && bytes_eq (block_name block) name

abbrev pub has_id : ℤ → List ℕ → Bool
has_id id block = kind_of block == 1 && int_eq (entry_in block).id id

-- the entry of the first block with an id, if one has it
abbrev pub entry_at : List ℕ → ℤ → Option PrEntry
entry_at image id =
    let k = first_block (has_id id) image in
    if k == block_count image then None else Some (entry_in (block_in image k))

-- the maxima that a head tells
abbrev pub maxima_in : List ℕ → ℤ × ℤ
maxima_in image = (signed_at image MAX_USER_AT, signed_at image (MAX_USER_AT + 4))

-- the registry that an image which is not empty tells, whatever it holds
unfoldable pub registry_in : List ℕ → Registry
registry_in image = record { entry = entry_at image; max_user = (maxima_in image).0; max_group = (maxima_in image).1 }

-- ---- the image after a change

abbrev pub with_block : ℕ → List ℕ → List ℕ → List ℕ
with_block k block image = with_any HEAD_LEN k block image

abbrev pub with_count : ℕ → List ℕ → List ℕ
with_count count image = changed image (Put BLOCK_COUNT_AT (number_word count))

-- the block that the next entry takes: the lowest free one, else a new one at the end
abbrev pub next_block : List ℕ → ℕ
next_block image = first_block is_free image

-- with an entry in that block, which is not counted yet where it is a new one
abbrev pub with_new_block : PrEntry → List ℕ → List ℕ
with_new_block e image = with_block (next_block image) (new_block e) image

-- one entry more; the head is written only where there is a block more
unfoldable pub after_insert : PrEntry → List ℕ → List ℕ
after_insert e image =
    let old = whole image in
    if nat_lt (next_block old) (block_count old) then with_new_block e old
    else with_count (next_block old + 1) (with_new_block e old)

-- other fields for the entry of an id; an image in which nothing is changed stays as it is, also the empty one
unfoldable pub after_replace : ℤ → PrEntry → List ℕ → List ℕ
after_replace id e image =
    let k = first_block (has_id id) (whole image) in
    let block = with_fields e (block_in (whole image) k) in
    if bytes_eq block (block_in (whole image) k) then image else with_block k block (whole image)

-- one entry less: its block is free, and zero
unfoldable pub after_remove : ℤ → List ℕ → List ℕ
after_remove id image = with_block (first_block (has_id id) (whole image)) (zeros BLOCK_LEN) (whole image)

-- other maxima; an image that has them stays as it is, also the empty one
unfoldable pub after_set_maxima : (user group : ℤ) → List ℕ → List ℕ
after_set_maxima user group image =
    let old = maxima_in (whole image) in
    if int_eq old.0 user && int_eq old.1 group then image
    else changed (whole image) (Put MAX_USER_AT (word (bits user) ++ word (bits group)))
