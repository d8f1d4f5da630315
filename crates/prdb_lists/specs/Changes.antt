-- What becomes of an image without words of chains when the list of an entry is another one (layout of format 1).
use Rattle.std.specs.Prelude.{ℕ, ℤ, zero, suc, ◌+◌, ◌-◌, List, [], ◌∷◌, ◌++◌, length, take, drop, min, nat_lt, if◌then◌else◌}
use Rattle.std.specs.Int.{div_ceil}
use Rattle.prdb_layout.specs.Blocks.{block_count}
use Rattle.db_blocks.specs.Blocks.{word_at}
use Rattle.db_blocks.specs.Bytes.{zeros}
use Rattle.prdb_layout.specs.Records.{block_in, first_block, has_id, next_block, whole, with_block, with_count}
use Rattle.prdb_lists.specs.Blocks.{ids_in}
use Rattle.prdb_lists.specs.Layout.{PairList, id_field, link_to, list_words, more_block}
use Rattle.prdb_lists.specs.Lists.{ids_with, ids_without}
use Rattle.db_blocks.specs.declared.blocks.TheConstants.{BLOCK_LEN}
use Rattle.prdb_layout.specs.declared.blocks.TheConstants.{PAIR_COUNT_AT}
use Rattle.prdb_lists.specs.declared.layout.TheConstants.{FIRST_MORE_AT, FIRST_IDS_AT, FIRST_IDS, NEXT_AT, MORE_IDS_AT, MORE_IDS}

-- ---- the list that an image tells of an entry

-- how many continuation blocks so many ids need
abbrev pub blocks_for : ℕ → ℕ
blocks_for count = div_ceil (count - FIRST_IDS) MORE_IDS

-- so many continuation blocks, each of which names the next one
unfoldable pub chain_in : List ℕ → (count link : ℕ) → List ℕ
chain_in image zero link = []
chain_in image (suc count) link = (link - 1) ∷ chain_in image count (word_at (block_in image (link - 1)) NEXT_AT)

-- so many ids in these continuation blocks
unfoldable pub ids_behind : List ℕ → (more : List ℕ) → (count : ℕ) → List ℤ
ids_behind image [] count = []
ids_behind image (k ∷ more) count = ids_in (block_in image k) MORE_IDS_AT (min count MORE_IDS) ++ ids_behind image more (count - MORE_IDS)

-- the list that begins in an entry's block
unfoldable pub list_in : List ℕ → (block : List ℕ) → PairList
list_in image block =
    let count = word_at block PAIR_COUNT_AT in
    let more = chain_in image (blocks_for count) (word_at block FIRST_MORE_AT) in
    record { ids = ids_in block FIRST_IDS_AT (min count FIRST_IDS) ++ ids_behind image more (count - FIRST_IDS); more = more }

-- ---- another list

-- an entry's block with another list of pairs
unfoldable pub with_list : List ℕ → PairList → List ℕ
with_list block l =
    take 24 block ++ list_words l ++ take 80 (drop 32 block) ++ id_field 80 (take 19 l.ids)

-- the continuation blocks of an entry with these ids in them, one after the other
unfoldable pub with_more : (entry : ℤ) → List ℕ → List ℤ → List ℕ → List ℕ
with_more entry [] ids image = image
with_more entry (k ∷ more) ids image =
    with_more entry more (drop 44 ids) (with_block k (more_block entry (link_to more) (take 44 ids)) image)

-- an entry in a block, with another list in place of its own
abbrev pub relisted : (k : ℕ) → (entry : ℤ) → (block : List ℕ) → PairList → List ℕ → List ℕ
relisted k entry block l image = with_block k (with_list block l) (with_more entry l.more (drop FIRST_IDS l.ids) image)

-- with a free block, which is a new one at the end where there is none
unfoldable pub with_free : List ℕ → List ℕ
with_free image =
    if nat_lt (next_block image) (block_count image) then image
    else with_count (block_count image + 1) (with_block (block_count image) (zeros BLOCK_LEN) image)

-- the blocks of a list of so many ids; the lowest free block is one more behind them, where one is needed
abbrev pub more_for : (count : ℕ) → List ℕ → List ℕ → List ℕ
more_for count more image = if nat_lt (length more) (blocks_for count) then more ++ next_block image ∷ [] else more

-- the image in which it is free
abbrev pub free_for : (count : ℕ) → List ℕ → List ℕ → List ℕ
free_for count more image = if nat_lt (length more) (blocks_for count) then with_free image else image

-- the first of these blocks is free, and zero
abbrev pub with_freed : List ℕ → List ℕ → List ℕ
with_freed [] image = image
with_freed (k ∷ more) image = with_block k (zeros BLOCK_LEN) image

-- with an id more in the list of an entry in a block
abbrev pub gained : (k : ℕ) → (entry : ℤ) → (block : List ℕ) → PairList → (id : ℤ) → List ℕ → List ℕ
gained k entry block l id image =
    let ids = ids_with id l.ids in
    relisted k entry block (record { ids = ids; more = more_for (length ids) l.more image }) (free_for (length ids) l.more image)

-- with an id less
abbrev pub lost : (k : ℕ) → (entry : ℤ) → (block : List ℕ) → PairList → (id : ℤ) → List ℕ → List ℕ
lost k entry block l id image =
    let ids = ids_without id l.ids in
    let count = blocks_for (length ids) in
    relisted k entry block (record { ids = ids; more = take count l.more }) (with_freed (drop count l.more) image)

-- ---- one side of a pair

-- the block of an entry
abbrev pub place_in : List ℕ → ℤ → ℕ
place_in image entry = first_block (has_id entry) image

abbrev pub with_id : (entry id : ℤ) → List ℕ → List ℕ
with_id entry id image =
    let block = block_in image (place_in image entry) in
    gained (place_in image entry) entry block (list_in image block) id image

abbrev pub without_id : (entry id : ℤ) → List ℕ → List ℕ
without_id entry id image =
    let block = block_in image (place_in image entry) in
    lost (place_in image entry) entry block (list_in image block) id image

-- ---- the image after a change

-- a pair more: the member's list is the first to take a block
unfoldable pub after_join : (member group : ℤ) → List ℕ → List ℕ
after_join member group image = with_id group member (with_id member group (whole image))

-- a pair less
unfoldable pub after_part : (member group : ℤ) → List ℕ → List ℕ
after_part member group image = without_id group member (without_id member group (whole image))
