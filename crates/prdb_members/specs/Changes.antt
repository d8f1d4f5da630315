-- What becomes of an image when the list of an entry is another one (layout of format 1).
use Rattle.std.specs.Prelude.{ℕ, ℤ, ◌+◌, ◌-◌, List, [], ◌∷◌, ◌++◌, length, take, drop, nat_lt, if◌then◌else◌}
use Rattle.db_chains.specs.Free.{next_number, with_freed as with_free_block, with_taken}
use Rattle.db_blocks.specs.Bytes.{zeros}
use Rattle.prdb_layout.specs.Records.{block_in}
use Rattle.prdb_lists.specs.Changes.{blocks_for, list_in, place_in, relisted}
use Rattle.prdb_lists.specs.Layout.{PairList}
use Rattle.prdb_lists.specs.Lists.{ids_with, ids_without}
use Rattle.prdb_finds.specs.Places.{free_blocks}
use Rattle.prdb_finds.specs.Records.{whole}
use Rattle.db_blocks.specs.declared.blocks.TheConstants.{BLOCK_LEN}

-- ---- another list

-- the blocks of a list of so many ids; the first free block, or one more at the end, is one more behind them where one is needed
abbrev pub more_for : (count : ℕ) → List ℕ → List ℕ → List ℕ
more_for count more image =
    if nat_lt (length more) (blocks_for count) then more ++ (next_number free_blocks image - 1) ∷ [] else more

-- the image in which it is out of the chain of the free ones
abbrev pub taken_for : (count : ℕ) → List ℕ → List ℕ → List ℕ
taken_for count more image =
    if nat_lt (length more) (blocks_for count) then with_taken free_blocks (zeros BLOCK_LEN) image else image

-- the first of these blocks is free, and at its ascending place in the chain
abbrev pub with_freed : List ℕ → List ℕ → List ℕ
with_freed [] image = image
with_freed (k ∷ more) image = with_free_block free_blocks (k + 1) image

-- with an id more in the list of an entry in a block
abbrev pub gained : (k : ℕ) → (entry : ℤ) → (block : List ℕ) → PairList → (id : ℤ) → List ℕ → List ℕ
gained k entry block l id image =
    let ids = ids_with id l.ids in
    relisted k entry block (record { ids = ids; more = more_for (length ids) l.more image }) (taken_for (length ids) l.more image)

-- with an id less
abbrev pub lost : (k : ℕ) → (entry : ℤ) → (block : List ℕ) → PairList → (id : ℤ) → List ℕ → List ℕ
lost k entry block l id image =
    let ids = ids_without id l.ids in
    let count = blocks_for (length ids) in
    relisted k entry block (record { ids = ids; more = take count l.more }) (with_freed (drop count l.more) image)

-- this is done for each of these, one after the other
abbrev pub after_each : {X : Type 0} → (X → List ℕ → List ℕ) → List X → List ℕ → List ℕ
after_each change [] image = image
after_each change (x ∷ xs) image = after_each change xs (change x image)

-- these blocks are free
abbrev pub with_all_freed : List ℕ → List ℕ → List ℕ
with_all_freed more image = after_each (λ k. with_free_block free_blocks (k + 1)) more image

abbrev pub no_ids : PairList
no_ids = record { ids = []; more = [] }

-- with no id, and no continuation block
abbrev pub emptied : (k : ℕ) → (entry : ℤ) → (block : List ℕ) → PairList → List ℕ → List ℕ
emptied k entry block l image = relisted k entry block no_ids (with_all_freed l.more image)

-- ---- one side of a pair

abbrev pub with_id : (entry id : ℤ) → List ℕ → List ℕ
with_id entry id image =
    let block = block_in image (place_in image entry) in
    gained (place_in image entry) entry block (list_in image block) id image

abbrev pub without_id : (entry id : ℤ) → List ℕ → List ℕ
without_id entry id image =
    let block = block_in image (place_in image entry) in
    lost (place_in image entry) entry block (list_in image block) id image

abbrev pub without_ids : (entry : ℤ) → List ℕ → List ℕ
without_ids entry image =
    let block = block_in image (place_in image entry) in
    emptied (place_in image entry) entry block (list_in image block) image

-- an id less in the lists of these entries
abbrev pub without_id_in : (entries : List ℤ) → (id : ℤ) → List ℕ → List ℕ
without_id_in entries id image = after_each (λ entry. without_id entry id) entries image

-- ---- the image after a change

-- a pair more: the member's list is the first to take a block
unfoldable pub after_join : (member group : ℤ) → List ℕ → List ℕ
after_join member group image = with_id group member (with_id member group (whole image))

-- a pair less
unfoldable pub after_part : (member group : ℤ) → List ℕ → List ℕ
after_part member group image = without_id group member (without_id member group (whole image))

-- An entry that is paired with these others is in no pair: its own list is empty, and then it goes out of each of theirs.
unfoldable pub after_parts : (id : ℤ) → (others : List ℤ) → List ℕ → List ℕ
after_parts id [] image = image
after_parts id (other ∷ others) image = without_id_in (other ∷ others) id (without_ids id image)
