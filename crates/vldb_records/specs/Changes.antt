-- The image after a change.
use Rattle.std.specs.Prelude.{ℕ, ◌+◌, ◌-◌, ◌*◌, ◌/◌, ◌==◌, List, take, drop, if◌then◌else◌}
use Rattle.std.specs.Str.{bytes_eq}
use Rattle.ubik_types.specs.Image.{changed}
use Rattle.ubik_types.specs.declared.images.Change.TheVariants.{Put}
use Rattle.db_blocks.specs.Blocks.{block_place, word_at}
use Rattle.db_blocks.specs.Bytes.{word, words}
use Rattle.db_chains.specs.Changes.{put_in, without}
use Rattle.db_chains.specs.Ends.{walk_cost, first_cost, out_cost}
use Rattle.db_chains.specs.Walks.{stop_place}
use Rattle.db_chains.specs.declared.links.Links.{Links}
use Rattle.db_image.specs.Draft.{put_cost}
use Rattle.db_image.specs.declared.services.Layout.{Layout}
use Rattle.db_chains.specs.Free.{free_cost, next_number, take_cost, with_freed, with_taken}
use Rattle.vldb_chains.specs.Keys.{id_chain, name_chain}
use Rattle.vldb_chains.specs.Places.{free_blocks, id_links, name_links}
use Rattle.vldb_entries.specs.declared.entries.VlEntry.{VlEntry}
use Rattle.vldb_entries.specs.Forms.{addresses_in, block_at, block_of, has_id_in, name_in, next_in, whole}
use Rattle.vldb_entries.specs.declared.layout.TheConstants.{ADDRESSES_AT, HEAD_LEN, NEXT_AT}

-- another next volume id; an image that has it stays as it is, also the empty one
unfoldable pub after_set_next : ℕ → List ℕ → List ℕ
after_set_next id image = if next_in (whole image) == id then image else changed (whole image) (Put NEXT_AT (word id))

-- other addresses of the places
unfoldable pub after_set_places : List ℕ → List ℕ → List ℕ
after_set_places addresses image = changed (whole image) (Put ADDRESSES_AT (words addresses))

-- ---- an entry comes in

-- a word in front of the chain of an id; 0 is no entry's
abbrev pub first_by_id : (id w : ℕ) → List ℕ → List ℕ
first_by_id id w image = if id == 0 then image else put_in id_links (id_chain id) w image

-- the block of a number in front of the chains of its entry: of its name, then of its read-write, read-only and backup id
unfoldable pub entered : (n : ℕ) → VlEntry → List ℕ → List ℕ
entered n e image =
    first_by_id e.backup (4 * n + 2)
    (first_by_id e.ro (4 * n + 1) (first_by_id e.rw (4 * n) (put_in name_links (name_chain e.name) n image)))

-- one entry more, in the first free block or in one more at the end, its servers by the places that the image has
unfoldable pub after_insert : VlEntry → List ℕ → List ℕ
after_insert e image =
    let old = whole image in
    entered (next_number free_blocks old) e (with_taken free_blocks (block_of (addresses_in old) e) old)

-- How many bytes are read at most: where the words of an entry come in front of its chains, and where an entry is inserted, which reads the
-- addresses and may write the first head.
abbrev pub enter_cost : Layout → ℕ
enter_cost layout = 4 * first_cost layout

abbrev pub insert_cost : Layout → ℕ
insert_cost layout = 1020 + put_cost layout 3132 + take_cost layout + enter_cost layout

-- ---- an entry goes out

-- a word out of the chain of an id; 0 is no entry's
abbrev pub without_id : (id w : ℕ) → List ℕ → List ℕ
without_id id w image = if id == 0 then image else without id_links (id_chain id) w image

-- the block of a number out of the chains of the entry whose fields it has: of its name, then of its read-write, read-only and backup id
unfoldable pub left : (n : ℕ) → (block image : List ℕ) → List ℕ
left n block image =
    without_id (word_at block 16) (4 * n + 2) (without_id (word_at block 12) (4 * n + 1) (without_id (word_at block 8) (4 * n)
    (without name_links (name_chain (name_in block)) n image)))

-- the word with which a walk along the chain of an id ends
abbrev pub word_of_id : (id : ℕ) → List ℕ → ℕ
word_of_id id image = word_at image (stop_place id_links (λ w block. has_id_in id block) image (id_chain id))

-- one entry less, that of an id: its block goes out of its chains, and is free
unfoldable pub after_remove : (id : ℕ) → List ℕ → List ℕ
after_remove id image =
    let old = whole image in
    let n = word_of_id id old / 4 in
    with_freed free_blocks n (left n (block_at old (n - 1)) old)

-- How many bytes are read at most where the words of an entry go out of its chains, and where an entry is removed, in an image of this
-- length: a walk along each of these chains, one to find the entry, and one along the free blocks.
abbrev pub leave_cost : Layout → (len : ℕ) → ℕ
leave_cost layout len = out_cost name_links layout len + 3 * out_cost id_links layout len

abbrev pub remove_cost : Layout → (len : ℕ) → ℕ
remove_cost layout len = walk_cost id_links len + leave_cost layout len + free_cost free_blocks layout len

-- ---- an entry gets other fields

-- a word out of the chain of a name or of an id and in front of that of another one; where it is the same one, the word keeps its place
abbrev pub name_moved : (old new : List ℕ) → (w : ℕ) → List ℕ → List ℕ
name_moved old new w image =
    if bytes_eq old new then image else put_in name_links (name_chain new) w (without name_links (name_chain old) w image)

abbrev pub id_moved : (old new w : ℕ) → List ℕ → List ℕ
id_moved old new w image = if old == new then image else first_by_id new w (without_id old w image)

-- the block of a number from the chains of the entry whose fields it has to those of another one: of its name, then of its read-write,
-- read-only and backup id
unfoldable pub moved : (n : ℕ) → (block : List ℕ) → VlEntry → List ℕ → List ℕ
moved n block e image =
    id_moved (word_at block 16) e.backup (4 * n + 2) (id_moved (word_at block 12) e.ro (4 * n + 1)
    (id_moved (word_at block 8) e.rw (4 * n) (name_moved (name_in block) e.name n image)))

-- the block at a place with the fields of this one: all but its kind and its words of chains
unfoldable pub with_fields : (k : ℕ) → (block image : List ℕ) → List ℕ
with_fields k block image =
    changed (changed image (Put (block_place HEAD_LEN k + 4) (take 32 (drop 4 block)))) (Put (block_place HEAD_LEN k + 52) (drop 52 block))

-- another entry in the place of that of an id: its block goes to its chains, and then gets its fields
unfoldable pub after_replace : (id : ℕ) → VlEntry → List ℕ → List ℕ
after_replace id e image =
    let old = whole image in
    let n = word_of_id id old / 4 in
    with_fields (n - 1) (block_of (addresses_in old) e) (moved n (block_at old (n - 1)) e old)

-- How many bytes are read at most where a word moves, where those of an entry do, where its fields are written, and where an entry is
-- replaced, in an image of this length: a walk along each of its chains, one to find the entry, and the addresses.
abbrev pub move_cost : Links → Layout → (len : ℕ) → ℕ
move_cost l layout len = out_cost l layout len + first_cost layout

abbrev pub moves_cost : Layout → (len : ℕ) → ℕ
moves_cost layout len = move_cost name_links layout len + 3 * move_cost id_links layout len

abbrev pub fields_cost : Layout → ℕ
fields_cost layout = put_cost layout 32 + put_cost layout 140

abbrev pub replace_cost : Layout → (len : ℕ) → ℕ
replace_cost layout len = walk_cost id_links len + 1020 + moves_cost layout len + fields_cost layout
