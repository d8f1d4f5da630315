-- The image after a change of an entry.
use Rattle.std.specs.Prelude.{ℕ, ℤ, pos, ◌+◌, ◌-◌, ◌*◌, ◌&&◌, ◌==◌, Bool, false, not, int_lt, List, [], ◌∷◌, Option, Some, None, take, drop, max, if◌then◌else◌}
use Rattle.std.specs.Ordering.{int_eq}
use Rattle.std.specs.Str.{bytes_eq}
use Rattle.ubik_types.specs.Image.{changed}
use Rattle.ubik_types.specs.declared.images.Change.TheVariants.{Put}
use Rattle.db_blocks.specs.Blocks.{word_at}
use Rattle.db_chains.specs.Changes.{put_in, without}
use Rattle.db_chains.specs.Ends.{walk_cost, first_cost, out_cost}
use Rattle.db_chains.specs.Free.{free_cost, next_number, take_cost, with_freed, with_taken}
use Rattle.db_chains.specs.Walks.{stop_place}
use Rattle.db_image.specs.Draft.{put_cost}
use Rattle.db_image.specs.declared.services.Layout.{Layout}
use Rattle.prdb_layout.specs.Records.{block_in, block_place, entry_in, has_id, new_block}
use Rattle.prdb_layout.specs.Registry.{first_registry}
use Rattle.prdb_layout.specs.State.{PrEntry}
use Rattle.prdb_finds.specs.First.{named}
use Rattle.prdb_finds.specs.Keys.{id_chain, name_chain}
use Rattle.prdb_finds.specs.Places.{free_blocks, id_links, name_links, owned_links, owned_place}
use Rattle.prdb_finds.specs.Records.{whole}

-- a group that has an owner
abbrev pub is_owned : PrEntry → Bool
is_owned e = int_lt e.id (pos 0) && not (int_eq e.owner (pos 0))

-- the word with which a walk along the chain of an id ends: the number of the block of its entry
abbrev pub number_of : (id : ℤ) → List ℕ → ℕ
number_of id image = word_at image (stop_place id_links (λ w block. has_id id block) image (id_chain id))

-- ---- an entry comes in

-- the block of a number in front of the chain of the groups that the entry of an id owns
abbrev pub owner_first : (owner : ℤ) → (n : ℕ) → List ℕ → List ℕ
owner_first owner n image = put_in owned_links (owned_place (number_of owner image - 1)) n image

-- in front of the chains of its entry: of its name, then of its id, and then, if it is a group with an owner, of its owner's
unfoldable pub entered : (n : ℕ) → PrEntry → List ℕ → List ℕ
entered n e image = if is_owned e then owner_first e.owner n (named n e image) else named n e image

-- one entry more, in the first free block or in one more at the end
unfoldable pub after_insert : PrEntry → List ℕ → List ℕ
after_insert e image =
    let old = whole image in
    entered (next_number free_blocks old) e (with_taken free_blocks (new_block e) old)

-- How many bytes are read at most: where a block comes in front of its owner's chain, in an image of this length, where it comes into its
-- chains, and where an entry is inserted, which may write the first image.
abbrev pub owner_cost : Layout → (len : ℕ) → ℕ
owner_cost layout len = walk_cost id_links len + first_cost layout

abbrev pub enter_cost : Layout → (len : ℕ) → ℕ
enter_cost layout len = 2 * first_cost layout + owner_cost layout len

abbrev pub insert_cost : Layout → (len : ℕ) → ℕ
insert_cost layout len = put_cost layout 3264 + take_cost layout + enter_cost layout (max len 3264 + 192)

-- ---- an entry goes out

-- the block of a number out of the chain of the groups that the entry of an id owns
abbrev pub owner_without : (owner : ℤ) → (n : ℕ) → List ℕ → List ℕ
owner_without owner n image = without owned_links (owned_place (number_of owner image - 1)) n image

-- out of the chains of its name and its id
abbrev pub unnamed : (n : ℕ) → PrEntry → List ℕ → List ℕ
unnamed n e image = without id_links (id_chain e.id) n (without name_links (name_chain e.name) n image)

-- out of the chains of its entry: of its name, then of its id, and then, if it is a group with an owner, of its owner's
unfoldable pub left : (n : ℕ) → PrEntry → List ℕ → List ℕ
left n e image = if is_owned e then owner_without e.owner n (unnamed n e image) else unnamed n e image

-- one entry less, that of an id: its block goes out of its chains, and is free
unfoldable pub after_remove : (id : ℤ) → List ℕ → List ℕ
after_remove id image =
    let old = whole image in
    let n = number_of id old in
    with_freed free_blocks n (left n (entry_in (block_in old (n - 1))) old)

-- How many bytes are read at most where a block goes out of its owner's chain, out of those of its name and its id, out of all of its
-- chains, and where an entry is removed, in an image of this length: a walk along each of these chains, one to find the entry and one to
-- find its owner, one along the free blocks, and the first image, which may be written.
abbrev pub owner_out_cost : Layout → (len : ℕ) → ℕ
owner_out_cost layout len = walk_cost id_links len + out_cost owned_links layout len

abbrev pub named_out_cost : Layout → (len : ℕ) → ℕ
named_out_cost layout len = out_cost name_links layout len + out_cost id_links layout len

abbrev pub leave_cost : Layout → (len : ℕ) → ℕ
leave_cost layout len = named_out_cost layout len + owner_out_cost layout len

abbrev pub remove_cost : Layout → (len : ℕ) → ℕ
remove_cost layout len = put_cost layout 3264 + walk_cost id_links len + leave_cost layout len + free_cost free_blocks layout len

-- ---- an entry gets other fields

-- a word out of the chain of a name and in front of that of another one; where it is the same name, it keeps its place
abbrev pub name_moved : (old new : List ℕ) → (n : ℕ) → List ℕ → List ℕ
name_moved old new n image =
    if bytes_eq old new then image else put_in name_links (name_chain new) n (without name_links (name_chain old) n image)

-- out of the chain of an entry's owner, or in front of it, if it is a group with an owner
abbrev pub owner_left : PrEntry → (n : ℕ) → List ℕ → List ℕ
owner_left e n image = if is_owned e then owner_without e.owner n image else image

abbrev pub owner_entered : PrEntry → (n : ℕ) → List ℕ → List ℕ
owner_entered e n image = if is_owned e then owner_first e.owner n image else image

-- from the chain of one owner to that of another one; where it is the same owner, the word keeps its place
abbrev pub owner_moved : (old new : PrEntry) → (n : ℕ) → List ℕ → List ℕ
owner_moved old new n image = if int_eq old.owner new.owner then image else owner_entered new n (owner_left old n image)

-- the block of a number from the chains of one entry to those of another one: of its name, then of its owner
abbrev pub moved : (n : ℕ) → (old new : PrEntry) → List ℕ → List ℕ
moved n old new image = owner_moved old new n (name_moved old.name new.name n image)

-- the block of a number with the fields of this one: all but its kind, its pairs and its words of chains
unfoldable pub refilled : (k : ℕ) → (block image : List ℕ) → List ℕ
refilled k block image =
    changed (changed image (Put (block_place k + 4) (take 20 (drop 4 block)))) (Put (block_place k + 32) (take 64 (drop 32 block)))

-- two entries have the same fields, and one that may be there has those of another one
abbrev pub is_same : (e f : PrEntry) → Bool
is_same e f =
    bytes_eq e.name f.name && e.flags == f.flags && int_eq e.id f.id && int_eq e.owner f.owner && int_eq e.creator f.creator
    && int_eq e.quota f.quota

abbrev pub is_this : Option PrEntry → PrEntry → Bool
is_this None e = false
is_this (Some f) e = is_same f e

-- the image is empty, and the first one, as which it is read, has this entry under an id
unfoldable pub stays_empty : (id : ℤ) → PrEntry → List ℕ → Bool
stays_empty id e [] = is_this (first_registry.entry id) e
stays_empty id e (b ∷ bytes) = false

-- the block of the entry of an id goes to its chains, and then gets its fields
unfoldable pub fitted : (id : ℤ) → PrEntry → List ℕ → List ℕ
fitted id e image =
    let old = whole image in
    let n = number_of id old in
    refilled (n - 1) (new_block e) (moved n (entry_in (block_in old (n - 1))) e old)

-- other fields for the entry of an id; the empty image stays as it is where nothing is changed
unfoldable pub after_replace : (id : ℤ) → PrEntry → List ℕ → List ℕ
after_replace id e image = if stays_empty id e image then image else fitted id e image

-- How many bytes are read at most where a word moves from name to name, from owner to owner, and where a block does both, where the fields
-- of a block are written, and where an entry gets other fields, which may write the first image, in an image of this length.
abbrev pub name_cost : Layout → (len : ℕ) → ℕ
name_cost layout len = out_cost name_links layout len + first_cost layout

abbrev pub owners_cost : Layout → (len : ℕ) → ℕ
owners_cost layout len = owner_out_cost layout len + owner_cost layout len

abbrev pub moved_cost : Layout → (len : ℕ) → ℕ
moved_cost layout len = name_cost layout len + owners_cost layout len

abbrev pub fields_cost : Layout → ℕ
fields_cost layout = put_cost layout 20 + put_cost layout 64

abbrev pub replace_cost : Layout → (len : ℕ) → ℕ
replace_cost layout len = put_cost layout 3264 + walk_cost id_links len + moved_cost layout len + fields_cost layout
