-- The bytes of the location database, format 1: the head, and an entry's block, both without the words of chains, and what they tell.
use Rattle.std.specs.Prelude.{ℕ, ◌+◌, ◌*◌, ◌&&◌, ◌||◌, ◌==◌, Bool, not, List, [], ◌∷◌, ◌++◌, length, map, take, drop, slice_index, min, if◌then◌else◌}
use Rattle.std.specs.List.{before_first, position_or_len, range_with_len}
use Rattle.std.specs.Str.{bytes_eq}
use Rattle.db_blocks.specs.Blocks.{block_count, block_in, word_at, kind_of}
use Rattle.db_blocks.specs.Bytes.{number_word, words, zeros, filled}
use Rattle.vldb_entries.specs.declared.entries.VlEntry.{VlEntry}
use Rattle.vldb_entries.specs.declared.entries.VlSite.{VlSite}
use Rattle.vldb_entries.specs.declared.layout.TheConstants.{HEAD_LEN, NEXT_AT, ADDRESSES_AT, PLACES, FLAGS_AT, RW_AT, RO_AT, BACKUP_AT, CLONE_AT, LOCK_OP_AT, LOCK_MOMENT_AT, COUNT_AT, NAME_AT, NAME_FIELD, PLACES_AT, PARTITIONS_AT, SITE_FLAGS_AT, SITES_FIELD}
use Rattle.vldb_entries.specs.Location.{Location, first_location}

-- ---- the head: the database's word, format 1, the next volume id, the number of blocks, and the addresses, with zero bytes between and behind
unfoldable pub head_of : Location → (count : ℕ) → List ℕ
head_of s count = words (0x564C4442 ∷ 1 ∷ s.next_volume ∷ []) ++ number_word count ++ zeros 48 ++ words s.addresses ++ zeros 2048

-- ---- a block

-- the place of a server, from 1 on; 0 where it has none
unfoldable pub place_of : List ℕ → (host : ℕ) → ℕ
place_of addresses host =
    let k = position_or_len (λ a. a == host) addresses in
    if k == length addresses then 0 else k + 1

-- the numbers at the front of an entry's block: its kind, its own, and how many sites it has
abbrev pub numbers_of : VlEntry → List ℕ
numbers_of e = 1 ∷ e.flags ∷ e.rw ∷ e.ro ∷ e.backup ∷ e.clone_id ∷ e.lock_op ∷ e.lock_moment ∷ length e.sites ∷ []

-- an entry's block: its numbers, its name, and a byte of each site for its place, its partition and its flags
unfoldable pub block_of : List ℕ → VlEntry → List ℕ
block_of addresses e =
    words (numbers_of e) ++ zeros 16 ++ filled NAME_FIELD e.name ++ filled SITES_FIELD (map (λ site. place_of addresses site.host) e.sites)
    ++ filled SITES_FIELD (map (λ site. site.partition) e.sites) ++ filled SITES_FIELD (map (λ site. site.flags) e.sites) ++ zeros 37

-- ---- an image

-- the empty image is read as the one that the first change makes of it
unfoldable pub whole : List ℕ → List ℕ
whole [] = head_of first_location 0
whole (b ∷ bytes) = b ∷ bytes

abbrev pub blocks_in : List ℕ → ℕ
blocks_in image = block_count HEAD_LEN image

abbrev pub block_at : List ℕ → ℕ → List ℕ
block_at image k = block_in HEAD_LEN image k

-- ---- what is read

-- the next volume id and the addresses of an image, whatever it holds
abbrev pub next_in : List ℕ → ℕ
next_in image = word_at image NEXT_AT

unfoldable pub addresses_in : List ℕ → List ℕ
addresses_in image = map (λ k. word_at image (ADDRESSES_AT + 4 * k)) (range_with_len 0 PLACES)

-- the name in a block ends before the first zero byte of its field
unfoldable pub name_in : List ℕ → List ℕ
name_in block = before_first (λ b. b == 0) (take NAME_FIELD (drop NAME_AT block))

-- the site of a number in a block; the place 0 is no server's
abbrev pub site_in : List ℕ → List ℕ → ℕ → VlSite
site_in addresses block k = record {
  host = slice_index (0 ∷ addresses) (slice_index block (PLACES_AT + k));
  partition = slice_index block (PARTITIONS_AT + k);
  flags = slice_index block (SITE_FLAGS_AT + k);
}

-- the entry whose fields stand in a block
unfoldable pub entry_in : List ℕ → List ℕ → VlEntry
entry_in addresses block = record {
  name = name_in block;
  flags = word_at block FLAGS_AT;
  rw = word_at block RW_AT;
  ro = word_at block RO_AT;
  backup = word_at block BACKUP_AT;
  clone_id = word_at block CLONE_AT;
  sites = map (site_in addresses block) (range_with_len 0 (min SITES_FIELD (word_at block COUNT_AT)));
  lock_op = word_at block LOCK_OP_AT;
  lock_moment = word_at block LOCK_MOMENT_AT;
}

abbrev pub has_name : List ℕ → List ℕ → Bool
has_name name block = kind_of block == 1 && bytes_eq (name_in block) name

-- an entry's block of which one of the three ids is this one; 0 is no entry's
abbrev pub has_id_in : (id : ℕ) → List ℕ → Bool
has_id_in id block =
    kind_of block == 1 && (not (id == 0) && (word_at block RW_AT == id || word_at block RO_AT == id || word_at block BACKUP_AT == id))
