-- The image of the first entries without words of chains, format 1: a head, and a block for each entry.
use Rattle.std.specs.Prelude.{ℕ, ◌-◌, List, [], ◌∷◌, ◌++◌, length}
use Rattle.std.specs.List.{flat_map}
use Rattle.ubik_types.specs.declared.words.TheConstants.{WORD_LEN}
use Rattle.prdb_layout.specs.declared.blocks.TheConstants.{HEAD_LEN, BLOCK_COUNT_AT, NAME_AT, NAME_FIELD}
use Rattle.db_blocks.specs.declared.blocks.TheConstants.{BLOCK_LEN}
use Rattle.db_blocks.specs.Bytes.{words, zeros, filled}
use Rattle.prdb_layout.specs.Bytes.{bits}
use Rattle.prdb_layout.specs.declared.entries.Entry.{Entry}
use Rattle.prdb_layout.specs.State.{PrEntry, PrState}

-- the head: the database's word, format 1, the maxima, the number of blocks, and zero bytes
unfoldable pub head_of : PrState → List ℕ
head_of s = words (0x50524442 ∷ 1 ∷ s.max_user ∷ bits s.max_group ∷ length s.entries ∷ []) ++ zeros (HEAD_LEN - BLOCK_COUNT_AT - WORD_LEN)

-- an entry, without where its name lies in memory
abbrev pub entry_of : Entry → PrEntry
entry_of e = record { name = e.name.now; flags = e.flags; id = e.id; owner = e.owner; creator = e.creator; quota = e.quota }

-- the numbers at the front of an entry's block: its kind, its own, and that it has no pairs
unfoldable pub numbers_of : PrEntry → List ℕ
numbers_of e = 1 ∷ e.flags ∷ bits e.id ∷ bits e.owner ∷ bits e.creator ∷ bits e.quota ∷ 0 ∷ 0 ∷ []

-- an entry's block: its numbers, its name in its field, and zero bytes
unfoldable pub block_of : PrEntry → List ℕ
block_of e = words (numbers_of e) ++ filled NAME_FIELD e.name ++ zeros (BLOCK_LEN - NAME_AT - NAME_FIELD)

unfoldable pub layout : PrState → List ℕ
layout s = head_of s ++ flat_map block_of s.entries
