-- An image without the words of its chains: what prdb_layout and prdb_lists say of images is said of it.
use Rattle.std.specs.Prelude.{ℕ, ◌==◌, List, ◌++◌, take, if◌then◌else◌}
use Rattle.std.specs.List.{flat_map, range_with_len}
use Rattle.prdb_layout.specs.Blocks.{block_count}
use Rattle.db_blocks.specs.Blocks.{kind_of, blanked}
use Rattle.prdb_layout.specs.Records.{block_in}
use Rattle.prdb_layout.specs.declared.blocks.TheConstants.{HEAD_LEN}

-- the head without the first free block, and without the first words of the chains of names and ids
unfoldable pub unlinked_head : List ℕ → List ℕ
unlinked_head head = blanked 64 2048 (blanked 20 4 head)

-- an entry's block without its next words, by name, by id and of its owner's chain, and without the first word of its own; a free block
-- without its next word; a continuation block stands in no chain of blocks that has words here
unfoldable pub unlinked : List ℕ → List ℕ
unlinked block =
    if kind_of block == 1 then blanked 96 16 block else if kind_of block == 0 then blanked 4 4 block else block

-- the head and the blocks without them
unfoldable pub unchained : List ℕ → List ℕ
unchained image =
    unlinked_head (take HEAD_LEN image) ++ flat_map (λ k. unlinked (block_in image k)) (range_with_len 0 (block_count image))
