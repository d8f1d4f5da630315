-- The first image: its chains, and the image without them.
use Rattle.std.proofs.Common.{◌≡◌, ℕ, pos, negsuc, List, [], ◌++◌, length, take, refl, ◌∙◌}
use Rattle.std.specs.List.{flat_map, range_with_len}
use Rattle.db_chains.specs.Changes.{put_in, put_word}
use Rattle.prdb_layout.specs.Blocks.{block_count}
use Rattle.db_blocks.specs.Bytes.{words, zeros}
use Rattle.prdb_layout.specs.Layout.{block_of, head_of, layout, numbers_of}
use Rattle.db_blocks.specs.Blocks.{block_in as any_block}
use Rattle.prdb_layout.specs.Records.{block_in, maxima_in}
use Rattle.prdb_layout.specs.State.{fixed_entries, initial_state}
use Rattle.prdb_finds.specs.First.{first_image}
use Rattle.prdb_finds.specs.Records.{whole}
use Rattle.prdb_finds.specs.Unchained.{unchained, unlinked, unlinked_head}

pub first_maxima : maxima_in (whole []) ≡ (pos 0, negsuc 204)
unfolding whole first_image put_in put_word layout head_of words zeros fixed_entries block_of numbers_of any_block
first_maxima = refl

pub first_len : length (whole []) ≡ 3264
unfolding whole first_image put_in put_word layout head_of words zeros fixed_entries block_of numbers_of any_block
first_len = refl

parts : (image : List ℕ)
    → unchained image
    ≡ unlinked_head (take 2112 image) ++ flat_map (λ k. unlinked (block_in image k)) (range_with_len 0 (block_count image))
unfolding unchained
parts image = refl

first_parts : unlinked_head (take 2112 (whole [])) ++ flat_map (λ k. unlinked (block_in (whole []) k))
    (range_with_len 0 (block_count (whole []))) ≡ layout initial_state
unfolding whole first_image put_in put_word layout head_of words zeros fixed_entries block_of numbers_of any_block unlinked unlinked_head
first_parts = refl

pub first_unchained : unchained (whole []) ≡ layout initial_state
first_unchained = parts (whole []) ∙ first_parts
