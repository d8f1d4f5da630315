-- How long the first image is.
use Rattle.std.proofs.Common.{◌≡◌, refl}
use Rattle.std.specs.Prelude.{length}
use Rattle.db_blocks.specs.Bytes.{words, zeros}
use Rattle.prdb_layout.specs.State.{initial_state, fixed_entries}
use Rattle.prdb_layout.specs.Layout.{head_of, numbers_of, block_of, layout}

pub length-initial : length (layout initial_state) ≡ 3264
unfolding words zeros fixed_entries head_of numbers_of block_of layout
length-initial = refl
