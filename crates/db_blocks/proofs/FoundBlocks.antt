-- What a scan found.
use Rattle.std.proofs.Common.{◌≡◌, ℕ, ◌+◌, ◌<◌, Bool, true, false, List, Some, None, ap, ◌∙◌, arith}
use Rattle.db_blocks.specs.Blocks.{block_count, block_in, first_block, IsFirst}
use Rattle.db_blocks.specs.declared.scans.Found.{Found}
use Rattle.db_blocks.proofs.FirstBlocks.{first_met, first_not}

-- what is found meets the test, and no block before it does
pub found_meets : (head : ℕ) (test : List ℕ → Bool) (image : List ℕ) (f : Found) → IsFirst head test image (Some f) → test f.block ≡ true
found_meets head test image f is =
    let at : first_block head test image < 0 + block_count head image = omega (arith, is.0, is.1) in
    let met = first_met (λ k. test (block_in head image k)) 0 (block_count head image) at in
    ap test (is.2 ∙ ap (block_in head image) is.1) ∙ met

pub none_meets : (head : ℕ) (test : List ℕ → Bool) (image : List ℕ) (k : ℕ) → IsFirst head test image None → k < block_count head image
    → test (block_in head image k) ≡ false
none_meets head test image k is below =
    first_not (λ j. test (block_in head image j)) 0 (block_count head image) k (omega arith) (omega (arith, is))
