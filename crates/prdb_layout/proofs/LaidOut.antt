-- Of what kind a block is, and an image that is not empty read whole.
use Rattle.std.proofs.Common.{◌≡◌, ℕ, ◌<◌, ◌≤◌, List, [], ◌∷◌, length, refl, ap, inl, inr, arith}
use Rattle.db_blocks.specs.Bytes.{zeros}
use Rattle.db_blocks.specs.Blocks.{kind_of}
use Rattle.prdb_layout.specs.Records.{IsBlock, whole}

pub zero_kind : kind_of (zeros 192) ≡ 0
unfolding zeros
zero_kind = refl

pub kind_small : (block : List ℕ) → IsBlock block → kind_of block ≤ 2
kind_small block is =
    elim is [
      | inl free ↦ omega (arith, ap kind_of free, zero_kind)
      | inr other ↦ elim other [ inl more ↦ omega arith | inr entry ↦ omega (arith, entry.kind) ]
    ]

-- ---- the empty image is read as the first one

pub whole_same : (image : List ℕ) → 0 < length image → whole image ≡ image
unfolding whole
whole_same [] more = absurd (omega arith)
whole_same (b ∷ bytes) more = refl
