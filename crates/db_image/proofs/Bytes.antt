-- The bytes of a draft, one by one.
use Rattle.std.proofs.Common.{◌≡◌, ℕ, ◌+◌, ◌-◌, ◌<◌, ap, ◌∙◌, arith}
use Rattle.db_image.specs.declared.overlays.Overlay.{Overlay}
use Rattle.db_image.specs.Places.{block_number, block_start, block_size}
use Rattle.db_image.specs.Draft.{changed_at, byte_of, byte_over}
use Rattle.db_image.proofs.BlockNumbers.{number_same}

-- the byte at a position that lies in a block
pub byte_in : (o : Overlay) (k offset at beneath : ℕ) → block_start o.layout k + offset ≡ at → offset < block_size o.layout k
    → byte_over o at beneath ≡ byte_of (changed_at o k) offset beneath
unfolding byte_over
byte_in o k offset at beneath lies within =
    let same : block_number o.layout at ≡ k = number_same o.layout k at (omega arith) (omega arith) in
    let far : at - block_start o.layout k ≡ offset = omega arith in
    ap (λ (n : ℕ). byte_of (changed_at o n) (at - block_start o.layout n) beneath) same
    ∙ ap (λ (n : ℕ). byte_of (changed_at o k) n beneath) far
