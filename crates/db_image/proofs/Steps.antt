-- No block stands behind the end of an image, and none is another one there.
use Rattle.std.proofs.Common.{◌≡◌, ℕ, ◌≤◌, List, [], ◌∷◌, length, take, ap, ◌∙◌, cond, arith}
use Rattle.std.specs.Str.{bytes_eq}
use Rattle.std.proofs.lemmas.List.{take_all, drop_all}
use Rattle.ubik_types.specs.declared.images.Change.TheVariants.{Put}
use Rattle.db_image.specs.Blocks.{block_at, block_change}

-- no block stands behind the end of an image
pub block_at_past : (image : List ℕ) (at size : ℕ) → length image ≤ at → block_at image at size ≡ []
block_at_past image at size h = ap (take size) (drop_all at image h) ∙ take_all size [] (omega arith)

-- behind both images no block is another one
pub block_change_past : (old new : List ℕ) (at size : ℕ) → length old ≤ at → length new ≤ at → block_change old new at size ≡ []
block_change_past old new at size h k =
    ap (λ (n : List ℕ). cond (bytes_eq n (block_at old at size)) [] (Put at n ∷ [])) (block_at_past new at size k)
    ∙ ap (λ (o : List ℕ). cond (bytes_eq [] o) [] (Put at [] ∷ [])) (block_at_past old at size h)
