-- The maxima as they are read.
use Rattle.std.proofs.Common.{◌≡◌, ℕ, ◌<◌, List, Option, Some, None, IfSome, length, take, drop, sym, ap, ◌∙◌, arith}
use Rattle.std.specs.Int.{w32, from_be_bytes, cast_signed}
use Rattle.std.proofs.lemmas.List.{take-take, drop-take, drop-drop}
use Rattle.prdb_layout.specs.Records.{maxima_in, signed_at, whole}
use Rattle.prdb_layout.proofs.LaidOut.{whole_same}

pub maxima_read : (bytes : Option (List ℕ)) (len : ℕ) (buf : List ℕ) → IfSome bytes (λ image. length image ≡ len) → 0 < len
    → IfSome bytes (λ image. buf ≡ take 8 (drop 8 image))
    → IfSome bytes (λ image. (signed_at buf 0, signed_at buf 4) ≡ maxima_in (whole image))
maxima_read None len buf told more is = tt
maxima_read (Some image) len buf told more is =
    let user : take 4 (drop 0 buf) ≡ take 4 (drop 8 image) = ap (take 4) is ∙ take-take 4 8 (drop 8 image) (omega arith) in
    let group : take 4 (drop 4 buf) ≡ take 4 (drop 12 image) = ap (λ (b : List ℕ). take 4 (drop 4 b)) is
    ∙ ap (take 4) (drop-take 4 4 (drop 8 image)) ∙ take-take 4 4 (drop 4 (drop 8 image)) (omega arith)
    ∙ ap (take 4) (drop-drop 4 8 image) in
    ap (λ (w : List ℕ). (cast_signed w32 (from_be_bytes w32 w), signed_at buf 4)) user
    ∙ ap (λ (w : List ℕ). (signed_at image 8, cast_signed w32 (from_be_bytes w32 w))) group
    ∙ ap maxima_in (sym (whole_same image (omega arith)))
