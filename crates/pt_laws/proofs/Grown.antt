-- Other maxima leave no shorter image.
use Rattle.std.proofs.Common.{ℕ, ℤ, ◌≤◌, Bool, true, false, ◌&&◌, cond, List, [], ◌∷◌, ◌++◌, length, arith}
use Rattle.std.specs.Ordering.{int_eq}
use Rattle.ubik_types.specs.Image.{changed}
use Rattle.ubik_types.specs.declared.images.Change.TheVariants.{Put}
use Rattle.db_blocks.specs.Bytes.{word}
use Rattle.prdb_layout.specs.Bytes.{bits}
use Rattle.prdb_layout.specs.Records.{maxima_in}
use Rattle.prdb_finds.specs.Changes.{after_set_maxima}
use Rattle.prdb_finds.specs.Records.{whole}
use Rattle.prdb_entries.proofs.Longer.{put_longer}

pub on_longer : (a b c : ℕ) → a ≤ b → b ≤ c → a ≤ c
on_longer a b c h k = omega (arith, h, k)

pub either_longer : (n : ℕ) (b : Bool) (x y : List ℕ) → n ≤ length x → n ≤ length y → n ≤ length (cond b x y)
either_longer n true x y h k = h
either_longer n false x y h k = k

pub grows_same : (image : List ℕ) → length image ≤ length image
grows_same image = omega arith

grows_whole : (image : List ℕ) → length image ≤ length (whole image)
unfolding whole
grows_whole [] = omega arith
grows_whole (b ∷ bytes) = omega arith

pub grows_maxima : (user group : ℤ) (image : List ℕ) → length image ≤ length (after_set_maxima user group image)
unfolding after_set_maxima
grows_maxima user group image =
    let old = maxima_in (whole image) in
    let words = word (bits user) ++ word (bits group) in
    either_longer (length image) (int_eq old.0 user && int_eq old.1 group) image (changed (whole image) (Put 8 words)) (grows_same image)
    (on_longer (length image) (length (whole image)) (length (changed (whole image) (Put 8 words))) (grows_whole image)
    (put_longer (whole image) words 8))
