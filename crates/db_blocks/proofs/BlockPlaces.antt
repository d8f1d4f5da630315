-- Blocks that are laid into an image, and those that stay.
use Rattle.std.proofs.Common.{◌≡◌, ◌≢◌, ℕ, ◌+◌, ◌-◌, ◌<◌, ◌≤◌, List, ◌++◌, length, slice_index, take, drop, replicate, sym, ap, subst, ◌∙◌, ⊎_elim, append_assoc, rules, arith, ◌/◌, ◌⊎◌, ◌∷◌}
use Rattle.std.proofs.lemmas.Bool.{cases_lt}
use Rattle.std.proofs.lemmas.Grind.{same_number_lists}
use Rattle.std.proofs.lemmas.List.{places, same_lists, take_at, drop_at, take-append-le, length-drop, length-take-le, get_or-take, get_or-drop}
use Rattle.ubik_types.specs.Image.{changed}
use Rattle.ubik_types.specs.declared.images.Change.TheVariants.{Put}
use Rattle.db_blocks.specs.Blocks.{block_count, block_in, block_place, with_block}

-- bytes that are laid within an image or at its end
unfoldable pub laid : List ℕ → ℕ → List ℕ → List ℕ
laid image at bytes = take at image ++ bytes ++ drop (at + length bytes) image

pub changed_laid : (image bytes : List ℕ) (at : ℕ) → at ≤ length image → changed image (Put at bytes) ≡ laid image at bytes
unfolding laid
changed_laid image bytes at within =
    ap (λ (front : List ℕ). front ++ bytes ++ drop (at + length bytes) image)
    (take-append-le at image (replicate (at - length image) 0) within)

pub laid_before : (image bytes : List ℕ) (at i : ℕ) → at ≤ length image → i < at → slice_index (laid image at bytes) i ≡ slice_index image i
unfolding laid
laid_before image bytes at i within before = grind (arith, places)

pub laid_behind : (image bytes : List ℕ) (at i : ℕ) → at + length bytes ≤ length image → at + length bytes ≤ i
    → slice_index (laid image at bytes) i ≡ slice_index image i
unfolding laid
laid_behind image bytes at i within behind = grind (arith, places)

pub laid_len : (image bytes : List ℕ) (at : ℕ) → at + length bytes ≤ length image → length (laid image at bytes) ≡ length image
unfolding laid
laid_len image bytes at within = grind (arith, places)

pub laid_end : (image bytes : List ℕ) (at : ℕ) → length image ≡ at → length (laid image at bytes) ≡ at + length bytes
unfolding laid
laid_end image bytes at is = grind (arith, places)

-- two images have the same bytes in a part
pub part_same : (a b : List ℕ) (at len : ℕ) → at + len ≤ length a → at + len ≤ length b
    → ((i : ℕ) → at ≤ i → i < at + len → slice_index a i ≡ slice_index b i) → take len (drop at a) ≡ take len (drop at b)
part_same a b at len in_a in_b same =
    same_number_lists (take len (drop at a)) (take len (drop at b))
    (length-take-le len (drop at a) (omega (arith, length-drop at a))
    ∙ sym (length-take-le len (drop at b) (omega (arith, length-drop at b))))
    (λ k below.
    let short : k < len = omega (arith, below, length-take-le len (drop at a) (omega (arith, length-drop at a))) in
    get_or-take len (drop at a) k 0 short ∙ get_or-drop at a k 0 ∙ same (at + k) (omega arith) (omega arith)
    ∙ sym (get_or-take len (drop at b) k 0 short ∙ get_or-drop at b k 0))

pub take_laid : (image bytes : List ℕ) (at m : ℕ) → at + length bytes ≤ m → m ≤ length image
    → take m (laid image at bytes) ≡ laid (take m image) at bytes
unfolding laid
take_laid image bytes at m fits within = same_lists _ _ (search (rules, places)) (λ k d h. grind (arith, places))

-- ---- a block of an image

-- what a block in its place makes of an image of so many whole blocks
pub record IsPut (head k : ℕ) (block old new : List ℕ) (count : ℕ) : Type 0 where
  pub size : length new ≡ block_place head count
  pub front : take head new ≡ take head old
  pub here : block_in head new k ≡ block
  pub others : (j : ℕ) → j < block_count head old → j ≢ k → block_in head new j ≡ block_in head old j

-- a block that is laid into another place than this one, or behind it
apart : (head : ℕ) (image bytes : List ℕ) (k j n : ℕ) → length image ≡ block_place head n → length bytes ≡ 192 → k ≤ n → j < n → j ≢ k
    → take 192 (drop (block_place head j) (laid image (block_place head k) bytes)) ≡ take 192 (drop (block_place head j) image)
apart head image bytes k j n size len within below other =
    ⊎_elim
    (λ (before : j < k).
    let long : block_place head k ≤ length (laid image (block_place head k) bytes) = ⊎_elim
    (λ (less : k < n). omega (arith, laid_len image bytes (block_place head k) (omega arith)))
    (λ (last : n ≤ k). omega (arith, laid_end image bytes (block_place head k) (omega arith)))
    (cases_lt k n) in
    part_same (laid image (block_place head k) bytes) image (block_place head j) 192 (omega arith) (omega arith)
    (λ i from less. laid_before image bytes (block_place head k) i (omega arith) (omega arith)))
    (λ (behind : k ≤ j).
    part_same (laid image (block_place head k) bytes) image (block_place head j) 192
    (omega (arith, laid_len image bytes (block_place head k) (omega arith))) (omega arith)
    (λ i from less. laid_behind image bytes (block_place head k) i (omega arith) (omega arith)))
    (cases_lt j k)

pub here : (image bytes : List ℕ) (at : ℕ) → at ≤ length image → length bytes ≡ 192 → take 192 (drop at (laid image at bytes)) ≡ bytes
unfolding laid
here image bytes at within len =
    ap (λ (x : List ℕ). take 192 (drop at x)) (append_assoc (take at image) bytes (drop (at + length bytes) image))
    ∙ ap (take 192) (drop_at (take at image) (bytes ++ drop (at + length bytes) image) at (length-take-le at image within))
    ∙ take_at bytes (drop (at + length bytes) image) 192 len

pub front : (image bytes : List ℕ) (at m : ℕ) → m ≤ at → at ≤ length image → take m (laid image at bytes) ≡ take m image
unfolding laid
front image bytes at m before within = same_lists _ _ (search (rules, places)) (λ k d h. grind (arith, places))

pub put_block : (head : ℕ) (image block : List ℕ) (k n : ℕ) → length image ≡ block_place head n → length block ≡ 192 → k < n
    → IsPut head k block image (with_block head k block image) n
unfolding block_in
put_block head image block k n size len below =
    let is : with_block head k block image ≡ laid image (block_place head k) block = changed_laid image block (block_place head k)
    (omega arith) in
    let count : block_count head image ≡ n = omega arith in
    subst (λ (new : List ℕ). IsPut head k block image new n) (sym is) record {
      size = laid_len image block (block_place head k) (omega arith) ∙ size;
      front = front image block (block_place head k) head (omega arith) (omega arith);
      here = here image block (block_place head k) (omega arith) len;
      others = λ j less other. apart head image block k j n size len (omega arith) (omega arith) other;
    }

pub add_block : (head : ℕ) (image block : List ℕ) (n : ℕ) → length image ≡ block_place head n → length block ≡ 192
    → IsPut head n block image (with_block head n block image) (n + 1)
unfolding block_in
add_block head image block n size len =
    let is : with_block head n block image ≡ laid image (block_place head n) block = changed_laid image block (block_place head n)
    (omega arith) in
    let count : block_count head image ≡ n = omega arith in
    subst (λ (new : List ℕ). IsPut head n block image new (n + 1)) (sym is) record {
      size = omega (arith, laid_end image block (block_place head n) size);
      front = front image block (block_place head n) head (omega arith) (omega arith);
      here = here image block (block_place head n) (omega arith) len;
      others = λ j less other. apart head image block n j n size len (omega arith) (omega arith) other;
    }

-- ---- words in the head

pub record IsHeadPut (head : ℕ) (old new made : List ℕ) : Type 0 where
  pub size : length new ≡ length old
  pub front : take head new ≡ made
  pub others : (j : ℕ) → j < block_count head old → block_in head new j ≡ block_in head old j

pub head_put : (head : ℕ) (image bytes old_head new_head : List ℕ) (at n : ℕ) → length image ≡ block_place head n
    → at + length bytes ≤ head → take head image ≡ old_head
    → laid old_head at bytes ≡ new_head → IsHeadPut head image (changed image (Put at bytes)) new_head
unfolding block_in
head_put head image bytes old_head new_head at n size fits is made =
    let whole : changed image (Put at bytes) ≡ laid image at bytes = changed_laid image bytes at (omega arith) in
    let count : block_count head image ≡ n = omega arith in
    subst (λ (new : List ℕ). IsHeadPut head image new new_head) (sym whole) record {
      size = laid_len image bytes at (omega arith);
      front = take_laid image bytes at head fits (omega arith) ∙ ap (λ (h : List ℕ). laid h at bytes) is ∙ made;
      others =
          λ j less. part_same (laid image at bytes) image (block_place head j) 192 (omega (arith, laid_len image bytes at (omega arith)))
          (omega arith)
          (λ i from below. laid_behind image bytes at i (omega arith) (omega arith));
    }

pub laid_out : (image bytes : List ℕ) (at i : ℕ) → at + length bytes ≤ length image → (i < at) ⊎ (at + length bytes ≤ i)
    → slice_index (laid image at bytes) i ≡ slice_index image i
unfolding laid
laid_out image bytes at i within beside =
    ⊎_elim (λ (before : i < at). grind (arith, places)) (λ (behind : at + length bytes ≤ i). grind (arith, places)) beside

pub laid_in : (image bytes : List ℕ) (at i : ℕ) → at + length bytes ≤ length image → at ≤ i → i < at + length bytes
    → slice_index (laid image at bytes) i ≡ slice_index bytes (i - at)
unfolding laid
laid_in image bytes at i within from below = grind (arith, places)
