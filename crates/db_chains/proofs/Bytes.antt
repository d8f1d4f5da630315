-- Bytes that stay where others are laid.
use Rattle.std.proofs.Common.{◌≡◌, ℕ, ◌+◌, ◌<◌, ◌≤◌, ◌⊎◌, List, ◌++◌, length, slice_index, take, drop, refl, sym, ap, subst, ◌∙◌, ⊎_elim, append_assoc, arith}
use Rattle.std.specs.Int.{w32, from_be_bytes}
use Rattle.std.proofs.lemmas.Grind.{same_number_lists}
use Rattle.std.proofs.lemmas.List.{take_at, drop_at, length-drop, length-take-le, get_or-take, get_or-drop}
use Rattle.ubik_types.specs.Image.{changed}
use Rattle.ubik_types.specs.declared.images.Change.TheVariants.{Put}
use Rattle.db_blocks.specs.Blocks.{word_at, blanked}
use Rattle.db_blocks.specs.Bytes.{number_word, zeros}
use Rattle.db_blocks.proofs.BlockPlaces.{changed_laid, laid, laid_len, laid_before, laid_behind}
use Rattle.db_blocks.proofs.Numbers.{number_told}
use Rattle.db_blocks.proofs.Lengths.{length-zeros}
use Rattle.db_chains.specs.Changes.{put_word}

-- an image is no shorter, and has other bytes in this range alone
pub record StaysBut (at len : ℕ) (old new : List ℕ) : Type 0 where
  pub longer : length old ≤ length new
  pub before : (i : ℕ) → i < at → i < length old → slice_index new i ≡ slice_index old i
  pub behind : (i : ℕ) → at + len ≤ i → i < length old → slice_index new i ≡ slice_index old i

-- a word lies apart from a range
abbrev pub IsApart : (at len q : ℕ) → Type 0
IsApart at len q = (q + 4 ≤ at) ⊎ (at + len ≤ q)

laid_here : (image bytes : List ℕ) (at : ℕ) → at ≤ length image → length bytes ≡ 4 → take 4 (drop at (laid image at bytes)) ≡ bytes
unfolding laid
laid_here image bytes at within len =
    ap (λ (x : List ℕ). take 4 (drop at x)) (append_assoc (take at image) bytes (drop (at + length bytes) image))
    ∙ ap (take 4) (drop_at (take at image) (bytes ++ drop (at + length bytes) image) at (length-take-le at image within))
    ∙ take_at bytes (drop (at + length bytes) image) 4 len

pub put_stays : (image bytes : List ℕ) (at : ℕ) → at + length bytes ≤ length image
    → StaysBut at (length bytes) image (changed image (Put at bytes))
put_stays image bytes at within =
    subst (StaysBut at (length bytes) image) (sym (changed_laid image bytes at (omega arith))) record {
      longer = omega (arith, laid_len image bytes at within);
      before = λ i before below. laid_before image bytes at i (omega arith) before;
      behind = λ i behind below. laid_behind image bytes at i within behind;
    }

pub put_len : (image bytes : List ℕ) (at : ℕ) → at + length bytes ≤ length image → length (changed image (Put at bytes)) ≡ length image
put_len image bytes at within = ap length (changed_laid image bytes at (omega arith)) ∙ laid_len image bytes at within

-- a word apart from what is laid
pub word_stays : (at len q : ℕ) (old new : List ℕ) → StaysBut at len old new → q + 4 ≤ length old → IsApart at len q
    → word_at new q ≡ word_at old q
word_stays at len q old new stays within apart =
    let long_old : length (take 4 (drop q old)) ≡ 4 = length-take-le 4 (drop q old) (omega (arith, length-drop q old)) in
    let long_new : length (take 4 (drop q new)) ≡ 4 = length-take-le 4 (drop q new) (omega (arith, length-drop q new, stays.longer)) in
    ap (from_be_bytes w32) (same_number_lists (take 4 (drop q new)) (take 4 (drop q old)) (long_new ∙ sym long_old)
    (λ k below.
    let short : k < 4 = omega (arith, below, long_new) in
    get_or-take 4 (drop q new) k 0 short ∙ get_or-drop q new k 0
    ∙ ⊎_elim (λ (first : q + 4 ≤ at). stays.before (q + k) (omega arith) (omega arith))
    (λ (behind : at + len ≤ q). stays.behind (q + k) (omega arith) (omega arith)) apart
    ∙ sym (get_or-take 4 (drop q old) k 0 short ∙ get_or-drop q old k 0)))

-- ---- a number in a word

pub word_put : (image : List ℕ) (at n : ℕ) → at + 4 ≤ length image → StaysBut at 4 image (put_word at n image)
unfolding put_word
word_put image at n within = put_stays image (number_word n) at within

pub word_len : (image : List ℕ) (at n : ℕ) → at + 4 ≤ length image → length (put_word at n image) ≡ length image
unfolding put_word
word_len image at n within = put_len image (number_word n) at within

pub word_here : (image : List ℕ) (at n : ℕ) → at + 4 ≤ length image → word_at (put_word at n image) at ≡ n
unfolding put_word
word_here image at n within =
    ap (λ (b : List ℕ). from_be_bytes w32 (take 4 (drop at b))) (changed_laid image (number_word n) at (omega arith))
    ∙ ap (from_be_bytes w32) (laid_here image (number_word n) at (omega arith) refl) ∙ number_told n

pub blanked_stays : (at len : ℕ) (bytes : List ℕ) → at + len ≤ length bytes → StaysBut at len bytes (blanked at len bytes)
blanked_stays at len bytes within =
    subst (λ (n : ℕ). StaysBut at n bytes (blanked at len bytes)) (length-zeros len) (put_stays bytes (zeros len) at (omega
    (arith, length-zeros len)))

pub blanked_len : (at len : ℕ) (bytes : List ℕ) → at + len ≤ length bytes → length (blanked at len bytes) ≡ length bytes
blanked_len at len bytes within = put_len bytes (zeros len) at (omega (arith, length-zeros len))
