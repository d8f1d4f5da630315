-- The empty image holds the first state.
use Rattle.std.proofs.Common.{◌≡◌, ℕ, zero, suc, ◌+◌, ◌-◌, ◌*◌, ◌^◌, ◌<◌, ◌≤◌, List, [], ◌∷◌, ◌++◌, length, get_or, take, drop, replicate, refl, sym, ap, ◌∙◌, arith}
use Rattle.std.specs.Int.{w32, from_be_bytes}
use Rattle.std.specs.List.{AllByRecursion, flat_map}
use Rattle.std.proofs.lemmas.List.{drop-drop, drop-replicate, drop_at, length-append, length-replicate, take-replicate}
use Rattle.db_blocks.specs.Blocks.{word_at}
use Rattle.db_blocks.specs.Bytes.{word, words, zeros}
use Rattle.db_blocks.proofs.Lengths.{length-zeros}
use Rattle.db_chains.specs.declared.links.Links.{Links}
use Rattle.db_chains.specs.Visits.{Visits}
use Rattle.vldb_chains.specs.Places.{id_links, name_links}
use Rattle.vldb_entries.specs.Location.{IsLocation, first_location}
use Rattle.vldb_entries.specs.Forms.{blocks_in, head_of, whole}
use Rattle.vldb_entries.proofs.HeadRead.{length-head, length-words, whole_empty}
use Rattle.vldb_records.specs.Records.{Holds, IsIdWord, IsLaidOut, IsNameWord, id_place, name_place, unlinked_head}
use Rattle.vldb_records.proofs.HeadTold.{take_all}

zeros_fit : (n : ℕ) → AllByRecursion (λ host. host < 2 ^ 32) (replicate n 0)
zeros_fit zero = tt
zeros_fit (suc n) = (omega arith, zeros_fit n)

zero_at : (n i : ℕ) → get_or {A = ℕ} (replicate n 0) i 0 ≡ 0
zero_at zero zero = refl
zero_at zero (suc i) = refl
zero_at (suc n) zero = refl
zero_at (suc n) (suc i) = zero_at n i

first_valid : IsLocation first_location
first_valid = record {
  ids = λ rw_id e at. absurd cc;
  records = λ rw_id e at. absurd cc;
  names = λ a b e f at_a at_b same. absurd cc;
  apart = λ a b id e f at_a at_b has_e has_f. absurd cc;
  hosts = λ rw_id e at. absurd cc;
  places = length-replicate {A = ℕ} 255 0;
  words = zeros_fit 255;
  once = λ i j in_i in_j used same. absurd (used (zero_at 255 i));
  next = omega arith;
}

-- ---- the first head

zero_word : (n p : ℕ) → p + 4 ≤ n → word_at (zeros n) p ≡ 0
unfolding zeros
zero_word n p within =
    ap (λ (b : List ℕ). from_be_bytes w32 (take 4 b)) (drop-replicate p n 0)
    ∙ ap (from_be_bytes w32) (take-replicate 4 (n - p) 0 (omega arith))

-- the words behind the addresses
pub first_word : (p : ℕ) → p + 4 ≤ 2048 → word_at (head_of first_location 0) (1084 + p) ≡ 0
unfolding head_of words
first_word p within =
    let numbers : List ℕ = flat_map word (0x564C4442 ∷ 1 ∷ 536870912 ∷ 0 ∷ []) in
    let front : List ℕ = (numbers ++ zeros 48) ++ flat_map word (replicate 255 0) in
    let size : length front ≡ 1084 =
    omega (
      arith,
      length-append (numbers ++ zeros 48) (flat_map word (replicate 255 0)),
      length-append numbers (zeros 48),
      length-zeros 48,
      length-words (replicate 255 0),
      length-replicate {A = ℕ} 255 0,
    ) in
    ap (λ (b : List ℕ). from_be_bytes w32 (take 4 b)) (sym (drop-drop p 1084 (front ++ zeros 2048)))
    ∙ ap (λ (b : List ℕ). from_be_bytes w32 (take 4 (drop p b))) (drop_at front (zeros 2048) 1084 size)
    ∙ zero_word 2048 p within

first_free : word_at (head_of first_location 0) 16 ≡ 0
unfolding head_of words zeros
first_free = refl

first_unlinked : unlinked_head (head_of first_location 0) ≡ head_of first_location 0
unfolding unlinked_head head_of words zeros
first_unlinked = refl

-- ---- the image

none_visited : (l : Links) (image : List ℕ) (at : ℕ) (P : ℕ → Type 0) → word_at image at ≡ 0 → ((w : ℕ) → P w → ⊥) → Visits l image at P
none_visited l image at P none never = record {
  words = [];
  chain = none;
  only = λ w has. absurd (omega (arith, has.1));
  each = λ w belongs. absurd (never w belongs);
}

none_laid : (image : List ℕ) → image ≡ head_of first_location 0 → IsLaidOut image first_location
none_laid image is =
    let size : length image ≡ 3132 = ap length is ∙ length-head first_location 0 (length-replicate {A = ℕ} 255 0) in
    let count : blocks_in image ≡ 0 = omega (arith, size) in
    record {
      size = omega (arith, size, count);
      head = ap unlinked_head (take_all 3132 image size ∙ is) ∙ first_unlinked ∙ ap (head_of first_location) (sym count);
      blocks = λ k below. absurd (omega (arith, below, count));
      only = λ rw_id e at. absurd cc;
      one = λ j k e in_j in_k at_j at_k. absurd (omega (arith, in_j, count));
      names = λ key low. none_visited name_links image (name_place key) (IsNameWord first_location image key)
          (ap (λ (b : List ℕ). word_at b (name_place key)) is ∙ first_word (4 * key) (omega arith))
          (λ w belongs. omega (arith, belongs.number.some, belongs.number.within, count));
      ids = λ key low. none_visited id_links image (id_place key) (IsIdWord first_location image key)
          (ap (λ (b : List ℕ). word_at b (id_place key)) is
          ∙ ap (word_at (head_of first_location 0)) (omega arith) ∙ first_word (1024 + 4 * key) (omega arith))
          (λ w belongs. omega (arith, belongs.number.some, belongs.number.within, count));
      unused = λ k e below at kind low gone. absurd (omega (arith, below, count));
      free = record {
        words = [];
        chain = ap (λ (b : List ℕ). word_at b 16) is ∙ first_free;
        ascending = tt;
        each = λ k below free. absurd (omega (arith, below, count));
      };
    }

pub empty_holds : Holds [] first_location
empty_holds = record { valid = first_valid; laid = none_laid (whole []) (whole_empty [] refl) }
