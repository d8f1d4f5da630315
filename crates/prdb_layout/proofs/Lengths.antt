-- How long a head is, and where a name ends; what fits a word.
use Rattle.std.proofs.Common.{◌≡◌, ℕ, ℤ, pos, negsuc, ◌-◌, ◌^◌, ◌<◌, true, false, eqb, List, ◌++◌, length, get_or, refl, ◌∙◌, arith}
use Rattle.std.specs.Prelude.{FitsSigned}
use Rattle.std.specs.Int.{w32}
use Rattle.std.specs.List.{position_or_len, All}
use Rattle.std.proofs.lemmas.Bool.Decides.{nat_tests}
use Rattle.std.proofs.lemmas.List.{length-append, get_or_append_left, get_or-append_right, get_or-replicate}
use Rattle.std.proofs.lemmas.List.Sums.{position_or_len_is}
use Rattle.db_blocks.specs.Bytes.{words, zeros}
use Rattle.db_blocks.proofs.Lengths.{length-zeros}
use Rattle.prdb_layout.specs.Bytes.{bits}
use Rattle.prdb_layout.specs.State.{PrState, IsId}
use Rattle.prdb_layout.specs.Layout.{head_of}

-- ---- lengths

pub length-head : (s : PrState) → length (head_of s) ≡ 2112
unfolding head_of words
length-head s = omega (arith, length-zeros 2092)

-- ---- names and ids

get_or-zeros : (n i d : ℕ) → i < n → get_or (zeros n) i d ≡ 0
unfolding zeros
get_or-zeros n i d lt = get_or-replicate n i 0 d lt

not_zero : (b : ℕ) → 0 < b → eqb b 0 ≡ false
not_zero b h = grind (arith, nat_tests)

is_zero : (b : ℕ) → b ≡ 0 → eqb b 0 ≡ true
is_zero b h = grind (arith, nat_tests)

pub text_end : (name : List ℕ) (k : ℕ) → 0 < k → All (λ b. 0 < b) name → position_or_len (λ b. eqb b 0) (name ++ zeros k) ≡ length name
text_end name k more text =
    position_or_len_is (λ b. eqb b 0) (name ++ zeros k) (length name) 0 (omega (arith, length-append name (zeros k)))
    (λ i lt. rw (get_or_append_left name (zeros k) 0 i lt) (not_zero (get_or name i 0) (text i 0 lt)))
    (λ lt. is_zero (get_or (name ++ zeros k) (length name) 0)
    (get_or-append_right name (zeros k) (length name) (length name) 0 refl (omega arith)
    ∙ get_or-zeros k (length name - length name) 0 (omega arith)))

pub fits_id : (z : ℤ) → IsId z → FitsSigned w32 z
fits_id (pos n) h = record { sfits = omega arith }
fits_id (negsuc n) h = record { sfits = omega arith }

pub bits_below : (z : ℤ) → FitsSigned w32 z → bits z < 2 ^ 32
bits_below (pos n) h = omega (arith, h.sfits)
bits_below (negsuc n) h = omega (arith, h.sfits)
