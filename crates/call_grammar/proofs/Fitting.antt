-- Bytes are below 256, and what is below 256 are bytes.
use Rattle.std.proofs.Common.{◌≡◌, ℕ, zero, suc, Bool, true, cond, List, [], ◌∷◌, Option, Some, None, refl, sym, ap, subst, arith}
use Rattle.std.specs.Prelude.{nat_lt}
use Rattle.std.specs.List.{list_all}
use Rattle.std.proofs.lemmas.Bool.{and_from, and_parts, lt-ltb, ltb-true}
use Rattle.call_grammar.specs.Laws.{IsBytes}
use Rattle.call_grammar.specs.Shown.{only_bytes}

pub bytes_fit : (bytes : List ℕ) → IsBytes bytes → list_all (λ b. nat_lt b 256) bytes ≡ true
bytes_fit [] are = refl
bytes_fit (b ∷ bytes) are = and_from (nat_lt b 256) (list_all (λ x. nat_lt x 256) bytes) (lt-ltb b 256 (are 0)) (bytes_fit bytes (λ i. are (suc i)))

pub bytes_low : (bytes : List ℕ) → list_all (λ b. nat_lt b 256) bytes ≡ true → IsBytes bytes
bytes_low [] all i = omega arith
bytes_low (b ∷ bytes) all zero = ltb-true b 256 (and_parts (nat_lt b 256) (list_all (λ x. nat_lt x 256) bytes) all).0
bytes_low (b ∷ bytes) all (suc i) = bytes_low bytes (and_parts (nat_lt b 256) (list_all (λ x. nat_lt x 256) bytes) all).1 i

-- bytes that have their range stay
pub only_these : (o : Option (List ℕ)) (bytes : List ℕ) → o ≡ Some bytes → list_all (λ x. nat_lt x 256) bytes ≡ true
    → Some bytes ≡ only_bytes o
only_these None bytes is fit = absurd cc
only_these (Some other) bytes is fit =
    let same : bytes ≡ other = cc in
    subst (λ (l : List ℕ). Some bytes ≡ only_bytes (Some l)) same (sym (ap (λ (b : Bool). cond b (Some bytes) None) fit))
