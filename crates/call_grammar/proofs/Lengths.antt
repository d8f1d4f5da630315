-- How long strings and lists are in bytes.
use Rattle.std.proofs.Common.{ℕ, ◌+◌, ◌*◌, ◌≤◌, List, [], ◌∷◌, ◌++◌, length, replicate, arith}
use Rattle.std.specs.List.{AllByRecursion, flat_map}
use Rattle.std.proofs.lemmas.List.{length-append, length-replicate}
use Rattle.xdr_base.specs.Spelling.{opaque, padding, word}
use Rattle.call_grammar.specs.Items.{xdr_text}
use Rattle.call_grammar.specs.Lists.{listed}

pub opaque_len : (bytes : List ℕ) → length (opaque bytes) ≤ length bytes + 7
opaque_len bytes =
    let n = length bytes in
    omega (
      arith,
      length-append (word n ++ bytes) (replicate (padding n) 0),
      length-append (word n) bytes,
      length-replicate {A = ℕ}
          (padding n) 0,
    )

-- items, none of which has more bytes than this
pub flat_len : {A : Type 0} (f : A → List ℕ) (most : ℕ) (xs : List A) → AllByRecursion (λ x. length (f x) ≤ most) xs
    → length (flat_map f xs) ≤ most * length xs
flat_len f most [] all = omega arith
flat_len f most (x ∷ xs) all =
    let first = all.0 in
    let rest = flat_len f most xs all.1 in
    grind (arith, length-append (f x) (flat_map f xs), first, rest)

-- a list of them
pub listed_len : {A : Type 0} (f : A → List ℕ) (most : ℕ) (xs : List A) → AllByRecursion (λ x. length (f x) ≤ most) xs
    → length (listed xdr_text f xs) ≤ 4 + most * length xs
listed_len f most xs all = omega (arith, length-append (word (length xs)) (flat_map f xs), flat_len f most xs all)
