-- How long answers are.
use Rattle.std.proofs.Common.{ℕ, ℤ, ◌≤◌, List, [], ◌∷◌, length, arith}
use Rattle.std.specs.Prelude.{FitsSigned}
use Rattle.std.specs.Fmt.{signed_decimal}
use Rattle.std.specs.Int.{w32}
use Rattle.std.specs.List.{AllByRecursion}
use Rattle.std.proofs.lemmas.Fmt.{length_signed_le}
use Rattle.xdr_base.specs.Spelling.{opaque}
use Rattle.call_grammar.specs.Items.{xdr_text}
use Rattle.call_grammar.specs.Lists.{listed}
use Rattle.call_grammar.proofs.Lengths.{listed_len, opaque_len}
use Rattle.pt_calls.specs.Shapes.{IsName}

pub digits_len : (z : ℤ) → FitsSigned w32 z → length (signed_decimal z) ≤ 63
digits_len z fits = omega (arith, length_signed_le 10 z (omega (arith, fits.sfits)) (omega (arith, fits.sfits)))

names_small : (names : List (List ℕ)) → AllByRecursion (λ name. length name ≤ 63) names
    → AllByRecursion (λ name. length (opaque name) ≤ 70) names
names_small [] all = tt
names_small (name ∷ names) all = (omega (arith, opaque_len name, all.0), names_small names all.1)

pub names_len : (names : List (List ℕ)) → AllByRecursion (λ name. length name ≤ 63) names → length names ≤ 5000
    → length (listed xdr_text opaque names) ≤ 1048576
names_len names all count = omega (arith, count, listed_len opaque 70 names (names_small names all))

pub names_spelled : (names : List (List ℕ)) → AllByRecursion (λ name. length name ≤ 63) names → AllByRecursion IsName names
names_spelled [] all = tt
names_spelled (name ∷ names) all = (omega (arith, all.0), names_spelled names all.1)
