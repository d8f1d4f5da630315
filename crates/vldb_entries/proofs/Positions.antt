-- Where a test holds first.
use Rattle.std.proofs.Common.{◌≡◌, ℕ, ◌+◌, ◌<◌, Bool, eqb, List, Option, Some, None, length, refl, sym, ap, ◌∙◌, arith}
use Rattle.std.specs.Prelude.{unwrap_or}
use Rattle.std.specs.List.{position, position_or_len}
use Rattle.std.proofs.lemmas.Bool.{eq-eqb}
use Rattle.std.proofs.lemmas.Bool.Decides.{nat_tests}
use Rattle.std.proofs.lemmas.List.Sums.{prefix_len-le-length}
use Rattle.db_blocks.proofs.Maps.{test_other}
use Rattle.vldb_entries.specs.Forms.{place_of}

pub unwrap_or-position : (p : ℕ → Bool) (xs : List ℕ) → unwrap_or (position p xs) (length xs) ≡ position_or_len p xs
unwrap_or-position p xs = grind (arith, nat_tests, prefix_len-le-length)

pub place_found : (addresses : List ℕ) (host k : ℕ) → position (λ a. eqb a host) addresses ≡ Some k → k < length addresses
    → k + 1 ≡ place_of addresses host
unfolding place_of
place_found addresses host k at below =
    let e : position_or_len (λ a. eqb a host) addresses ≡ k =
    sym (unwrap_or-position (λ a. eqb a host) addresses) ∙ ap (λ (o : Option ℕ). unwrap_or o (length addresses)) at in
    let other = test_other k (length addresses) (λ same. omega (arith, same, below)) in
    rw (e, other) refl

pub place_none : (addresses : List ℕ) (host : ℕ) → position (λ a. eqb a host) addresses ≡ None → 0 ≡ place_of addresses host
unfolding place_of
place_none addresses host none =
    let e : position_or_len (λ a. eqb a host) addresses ≡ length addresses =
    sym (unwrap_or-position (λ a. eqb a host) addresses) ∙ ap (λ (o : Option ℕ). unwrap_or o (length addresses)) none in
    let same = eq-eqb (length addresses) (length addresses) refl in
    rw (e, same) refl
