-- A text of changes, read change by change.
use Rattle.std.proofs.Common.{◌≡◌, ℕ, zero, suc, ◌==◌, true, false, Option, Some, None, option_map, Result, Ok, Err, List, [], ◌∷◌, ◌++◌, length, refl, ap, sym, ◌∙◌, append_assoc, arith}
use Rattle.std.proofs.lemmas.Bool.Decides.{nat_tests}
use Rattle.std.proofs.lemmas.List.{append-nil}
use Rattle.std.specs.Result.{is_ok, IsOk}
use Rattle.ubik_types.specs.declared.images.Change.{Change}
use Rattle.xdr_base.specs.declared.faults.XdrFault.{XdrFault}
use Rattle.xdr_base.specs.Reading.{Reading}
use Rattle.cell_model.specs.Pieces.{change_at, changes_at}

-- the changes before, and those that stand from a place on
abbrev pub with_rest : List Change → Option (List Change) → Option (List Change)
with_rest before rest = option_map (λ (changes : List Change). before ++ changes) rest

with_rest-next : (before : List Change) (change : Change) (rest : Option (List Change)) → with_rest before (option_map (λ (changes : List Change). change ∷ changes) rest) ≡ with_rest (before ++ change ∷ []) rest
with_rest-next before change None = refl
with_rest-next before change (Some rest) = ap (λ (changes : List Change). Some changes) (sym (append_assoc before (change ∷ []) rest))

-- what is refused is not read to its end
pub some-left : (ended : Result (Unit {0}) XdrFault) (rest : List ℕ) → is_ok ended ≡ false → (rest ≡ [] → IsOk ended) → rest ≡ [] → ⊥
some-left (Ok unit) rest test done none = absurd (cc)
some-left (Err fault) rest test done none = absurd (let e : false ≡ true = done none in cc)

is_empty-test : (rest : List ℕ) → (rest ≡ [] → ⊥) → (length rest == 0) ≡ false
is_empty-test [] some = absurd (some refl)
is_empty-test (byte ∷ rest) some = grind (arith, nat_tests)

-- nothing is left
pub changes-end : (most : ℕ) (from : Reading) (before : List Change) → from.rest ≡ [] → with_rest before (changes_at most from) ≡ Some before
changes-end most from before none =
    let test : (length from.rest == 0) ≡ true = rw none in
    by_most most test
  where
    by_most : (n : ℕ) → (length from.rest == 0) ≡ true → with_rest before (changes_at n from) ≡ Some before
    by_most zero e = rw e (ap (λ (changes : List Change). Some changes) (append-nil before))
    by_most (suc n) e = rw e (ap (λ (changes : List Change). Some changes) (append-nil before))

-- a change is read
pub changes-next : (most left : ℕ) (from after : Reading) (before : List Change) (change : Change) → most ≡ suc left → (from.rest ≡ [] → ⊥) → change_at from ≡ Some (change, after) → with_rest before (changes_at most from) ≡ with_rest (before ++ change ∷ []) (changes_at left after)
changes-next most left from after before change next some read =
    let test = is_empty-test from.rest some in
    let is : changes_at (suc left) from ≡ option_map (λ (changes : List Change). change ∷ changes) (changes_at left after) = rw test (rw read) in
    ap (λ (n : ℕ). with_rest before (changes_at n from)) next
    ∙ ap (λ (rest : Option (List Change)). with_rest before rest) is
    ∙ with_rest-next before change (changes_at left after)

-- no change stands there
pub changes-none : (most left : ℕ) (from : Reading) (before : List Change) → most ≡ suc left → (from.rest ≡ [] → ⊥) → change_at from ≡ None → with_rest before (changes_at most from) ≡ None
changes-none most left from before next some read =
    let test = is_empty-test from.rest some in
    let is : changes_at (suc left) from ≡ None = rw test (rw read) in
    ap (λ (n : ℕ). with_rest before (changes_at n from)) next ∙ ap (λ (rest : Option (List Change)). with_rest before rest) is
