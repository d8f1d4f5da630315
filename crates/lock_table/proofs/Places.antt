-- A conflict as a test and as a fact.
use Rattle.std.proofs.Common.{◌≡◌, ℕ, zero, suc, ◌<◌, ◌⊎◌, inl, inr, ◌||◌, Bool, true, false, cond, IsTrue, Option, Some, None, List, [], ◌∷◌, ◌++◌, length, get_or, find, AllPairs, max, refl, arith, rules}
use Rattle.std.proofs.lemmas.Bool.Decides.{nat_tests}
use Rattle.std.proofs.lemmas.List.Quantifiers.{all_pairs_push}
use Rattle.lock_table.specs.declared.ranges.HeldRange.{HeldRange}
use Rattle.lock_table.specs.Ranges.{conflicts, Conflicts}

-- one of the two
either : (a b : Bool) → (a || b) ≡ true → IsTrue a ⊎ IsTrue b
either true b h = inl (search rules)
either false true h = inr (search rules)
either false false h = absurd (cc)

some_of : (a b : Bool) → IsTrue a ⊎ IsTrue b → (a || b) ≡ true
some_of true b h = refl
some_of false true h = refl
some_of false false h = absurd (grind (arith, h))

pub share-from_test : (a b : HeldRange) → IsTrue (conflicts a b) → Conflicts a b
share-from_test a b test = record {
  two_ids = grind (arith, nat_tests);
  common = (max a.start b.start, record { from = omega arith; before = grind (arith, nat_tests) }, record { from = omega arith; before = grind (arith, nat_tests) });
  one_writes = either a.write b.write (grind (arith, nat_tests));
}

pub test-from_share : (a b : HeldRange) → Conflicts a b → IsTrue (conflicts a b)
test-from_share a b fact =
    let writes = some_of a.write b.write fact.one_writes in
    let ids = fact.two_ids in
    let in_a = fact.common.1 in
    let in_b = fact.common.2 in
    grind (arith, nat_tests)

none-cons : (test : Bool) (range : HeldRange) (rest : Option HeldRange) → cond test (Some range) rest ≡ None → (test ≡ false) × (rest ≡ None)
none-cons true range rest none = absurd (cc)
none-cons false range rest none = (refl, none)

-- where no range conflicts, the one at a place does not
none-at : (wanted : HeldRange) (held : List HeldRange) (k : ℕ) (d : HeldRange) → find (λ (range : HeldRange). conflicts range wanted) held ≡ None → k < length held → conflicts (get_or held k d) wanted ≡ false
none-at wanted [] k d none inside = absurd (omega arith)
none-at wanted (range ∷ held) zero d none inside =
    (none-cons (conflicts range wanted) range (find (λ (other : HeldRange). conflicts other wanted) held) none).0
none-at wanted (range ∷ held) (suc k) d none inside =
    let rest = none-cons (conflicts range wanted) range (find (λ (other : HeldRange). conflicts other wanted) held) none in
    none-at wanted held k d rest.1 (omega arith)

-- a range that conflicts with none of those held joins them
pub apart-push : (held : List HeldRange) (wanted : HeldRange) → AllPairs (λ (a b : HeldRange). ¬ Conflicts a b) held → find (λ (range : HeldRange). conflicts range wanted) held ≡ None → AllPairs (λ (a b : HeldRange). ¬ Conflicts a b) (held ++ wanted ∷ [])
apart-push held wanted apart none =
    all_pairs_push (λ (a b : HeldRange). ¬ Conflicts a b) held wanted apart (λ k d inside fact. (let test = test-from_share (get_or held k d) wanted fact in let free = none-at wanted held k d none inside in cc))
