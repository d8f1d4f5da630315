-- The pairs of an entry, before they go and once they are gone.
use Rattle.std.proofs.Common.{◌≡◌, ℕ, ℤ, pos, zero, suc, ◌<◌, ◌+ℤ◌, Bool, true, false, not, ◌&&◌, ◌||◌, List, [], ◌∷◌, length, get_or, refl, sym, ◌∙◌, arith}
use Rattle.std.specs.Prelude.{◌<ℤ◌, ◌≤ℤ◌}
use Rattle.std.specs.List.{Contains}
use Rattle.std.specs.Ordering.{int_eq}
use Rattle.std.proofs.lemmas.Bool.Decides.{Decides-int_eq}
use Rattle.std.proofs.lemmas.Int.{ints}
use Rattle.std.proofs.lemmas.List.{get_or_default}
use Rattle.entry_scans.specs.Lists.{IsAscending, IsListOf}
use Rattle.entry_scans.specs.Pages.{least_id}
use Rattle.prdb_lists.specs.Members.{are_paired}
use Rattle.pt_service.specs.State.{State, elements, is_paired, ids}
use Rattle.pt_looks.specs.States.{HoldsRecords, members_of}
use Rattle.pt_looks.proofs.Ordered.{InRange, Rises}
use Rattle.pt_looks.proofs.Pairs.{entry_range, paired_is, paired_there}
use Rattle.pt_changes.specs.Leaving.{without_pairs}
use Rattle.pt_changes.proofs.Listed.{filter_has, filter_meets, ids_have, ids_rise, rises_above}

-- ---- with whom it is paired

paired_range : (s : State) (entry y : ℤ) (image : List ℕ) → HoldsRecords image s → is_paired s entry y ≡ true → InRange y
paired_range s entry y image holds is = entry_range s.registry y holds.pairs.holds.valid
    (paired_there s entry y holds.pairs.valid (paired_is s entry y holds.pairs.valid ∙ is))

element_has : (s : State) (entry y : ℤ) (image : List ℕ) → HoldsRecords image s → is_paired s entry y ≡ true → Contains (elements s entry) y
unfolding elements
element_has s entry y image holds is = filter_has (is_paired s entry) ids y is (ids_have y (paired_range s entry y image holds is))

element_is : (s : State) (entry y : ℤ) → Contains (elements s entry) y → is_paired s entry y ≡ true
unfolding elements
element_is s entry y has = filter_meets (is_paired s entry) ids y has

elements_rise : (s : State) (entry : ℤ) → Rises least_id (elements s entry)
unfolding elements
elements_rise s entry = ids_rise (is_paired s entry)

over : (x y : ℤ) → (x +ℤ pos 1) ≤ℤ y → x <ℤ y
over x y up = omega (arith, ints, up)

-- a list that rises is ascending
pub rises_up : (xs : List ℤ) (low : ℤ) → Rises low xs → IsAscending xs
rises_up [] low rises i j d less past = absurd (omega (arith, past))
rises_up (x ∷ xs) low rises zero zero d less past = absurd (omega (arith, less))
rises_up (x ∷ xs) low rises zero (suc j) d less past =
    let below : j < length xs = omega (arith, past) in
    let y = get_or xs j d in
    let up = rises_above xs (x +ℤ pos 1) y rises.1 (j, below, get_or_default xs j y d below) in
    over x y up
rises_up (x ∷ xs) low rises (suc i) zero d less past = absurd (omega (arith, less))
rises_up (x ∷ xs) low rises (suc i) (suc j) d less past =
    rises_up xs (x +ℤ pos 1) rises.1 i j d (omega (arith, less)) (omega (arith, past))

-- they are the list of those with which it is paired
pub elements_list : (s : State) (entry : ℤ) (image : List ℕ) → HoldsRecords image s
    → IsListOf (λ other. are_paired (members_of s) entry other ≡ true) (elements s entry)
elements_list s entry image holds = record {
  ascending = rises_up (elements s entry) least_id (elements_rise s entry);
  each = λ y has. paired_is s entry y holds.pairs.valid ∙ element_is s entry y has;
  all = λ y is. element_has s entry y image holds (sym (paired_is s entry y holds.pairs.valid) ∙ is);
}

first_gone : (a b h : Bool) → a ≡ true → (not a && not b && h) ≡ false
first_gone true b h is = refl
first_gone false b h is = absurd cc

second_gone : (a b h : Bool) → b ≡ true → (not a && not b && h) ≡ false
second_gone true b h is = refl
second_gone false true h is = refl
second_gone false false h is = absurd cc

-- the entry is in no pair when they are gone
or_none : (a b : Bool) → a ≡ false → b ≡ false → (a || b) ≡ false
or_none true b one two = absurd cc
or_none false b one two = two

pub none_paired : (s : State) (entry other : ℤ) → are_paired (members_of (without_pairs entry s)) entry other ≡ false
none_paired s entry other =
    let own = (Decides-int_eq entry entry).1 refl in
    or_none (not (int_eq entry entry) && not (int_eq other entry) && s.is_in entry other)
    (not (int_eq other entry) && not (int_eq entry entry) && s.is_in other entry)
    (first_gone (int_eq entry entry) (int_eq other entry) (s.is_in entry other) own)
    (second_gone (int_eq other entry) (int_eq entry entry) (s.is_in other entry) own)
