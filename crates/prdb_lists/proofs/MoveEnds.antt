-- What another id of an entry makes of a draft, and why it is not made.
use Rattle.std.proofs.Common.{◌≡◌, ◌≢◌, ℤ, suc, List, [], ◌∷◌, refl, sym, ap, subst, ◌∙◌, arith}
use Rattle.std.specs.Prelude.{◌<ℤ◌}
use Rattle.std.specs.List.{Contains}
use Rattle.std.proofs.lemmas.Int.{ints}
use Rattle.std.proofs.lemmas.List.Elements.{All-contains}
use Rattle.prdb_layout.proofs.Changed.{by_id}
use Rattle.entry_scans.specs.Lists.{IsAscending}
use Rattle.prdb_lists.specs.Lists.{ids_with, ids_without}
use Rattle.prdb_lists.specs.Members.{Members}
use Rattle.prdb_lists.specs.Moves.{ids_moved}
use Rattle.prdb_lists.proofs.Ascending.{ascending_right}
use Rattle.prdb_lists.proofs.Ids.{above_head, tail_has}
use Rattle.prdb_lists.proofs.Moved.{AreAll}
use Rattle.prdb_lists.proofs.MovedIds.{not_again}

-- ---- one list

-- the ids that are written
pub ids_are : (slice ids others own : List ℤ) (old new : ℤ) → slice ≡ ids → others ≡ ids_without old own
    → (¬ Contains others new → ids ≡ ids_with new others)
    → ¬ Contains (ids_without old own) new → slice ≡ ids_moved old new own
ids_are slice ids others own old new same is placed fresh =
    same ∙ placed (subst (λ (l : List ℤ). ¬ Contains l new) (sym is) fresh) ∙ ap (ids_with new) is

-- ---- one ascending list

meet : (a b : ℤ) → a ≢ b → a <ℤ b → b <ℤ a → ⊥
meet a b other up down = omega (arith, ints)

first_in : (x y : ℤ) (ys : List ℤ) → IsAscending (y ∷ ys) → Contains (y ∷ ys) x → x ≢ y → y <ℤ x
first_in x y ys rises has other = All-contains (λ z. y <ℤ z) ys x (above_head y ys rises) (tail_has y ys x (λ same. other (sym same)) has)

-- ascending lists of the same ids are the same
pub same_ids : (xs ys : List ℤ) → IsAscending xs → IsAscending ys → ((z : ℤ) → Contains xs z → Contains ys z)
    → ((z : ℤ) → Contains ys z → Contains xs z) → xs ≡ ys
same_ids [] [] in_x in_y to from = refl
same_ids [] (y ∷ ys) in_x in_y to from = let c = from y (0, omega arith, refl) in absurd (omega (arith, c.1))
same_ids (x ∷ xs) [] in_x in_y to from = let c = to x (0, omega arith, refl) in absurd (omega (arith, c.1))
same_ids (x ∷ xs) (y ∷ ys) in_x in_y to from =
    let first : x ≡ y = by_id x y (λ same. same) (λ other.
    absurd (meet x y other (first_in y x xs in_x (from y (0, omega arith, refl)) (λ same. other (sym same)))
    (first_in x y ys in_y (to x (0, omega arith, refl)) other))) in
    let rest : xs ≡ ys = same_ids xs ys (ascending_right (x ∷ []) xs in_x) (ascending_right (y ∷ []) ys in_y)
    (λ z has.
    tail_has y ys z (λ same. not_again x xs in_x (subst (Contains xs) (sym (first ∙ same)) has))
    (to z (suc has.0, omega (arith, has.1), has.2)))
    (λ z has.
    tail_has x xs z (λ same. not_again y ys in_y (subst (Contains ys) (sym (sym first ∙ same)) has))
    (from z (suc has.0, omega (arith, has.1), has.2))) in
    ap (λ (h : ℤ). h ∷ xs) first ∙ ap (λ (t : List ℤ). y ∷ t) rest

pub one_list : (m : Members) (old : ℤ) (xs ys : List ℤ) → AreAll m old xs → AreAll m old ys → xs ≡ ys
one_list m old xs ys a b = same_ids xs ys a.ascending b.ascending (λ z has. b.all z (a.each z has)) (λ z has. a.all z (b.each z has))
