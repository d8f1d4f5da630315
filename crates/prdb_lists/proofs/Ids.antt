-- The list of ids with one more, and with one less.
use Rattle.std.proofs.Common.{◌≡◌, ◌≢◌, ℕ, ℤ, pos, negsuc, zero, suc, ◌+◌, ◌^◌, ◌<◌, ◌≤◌, true, false, Bool, cond, List, [], ◌∷◌, ◌++◌, length, get_or, take, drop, Option, Some, None, IsSome, refl, sym, ap, subst, ◌∙◌, ⊎_elim, inl, inr, append_assoc, arith}
use Rattle.std.specs.Prelude.{◌<ℤ◌, ◌≤ℤ◌, ◌+ℤ◌, ◌⊎◌, FitsSigned, int_lt, not}
use Rattle.std.specs.Int.{w32}
use Rattle.std.specs.List.{All, Contains, filter}
use Rattle.std.specs.Ordering.{int_eq}
use Rattle.std.proofs.lemmas.Bool.{cases_lt, cases_Bool}
use Rattle.std.proofs.lemmas.Bool.Decides.{Decides-int_eq}
use Rattle.std.proofs.lemmas.Int.{ints}
use Rattle.std.proofs.lemmas.List.{get_or_default, length-append, length-take-le, length-drop}
use Rattle.std.proofs.lemmas.List.Elements.{All-contains, All-contains_itself, All-filter, filter_passes}
use Rattle.db_blocks.proofs.FirstBlocks.{first_at, first_met, first_none, first_not, first_within}
use Rattle.prdb_layout.specs.Registry.{Registry, IsRegistry}
use Rattle.prdb_layout.specs.State.{IsId}
use Rattle.prdb_layout.proofs.Lengths.{fits_id}
use Rattle.entry_scans.specs.Lists.{IsAscending}
use Rattle.prdb_lists.specs.Lists.{IsRank, ids_with, ids_without, rank_of}
use Rattle.prdb_lists.proofs.Ascending.{IsApart, IsWith, ascending_join, ascending_none, ascending_one, ascending_right, is_ascending_with, lt_from, lt_same, lt_to, members_with, not_self}
use Rattle.prdb_lists.proofs.RecordsKeep.{int_other}

not_false : (b : Bool) → not b ≡ false → b ≡ true
not_false true e = refl
not_false false e = absurd cc

not_true : (b : Bool) → not b ≡ true → b ≡ false
not_true true e = absurd cc
not_true false e = refl

not_less : (a b : ℤ) → int_lt a b ≡ false → b ≤ℤ a
not_less a b e = grind (arith, ints)

less_not : (a b : ℤ) → b ≤ℤ a → int_lt a b ≡ false
less_not a b h = grind (arith, ints)

-- ---- the place of an id

pub rank_is : (ids : List ℤ) (id : ℤ) (rank : ℕ) → IsRank ids id rank → rank_of id ids ≡ rank
rank_is ids id rank is =
    let before : (j : ℕ) → 0 ≤ j → j < rank
    → not (int_lt (get_or ids j id) id) ≡ false = λ j from less. ap not (lt_to (get_or ids j id) id (is.within j id less)) in
    ⊎_elim
    (λ (below : rank < length ids).
    first_at (λ i. not (int_lt (get_or ids i id) id)) 0 (length ids) rank (omega arith) (omega arith) before
    (ap not (less_not (get_or ids rank id) id (is.behind id below))))
    (λ (last : length ids ≤ rank).
    let most = is.most in
    let end : rank ≡ length ids = omega arith in
    let none : rank_of id ids
    ≡ 0 + length ids = first_none (λ i. not (int_lt (get_or ids i id) id)) 0 (length ids) (λ j from less. before j from (omega arith)) in
    omega arith)
    (cases_lt rank (length ids))

pub rank_of_is : (ids : List ℤ) (id : ℤ) → IsRank ids id (rank_of id ids)
rank_of_is ids id =
    let within = first_within (λ i. not (int_lt (get_or ids i id) id)) 0 (length ids) in
    record {
      most = omega arith;
      within = λ i d less.
          lt_same _ _ _ _ (get_or_default ids i d id (omega arith)) refl
          (lt_from (get_or ids i id) id
          (not_false (int_lt (get_or ids i id) id)
          (first_not (λ j. not (int_lt (get_or ids j id) id)) 0 (length ids) i (omega arith) less)));
      behind = λ d below.
          subst (λ (v : ℤ). id ≤ℤ v) (sym (get_or_default ids (rank_of id ids) d id below))
          (not_less (get_or ids (rank_of id ids) id) id
          (not_true (int_lt (get_or ids (rank_of id ids) id) id)
          (first_met (λ j. not (int_lt (get_or ids j id) id)) 0 (length ids) (omega arith))));
    }

-- ---- with an id

with_parts : (id : ℤ) (ids : List ℤ) → ids_with id ids ≡ (take (rank_of id ids) ids ++ id ∷ []) ++ drop (rank_of id ids) ids
unfolding ids_with
with_parts id ids = sym (append_assoc (take (rank_of id ids) ids) (id ∷ []) (drop (rank_of id ids) ids))

pub ids_with-ascending : (id : ℤ) (ids : List ℤ) → IsAscending ids → ¬ Contains ids id → IsAscending (ids_with id ids)
ids_with-ascending id ids is other =
    subst IsAscending (sym (with_parts id ids))
    (is_ascending_with ids (take (rank_of id ids) ids) (drop (rank_of id ids) ids) (take (rank_of id ids) ids ++ id ∷ []) id
    (rank_of id ids) is (rank_of_is ids id) refl refl other refl)

pub ids_with-members : (id : ℤ) (ids : List ℤ) → IsWith ids id (ids_with id ids)
ids_with-members id ids =
    subst (IsWith ids id) (sym (with_parts id ids))
    (members_with ids (take (rank_of id ids) ids) (drop (rank_of id ids) ids) (take (rank_of id ids) ids ++ id ∷ []) id
    (rank_of id ids) refl refl refl)

pub length-ids_with : (id : ℤ) (ids : List ℤ) → length (ids_with id ids) ≡ length ids + 1
unfolding ids_with
length-ids_with id ids =
    let most = (rank_of_is ids id).most in
    omega (
      arith,
      length-append (take (rank_of id ids) ids) (id ∷ drop (rank_of id ids) ids),
      length-take-le (rank_of id ids) ids most,
      length-drop (rank_of id ids) ids,
    )

pub placed : (ids below behind made : List ℤ) (id : ℤ) (rank : ℕ) → IsRank ids id rank → below ≡ take rank ids → behind ≡ drop rank ids
    → made ≡ below ++ id ∷ []
    → made ++ behind ≡ ids_with id ids
placed ids below behind made id rank is front back made_is =
    ap (λ (l : List ℤ). l ++ behind) made_is ∙ ap (λ (l : List ℤ). (l ++ id ∷ []) ++ behind) front
    ∙ ap (λ (l : List ℤ). (take rank ids ++ id ∷ []) ++ l) back
    ∙ ap (λ (n : ℕ). (take n ids ++ id ∷ []) ++ drop n ids) (sym (rank_is ids id rank is)) ∙ sym (with_parts id ids)

-- ---- without an id

one_below : (x : ℤ) (xs : List ℤ) → All (λ y. x <ℤ y) xs → IsApart (x ∷ []) xs
one_below x xs all zero j d in_one in_xs = all j d in_xs
one_below x xs all (suc i) j d in_one in_xs = absurd (omega arith)

rises : (b : Bool) (x : ℤ) (xs : List ℤ) → IsAscending xs → All (λ y. x <ℤ y) xs → IsAscending (cond b (x ∷ xs) xs)
rises true x xs is all = ascending_join (x ∷ []) xs (ascending_one x) is (one_below x xs all)
rises false x xs is all = is

pub above_head : (x : ℤ) (xs : List ℤ) → IsAscending (x ∷ xs) → All (λ y. x <ℤ y) xs
above_head x xs is j d below = is 0 (suc j) d (omega arith) (omega arith)

filter_rises : (p : ℤ → Bool) (ids : List ℤ) → IsAscending ids → IsAscending (filter p ids)
filter_rises p [] is = ascending_none
filter_rises p (x ∷ ids) is =
    rises (p x) x (filter p ids) (filter_rises p ids (ascending_right (x ∷ []) ids is))
    (All-filter p (λ y. x <ℤ y) ids (above_head x ids is))

pub ids_without-ascending : (id : ℤ) (ids : List ℤ) → IsAscending ids → IsAscending (ids_without id ids)
unfolding ids_without
ids_without-ascending id ids is = filter_rises (λ x. not (int_eq x id)) ids is

keep_step : (b : Bool) (x : ℤ) (xs : List ℤ) (y : ℤ) → (x ≡ y → b ≡ true) → (x ≡ y) ⊎ Contains xs y → Contains (cond b (x ∷ xs) xs) y
keep_step true x xs y goes either = elim either [ inl same ↦ (0, omega arith, same) | inr has ↦ (suc has.0, omega (arith, has.1), has.2) ]
keep_step false x xs y goes either = elim either [ inl same ↦ let yes = goes same in absurd cc | inr has ↦ has ]

kept : (p : ℤ → Bool) (ids : List ℤ) (y : ℤ) → p y ≡ true → Contains ids y → Contains (filter p ids) y
kept p [] y passes has = absurd (omega (arith, has.1))
kept p (x ∷ ids) y passes (zero, below, same) = keep_step (p x) x (filter p ids) y (λ at. ap p at ∙ passes) (inl same)
kept p (x ∷ ids) y passes (suc i, below, same) =
    keep_step (p x) x (filter p ids) y (λ at. ap p at ∙ passes) (inr (kept p ids y passes (i, omega arith, same)))

-- the same ids but for one
unfoldable pub IsWithout : List ℤ → ℤ → List ℤ → Type 0
IsWithout ids id after = (x : ℤ) → (Contains after x → (x ≢ id) × Contains ids x) × (x ≢ id → Contains ids x → Contains after x)

pub ids_without-members : (id : ℤ) (ids : List ℤ) → IsWithout ids id (ids_without id ids)
unfolding ids_without IsWithout
ids_without-members id ids x = (
  λ has.
      let p : ℤ → Bool = λ y. not (int_eq y id) in
      let passes : not (int_eq x id)
      ≡ true = All-contains (λ y. not (int_eq y id) ≡ true) (filter (λ y. not (int_eq y id)) ids) x
      (filter_passes (λ y. not (int_eq y id)) ids) has in
      let fails : int_eq x id ≡ false = not_true (int_eq x id) passes in (
        (λ same. let yes = (Decides-int_eq x id).1 same in absurd cc),
        All-contains (Contains ids) (filter (λ y. not (int_eq y id)) ids) x
            (All-filter (λ y. not (int_eq y id)) (Contains ids) ids (All-contains_itself ids)) has,
      ),
  λ other has. kept (λ y. not (int_eq y id)) ids x (ap not (int_other x id other)) has,
)

pub of_without : (id : ℤ) (ids : List ℤ) (x : ℤ) → Contains (ids_without id ids) x → Contains ids x
unfolding IsWithout
of_without id ids x has = ((ids_without-members id ids x).0 has).1

all_kept : (p : ℤ → Bool) (ids : List ℤ) → ((y : ℤ) → Contains ids y → p y ≡ true) → filter p ids ≡ ids
all_kept p [] goes = refl
all_kept p (x ∷ ids) goes =
    let here : p x ≡ true = goes x (0, omega arith, refl) in
    let rest = all_kept p ids (λ y has. goes y (suc has.0, omega (arith, has.1), has.2)) in
    ap (λ (b : Bool). cond b (x ∷ filter p ids) (filter p ids)) here ∙ ap (λ (l : List ℤ). x ∷ l) rest

pub tail_has : (x : ℤ) (ids : List ℤ) (y : ℤ) → x ≢ y → Contains (x ∷ ids) y → Contains ids y
tail_has x ids y other (zero, below, same) = absurd (other same)
tail_has x ids y other (suc i, below, same) = (i, omega arith, same)

one_less : (id : ℤ) (ids : List ℤ) → IsAscending ids → Contains ids id → length (filter (λ x. not (int_eq x id)) ids) + 1 ≡ length ids
one_less id [] is has = absurd (omega (arith, has.1))
one_less id (x ∷ ids) is has =
    let p : ℤ → Bool = λ y. not (int_eq y id) in
    ⊎_elim
    (λ (t : int_eq x id ≡ true).
    let same = (Decides-int_eq x id).0 t in
    let rest : filter (λ y. not (int_eq y id)) ids ≡ ids = all_kept (λ y. not (int_eq y id)) ids (λ y has_y. ap not (int_other y id
    (λ at. not_self id
    (subst (λ (v : ℤ). id <ℤ v) at (subst (λ (v : ℤ). v <ℤ y) same (All-contains (λ z. x <ℤ z) ids y (above_head x ids is) has_y)))))) in
    let gone : filter (λ y. not (int_eq y id)) (x ∷ ids)
    ≡ ids = ap (λ (b : Bool). cond (not b) (x ∷ filter (λ y. not (int_eq y id)) ids) (filter (λ y. not (int_eq y id)) ids)) t ∙ rest in
    omega (arith, ap length gone))
    (λ (f : int_eq x id ≡ false).
    let other : x ≢ id = λ same. let yes = (Decides-int_eq x id).1 same in absurd cc in
    let less = one_less id ids (ascending_right (x ∷ []) ids is) (tail_has x ids id other has) in
    let stays : filter (λ y. not (int_eq y id)) (x ∷ ids) ≡ x ∷ filter (λ y. not (int_eq y id)) ids =
    ap (λ (b : Bool). cond (not b) (x ∷ filter (λ y. not (int_eq y id)) ids) (filter (λ y. not (int_eq y id)) ids)) f in
    omega (arith, ap length stays))
    (cases_Bool (int_eq x id))

pub length-ids_without : (id : ℤ) (ids : List ℤ) → IsAscending ids → Contains ids id → length (ids_without id ids) + 1 ≡ length ids
unfolding ids_without
length-ids_without id ids is has = one_less id ids is has

-- ---- ids of entries

option_cases : {X P : Type 0} (o : Option X) → IsSome o → ((x : X) → o ≡ Some x → P) → P
option_cases None there some = absurd cc
option_cases (Some x) there some = some x refl

id_is : (r : Registry) (id : ℤ) → IsRegistry r → IsSome (r.entry id) → IsId id
id_is r id valid there = option_cases (r.entry id) there (λ e at. subst IsId (valid.ids id e at) (valid.records id e at).fields.id)

pub entry_fits : (r : Registry) (id : ℤ) → IsRegistry r → IsSome (r.entry id) → FitsSigned w32 id
entry_fits r id valid there = fits_id id (id_is r id valid there)

low_id : (z : ℤ) → IsId z → negsuc 2147483646 ≤ℤ z
low_id (pos n) is = omega (arith, ints)
low_id (negsuc n) is = omega (arith, ints)

high_id : (z : ℤ) → IsId z → z ≤ℤ pos 2147483647
high_id (pos n) is = omega (arith, ints)
high_id (negsuc n) is = omega (arith, ints)

next_up : (a b c : ℤ) (i : ℕ) → (a +ℤ pos i) ≤ℤ b → b <ℤ c → (a +ℤ pos (suc i)) ≤ℤ c
next_up a b c i h less = omega (arith, ints)

climbs : (ids : List ℤ) (d : ℤ) (i : ℕ) → IsAscending ids → i < length ids → (get_or ids 0 d +ℤ pos i) ≤ℤ get_or ids i d
climbs ids d zero is below = omega (arith, ints)
climbs ids d (suc i) is below =
    next_up (get_or ids 0 d) (get_or ids i d) (get_or ids (suc i) d) i (climbs ids d i is (omega arith))
    (is i (suc i) d (omega arith) below)

spread : (a b : ℤ) (i : ℕ) → negsuc 2147483646 ≤ℤ a → b ≤ℤ pos 2147483647 → (a +ℤ pos i) ≤ℤ b → i ≤ 4294967294
spread a b i low high h = omega (arith, ints)

itself : (ids : List ℤ) (i : ℕ) (d : ℤ) → i < length ids → Contains ids (get_or ids i d)
itself ids i d below = (i, below, get_or_default ids i (get_or ids i d) d below)

-- there are fewer of them than a word counts
pub few_ids : (r : Registry) (ids : List ℤ) → IsRegistry r → IsAscending ids → ((id : ℤ) → Contains ids id → IsSome (r.entry id))
    → length ids < 2 ^ 32
few_ids r [] valid is there = omega arith
few_ids r (x ∷ ids) valid is there =
    let n = length ids in
    let at_end : n < length (x ∷ ids) = omega arith in
    let low = low_id x (id_is r x valid (there x (0, omega arith, refl))) in
    let high = high_id (get_or (x ∷ ids) n x)
    (id_is r (get_or (x ∷ ids) n x) valid (there (get_or (x ∷ ids) n x) (itself (x ∷ ids) n x at_end))) in
    let most = spread x (get_or (x ∷ ids) n x) n low high (climbs (x ∷ ids) x n is at_end) in
    omega arith
