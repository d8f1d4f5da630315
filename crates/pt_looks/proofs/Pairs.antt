-- The lists of ids that calls tell are those that are meant.
use Rattle.std.proofs.Common.{◌≡◌, ℕ, ℤ, pos, negsuc, Bool, true, false, not, ◌&&◌, ◌||◌, cond, List, [], ◌∷◌, ◌++◌, map, Option, Some, None, IsSome, IsSomeAnd, refl, sym, ap, subst, ◌∙◌, inl, inr, arith}
use Rattle.std.specs.Prelude.{◌<ℤ◌, ◌⊎◌, filter, option_to_list}
use Rattle.std.specs.List.{flat_map}
use Rattle.std.specs.Ordering.{int_eq}
use Rattle.std.proofs.lemmas.Bool.{and_from, and_parts, false_from_ne_true}
use Rattle.std.proofs.lemmas.Bool.Decides.{Decides-int_eq}
use Rattle.std.proofs.lemmas.Int.{ints}
use Rattle.std.proofs.lemmas.List.Elements.{filter-append}
use Rattle.prdb_layout.specs.Registry.{Registry, IsRegistry}
use Rattle.prdb_layout.specs.State.{PrEntry, IsId, anonymous}
use Rattle.entry_scans.specs.Found.{IsMetAt}
use Rattle.entry_scans.specs.Lists.{IsListOf}
use Rattle.entry_scans.specs.Pages.{least_id}
use Rattle.prdb_lists.specs.Members.{ArePairs, IsInList, IsOwned, are_paired, not_signed_in, signed_in}
use Rattle.pt_service.specs.Meaning.{counts_for, is_owned_by, owned_by}
use Rattle.pt_service.specs.State.{State, elements, entries_from, ids, is_group, is_paired, numbers_from}
use Rattle.pt_looks.specs.States.{HoldsRecords, members_of}
use Rattle.pt_looks.proofs.Ordered.{InRange, list_is}

-- ---- entries have ids

pub some_is : {X : Type 0} (o : Option X) → IsSome o → (x : X) × (o ≡ Some x)
some_is None there = absurd cc
some_is (Some x) there = (x, refl)

pub some_and : {X : Type 0} (o : Option X) (P : X → Type 0) → IsSomeAnd o P → (x : X) × (o ≡ Some x) × P x
some_and None P is = absurd is
some_and (Some x) P is = (x, refl, is)

pub is_there : {X : Type 0} (o : Option X) (x : X) → o ≡ Some x → IsSome o
is_there {X} o x is = subst (λ (v : Option X). IsSome v) (sym is) refl

id_range : (x : ℤ) → IsId x → InRange x
id_range (pos n) is = (omega (arith, ints), omega (arith, ints, is.1))
id_range (negsuc n) is = (omega (arith, ints, is), omega (arith, ints))

pub entry_range : (r : Registry) (x : ℤ) → IsRegistry r → IsSome (r.entry x) → InRange x
entry_range r x valid there =
    let e = some_is (r.entry x) there in
    subst InRange (valid.ids x e.0 e.1) (id_range e.0.id (valid.records x e.0 e.1).fields.id)

-- ---- pairs

or_left : (a b : Bool) → b ≡ false → (a || b) ≡ a
or_left true b none = refl
or_left false b none = none

or_right : (a b : Bool) → a ≡ false → (a || b) ≡ b
or_right true b none = absurd cc
or_right false b none = refl

or_cases : (a b : Bool) → (a || b) ≡ true → (a ≡ true) ⊎ (b ≡ true)
or_cases true b is = inl refl
or_cases false b is = inr is

or_one : (a b : Bool) → a ≡ true → (a || b) ≡ true
or_one true b is = refl
or_one false b is = absurd cc

or_two : (a b : Bool) → b ≡ true → (a || b) ≡ true
or_two true b is = refl
or_two false b is = is

pub paired_is : (s : State) (id other : ℤ) → ArePairs s.registry (members_of s) → are_paired (members_of s) id other ≡ is_paired s id other
paired_is s (pos n) other valid =
    or_left (s.is_in (pos n) other) (s.is_in other (pos n))
    (false_from_ne_true (s.is_in other (pos n)) (λ is. let low = (valid other (pos n) is).1 in omega (arith, ints, low)))
paired_is s (negsuc n) other valid =
    or_right (s.is_in (negsuc n) other) (s.is_in other (negsuc n))
    (false_from_ne_true (s.is_in (negsuc n) other) (λ is. let high = (valid (negsuc n) other is).0 in omega (arith, ints, high)))

pub paired_there : (s : State) (id other : ℤ) → ArePairs s.registry (members_of s) → are_paired (members_of s) id other ≡ true
    → IsSome (s.registry.entry other)
paired_there s id other valid is = elim (or_cases (s.is_in id other) (s.is_in other id) is) [
  | inl one ↦ (valid id other one).3
  | inr two ↦ (valid other id two).2
]

pub elements_are : (image : List ℕ) (s : State) (id : ℤ) (xs : List ℤ) → HoldsRecords image s
    → IsListOf (λ other. are_paired (members_of s) id other ≡ true) xs
    → xs ≡ elements s id
unfolding elements
elements_are image s id xs holds list =
    list_is (is_paired s id) (λ other. are_paired (members_of s) id other ≡ true) xs list
    (λ x paired. sym (paired_is s id x holds.pairs.valid) ∙ paired)
    (λ x is. paired_is s id x holds.pairs.valid ∙ is)
    (λ x paired. entry_range s.registry x holds.pairs.holds.valid (paired_there s id x holds.pairs.valid paired))

-- ---- for which an entry counts

equal_to : (a b : ℤ) → int_eq a b ≡ true → a ≡ b
equal_to a b is = (Decides-int_eq a b).0 is

to_equal : (a b : ℤ) → a ≡ b → int_eq a b ≡ true
to_equal a b is = (Decides-int_eq a b).1 is

not_true : (b : Bool) → not b ≡ true → b ≡ false
not_true true is = absurd cc
not_true false is = refl

to_not : (b : Bool) → (b ≡ true → ⊥) → not b ≡ true
to_not true never = absurd (never refl)
to_not false never = refl

clash : (b : Bool) → b ≡ true → b ≡ false → ⊥
clash true is fails = absurd cc
clash false is fails = absurd cc

signed_to : (n : ℕ) (x : ℤ) → x ≡ signed_in → (pos n ≡ not_signed_in → ⊥) → (int_eq x (negsuc 101) && not (int_eq (pos n) anonymous)) ≡ true
signed_to n x is other =
    and_from (int_eq x (negsuc 101)) (not (int_eq (pos n) anonymous)) (to_equal x (negsuc 101) is)
    (to_not (int_eq (pos n) anonymous) (λ same. other (equal_to (pos n) anonymous same)))

pub counts_to : (s : State) (id x : ℤ) → ArePairs s.registry (members_of s) → IsInList (members_of s) id x → counts_for s id x ≡ true
counts_to s (negsuc n) x valid is = to_equal x (negsuc n) is
counts_to s (pos n) x valid is =
    let a = int_eq x (pos n) in
    let b = s.is_in (pos n) x in
    let c = int_eq x (negsuc 100) in
    let d = int_eq x (negsuc 101) && not (int_eq (pos n) anonymous) in
    elim is [
      | inl own ↦ or_one ((a || b) || c) d (or_one (a || b) c (or_one a b (to_equal x (pos n) own)))
      | inr more ↦ elim more [
        | inl paired ↦ or_one ((a || b) || c) d (or_one (a || b) c (or_two a b (sym (paired_is s (pos n) x valid) ∙ paired)))
        | inr rest ↦ elim rest [
          | inl any ↦ or_one ((a || b) || c) d (or_two (a || b) c (to_equal x (negsuc 100) any))
          | inr signed ↦ or_two ((a || b) || c) d (signed_to n x signed.0 signed.1)
        ]
      ]
    ]

pub counts_from : (s : State) (id x : ℤ) → ArePairs s.registry (members_of s) → counts_for s id x ≡ true → IsInList (members_of s) id x
counts_from s (negsuc n) x valid is = equal_to x (negsuc n) is
counts_from s (pos n) x valid is =
    let a = int_eq x (pos n) in
    let b = s.is_in (pos n) x in
    let c = int_eq x (negsuc 100) in
    let d = int_eq x (negsuc 101) && not (int_eq (pos n) anonymous) in
    elim (or_cases ((a || b) || c) d is) [
      | inl front ↦ elim (or_cases (a || b) c front) [
        | inl two ↦ elim (or_cases a b two) [
          | inl own ↦ inl (equal_to x (pos n) own)
          | inr paired ↦ inr (inl (paired_is s (pos n) x valid ∙ paired))
        ]
        | inr any ↦ inr (inr (inl (equal_to x (negsuc 100) any)))
      ]
      | inr signed ↦
          let parts = and_parts (int_eq x (negsuc 101)) (not (int_eq (pos n) anonymous)) signed in
          inr (inr (inr (
            equal_to x (negsuc 101) parts.0,
            λ same. clash (int_eq (pos n) anonymous) (to_equal (pos n) anonymous same)
                (not_true (int_eq (pos n) anonymous) parts.1),
          )))
    ]

-- ---- the groups that an id owns

-- a group that is there, with this owner
abbrev owns : ℤ → Option PrEntry → Bool
owns owner None = false
owns owner (Some e) = is_owned_by owner e

below_zero : (z : ℤ) → is_group z ≡ true → z <ℤ pos 0
below_zero (pos n) is = absurd cc
below_zero (negsuc n) is = omega (arith, ints)

is_below : (z : ℤ) → z <ℤ pos 0 → is_group z ≡ true
is_below (pos n) less = absurd (omega (arith, ints, less))
is_below (negsuc n) less = refl

owns_to : (r : Registry) (owner x : ℤ) → IsRegistry r → IsOwned r owner x → owns owner (r.entry x) ≡ true
owns_to r owner x valid is =
    let e = some_and (r.entry x) (λ y. y.owner ≡ owner) is.1 in
    ap (owns owner) e.1
    ∙ and_from (is_group e.0.id) (int_eq e.0.owner owner) (ap is_group (valid.ids x e.0 e.1) ∙ is_below x is.0)
    (to_equal e.0.owner owner e.2)

owns_at : (owner : ℤ) (o : Option PrEntry) → owns owner o ≡ true → (e : PrEntry) × (o ≡ Some e) × (is_owned_by owner e ≡ true)
owns_at owner None is = absurd cc
owns_at owner (Some e) is = (e, refl, is)

owns_from : (r : Registry) (owner x : ℤ) → IsRegistry r → owns owner (r.entry x) ≡ true → IsOwned r owner x
owns_from r owner x valid is =
    let e = owns_at owner (r.entry x) is in
    let parts = and_parts (is_group e.0.id) (int_eq e.0.owner owner) e.2 in (
      below_zero x (ap is_group (sym (valid.ids x e.0 e.1)) ∙ parts.0),
      subst (λ (o : Option PrEntry). IsSomeAnd o (λ y. y.owner ≡ owner)) (sym e.1) (equal_to e.0.owner owner parts.1),
    )

-- so it is met in a pass over the entries, and what is met is one
pub owned_met : (r : Registry) (owner x : ℤ) → IsRegistry r → IsMetAt (is_owned_by owner) r x → IsOwned r owner x
owned_met r owner x valid met = owns_from r owner x valid (ap (owns owner) met.1 ∙ met.2)

pub met_owned : (r : Registry) (owner x : ℤ) → IsRegistry r → IsOwned r owner x → IsMetAt (is_owned_by owner) r x
met_owned r owner x valid is = owns_at owner (r.entry x) (owns_to r owner x valid is)

-- one id after the other
map-append : {X Y : Type 0} (f : X → Y) (xs ys : List X) → map f (xs ++ ys) ≡ map f xs ++ map f ys
map-append f [] ys = refl
map-append {Y = Y} f (x ∷ xs) ys = ap (λ (zs : List Y). f x ∷ zs) (map-append f xs ys)

owned_by_test : (e : PrEntry) (x : ℤ) (b : Bool) → e.id ≡ x → (zs : List ℤ) → map (λ (e : PrEntry). e.id) (cond b (e ∷ []) [])
    ++ zs ≡ cond b (x ∷ zs) zs
owned_by_test e x true own zs = ap (λ (z : ℤ). z ∷ zs) own
owned_by_test e x false own zs = refl

owned_one : (r : Registry) (owner x : ℤ) (o : Option PrEntry) → r.entry x ≡ o → IsRegistry r → (zs : List ℤ)
    → map (λ (e : PrEntry). e.id) (filter (is_owned_by owner) (option_to_list o)) ++ zs ≡ cond (owns owner o) (x ∷ zs) zs
owned_one r owner x None at valid zs = refl
owned_one r owner x (Some e) at valid zs = owned_by_test e x (is_owned_by owner e) (valid.ids x e at) zs

owned_ids : (r : Registry) (owner : ℤ) (xs : List ℤ) → IsRegistry r
    → map (λ (e : PrEntry). e.id) (filter (is_owned_by owner) (flat_map (λ x. option_to_list (r.entry x)) xs)) ≡ filter
    (λ x. owns owner (r.entry x)) xs
owned_ids r owner [] valid = refl
owned_ids r owner (x ∷ xs) valid =
    let front = option_to_list (r.entry x) in
    let rest = flat_map (λ x. option_to_list (r.entry x)) xs in
    ap (map (λ (e : PrEntry). e.id)) (filter-append (is_owned_by owner) front rest)
    ∙ map-append (λ (e : PrEntry). e.id) (filter (is_owned_by owner) front) (filter (is_owned_by owner) rest)
    ∙ ap (λ (zs : List ℤ). map (λ (e : PrEntry). e.id) (filter (is_owned_by owner) front) ++ zs) (owned_ids r owner xs valid)
    ∙ owned_one r owner x (r.entry x) refl valid (filter (λ x. owns owner (r.entry x)) xs)

owned_from : (r : Registry) (owner first : ℤ) (count : ℕ) → IsRegistry r
    → map (λ (e : PrEntry). e.id) (filter (is_owned_by owner) (entries_from first count r)) ≡ filter (λ x. owns owner (r.entry x))
    (numbers_from first count)
unfolding entries_from
owned_from r owner first count valid = owned_ids r owner (numbers_from first count) valid

all_owned : (r : Registry) (owner : ℤ) → IsRegistry r → owned_by r owner ≡ filter (λ x. owns owner (r.entry x)) ids
unfolding owned_by ids
all_owned r owner valid = owned_from r owner least_id 4294967295 valid

pub owned_there : (r : Registry) (owner x : ℤ) → IsOwned r owner x → IsSome (r.entry x)
owned_there r owner x is = let e = some_and (r.entry x) (λ y. y.owner ≡ owner) is.1 in is_there (r.entry x) e.0 e.1

pub owned_are : (r : Registry) (owner : ℤ) (xs : List ℤ) → IsRegistry r → IsListOf (IsOwned r owner) xs → xs ≡ owned_by r owner
owned_are r owner xs valid list =
    list_is (λ x. owns owner (r.entry x)) (IsOwned r owner) xs list (λ x is. owns_to r owner x valid is)
    (λ x is. owns_from r owner x valid is)
    (λ x is. entry_range r x valid (owned_there r owner x is))
    ∙ sym (all_owned r owner valid)
