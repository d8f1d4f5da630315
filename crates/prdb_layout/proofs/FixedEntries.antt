-- The fixed entries: each has a place in a block, and their names and their ids are distinct.
use Rattle.std.proofs.Common.{◌≡◌, ◌≢◌, ℕ, ℤ, zero, suc, ◌^◌, ◌<◌, ◌≤◌, Bool, true, false, not, ◌&&◌, leb, List, [], ◌∷◌, length, map, refl, arith, inl, inr, Decides}
use Rattle.std.specs.Ordering.{int_eq}
use Rattle.std.specs.Str.{bytes_eq}
use Rattle.std.specs.List.{list_all, All, AllPairs, AllByRecursion}
use Rattle.std.proofs.lemmas.Bool.{and_parts, leb-true, cases_lt}
use Rattle.std.proofs.lemmas.Bool.Decides.{Decides-int_eq}
use Rattle.std.proofs.lemmas.Slice.Eq.{bytes_eq-Decides}
use Rattle.std.proofs.lemmas.List.{get_or_past}
use Rattle.std.proofs.lemmas.List.Elements.{All-from_recursion}
use Rattle.prdb_layout.specs.State.{IsId, IsPrEntry, fixed, fixed_entries}

-- ---- distinct elements, by a test

distinct : {A : Type 0} → (A → A → Bool) → List A → Bool
distinct equal [] = true
distinct equal (x ∷ xs) = list_all (λ y. not (equal x y)) xs && distinct equal xs

differs : {A : Type 0} (b : Bool) (x y : A) → (x ≡ y → b ≡ true) → not b ≡ true → x ≢ y
differs true x y says e = absurd cc
differs false x y says e = λ same. let b = says same in absurd cc

all_differ : {A : Type 0} (equal : A → A → Bool) (decides : (a b : A) → Decides (equal a b) (a ≡ b)) (x : A) (xs : List A)
    → list_all (λ y. not (equal x y)) xs ≡ true → AllByRecursion (λ y. x ≢ y) xs
all_differ equal decides x [] e = tt
all_differ equal decides x (y ∷ ys) e =
    let p = and_parts (not (equal x y)) (list_all (λ z. not (equal x z)) ys) e in
    (differs (equal x y) x y (decides x y).1 p.0, all_differ equal decides x ys p.1)

pairs_cons : {A : Type 0} (R : A → A → Type 0) (x : A) (xs : List A) → All (R x) xs → AllPairs R xs → AllPairs R (x ∷ xs)
pairs_cons R x xs first others zero zero d lt in_range = absurd (omega arith)
pairs_cons R x xs first others zero (suc j) d lt in_range = first j d (omega arith)
pairs_cons R x xs first others (suc i) zero d lt in_range = absurd (omega arith)
pairs_cons R x xs first others (suc i) (suc j) d lt in_range = others i j d (omega arith) (omega arith)

pairs_differ : {A : Type 0} (equal : A → A → Bool) (decides : (a b : A) → Decides (equal a b) (a ≡ b)) (xs : List A)
    → distinct equal xs ≡ true → AllPairs (λ a b. a ≢ b) xs
unfolding distinct
pairs_differ equal decides [] e = λ i j d lt in_range. absurd (omega arith)
pairs_differ equal decides (x ∷ xs) e =
    let p = and_parts (list_all (λ y. not (equal x y)) xs) (distinct equal xs) e in
    pairs_cons (λ a b. a ≢ b) x xs (All-from_recursion (λ y. x ≢ y) xs (all_differ equal decides x xs p.0))
    (pairs_differ equal decides xs p.1)

-- ---- the fixed entries

is_text : List ℕ → Bool
is_text name = list_all (λ b. leb 1 b && leb b 255) name && leb (length name) 63

text_bytes : (name : List ℕ) → list_all (λ b. leb 1 b && leb b 255) name ≡ true → AllByRecursion (λ b. (1 ≤ b) × (b ≤ 255)) name
text_bytes [] e = tt
text_bytes (b ∷ name) e =
    let p = and_parts (leb 1 b && leb b 255) (list_all (λ b. leb 1 b && leb b 255) name) e in
    let q = and_parts (leb 1 b) (leb b 255) p.0 in
    ((leb-true 1 b q.0, leb-true b 255 q.1), text_bytes name p.1)

fixed_is : (name : List ℕ) (flags : ℕ) (id : ℤ) → is_text name ≡ true → flags < 2 ^ 32 → IsId id → IsPrEntry (fixed name flags id)
unfolding is_text
fixed_is name flags id text flags_fit id_is =
    let p = and_parts (list_all (λ b. leb 1 b && leb b 255) name) (leb (length name) 63) text in
    let all = All-from_recursion (λ b. (1 ≤ b) × (b ≤ 255)) name (text_bytes name p.0) in
    record {
      name_bytes = λ i. elim (cases_lt i (length name)) [
        | inl lt ↦ omega (arith, (all i 0 lt).1)
        | inr le ↦ rw (get_or_past name i 0 le) (omega arith)
      ];
      name_len = leb-true (length name) 63 p.1;
      name_text = λ k d lt. omega (arith, (all k d lt).0);
      flags = flags_fit;
      id = id_is;
      owner = record { sfits = omega arith };
      creator = record { sfits = omega arith };
      quota = record { sfits = omega arith };
    }

names_distinct : distinct bytes_eq (map (λ e. e.name) fixed_entries) ≡ true
unfolding distinct fixed_entries
names_distinct = refl

ids_distinct : distinct int_eq (map (λ e. e.id) fixed_entries) ≡ true
unfolding distinct fixed_entries
ids_distinct = refl

entries_are : AllByRecursion IsPrEntry fixed_entries
unfolding fixed_entries is_text
entries_are = (
  fixed_is _ _ _ refl (omega arith) (omega arith),
  (
    fixed_is _ _ _ refl (omega arith) (omega arith),
    (
      fixed_is _ _ _ refl (omega arith) (omega arith),
      (
        fixed_is _ _ _ refl (omega arith) (omega arith),
        (fixed_is _ _ _ refl (omega arith) (omega arith), (fixed_is _ _ _ refl (omega arith) (omega arith, omega arith), tt)),
      ),
    ),
  ),
)

pub fixed-are_entries : All IsPrEntry fixed_entries
fixed-are_entries = All-from_recursion IsPrEntry fixed_entries entries_are

pub fixed-names_differ : AllPairs (λ a b. a ≢ b) (map (λ e. e.name) fixed_entries)
fixed-names_differ = pairs_differ bytes_eq bytes_eq-Decides (map (λ e. e.name) fixed_entries) names_distinct

pub fixed-ids_differ : AllPairs (λ a b. a ≢ b) (map (λ e. e.id) fixed_entries)
fixed-ids_differ = pairs_differ int_eq Decides-int_eq (map (λ e. e.id) fixed_entries) ids_distinct
