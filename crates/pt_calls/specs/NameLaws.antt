-- The id of the entry that has a name.
use Rattle.std.proofs.Common.{◌≡◌, ℕ, ℤ, zero, suc, ◌+◌, ◌<◌, ◌≤◌, Bool, true, false, List, [], ◌∷◌, ◌++◌, map, Option, Some, None, refl, sym, ap, ◌∙◌, arith, inl, inr, ◌⊎◌}
use Rattle.std.specs.Prelude.{pos, negsuc}
use Rattle.std.specs.List.{find, range_with_len}
use Rattle.std.specs.Option.{option_map}
use Rattle.std.specs.Str.{bytes_eq}
use Rattle.prdb_layout.specs.Registry.{Registry, IsRegistry, IsNamed}
use Rattle.prdb_layout.specs.State.{PrEntry, IsId}
use Rattle.std.specs.Bool.{Decides}
use Rattle.std.proofs.lemmas.Bool.{cases_eq}
use Rattle.std.proofs.lemmas.Slice.Eq.{bytes_eq-Decides}
use Rattle.pt_calls.specs.Meaning.{ids_to, id_named, is_named}

abbrev IsIn : {X : Type 0} → List X → X → Type 0
IsIn [] x = ⊥
IsIn (y ∷ ys) x = (y ≡ x) ⊎ IsIn ys x

in_left : {X : Type 0} (xs ys : List X) (x : X) → IsIn xs x → IsIn (xs ++ ys) x
in_left [] ys x h = absurd h
in_left (a ∷ xs) ys x (inl e) = inl e
in_left (a ∷ xs) ys x (inr h) = inr (in_left xs ys x h)

in_right : {X : Type 0} (xs ys : List X) (x : X) → IsIn ys x → IsIn (xs ++ ys) x
in_right [] ys x h = h
in_right (a ∷ xs) ys x h = inr (in_right xs ys x h)

in_map : {X Y : Type 0} (f : X → Y) (xs : List X) (x : X) → IsIn xs x → IsIn (map f xs) (f x)
in_map f [] x h = absurd h
in_map f (a ∷ xs) x (inl e) = inl (ap f e)
in_map f (a ∷ xs) x (inr h) = inr (in_map f xs x h)

in_range_by : (a n k : ℕ) → (a ≡ k) ⊎ (a ≡ k → ⊥) → (a + 1 ≤ k → k < a + 1 + n → IsIn (range_with_len (a + 1) n) k) → a ≤ k
    → k < a + suc n → IsIn (range_with_len a (suc n)) k
in_range_by a n k (inl e) others low high = inl e
in_range_by a n k (inr ne) others low high = inr (others (omega arith) (omega arith))

in_range : (a n k : ℕ) → a ≤ k → k < a + n → IsIn (range_with_len a n) k
in_range a zero k low high = absurd (omega arith)
in_range a (suc n) k low high = in_range_by a n k (cases_eq a k) (in_range (a + 1) n k) low high

-- an id up to a number
abbrev IsIdTo : ℕ → ℤ → Type 0
IsIdTo most (pos n) = (0 < n) × (n ≤ most)
IsIdTo most (negsuc n) = n < most

in_ids : (most : ℕ) (z : ℤ) → IsIdTo most z → IsIn (ids_to most) z
unfolding ids_to
in_ids most (pos n) h =
    in_left (map pos (range_with_len 1 most)) (map negsuc (range_with_len 0 most)) (pos n)
    (in_map pos (range_with_len 1 most) n (in_range 1 most n (omega arith) (omega arith)))
in_ids most (negsuc n) h =
    in_right (map pos (range_with_len 1 most)) (map negsuc (range_with_len 0 most)) (negsuc n)
    (in_map negsuc (range_with_len 0 most) n (in_range 0 most n (omega arith) (omega arith)))

is_id : (z : ℤ) → IsId z → IsIdTo 2147483647 z
is_id (pos n) h = h
is_id (negsuc n) h = h

find_none : {X : Type 0} (p : X → Bool) (xs : List X) → ((y : X) → p y ≡ false) → find p xs ≡ None
find_none p [] h = refl
find_none p (x ∷ xs) h = rw (h x) (find_none p xs h)

clash : (b : Bool) → b ≡ true → b ≡ false → ⊥
clash true e f = cc
clash false e f = cc

find_by : {X : Type 0} (p : X → Bool) (y x : X) (xs : List X) (b : Bool) → p y ≡ b → (p y ≡ true → y ≡ x)
    → (p y ≡ false → find p xs ≡ Some x) → find p (y ∷ xs) ≡ Some x
find_by {X = X} p y x xs true e one others = rw e (ap (λ (z : X). Some z) (one e))
find_by p y x xs false e one others = rw e (others e)

find_some : {X : Type 0} (p : X → Bool) (xs : List X) (x : X) → p x ≡ true → ((y : X) → p y ≡ true → y ≡ x) → IsIn xs x → find p xs ≡ Some x
find_some p [] x here one within = absurd within
find_some {X = X} p (y ∷ ys) x here one (inl e) =
    find_by p y x ys true (ap p e ∙ here) (one y) (λ other. absurd (clash (p y) (ap p e ∙ here) other))
find_some p (y ∷ ys) x here one (inr h) = find_by p y x ys (p y) refl (one y) (λ other. find_some p ys x here one h)

to_false : (b : Bool) (P : Type 0) → Decides b P → (P → ⊥) → b ≡ false
to_false true P d never = absurd (never (d.0 refl))
to_false false P d never = refl

not_named : (name : List ℕ) (content : Option PrEntry) → ((e : PrEntry) → content ≡ Some e → e.name ≡ name → ⊥)
    → is_named name content ≡ false
not_named name None h = refl
not_named name (Some e) h = to_false (bytes_eq e.name name) (e.name ≡ name) (bytes_eq-Decides e.name name) (h e refl)

its_name : (name : List ℕ) (content : Option PrEntry) → is_named name content ≡ true → (e : PrEntry) × (content ≡ Some e) × (e.name ≡ name)
its_name name None h = absurd cc
its_name name (Some e) h = (e, refl, (bytes_eq-Decides e.name name).0 h)

pub named_is : (r : Registry) (name : List ℕ) (o : Option PrEntry) → IsRegistry r → IsNamed r name o
    → id_named r name ≡ option_map (λ e. e.id) o
unfolding id_named
named_is r name None valid h =
    find_none (λ id. is_named name (r.entry id)) (ids_to 2147483647) (λ id. not_named name (r.entry id) (λ e is. h id e is))
named_is r name (Some e) valid h =
    let here : is_named name (r.entry e.id) ≡ true = rw h.0 ((bytes_eq-Decides e.name name).1 h.1) in
    find_some (λ id. is_named name (r.entry id)) (ids_to 2147483647) e.id here
    (λ id named. let f = its_name name (r.entry id) named in valid.names id e.id f.0 e f.1 h.0 (f.2 ∙ sym h.1))
    (in_ids 2147483647 e.id (is_id e.id (valid.records e.id e h.0).fields.id))

-- no entry has a name that is none's
pub none_named : (r : Registry) (name : List ℕ) → IsRegistry r → id_named r name ≡ None → (id : ℤ) (e : PrEntry) → r.entry id ≡ Some e
    → e.name ≡ name → ⊥
none_named r name valid none id e there same =
    let own : r.entry e.id ≡ Some e = ap r.entry (valid.ids id e there) ∙ there in
    let found = named_is r name (Some e) valid (own, same) in
    cc
