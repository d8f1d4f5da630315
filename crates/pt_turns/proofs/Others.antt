-- Whether an entry owns a group other than itself: what the list of its groups tells.
use Rattle.std.proofs.Common.{◌≡◌, ℕ, ℤ, suc, pos, negsuc, Bool, true, false, not, ◌&&◌, List, [], ◌∷◌, Option, Some, None, IsSome}
use Rattle.std.proofs.Common.{IfSome, refl, sym, ap, subst, ◌∙◌, inl, inr, arith}
use Rattle.std.specs.Prelude.{◌<ℤ◌, IsSomeAnd}
use Rattle.std.specs.List.{Contains, list_any}
use Rattle.std.specs.Ordering.{int_eq}
use Rattle.std.proofs.lemmas.Bool.{and_from, and_parts, or_cases}
use Rattle.std.proofs.lemmas.Int.{ints}
use Rattle.std.proofs.lemmas.List.Folds.{list_any_at}
use Rattle.prdb_layout.specs.Registry.{Registry, IsRegistry}
use Rattle.prdb_layout.specs.State.{PrEntry}
use Rattle.entry_scans.specs.Lists.{IsListOf}
use Rattle.prdb_lists.specs.Members.{IsOwned, Members}
use Rattle.prdb_finds.specs.Owned.{AreOwned}
use Rattle.prdb_finds.specs.Records.{Holds}
use Rattle.pt_service.specs.State.{is_group}
use Rattle.pt_service.specs.Turning.{owns_another}
use Rattle.pt_looks.specs.States.{OfStates, members_of}
use Rattle.pt_turns.proofs.Anyone.{any_some, any_which}
use Rattle.pt_turns.proofs.Fronts.{both_ways}
use Rattle.pt_turns.proofs.Named.{id_of, own_at, to_id}

-- ---- of a list of ids

abbrev is_other : (id other : ℤ) → Bool
is_other id other = not (int_eq other id)

behind : (x : ℤ) (xs : List ℤ) (y : ℤ) → Contains xs y → Contains (x ∷ xs) y
behind x xs y c = (suc c.0, omega (arith, c.1), c.2)

which_in : (p : ℤ → Bool) (xs : List ℤ) → list_any p xs ≡ true → (x : ℤ) × Contains xs x × (p x ≡ true)
which_in p [] is = absurd cc
which_in p (x ∷ xs) is =
    elim (or_cases (p x) (list_any p xs) is) [
      | inl here ↦ (x, (0, omega arith, refl), here)
      | inr later ↦ let c = which_in p xs later in (c.0, behind x xs c.0 c.1, c.2)
    ]

any_in : (p : ℤ → Bool) (xs : List ℤ) (x : ℤ) → Contains xs x → p x ≡ true → list_any p xs ≡ true
any_in p xs x c is = list_any_at p xs c.0 x c.1 (ap p c.2 ∙ is)

-- ---- of its groups

group_of : (id : ℤ) → id <ℤ pos 0 → is_group id ≡ true
group_of (pos n) less = absurd (omega (arith, ints, less))
group_of (negsuc n) less = refl

below_zero : (id : ℤ) → is_group id ≡ true → id <ℤ pos 0
below_zero (pos n) is = absurd cc
below_zero (negsuc n) is = omega (arith, ints)

there_with : (o : Option PrEntry) (P : PrEntry → Type 0) → IsSomeAnd o P → (e : PrEntry) × (o ≡ Some e) × P e
there_with None P is = absurd is
there_with (Some e) P is = (e, refl, is)

with_some : (o : Option PrEntry) (e : PrEntry) (P : PrEntry → Type 0) → o ≡ Some e → P e → IsSomeAnd o P
with_some o e P is met = subst (λ (p : Option PrEntry). IsSomeAnd p P) (sym is) met

abbrev is_its_other : ℤ → PrEntry → Bool
is_its_other id f = is_group f.id && int_eq f.owner id && not (int_eq f.id id)

other_owned : (r : Registry) (id : ℤ) (ids : List ℤ) → IsRegistry r → IsListOf (IsOwned r id) ids → list_any (is_other id) ids ≡ true
    → owns_another r id ≡ true
other_owned r id ids valid list is =
    let w = which_in (is_other id) ids is in
    let owned = list.each w.0 w.1 in
    let f = there_with (r.entry w.0) (λ e. e.owner ≡ id) owned.1 in
    let same = valid.ids w.0 f.0 f.1 in
    any_some r (is_its_other id) f.0 valid (own_at r w.0 f.0 valid f.1)
    (and_from (is_group f.0.id && int_eq f.0.owner id) (not (int_eq f.0.id id))
    (and_from (is_group f.0.id) (int_eq f.0.owner id) (ap is_group same ∙ group_of w.0 owned.0) (to_id f.0.owner id f.2))
    (ap (is_other id) same ∙ w.2))

owned_other : (r : Registry) (id : ℤ) (ids : List ℤ) → IsRegistry r → IsListOf (IsOwned r id) ids → owns_another r id ≡ true
    → list_any (is_other id) ids ≡ true
owned_other r id ids valid list is =
    let f = any_which r (is_its_other id) is in
    let two = and_parts (is_group f.entry.id && int_eq f.entry.owner id) (not (int_eq f.entry.id id)) f.met in
    let one = and_parts (is_group f.entry.id) (int_eq f.entry.owner id) two.0 in
    any_in (is_other id) ids f.entry.id
    (list.all f.entry.id (
      below_zero f.entry.id one.0,
      with_some (r.entry f.entry.id) f.entry (λ e. e.owner ≡ id) (own_at r f.id f.entry valid f.there) (id_of f.entry.owner id one.1),
    ))
    two.1

other_tell : (r : Registry) (id : ℤ) (ids : List ℤ) → IsRegistry r → IsListOf (IsOwned r id) ids
    → list_any (is_other id) ids ≡ owns_another r id
other_tell r id ids valid list =
    both_ways (list_any (is_other id) ids) (owns_another r id) (other_owned r id ids valid list) (owned_other r id ids valid list)

-- ---- as they are found

abbrev OwnsTold : Option (List ℕ) → (id : ℤ) → Bool → Type 0
OwnsTold bytes id b = OfStates bytes (λ s. IsSome (s.registry.entry id) → b ≡ owns_another s.registry id)

abbrev Found : Option (List ℕ) → (id : ℤ) → Option (List ℤ) → Type 0
Found bytes id found = IfSome bytes (λ image. (r : Registry) (m : Members) → Holds image r m → AreOwned r id found)

not_there : (o : Option PrEntry) → IsSome o → o ≡ None → ⊥
not_there None there none = absurd cc
not_there (Some e) there none = absurd cc

pub owns_none : (bytes : Option (List ℕ)) (id : ℤ) → Found bytes id None → OwnsTold bytes id false
owns_none None id told = tt
owns_none (Some image) id told = λ s holds there.
    absurd (not_there (s.registry.entry id) there (told s.registry (members_of s) holds))

pub owns_some : (bytes : Option (List ℕ)) (id : ℤ) (ids : List ℤ) (b : Bool) → Found bytes id (Some ids) → b ≡ list_any (is_other id) ids
    → OwnsTold bytes id b
owns_some None id ids b told is = tt
owns_some (Some image) id ids b told is = λ s holds there.
    is ∙ other_tell s.registry id ids holds.pairs.holds.valid (told s.registry (members_of s) holds).1
