-- The lists of ids that calls tell: what they are, and how many ids they have.
use Rattle.std.proofs.Common.{◌≡◌, ℕ, ℤ, pos, negsuc, ◌<◌, ◌≤◌, true, false, List, length, get_or, Option, Some, None, IsSome, IsSomeAnd, IfSome, refl, sym, subst, inl, inr, arith}
use Rattle.std.specs.Prelude.{codes, filter, is_none}
use Rattle.prdb_layout.specs.Registry.{Registry, IsRegistry}
use Rattle.prdb_layout.specs.State.{PrEntry, fixed, fixed_entries, group_flags}
use Rattle.entry_scans.specs.Lists.{IsListOf}
use Rattle.prdb_lists.specs.Members.{Members, ArePairs, IsInList, are_paired}
use Rattle.prdb_finds.specs.Records.{Holds}
use Rattle.pt_service.specs.Meaning.{counts_for}
use Rattle.pt_service.specs.State.{State, elements, ids}
use Rattle.pt_looks.specs.Owned.{AreOwned}
use Rattle.pt_looks.specs.States.{OfStates, members_of}
use Rattle.pt_looks.proofs.Many.{few_ids}
use Rattle.pt_looks.proofs.Ordered.{list_is}
use Rattle.pt_looks.proofs.Pairs.{counts_from, counts_to, elements_are, entry_range, is_there, owned_there, paired_there}
use Rattle.pt_looks.proofs.States.{known_some}

-- ---- the lists of ids that calls tell

pub elements_told : (bytes : Option (List ℕ)) (id : ℤ) (xs : List ℤ)
    → IfSome bytes (λ image. (r : Registry) (m : Members) → Holds image r m → IsListOf (λ other. are_paired m id other ≡ true) xs)
    → OfStates bytes (λ s. xs ≡ elements s id)
elements_told None id xs list = tt
elements_told (Some image) id xs list = λ s holds. elements_are image s id xs holds (list s.registry (members_of s) holds)

pub elements_few : (bytes : Option (List ℕ)) (len : ℕ) (id : ℤ) (xs : List ℤ) → IfSome bytes (λ image. length image ≡ len) → len ≤ 16777216
    → IfSome bytes (λ image. (r : Registry) (m : Members) → Holds image r m → IsListOf (λ other. are_paired m id other ≡ true) xs)
    → OfStates bytes (λ s. length xs ≤ 262143)
elements_few None len id xs long most list = tt
elements_few (Some image) len id xs long most list = λ s holds.
    let l = list s.registry (members_of s) holds in
    few_ids image s xs holds (omega (arith, long, most)) l.ascending (λ x has. paired_there s id x holds.pairs.valid (l.each x has))

pub owned_few : (bytes : Option (List ℕ)) (len : ℕ) (id : ℤ) (xs : List ℤ) → IfSome bytes (λ image. length image ≡ len) → len ≤ 16777216
    → OfStates bytes (λ s. AreOwned s.registry id (Some xs)) → OfStates bytes (λ s. length xs ≤ 262143)
owned_few None len id xs long most list = tt
owned_few (Some image) len id xs long most list = λ s holds.
    let l = (list s holds).1 in
    few_ids image s xs holds (omega (arith, long, most)) l.ascending (λ x has. owned_there s.registry id x (l.each x has))

-- the groups in which each user is are there
some_there : {X : Type 0} (o : Option X) (P : X → Type 0) → IsSomeAnd o P → IsSome o
some_there None P is = absurd is
some_there (Some x) P is = refl

fixed_there : (r : Registry) (k : ℕ) (f : PrEntry) → IsRegistry r → k < length fixed_entries → get_or fixed_entries k f ≡ f
    → IsSome (r.entry f.id)
fixed_there r k f valid below is =
    let there = valid.fixed k f below in
    some_there (r.entry f.id) (λ e. e.name ≡ f.name) (subst (λ (x : PrEntry). IsSomeAnd (r.entry x.id) (λ e. e.name ≡ x.name)) is there)

any_there : (r : Registry) → IsRegistry r → IsSome (r.entry (negsuc 100))
unfolding fixed_entries
any_there r valid = fixed_there r 0 (fixed (codes "system:anyuser") group_flags (negsuc 100)) valid (omega arith) refl

signed_there : (r : Registry) → IsRegistry r → IsSome (r.entry (negsuc 101))
unfolding fixed_entries
signed_there r valid = fixed_there r 1 (fixed (codes "system:authuser") group_flags (negsuc 101)) valid (omega arith) refl

at_id : (r : Registry) (x y : ℤ) → x ≡ y → IsSome (r.entry y) → IsSome (r.entry x)
at_id r x y same there = subst (λ (z : ℤ). IsSome (r.entry z)) (sym same) there

pub in_list_there : (s : State) (id x : ℤ) → ArePairs s.registry (members_of s) → IsRegistry s.registry → IsSome (s.registry.entry id)
    → IsInList (members_of s) id x
    → IsSome (s.registry.entry x)
in_list_there s (negsuc n) x pairs valid there is = at_id s.registry x (negsuc n) is there
in_list_there s (pos n) x pairs valid there is = elim is [
  | inl own ↦ at_id s.registry x (pos n) own there
  | inr more ↦ elim more [
    | inl paired ↦ paired_there s (pos n) x pairs paired
    | inr rest ↦ elim rest [
      | inl any ↦ at_id s.registry x (negsuc 100) any (any_there s.registry valid)
      | inr signed ↦ at_id s.registry x (negsuc 101) signed.0 (signed_there s.registry valid)
    ]
  ]
]

pub counts_told : (bytes : Option (List ℕ)) (id : ℤ) (xs : List ℤ)
    → IfSome bytes (λ image. (r : Registry) (m : Members) → Holds image r m → IsListOf (IsInList m id) xs)
    → OfStates bytes (λ s. false ≡ is_none (s.registry.entry id)) → OfStates bytes (λ s. xs ≡ filter (counts_for s id) ids)
counts_told None id xs list there = tt
counts_told (Some image) id xs list there = λ s holds.
    let known = known_some (s.registry.entry id) (there s holds) in
    let here = is_there (s.registry.entry id) known.0 known.1 in
    list_is (counts_for s id) (IsInList (members_of s) id) xs (list s.registry (members_of s) holds)
    (λ x is. counts_to s id x holds.pairs.valid is) (λ x is. counts_from s id x holds.pairs.valid is)
    (λ x is. entry_range s.registry x holds.pairs.holds.valid
    (in_list_there s id x holds.pairs.valid holds.pairs.holds.valid here is))

pub counts_few : (bytes : Option (List ℕ)) (len : ℕ) (id : ℤ) (xs : List ℤ) → IfSome bytes (λ image. length image ≡ len) → len ≤ 16777216
    → IfSome bytes (λ image. (r : Registry) (m : Members) → Holds image r m → IsListOf (IsInList m id) xs)
    → OfStates bytes (λ s. false ≡ is_none (s.registry.entry id)) → OfStates bytes (λ s. length xs ≤ 262143)
counts_few None len id xs long most list there = tt
counts_few (Some image) len id xs long most list there = λ s holds.
    let known = known_some (s.registry.entry id) (there s holds) in
    let here = is_there (s.registry.entry id) known.0 known.1 in
    let l = list s.registry (members_of s) holds in
    few_ids image s xs holds (omega (arith, long, most)) l.ascending
    (λ x has. in_list_there s id x holds.pairs.valid holds.pairs.holds.valid here (l.each x has))

-- what is known of a draft of the same bytes
pub known_same : (bytes mid : Option (List ℕ)) (id : ℤ) → mid ≡ bytes → OfStates bytes (λ s. false ≡ is_none (s.registry.entry id))
    → OfStates mid (λ s. false ≡ is_none (s.registry.entry id))
known_same bytes mid id same known =
    subst (λ (b : Option (List ℕ)). OfStates b (λ s. false ≡ is_none (s.registry.entry id))) (sym same) known
