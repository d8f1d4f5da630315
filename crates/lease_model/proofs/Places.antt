-- Places in lists: what stands where after a change of one server.
use Rattle.std.proofs.Common.{Bool, true, false, ◌≡◌, ℕ, zero, suc, ◌+◌, ◌<◌, ◌≤◌, List, [], ◌∷◌, length, map, max, refl, sym, ap, subst}
use Rattle.std.proofs.Common.{◌∙◌, ◌⊎◌, inl, inr, arith}
use Rattle.std.specs.Prelude.{Option, Some, None, ◌&&◌, ◌||◌, slice_get}
use Rattle.std.specs.List.{list_all}
use Rattle.std.proofs.lemmas.Bool.Decides.{nat_tests}
use Rattle.std.specs.Prelude.{nat_lt, nat_le}
use Rattle.ubik_types.specs.Lease.{with_start, counted, is_from, supporters, no_starts}
use Rattle.lease_model.specs.Leases.{Server, IsIn}
use Rattle.lease_model.specs.Runs.{at_server, clocks_of, are_near}

pub and_both : (a b : Bool) → (a && b) ≡ true → (a ≡ true) × (b ≡ true)
and_both true b is = (refl, is)
and_both false b is = absurd (cc)

pub or_either : (a b : Bool) → (a || b) ≡ true → (a ≡ true) ⊎ (b ≡ true)
or_either true b is = inl refl
or_either false b is = inr is

pub lt_true : (a b : ℕ) → nat_lt a b ≡ true → a < b
lt_true a b is = grind (arith, nat_tests)

pub le_true : (a b : ℕ) → nat_le a b ≡ true → a ≤ b
le_true a b is = grind (arith, nat_tests)

pub get_within : {A : Type 0} (xs : List A) (k : ℕ) → k < length xs → (x : A) × (slice_get xs k ≡ Some x)
get_within [] k h = absurd (omega arith)
get_within (x ∷ xs) zero h = (x, refl)
get_within (x ∷ xs) (suc k) h = get_within xs k (omega arith)

pub within_get : {A : Type 0} (xs : List A) (k : ℕ) (x : A) → slice_get xs k ≡ Some x → k < length xs
within_get [] k x is = absurd (cc)
within_get (y ∷ xs) zero x is = omega arith
within_get (y ∷ xs) (suc k) x is = let h : k < length xs = within_get xs k x is in omega arith

-- one value stands at a place
pub get_same : {A : Type 0} (xs : List A) (k : ℕ) (x y : A) → slice_get xs k ≡ Some x → slice_get xs k ≡ Some y → x ≡ y
get_same xs k x y one other = cc

pub in_more : {A : Type 0} (y : A) (xs : List A) (x : A) → IsIn xs x → IsIn (y ∷ xs) x
in_more y xs x h = (suc h.0, h.1)

pub in_cases : {A : Type 0} (y : A) (xs : List A) (x : A) → IsIn (y ∷ xs) x → (y ≡ x) ⊎ IsIn xs x
in_cases {A} y xs x h = at h.0 h.1
  where
    at : (k : ℕ) → slice_get (y ∷ xs) k ≡ Some x → (y ≡ x) ⊎ IsIn xs x
    at zero is = inl (cc)
    at (suc k) is = inr (k, is)

-- ---- one server is another one

abbrev pub Was : List Server → ℕ → (Server → Server) → ℕ → Server → Type 0
Was xs k f j y =
    (x : Server) × (slice_get xs j ≡ Some x) × (((j ≡ k) × (y ≡ f x)) ⊎ ((j ≡ k → ⊥) × (y ≡ x)))

pub at_before : (xs : List Server) (k j : ℕ) (f : Server → Server) (y : Server) → slice_get (at_server xs k f) j ≡ Some y → Was xs k f j y
at_before [] k j f y is = absurd (cc)
at_before (x ∷ xs) zero zero f y is = (x, refl, inl (refl, cc))
at_before (x ∷ xs) zero (suc j) f y is = (y, is, inr (λ same. omega arith, refl))
at_before (x ∷ xs) (suc k) zero f y is = (x, refl, inr (λ same. omega arith, cc))
at_before (x ∷ xs) (suc k) (suc j) f y is = later (at_before xs k j f y is)
  where
    later : Was xs k f j y → Was (x ∷ xs) (suc k) f (suc j) y
    later w = (
      w.0,
      w.1,
      elim w.2 as (λ _. ((suc j ≡ suc k) × (y ≡ f w.0)) ⊎ ((suc j ≡ suc k → ⊥) × (y ≡ w.0))) [
        | inl p ↦ inl (ap suc p.0, p.1)
        | inr p ↦ inr (λ same. p.0 (omega arith), p.1)
      ],
    )

pub at_length : (xs : List Server) (k : ℕ) (f : Server → Server) → length (at_server xs k f) ≡ length xs
at_length [] k f = refl
at_length (x ∷ xs) zero f = refl
at_length (x ∷ xs) (suc k) f = ap suc (at_length xs k f)

-- so of each server
abbrev pub Each : (ℕ → Server → Type 0) → List Server → Type 0
Each P xs = (k : ℕ) (x : Server) → slice_get xs k ≡ Some x → P k x

pub each_at : (P Q : ℕ → Server → Type 0) (xs : List Server) (k : ℕ) (f : Server → Server) → Each P xs →
    ((x : Server) → slice_get xs k ≡ Some x → P k x → Q k (f x)) → ((j : ℕ) (x : Server) → (j ≡ k → ⊥) → P j x → Q j x) →
    Each Q (at_server xs k f)
each_at P Q xs k f all there others j y is = by w.2
  where
    w : Was xs k f j y
    w = at_before xs k j f y is

    by : ((j ≡ k) × (y ≡ f w.0)) ⊎ ((j ≡ k → ⊥) × (y ≡ w.0)) → Q j y
    by (inl p) =
        let get : slice_get xs k ≡ Some w.0 = subst (λ (i : ℕ). slice_get xs i ≡ Some w.0) p.0 w.1 in
        let here : Q k (f w.0) = there w.0 get (all k w.0 get) in
        subst (λ (z : Server). Q j z) (sym p.1) (subst (λ (i : ℕ). Q i (f w.0)) (sym p.0) here)
    by (inr p) = subst (λ (z : Server). Q j z) (sym p.1) (others j w.0 p.0 (all j w.0 w.1))

pub each_all : (P Q : ℕ → Server → Type 0) (xs : List Server) (f : Server → Server) → Each P xs →
    ((j : ℕ) (x : Server) → P j x → Q j (f x)) → Each Q (map f xs)
each_all P Q [] f all step j y is = absurd (cc)
each_all P Q (x ∷ xs) f all step zero y is =
    let same : f x ≡ y = cc in subst (λ (z : Server). Q 0 z) same (step 0 x (all 0 x refl))
each_all P Q (x ∷ xs) f all step (suc j) y is =
    each_all (λ i z. P (suc i) z) (λ i z. Q (suc i) z) xs f (λ i z get. all (suc i) z get) (λ i z h. step (suc i) z h) j y is

-- ---- clocks

all_at : {A : Type 0} (test : A → Bool) (xs : List A) (k : ℕ) (x : A) → list_all test xs ≡ true → slice_get xs k ≡ Some x → test x ≡ true
all_at test [] k x all is = absurd (cc)
all_at test (y ∷ xs) zero x all is =
    let same : y ≡ x = cc in ap test (sym same) ∙ (and_both (test y) (list_all test xs) all).0
all_at test (y ∷ xs) (suc k) x all is = all_at test xs k x (and_both (test y) (list_all test xs) all).1 is

clock_at : (xs : List Server) (k : ℕ) (x : Server) → slice_get xs k ≡ Some x → slice_get (clocks_of xs) k ≡ Some x.clock
clock_at [] k x is = absurd (cc)
clock_at (y ∷ xs) zero x is = let same : y ≡ x = cc in ap (λ (z : Server). Some z.clock) same
clock_at (y ∷ xs) (suc k) x is = clock_at xs k x is

pub near_at : (skew : ℕ) (xs : List Server) (j k : ℕ) (x y : Server) → are_near skew (clocks_of xs) ≡ true → slice_get xs j ≡ Some x →
    slice_get xs k ≡ Some y → x.clock ≤ y.clock + skew
near_at skew xs j k x y near at_j at_k =
    let row =
    all_at (λ (a : ℕ). list_all (λ (b : ℕ). nat_le a (b + skew)) (clocks_of xs)) (clocks_of xs) j x.clock near (clock_at xs j x at_j) in
    le_true _ _ (all_at (λ (b : ℕ). nat_le x.clock (b + skew)) (clocks_of xs) k y.clock row (clock_at xs k y at_k))

-- ---- starts

pub with_start-length : (starts : List (Option ℕ)) (v s : ℕ) → length (with_start starts v s) ≡ length starts
with_start-length [] v s = refl
with_start-length (x ∷ starts) zero s = refl
with_start-length (x ∷ starts) (suc v) s = ap suc (with_start-length starts v s)

max_either : (a b t : ℕ) → max a b ≡ t → (t ≡ b) ⊎ (a ≡ t)
max_either a b t is = grind (arith)

counted_either : (before : Option ℕ) (s t : ℕ) → counted before s ≡ Some t → (t ≡ s) ⊎ (before ≡ Some t)
counted_either None s t is = inl (cc)
counted_either (Some b) s t is =
    let greater : max b s ≡ t = cc in
    elim (max_either b s t greater) as (λ _. (t ≡ s) ⊎ (Some b ≡ Some t)) [ inl p ↦ inl p | inr p ↦ inr (ap (λ (n : ℕ). Some n) p) ]

pub with_start-either : (starts : List (Option ℕ)) (i s v t : ℕ) → slice_get (with_start starts i s) v ≡ Some (Some t) →
    ((v ≡ i) × (t ≡ s)) ⊎ (slice_get starts v ≡ Some (Some t))
with_start-either [] i s v t is = inr is
with_start-either (x ∷ starts) zero s zero t is =
    let here : counted x s ≡ Some t = cc in
    elim (counted_either x s t here) as
    (λ _. ((zero ≡ zero) × (t ≡ s)) ⊎ (Some x ≡ Some (Some t))) [ inl p ↦ inl (refl, p) | inr p ↦ inr (ap (λ (o : Option ℕ). Some o) p) ]
with_start-either (x ∷ starts) zero s (suc v) t is = inr is
with_start-either (x ∷ starts) (suc i) s zero t is = inr is
with_start-either (x ∷ starts) (suc i) s (suc v) t is =
    elim (with_start-either starts i s v t is) as (λ _. ((suc v ≡ suc i) × (t ≡ s)) ⊎ (slice_get starts v ≡ Some (Some t))) [
      | inl p ↦ inl (ap suc p.0, p.1)
      | inr p ↦ inr p
    ]

pub no_starts-length : (n : ℕ) → length (no_starts n) ≡ n
no_starts-length zero = refl
no_starts-length (suc n) = ap suc (no_starts-length n)

pub no_starts-none : (n v t : ℕ) → slice_get (no_starts n) v ≡ Some (Some t) → ⊥
no_starts-none zero v t is = cc
no_starts-none (suc n) zero t is = cc
no_starts-none (suc n) (suc v) t is = no_starts-none n v t is

-- who supports a start has one that is no earlier
is_from_at : (s : ℕ) (o : Option ℕ) → is_from s o ≡ true → (t : ℕ) × (o ≡ Some t) × (s ≤ t)
is_from_at s None is = absurd (cc)
is_from_at s (Some t) is = (t, refl, le_true s t is)

pub supporter_at : (starts : List (Option ℕ)) (s v : ℕ) → slice_get (supporters starts s) v ≡ Some true →
    (t : ℕ) × (slice_get starts v ≡ Some (Some t)) × (s ≤ t)
supporter_at [] s v is = absurd (cc)
supporter_at (x ∷ starts) s zero is =
    let from : is_from s x ≡ true = cc in
    let w = is_from_at s x from in (w.0, ap (λ (o : Option ℕ). Some o) w.1, w.2)
supporter_at (x ∷ starts) s (suc v) is = supporter_at starts s v is

pub supporters-length : (starts : List (Option ℕ)) (s : ℕ) → length (supporters starts s) ≡ length starts
supporters-length [] s = refl
supporters-length (x ∷ starts) s = ap suc (supporters-length starts s)
