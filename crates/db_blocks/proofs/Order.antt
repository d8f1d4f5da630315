-- The ascending list of what meets a test, where no two have one key: what is in it, and in which order.
use Rattle.std.proofs.Common.{◌≡◌, ◌≢◌, ℕ, zero, suc, ◌+◌, ◌<◌, ◌≤◌, Bool, true, false, cond, ltb, List, [], ◌∷◌, refl, sym, ap, subst, ◌⊎◌, inl, inr, arith}
use Rattle.std.proofs.lemmas.Bool.{cases_Bool, ltb-true, ltb-false}
use Rattle.db_blocks.specs.Ascending.{ascending, put_by}

-- each key is above those before it, the first one at least this
abbrev pub Rises : (key : ℕ → ℕ) → (low : ℕ) → List ℕ → Type 0
Rises key low [] = Unit {0}
Rises key low (k ∷ ks) = (low ≤ key k) × Rises key (key k + 1) ks

abbrev pub IsIn : ℕ → List ℕ → Type 0
IsIn n [] = ⊥
IsIn n (k ∷ ks) = (n ≡ k) ⊎ IsIn n ks

-- those of the first so many numbers that meet a test with a key from this one on, ascending
pub record IsOrder (test : ℕ → Bool) (key : ℕ → ℕ) (count low : ℕ) (ks : List ℕ) : Type 0 where
  pub rises : Rises key low ks
  pub each : (k : ℕ) → IsIn k ks → (k < count) × (test k ≡ true)
  pub all : (k : ℕ) → k < count → test k ≡ true → low ≤ key k → IsIn k ks

-- no two of them have one key
abbrev pub AreApart : (test : ℕ → Bool) → (key : ℕ → ℕ) → (count : ℕ) → Type 0
AreApart test key count = (j k : ℕ) → j < count → k < count → test j ≡ true → test k ≡ true → key j ≡ key k → j ≡ k

-- ---- one more

here_if : (b : Bool) (xs ys : List ℕ) → b ≡ true → cond b xs ys ≡ xs
here_if true xs ys is = refl
here_if false xs ys is = absurd cc

else_if : (b : Bool) (xs ys : List ℕ) → b ≡ false → cond b xs ys ≡ ys
else_if true xs ys is = absurd cc
else_if false xs ys is = refl

put_here : (key : ℕ → ℕ) (n k : ℕ) (ks : List ℕ) → ltb (key n) (key k) ≡ true → put_by key n (k ∷ ks) ≡ n ∷ k ∷ ks
put_here key n k ks is = here_if (ltb (key n) (key k)) (n ∷ k ∷ ks) (k ∷ put_by key n ks) is

put_later : (key : ℕ → ℕ) (n k : ℕ) (ks : List ℕ) → ltb (key n) (key k) ≡ false → put_by key n (k ∷ ks) ≡ k ∷ put_by key n ks
put_later key n k ks is = else_if (ltb (key n) (key k)) (n ∷ k ∷ ks) (k ∷ put_by key n ks) is

rises_put : (key : ℕ → ℕ) (n : ℕ) (ks : List ℕ) (low : ℕ) → low ≤ key n → ((k : ℕ) → IsIn k ks → key n ≢ key k) → Rises key low ks
    → Rises key low (put_by key n ks)
rises_put key n [] low least other rises = (least, tt)
rises_put key n (k ∷ ks) low least other rises =
    elim (cases_Bool (ltb (key n) (key k))) [
      | inl is ↦ subst (Rises key low) (sym (put_here key n k ks is)) (least, (omega (arith, ltb-true (key n) (key k) is), rises.1))
      | inr is ↦
          let apart : key n ≢ key k = other k (inl refl) in
          let above : key k ≤ key n = ltb-false (key n) (key k) is in
          subst (Rises key low) (sym (put_later key n k ks is))
          (rises.0, rises_put key n ks (key k + 1) (omega (arith, apart, above)) (λ j in_rest. other j (inr in_rest)) rises.1)
    ]

in_put : (key : ℕ → ℕ) (n k : ℕ) (ks : List ℕ) → IsIn k (put_by key n ks) → (k ≡ n) ⊎ IsIn k ks
in_put key n k [] is = is
in_put key n k (j ∷ ks) is =
    elim (cases_Bool (ltb (key n) (key j))) [
      | inl less ↦ subst (IsIn k) (put_here key n j ks less) is
      | inr more ↦
          elim (subst (IsIn k) (put_later key n j ks more) is) [
            | inl same ↦ inr (inl same)
            | inr rest ↦
                elim (in_put key n k ks rest) [
                  | inl new ↦ inl new
                  | inr old ↦ inr (inr old)
                ]
          ]
    ]

new_in : (key : ℕ → ℕ) (n : ℕ) (ks : List ℕ) → IsIn n (put_by key n ks)
new_in key n [] = inl refl
new_in key n (k ∷ ks) =
    elim (cases_Bool (ltb (key n) (key k))) [
      | inl less ↦ subst (IsIn n) (sym (put_here key n k ks less)) (inl refl)
      | inr more ↦ subst (IsIn n) (sym (put_later key n k ks more)) (inr (new_in key n ks))
    ]

old_in : (key : ℕ → ℕ) (n k : ℕ) (ks : List ℕ) → IsIn k ks → IsIn k (put_by key n ks)
old_in key n k [] is = absurd is
old_in key n k (j ∷ ks) is =
    elim (cases_Bool (ltb (key n) (key j))) [
      | inl less ↦ subst (IsIn k) (sym (put_here key n j ks less)) (inr is)
      | inr more ↦
          subst (IsIn k) (sym (put_later key n j ks more)) (elim is [
            | inl same ↦ inl same
            | inr rest ↦ inr (old_in key n k ks rest)
          ])
    ]

-- ---- all of them

apart_less : (test : ℕ → Bool) (key : ℕ → ℕ) (n : ℕ) → AreApart test key (suc n) → AreApart test key n
apart_less test key n apart = λ j k one two. apart j k (omega arith) (omega arith)

itself : (n k : ℕ) → n ≡ k → k < n → ⊥
itself n k same below = omega arith

last_or : (k n : ℕ) → k < suc n → (k ≡ n) ⊎ (k < n)
last_or k n below = elim (cases_Bool (ltb k n)) [
  | inl less ↦ inr (ltb-true k n less)
  | inr most ↦ let least = ltb-false k n most in inl (omega (arith, least, below))
]

both : (b : Bool) → b ≡ true → b ≡ false → ⊥
both true is not = absurd cc
both false is not = absurd cc

order_met : (test : ℕ → Bool) (key : ℕ → ℕ) (n : ℕ) (ks : List ℕ) → test n ≡ true → AreApart test key (suc n) → IsOrder test key n 0 ks
    → IsOrder test key (suc n) 0 (put_by key n ks)
order_met test key n ks met apart o = record {
  rises = rises_put key n ks 0 (omega arith)
      (λ k there same. let e = o.each k there in itself n k (apart n k (omega arith) (omega (arith, e.0)) met e.1 same) e.0) o.rises;
  each = λ k there. elim (in_put key n k ks there) [
    | inl new ↦ (omega arith, subst (λ (j : ℕ). test j ≡ true) (sym new) met)
    | inr old ↦ let e = o.each k old in (omega (arith, e.0), e.1)
  ];
  all = λ k below is least. elim (last_or k n below) [
    | inl same ↦ subst (λ (j : ℕ). IsIn j (put_by key n ks)) (sym same) (new_in key n ks)
    | inr less ↦ old_in key n k ks (o.all k less is least)
  ];
}

order_past : (test : ℕ → Bool) (key : ℕ → ℕ) (n : ℕ) (ks : List ℕ) → test n ≡ false → IsOrder test key n 0 ks
    → IsOrder test key (suc n) 0 ks
order_past test key n ks fails o = record {
  rises = o.rises;
  each = λ k there. let e = o.each k there in (omega (arith, e.0), e.1);
  all = λ k below is least. elim (last_or k n below) [
    | inl same ↦ absurd (both (test n) (subst (λ (j : ℕ). test j ≡ true) same is) fails)
    | inr less ↦ o.all k less is least
  ];
}

pub order_of : (test : ℕ → Bool) (key : ℕ → ℕ) (count : ℕ) → AreApart test key count → IsOrder test key count 0 (ascending test key count)
order_of test key zero apart = record { rises = tt; each = λ k there. absurd there; all = λ k below. absurd (omega arith) }
order_of test key (suc n) apart =
    let o = order_of test key n (apart_less test key n apart) in
    elim (cases_Bool (test n)) [
      | inl met ↦
          subst (IsOrder test key (suc n) 0) (sym (here_if (test n) (put_by key n (ascending test key n)) (ascending test key n) met))
          (order_met test key n (ascending test key n) met apart o)
      | inr fails ↦
          subst (IsOrder test key (suc n) 0) (sym (else_if (test n) (put_by key n (ascending test key n)) (ascending test key n) fails))
          (order_past test key n (ascending test key n) fails o)
    ]

-- ---- the first, and those behind it

in_above : (key : ℕ → ℕ) (low k : ℕ) (ks : List ℕ) → Rises key low ks → IsIn k ks → low ≤ key k
in_above key low k [] rises is = absurd is
in_above key low k (j ∷ ks) rises (inl same) = omega (arith, rises.0, ap key same)
in_above key low k (j ∷ ks) rises (inr rest) = omega (arith, rises.0, in_above key (key j + 1) k ks rises.1 rest)

pub order_least : (test : ℕ → Bool) (key : ℕ → ℕ) (count low k j : ℕ) (ks : List ℕ) → IsOrder test key count low (k ∷ ks) → j < count
    → test j ≡ true → low ≤ key j → key k ≤ key j
order_least test key count low k j ks o below met least = elim (o.all j below met least) [
  | inl same ↦ omega (arith, ap key same)
  | inr rest ↦ omega (arith, in_above key (key k + 1) j ks o.rises.1 rest)
]

pub order_behind : (test : ℕ → Bool) (key : ℕ → ℕ) (count low k : ℕ) (ks : List ℕ) → IsOrder test key count low (k ∷ ks)
    → IsOrder test key count (key k + 1) ks
order_behind test key count low k ks o = record {
  rises = o.rises.1;
  each = λ j there. o.each j (inr there);
  all = λ j below met more. elim (o.all j below met (omega (arith, o.rises.0, more))) [
    | inl same ↦ absurd (omega (arith, more, ap key same))
    | inr rest ↦ rest
  ];
}
