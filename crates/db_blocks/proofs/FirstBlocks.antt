-- The first number at which a test holds.
use Rattle.std.proofs.Common.{◌≡◌, ℕ, zero, suc, ◌+◌, ◌<◌, ◌≤◌, Bool, true, false, cond, refl, ⊎_elim, arith}
use Rattle.std.proofs.lemmas.Bool.{cases_eq}
use Rattle.db_blocks.specs.Blocks.{first_from}

pub within_step : (b : Bool) (a n f : ℕ) → f ≤ suc a + n → cond b a f ≤ a + suc n
within_step true a n f h = omega arith
within_step false a n f h = omega arith

pub first_within : (test : ℕ → Bool) (a n : ℕ) → first_from test a n ≤ a + n
first_within test a zero = omega arith
first_within test a (suc n) = within_step (test a) a n (first_from test (suc a) n) (first_within test (suc a) n)

-- before it the test does not hold
pub not_step : (b : Bool) (a j f : ℕ) (P : Type 0) → j < cond b a f → a ≤ j → (j ≡ a → b ≡ false → P) → (suc a ≤ j → j < f → P) → P
not_step true a j f P below from here later = absurd (omega arith)
not_step false a j f P below from here later =
    ⊎_elim (λ (same : j ≡ a). here same refl) (λ (other : j ≡ a → ⊥). later (omega arith) below) (cases_eq j a)

pub first_not : (test : ℕ → Bool) (a n j : ℕ) → a ≤ j → j < first_from test a n → test j ≡ false
first_not test a zero j from below = absurd (omega arith)
first_not test a (suc n) j from below =
    not_step (test a) a j (first_from test (suc a) n) (test j ≡ false) below from
    (λ same no. rw same no)
    (λ later less. first_not test (suc a) n j later less)

-- and at it the test holds
pub met_step : (b : Bool) (test : ℕ → Bool) (a n f : ℕ) → test a ≡ b → cond b a f < a + suc n → (f < suc a + n → test f ≡ true)
    → test (cond b a f) ≡ true
met_step true test a n f here below later = here
met_step false test a n f here below later = later (omega arith)

pub first_met : (test : ℕ → Bool) (a n : ℕ) → first_from test a n < a + n → test (first_from test a n) ≡ true
first_met test a zero below = absurd (omega arith)
first_met test a (suc n) below = met_step (test a) test a n (first_from test (suc a) n) refl below (first_met test (suc a) n)

-- so a scan finds it
pub at_step : (b : Bool) (a f k : ℕ) → (a ≡ k → b ≡ true) → (a < k → b ≡ false) → a ≤ k → (suc a ≤ k → f ≡ k) → cond b a f ≡ k
at_step true a f k here before from later =
    ⊎_elim (λ (same : a ≡ k). same) (λ (other : a ≡ k → ⊥). let no = before (omega arith) in absurd cc) (cases_eq a k)
at_step false a f k here before from later =
    ⊎_elim (λ (same : a ≡ k). let yes = here same in absurd cc) (λ (other : a ≡ k → ⊥). later (omega arith)) (cases_eq a k)

pub first_at : (test : ℕ → Bool) (a n k : ℕ) → a ≤ k → k < a + n → ((j : ℕ) → a ≤ j → j < k → test j ≡ false) → test k ≡ true
    → first_from test a n ≡ k
first_at test a zero k from below before here = absurd (omega arith)
first_at test a (suc n) k from below before here =
    at_step (test a) a (first_from test (suc a) n) k (λ same. rw same here) (λ less. before a (omega arith) less) from
    (λ later. first_at test (suc a) n k later (omega arith) (λ j h less. before j (omega arith) less) here)

pub none_step : (b : Bool) (a n f : ℕ) → b ≡ false → f ≡ suc a + n → cond b a f ≡ a + suc n
none_step true a n f fails later = absurd cc
none_step false a n f fails later = omega arith

pub first_none : (test : ℕ → Bool) (a n : ℕ) → ((j : ℕ) → a ≤ j → j < a + n → test j ≡ false) → first_from test a n ≡ a + n
first_none test a zero before = omega arith
first_none test a (suc n) before =
    none_step (test a) a n (first_from test (suc a) n) (before a (omega arith) (omega arith))
    (first_none test (suc a) n (λ j from less. before j (omega arith) (omega arith)))
