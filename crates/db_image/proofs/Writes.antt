-- The bytes of a buffer after a write to a part of it.
use Rattle.std.proofs.Common.{◌≡◌, ℕ, ◌+◌, ◌-◌, ◌<◌, ◌≤◌, List, length, slice_index, take, drop, subst, sym, ap, ◌∙◌, ⊎_elim, arith}
use Rattle.std.proofs.lemmas.Bool.{cases_lt}
use Rattle.std.proofs.lemmas.List.{places}
use borrow.Rule.Slice.PartMut.{put_mid}

pub written_before : (a k : ℕ) (xs ys : List ℕ) (i : ℕ) → i < a → a + k ≤ length xs → length ys ≡ k
    → slice_index (put_mid a k xs ys) i ≡ slice_index xs i
written_before a k xs ys i before within len = grind (arith, places)

pub written_in : (a k : ℕ) (xs ys : List ℕ) (i : ℕ) → a ≤ i → i < a + k → a + k ≤ length xs → length ys ≡ k
    → slice_index (put_mid a k xs ys) i ≡ slice_index ys (i - a)
written_in a k xs ys i from below within len = grind (arith, places)

pub written_after : (a k : ℕ) (xs ys : List ℕ) (i : ℕ) → a + k ≤ i → a + k ≤ length xs → length ys ≡ k
    → slice_index (put_mid a k xs ys) i ≡ slice_index xs i
written_after a k xs ys i after within len = grind (arith, places)

pub written_len : (a k : ℕ) (xs ys : List ℕ) → a + k ≤ length xs → length ys ≡ k → length (put_mid a k xs ys) ≡ length xs
written_len a k xs ys within len = grind (arith, places)

-- a byte of a part
pub read_in : (a k : ℕ) (xs : List ℕ) (i : ℕ) → i < k → slice_index (take k (drop a xs)) i ≡ slice_index xs (a + i)
read_in a k xs i below = grind (arith, places)

-- A loop that writes part after part: each byte before a place is f of its index and of what stood there, and each byte behind it
-- is as it stood. So it is one part further on.
pub record Written (f : ℕ → ℕ → ℕ) (first now : List ℕ) (done : ℕ) : Type 0 where
  pub before : (i : ℕ) → i < done → slice_index now i ≡ f i (slice_index first i)
  pub behind : (i : ℕ) → done ≤ i → i < length now → slice_index now i ≡ slice_index first i

written_at : (f : ℕ → ℕ → ℕ) (a k : ℕ) (first now part : List ℕ) → Written f first now a → a + k ≤ length now → length part ≡ k
    → ((i : ℕ) → i < k → slice_index part i ≡ f (a + i) (slice_index first (a + i)))
    → (i : ℕ) → i < a + k → slice_index (put_mid a k now part) i ≡ f i (slice_index first i)
written_at f a k first now part w within len is i below =
    ⊎_elim
    (λ (before : i < a). written_before a k now part i before within len ∙ w.before i before)
    (λ (from : a ≤ i).
    let e : a + (i - a) ≡ i = omega arith in
    written_in a k now part i from below within len ∙ is (i - a) (omega arith) ∙ ap (λ (n : ℕ). f n (slice_index first n)) e)
    (cases_lt i a)

pub written_more : (f : ℕ → ℕ → ℕ) (a k n : ℕ) (first now part : List ℕ) → Written f first now a → a + k ≤ length now → length part ≡ k
    → n ≡ k
    → ((i : ℕ) → i < k → slice_index part i ≡ f (a + i) (slice_index first (a + i)))
    → Written f first (put_mid a n now part) (a + k)
written_more f a k n first now part w within len same is =
    subst (λ (m : ℕ). Written f first (put_mid a m now part) (a + k)) (sym same) record {
      before = written_at f a k first now part w within len is;
      behind = λ i from below.
          written_after a k now part i from within len
          ∙ w.behind i (omega arith) (omega (arith, below, written_len a k now part within len));
    }
