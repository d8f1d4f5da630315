-- Words among those of a list.
use Rattle.std.proofs.Common.{◌≡◌, ℕ, zero, suc, ◌<◌, ◌⊎◌, inl, inr, List, [], ◌∷◌, ◌++◌, length, get_or, refl, sym, arith}
use Rattle.std.specs.List.{AllByRecursion, Contains}
use Rattle.db_chains.proofs.Leaving.{here, later, all_at}

first_at : (n w : ℕ) (ws : List ℕ) (i : ℕ) → i < length (n ∷ ws) → get_or (n ∷ ws) i w ≡ w → Contains ws w ⊎ (w ≡ n)
first_at n w ws zero below at = inr (sym at)
first_at n w ws (suc i) below at = inl (i, omega arith, at)

pub first_or_rest : (n w : ℕ) (ws : List ℕ) → Contains (n ∷ ws) w → Contains ws w ⊎ (w ≡ n)
first_or_rest n w ws has = first_at n w ws has.0 has.1 has.2

pub each_of : (P : ℕ → Type 0) (ws : List ℕ) (w : ℕ) → AllByRecursion P ws → Contains ws w → P w
each_of P ws w all has = all_at P ws w has.0 all has.1 has.2

-- ---- a list about a word of it

pub among_this : (n : ℕ) (front back : List ℕ) → Contains (front ++ n ∷ back) n
among_this n [] back = here n n back refl
among_this n (f ∷ front) back = later f n (front ++ n ∷ back) (among_this n front back)
