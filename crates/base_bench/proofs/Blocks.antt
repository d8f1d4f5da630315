-- Blocks in a row, by their number.
use Rattle.std.proofs.Common.{◌≡◌, inl, inr, ℕ, zero, suc, ◌+◌, ◌*◌, ◌<◌, ◌≤◌, List, [], ◌∷◌, ◌++◌, length, get_or, refl, sym, ap, subst, ◌∙◌, arith, length-append}
use Rattle.std.proofs.lemmas.List.{get_or_append_left}
use Rattle.std.proofs.Math.Seq.{get_or-append_seam}
use Rattle.std.proofs.Math.Nat.{eq-or-lt_of_le}
use Rattle.std.specs.List.{All}
use Rattle.ubik_types.specs.declared.images.Change.{Change}
use Rattle.ubik_types.specs.declared.images.Change.TheVariants.{Put}
use Rattle.ubik_log.specs.LogGrammar.{IsWithinImage}
use Rattle.base_bench.specs.declared.store_commits.TheConstants.{LAID}
use Rattle.base_bench.specs.Blocks.{block_at, blocks}

-- one block more
blocks-suc : (n : ℕ) → blocks (suc n) ≡ blocks n ++ block_at n ∷ []
unfolding blocks
blocks-suc n = refl

blocks-more : (n : ℕ) → blocks (n + 1) ≡ blocks n ++ block_at n ∷ []
blocks-more n = ap blocks (omega arith) ∙ blocks-suc n

pub blocks-none : blocks 0 ≡ []
unfolding blocks
blocks-none = refl

blocks-length : (n : ℕ) → length (blocks n) ≡ n
unfolding blocks
blocks-length zero = refl
blocks-length (suc n) = length-append (blocks n) (block_at n ∷ []) ∙ ap (λ (m : ℕ). m + 1) (blocks-length n) ∙ omega arith

-- the block at a place is that of the place
blocks-get : (n k : ℕ) (d : Change) → k < n → get_or (blocks n) k d ≡ block_at k
unfolding blocks
blocks-get zero k d some = absurd (omega (arith, some))
blocks-get (suc n) k d some =
    let le : k ≤ n = omega (arith, some) in
    elim (eq-or-lt_of_le le) [
      | inl is ↦
          ap (λ (m : ℕ). get_or (blocks n ++ block_at n ∷ []) m d) (is ∙ sym (blocks-length n))
          ∙ get_or-append_seam (blocks n) (block_at n) [] d ∙ ap block_at (sym is)
      | inr lt ↦ get_or_append_left (blocks n) (block_at n ∷ []) d k (subst (λ (m : ℕ). k < m) (sym (blocks-length n)) lt) ∙ blocks-get n k d lt
    ]

-- each block of a log of this length lies within the longest image
pub blocks-within : (n : ℕ) → n * 192 ≤ 1048576 → All IsWithinImage (blocks n)
blocks-within n few k d there =
    let some : k < n = subst (λ (m : ℕ). k < m) (blocks-length n) there in
    subst IsWithinImage (sym (blocks-get n k d some)) (omega (arith, few, some))

-- a block was pushed
pub block_pushed : (before after : List Change) (n at : ℕ) (bytes : List ℕ) → before ≡ blocks n → after ≡ before ++ Put at bytes ∷ [] → at ≡ n * 192 → bytes ≡ LAID → after ≡ blocks (n + 1)
block_pushed before after n at bytes so_far is there laid =
    is ∙ ap (λ (l : List Change). l ++ Put at bytes ∷ []) so_far ∙ ap (λ (k : ℕ). blocks n ++ Put k bytes ∷ []) there
    ∙ ap (λ (b : List ℕ). blocks n ++ Put (n * 192) b ∷ []) laid ∙ sym (blocks-more n)
