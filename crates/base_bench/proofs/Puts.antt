-- Puts in a row, by their number.
use Rattle.std.proofs.Common.{◌≡◌, true, false, inl, inr, ℕ, zero, suc, ◌+◌, ◌*◌, ◌<◌, ◌≤◌, List, [], ◌∷◌, ◌++◌, length, get_or, take, refl, sym, ap, subst, ◌∙◌, arith, length-append}
use Rattle.std.proofs.lemmas.List.{get_or_append_left, take_all}
use Rattle.std.proofs.lemmas.Bool.{false≢true}
use Rattle.std.proofs.Math.Seq.{get_or-append_seam}
use Rattle.std.proofs.Math.Nat.{eq-or-lt_of_le}
use Rattle.std.specs.List.{All}
use Rattle.ubik_types.specs.declared.images.Change.{Change}
use Rattle.ubik_types.specs.declared.images.Change.TheVariants.{Put}
use Rattle.ubik_types.specs.declared.versions.Version.{Version}
use Rattle.ubik_log.specs.LogGrammar.{IsWithinImage, IsCommitted}
use Rattle.base_bench.specs.declared.log_text.TheConstants.{LAID, VERSION}
use Rattle.base_bench.specs.Puts.{put_at, puts}

-- one put more
puts-suc : (n : ℕ) → puts (suc n) ≡ puts n ++ put_at n ∷ []
unfolding puts
puts-suc n = refl

pub puts-more : (n : ℕ) → puts (n + 1) ≡ puts n ++ put_at n ∷ []
puts-more n = ap puts (omega arith) ∙ puts-suc n

pub puts-none : puts 0 ≡ []
unfolding puts
puts-none = refl

pub puts-length : (n : ℕ) → length (puts n) ≡ n
unfolding puts
puts-length zero = refl
puts-length (suc n) =
    length-append (puts n) (put_at n ∷ []) ∙ ap (λ (m : ℕ). m + 1) (puts-length n) ∙ omega arith

-- the put at a place is that of the position
pub puts-get : (n k : ℕ) (d : Change) → k < n → get_or (puts n) k d ≡ put_at k
unfolding puts
puts-get zero k d some = absurd (omega (arith, some))
puts-get (suc n) k d some =
    let le : k ≤ n = omega (arith, some) in
    elim (eq-or-lt_of_le le) [
      | inl is ↦
          ap (λ (m : ℕ). get_or (puts n ++ put_at n ∷ []) m d) (is ∙ sym (puts-length n))
          ∙ get_or-append_seam (puts n) (put_at n) [] d ∙ ap put_at (sym is)
      | inr lt ↦ get_or_append_left (puts n) (put_at n ∷ []) d k (subst (λ (m : ℕ). k < m) (sym (puts-length n)) lt) ∙ puts-get n k d lt
    ]

-- each put of a log of this length lies within the longest image
pub puts-within : (n : ℕ) → n ≤ 65535 * 16 → All IsWithinImage (puts n)
puts-within n few k d there =
    let some : k < n = subst (λ (m : ℕ). k < m) (puts-length n) there in
    subst IsWithinImage (sym (puts-get n k d some)) (omega (arith, few, some))

-- a put was pushed
pub put_pushed : (before after : List Change) (n : ℕ) (bytes : List ℕ) → before ≡ puts n → after ≡ before ++ Put n bytes ∷ [] → bytes ≡ LAID → after ≡ puts (n + 1)
put_pushed before after n bytes so_far is laid =
    is ∙ ap (λ (l : List Change). l ++ Put n bytes ∷ []) so_far ∙ ap (λ (b : List ℕ). puts n ++ Put n b ∷ []) laid
    ∙ sym (puts-more n)

-- what is as long as so many puts, and the same up to its end
pub same_taken : (changes : List Change) (count n : ℕ) → length changes ≡ count → count ≤ n → take n changes ≡ take n (puts count) → changes ≡ puts count
same_taken changes count n long all same =
    sym (take_all n changes (omega (arith, long, all))) ∙ same ∙ take_all n (puts count) (omega (arith, puts-length count, all))

pub never_true : {A : Type 0} → false ≡ true → A
never_true is = absurd (false≢true is)

-- a log of changes that are so many puts, and of the version
pub committed_puts : (log : List ℕ) (changes : List Change) (version : Version) (count : ℕ) → IsCommitted log changes version → version ≡ VERSION → changes ≡ puts count → IsCommitted log (puts count) VERSION
committed_puts log changes version count committed numbers so_many =
    subst (λ (v : Version). IsCommitted log (puts count) v) numbers
    (subst (λ (l : List Change). IsCommitted log l version) so_many committed)
