-- Where a walk along a chain stops.
use Rattle.std.proofs.Common.{◌≡◌, ◌≢◌, ℕ, zero, suc, ◌<◌, ◌≤◌, Bool, true, false, not, List, [], ◌∷◌, ◌++◌, length, refl, sym, ap, subst, ◌∙◌, ⊎_elim, arith}
use Rattle.std.specs.List.{AllByRecursion}
use Rattle.std.proofs.lemmas.Bool.{and_left, and_right, cases_Bool, le-ltb, lt-ltb, ne_eqb, eq-eqb}
use Rattle.std.proofs.lemmas.List.{append-nil, length-append}
use Rattle.db_blocks.specs.Blocks.{word_at}
use Rattle.db_chains.specs.declared.changes.Until.TheVariants.{End, Word, Above}
use Rattle.db_chains.specs.declared.links.Links.{Links}
use Rattle.db_chains.specs.Chains.{HasChain}
use Rattle.db_chains.specs.Changes.{is_until}
use Rattle.db_chains.specs.Links.{is_right, next_place}
use Rattle.db_chains.specs.Walks.{meets, most_words, passed, place_behind, stop_place}
use Rattle.db_chains.proofs.Counted.{chain_short}
use Rattle.db_chains.proofs.Paths.{Misses}
use Rattle.db_chains.proofs.Walked.{passes, stops}
use Rattle.db_chains.proofs.Words.{right_some}

-- these words are none, or the first is what is looked for
abbrev pub IsMetAt : Links → (ℕ → List ℕ → Bool) → List ℕ → List ℕ → Type 0
IsMetAt l test image [] = Unit {0}
IsMetAt l test image (w ∷ ws) = meets l test image w ≡ true

pub zero_wrong : (l : Links) (image : List ℕ) (w : ℕ) → 0 < l.step → w ≡ 0 → is_right l image w ≡ false
zero_wrong l image w step none =
    ⊎_elim (λ (is : is_right l image w ≡ true). absurd (right_some l image w step is none)) (λ (not : is_right l image w ≡ false). not)
    (cases_Bool (is_right l image w))

chain_passed : (l : Links) (test : ℕ → List ℕ → Bool) (image : List ℕ) (most at : ℕ) (front back : List ℕ) → 0 < l.step
    → HasChain l image at (front ++ back) → Misses l test image front → IsMetAt l test image back → length front ≤ most
    → passed l test image most at ≡ front
chain_passed l test image most at [] [] step chain misses met few =
    stops l test image most at (word_at image at) refl
    (and_left (is_right l image (word_at image at)) (not (meets l test image (word_at image at))) (zero_wrong l image
    (word_at image at) step chain))
chain_passed l test image most at [] (b ∷ back) step chain misses met few =
    stops l test image most at b (sym chain.0) (and_right (is_right l image b) (not (meets l test image b)) (ap not met))
chain_passed l test image zero at (f ∷ front) back step chain misses met few = absurd (omega arith)
chain_passed l test image (suc most) at (f ∷ front) back step chain misses met few =
    passes l test image most at f (sym chain.0) chain.1 misses.0
    ∙ ap (λ (ws : List ℕ). f ∷ ws) (chain_passed l test image most (next_place l f) front back step chain.2 misses.1 met (omega arith))

pub stop_behind : (l : Links) (test : ℕ → List ℕ → Bool) (image : List ℕ) (at : ℕ) (front back : List ℕ) → 0 < l.step
    → HasChain l image at (front ++ back) → Misses l test image front → IsMetAt l test image back
    → stop_place l test image at ≡ place_behind l at front
unfolding stop_place
stop_behind l test image at front back step chain misses met =
    ap (place_behind l at)
    (chain_passed l test image (most_words l image) at front back step chain misses met
    (omega (arith, chain_short l image at (front ++ back) step chain, length-append front back)))

-- ---- to the end, to a word, to the first above

misses_end : (l : Links) (image : List ℕ) (ws : List ℕ) → Misses l (is_until End) image ws
misses_end l image [] = tt
misses_end l image (w ∷ ws) = (refl, misses_end l image ws)

pub end_behind : (l : Links) (image : List ℕ) (at : ℕ) (ws : List ℕ) → 0 < l.step → HasChain l image at ws
    → stop_place l (is_until End) image at ≡ place_behind l at ws
end_behind l image at ws step chain =
    stop_behind l (is_until End) image at ws [] step (subst (HasChain l image at) (sym (append-nil ws)) chain) (misses_end l image ws) tt

misses_word : (l : Links) (image : List ℕ) (w : ℕ) (ws : List ℕ) → AllByRecursion (λ v. v ≢ w) ws → Misses l (is_until (Word w)) image ws
misses_word l image w [] others = tt
misses_word l image w (v ∷ ws) others = (ne_eqb v w others.0, misses_word l image w ws others.1)

pub word_behind : (l : Links) (image : List ℕ) (at w : ℕ) (front back : List ℕ) → 0 < l.step → HasChain l image at (front ++ w ∷ back)
    → AllByRecursion (λ v. v ≢ w) front → stop_place l (is_until (Word w)) image at ≡ place_behind l at front
word_behind l image at w front back step chain others =
    stop_behind l (is_until (Word w)) image at front (w ∷ back) step chain (misses_word l image w front others) (eq-eqb w w refl)

misses_below : (l : Links) (image : List ℕ) (w : ℕ) (ws : List ℕ) → AllByRecursion (λ v. v < w) ws → Misses l (is_until (Above w)) image ws
misses_below l image w [] below = tt
misses_below l image w (v ∷ ws) below = (le-ltb w v (omega (arith, below.0)), misses_below l image w ws below.1)

met_above : (l : Links) (image : List ℕ) (w : ℕ) (ws : List ℕ) → AllByRecursion (λ v. w < v) ws → IsMetAt l (is_until (Above w)) image ws
met_above l image w [] above = tt
met_above l image w (v ∷ ws) above = lt-ltb w v above.0

pub above_behind : (l : Links) (image : List ℕ) (at w : ℕ) (front back : List ℕ) → 0 < l.step → HasChain l image at (front ++ back)
    → AllByRecursion (λ v. v < w) front → AllByRecursion (λ v. w < v) back
    → stop_place l (is_until (Above w)) image at ≡ place_behind l at front
above_behind l image at w front back step chain below above =
    stop_behind l (is_until (Above w)) image at front back step chain (misses_below l image w front below) (met_above l image w back above)
