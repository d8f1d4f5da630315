-- The words that a walk passes are the front of its chain.
use Rattle.std.proofs.Common.{◌≡◌, ℕ, zero, suc, ◌<◌, Bool, true, false, ◌&&◌, not, cond, List, [], ◌∷◌, ◌++◌, Option, Some, None, refl, sym, ap, subst, ◌∙◌}
use Rattle.std.specs.Option.{option_map}
use Rattle.std.proofs.lemmas.Bool.{and_parts, not-true}
use Rattle.db_blocks.specs.Blocks.{block_in, word_at}
use Rattle.db_chains.specs.declared.links.Links.{Links}
use Rattle.db_chains.specs.declared.walks.Link.{Link}
use Rattle.db_chains.specs.Links.{block_of, is_right, next_place}
use Rattle.db_chains.specs.Chains.{HasChain}
use Rattle.db_chains.specs.Walks.{IsFound, first_met, meets, most_words, passed, place_behind, stop_place}
use Rattle.db_chains.proofs.Words.{right_some}

-- words that stand one behind the other from a place on, each of which may stand in a chain
abbrev pub IsPath : Links → List ℕ → (at : ℕ) → List ℕ → Type 0
IsPath l image at [] = Unit {0}
IsPath l image at (w ∷ ws) = (word_at image at ≡ w) × (is_right l image w ≡ true) × IsPath l image (next_place l w) ws

-- none of these words is what is looked for
abbrev pub Misses : Links → (ℕ → List ℕ → Bool) → List ℕ → List ℕ → Type 0
Misses l test image [] = Unit {0}
Misses l test image (w ∷ ws) = (meets l test image w ≡ false) × Misses l test image ws

path_step : (b : Bool) (l : Links) (image : List ℕ) (at w : ℕ) (ws : List ℕ) → (b ≡ true → is_right l image w ≡ true) → word_at image at ≡ w
    → IsPath l image (next_place l w) ws → IsPath l image at (cond b (w ∷ ws) [])
path_step true l image at w ws right is path = (is, right refl, path)
path_step false l image at w ws right is path = tt

pub passed_path : (l : Links) (test : ℕ → List ℕ → Bool) (image : List ℕ) (most at : ℕ) → IsPath l image at (passed l test image most at)
unfolding passed
passed_path l test image zero at = tt
passed_path l test image (suc most) at =
    let w = word_at image at in
    path_step (is_right l image w && not (meets l test image w)) l image at w (passed l test image most (next_place l w))
    (λ both. (and_parts (is_right l image w) (not (meets l test image w)) both).0) refl (passed_path l test image most (next_place l w))

miss_step : (b : Bool) (l : Links) (test : ℕ → List ℕ → Bool) (image : List ℕ) (w : ℕ) (ws : List ℕ)
    → (b ≡ true → meets l test image w ≡ false)
    → Misses l test image ws → Misses l test image (cond b (w ∷ ws) [])
miss_step true l test image w ws miss path = (miss refl, path)
miss_step false l test image w ws miss path = tt

pub passed_misses : (l : Links) (test : ℕ → List ℕ → Bool) (image : List ℕ) (most at : ℕ)
    → Misses l test image (passed l test image most at)
unfolding passed
passed_misses l test image zero at = tt
passed_misses l test image (suc most) at =
    let w = word_at image at in
    miss_step (is_right l image w && not (meets l test image w)) l test image w (passed l test image most (next_place l w))
    (λ both. not-true (meets l test image w) (and_parts (is_right l image w) (not (meets l test image w)) both).1)
    (passed_misses l test image most (next_place l w))

pub path_front : (l : Links) (image : List ℕ) (at : ℕ) (ws more : List ℕ) → IsPath l image at (ws ++ more) → IsPath l image at ws
path_front l image at [] more path = tt
path_front l image at (w ∷ ws) more path = (path.0, path.1, path_front l image (next_place l w) ws more path.2)

-- a chain goes on behind a path
pub record Goes (l : Links) (image : List ℕ) (at : ℕ) (ws cs : List ℕ) : Type 0 where
  pub rest : List ℕ
  pub split : cs ≡ ws ++ rest
  pub chain : HasChain l image (place_behind l at ws) rest

pub path_chain : (l : Links) (image : List ℕ) (at : ℕ) (ws cs : List ℕ) → 0 < l.step → IsPath l image at ws → HasChain l image at cs
    → Goes l image at ws cs
path_chain l image at [] cs step path chain = record { rest = cs; split = refl; chain = chain }
path_chain l image at (w ∷ ws) [] step path chain = absurd (right_some l image w step path.1 (sym path.0 ∙ chain))
path_chain l image at (w ∷ ws) (c ∷ cs) step path chain =
    let same : c ≡ w = sym chain.0 ∙ path.0 in
    let goes : Goes l image (next_place l w) ws cs =
    path_chain l image (next_place l w) ws cs step path.2 (subst (λ (n : ℕ). HasChain l image (next_place l n) cs) same chain.2) in
    record { rest = goes.rest; split = ap (λ (n : ℕ). n ∷ cs) same ∙ ap (λ (l : List ℕ). w ∷ l) goes.split; chain = goes.chain }

-- ---- what is found

met_behind : (l : Links) (test : ℕ → List ℕ → Bool) (image : List ℕ) (ws rest : List ℕ) → Misses l test image ws
    → first_met (meets l test image) (ws ++ rest) ≡ first_met (meets l test image) rest
met_behind l test image [] rest misses = refl
met_behind l test image (w ∷ ws) rest misses = rw misses.0 (met_behind l test image ws rest misses.1)

found_rest : (l : Links) (test : ℕ → List ℕ → Bool) (image : List ℕ) (at : ℕ) (rest : List ℕ) (link : Option Link) → 0 < l.step
    → HasChain l image at rest → IsFound l test image at link → option_map (λ f. f.word) link ≡ first_met (meets l test image) rest
found_rest l test image at [] None step chain found = refl
found_rest l test image at [] (Some f) step chain found =
    absurd (right_some l image f.word step found.0.right (found.0.word ∙ chain))
found_rest l test image at (w ∷ rest) None step chain found =
    absurd (right_some l image w step chain.1 (sym chain.0 ∙ found))
found_rest l test image at (w ∷ rest) (Some f) step chain found =
    let same : f.word ≡ w = found.0.word ∙ chain.0 in
    let met : meets l test image w ≡ true =
    ap (λ (n : ℕ). test n (block_in l.head image (block_of l n))) (sym same) ∙ ap (test f.word) (sym found.0.block) ∙ found.1 in
    rw met (ap Some same)

pub found_first : (l : Links) (test : ℕ → List ℕ → Bool) (image : List ℕ) (at : ℕ) (cs : List ℕ) (link : Option Link) → 0 < l.step
    → HasChain l image at cs → IsFound l test image (stop_place l test image at) link
    → option_map (λ f. f.word) link ≡ first_met (meets l test image) cs
unfolding stop_place
found_first l test image at cs link step chain found =
    let ws = passed l test image (most_words l image) at in
    let goes = path_chain l image at ws cs step (passed_path l test image (most_words l image) at) chain in
    found_rest l test image (place_behind l at ws) goes.rest link step goes.chain found
    ∙ sym (met_behind l test image ws goes.rest (passed_misses l test image (most_words l image) at))
    ∙ ap (first_met (meets l test image)) (sym goes.split)
