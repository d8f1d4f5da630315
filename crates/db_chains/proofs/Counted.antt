-- A chain has no word twice, and no more words than there are.
use Rattle.std.proofs.Common.{◌≡◌, ◌≢◌, ℕ, zero, suc, ◌+◌, ◌*◌, ◌/◌, ◌%◌, ◌<◌, ◌≤◌, true, false, eqb, List, [], ◌∷◌, length, drop, get_or, map, refl, sym, ap, subst, ◌∙◌, ⊎_elim, arith}
use Rattle.std.specs.List.{AllByRecursion, IsDistinct, list_any}
use Rattle.std.proofs.lemmas.Bool.{eqb-true, false≢true, ne_eqb, or_cases}
use Rattle.std.proofs.lemmas.List.{length-drop, length-map}
use Rattle.std.proofs.lemmas.Map.Steps.{length-le_from_distinct_below}
use Rattle.std.proofs.lemmas.Nat.{mul-add-lt, same_from_place}
use Rattle.db_blocks.specs.Blocks.{block_count}
use Rattle.db_chains.specs.declared.links.Links.{Links}
use Rattle.db_chains.specs.Links.{block_of, is_right, kind_of, next_place}
use Rattle.db_chains.specs.Chains.{HasChain}
use Rattle.db_chains.specs.Walks.{most_words}
use Rattle.db_chains.proofs.Words.{right_names, right_some, word_from}

-- from a place on there is one chain at most
pub chain_unique : (l : Links) (image : List ℕ) (at : ℕ) (ws vs : List ℕ) → 0 < l.step → HasChain l image at ws → HasChain l image at vs
    → ws ≡ vs
chain_unique l image at [] [] step one two = refl
chain_unique l image at [] (b ∷ vs) step one two = absurd (right_some l image b step two.1 (sym two.0 ∙ one))
chain_unique l image at (a ∷ ws) [] step one two = absurd (right_some l image a step one.1 (sym one.0 ∙ two))
chain_unique l image at (a ∷ ws) (b ∷ vs) step one two =
    let same : b ≡ a = sym two.0 ∙ one.0 in
    let rest : ws ≡ vs =
    chain_unique l image (next_place l a) ws vs step one.2 (subst (λ (n : ℕ). HasChain l image (next_place l n) vs) same two.2) in
    ap (λ (n : ℕ). n ∷ ws) (sym same) ∙ ap (λ (t : List ℕ). b ∷ t) rest

-- the chain behind one of its words
chain_behind : (l : Links) (image : List ℕ) (at : ℕ) (ws : List ℕ) (i : ℕ) → i < length ws → HasChain l image at ws
    → HasChain l image (next_place l (get_or ws i 0)) (drop (suc i) ws)
chain_behind l image at [] i below chain = absurd (omega arith)
chain_behind l image at (w ∷ ws) zero below chain = chain.2
chain_behind l image at (w ∷ ws) (suc i) below chain = chain_behind l image (next_place l w) ws i (omega arith) chain.2

-- a word does not stand again behind itself
not_again : (l : Links) (image : List ℕ) (at w : ℕ) (ws : List ℕ) (i : ℕ) → 0 < l.step → HasChain l image at (w ∷ ws) → i < length ws
    → get_or ws i 0 ≢ w
not_again l image at w ws i step chain below = λ same.
    let again : HasChain l image (next_place l w) (drop (suc i) ws) =
    subst (λ (n : ℕ). HasChain l image (next_place l n) (drop (suc i) ws)) same (chain_behind l image (next_place l w) ws i below chain.2)
    in
    let one : ws ≡ drop (suc i) ws = chain_unique l image (next_place l w) ws (drop (suc i) ws) step chain.2 again in
    omega (arith, ap length one, length-drop (suc i) ws)

all_at : (P : ℕ → Type 0) (ws : List ℕ) → ((i : ℕ) → i < length ws → P (get_or ws i 0)) → AllByRecursion P ws
all_at P [] each = tt
all_at P (w ∷ ws) each = (each 0 (omega arith), all_at P ws (λ i below. each (suc i) (omega arith)))

-- the words behind one are others
pub others_behind : (l : Links) (image : List ℕ) (at w : ℕ) (ws : List ℕ) → 0 < l.step → HasChain l image at (w ∷ ws)
    → AllByRecursion (λ v. v ≢ w) ws
others_behind l image at w ws step chain = all_at (λ v. v ≢ w) ws (λ i below. not_again l image at w ws i step chain below)

-- ---- words as numbers below how many there are

rank : Links → ℕ → ℕ
rank l w = block_of l w * l.kinds + kind_of l w

rank_below : (l : Links) (image : List ℕ) (w : ℕ) → is_right l image w ≡ true → rank l w < most_words l image
unfolding rank
rank_below l image w is =
    let n = right_names l image w is in
    omega (arith, mul-add-lt (block_of l w) l.kinds (kind_of l w) (block_count l.head image) (omega (arith, n.some, n.block)) n.kind)

rank_tells : (l : Links) (image : List ℕ) (v w : ℕ) → 0 < l.step → is_right l image v ≡ true → is_right l image w ≡ true
    → rank l v ≡ rank l w
    → v ≡ w
unfolding rank
rank_tells l image v w step right_v right_w same =
    let a = right_names l image v right_v in
    let b = right_names l image w right_w in
    let parts = same_from_place (block_of l v) (kind_of l v) (block_of l w) (kind_of l w) l.kinds a.kind b.kind same in
    let block : v / l.step ≡ w / l.step = omega (arith, parts.0, a.some, b.some) in
    sym (word_from l v step) ∙ ap (λ (n : ℕ). l.step * n + v % l.step) block ∙ ap (λ (n : ℕ). l.step * (w / l.step) + n) parts.1
    ∙ word_from l w step

ranks_apart : (l : Links) (image : List ℕ) (at w : ℕ) (ws : List ℕ) → 0 < l.step → is_right l image w ≡ true → HasChain l image at ws
    → AllByRecursion (λ v. v ≢ w) ws → AllByRecursion (λ n. eqb (rank l w) n ≡ false) (map (rank l) ws)
ranks_apart l image at w [] step right chain others = tt
ranks_apart l image at w (v ∷ ws) step right chain others = (
  ne_eqb (rank l w) (rank l v) (λ same. others.0 (sym (rank_tells l image w v step right chain.1 same))),
  ranks_apart l image (next_place l v) w ws step right chain.2 others.1,
)

ranks_distinct : (l : Links) (image : List ℕ) (at : ℕ) (ws : List ℕ) → 0 < l.step → HasChain l image at ws
    → IsDistinct eqb (map (rank l) ws)
unfolding IsDistinct
ranks_distinct l image at [] step chain = tt
ranks_distinct l image at (w ∷ ws) step chain = (
  ranks_apart l image (next_place l w) w ws step chain.1 chain.2 (others_behind l image at w ws step chain),
  ranks_distinct l image (next_place l w) ws step chain.2,
)

ranks_below : (l : Links) (image : List ℕ) (at : ℕ) (ws : List ℕ) (q : ℕ) → HasChain l image at ws
    → list_any (eqb q) (map (rank l) ws) ≡ true
    → q < most_words l image
ranks_below l image at [] q chain has = absurd (false≢true has)
ranks_below l image at (w ∷ ws) q chain has =
    ⊎_elim
    (λ (here : eqb q (rank l w) ≡ true). let same : q ≡ rank l w = eqb-true q (rank l w) here in subst (λ (n : ℕ). n < most_words l image)
    (sym same) (rank_below l image w chain.1))
    (λ (later : list_any (eqb q) (map (rank l) ws) ≡ true). ranks_below l image (next_place l w) ws q chain.2 later)
    (or_cases (eqb q (rank l w)) (list_any (eqb q) (map (rank l) ws)) has)

pub chain_short : (l : Links) (image : List ℕ) (at : ℕ) (ws : List ℕ) → 0 < l.step → HasChain l image at ws → length ws ≤ most_words l image
chain_short l image at ws step chain =
    subst (λ (n : ℕ). n ≤ most_words l image) (length-map ws (rank l))
    (length-le_from_distinct_below (map (rank l) ws) (most_words l image) (ranks_distinct l image at ws step chain)
    (λ q has. ranks_below l image at ws q chain has))
