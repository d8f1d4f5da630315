-- Blocks and words that stay, and the chains that stay with them.
use Rattle.std.proofs.Common.{◌≡◌, ℕ, ◌+◌, ◌-◌, ◌<◌, ◌≤◌, ◌⊎◌, true, List, [], ◌∷◌, length, slice_index, take, drop, sym, ap, ◌∙◌, ⊎_elim, arith}
use Rattle.std.specs.Prelude.{◌==◌}
use Rattle.std.specs.Int.{w32, from_be_bytes}
use Rattle.std.proofs.lemmas.Bool.{and_from, eq-eqb}
use Rattle.std.proofs.lemmas.Grind.{same_number_lists}
use Rattle.std.proofs.lemmas.List.{drop-take, take-take, length-drop, length-take-le, get_or-take, get_or-drop}
use Rattle.db_blocks.specs.Blocks.{block_count, block_in, block_place, word_at}
use Rattle.db_chains.specs.declared.links.Links.{Links}
use Rattle.db_chains.specs.Chains.{HasChain}
use Rattle.db_chains.specs.Links.{AreLinks, block_of, is_right, mark_place, names_block, next_in, next_place}
use Rattle.db_chains.specs.Others.{NamesSame}
use Rattle.db_chains.proofs.Apart.{next_fits}
use Rattle.db_chains.proofs.Bytes.{StaysBut}
use Rattle.db_chains.proofs.Words.{in_block, names_from, right, right_names}

-- a block apart from what changed
pub block_stays : (head at len k : ℕ) (old new : List ℕ) → StaysBut at len old new → block_place head k + 192 ≤ length old
    → (block_place head k + 192 ≤ at) ⊎ (at + len ≤ block_place head k) → block_in head new k ≡ block_in head old k
unfolding block_in
block_stays head at len k old new stays within apart =
    let q = block_place head k in
    let long_old : length (take 192 (drop q old)) ≡ 192 = length-take-le 192 (drop q old) (omega (arith, length-drop q old)) in
    let long_new : length (take 192 (drop q new)) ≡ 192 =
    length-take-le 192 (drop q new) (omega (arith, length-drop q new, stays.longer)) in
    same_number_lists (take 192 (drop q new)) (take 192 (drop q old)) (long_new ∙ sym long_old)
    (λ i below.
    let short : i < 192 = omega (arith, below, long_new) in
    get_or-take 192 (drop q new) i 0 short ∙ get_or-drop q new i 0
    ∙ ⊎_elim (λ (first : q + 192 ≤ at). stays.before (q + i) (omega arith) (omega arith))
    (λ (behind : at + len ≤ q). stays.behind (q + i) (omega arith) (omega arith)) apart
    ∙ sym (get_or-take 192 (drop q old) i 0 short ∙ get_or-drop q old i 0))

-- a byte of a block apart from what changed
pub byte_stays : (head at len k i : ℕ) (old new : List ℕ) → StaysBut at len old new → block_place head k + 192 ≤ length old → i < 192
    → (block_place head k + i < at) ⊎ (at + len ≤ block_place head k + i)
    → slice_index (block_in head new k) i ≡ slice_index (block_in head old k) i
unfolding block_in
byte_stays head at len k i old new stays within below apart =
    let q = block_place head k in
    get_or-take 192 (drop q new) i 0 below ∙ get_or-drop q new i 0
    ∙ ⊎_elim (λ (first : q + i < at). stays.before (q + i) first (omega arith))
    (λ (behind : at + len ≤ q + i). stays.behind (q + i) behind (omega arith)) apart
    ∙ sym (get_or-take 192 (drop q old) i 0 below ∙ get_or-drop q old i 0)

-- a word of the head
in_head : (head : ℕ) (image : List ℕ) (p more : ℕ) → p + more ≡ head → 4 ≤ more → word_at (take head image) p ≡ word_at image p
in_head head image p more size long =
    ap (λ (n : ℕ). from_be_bytes w32 (take 4 (drop p (take n image)))) (sym size)
    ∙ ap (λ (b : List ℕ). from_be_bytes w32 (take 4 b)) (drop-take p more image)
    ∙ ap (from_be_bytes w32) (take-take 4 more (drop p image) long)

pub head_word : (head p : ℕ) (old new : List ℕ) → p + 4 ≤ head → take head new ≡ take head old → word_at new p ≡ word_at old p
head_word head p old new within same =
    sym (in_head head new p (head - p) (omega arith) (omega arith)) ∙ ap (λ (b : List ℕ). word_at b p) same
    ∙ in_head head old p (head - p) (omega arith) (omega arith)

-- a word of a block that is the same
pub block_word : (head k at : ℕ) (old new : List ℕ) → at + 4 ≤ 192 → block_in head new k ≡ block_in head old k
    → word_at new (block_place head k + at) ≡ word_at old (block_place head k + at)
block_word head k at old new fits same =
    sym (in_block head new k at (192 - at) (omega arith) (omega arith)) ∙ ap (λ (b : List ℕ). word_at b at) same
    ∙ in_block head old k at (192 - at) (omega arith) (omega arith)

pub block_mark : (head k : ℕ) (image : List ℕ) → word_at (block_in head image k) 0 ≡ word_at image (block_place head k)
block_mark head k image = in_block head image k 0 192 (omega arith) (omega arith) ∙ ap (word_at image) (omega arith)

right_named : (l : Links) (w : ℕ) (old new : List ℕ) → length old ≤ length new
    → block_in l.head new (block_of l w) ≡ block_in l.head old (block_of l w) → is_right l old w ≡ true → is_right l new w ≡ true
unfolding is_right
right_named l w old new longer same is =
    let n = right_names l old w is in
    let more : block_count l.head old ≤ block_count l.head new = omega (arith, longer) in
    and_from (names_block l (block_count l.head new) w) (word_at new (mark_place l w) == l.mark)
    (names_from l (block_count l.head new) w record { some = n.some; block = omega (arith, n.block); kind = n.kind })
    (eq-eqb (word_at new (mark_place l w)) l.mark
    (sym (block_mark l.head (block_of l w) new) ∙ ap (λ (b : List ℕ). word_at b 0) same ∙ block_mark l.head (block_of l w) old
    ∙ (right l old w is).mark))

-- a chain stays with its first word and the blocks that it names
pub named_stays : (l : Links) (at : ℕ) (old new : List ℕ) (ws : List ℕ) → AreLinks l → length old ≤ length new
    → word_at new at ≡ word_at old at → NamesSame l old new ws → HasChain l old at ws → HasChain l new at ws
named_stays l at old new [] links longer first same chain = first ∙ chain
named_stays l at old new (w ∷ ws) links longer first same chain =
    let n = right_names l old w chain.1 in (
      first ∙ chain.0,
      right_named l w old new longer same.0 chain.1,
      named_stays l (next_place l w) old new ws links longer
          (block_word l.head (block_of l w) (next_in l w) old new (next_fits l w links n.kind) same.0) same.1 chain.2,
    )
