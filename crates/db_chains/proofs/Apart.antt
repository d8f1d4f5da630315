-- The words of a chain lie apart from one another, and from the marks of their blocks.
use Rattle.std.proofs.Common.{◌≡◌, ◌≢◌, ℕ, ◌+◌, ◌*◌, ◌/◌, ◌%◌, ◌<◌, ◌≤◌, ◌⊎◌, inl, inr, true, List, sym, ap, ◌∙◌, ⊎_elim, arith}
use Rattle.std.specs.List.{AllByRecursion}
use Rattle.std.proofs.lemmas.Bool.{cases_order}
use Rattle.db_blocks.specs.Blocks.{block_place}
use Rattle.db_chains.specs.declared.links.Links.{Links}
use Rattle.db_chains.specs.Changes.{IsHeadPlace}
use Rattle.db_chains.specs.Links.{AreLinks, block_of, is_right, kind_of, mark_place, next_in, next_place}
use Rattle.db_chains.proofs.Bytes.{IsApart}
use Rattle.db_chains.proofs.Words.{right_names, word_from}

-- two offsets in blocks, which lie apart where the blocks are one
pub blocks_apart : (head a b x y : ℕ) → x + 4 ≤ 192 → y + 4 ≤ 192 → (a ≡ b → (x + 4 ≤ y) ⊎ (y + 4 ≤ x))
    → IsApart (head + 192 * a + x) 4 (head + 192 * b + y)
blocks_apart head a b x y in_x in_y same =
    ⊎_elim
    (λ (one : a ≡ b).
    ⊎_elim (λ (before : x + 4 ≤ y). inr (omega arith)) (λ (behind : y + 4 ≤ x). inl (omega arith)) (same one))
    (λ (order : (a < b) ⊎ (b < a)).
    ⊎_elim (λ (less : a < b). inr (omega arith)) (λ (more : b < a). inl (omega arith)) order)
    (cases_order a b)

pub next_fits : (l : Links) (w : ℕ) → AreLinks l → kind_of l w < l.kinds → next_in l w + 4 ≤ 192
next_fits l w links kind = omega (arith, links.within)

kinds_apart : (next j k : ℕ) → (j < k) ⊎ (k < j) → (next + 4 * j + 4 ≤ next + 4 * k) ⊎ (next + 4 * k + 4 ≤ next + 4 * j)
kinds_apart next j k order = ⊎_elim (λ (less : j < k). inl (omega arith)) (λ (more : k < j). inr (omega arith)) order

-- the next words of two words
pub nexts_apart : (l : Links) (image : List ℕ) (v w : ℕ) → AreLinks l → is_right l image v ≡ true → is_right l image w ≡ true → v ≢ w
    → IsApart (next_place l w) 4 (next_place l v)
nexts_apart l image v w links right_v right_w other =
    let a = right_names l image v right_v in
    let b = right_names l image w right_w in
    blocks_apart l.head (block_of l w) (block_of l v) (next_in l w) (next_in l v) (next_fits l w links b.kind) (next_fits l v links a.kind)
    (λ one. ⊎_elim
    (λ (kind : kind_of l w ≡ kind_of l v).
    let block : v / l.step ≡ w / l.step = omega (arith, a.some, b.some) in
    absurd (other (sym (word_from l v links.step) ∙ ap (λ (n : ℕ). l.step * n + v % l.step) block
    ∙ ap (λ (n : ℕ). l.step * (w / l.step) + n) (sym kind) ∙ word_from l w links.step)))
    (λ (order : (kind_of l w < kind_of l v) ⊎ (kind_of l v < kind_of l w)). kinds_apart l.next (kind_of l w) (kind_of l v) order)
    (cases_order (kind_of l w) (kind_of l v)))

-- a next word, and the mark of a block
pub mark_apart : (l : Links) (image : List ℕ) (v w : ℕ) → AreLinks l → is_right l image w ≡ true
    → IsApart (next_place l w) 4 (mark_place l v)
mark_apart l image v w links right_w =
    let b = right_names l image w right_w in
    ⊎_elim (λ (before : mark_place l v + 0 + 4 ≤ next_place l w). inl (omega arith))
    (λ (behind : next_place l w + 4 ≤ mark_place l v + 0). inr (omega arith))
    (blocks_apart l.head (block_of l w) (block_of l v) (next_in l w) 0 (next_fits l w links b.kind) (omega arith)
    (λ one. inr (omega (arith, links.mark))))

-- a word apart from all that a chain's words tell: their next words, and the marks of their blocks
abbrev pub IsApartFrom : Links → (at : ℕ) → List ℕ → Type 0
IsApartFrom l at ws = AllByRecursion (λ v. IsApart at 4 (next_place l v) × IsApart at 4 (mark_place l v)) ws

pub turned : (at q : ℕ) → IsApart q 4 at → IsApart at 4 q
turned at q apart = ⊎_elim (λ (a : at + 4 ≤ q). inr (omega arith)) (λ (b : q + 4 ≤ at). inl (omega arith)) apart

moved : (a b q r : ℕ) → a ≡ b → q ≡ r → IsApart b 4 r → IsApart a 4 q
moved a b q r is at apart = ⊎_elim (λ (x : r + 4 ≤ b). inl (omega arith)) (λ (y : b + 4 ≤ r). inr (omega arith)) apart

head_in_block : (l : Links) (v k offset at : ℕ) → AreLinks l → at ≡ block_place l.head k + offset → 4 ≤ offset → offset + 4 ≤ 192
    → (offset + 4 ≤ l.next) ⊎ (l.next + 4 * l.kinds ≤ offset) → kind_of l v < l.kinds
    → IsApart at 4 (next_place l v) × IsApart at 4 (mark_place l v)
head_in_block l v k offset at links is low fits apart kind = (
  moved at (block_place l.head k + offset) (next_place l v) (next_place l v) is (omega arith)
      (blocks_apart l.head k (block_of l v) offset (next_in l v) fits (next_fits l v links kind)
      (λ one. ⊎_elim (λ (before : offset + 4 ≤ l.next). inl (omega arith)) (λ (behind : l.next + 4 * l.kinds ≤ offset). inr
      (omega arith)) apart)),
  moved at (block_place l.head k + offset) (mark_place l v) (mark_place l v + 0) is (omega arith)
      (blocks_apart l.head k (block_of l v) offset 0 fits (omega arith) (λ one. inr (omega arith))),
)

-- the place of a head
pub head_apart : (l : Links) (image : List ℕ) (at v : ℕ) → AreLinks l → IsHeadPlace l at → is_right l image v ≡ true
    → IsApart at 4 (next_place l v) × IsApart at 4 (mark_place l v)
head_apart l image at v links place right_v =
    let a = right_names l image v right_v in
    ⊎_elim
    (λ (front : at + 4 ≤ l.head). (inr (omega arith), inr (omega arith)))
    (λ (within : (k offset : ℕ) × (at ≡ block_place l.head k + offset) × (4 ≤ offset) × (offset + 4 ≤ 192)
    × ((offset + 4 ≤ l.next) ⊎ (l.next + 4 * l.kinds ≤ offset))).
    head_in_block l v within.0 within.1 at links within.2 within.3 within.4 within.5 a.kind)
    place
