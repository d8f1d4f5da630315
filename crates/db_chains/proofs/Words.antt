-- Words of an image and of its blocks, and what a right word tells.
use Rattle.std.proofs.Common.{◌≡◌, ◌≢◌, ℕ, ◌+◌, ◌*◌, ◌/◌, ◌%◌, ◌<◌, ◌≤◌, Bool, true, false, ◌&&◌, not, cond, List, Option, Some, None, IfSome, length, take, drop, refl, sym, ap, ◌∙◌, arith}
use Rattle.std.specs.Prelude.{nat_lt, ◌==◌}
use Rattle.std.specs.Int.{w32, from_be_bytes}
use Rattle.std.proofs.lemmas.Bool.{and_parts, and_left, and_right, and_from, not-true, ltb-true, ltb-false, eqb-true, eq-eqb, le-ltb, lt-ltb, ne_eqb}
use Rattle.std.proofs.lemmas.List.{drop-drop, drop-take, take-take}
use Rattle.db_blocks.specs.Blocks.{block_count, block_in, block_place, word_at}
use Rattle.db_blocks.proofs.Scanned.{count_is}
use Rattle.db_chains.specs.declared.links.Links.{Links}
use Rattle.db_chains.specs.Walks.{IsLink}
use Rattle.db_chains.specs.Links.{block_of, is_right, kind_of, mark_place, names_block}

-- a word of a block stands in the image
pub in_block : (head : ℕ) (image : List ℕ) (k at more : ℕ) → at + more ≡ 192 → 4 ≤ more
    → word_at (block_in head image k) at ≡ word_at image (block_place head k + at)
unfolding block_in
in_block head image k at more size long =
    ap (λ (n : ℕ). from_be_bytes w32 (take 4 (drop at (take n (drop (block_place head k) image))))) (sym size)
    ∙ ap (λ (b : List ℕ). from_be_bytes w32 (take 4 b)) (drop-take at more (drop (block_place head k) image))
    ∙ ap (from_be_bytes w32) (take-take 4 more (drop at (drop (block_place head k) image)) long)
    ∙ ap (λ (b : List ℕ). from_be_bytes w32 (take 4 b)) (drop-drop at (block_place head k) image)

-- what is named
pub record Names (l : Links) (count w : ℕ) : Type 0 where
  pub some : 0 < w / l.step
  pub block : w / l.step ≤ count
  pub kind : kind_of l w < l.kinds

pub names : (l : Links) (count w : ℕ) → names_block l count w ≡ true → Names l count w
names l count w is =
    let parts = and_parts (nat_lt 0 (w / l.step) && not (nat_lt count (w / l.step))) (nat_lt (kind_of l w) l.kinds) is in
    let front = and_parts (nat_lt 0 (w / l.step)) (not (nat_lt count (w / l.step))) parts.0 in record {
      some = ltb-true 0 (w / l.step) front.0;
      block = ltb-false count (w / l.step) (not-true (nat_lt count (w / l.step)) front.1);
      kind = ltb-true (kind_of l w) l.kinds parts.1;
    }

pub names_from : (l : Links) (count w : ℕ) → Names l count w → names_block l count w ≡ true
names_from l count w n =
    and_from (nat_lt 0 (w / l.step) && not (nat_lt count (w / l.step))) (nat_lt (kind_of l w) l.kinds)
    (and_from (nat_lt 0 (w / l.step)) (not (nat_lt count (w / l.step))) (lt-ltb 0 (w / l.step) n.some) (ap not (le-ltb count
    (w / l.step) n.block)))
    (lt-ltb (kind_of l w) l.kinds n.kind)

pub record Right (l : Links) (image : List ℕ) (w : ℕ) : Type 0 where
  pub named : names_block l (block_count l.head image) w ≡ true
  pub mark : word_at image (mark_place l w) ≡ l.mark

pub right : (l : Links) (image : List ℕ) (w : ℕ) → is_right l image w ≡ true → Right l image w
unfolding is_right
right l image w is =
    let parts = and_parts (names_block l (block_count l.head image) w) (word_at image (mark_place l w) == l.mark) is in record {
      named = parts.0;
      mark = eqb-true (word_at image (mark_place l w)) l.mark parts.1;
    }

pub right_names : (l : Links) (image : List ℕ) (w : ℕ) → is_right l image w ≡ true → Names l (block_count l.head image) w
right_names l image w is = names l (block_count l.head image) w (right l image w is).named

-- a word is told by its block's number and its kind
pub word_from : (l : Links) (w : ℕ) → 0 < l.step → l.step * (w / l.step) + w % l.step ≡ w
word_from l w step = omega arith

zero_over : (n : ℕ) → 0 < n → 0 / n ≡ 0
zero_over n some = omega arith

-- a right word is not 0
pub right_some : (l : Links) (image : List ℕ) (w : ℕ) → 0 < l.step → is_right l image w ≡ true → w ≢ 0
right_some l image w step is = λ none.
    let n = right_names l image w is in
    omega (arith, n.some, ap (λ (x : ℕ). x / l.step) none, zero_over l.step step)

-- ---- a word that is read with its block

none_of : (b : Bool) (k : ℕ) → cond b (Some k) None ≡ None → b ≡ false
none_of true k is = absurd cc
none_of false k is = refl

pub some_of : (b : Bool) (k n : ℕ) → Some n ≡ cond b (Some k) None → (b ≡ true) × (n ≡ k)
some_of true k n is = (refl, cc)
some_of false k n is = absurd cc

number_of : (l : Links) (count w : ℕ) → cond (names_block l count w) (Some (block_of l w)) None ≡ None → names_block l count w ≡ false
number_of l count w is = none_of (names_block l count w) (block_of l w) is

pub not_named : (bytes : Option (List ℕ)) (l : Links) (len count w place : ℕ) → IfSome bytes (λ image. length image ≡ len)
    → len ≡ block_place l.head count
    → cond (names_block l count w) (Some (block_of l w)) None ≡ None
    → IfSome bytes (λ image. (place ≡ place) × (is_right l image w ≡ false))
unfolding is_right
not_named None l len count w place told size none = tt
not_named (Some image) l len count w place told size none =
    let n : block_count l.head image ≡ count = count_is l.head image count (told ∙ size) in (
      refl,
      and_left (names_block l (block_count l.head image) w) (word_at image (mark_place l w) == l.mark)
          (ap (λ (k : ℕ). names_block l k w) n ∙ number_of l count w none),
    )

pub not_marked : (bytes : Option (List ℕ)) (l : Links) (w place number mark : ℕ) (block : List ℕ)
    → number ≡ block_of l w
    → IfSome bytes (λ image. block ≡ block_in l.head image number) → mark ≡ word_at block 0 → mark ≢ l.mark
    → IfSome bytes (λ image. (place ≡ place) × (is_right l image w ≡ false))
unfolding is_right
not_marked None l w place number mark block is read told other = tt
not_marked (Some image) l w place number mark block is read told other =
    let here : mark ≡ word_at image (mark_place l w) =
    told ∙ ap (λ (b : List ℕ). word_at b 0) read ∙ in_block l.head image number 0 192 refl (omega arith)
    ∙ ap (λ (k : ℕ). word_at image (block_place l.head k + 0)) is ∙ ap (word_at image) (omega arith) in (
      refl,
      and_right (names_block l (block_count l.head image) w) (word_at image (mark_place l w) == l.mark)
          (ne_eqb (word_at image (mark_place l w)) l.mark (λ same. other (here ∙ same))),
    )

pub is_link : (bytes : Option (List ℕ)) (l : Links) (len count w place number mark : ℕ) (block : List ℕ)
    → IfSome bytes (λ image. length image ≡ len) → len ≡ block_place l.head count
    → IfSome bytes (λ image. w ≡ word_at image place)
    → Some number ≡ cond (names_block l count w) (Some (block_of l w)) None
    → IfSome bytes (λ image. block ≡ block_in l.head image number) → mark ≡ word_at block 0 → mark ≡ l.mark
    → IfSome bytes (λ image. IsLink l image place record { word = w; block = block })
unfolding is_right
is_link None l len count w place number mark block told size stands named read marked same = tt
is_link (Some image) l len count w place number mark block told size stands named read marked same =
    let n : block_count l.head image ≡ count = count_is l.head image count (told ∙ size) in
    let got = some_of (names_block l count w) (block_of l w) number named in
    let here : mark ≡ word_at image (mark_place l w) =
    marked ∙ ap (λ (b : List ℕ). word_at b 0) read ∙ in_block l.head image number 0 192 refl (omega arith)
    ∙ ap (λ (k : ℕ). word_at image (block_place l.head k + 0)) got.1 ∙ ap (word_at image) (omega arith) in record {
      word = stands;
      right = and_from (names_block l (block_count l.head image) w) (word_at image (mark_place l w) == l.mark)
          (ap (λ (k : ℕ). names_block l k w) n ∙ got.0)
          (eq-eqb (word_at image (mark_place l w)) l.mark (sym here ∙ same));
      block = read ∙ ap (block_in l.head image) got.1;
    }

-- a word that names a block with the mark may stand in a chain
pub right_from : (l : Links) (image : List ℕ) (count w : ℕ) → block_count l.head image ≡ count → 0 < w / l.step → w / l.step ≤ count
    → w % l.step < l.kinds → word_at image (mark_place l w) ≡ l.mark → is_right l image w ≡ true
unfolding is_right
right_from l image count w is some within kind mark =
    and_from (names_block l (block_count l.head image) w) (word_at image (mark_place l w) == l.mark)
    (names_from l (block_count l.head image) w record { some = some; block = omega arith; kind = kind })
    (eq-eqb (word_at image (mark_place l w)) l.mark mark)
