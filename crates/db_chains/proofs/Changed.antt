-- What a change of an image leaves of its chains, and makes of one.
use Rattle.std.proofs.Common.{◌≡◌, ◌≢◌, ℕ, ◌+◌, ◌≤◌, true, List, [], ◌∷◌, ◌++◌, length, sym, subst, ◌∙◌, arith}
use Rattle.std.specs.Prelude.{◌==◌}
use Rattle.std.specs.List.{AllByRecursion}
use Rattle.std.proofs.lemmas.Bool.{and_from, eq-eqb}
use Rattle.db_blocks.specs.Blocks.{block_count, word_at}
use Rattle.db_chains.specs.declared.links.Links.{Links}
use Rattle.db_chains.specs.Chains.{HasChain}
use Rattle.db_chains.specs.Changes.{IsHeadPlace, MayEnter, put_in, put_word, taken_out}
use Rattle.db_chains.specs.Links.{AreLinks, is_right, mark_place, names_block, next_place}
use Rattle.db_chains.specs.Walks.{place_behind}
use Rattle.db_chains.proofs.Apart.{IsApartFrom, head_apart, mark_apart, nexts_apart, turned}
use Rattle.db_chains.proofs.Bytes.{IsApart, StaysBut, word_here, word_len, word_put, word_stays}
use Rattle.db_chains.proofs.Counted.{others_behind}
use Rattle.db_chains.proofs.Words.{names_from, right, right_names}

-- ---- what stays

-- the blocks of right words lie within an image
pub next_within : (l : Links) (image : List ℕ) (w : ℕ) → AreLinks l → is_right l image w ≡ true
    → (next_place l w + 4 ≤ length image) × (mark_place l w + 4 ≤ length image)
next_within l image w links is =
    let n = right_names l image w is in
    (omega (arith, n.some, n.block, n.kind, links.within), omega (arith, n.some, n.block, n.kind, links.within))

pub right_stays : (l : Links) (at len w : ℕ) (old new : List ℕ) → AreLinks l → StaysBut at len old new → IsApart at len (mark_place l w)
    → is_right l old w ≡ true → is_right l new w ≡ true
unfolding is_right
right_stays l at len w old new links stays apart is =
    let n = right_names l old w is in
    let more : block_count l.head old ≤ block_count l.head new = omega (arith, stays.longer) in
    and_from (names_block l (block_count l.head new) w) (word_at new (mark_place l w) == l.mark)
    (names_from l (block_count l.head new) w record { some = n.some; block = omega (arith, n.block); kind = n.kind })
    (eq-eqb (word_at new (mark_place l w)) l.mark
    (word_stays at len (mark_place l w) old new stays (next_within l old w links is).1 apart ∙ (right l old w is).mark))

-- a chain apart from what changed
pub chain_stays : (l : Links) (at len head : ℕ) (old new : List ℕ) (ws : List ℕ) → AreLinks l → StaysBut at len old new
    → head + 4 ≤ length old → IsApart at len head
    → AllByRecursion (λ v. IsApart at len (next_place l v) × IsApart at len (mark_place l v)) ws
    → HasChain l old head ws → HasChain l new head ws
chain_stays l at len head old new [] links stays within apart all chain = word_stays at len head old new stays within apart ∙ chain
chain_stays l at len head old new (w ∷ ws) links stays within apart all chain = (
  word_stays at len head old new stays within apart ∙ chain.0,
  right_stays l at len w old new links stays all.0.1 chain.1,
  chain_stays l at len (next_place l w) old new ws links stays (next_within l old w links chain.1).0 all.0.0 all.1 chain.2,
)

-- the same first word at another place
pub chain_from : (l : Links) (image : List ℕ) (at to : ℕ) (ws : List ℕ) → word_at image to ≡ word_at image at → HasChain l image at ws
    → HasChain l image to ws
chain_from l image at to [] same chain = same ∙ chain
chain_from l image at to (w ∷ ws) same chain = (same ∙ chain.0, chain.1, chain.2)

-- ---- which words lie apart

-- the place of a word's next one is apart from what other words tell
pub next_apart : (l : Links) (image : List ℕ) (at w : ℕ) (ws : List ℕ) → AreLinks l → is_right l image w ≡ true → HasChain l image at ws
    → AllByRecursion (λ v. v ≢ w) ws → IsApartFrom l (next_place l w) ws
next_apart l image at w [] links is chain others = tt
next_apart l image at w (v ∷ ws) links is chain others = (
  (nexts_apart l image v w links chain.1 is others.0, mark_apart l image v w links is),
  next_apart l image (next_place l v) w ws links is chain.2 others.1,
)

pub head_apart_all : (l : Links) (image : List ℕ) (at from : ℕ) (ws : List ℕ) → AreLinks l → IsHeadPlace l at → HasChain l image from ws
    → IsApartFrom l at ws
head_apart_all l image at from [] links place chain = tt
head_apart_all l image at from (w ∷ ws) links place chain =
    (head_apart l image at w links place chain.1, head_apart_all l image at (next_place l w) ws links place chain.2)

pub apart_front : (P : ℕ → Type 0) (ws more : List ℕ) → AllByRecursion P (ws ++ more) → AllByRecursion P ws
apart_front P [] more all = tt
apart_front P (w ∷ ws) more all = (all.0, apart_front P ws more all.1)

pub apart_rest : (P : ℕ → Type 0) (ws more : List ℕ) → AllByRecursion P (ws ++ more) → AllByRecursion P more
apart_rest P [] more all = all
apart_rest P (w ∷ ws) more all = apart_rest P ws more all.1

-- the place behind words, from one that is apart
place_apart : (l : Links) (q at : ℕ) (ws : List ℕ) → IsApart q 4 at → IsApartFrom l q ws → IsApart q 4 (place_behind l at ws)
place_apart l q at [] apart all = apart
place_apart l q at (w ∷ ws) apart all = place_apart l q (next_place l w) ws all.0.0 all.1

-- a place where a word of a chain may be laid: within the image, and apart from the marks of the blocks
pub record IsFree (l : Links) (image : List ℕ) (at : ℕ) : Type 0 where
  pub within : at + 4 ≤ length image
  pub marks : (w : ℕ) → is_right l image w ≡ true → IsApart at 4 (mark_place l w)

next_free : (l : Links) (image : List ℕ) (w : ℕ) → AreLinks l → is_right l image w ≡ true → IsFree l image (next_place l w)
next_free l image w links is = record { within = (next_within l image w links is).0; marks = λ v right_v. mark_apart l image v w links is }

pub behind_free : (l : Links) (image : List ℕ) (at : ℕ) (ws more : List ℕ) → AreLinks l → IsFree l image at
    → HasChain l image at (ws ++ more)
    → IsFree l image (place_behind l at ws)
behind_free l image at [] more links free chain = free
behind_free l image at (w ∷ ws) more links free chain =
    behind_free l image (next_place l w) ws more links (next_free l image w links chain.1) chain.2

pub head_free : (l : Links) (image : List ℕ) (at : ℕ) → AreLinks l → IsHeadPlace l at → at + 4 ≤ length image → IsFree l image at
head_free l image at links place within = record { within = within; marks = λ w is. (head_apart l image at w links place is).1 }

-- the words before and behind one of a chain are others
pub others_of : (l : Links) (image : List ℕ) (at w : ℕ) (front back : List ℕ) → AreLinks l → HasChain l image at (front ++ w ∷ back)
    → AllByRecursion (λ v. v ≢ w) (front ++ back)
others_of l image at w [] back links chain = others_behind l image at w back links.step chain
others_of l image at w (f ∷ fs) back links chain =
    let other = apart_rest (λ v. v ≢ f) fs (w ∷ back) (others_behind l image at f (fs ++ w ∷ back) links.step chain) in
    (λ same. other.0 (sym same), others_of l image (next_place l f) w fs back links chain.2)

-- ---- a word more

chain_insert : (l : Links) (image : List ℕ) (at w : ℕ) (front back : List ℕ) → AreLinks l → IsFree l image at
    → IsApartFrom l at (front ++ back)
    → IsApart at 4 (next_place l w) → HasChain l image at (front ++ back) → is_right l image w ≡ true
    → AllByRecursion (λ v. v ≢ w) (front ++ back)
    → word_at image (next_place l w) ≡ word_at image (place_behind l at front)
    → HasChain l (put_word (place_behind l at front) w image) at (front ++ w ∷ back)
chain_insert l image at w [] back links free all own chain is others next =
    let stays : StaysBut at 4 image (put_word at w image) = word_put image at w free.within in (
      word_here image at w free.within,
      right_stays l at 4 w image (put_word at w image) links stays (free.marks w is) is,
      chain_stays l at 4 (next_place l w) image (put_word at w image) back links stays (next_within l image w links is).0 own all
          (chain_from l image at (next_place l w) back next chain),
    )
chain_insert l image at w (f ∷ fs) back links free all own chain is others next =
    let p = place_behind l (next_place l f) fs in
    let there = behind_free l image (next_place l f) fs back links (next_free l image f links chain.1) chain.2 in
    let stays : StaysBut p 4 image (put_word p w image) = word_put image p w there.within in
    let apart : IsApart at 4 p = place_apart l at (next_place l f) fs all.0.0
    (apart_front (λ v. IsApart at 4 (next_place l v) × IsApart at 4 (mark_place l v)) fs back all.1) in (
      word_stays p 4 at image (put_word p w image) stays free.within (turned p at apart) ∙ chain.0,
      right_stays l p 4 f image (put_word p w image) links stays (there.marks f chain.1) chain.1,
      chain_insert l image (next_place l f) w fs back links (next_free l image f links chain.1)
          (next_apart l image (next_place l f) f (fs ++ back) links chain.1 chain.2 (others_behind l image at f
          (fs ++ back) links.step chain))
          (nexts_apart l image w f links is chain.1 (λ same. others.0 (sym same))) chain.2 is others.1 next,
    )

pub chain_put_in : (l : Links) (image : List ℕ) (at w : ℕ) (front back : List ℕ) → AreLinks l → IsHeadPlace l at → at + 4 ≤ length image
    → HasChain l image at (front ++ back) → MayEnter l image w (front ++ back)
    → HasChain l (put_in l (place_behind l at front) w image) at (front ++ w ∷ back)
unfolding put_in
chain_put_in l image at w front back links place within chain may =
    let p = place_behind l at front in
    let x = word_at image p in
    let q = next_place l w in
    let mid = put_word q x image in
    let room = (next_within l image w links may.right).0 in
    let stays : StaysBut q 4 image mid = word_put image q x room in
    let head = head_apart l image at w links place may.right in
    let all = next_apart l image at w (front ++ back) links may.right chain may.new in
    let size : length mid ≡ length image = word_len image q x room in
    let here = behind_free l image at front back links (head_free l image at links place within) chain in
    let apart : IsApart q 4 p =
    place_apart l q at front (turned q at head.0)
    (apart_front (λ v. IsApart q 4 (next_place l v) × IsApart q 4 (mark_place l v)) front back all) in
    let kept : HasChain l mid at (front ++ back) = chain_stays l q 4 at image mid (front ++ back) links stays within (turned q at head.0)
    all chain in
    let is : is_right l mid w ≡ true = right_stays l q 4 w image mid links stays (mark_apart l image w w links may.right) may.right in
    chain_insert l mid at w front back links (head_free l mid at links place (omega arith))
    (head_apart_all l mid at at (front ++ back) links place kept)
    head.0 kept is may.new (word_here image q x room ∙ sym (word_stays q 4 p image mid stays here.within apart))

-- ---- a word less

chain_remove : (l : Links) (image : List ℕ) (at w : ℕ) (front back : List ℕ) → AreLinks l → IsFree l image at
    → IsApartFrom l at (front ++ w ∷ back)
    → HasChain l image at (front ++ w ∷ back)
    → HasChain l (put_word (place_behind l at front) (word_at image (next_place l w)) image) at (front ++ back)
chain_remove l image at w [] back links free all chain =
    let y = word_at image (next_place l w) in
    let stays : StaysBut at 4 image (put_word at y image) = word_put image at y free.within in
    let room = (next_within l image w links chain.1).0 in
    chain_from l (put_word at y image) (next_place l w) at back
    (word_here image at y free.within ∙ sym (word_stays at 4 (next_place l w) image (put_word at y image) stays room all.0.0))
    (chain_stays l at 4 (next_place l w) image (put_word at y image) back links stays room all.0.0 all.1 chain.2)
chain_remove l image at w (f ∷ fs) back links free all chain =
    let y = word_at image (next_place l w) in
    let p = place_behind l (next_place l f) fs in
    let there = behind_free l image (next_place l f) fs (w ∷ back) links (next_free l image f links chain.1) chain.2 in
    let stays : StaysBut p 4 image (put_word p y image) = word_put image p y there.within in
    let apart : IsApart at 4 p = place_apart l at (next_place l f) fs all.0.0
    (apart_front (λ v. IsApart at 4 (next_place l v) × IsApart at 4 (mark_place l v)) fs (w ∷ back) all.1) in (
      word_stays p 4 at image (put_word p y image) stays free.within (turned p at apart) ∙ chain.0,
      right_stays l p 4 f image (put_word p y image) links stays (there.marks f chain.1) chain.1,
      chain_remove l image (next_place l f) w fs back links (next_free l image f links chain.1)
          (next_apart l image (next_place l f) f (fs ++ w ∷ back) links chain.1 chain.2 (others_behind l image at f
          (fs ++ w ∷ back) links.step chain))
          chain.2,
    )

-- a word of a chain stands behind those before it, and is right
pub stands_behind : (l : Links) (image : List ℕ) (at w : ℕ) (front back : List ℕ) → HasChain l image at (front ++ w ∷ back)
    → (word_at image (place_behind l at front) ≡ w) × (is_right l image w ≡ true)
stands_behind l image at w [] back chain = (chain.0, chain.1)
stands_behind l image at w (f ∷ fs) back chain = stands_behind l image (next_place l f) w fs back chain.2

pub chain_taken_out : (l : Links) (image : List ℕ) (at w : ℕ) (front back : List ℕ) → AreLinks l → IsHeadPlace l at → at + 4 ≤ length image
    → HasChain l image at (front ++ w ∷ back)
    → HasChain l (taken_out l (place_behind l at front) image) at (front ++ back)
unfolding taken_out
chain_taken_out l image at w front back links place within chain =
    let p = place_behind l at front in
    let y = word_at image (next_place l w) in
    let q = next_place l w in
    let mid = put_word p y image in
    let here = stands_behind l image at w front back chain in
    let free = behind_free l image at front (w ∷ back) links (head_free l image at links place within) chain in
    let less : HasChain l mid at (front ++ back) =
    chain_remove l image at w front back links (head_free l image at links place within)
    (head_apart_all l image at at (front ++ w ∷ back) links place chain) chain in
    let stays : StaysBut p 4 image mid = word_put image p y free.within in
    let size : length mid ≡ length image = word_len image p y free.within in
    let is : is_right l mid w ≡ true = right_stays l p 4 w image mid links stays (free.marks w here.1) here.1 in
    let room = (next_within l mid w links is).0 in
    let done : HasChain l (put_word q 0 mid) at (front ++ back) =
    chain_stays l q 4 at mid (put_word q 0 mid) (front ++ back) links (word_put mid q 0 room) (omega arith)
    (turned q at (head_apart l mid at w links place is).0)
    (next_apart l mid at w (front ++ back) links is less (others_of l image at w front back links chain)) less in
    subst (λ (v : ℕ). HasChain l (put_word (next_place l v) 0 (put_word p (word_at image (next_place l v)) image)) at (front ++ back))
    (sym here.0) done
