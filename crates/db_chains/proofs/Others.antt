-- Chains beside one that changes.
use Rattle.std.proofs.Common.{◌≡◌, ◌≢◌, ℕ, ◌+◌, ◌*◌, ◌≤◌, inl, inr, true, List, [], ◌∷◌, ◌++◌, length, sym, subst, ⊎_elim, arith}
use Rattle.std.specs.List.{AllByRecursion}
use Rattle.db_blocks.specs.Blocks.{word_at}
use Rattle.db_chains.specs.declared.links.Links.{Links}
use Rattle.db_chains.specs.Chains.{HasChain}
use Rattle.db_chains.specs.Changes.{IsHeadPlace, put_in, put_word, taken_out}
use Rattle.db_chains.specs.Links.{AreLinks, block_of, is_right, mark_place, next_in, next_place}
use Rattle.db_chains.specs.Others.{AreApart, AreOtherSorts, HaveNoneOf}
use Rattle.db_chains.specs.Walks.{place_behind}
use Rattle.db_chains.proofs.Apart.{blocks_apart, head_apart, mark_apart, nexts_apart, next_fits, turned}
use Rattle.db_chains.proofs.Bytes.{IsApart, word_len, word_put}
use Rattle.db_chains.proofs.Changed.{behind_free, chain_stays, head_free, next_within, stands_behind}
use Rattle.db_chains.proofs.Words.{right_names}

-- a place of a word that is laid is none that a chain is read from
pub record IsClear (m : Links) (bt : ℕ) (vs : List ℕ) (q : ℕ) : Type 0 where
  pub first : IsApart q 4 bt
  pub words : AllByRecursion (λ v. IsApart q 4 (next_place m v) × IsApart q 4 (mark_place m v)) vs

stays_under : (m : Links) (image : List ℕ) (q n bt : ℕ) (vs : List ℕ) → AreLinks m → q + 4 ≤ length image → bt + 4 ≤ length image
    → IsClear m bt vs q → HasChain m image bt vs → HasChain m (put_word q n image) bt vs
stays_under m image q n bt vs links room within clear chain =
    chain_stays m q 4 bt image (put_word q n image) vs links (word_put image q n room) within clear.first clear.words chain

clear_behind : (l m : Links) (bt at : ℕ) (vs front : List ℕ) → IsClear m bt vs at
    → AllByRecursion (λ f. IsClear m bt vs (next_place l f)) front
    → IsClear m bt vs (place_behind l at front)
clear_behind l m bt at vs [] here all = here
clear_behind l m bt at vs (f ∷ front) here all = clear_behind l m bt (next_place l f) vs front all.0 all.1

pub put_beside : (l m : Links) (image : List ℕ) (at bt w : ℕ) (front back vs : List ℕ) → AreLinks l → AreLinks m → IsHeadPlace l at
    → at + 4 ≤ length image → bt + 4 ≤ length image → HasChain l image at (front ++ back) → is_right l image w ≡ true
    → HasChain m image bt vs
    → IsClear m bt vs at → IsClear m bt vs (next_place l w) → AllByRecursion (λ f. IsClear m bt vs (next_place l f)) front
    → HasChain m (put_in l (place_behind l at front) w image) bt vs
unfolding put_in
put_beside l m image at bt w front back vs links_l links_m head within_at within_bt chain is others here own all =
    let p = place_behind l at front in
    let q = next_place l w in
    let x = word_at image p in
    let room = (next_within l image w links_l is).0 in
    let free = behind_free l image at front back links_l (head_free l image at links_l head within_at) chain in
    let size : length (put_word q x image) ≡ length image = word_len image q x room in
    stays_under m (put_word q x image) p w bt vs links_m (omega (arith, free.within)) (omega arith)
    (clear_behind l m bt at vs front here all)
    (stays_under m image q x bt vs links_m room within_bt own others)

pub taken_beside : (l m : Links) (image : List ℕ) (at bt w : ℕ) (front back vs : List ℕ) → AreLinks l → AreLinks m → IsHeadPlace l at
    → at + 4 ≤ length image → bt + 4 ≤ length image → HasChain l image at (front ++ w ∷ back) → HasChain m image bt vs
    → IsClear m bt vs at → IsClear m bt vs (next_place l w) → AllByRecursion (λ f. IsClear m bt vs (next_place l f)) front
    → HasChain m (taken_out l (place_behind l at front) image) bt vs
unfolding taken_out
taken_beside l m image at bt w front back vs links_l links_m head within_at within_bt chain others here own all =
    let p = place_behind l at front in
    let q = next_place l w in
    let y = word_at image q in
    let there = stands_behind l image at w front back chain in
    let room = (next_within l image w links_l there.1).0 in
    let free = behind_free l image at front (w ∷ back) links_l (head_free l image at links_l head within_at) chain in
    let size : length (put_word p y image) ≡ length image = word_len image p y free.within in
    subst (λ (v : ℕ). HasChain m (put_word (next_place l v) 0 (put_word p (word_at image (next_place l v)) image)) bt vs) (sym there.0)
    (stays_under m (put_word p y image) q 0 bt vs links_m (omega arith) (omega arith) own
    (stays_under m image p y bt vs links_m free.within within_bt (clear_behind l m bt at vs front here all) others))

-- the words at the front of a chain are right
front_right : (l : Links) (image : List ℕ) (at : ℕ) (front back : List ℕ) → HasChain l image at (front ++ back)
    → AllByRecursion (λ f. is_right l image f ≡ true) front
front_right l image at [] back chain = tt
front_right l image at (f ∷ front) back chain = (chain.1, front_right l image (next_place l f) front back chain.2)

each_so : (P Q : ℕ → Type 0) (ws : List ℕ) → ((w : ℕ) → P w → Q w) → AllByRecursion P ws → AllByRecursion Q ws
each_so P Q [] so all = tt
each_so P Q (w ∷ ws) so all = (so w all.0, each_so P Q ws so all.1)

-- ---- chains of another sort

no_offset : (q p : ℕ) → IsApart q 4 (p + 0) → IsApart q 4 p
no_offset q p apart = ⊎_elim (λ (a : p + 0 + 4 ≤ q). inl (omega arith)) (λ (b : q + 4 ≤ p + 0). inr (omega arith)) apart

sorts_next : (l m : Links) (image : List ℕ) (at bt u v : ℕ) → AreLinks l → AreLinks m → AreOtherSorts l m at bt → is_right l image u ≡ true
    → is_right m image v ≡ true → IsApart (next_place l u) 4 (next_place m v) × IsApart (next_place l u) 4 (mark_place m v)
sorts_next l m image at bt u v links_l links_m other is_u is_v =
    let a = right_names l image u is_u in
    let b = right_names m image v is_v in
    let fits_l = next_fits l u links_l a.kind in
    let fits_m = next_fits m v links_m b.kind in
    subst (λ (h : ℕ). IsApart (next_place l u) 4 (h + 192 * block_of m v + next_in m v) × IsApart (next_place l u) 4
    (h + 192 * block_of m v)) other.head (
      blocks_apart l.head (block_of l u) (block_of m v) (next_in l u) (next_in m v) fits_l fits_m
          (λ one. ⊎_elim (λ (before : l.next + 4 * l.kinds ≤ m.next). inl (omega (arith, a.kind)))
          (λ (behind : m.next + 4 * m.kinds ≤ l.next). inr (omega (arith, b.kind))) other.next),
      no_offset (next_place l u) (l.head + 192 * block_of m v)
          (blocks_apart l.head (block_of l u) (block_of m v) (next_in l u) 0 fits_l (omega arith) (λ one. inr (omega
          (arith, links_l.mark)))),
    )

sorts_words : (l m : Links) (image : List ℕ) (at bt from u : ℕ) (vs : List ℕ) → AreLinks l → AreLinks m → AreOtherSorts l m at bt
    → is_right l image u ≡ true → HasChain m image from vs
    → AllByRecursion (λ v. IsApart (next_place l u) 4 (next_place m v) × IsApart (next_place l u) 4 (mark_place m v)) vs
sorts_words l m image at bt from u [] links_l links_m other is chain = tt
sorts_words l m image at bt from u (v ∷ vs) links_l links_m other is chain = (
  sorts_next l m image at bt u v links_l links_m other is chain.1,
  sorts_words l m image at bt (next_place m v) u vs links_l links_m other is chain.2,
)

head_words : (m : Links) (image : List ℕ) (at from : ℕ) (vs : List ℕ) → AreLinks m → IsHeadPlace m at → HasChain m image from vs
    → AllByRecursion (λ v. IsApart at 4 (next_place m v) × IsApart at 4 (mark_place m v)) vs
head_words m image at from [] links place chain = tt
head_words m image at from (v ∷ vs) links place
    chain = (head_apart m image at v links place chain.1, head_words m image at (next_place m v) vs links place chain.2)

apart_from : (p q : ℕ) → AreApart p q → IsApart p 4 q
apart_from p q apart = ⊎_elim (λ (a : p + 4 ≤ q). inr (omega arith)) (λ (b : q + 4 ≤ p). inl (omega arith)) apart

sorts_clear : (l m : Links) (image : List ℕ) (at bt u : ℕ) (vs : List ℕ) → AreLinks l → AreLinks m → AreOtherSorts l m at bt
    → is_right l image u ≡ true → HasChain m image bt vs → IsClear m bt vs (next_place l u)
sorts_clear l m image at bt u vs links_l links_m other is chain = record {
  first = turned (next_place l u) bt (head_apart l image bt u links_l other.second is).0;
  words = sorts_words l m image at bt bt u vs links_l links_m other is chain;
}

sorts_head : (l m : Links) (image : List ℕ) (at bt : ℕ) (vs : List ℕ) → AreLinks m → AreOtherSorts l m at bt → HasChain m image bt vs
    → IsClear m bt vs at
sorts_head l m image at bt vs links_m other chain = record {
  first = apart_from at bt other.places;
  words = head_words m image at bt vs links_m other.first chain;
}

pub put_sorts : (l m : Links) (image : List ℕ) (at bt w : ℕ) (front back vs : List ℕ) → AreLinks l → AreLinks m → AreOtherSorts l m at bt
    → IsHeadPlace l at → at + 4 ≤ length image → bt + 4 ≤ length image → HasChain l image at (front ++ back) → is_right l image w ≡ true
    → HasChain m image bt vs → HasChain m (put_in l (place_behind l at front) w image) bt vs
put_sorts l m image at bt w front back vs links_l links_m other head within_at within_bt chain is others =
    put_beside l m image at bt w front back vs links_l links_m head within_at within_bt chain is others
    (sorts_head l m image at bt vs links_m other others)
    (sorts_clear l m image at bt w vs links_l links_m other is others)
    (each_so (λ f. is_right l image f ≡ true) (λ f. IsClear m bt vs (next_place l f)) front
    (λ f right_f. sorts_clear l m image at bt f vs links_l links_m other right_f others) (front_right l image at front back chain))

pub taken_sorts : (l m : Links) (image : List ℕ) (at bt w : ℕ) (front back vs : List ℕ) → AreLinks l → AreLinks m → AreOtherSorts l m at bt
    → IsHeadPlace l at → at + 4 ≤ length image → bt + 4 ≤ length image → HasChain l image at (front ++ w ∷ back)
    → HasChain m image bt vs → HasChain m (taken_out l (place_behind l at front) image) bt vs
taken_sorts l m image at bt w front back vs links_l links_m other head within_at within_bt chain others =
    taken_beside l m image at bt w front back vs links_l links_m head within_at within_bt chain others
    (sorts_head l m image at bt vs links_m other others)
    (sorts_clear l m image at bt w vs links_l links_m other (stands_behind l image at w front back chain).1 others)
    (each_so (λ f. is_right l image f ≡ true) (λ f. IsClear m bt vs (next_place l f)) front
    (λ f right_f. sorts_clear l m image at bt f vs links_l links_m other right_f others) (front_right l image at front (w ∷ back) chain))

-- ---- chains of the same sort, with other words

chain_words : (l : Links) (image : List ℕ) (from u : ℕ) (vs : List ℕ) → AreLinks l → is_right l image u ≡ true → HasChain l image from vs
    → AllByRecursion (λ v. v ≢ u) vs
    → AllByRecursion (λ v. IsApart (next_place l u) 4 (next_place l v) × IsApart (next_place l u) 4 (mark_place l v)) vs
chain_words l image from u [] links is chain others = tt
chain_words l image from u (v ∷ vs) links is chain others = (
  (nexts_apart l image v u links chain.1 is others.0, mark_apart l image v u links is),
  chain_words l image (next_place l v) u vs links is chain.2 others.1,
)

chain_clear : (l : Links) (image : List ℕ) (bt u : ℕ) (vs : List ℕ) → AreLinks l → IsHeadPlace l bt → is_right l image u ≡ true
    → HasChain l image bt vs → AllByRecursion (λ v. v ≢ u) vs → IsClear l bt vs (next_place l u)
chain_clear l image bt u vs links place is chain others = record {
  first = turned (next_place l u) bt (head_apart l image bt u links place is).0;
  words = chain_words l image bt u vs links is chain others;
}

all_clear : (l : Links) (image : List ℕ) (at bt : ℕ) (front back vs : List ℕ) → AreLinks l → IsHeadPlace l bt
    → HasChain l image at (front ++ back)
    → HasChain l image bt vs → HaveNoneOf front vs → AllByRecursion (λ f. IsClear l bt vs (next_place l f)) front
all_clear l image at bt [] back vs links place chain others none = tt
all_clear l image at bt (f ∷ front) back vs links place chain others none = (
  chain_clear l image bt f vs links place chain.1 others none.0,
  all_clear l image (next_place l f) bt front back vs links place chain.2 others none.1,
)

chains_head : (l : Links) (image : List ℕ) (at bt : ℕ) (vs : List ℕ) → AreLinks l → AreApart at bt → IsHeadPlace l at
    → HasChain l image bt vs
    → IsClear l bt vs at
chains_head l image at bt vs links apart place chain = record
    { first = apart_from at bt apart; words = head_words l image at bt vs links place chain }

pub put_chains : (l : Links) (image : List ℕ) (at bt w : ℕ) (front back vs : List ℕ) → AreLinks l → AreApart at bt
    → IsHeadPlace l at → IsHeadPlace l bt → at + 4 ≤ length image → bt + 4 ≤ length image
    → HasChain l image at (front ++ back) → is_right l image w ≡ true → HasChain l image bt vs → HaveNoneOf (w ∷ front) vs
    → HasChain l (put_in l (place_behind l at front) w image) bt vs
put_chains l image at bt w front back vs links apart head place within_at within_bt chain is others none =
    put_beside l l image at bt w front back vs links links head within_at within_bt chain is others
    (chains_head l image at bt vs links apart head others)
    (chain_clear l image bt w vs links place is others none.0) (all_clear l image at bt front back vs links place chain others none.1)

pub taken_chains : (l : Links) (image : List ℕ) (at bt w : ℕ) (front back vs : List ℕ) → AreLinks l → AreApart at bt
    → IsHeadPlace l at → IsHeadPlace l bt → at + 4 ≤ length image → bt + 4 ≤ length image
    → HasChain l image at (front ++ w ∷ back) → HasChain l image bt vs → HaveNoneOf (w ∷ front) vs
    → HasChain l (taken_out l (place_behind l at front) image) bt vs
taken_chains l image at bt w front back vs links apart head place within_at within_bt chain others none =
    taken_beside l l image at bt w front back vs links links head within_at within_bt chain others
    (chains_head l image at bt vs links apart head others)
    (chain_clear l image bt w vs links place (stands_behind l image at w front back chain).1 others none.0)
    (all_clear l image at bt front (w ∷ back) vs links place chain others none.1)
