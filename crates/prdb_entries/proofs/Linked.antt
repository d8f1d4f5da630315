-- The chains of an image by the words that they visit, and what stays of them where a word comes in.
use Rattle.std.proofs.Common.{◌≡◌, ◌≢◌, ℕ, ◌+◌, ◌-◌, ◌*◌, ◌/◌, ◌%◌, ◌<◌, ◌≤◌, ◌⊎◌, inl, inr, ⊎_elim, true, List, [], length, refl, sym, ap, subst, ◌∙◌, arith}
use Rattle.std.specs.Prelude.{◌==◌}
use Rattle.std.proofs.lemmas.Bool.{and_from, cases_eq, cases_order, eq-eqb}
use Rattle.db_blocks.specs.Blocks.{IsWhole, word_at, kind_of}
use Rattle.db_chains.specs.declared.links.Links.{Links}
use Rattle.db_chains.specs.Chains.{HasChain}
use Rattle.db_chains.specs.Changes.{IsHeadPlace, put_in, put_word}
use Rattle.db_chains.specs.Free.{free_links}
use Rattle.db_chains.specs.Links.{AreLinks, is_right, mark_place, names_block, next_place}
use Rattle.db_chains.specs.Others.{AreApart, AreOtherSorts}
use Rattle.db_chains.proofs.Apart.{blocks_apart}
use Rattle.db_chains.proofs.Bytes.{IsApart, word_len}
use Rattle.db_chains.proofs.Changed.{next_within}
use Rattle.db_chains.proofs.Entered.{put_other_visits, put_own, put_same_sort, visits_as}
use Rattle.db_chains.proofs.Framed.{block_mark}
use Rattle.db_chains.proofs.Others.{put_beside as word_beside, put_sorts}
use Rattle.db_chains.proofs.Words.{names_from}
use Rattle.prdb_layout.specs.Blocks.{block_count}
use Rattle.prdb_layout.specs.Records.{block_in, block_place}
use Rattle.prdb_finds.specs.Places.{IsEntryPlace, entry_links, free_blocks, id_place, name_place, owned_place}
use Rattle.db_chains.specs.Visits.{Visits}
use Rattle.prdb_finds.specs.Unchained.{unchained}
use Rattle.prdb_finds.proofs.Beside.{put_beside}
use Rattle.prdb_finds.proofs.Without.{unchained_count, unchained_kind}

-- ---- chains

-- that of the names with a key, of the ids with one, or of the groups that the entry in a block owns
pub data Chain : Type 0 where
  ByName : (key : ℕ) → Chain
  ById : (key : ℕ) → Chain
  Owned : (k : ℕ) → Chain

abbrev pub next_of : Chain → ℕ
next_of (ByName key) = 96
next_of (ById key) = 100
next_of (Owned k) = 104

abbrev pub links_of : Chain → Links
links_of c = entry_links (next_of c)

abbrev pub place_of : Chain → ℕ
place_of (ByName key) = name_place key
place_of (ById key) = id_place key
place_of (Owned k) = owned_place k

-- a block is an entry's
pub record IsEntry (image : List ℕ) (k : ℕ) : Type 0 where
  pub below : k < block_count image
  pub kind : kind_of (block_in image k) ≡ 1

-- there is such a chain
abbrev pub IsChain : List ℕ → Chain → Type 0
IsChain u (ByName key) = key < 256
IsChain u (ById key) = key < 256
IsChain u (Owned k) = IsEntry u k

-- Without the words of chains the image is this one. Each of its chains visits these words, that of the free blocks has these, and no word
-- stands in an owner's chain behind these entries.
pub record IsLinked (image u : List ℕ) (M : Chain → ℕ → Type 0) (U : ℕ → Type 0) (fs : List ℕ) : Type 0 where
  pub whole : IsWhole 2112 image
  pub same : unchained image ≡ u
  pub chains : (c : Chain) → IsChain u c → Visits (links_of c) image (place_of c) (M c)
  pub unused : (k : ℕ) → k < block_count u → U k → word_at image (block_place k + 104) ≡ 0
  pub free : HasChain (free_links free_blocks) image 20 fs

-- the words with one more in a chain
abbrev pub Also : (c : Chain) → (n : ℕ) → (Chain → ℕ → Type 0) → Chain → ℕ → Type 0
Also c n M = λ d w. M d w ⊎ ((d ≡ c) × (w ≡ n))

-- the entries but one that comes into an owner's chain
abbrev pub NotAlso : (c : Chain) → (n : ℕ) → (ℕ → Type 0) → ℕ → Type 0
NotAlso c n U = λ k. U k × (next_of c ≡ 104 → k ≢ n - 1)

pub linked_as : (image u : List ℕ) (M N : Chain → ℕ → Type 0) (U V : ℕ → Type 0) (fs : List ℕ)
    → ((c : Chain) (w : ℕ) → IsChain u c → M c w → N c w) → ((c : Chain) (w : ℕ) → IsChain u c → N c w → M c w)
    → ((k : ℕ) → k < block_count u → V k → U k) → IsLinked image u M U fs → IsLinked image u N V fs
linked_as image u M N U V fs there back less l = record {
  whole = l.whole;
  same = l.same;
  chains = λ c is.
      visits_as (links_of c) image (place_of c) (M c) (N c) (λ w has. there c w is has) (λ w belongs. back c w is belongs) (l.chains c is);
  unused = λ k below is. l.unused k below (less k below is);
  free = l.free;
}

-- ---- what lies apart

pub low : (c : Chain) → next_of c ≤ 104
low (ByName key) = omega arith
low (ById key) = omega arith
low (Owned k) = omega arith

pub high : (c : Chain) → 96 ≤ next_of c
high (ByName key) = omega arith
high (ById key) = omega arith
high (Owned k) = omega arith

pub links_are : (c : Chain) → AreLinks (links_of c)
links_are c =
    let most = low c in
    let least = high c in
    record { head = omega arith; step = omega arith; mark = omega arith; within = omega arith }

pub free_are : AreLinks (free_links free_blocks)
free_are = record { head = omega arith; step = omega arith; mark = omega arith; within = omega arith }

pub head_place : (u : List ℕ) (next : ℕ) (c : Chain) → IsChain u c → next ≤ 104 → IsHeadPlace (entry_links next) (place_of c)
head_place u next (ByName key) is most = inl (omega arith)
head_place u next (ById key) is most = inl (omega arith)
head_place u next (Owned k) is most = inr (k, 108, refl, omega arith, omega arith, inr (omega arith))

-- a chain begins within the image
pub place_within : (u image : List ℕ) (c : Chain) → IsWhole 2112 image → block_count u ≡ block_count image → IsChain u c
    → place_of c + 4 ≤ length image
place_within u image (ByName key) whole count is = omega (arith, whole)
place_within u image (ById key) whole count is = omega (arith, whole)
place_within u image (Owned k) whole count is = omega (arith, whole, is.below)

-- two chains lie apart, as those of one sort, or are of two sorts
abbrev pub AreBeside : (c d : Chain) → Type 0
AreBeside c d =
    ((next_of c ≡ next_of d) × AreApart (place_of c) (place_of d)) ⊎ AreOtherSorts (links_of c) (links_of d) (place_of c) (place_of d)

sorts : (u : List ℕ) (c d : Chain) → IsChain u c → IsChain u d → (next_of c + 4 ≤ next_of d) ⊎ (next_of d + 4 ≤ next_of c)
    → AreApart (place_of c) (place_of d) → AreOtherSorts (links_of c) (links_of d) (place_of c) (place_of d)
sorts u c d is_c is_d next apart = record {
  head = refl;
  next = ⊎_elim (λ (a : next_of c + 4 ≤ next_of d). inl (omega arith)) (λ (b : next_of d + 4 ≤ next_of c). inr (omega arith)) next;
  places = apart;
  first = head_place u (next_of d) c is_c (low d);
  second = head_place u (next_of c) d is_d (low c);
}

by_four : (at a b : ℕ) → a ≢ b → AreApart (at + 4 * a) (at + 4 * b)
by_four at a b other =
    ⊎_elim (λ (same : a ≡ b). absurd (other same))
    (λ (order : (a < b) ⊎ (b < a)). ⊎_elim (λ (less : a < b). inl (omega arith)) (λ (more : b < a). inr (omega arith)) order)
    (cases_order a b)

by_block : (a b : ℕ) → a ≢ b → AreApart (owned_place a) (owned_place b)
by_block a b other =
    ⊎_elim (λ (same : a ≡ b). absurd (other same))
    (λ (order : (a < b) ⊎ (b < a)). ⊎_elim (λ (less : a < b). inl (omega arith)) (λ (more : b < a). inr (omega arith)) order)
    (cases_order a b)

pub besides : (u : List ℕ) (c d : Chain) → IsChain u c → IsChain u d → (c ≡ d) ⊎ AreBeside c d
besides u (ByName a) (ByName b) is_c is_d =
    ⊎_elim (λ (same : a ≡ b). inl (ap ByName same)) (λ (other : a ≢ b). inr (inl (refl, by_four 64 a b other))) (cases_eq a b)
besides u (ByName a) (ById b) is_c is_d = inr (inr (sorts u (ByName a) (ById b) is_c is_d (inl (omega arith)) (inl (omega arith))))
besides u (ByName a) (Owned b) is_c is_d = inr (inr (sorts u (ByName a) (Owned b) is_c is_d (inl (omega arith)) (inl (omega arith))))
besides u (ById a) (ByName b) is_c is_d = inr (inr (sorts u (ById a) (ByName b) is_c is_d (inr (omega arith)) (inr (omega arith))))
besides u (ById a) (ById b) is_c is_d =
    ⊎_elim (λ (same : a ≡ b). inl (ap ById same)) (λ (other : a ≢ b). inr (inl (refl, by_four 1088 a b other))) (cases_eq a b)
besides u (ById a) (Owned b) is_c is_d = inr (inr (sorts u (ById a) (Owned b) is_c is_d (inl (omega arith)) (inl (omega arith))))
besides u (Owned a) (ByName b) is_c is_d = inr (inr (sorts u (Owned a) (ByName b) is_c is_d (inr (omega arith)) (inr (omega arith))))
besides u (Owned a) (ById b) is_c is_d = inr (inr (sorts u (Owned a) (ById b) is_c is_d (inr (omega arith)) (inr (omega arith))))
besides u (Owned a) (Owned b) is_c is_d =
    ⊎_elim (λ (same : a ≡ b). inl (ap Owned same)) (λ (other : a ≢ b). inr (inl (refl, by_block a b other))) (cases_eq a b)

-- so they are two
pub beside_differ : (c d : Chain) → AreBeside c d → d ≡ c → ⊥
beside_differ c d beside same =
    ⊎_elim
    (λ (one : (next_of c ≡ next_of d) × AreApart (place_of c) (place_of d)).
    let place : place_of d ≡ place_of c = ap place_of same in
    ⊎_elim (λ (a : place_of c + 4 ≤ place_of d). absurd (omega arith)) (λ (b : place_of d + 4 ≤ place_of c). absurd (omega arith)) one.1)
    (λ (two : AreOtherSorts (links_of c) (links_of d) (place_of c) (place_of d)).
    let next : next_of d ≡ next_of c = ap next_of same in
    ⊎_elim (λ (a : next_of c + 4 * 1 ≤ next_of d). absurd (omega arith)) (λ (b : next_of d + 4 * 1 ≤ next_of c). absurd (omega arith))
    two.next)
    beside

-- the chain of the free blocks is of another sort
pub free_sort : (u : List ℕ) (c : Chain) → IsChain u c → AreOtherSorts (links_of c) (free_links free_blocks) (place_of c) 20
free_sort u (ByName key) is =
    record { head = refl; next = inr (omega arith); places = inr (omega arith); first = inl (omega arith); second = inl (omega arith) }
free_sort u (ById key) is =
    record { head = refl; next = inr (omega arith); places = inr (omega arith); first = inl (omega arith); second = inl (omega arith) }
free_sort u (Owned k) is = record {
  head = refl;
  next = inr (omega arith);
  places = inr (omega arith);
  first = inr (k, 108, refl, omega arith, omega arith, inr (omega arith));
  second = inl (omega arith);
}

-- the words that chains begin with, and the next words, beside a next word in an owner's chain
pub place_clear : (u : List ℕ) (c : Chain) (k : ℕ) → IsChain u c → IsApart (place_of c) 4 (block_place k + 104)
place_clear u (ByName key) k is = inr (omega arith)
place_clear u (ById key) k is = inr (omega arith)
place_clear u (Owned j) k is = blocks_apart 2112 j k 108 104 (omega arith) (omega arith) (λ one. inr (omega arith))

pub next_clear : (next n k : ℕ) → next ≤ 104 → 0 < n → (next ≡ 104 → k ≢ n - 1) → (next + 4 ≤ 104) ⊎ (next ≡ 104)
    → IsApart (next_place (entry_links next) n) 4 (block_place k + 104)
next_clear next n k most some other kind =
    let one : n / 1 ≡ n = omega arith in
    let rest : n % 1 ≡ 0 = omega arith in
    let place : next_place (entry_links next) n ≡ 2112 + 192 * (n - 1) + next = omega (arith, one, rest) in
    subst (λ (p : ℕ). IsApart p 4 (block_place k + 104)) (sym place)
    (blocks_apart 2112 (n - 1) k next 104 (omega arith) (omega arith)
    (λ same. ⊎_elim (λ (before : next + 4 ≤ 104). inl (omega arith)) (λ (is : next ≡ 104). absurd (other is (sym same))) kind))

pub kinds : (c : Chain) → (next_of c + 4 ≤ 104) ⊎ (next_of c ≡ 104)
kinds (ByName key) = inl (omega arith)
kinds (ById key) = inl (omega arith)
kinds (Owned k) = inr refl

-- ---- a word that may come in

right_from : (l : Links) (image : List ℕ) (w : ℕ) → l.head ≡ 2112 → 0 < w / l.step → w / l.step ≤ block_count image
    → w % l.step < l.kinds → word_at image (mark_place l w) ≡ l.mark → is_right l image w ≡ true
unfolding is_right
right_from l image w head some within kind mark =
    let count = ap (λ (h : ℕ). (length image - h) / 192) head in
    and_from (names_block l ((length image - l.head) / 192) w) (word_at image (mark_place l w) == l.mark)
    (names_from l ((length image - l.head) / 192) w record { some = some; block = omega (arith, count); kind = kind })
    (eq-eqb (word_at image (mark_place l w)) l.mark mark)

pub linked_count : (image u : List ℕ) (M : Chain → ℕ → Type 0) (U : ℕ → Type 0) (fs : List ℕ) → IsLinked image u M U fs
    → block_count u ≡ block_count image
linked_count image u M U fs l = ap block_count (sym l.same) ∙ unchained_count image l.whole

-- a block of the image is an entry's where it is one without the words of chains
pub entry_here : (image u : List ℕ) (M : Chain → ℕ → Type 0) (U : ℕ → Type 0) (fs : List ℕ) (k : ℕ) → IsLinked image u M U fs
    → IsEntry u k → IsEntry image k
entry_here image u M U fs k l is =
    let below : k < block_count image = omega (arith, is.below, linked_count image u M U fs l) in record {
      below = below;
      kind = sym (unchained_kind image k l.whole below) ∙ ap (λ (i : List ℕ). kind_of (block_in i k)) l.same ∙ is.kind;
    }

pub right_here : (image : List ℕ) (c : Chain) (n : ℕ) → IsEntry image (n - 1) → 0 < n → is_right (links_of c) image n ≡ true
right_here image c n is some =
    let one : n / 1 ≡ n = omega arith in
    let rest : n % 1 ≡ 0 = omega arith in
    let place : mark_place (links_of c) n ≡ 2112 + 192 * (n - 1) = omega (arith, one) in
    right_from (links_of c) image n refl (omega (arith, one)) (omega (arith, one, is.below)) (omega arith)
    (ap (word_at image) place ∙ sym (block_mark 2112 (n - 1) image) ∙ is.kind)

-- where a chain begins is a place of a word of a chain
pub entry_place : (image u : List ℕ) (M : Chain → ℕ → Type 0) (U : ℕ → Type 0) (fs : List ℕ) (c : Chain) → IsLinked image u M U fs
    → IsChain u c → IsEntryPlace image (place_of c)
entry_place image u M U fs (ByName key) l is = inl (omega arith, omega arith)
entry_place image u M U fs (ById key) l is = inl (omega arith, omega arith)
entry_place image u M U fs (Owned k) l is =
    let e = entry_here image u M U fs k l is in
    inr (k, record { offset = 108; place = refl; below = e.below; kind = e.kind; from = omega arith; to = omega arith })

put_len : (l : Links) (image : List ℕ) (at w : ℕ) → at + 4 ≤ length image → next_place l w + 4 ≤ length image
    → length (put_in l at w image) ≡ length image
unfolding put_in
put_len l image at w in_at in_next =
    let size = word_len image (next_place l w) (word_at image at) in_next in
    word_len (put_word (next_place l w) (word_at image at) image) at w (omega arith) ∙ size

-- ---- a word comes in front of a chain

-- what a chain beside it visits stays
put_beside_it : (image u : List ℕ) (M : Chain → ℕ → Type 0) (U : ℕ → Type 0) (fs : List ℕ) (c d : Chain) (n : ℕ) → IsLinked image u M U fs
    → IsChain u c → IsChain u d → AreBeside c d → is_right (links_of c) image n ≡ true
    → ((e : Chain) → IsChain u e → next_of e ≡ next_of c → M e n → ⊥)
    → Visits (links_of d) (put_in (links_of c) (place_of c) n image) (place_of d) (M d)
put_beside_it image u M U fs c d n l is_c is_d beside right never =
    let count = linked_count image u M U fs l in
    let own = l.chains c is_c in
    let v = l.chains d is_d in
    let at = place_of c in
    let bt = place_of d in
    let head = head_place u (next_of c) c is_c (low c) in
    let within = place_within u image c l.whole count is_c in
    let also = place_within u image d l.whole count is_d in
    ⊎_elim
    (λ (one : (next_of c ≡ next_of d) × AreApart at bt).
    subst (λ (m : ℕ). Visits (entry_links m) (put_in (links_of c) at n image) bt (M d)) one.0
    (put_same_sort (links_of c) image at bt n own.words (M d) (links_are c) one.1 head (head_place u (next_of c) d is_d (low c)) within also
    right (never d is_d (sym one.0)) own.chain (subst (λ (m : ℕ). Visits (entry_links m) image bt (M d)) (sym one.0) v)))
    (λ (two : AreOtherSorts (links_of c) (links_of d) at bt).
    put_other_visits (links_of c) (links_of d) image at bt n own.words (M d) (links_are c) (links_are d) two head within also right
    own.chain v)
    beside

put_visits : (image u : List ℕ) (M : Chain → ℕ → Type 0) (U : ℕ → Type 0) (fs : List ℕ) (c d : Chain) (n : ℕ) → IsLinked image u M U fs
    → IsChain u c → IsChain u d → is_right (links_of c) image n ≡ true
    → ((e : Chain) → IsChain u e → next_of e ≡ next_of c → M e n → ⊥)
    → Visits (links_of d) (put_in (links_of c) (place_of c) n image) (place_of d) (Also c n M d)
put_visits image u M U fs c d n l is_c is_d right never =
    let new = put_in (links_of c) (place_of c) n image in
    ⊎_elim
    (λ (same : c ≡ d).
    subst (λ (e : Chain). Visits (links_of e) new (place_of e) (Also c n M e)) same
    (visits_as (links_of c) new (place_of c) (λ w. M c w ⊎ (w ≡ n)) (Also c n M c)
    (λ w has. ⊎_elim (λ (old : M c w). inl old) (λ (is : w ≡ n). inr (refl, is)) has)
    (λ w has. ⊎_elim (λ (old : M c w). inl old) (λ (is : (c ≡ c) × (w ≡ n)). inr is.1) has)
    (put_own (links_of c) image (place_of c) n (M c) (links_are c) (head_place u (next_of c) c is_c (low c))
    (place_within u image c l.whole (linked_count image u M U fs l) is_c) right (never c is_c refl) (l.chains c is_c))))
    (λ (beside : AreBeside c d).
    visits_as (links_of d) new (place_of d) (M d) (Also c n M d) (λ w has. inl has)
    (λ w has. ⊎_elim (λ (old : M d w). old) (λ (is : (d ≡ c) × (w ≡ n)). absurd (beside_differ c d beside is.0)) has)
    (put_beside_it image u M U fs c d n l is_c is_d beside right never))
    (besides u c d is_c is_d)

pub put_linked : (image u : List ℕ) (M : Chain → ℕ → Type 0) (U : ℕ → Type 0) (fs : List ℕ) (c : Chain) (n : ℕ) → IsLinked image u M U fs
    → IsChain u c → IsEntry u (n - 1) → 0 < n → ((e : Chain) → IsChain u e → next_of e ≡ next_of c → M e n → ⊥)
    → IsLinked (put_in (links_of c) (place_of c) n image) u (Also c n M) (NotAlso c n U) fs
put_linked image u M U fs c n l is entry some never =
    let m = links_of c in
    let at = place_of c in
    let count = linked_count image u M U fs l in
    let own = l.chains c is in
    let right = right_here image c n (entry_here image u M U fs (n - 1) l entry) some in
    let head = head_place u (next_of c) c is (low c) in
    let within = place_within u image c l.whole count is in
    let room = (next_within m image n (links_are c) right).0 in
    let size = put_len m image at n within room in
    record {
      whole = omega (arith, size, l.whole);
      same = put_beside (next_of c) image at n (high c) (omega (arith, low c)) l.whole (entry_place image u M U fs c l is) right ∙ l.same;
      chains = λ d is_d. put_visits image u M U fs c d n l is is_d right never;
      unused = λ k below kept.
          word_beside m m image at (block_place k + 104) n [] own.words [] (links_are c) (links_are c) head within
          (omega (arith, below, count, l.whole)) own.chain right (l.unused k below kept.0)
          record { first = place_clear u c k is; words = tt }
          record { first = next_clear (next_of c) n k (low c) some kept.1 (kinds c); words = tt } tt;
      free = put_sorts m (free_links free_blocks) image at 20 n [] own.words fs (links_are c) free_are (free_sort u c is) head within
          (omega (arith, l.whole)) own.chain right l.free;
    }
