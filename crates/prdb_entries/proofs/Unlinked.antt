-- What stays of the chains of an image where a word goes out of one.
use Rattle.std.proofs.Common.{◌≡◌, ◌≢◌, ℕ, ◌+◌, ◌-◌, ◌/◌, ◌%◌, ◌<◌, ◌≤◌, ◌⊎◌, ⊎_elim, true, List, [], ◌∷◌, ◌++◌, length, refl, sym, ap, subst, ◌∙◌, arith}
use Rattle.std.specs.List.{Contains}
use Rattle.db_blocks.specs.Blocks.{word_at}
use Rattle.db_chains.specs.declared.links.Links.{Links}
use Rattle.db_chains.specs.Chains.{HasChain}
use Rattle.db_chains.specs.Changes.{put_word, taken_out, without}
use Rattle.db_chains.specs.Free.{free_links}
use Rattle.db_chains.specs.Links.{is_right, next_place}
use Rattle.db_chains.specs.Others.{AreApart, AreOtherSorts}
use Rattle.db_chains.specs.Walks.{place_behind}
use Rattle.db_chains.proofs.Bytes.{IsApart, word_here, word_len}
use Rattle.db_chains.proofs.Changed.{behind_free, head_free, next_within, stands_behind}
use Rattle.db_chains.proofs.Entered.{visits_as}
use Rattle.db_chains.proofs.Leaving.{Stands, all_of, in_front, place_kind, stands, take_other_sort, take_other_visits, take_own, take_same_sort}
use Rattle.db_chains.proofs.Others.{IsClear, taken_beside as word_beside}
use Rattle.prdb_layout.specs.Records.{block_place}
use Rattle.prdb_finds.specs.Places.{IsEntryPlace, entry_links, free_blocks}
use Rattle.db_chains.specs.Visits.{Visits}
use Rattle.prdb_finds.specs.Unchained.{unchained}
use Rattle.prdb_finds.proofs.Beside.{next_is, taken_beside}
use Rattle.prdb_entries.proofs.Linked.{AreBeside, Chain, IsChain, IsLinked, beside_differ, besides, entry_place, free_are, free_sort, head_place, high, kinds, linked_count, links_are, links_of, low, next_clear, next_of, place_clear, place_of, place_within}

-- the words without one of a sort
abbrev pub Less : (c : Chain) → (n : ℕ) → (Chain → ℕ → Type 0) → Chain → ℕ → Type 0
Less c n M = λ d w. M d w × (next_of d ≡ next_of c → w ≢ n)

-- the entries with one more that stands in no owner's chain
abbrev pub NowAlso : (c : Chain) → (n : ℕ) → (ℕ → Type 0) → ℕ → Type 0
NowAlso c n U = λ k. U k ⊎ ((next_of c ≡ 104) × (k ≡ n - 1))

-- No word stands in two chains of one sort, none is 0, and none in an owner's chain that stands in none.
pub record AreWords (u : List ℕ) (M : Chain → ℕ → Type 0) (U : ℕ → Type 0) : Type 0 where
  pub one : (c d : Chain) (w : ℕ) → IsChain u c → IsChain u d → next_of c ≡ next_of d → M c w → M d w → c ≡ d
  pub some : (c : Chain) (w : ℕ) → IsChain u c → M c w → 0 < w
  pub never : (c : Chain) (w : ℕ) → IsChain u c → next_of c ≡ 104 → M c w → U (w - 1) → ⊥

-- ---- the bytes

out_len : (l : Links) (image : List ℕ) (at n : ℕ) → at + 4 ≤ length image → next_place l n + 4 ≤ length image → word_at image at ≡ n
    → length (taken_out l at image) ≡ length image
unfolding taken_out
out_len l image at n in_at in_next is =
    let size = word_len image at (word_at image (next_place l n)) in_at in
    subst (λ (v : ℕ). length (put_word (next_place l v) 0 (put_word at (word_at image (next_place l v)) image)) ≡ length image) (sym is)
    (word_len (put_word at (word_at image (next_place l n)) image) (next_place l n) 0 (omega arith) ∙ size)

-- behind the word stands nothing then
out_next : (l : Links) (image : List ℕ) (at n : ℕ) → at + 4 ≤ length image → next_place l n + 4 ≤ length image → word_at image at ≡ n
    → word_at (taken_out l at image) (next_place l n) ≡ 0
unfolding taken_out
out_next l image at n in_at in_next is =
    let size = word_len image at (word_at image (next_place l n)) in_at in
    subst (λ (v : ℕ). word_at (put_word (next_place l v) 0 (put_word at (word_at image (next_place l v)) image)) (next_place l n) ≡ 0)
    (sym is)
    (word_here (put_word at (word_at image (next_place l n)) image) (next_place l n) 0 (omega arith))

-- ---- a word goes out of a chain

-- what a chain beside it visits stays
out_beside : (image u : List ℕ) (M : Chain → ℕ → Type 0) (U : ℕ → Type 0) (fs : List ℕ) (c d : Chain) (n : ℕ) → IsLinked image u M U fs
    → AreWords u M U → IsChain u c → IsChain u d → AreBeside c d → M c n → Stands (links_of c) image (place_of c) n (M c)
    → Visits (links_of d) (without (links_of c) (place_of c) n image) (place_of d) (Less c n M d)
out_beside image u M U fs c d n l are is_c is_d beside belongs s =
    let count = linked_count image u M U fs l in
    let at = place_of c in
    let bt = place_of d in
    let m = links_of c in
    let new = without m at n image in
    let v = l.chains d is_d in
    let head = head_place u (next_of c) c is_c (low c) in
    let within = place_within u image c l.whole count is_c in
    let also = place_within u image d l.whole count is_d in
    let never : (w : ℕ) → next_of c ≡ next_of d → M c w → M d w → ⊥ =
    λ w next x y. beside_differ c d beside (sym (are.one c d w is_c is_d next x y)) in
    ⊎_elim
    (λ (one : (next_of c ≡ next_of d) × AreApart at bt).
    visits_as (links_of d) new bt (λ w. M d w × (w ≢ n)) (Less c n M d) (λ w has. (has.0, λ next. has.1))
    (λ w has. (has.0, has.1 (sym one.0)))
    (subst (λ (k : ℕ). Visits (entry_links k) new bt (λ w. M d w × (w ≢ n))) one.0
    (take_same_sort m image at bt n (M c) (M d) (links_are c) one.1 head (head_place u (next_of c) d is_d (low c)) within also belongs
    (λ w x y. never w one.0 x y) s (subst (λ (k : ℕ). Visits (entry_links k) image bt (M d)) (sym one.0) v))))
    (λ (two : AreOtherSorts m (links_of d) at bt).
    visits_as (links_of d) new bt (M d) (Less c n M d) (λ w has. (has, λ next same. never n (sym next) belongs (subst (M d) same has)))
    (λ w has. has.0)
    (take_other_visits m (links_of d) image at bt n (M c) (M d) (links_are c) (links_are d) two head within also s v))
    beside

out_visits : (image u : List ℕ) (M : Chain → ℕ → Type 0) (U : ℕ → Type 0) (fs : List ℕ) (c d : Chain) (n : ℕ) → IsLinked image u M U fs
    → AreWords u M U → IsChain u c → IsChain u d → M c n → Stands (links_of c) image (place_of c) n (M c)
    → Visits (links_of d) (without (links_of c) (place_of c) n image) (place_of d) (Less c n M d)
out_visits image u M U fs c d n l are is_c is_d belongs s =
    let at = place_of c in
    let new = without (links_of c) at n image in
    ⊎_elim
    (λ (same : c ≡ d).
    subst (λ (e : Chain). Visits (links_of e) new (place_of e) (Less c n M e)) same
    (visits_as (links_of c) new at (λ w. M c w × (w ≢ n)) (Less c n M c) (λ w has. (has.0, λ next. has.1))
    (λ w has. (has.0, has.1 refl))
    (take_own (links_of c) image at n (M c) (links_are c) (head_place u (next_of c) c is_c (low c))
    (place_within u image c l.whole (linked_count image u M U fs l) is_c) s)))
    (λ (beside : AreBeside c d). out_beside image u M U fs c d n l are is_c is_d beside belongs s)
    (besides u c d is_c is_d)

pub out_linked : (image u : List ℕ) (M : Chain → ℕ → Type 0) (U : ℕ → Type 0) (fs : List ℕ) (c : Chain) (n : ℕ) → IsLinked image u M U fs
    → AreWords u M U → IsChain u c → M c n → IsLinked (without (links_of c) (place_of c) n image) u (Less c n M) (NowAlso c n U) fs
out_linked image u M U fs c n l are is belongs =
    let m = links_of c in
    let at = place_of c in
    let links = links_are c in
    let count = linked_count image u M U fs l in
    let s = stands m image at n (M c) links (l.chains c is) belongs in
    let p = place_behind m at s.front in
    let new = without m at n image in
    let head = head_place u (next_of c) c is (low c) in
    let within = place_within u image c l.whole count is in
    let there = stands_behind m image at n s.front s.back s.chain in
    let in_p = (behind_free m image at s.front (n ∷ s.back) links (head_free m image at links head within) s.chain).within in
    let in_next = (next_within m image n links there.1).0 in
    let size : length new ≡ length image = ap length s.out ∙ out_len m image p n in_p in_next there.0 in
    let some = are.some c n is belongs in
    let one : n / 1 ≡ n = omega arith in
    let rest : n % 1 ≡ 0 = omega arith in
    let place : IsEntryPlace image p =
    ⊎_elim (λ (first : p ≡ at). subst (IsEntryPlace image) (sym first) (entry_place image u M U fs c l is))
    (λ (behind : (v : ℕ) × (p ≡ next_place m v) × (is_right m image v ≡ true) × Contains s.front v).
    subst (IsEntryPlace image) (sym behind.1) (next_is (next_of c) image behind.0 (high c) (omega (arith, low c)) behind.2))
    (place_kind m image at s.front (n ∷ s.back) s.chain) in
    let clear : (k w : ℕ) → U k → M c w → IsApart (next_place m w) 4 (block_place k + 104) =
    λ k w free has. next_clear (next_of c) w k (low c) (are.some c w is has)
    (λ e same. are.never c w is e has (subst U same free)) (kinds c) in
    record {
      whole = omega (arith, size, l.whole);
      same = ap unchained s.out
          ∙ taken_beside (next_of c) image p (high c) (omega (arith, low c)) l.whole place (ap (is_right m image) there.0 ∙ there.1)
          ∙ l.same;
      chains = λ d is_d. out_visits image u M U fs c d n l are is is_d belongs s;
      unused = λ k below kept.
          ap (λ (i : List ℕ). word_at i (block_place k + 104)) s.out
          ∙ ⊎_elim
          (λ (was : U k).
          word_beside m m image at (block_place k + 104) n s.front s.back [] links links head within
          (omega (arith, below, count, l.whole)) s.chain (l.unused k below was)
          record { first = place_clear u c k is; words = tt } record { first = clear k n was belongs; words = tt }
          (all_of (λ f. IsClear m (block_place k + 104) [] (next_place m f)) s.front
          (λ f has. record { first = clear k f was (s.only f (in_front f s.front (n ∷ s.back) has)); words = tt })))
          (λ (now : (next_of c ≡ 104) × (k ≡ n - 1)).
          let q : block_place k + 104 ≡ next_place m n = omega (arith, now.0, now.1, one, rest) in
          ap (word_at (taken_out m p image)) q ∙ out_next m image p n in_p in_next there.0)
          kept;
      free = take_other_sort m (free_links free_blocks) image at 20 n (M c) fs links free_are (free_sort u c is) head within
          (omega (arith, l.whole)) s l.free;
    }

-- a word of a chain stands in it
pub word_there : (image u : List ℕ) (M : Chain → ℕ → Type 0) (U : ℕ → Type 0) (fs : List ℕ) (c : Chain) (n : ℕ) → IsLinked image u M U fs
    → IsChain u c → M c n → (front back : List ℕ) × HasChain (links_of c) image (place_of c) (front ++ n ∷ back)
word_there image u M U fs c n l is belongs =
    let s = stands (links_of c) image (place_of c) n (M c) (links_are c) (l.chains c is) belongs in (s.front, s.back, s.chain)
