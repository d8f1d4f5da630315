-- What a word that goes out of a chain leaves of an image.
use Rattle.std.proofs.Common.{◌≡◌, ◌≢◌, ℕ, ◌+◌, ◌*◌, ◌<◌, ◌≤◌, ◌⊎◌, inl, inr, ⊎_elim, true, List, ◌∷◌, ◌++◌, length, take, refl, sym, ap, subst, ◌∙◌, arith}
use Rattle.std.specs.List.{Contains}
use Rattle.db_blocks.specs.Blocks.{IsWhole, block_count, block_place, word_at, kind_of}
use Rattle.db_chains.specs.declared.links.Links.{Links}
use Rattle.db_chains.specs.Chains.{HasChain}
use Rattle.db_chains.specs.Changes.{put_word, taken_out, without}
use Rattle.db_chains.specs.Links.{AreLinks, block_of, is_right, next_in, next_place}
use Rattle.db_chains.specs.Walks.{place_behind}
use Rattle.db_chains.proofs.Bytes.{IsApart, word_len, word_put, word_stays}
use Rattle.db_chains.proofs.Changed.{behind_free, head_free, next_within, stands_behind}
use Rattle.db_chains.proofs.Framed.{block_mark}
use Rattle.db_chains.proofs.Words.{right, right_names}
use Rattle.vldb_chains.specs.Places.{id_links, name_links}
use Rattle.vldb_entries.specs.Forms.{block_at, blocks_in}
use Rattle.vldb_records.specs.Records.{unlinked, unlinked_head}
use Rattle.vldb_records.proofs.Fields.{block_len, number_stays}
use Rattle.vldb_records.proofs.HeadSet.{ids_are, name_are}
use Rattle.db_chains.proofs.Leaving.{Stands, in_front, place_kind}
use Rattle.vldb_records.proofs.Stays.{count_same, keeps_block, keeps_head, whole_on}

-- The image is another one only in the words of chains: in its head, and in entries' blocks.
pub record KeepsEntries (old new : List ℕ) : Type 0 where
  pub size : length new ≡ length old
  pub head : unlinked_head (take 3132 new) ≡ unlinked_head (take 3132 old)
  pub forms : (j : ℕ) → j < blocks_in old → unlinked (block_at new j) ≡ unlinked (block_at old j)
  pub others : (j : ℕ) → j < blocks_in old → kind_of (block_at old j) ≢ 1 → block_at new j ≡ block_at old j

pub entries_stay : (image : List ℕ) → KeepsEntries image image
entries_stay image = record { size = refl; head = refl; forms = λ j less. refl; others = λ j less other. refl }

pub kind_stays : (old new : List ℕ) (j : ℕ) → IsWhole 3132 old → KeepsEntries old new → j < blocks_in old
    → kind_of (block_at new j) ≡ kind_of (block_at old j)
kind_stays old new j whole kept below =
    let count : blocks_in new ≡ blocks_in old = count_same old new kept.size in
    number_stays (block_at new j) 0 (block_len new j (whole_on old new whole kept.size) (omega arith)) (omega arith)
    ∙ ap kind_of (kept.forms j below) ∙ sym (number_stays (block_at old j) 0 (block_len old j whole below) (omega arith))

pub entries_then : (a b c : List ℕ) → IsWhole 3132 a → KeepsEntries a b → KeepsEntries b c → KeepsEntries a c
entries_then a b c whole first second =
    let count : blocks_in b ≡ blocks_in a = count_same a b first.size in record {
      size = second.size ∙ first.size;
      head = second.head ∙ first.head;
      forms = λ j less. second.forms j (omega arith) ∙ first.forms j less;
      others = λ j less other.
          second.others j (omega arith) (λ one. other (sym (kind_stays a b j whole first less) ∙ one)) ∙ first.others j less other;
    }

-- ---- places of words of chains

abbrev IsNextPlace : List ℕ → ℕ → Type 0
IsNextPlace image p =
    (j o : ℕ) × (p ≡ block_place 3132 j + o) × (j < blocks_in image) × (36 ≤ o) × (o + 4 ≤ 52) × (kind_of (block_at image j) ≡ 1)

-- the first word of a chain stands here, or a next word of an entry's block
abbrev IsLinkPlace : List ℕ → ℕ → Type 0
IsLinkPlace image p = ((1084 ≤ p) × (p + 4 ≤ 3132)) ⊎ IsNextPlace image p

link_stays : (old new : List ℕ) (p : ℕ) → IsWhole 3132 old → KeepsEntries old new → IsLinkPlace old p → IsLinkPlace new p
link_stays old new p whole kept place =
    let count : blocks_in new ≡ blocks_in old = count_same old new kept.size in
    ⊎_elim (λ (first : (1084 ≤ p) × (p + 4 ≤ 3132)). inl first)
    (λ (next : IsNextPlace old p).
    let below = next.3 in
    inr (next.0, next.1, next.2, omega arith, next.4, next.5, kind_stays old new next.0 whole kept next.3 ∙ next.6))
    place

keeps_word : (image : List ℕ) (p v : ℕ) → IsWhole 3132 image → IsLinkPlace image p → KeepsEntries image (put_word p v image)
keeps_word image p v whole place =
    ⊎_elim
    (λ (first : (1084 ≤ p) × (p + 4 ≤ 3132)).
    let kept = keeps_head (blocks_in image) p v image whole first.0 first.1 in record {
      size = kept.size;
      head = kept.head;
      forms = kept.forms;
      others = λ j less other. kept.others j less (λ same. omega arith);
    })
    (λ (next : IsNextPlace image p).
    let kept = keeps_block next.0 next.1 v image whole next.3 next.4 next.5 in
    subst (λ (q : ℕ). KeepsEntries image (put_word q v image)) (sym next.2) record {
      size = kept.size;
      head = kept.head;
      forms = kept.forms;
      others = λ j less other. kept.others j less (λ same. other (ap (λ (i : ℕ). kind_of (block_at image i)) same ∙ next.6));
    })
    place

-- ---- chains of entries

-- the next words of this sort stand in entries' blocks
pub record AreEntries (l : Links) : Type 0 where
  pub links : AreLinks l
  pub head : l.head ≡ 3132
  pub mark : l.mark ≡ 1
  pub low : 36 ≤ l.next
  pub high : l.next + 4 * l.kinds ≤ 52

pub names_entries : AreEntries name_links
names_entries = record { links = name_are; head = refl; mark = refl; low = omega arith; high = omega arith }

pub ids_entries : AreEntries id_links
ids_entries = record { links = ids_are; head = refl; mark = refl; low = omega arith; high = omega arith }

right_next : (l : Links) (image : List ℕ) (v : ℕ) → AreEntries l → is_right l image v ≡ true → IsNextPlace image (next_place l v)
right_next l image v are is =
    let n = right_names l image v is in
    let count : block_count l.head image ≡ blocks_in image = ap (λ (h : ℕ). block_count h image) are.head in (
      block_of l v,
      next_in l v,
      ap (λ (h : ℕ). block_place h (block_of l v) + next_in l v) are.head,
      omega (arith, n.some, n.block, count),
      omega (arith, are.low),
      omega (arith, n.kind, are.high),
      block_mark 3132 (block_of l v) image ∙ ap (λ (h : ℕ). word_at image (block_place h (block_of l v))) (sym are.head)
          ∙ (right l image v is).mark ∙ are.mark,
    )

chain_place : (l : Links) (image : List ℕ) (at : ℕ) (front back : List ℕ) → AreEntries l → 1084 ≤ at → at + 4 ≤ 3132
    → HasChain l image at (front ++ back) → IsLinkPlace image (place_behind l at front)
chain_place l image at front back are from within chain =
    ⊎_elim (λ (first : place_behind l at front ≡ at). subst (λ (p : ℕ). IsLinkPlace image p) (sym first) (inl (from, within)))
    (λ (behind : (v : ℕ) × (place_behind l at front ≡ next_place l v) × (is_right l image v ≡ true) × Contains front v).
    subst (λ (p : ℕ). IsLinkPlace image p) (sym behind.1) (inr (right_next l image behind.0 are behind.2)))
    (place_kind l image at front back chain)

keeps_taken : (l : Links) (image : List ℕ) (at n : ℕ) (front back : List ℕ) → AreEntries l → IsWhole 3132 image → 1084 ≤ at
    → at + 4 ≤ 3132 → HasChain l image at (front ++ n ∷ back) → KeepsEntries image (taken_out l (place_behind l at front) image)
unfolding taken_out
keeps_taken l image at n front back are whole from within chain =
    let p = place_behind l at front in
    let y = word_at image (next_place l n) in
    let mid = put_word p y image in
    let there = stands_behind l image at n front back chain in
    let first = keeps_word image p y whole (chain_place l image at front (n ∷ back) are from within chain) in
    let second = keeps_word mid (next_place l n) 0 (whole_on image mid whole first.size)
    (link_stays image mid (next_place l n) whole first (inr (right_next l image n are there.1))) in
    subst (λ (v : ℕ). KeepsEntries image (put_word (next_place l v) 0 (put_word p (word_at image (next_place l v)) image))) (sym there.0)
    (entries_then image mid (put_word (next_place l n) 0 mid) whole first second)

pub keeps_out : (l : Links) (image : List ℕ) (at n : ℕ) (P : ℕ → Type 0) → AreEntries l → IsWhole 3132 image → 1084 ≤ at → at + 4 ≤ 3132
    → Stands l image at n P → KeepsEntries image (without l at n image)
keeps_out l image at n P are whole from within s =
    subst (λ (i : List ℕ). KeepsEntries image i) (sym s.out) (keeps_taken l image at n s.front s.back are whole from within s.chain)

-- ---- a word apart from those that change

word_taken : (l : Links) (image : List ℕ) (at n q : ℕ) (front back : List ℕ) → AreLinks l → at + 4 ≤ l.head → l.head ≤ length image
    → HasChain l image at (front ++ n ∷ back) → q + 4 ≤ length image → IsApart (place_behind l at front) 4 q → IsApart (next_place l n) 4 q
    → word_at (taken_out l (place_behind l at front) image) q ≡ word_at image q
unfolding taken_out
word_taken l image at n q front back links in_head long chain within first second =
    let p = place_behind l at front in
    let r = next_place l n in
    let y = word_at image r in
    let mid = put_word p y image in
    let there = stands_behind l image at n front back chain in
    let free = behind_free l image at front (n ∷ back) links (head_free l image at links (inl in_head) (omega arith)) chain in
    let size : length mid ≡ length image = word_len image p y free.within in
    let room = (next_within l image n links there.1).0 in
    subst (λ (v : ℕ). word_at (put_word (next_place l v) 0 (put_word p (word_at image (next_place l v)) image)) q ≡ word_at image q)
    (sym there.0)
    (word_stays r 4 q mid (put_word r 0 mid) (word_put mid r 0 (omega arith)) (omega arith) second
    ∙ word_stays p 4 q image mid (word_put image p y free.within) within first)

pub word_out : (l : Links) (image : List ℕ) (at n q : ℕ) (P : ℕ → Type 0) → AreLinks l → at + 4 ≤ l.head → l.head ≤ length image → P n
    → Stands l image at n P → q + 4 ≤ length image → IsApart at 4 q
    → ((v : ℕ) → P v → is_right l image v ≡ true → IsApart (next_place l v) 4 q) → word_at (without l at n image) q ≡ word_at image q
word_out l image at n q P links in_head long belongs s within head each =
    let there = stands_behind l image at n s.front s.back s.chain in
    subst (λ (i : List ℕ). word_at i q ≡ word_at image q) (sym s.out)
    (word_taken l image at n q s.front s.back links in_head long s.chain within
    (⊎_elim (λ (first : place_behind l at s.front ≡ at). subst (λ (p : ℕ). IsApart p 4 q) (sym first) head)
    (λ (behind : (v : ℕ) × (place_behind l at s.front ≡ next_place l v) × (is_right l image v ≡ true) × Contains s.front v).
    subst (λ (p : ℕ). IsApart p 4 q) (sym behind.1)
    (each behind.0 (s.only behind.0 (in_front behind.0 s.front (n ∷ s.back) behind.3)) behind.2))
    (place_kind l image at s.front (n ∷ s.back) s.chain))
    (each n belongs there.1))
