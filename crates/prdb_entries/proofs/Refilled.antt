-- The fields of an entry's block, written into it: the image without the words of chains, and the chains that stay.
use Rattle.std.proofs.Common.{◌≡◌, ◌≢◌, ℕ, ◌+◌, ◌-◌, ◌*◌, ◌/◌, ◌%◌, ◌<◌, ◌≤◌, ◌⊎◌, inl, inr, ⊎_elim, List, [], ◌∷◌, length, slice_index, take, drop, refl, sym, ap, subst, ◌∙◌, arith}
use Rattle.std.specs.List.{AllByRecursion}
use Rattle.std.proofs.lemmas.Bool.{cases_eq, cases_lt, cases_order}
use Rattle.std.proofs.lemmas.Grind.{same_number_lists}
use Rattle.std.proofs.lemmas.List.{get_or-drop, get_or-take, length-drop, length-take-le}
use Rattle.ubik_types.specs.Image.{changed}
use Rattle.ubik_types.specs.declared.images.Change.TheVariants.{Put}
use Rattle.db_blocks.specs.Blocks.{block_in as any_block, IsWhole, word_at}
use Rattle.db_blocks.proofs.BlockPlaces.{changed_laid, laid_in}
use Rattle.db_chains.specs.Chains.{HasChain}
use Rattle.db_chains.specs.Free.{free_links}
use Rattle.db_chains.specs.Links.{AreLinks, mark_place, next_place}
use Rattle.db_chains.proofs.Bytes.{IsApart, StaysBut, put_len, put_stays, word_stays}
use Rattle.db_chains.proofs.Changed.{chain_stays}
use Rattle.db_chains.proofs.Framed.{block_stays}
use Rattle.db_chains.proofs.Words.{right_names}
use Rattle.prdb_layout.specs.Blocks.{block_count}
use Rattle.prdb_layout.specs.Records.{block_in, block_place}
use Rattle.prdb_finds.specs.Places.{entry_links, free_blocks}
use Rattle.prdb_entries.specs.Changes.{refilled}

-- ---- two puts in a block

-- the image between the two puts, and behind them
pub record IsTwice (image : List ℕ) (k : ℕ) (block mid new : List ℕ) : Type 0 where
  pub first : StaysBut (block_place k + 4) 20 image mid
  pub second : StaysBut (block_place k + 32) 64 mid new
  pub len_mid : length mid ≡ length image
  pub len : length new ≡ length image
  pub at_first : (i : ℕ) → 4 ≤ i → i < 24 → slice_index mid (block_place k + i) ≡ slice_index block i
  pub at_second : (i : ℕ) → 32 ≤ i → i < 96 → slice_index new (block_place k + i) ≡ slice_index block i

put_byte : (image bytes : List ℕ) (at i : ℕ) → at + length bytes ≤ length image → i < length bytes
    → slice_index (changed image (Put at bytes)) (at + i) ≡ slice_index bytes i
put_byte image bytes at i within below =
    let back : at + i - at ≡ i = omega arith in
    ap (λ (x : List ℕ). slice_index x (at + i)) (changed_laid image bytes at (omega arith))
    ∙ laid_in image bytes at (at + i) within (omega arith) (omega arith) ∙ ap (slice_index bytes) back

-- a part of a block that is put at its own offset
part_byte : (image block : List ℕ) (k off len i : ℕ) → length block ≡ 192 → off + len ≤ 192 → block_place k + 192 ≤ length image
    → off ≤ i → i < off + len → slice_index (changed image (Put (block_place k + off) (take len (drop off block)))) (block_place k + i)
    ≡ slice_index block i
part_byte image block k off len i size fits room from less =
    let part = take len (drop off block) in
    let len_part : length part ≡ len = length-take-le len (drop off block) (omega (arith, length-drop off block)) in
    let place : block_place k + off + (i - off) ≡ block_place k + i = omega arith in
    let back : off + (i - off) ≡ i = omega arith in
    ap (slice_index (changed image (Put (block_place k + off) part))) (sym place)
    ∙ put_byte image part (block_place k + off) (i - off) (omega arith) (omega arith)
    ∙ get_or-take len (drop off block) (i - off) 0 (omega arith) ∙ get_or-drop off block (i - off) 0 ∙ ap (slice_index block) back

pub twice : (image block : List ℕ) (k : ℕ) → IsWhole 2112 image → k < block_count image → length block ≡ 192
    → IsTwice image k block (changed image (Put (block_place k + 4) (take 20 (drop 4 block))))
    (changed (changed image (Put (block_place k + 4) (take 20 (drop 4 block)))) (Put (block_place k + 32) (take 64 (drop 32 block))))
twice image block k whole below size =
    let a = take 20 (drop 4 block) in
    let b = take 64 (drop 32 block) in
    let len_a : length a ≡ 20 = length-take-le 20 (drop 4 block) (omega (arith, length-drop 4 block)) in
    let len_b : length b ≡ 64 = length-take-le 64 (drop 32 block) (omega (arith, length-drop 32 block)) in
    let mid = changed image (Put (block_place k + 4) a) in
    let room_a : block_place k + 4 + length a ≤ length image = omega (arith, whole) in
    let size_mid : length mid ≡ length image = put_len image a (block_place k + 4) room_a in
    let room_b : block_place k + 32 + length b ≤ length mid = omega (arith, whole) in
    record {
      first = subst (λ (n : ℕ). StaysBut (block_place k + 4) n image mid) len_a (put_stays image a (block_place k + 4) room_a);
      second = subst (λ (n : ℕ). StaysBut (block_place k + 32) n mid (changed mid (Put (block_place k + 32) b))) len_b
          (put_stays mid b (block_place k + 32) room_b);
      len_mid = size_mid;
      len = put_len mid b (block_place k + 32) room_b ∙ size_mid;
      at_first = λ i from less. part_byte image block k 4 20 i size (omega arith) (omega (arith, whole)) from (omega arith);
      at_second = λ i from less. part_byte mid block k 32 64 i size (omega arith) (omega (arith, whole)) from (omega arith);
    }

block_byte : (image : List ℕ) (k i : ℕ) → i < 192 → slice_index (block_in image k) i ≡ slice_index image (block_place k + i)
unfolding any_block
block_byte image k i below = get_or-take 192 (drop (block_place k) image) i 0 below ∙ get_or-drop (block_place k) image i 0

-- what the image is then
pub record IsRefilled (image : List ℕ) (k : ℕ) (block new : List ℕ) : Type 0 where
  pub size : length new ≡ length image
  pub front : take 2112 new ≡ take 2112 image
  pub others : (j : ℕ) → j < block_count image → j ≢ k → block_in new j ≡ block_in image j
  pub fields : (i : ℕ) → i < 192 → ((4 ≤ i) × (i < 24)) ⊎ ((32 ≤ i) × (i < 96)) → slice_index (block_in new k) i ≡ slice_index block i
  pub kept : (i : ℕ) → i < 192 → (i < 4) ⊎ ((24 ≤ i) × (i < 32)) ⊎ (96 ≤ i)
      → slice_index (block_in new k) i ≡ slice_index (block_in image k) i

other_side : (image : List ℕ) (k j at len : ℕ) → j ≢ k → block_place k ≤ at → at + len ≤ block_place k + 192
    → (2112 + 192 * j + 192 ≤ at) ⊎ (at + len ≤ 2112 + 192 * j)
other_side image k j at len other from to =
    ⊎_elim (λ (same : j ≡ k). absurd (other same))
    (λ (order : (j < k) ⊎ (k < j)). ⊎_elim (λ (less : j < k). inl (omega arith)) (λ (more : k < j). inr (omega arith)) order)
    (cases_order j k)

refilled_from : (image block mid new : List ℕ) (k : ℕ) → IsWhole 2112 image → k < block_count image → IsTwice image k block mid new
    → IsRefilled image k block new
refilled_from image block mid new k whole below t =
    let size = t.len in
    let size_mid = t.len_mid in
    record {
      size = size;
      front = same_number_lists (take 2112 new) (take 2112 image)
          (length-take-le 2112 new (omega (arith, whole)) ∙ sym (length-take-le 2112 image (omega (arith, whole))))
          (λ i less.
          let low : i < 2112 = omega (arith, less, length-take-le 2112 new (omega (arith, whole))) in
          get_or-take 2112 new i 0 low ∙ t.second.before i (omega arith) (omega (arith, whole))
          ∙ t.first.before i (omega arith) (omega (arith, whole)) ∙ sym (get_or-take 2112 image i 0 low));
      others = λ j less other.
          block_stays 2112 (block_place k + 32) 64 j mid new t.second (omega (arith, whole))
          (other_side image k j (block_place k + 32) 64 other (omega arith) (omega arith))
          ∙ block_stays 2112 (block_place k + 4) 20 j image mid t.first (omega (arith, whole))
          (other_side image k j (block_place k + 4) 20 other (omega arith) (omega arith));
      fields = λ i less field.
          block_byte new k i less
          ∙ ⊎_elim
          (λ (front : (4 ≤ i) × (i < 24)).
          t.second.before (block_place k + i) (omega (arith, front.1)) (omega (arith, whole, below)) ∙ t.at_first i front.0 front.1)
          (λ (name : (32 ≤ i) × (i < 96)). t.at_second i name.0 name.1) field;
      kept = λ i less kept.
          block_byte new k i less
          ∙ ⊎_elim
          (λ (kind : i < 4).
          t.second.before (block_place k + i) (omega arith) (omega (arith, whole, below))
          ∙ t.first.before (block_place k + i) (omega arith) (omega (arith, whole, below)))
          (λ (more : ((24 ≤ i) × (i < 32)) ⊎ (96 ≤ i)).
          ⊎_elim
          (λ (pairs : (24 ≤ i) × (i < 32)).
          t.second.before (block_place k + i) (omega (arith, pairs.1)) (omega (arith, whole, below))
          ∙ t.first.behind (block_place k + i) (omega (arith, pairs.0)) (omega (arith, whole, below)))
          (λ (rest : 96 ≤ i).
          t.second.behind (block_place k + i) (omega arith) (omega (arith, whole, below))
          ∙ t.first.behind (block_place k + i) (omega arith) (omega (arith, whole, below))) more) kept
          ∙ sym (block_byte image k i less);
    }

pub twice_refilled : (image block : List ℕ) (k : ℕ) → IsWhole 2112 image → k < block_count image → length block ≡ 192
    → (mid : List ℕ) × IsTwice image k block mid (refilled k block image)
unfolding refilled
twice_refilled image block k whole below size =
    (changed image (Put (block_place k + 4) (take 20 (drop 4 block))), twice image block k whole below size)

pub is_refilled : (image block : List ℕ) (k : ℕ) → IsWhole 2112 image → k < block_count image → length block ≡ 192
    → IsRefilled image k block (refilled k block image)
is_refilled image block k whole below size =
    let t = twice_refilled image block k whole below size in
    refilled_from image block t.0 (refilled k block image) k whole below t.1

-- ---- chains that stay

range_apart : (k j at len : ℕ) (off : ℕ) → at ≡ block_place k + off → off + len ≤ 192 → (o : ℕ) → o + 4 ≤ 192
    → (o + 4 ≤ off) ⊎ (off + len ≤ o) → IsApart at len (2112 + 192 * j + o)
range_apart k j at len off is fits o in_block apart =
    ⊎_elim
    (λ (same : j ≡ k). ⊎_elim (λ (before : o + 4 ≤ off). inl (omega arith)) (λ (behind : off + len ≤ o). inr (omega arith)) apart)
    (λ (other : j ≡ k → ⊥).
    ⊎_elim (λ (less : j < k). inl (omega arith)) (λ (more : k ≤ j). inr (omega (arith, more, other))) (cases_lt j k))
    (cases_eq j k)

words_stay : (next : ℕ) (image : List ℕ) (k at len off : ℕ) (from : ℕ) (ws : List ℕ) → at ≡ block_place k + off → 4 ≤ off
    → off + len ≤ 96 → 96 ≤ next → next + 4 ≤ 192 → HasChain (entry_links next) image from ws
    → AllByRecursion (λ v. IsApart at len (next_place (entry_links next) v) × IsApart at len (mark_place (entry_links next) v)) ws
words_stay next image k at len off from [] is low high one two chain = tt
words_stay next image k at len off from (w ∷ ws) is low high one two chain =
    let l = entry_links next in
    let names = right_names l image w chain.1 in
    let single : w / 1 ≡ w = omega arith in
    let rest : w % 1 ≡ 0 = omega arith in
    let q : next_place l w ≡ 2112 + 192 * (w - 1) + next = omega (arith, single, rest) in
    let m : mark_place l w ≡ 2112 + 192 * (w - 1) + 0 = omega (arith, single) in (
      (
        subst (IsApart at len) (sym q) (range_apart k (w - 1) at len off is (omega arith) next two (inr (omega arith))),
        subst (IsApart at len) (sym m) (range_apart k (w - 1) at len off is (omega arith) 0 (omega arith) (inl (omega arith))),
      ),
      words_stay next image k at len off (next_place l w) ws is low high one two chain.2,
    )

-- a chain of entries
pub chain_refilled : (next : ℕ) (image new : List ℕ) (block : List ℕ) (k : ℕ) (from : ℕ) (ws : List ℕ) → 96 ≤ next → next + 4 ≤ 192
    → AreLinks (entry_links next) → (mid : List ℕ) → IsTwice image k block mid new → from + 4 ≤ length image
    → IsApart (block_place k + 4) 20 from → IsApart (block_place k + 32) 64 from
    → HasChain (entry_links next) image from ws → HasChain (entry_links next) new from ws
chain_refilled next image new block k from ws one two links mid t within apart_a apart_b chain =
    let l = entry_links next in
    let size = t.len_mid in
    let first = chain_stays l (block_place k + 4) 20 from image mid ws links t.first within apart_a
    (words_stay next image k (block_place k + 4) 20 4 from ws refl (omega arith) (omega arith) one two chain) chain in
    chain_stays l (block_place k + 32) 64 from mid new ws links t.second (omega arith) apart_b
    (words_stay next mid k (block_place k + 32) 64 32 from ws refl (omega arith) (omega arith) one two first) first

blocks_differ : (k j at len off o : ℕ) → at ≡ block_place k + off → off + len ≤ 192 → o + 4 ≤ 192 → j ≢ k
    → IsApart at len (2112 + 192 * j + o)
blocks_differ k j at len off o is fits in_block other =
    ⊎_elim (λ (less : j < k). inl (omega arith)) (λ (more : k ≤ j). inr (omega (arith, more, other))) (cases_lt j k)

-- the chain of the free blocks, none of which it is
free_stay : (image : List ℕ) (k at len off : ℕ) (from : ℕ) (ws : List ℕ) → at ≡ block_place k + off → off + len ≤ 192
    → AllByRecursion (λ v. v ≢ k + 1) ws → HasChain (free_links free_blocks) image from ws
    → AllByRecursion (λ v. IsApart at len (next_place (free_links free_blocks) v)
    × IsApart at len (mark_place (free_links free_blocks) v)) ws
free_stay image k at len off from [] is fits none chain = tt
free_stay image k at len off from (w ∷ ws) is fits none chain =
    let l = free_links free_blocks in
    let names = right_names l image w chain.1 in
    let single : w / 1 ≡ w = omega arith in
    let rest : w % 1 ≡ 0 = omega arith in
    let some : 0 < w = omega (arith, names.some) in
    let q : next_place l w ≡ 2112 + 192 * (w - 1) + 4 = omega (arith, single, rest) in
    let m : mark_place l w ≡ 2112 + 192 * (w - 1) + 0 = omega (arith, single) in
    let other : w - 1 ≢ k = λ same. none.0 (omega (arith, same, some)) in (
      (
        subst (IsApart at len) (sym q) (blocks_differ k (w - 1) at len off 4 is fits (omega arith) other),
        subst (IsApart at len) (sym m) (blocks_differ k (w - 1) at len off 0 is fits (omega arith) other),
      ),
      free_stay image k at len off (next_place l w) ws is fits none.1 chain.2,
    )

pub free_refilled : (image new : List ℕ) (block : List ℕ) (k : ℕ) (ws : List ℕ) → AreLinks (free_links free_blocks) → (mid : List ℕ)
    → IsTwice image k block mid new → 2112 ≤ length image → AllByRecursion (λ v. v ≢ k + 1) ws
    → HasChain (free_links free_blocks) image 20 ws → HasChain (free_links free_blocks) new 20 ws
free_refilled image new block k ws links mid t long none chain =
    let l = free_links free_blocks in
    let size = t.len_mid in
    let first = chain_stays l (block_place k + 4) 20 20 image mid ws links t.first (omega arith) (inl (omega arith))
    (free_stay image k (block_place k + 4) 20 4 20 ws refl (omega arith) none chain) chain in
    chain_stays l (block_place k + 32) 64 20 mid new ws links t.second (omega arith) (inl (omega arith))
    (free_stay mid k (block_place k + 32) 64 32 20 ws refl (omega arith) none first) first

-- a word of a chain
pub word_refilled : (image new : List ℕ) (block : List ℕ) (k q : ℕ) (mid : List ℕ) → IsTwice image k block mid new → q + 4 ≤ length image
    → IsApart (block_place k + 4) 20 q → IsApart (block_place k + 32) 64 q → word_at new q ≡ word_at image q
word_refilled image new block k q mid t within one two =
    let size = t.len_mid in
    word_stays (block_place k + 32) 64 q mid new t.second (omega arith) two
    ∙ word_stays (block_place k + 4) 20 q image mid t.first within one

-- a place of the head, or of a word of chains in a block
pub head_apart : (k p : ℕ) → p + 4 ≤ 2112 → IsApart (block_place k + 4) 20 p × IsApart (block_place k + 32) 64 p
head_apart k p within = (inl (omega arith), inl (omega arith))

pub own_apart : (k j o : ℕ) → 96 ≤ o → o + 4 ≤ 192
    → IsApart (block_place k + 4) 20 (2112 + 192 * j + o) × IsApart (block_place k + 32) 64 (2112 + 192 * j + o)
own_apart k j o from fits = (
  range_apart k j (block_place k + 4) 20 4 refl (omega arith) o fits (inr (omega arith)),
  range_apart k j (block_place k + 32) 64 32 refl (omega arith) o fits (inr (omega arith)),
)
