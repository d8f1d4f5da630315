-- The fields of an entry's block, written into that of another one, and the chains that stay.
use Rattle.std.proofs.Common.{◌≡◌, ◌≢◌, ℕ, zero, suc, ◌+◌, ◌-◌, ◌*◌, ◌/◌, ◌%◌, ◌<◌, ◌≤◌, ◌⊎◌, inl, inr, ⊎_elim, true, List, [], ◌∷◌, length, slice_index, take, drop, refl, sym, ap, subst, ◌∙◌, arith}
use Rattle.std.proofs.lemmas.Bool.{cases_lt, cases_order}
use Rattle.std.proofs.lemmas.Grind.{same_number_lists}
use Rattle.std.proofs.lemmas.List.{get_or-drop, get_or-take, length-drop, length-take-le}
use Rattle.ubik_types.specs.Image.{changed}
use Rattle.ubik_types.specs.declared.images.Change.TheVariants.{Put}
use Rattle.db_blocks.specs.Blocks.{IsWhole, block_count, block_in, block_place, word_at, kind_of}
use Rattle.db_blocks.specs.Bytes.{words}
use Rattle.db_blocks.proofs.BlockPlaces.{changed_laid, laid_in}
use Rattle.db_chains.specs.declared.links.Links.{Links}
use Rattle.db_chains.specs.Chains.{HasChain}
use Rattle.db_chains.specs.Free.{free_links}
use Rattle.db_chains.specs.Links.{is_right, mark_place, next_place}
use Rattle.db_chains.proofs.Bytes.{IsApart, StaysBut, put_len, put_stays, word_stays, blanked_stays}
use Rattle.db_chains.proofs.Framed.{block_mark, block_stays, byte_stays}
use Rattle.db_chains.proofs.Words.{right, right_names}
use Rattle.db_chains.proofs.Words.{right_from}
use Rattle.vldb_chains.specs.Places.{free_blocks, id_links, name_links}
use Rattle.vldb_entries.specs.declared.entries.VlEntry.{VlEntry}
use Rattle.vldb_entries.specs.Location.{IsRecord}
use Rattle.vldb_entries.specs.Forms.{block_at, block_of, blocks_in}
use Rattle.vldb_entries.proofs.EntryAgain.{length-block}
use Rattle.vldb_records.specs.Records.{unlinked}
use Rattle.vldb_records.specs.Changes.{with_fields}
use Rattle.vldb_records.proofs.Fields.{block_len}
use Rattle.vldb_records.proofs.Inserted.{unlinked_form}
use Rattle.vldb_records.proofs.Stays.{count_same, unlinked_same, whole_on}

-- The block of a number has the fields of this one. Its kind, its words of chains, and all other bytes are the old ones.
pub record HasFields (k : ℕ) (block old new : List ℕ) : Type 0 where
  pub size : length new ≡ length old
  pub head : take 3132 new ≡ take 3132 old
  pub others : (j : ℕ) → j < blocks_in old → j ≢ k → block_at new j ≡ block_at old j
  pub kind : (i : ℕ) → i < 4 → slice_index (block_at new k) i ≡ slice_index (block_at old k) i
  pub numbers : (i : ℕ) → 4 ≤ i → i < 36 → slice_index (block_at new k) i ≡ slice_index block i
  pub rest : (i : ℕ) → 52 ≤ i → i < 192 → slice_index (block_at new k) i ≡ slice_index block i
  pub words : (q : ℕ) → q + 4 ≤ length old → IsApart (block_place 3132 k + 4) 32 q → IsApart (block_place 3132 k + 52) 140 q
      → word_at new q ≡ word_at old q

front_on : (p len : ℕ) (old new : List ℕ) → StaysBut p len old new → 3132 ≤ p → 3132 ≤ length old → take 3132 new ≡ take 3132 old
front_on p len old new stays from long =
    let size : length (take 3132 new) ≡ 3132 = length-take-le 3132 new (omega (arith, stays.longer)) in
    same_number_lists (take 3132 new) (take 3132 old) (size ∙ sym (length-take-le 3132 old long))
    (λ i below.
    let short : i < 3132 = omega arith in
    get_or-take 3132 new i 0 short ∙ stays.before i (omega arith) (omega arith) ∙ sym (get_or-take 3132 old i 0 short))

pub block_byte : (image : List ℕ) (k i : ℕ) → i < 192 → slice_index (block_at image k) i ≡ slice_index image (block_place 3132 k + i)
unfolding block_in
block_byte image k i below =
    let q = block_place 3132 k in
    get_or-take 192 (drop q image) i 0 below ∙ get_or-drop q image i 0

-- a byte of what is put
put_byte : (image bytes : List ℕ) (at i : ℕ) → at + length bytes ≤ length image → i < length bytes
    → slice_index (changed image (Put at bytes)) (at + i) ≡ slice_index bytes i
put_byte image bytes at i within below =
    ap (λ (l : List ℕ). slice_index l (at + i)) (changed_laid image bytes at (omega arith))
    ∙ laid_in image bytes at (at + i) within (omega arith) (omega arith)
    ∙ ap (slice_index bytes) (omega arith)

other_block : (k j from len : ℕ) → from + len ≤ 192 → j ≢ k
    → (block_place 3132 j + 192 ≤ block_place 3132 k + from) ⊎ (block_place 3132 k + from + len ≤ block_place 3132 j)
other_block k j from len fits other =
    ⊎_elim (λ (same : j ≡ k). absurd (other same))
    (λ (order : (j < k) ⊎ (k < j)). ⊎_elim (λ (less : j < k). inl (omega arith)) (λ (more : k < j). inr (omega arith)) order)
    (cases_order j k)

pub written : (image block : List ℕ) (k : ℕ) → IsWhole 3132 image → k < blocks_in image → length block ≡ 192
    → HasFields k block image (with_fields k block image)
unfolding with_fields
written image block k whole below len =
    let p = block_place 3132 k in
    let x = take 32 (drop 4 block) in
    let y = drop 52 block in
    let len_x : length x ≡ 32 = length-take-le 32 (drop 4 block) (omega (arith, length-drop 4 block)) in
    let len_y : length y ≡ 140 = omega (arith, length-drop 52 block) in
    let mid = changed image (Put (p + 4) x) in
    let new = changed mid (Put (p + 52) y) in
    let room_x : p + 4 + length x ≤ length image = omega (arith, whole) in
    let size_mid : length mid ≡ length image = put_len image x (p + 4) room_x in
    let room_y : p + 52 + length y ≤ length mid = omega (arith, whole) in
    let size_new : length new ≡ length mid = put_len mid y (p + 52) room_y in
    let first : StaysBut (p + 4) 32 image mid =
    subst (λ (n : ℕ). StaysBut (p + 4) n image mid) len_x (put_stays image x (p + 4) room_x) in
    let second : StaysBut (p + 52) 140 mid new =
    subst (λ (n : ℕ). StaysBut (p + 52) n mid new) len_y (put_stays mid y (p + 52) room_y) in
    let fits : p + 192 ≤ length mid = omega (arith, whole, size_mid) in
    record {
      size = size_new ∙ size_mid;
      head = front_on (p + 52) 140 mid new second (omega arith) (omega arith)
          ∙ front_on (p + 4) 32 image mid first (omega arith) (omega arith);
      others = λ j less other.
          block_stays 3132 (p + 52) 140 j mid new second (omega (arith, whole, size_mid)) (other_block k j 52 140 (omega arith) other)
          ∙ block_stays 3132 (p + 4) 32 j image mid first (omega (arith, whole)) (other_block k j 4 32 (omega arith) other);
      kind = λ i less.
          byte_stays 3132 (p + 52) 140 k i mid new second fits (omega arith) (inl (omega arith))
          ∙ byte_stays 3132 (p + 4) 32 k i image mid first (omega arith) (omega arith) (inl (omega arith));
      numbers = λ i from less.
          let m = i - 4 in
          let back : 4 + m ≡ i = omega arith in
          let place : p + 4 + m ≡ p + i = omega arith in
          byte_stays 3132 (p + 52) 140 k i mid new second fits (omega arith) (inl (omega arith)) ∙ block_byte mid k i (omega arith)
          ∙ ap (slice_index mid) (sym place) ∙ put_byte image x (p + 4) m room_x (omega arith)
          ∙ get_or-take 32 (drop 4 block) m 0 (omega arith) ∙ get_or-drop 4 block m 0 ∙ ap (slice_index block) back;
      rest = λ i from less.
          let m = i - 52 in
          let back : 52 + m ≡ i = omega arith in
          let place : p + 52 + m ≡ p + i = omega arith in
          block_byte new k i less ∙ ap (slice_index new) (sym place) ∙ put_byte mid y (p + 52) m room_y (omega arith)
          ∙ get_or-drop 52 block m 0 ∙ ap (slice_index block) back;
      words = λ q within one two.
          word_stays (p + 52) 140 q mid new second (omega arith) two ∙ word_stays (p + 4) 32 q image mid first within one;
    }

-- ---- the form of the block

kind_byte : (addresses : List ℕ) (e f : VlEntry) (i : ℕ) → i < 4
    → slice_index (block_of addresses f) i ≡ slice_index (block_of addresses e) i
unfolding block_of words
kind_byte addresses e f zero low = refl
kind_byte addresses e f (suc zero) low = refl
kind_byte addresses e f (suc (suc zero)) low = refl
kind_byte addresses e f (suc (suc (suc zero))) low = refl
kind_byte addresses e f (suc (suc (suc (suc m)))) low = absurd (omega arith)

front_stays : (block : List ℕ) (i : ℕ) → length block ≡ 192 → i < 36 → slice_index block i ≡ slice_index (unlinked block) i
unfolding unlinked
front_stays block i size below = sym ((blanked_stays 36 16 block (omega arith)).before i (omega arith) (omega arith))

pub form_written : (addresses image new : List ℕ) (e f : VlEntry) (k : ℕ) → IsRecord e → IsWhole 3132 image → k < blocks_in image
    → unlinked (block_at image k) ≡ block_of addresses f → HasFields k (block_of addresses e) image new
    → unlinked (block_at new k) ≡ block_of addresses e
form_written addresses image new e f k is whole below form has =
    let b = block_of addresses e in
    let old = block_at image k in
    let size : length old ≡ 192 = block_len image k whole below in
    let size_new : length (block_at new k) ≡ 192 =
    block_len new k (whole_on image new whole has.size) (omega (arith, below, count_same image new has.size)) in
    unlinked_same (block_at new k) b size_new (length-block addresses e is)
    (λ i less out. ⊎_elim
    (λ (front : i < 36). ⊎_elim
    (λ (kind : i < 4).
    has.kind i kind ∙ front_stays old i size front ∙ ap (λ (x : List ℕ). slice_index x i) form ∙ kind_byte addresses e f i kind)
    (λ (number : 4 ≤ i). has.numbers i number front) (cases_lt i 4))
    (λ (behind : 52 ≤ i). has.rest i behind less) out)
    ∙ unlinked_form addresses e is

-- ---- chains

-- a chain stays with its first word, and with the marks and the next words of the blocks that it may name
chain_on : (l : Links) (old new : List ℕ) (at : ℕ) (ws : List ℕ) → length new ≡ length old → word_at new at ≡ word_at old at
    → ((w : ℕ) → is_right l old w ≡ true
    → (word_at new (mark_place l w) ≡ word_at old (mark_place l w)) × (word_at new (next_place l w) ≡ word_at old (next_place l w)))
    → HasChain l old at ws → HasChain l new at ws
chain_on l old new at [] size first kept chain = first ∙ chain
chain_on l old new at (w ∷ ws) size first kept chain =
    let n = right_names l old w chain.1 in
    let k = kept w chain.1 in (
      first ∙ chain.0,
      right_from l new (block_count l.head old) w (ap (λ (m : ℕ). (m - l.head) / 192) size) n.some n.block n.kind
          (k.0 ∙ (right l old w chain.1).mark),
      chain_on l old new (next_place l w) ws size k.1 kept chain.2,
    )

pub apart_in : (k b o : ℕ) → (o ≡ 0) ⊎ ((36 ≤ o) × (o + 4 ≤ 52))
    → IsApart (block_place 3132 k + 4) 32 (block_place 3132 b + o) × IsApart (block_place 3132 k + 52) 140 (block_place 3132 b + o)
apart_in k b o within =
    ⊎_elim
    (λ (same : b ≡ k). ⊎_elim
    (λ (front : o ≡ 0).
    let r : IsApart (block_place 3132 k + 4) 32 (block_place 3132 b + o) × IsApart (block_place 3132 k + 52) 140 (block_place 3132 b + o) =
    (inl (omega arith), inl (omega arith)) in r)
    (λ (next : (36 ≤ o) × (o + 4 ≤ 52)).
    let low = next.0 in
    let high = next.1 in
    let r : IsApart (block_place 3132 k + 4) 32 (block_place 3132 b + o) × IsApart (block_place 3132 k + 52) 140 (block_place 3132 b + o) =
    (inr (omega arith), inl (omega arith)) in r)
    within)
    (λ (order : (b < k) ⊎ (k < b)).
    let fits : o + 4 ≤ 52 =
    ⊎_elim (λ (front : o ≡ 0). omega arith) (λ (next : (36 ≤ o) × (o + 4 ≤ 52)). next.1) within in
    ⊎_elim
    (λ (less : b < k).
    let r : IsApart (block_place 3132 k + 4) 32 (block_place 3132 b + o) × IsApart (block_place 3132 k + 52) 140 (block_place 3132 b + o) =
    (inl (omega arith), inl (omega arith)) in r)
    (λ (more : k < b).
    let r : IsApart (block_place 3132 k + 4) 32 (block_place 3132 b + o) × IsApart (block_place 3132 k + 52) 140 (block_place 3132 b + o) =
    (inr (omega arith), inr (omega arith)) in r)
    order)
    (cases_order b k)

pub names_written : (image new block : List ℕ) (k at : ℕ) (ws : List ℕ) → IsWhole 3132 image → HasFields k block image new
    → at + 4 ≤ 3132 → HasChain name_links image at ws → HasChain name_links new at ws
names_written image new block k at ws whole has in_head chain =
    chain_on name_links image new at ws has.size (has.words at (omega (arith, whole)) (inl (omega arith)) (inl (omega arith)))
    (λ w is.
    let n = right_names name_links image w is in
    let b = w / 1 - 1 in
    let mark : block_place 3132 b + 0 ≡ mark_place name_links w = omega arith in
    let next : block_place 3132 b + 36 ≡ next_place name_links w = omega arith in
    let a = apart_in k b 0 (inl refl) in
    let c = apart_in k b 36 (inr (omega arith, omega arith)) in (
      subst (λ (q : ℕ). word_at new q ≡ word_at image q) mark
          (has.words (block_place 3132 b + 0) (omega (arith, whole, n.some, n.block)) a.0 a.1),
      subst (λ (q : ℕ). word_at new q ≡ word_at image q) next
          (has.words (block_place 3132 b + 36) (omega (arith, whole, n.some, n.block)) c.0 c.1),
    ))
    chain

pub ids_written : (image new block : List ℕ) (k at : ℕ) (ws : List ℕ) → IsWhole 3132 image → HasFields k block image new
    → at + 4 ≤ 3132 → HasChain id_links image at ws → HasChain id_links new at ws
ids_written image new block k at ws whole has in_head chain =
    chain_on id_links image new at ws has.size (has.words at (omega (arith, whole)) (inl (omega arith)) (inl (omega arith)))
    (λ w is.
    let n = right_names id_links image w is in
    let kind = n.kind in
    let b = w / 4 - 1 in
    let o = 40 + 4 * (w % 4) in
    let mark : block_place 3132 b + 0 ≡ mark_place id_links w = omega arith in
    let next : block_place 3132 b + o ≡ next_place id_links w = omega arith in
    let a = apart_in k b 0 (inl refl) in
    let c = apart_in k b o (inr (omega arith, omega arith)) in (
      subst (λ (q : ℕ). word_at new q ≡ word_at image q) mark
          (has.words (block_place 3132 b + 0) (omega (arith, whole, n.some, n.block)) a.0 a.1),
      subst (λ (q : ℕ). word_at new q ≡ word_at image q) next
          (has.words (block_place 3132 b + o) (omega (arith, whole, n.some, n.block)) c.0 c.1),
    ))
    chain

-- no word of the free chain names the block, which is an entry's
pub free_written : (image new block : List ℕ) (k at : ℕ) (ws : List ℕ) → IsWhole 3132 image → HasFields k block image new
    → kind_of (block_at image k) ≡ 1 → at + 4 ≤ 3132 → HasChain (free_links free_blocks) image at ws
    → HasChain (free_links free_blocks) new at ws
free_written image new block k at ws whole has kind in_head chain =
    let l = free_links free_blocks in
    chain_on l image new at ws has.size (has.words at (omega (arith, whole)) (inl (omega arith)) (inl (omega arith)))
    (λ w is.
    let n = right_names l image w is in
    let b = w / 1 - 1 in
    let mark : block_place 3132 b ≡ mark_place l w = omega arith in
    let next : block_place 3132 b + 4 ≡ next_place l w = omega arith in
    let other : b ≢ k = λ same.
    let none : kind_of (block_at image k) ≡ 0 =
    ap (λ (j : ℕ). kind_of (block_at image j)) (sym same) ∙ block_mark 3132 b image ∙ ap (word_at image) mark ∙ (right l image w is).mark in
    omega (arith, none, kind) in
    let apart = other_block k b 4 188 (omega arith) other in (
      subst (λ (q : ℕ). word_at new q ≡ word_at image q) mark
          (has.words (block_place 3132 b) (omega (arith, whole, n.some, n.block))
          (⊎_elim (λ (less : block_place 3132 b + 192 ≤ block_place 3132 k + 4). inl (omega arith))
          (λ (more : block_place 3132 k + 4 + 188 ≤ block_place 3132 b). inr (omega arith)) apart)
          (⊎_elim (λ (less : block_place 3132 b + 192 ≤ block_place 3132 k + 4). inl (omega arith))
          (λ (more : block_place 3132 k + 4 + 188 ≤ block_place 3132 b). inr (omega arith)) apart)),
      subst (λ (q : ℕ). word_at new q ≡ word_at image q) next
          (has.words (block_place 3132 b + 4) (omega (arith, whole, n.some, n.block))
          (⊎_elim (λ (less : block_place 3132 b + 192 ≤ block_place 3132 k + 4). inl (omega arith))
          (λ (more : block_place 3132 k + 4 + 188 ≤ block_place 3132 b). inr (omega arith)) apart)
          (⊎_elim (λ (less : block_place 3132 b + 192 ≤ block_place 3132 k + 4). inl (omega arith))
          (λ (more : block_place 3132 k + 4 + 188 ≤ block_place 3132 b). inr (omega arith)) apart)),
    ))
    chain
