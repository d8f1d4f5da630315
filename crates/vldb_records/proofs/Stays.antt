-- What a word that is put into the chains leaves of an image.
use Rattle.std.proofs.Common.{◌≡◌, ◌≢◌, ℕ, ◌+◌, ◌-◌, ◌*◌, ◌/◌, ◌<◌, ◌≤◌, ◌⊎◌, inl, inr, ⊎_elim, List, length, slice_index, take, refl, sym, ap, subst, ◌∙◌, arith}
use Rattle.std.proofs.lemmas.Bool.{cases_eq}
use Rattle.std.proofs.lemmas.Grind.{same_number_lists}
use Rattle.std.proofs.lemmas.List.{get_or-take, length-take-le}
use Rattle.db_blocks.specs.Blocks.{IsWhole, block_place, word_at, blanked}
use Rattle.db_blocks.specs.Bytes.{number_word, zeros}
use Rattle.db_blocks.proofs.BlockPlaces.{head_put, laid, laid_in, laid_out, laid_len}
use Rattle.db_blocks.proofs.Lengths.{length-zeros}
use Rattle.db_chains.specs.declared.links.Links.{Links}
use Rattle.db_chains.specs.Changes.{put_in, put_word}
use Rattle.db_chains.specs.Links.{next_place}
use Rattle.db_chains.proofs.Bytes.{IsApart, StaysBut, word_len, word_put, word_stays, blanked_len}
use Rattle.db_chains.proofs.Framed.{block_stays, byte_stays}
use Rattle.db_chains.proofs.Free.{beside}
use Rattle.vldb_entries.specs.Forms.{block_at, blocks_in}
use Rattle.vldb_records.specs.Records.{unlinked, unlinked_head}
use Rattle.vldb_records.proofs.Fields.{block_len}
use Rattle.vldb_records.proofs.HeadSet.{AreBeside, around, blanked_laid, blanked_swap}

-- ---- bytes without the words of chains

-- bytes that are laid within a range make no difference where it is blank
covered : (xs b : List ℕ) (p at len : ℕ) → at ≤ p → p + length b ≤ at + len → at + len ≤ length xs
    → blanked at len (laid xs p b) ≡ blanked at len xs
covered xs b p at len from within fits =
    let z = zeros len in
    let z_len : length z ≡ len = length-zeros len in
    let size : length (laid xs p b) ≡ length xs = laid_len xs b p (omega arith) in
    let room : at + length z ≤ length xs = omega arith in
    let room_laid : at + length z ≤ length (laid xs p b) = omega arith in
    blanked_laid at len (laid xs p b) (omega arith)
    ∙ same_number_lists (laid (laid xs p b) at z) (laid xs at z)
    (laid_len (laid xs p b) z at room_laid ∙ size ∙ sym (laid_len xs z at room))
    (λ i below. ⊎_elim
    (λ (here : (at ≤ i) × (i < at + length z)).
    laid_in (laid xs p b) z at i room_laid here.0 here.1 ∙ sym (laid_in xs z at i room here.0 here.1))
    (λ (out : (i < at) ⊎ (at + length z ≤ i)).
    laid_out (laid xs p b) z at i room_laid out
    ∙ laid_out xs b p i (omega arith)
    (⊎_elim (λ (before : i < at). inl (omega arith)) (λ (behind : at + length z ≤ i). inr (omega arith)) out)
    ∙ sym (laid_out xs z at i room out))
    (around at (length z) i))
    ∙ sym (blanked_laid at len xs fits)

-- bytes of the head among the first words of the chains
pub unlinked_chain : (xs b : List ℕ) (p : ℕ) → length xs ≡ 3132 → 1084 ≤ p → p + length b ≤ 3132
    → unlinked_head (laid xs p b) ≡ unlinked_head xs
unfolding unlinked_head
unlinked_chain xs b p size from within =
    let first : AreBeside p (length b) 16 4 = inr (omega arith) in
    let len : length (blanked 16 4 xs) ≡ 3132 = blanked_len 16 4 xs (omega arith) ∙ size in
    ap (blanked 1084 2048) (blanked_swap xs b p 16 4 (omega arith) (omega arith) first)
    ∙ covered (blanked 16 4 xs) b p 1084 2048 from (omega arith) (omega arith)

-- and the first word of the free blocks
pub unlinked_first : (xs b : List ℕ) → length xs ≡ 3132 → length b ≡ 4 → unlinked_head (laid xs 16 b) ≡ unlinked_head xs
unfolding unlinked_head
unlinked_first xs b size len = ap (blanked 1084 2048) (covered xs b 16 16 4 (omega arith) (omega arith) (omega arith))

-- two blocks with the same bytes but for so many from a place on
pub blanked_same : (at len : ℕ) (a b : List ℕ) → at + len ≤ 192 → length a ≡ 192 → length b ≡ 192
    → ((i : ℕ) → i < 192 → (i < at) ⊎ (at + len ≤ i) → slice_index a i ≡ slice_index b i) → blanked at len a ≡ blanked at len b
blanked_same at len a b fits size_a size_b same =
    let z = zeros len in
    let z_len : length z ≡ len = length-zeros len in
    let room_a : at + length z ≤ length a = omega arith in
    let room_b : at + length z ≤ length b = omega arith in
    let laid_a : length (laid a at z) ≡ length a = laid_len a z at room_a in
    let laid_b : length (laid b at z) ≡ length b = laid_len b z at room_b in
    blanked_laid at len a (omega arith)
    ∙ same_number_lists (laid a at z) (laid b at z) (laid_a ∙ size_a ∙ sym (laid_b ∙ size_b))
    (λ i below. ⊎_elim
    (λ (here : (at ≤ i) × (i < at + length z)). laid_in a z at i room_a here.0 here.1 ∙ sym (laid_in b z at i room_b here.0 here.1))
    (λ (out : (i < at) ⊎ (at + length z ≤ i)).
    laid_out a z at i room_a out
    ∙ same i (omega arith) (⊎_elim (λ (before : i < at). inl before) (λ (behind : at + length z ≤ i). inr (omega arith)) out)
    ∙ sym (laid_out b z at i room_b out))
    (around at (length z) i))
    ∙ sym (blanked_laid at len b (omega arith))

-- but for the words of chains
pub unlinked_same : (a b : List ℕ) → length a ≡ 192 → length b ≡ 192
    → ((i : ℕ) → i < 192 → (i < 36) ⊎ (52 ≤ i) → slice_index a i ≡ slice_index b i) → unlinked a ≡ unlinked b
unfolding unlinked
unlinked_same a b size_a size_b same = blanked_same 36 16 a b (omega arith) size_a size_b same

-- the head stays where a word behind it changes
pub front_stays : (p : ℕ) (old new : List ℕ) → StaysBut p 4 old new → 3132 ≤ p → 3132 ≤ length old → take 3132 new ≡ take 3132 old
front_stays p old new stays from long =
    let size : length (take 3132 new) ≡ 3132 = length-take-le 3132 new (omega (arith, stays.longer)) in
    same_number_lists (take 3132 new) (take 3132 old) (size ∙ sym (length-take-le 3132 old long))
    (λ i below.
    let short : i < 3132 = omega arith in
    get_or-take 3132 new i 0 short ∙ stays.before i (omega arith) (omega arith) ∙ sym (get_or-take 3132 old i 0 short))

-- ---- an image

pub whole_on : (old new : List ℕ) → IsWhole 3132 old → length new ≡ length old → IsWhole 3132 new
whole_on old new whole size =
    size ∙ whole ∙ ap (λ (n : ℕ). 3132 + 192 * ((n - 3132) / 192)) (sym size)

-- The image is another one only in the words of chains: in its head, and in the block of a number.
pub record KeepsForms (k : ℕ) (old new : List ℕ) : Type 0 where
  pub size : length new ≡ length old
  pub head : unlinked_head (take 3132 new) ≡ unlinked_head (take 3132 old)
  pub others : (j : ℕ) → j < blocks_in old → j ≢ k → block_at new j ≡ block_at old j
  pub forms : (j : ℕ) → j < blocks_in old → unlinked (block_at new j) ≡ unlinked (block_at old j)

pub count_same : (old new : List ℕ) → length new ≡ length old → blocks_in new ≡ blocks_in old
count_same old new size = ap (λ (n : ℕ). (n - 3132) / 192) size

pub keeps_none : (k : ℕ) (image : List ℕ) → KeepsForms k image image
keeps_none k image = record { size = refl; head = refl; others = λ j less other. refl; forms = λ j less. refl }

pub keeps_then : (k : ℕ) (a b c : List ℕ) → KeepsForms k a b → KeepsForms k b c → KeepsForms k a c
keeps_then k a b c first second =
    let count : blocks_in b ≡ blocks_in a = count_same a b first.size in record {
      size = second.size ∙ first.size;
      head = second.head ∙ first.head;
      others = λ j less other. second.others j (omega arith) other ∙ first.others j less other;
      forms = λ j less. second.forms j (omega arith) ∙ first.forms j less;
    }

pub keeps_head : (k p v : ℕ) (image : List ℕ) → IsWhole 3132 image → 1084 ≤ p → p + 4 ≤ 3132 → KeepsForms k image (put_word p v image)
unfolding put_word
keeps_head k p v image whole from below =
    let head = take 3132 image in
    let bytes = number_word v in
    let put = head_put 3132 image bytes head (laid head p bytes) p (blocks_in image) whole below refl refl in
    record {
      size = put.size;
      head = ap unlinked_head put.front ∙ unlinked_chain head bytes p (length-take-le 3132 image (omega (arith, whole))) from below;
      others = λ j less other. put.others j less;
      forms = λ j less. ap unlinked (put.others j less);
    }

pub keeps_block : (k o v : ℕ) (image : List ℕ) → IsWhole 3132 image → k < blocks_in image → 36 ≤ o → o + 4 ≤ 52
    → KeepsForms k image (put_word (block_place 3132 k + o) v image)
keeps_block k o v image whole within from below =
    let p = block_place 3132 k + o in
    let new = put_word p v image in
    let room : p + 4 ≤ length image = omega (arith, whole) in
    let stays : StaysBut p 4 image new = word_put image p v room in
    let size : length new ≡ length image = word_len image p v room in
    let others : (j : ℕ) → j < blocks_in image → j ≢ k → block_at new j ≡ block_at image j =
    λ j less other. block_stays 3132 p 4 j image new stays (omega (arith, whole)) (beside 3132 k j o (omega arith) other) in
    let own : unlinked (block_at new k) ≡ unlinked (block_at image k) =
    unlinked_same (block_at new k) (block_at image k)
    (block_len new k (whole_on image new whole size) (omega (arith, count_same image new size))) (block_len image k whole within)
    (λ i less out. byte_stays 3132 p 4 k i image new stays (omega (arith, whole)) less
    (⊎_elim (λ (a : i < 36). inl (omega arith)) (λ (b : 52 ≤ i). inr (omega arith)) out)) in
    record {
      size = size;
      head = ap unlinked_head (front_stays p image new stays (omega arith) (omega (arith, whole)));
      others = others;
      forms = λ j less. ⊎_elim
          (λ (same : j ≡ k). subst (λ (i : ℕ). unlinked (block_at new i) ≡ unlinked (block_at image i)) (sym same) own)
          (λ (other : j ≢ k). ap unlinked (others j less other))
          (cases_eq j k);
    }

-- a word came in at the head of a chain, and its next word stands in this block
pub keeps_put_in : (l : Links) (image : List ℕ) (at w k o : ℕ) → IsWhole 3132 image → k < blocks_in image → 1084 ≤ at → at + 4 ≤ 3132
    → next_place l w ≡ block_place 3132 k + o → 36 ≤ o → o + 4 ≤ 52 → KeepsForms k image (put_in l at w image)
unfolding put_in
keeps_put_in l image at w k o whole within from below is low high =
    let v = word_at image at in
    let mid = put_word (block_place 3132 k + o) v image in
    let first = keeps_block k o v image whole within low high in
    let second = keeps_head k at w mid (whole_on image mid whole first.size) from below in
    subst (λ (p : ℕ). KeepsForms k image (put_word at w (put_word p v image))) (sym is)
    (keeps_then k image mid (put_word at w mid) first second)

-- a word apart from the two that change
pub word_put_in : (l : Links) (image : List ℕ) (at w q : ℕ) → at + 4 ≤ length image → next_place l w + 4 ≤ length image
    → q + 4 ≤ length image → IsApart at 4 q → IsApart (next_place l w) 4 q → word_at (put_in l at w image) q ≡ word_at image q
unfolding put_in
word_put_in l image at w q in_head room within first second =
    let p = next_place l w in
    let v = word_at image at in
    let mid = put_word p v image in
    let size : length mid ≡ length image = word_len image p v room in
    word_stays at 4 q mid (put_word at w mid) (word_put mid at w (omega arith)) (omega arith) first
    ∙ word_stays p 4 q image mid (word_put image p v room) within second
