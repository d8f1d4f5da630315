-- Words of chains that change leave the image without them.
use Rattle.std.proofs.Common.{◌≡◌, ℕ, zero, suc, ◌+◌, ◌-◌, ◌*◌, ◌/◌, ◌%◌, ◌<◌, ◌≤◌, ◌⊎◌, true, inl, inr, ⊎_elim, List, ◌++◌, length, slice_index, take, drop, refl, sym, ap, ◌∙◌, arith}
use Rattle.std.specs.List.{flat_map, range_with_len}
use Rattle.std.proofs.lemmas.Bool.{cases_eq, cases_lt}
use Rattle.std.proofs.lemmas.Grind.{same_number_lists}
use Rattle.std.proofs.lemmas.List.{get_or-drop, get_or-take, length-drop, length-take-le, places}
use Rattle.db_blocks.specs.Blocks.{IsWhole, word_at, kind_of, blanked}
use Rattle.db_blocks.proofs.BlockPlaces.{changed_laid, laid}
use Rattle.db_chains.specs.Changes.{put_in, put_word, taken_out}
use Rattle.db_chains.specs.Links.{block_of, is_right, next_place}
use Rattle.db_chains.proofs.Bytes.{StaysBut, word_len, word_put, word_stays, blanked_len, blanked_stays}
use Rattle.db_chains.proofs.Framed.{block_stays, byte_stays}
use Rattle.db_chains.proofs.Words.{in_block, right, right_names}
use Rattle.prdb_layout.specs.Blocks.{block_count}
use Rattle.db_blocks.specs.Bytes.{zeros}
use Rattle.db_blocks.proofs.Lengths.{length-zeros}
use Rattle.prdb_layout.specs.Records.{block_in, block_place}
use Rattle.prdb_layout.proofs.BlockPlaces.{block_len}
use Rattle.prdb_finds.specs.Places.{IsEntryPlace, IsInEntry, entry_links}
use Rattle.prdb_finds.specs.Unchained.{unchained, unlinked, unlinked_head}
use Rattle.prdb_finds.proofs.Fields.{entry_unlinked, free_unlinked}

-- ---- blanked bytes

-- what stands beside them is all that is left
blank_same : (at len : ℕ) (a b : List ℕ) → length a ≡ length b → at + len ≤ length b
    → ((i : ℕ) → i < length b → (i < at) ⊎ (at + len ≤ i) → slice_index a i ≡ slice_index b i) → blanked at len a ≡ blanked at len b
unfolding laid
blank_same at len a b size within same =
    let z = zeros len in
    let long : length z ≡ len = length-zeros len in
    let front_a : length (take at a) ≡ at = length-take-le at a (omega arith) in
    let front_b : length (take at b) ≡ at = length-take-le at b (omega arith) in
    let front : take at a ≡ take at b =
    same_number_lists (take at a) (take at b) (front_a ∙ sym front_b)
    (λ i below.
    let less : i < at = omega (arith, below, front_a) in
    get_or-take at a i 0 less ∙ same i (omega arith) (inl less) ∙ sym (get_or-take at b i 0 less)) in
    let back : drop (at + length z) a ≡ drop (at + length z) b =
    same_number_lists (drop (at + length z) a) (drop (at + length z) b)
    (omega (arith, length-drop (at + length z) a, length-drop (at + length z) b, size))
    (λ i below.
    let less : at + length z + i < length b = omega (arith, below, length-drop (at + length z) a, size) in
    get_or-drop (at + length z) a i 0 ∙ same (at + length z + i) less (inr (omega (arith, long)))
    ∙ sym (get_or-drop (at + length z) b i 0)) in
    changed_laid a z at (omega arith) ∙ ap (λ (x : List ℕ). x ++ z ++ drop (at + length z) a) front
    ∙ ap (λ (x : List ℕ). take at b ++ z ++ x) back ∙ sym (changed_laid b z at (omega arith))

laid_in : (image bytes : List ℕ) (at i : ℕ) → at ≤ length image → i < length bytes
    → slice_index (laid image at bytes) (at + i) ≡ slice_index bytes i
unfolding laid
laid_in image bytes at i within inside = grind (arith, places)

-- and they are the same in both
pub inside_same : (at len i : ℕ) (a b : List ℕ) → at + len ≤ length a → at + len ≤ length b → at ≤ i → i < at + len
    → slice_index (blanked at len a) i ≡ slice_index (blanked at len b) i
inside_same at len i a b in_a in_b from below =
    let z = zeros len in
    let inside : i - at < length z = omega (arith, length-zeros len) in
    let place : at + (i - at) ≡ i = omega arith in
    let one : (x : List ℕ) → at ≤ length x → slice_index (blanked at len x) i ≡ slice_index z (i - at) =
    λ x fits. ap (λ (y : List ℕ). slice_index y i) (changed_laid x z at fits)
    ∙ ap (slice_index (laid x at z)) (sym place) ∙ laid_in x z at (i - at) fits inside in
    one a (omega arith) ∙ sym (one b (omega arith))

-- ---- an image

parts_same : (f g : ℕ → List ℕ) (from n : ℕ) → ((k : ℕ) → k < from + n → f k ≡ g k)
    → flat_map f (range_with_len from n) ≡ flat_map g (range_with_len from n)
parts_same f g from zero same = refl
parts_same f g from (suc n) same =
    ap (λ (x : List ℕ). x ++ flat_map f (range_with_len (from + 1) n)) (same from (omega arith))
    ∙ ap (λ (xs : List ℕ). g from ++ xs) (parts_same f g (from + 1) n (λ k less. same k (omega arith)))

image_same : (old new : List ℕ) → length new ≡ length old → unlinked_head (take 2112 new) ≡ unlinked_head (take 2112 old)
    → ((k : ℕ) → k < block_count old → unlinked (block_in new k) ≡ unlinked (block_in old k)) → unchained new ≡ unchained old
unfolding unchained
image_same old new size head blocks =
    let f : ℕ → List ℕ = λ k. unlinked (block_in new k) in
    let g : ℕ → List ℕ = λ k. unlinked (block_in old k) in
    ap (λ (h : List ℕ). h ++ flat_map f (range_with_len 0 (block_count new))) head
    ∙ ap (λ (n : ℕ). unlinked_head (take 2112 old) ++ flat_map f (range_with_len 0 ((n - 2112) / 192))) size
    ∙ ap (λ (x : List ℕ). unlinked_head (take 2112 old) ++ x)
    (parts_same f g 0 (block_count old) (λ k less. blocks k (omega (arith, less))))

-- a block apart from a word
other_block : (old new : List ℕ) (p k : ℕ) → IsWhole 2112 old → StaysBut p 4 old new → k < block_count old
    → (block_place k + 192 ≤ p) ⊎ (p + 4 ≤ block_place k) → block_in new k ≡ block_in old k
other_block old new p k whole stays below apart =
    block_stays 2112 p 4 k old new stays (omega (arith, whole)) apart

-- ---- a word of the head

head_byte : (old new : List ℕ) (p i : ℕ) → StaysBut p 4 old new → 2112 ≤ length old → i < 2112 → (i < p) ⊎ (p + 4 ≤ i)
    → slice_index (take 2112 new) i ≡ slice_index (take 2112 old) i
head_byte old new p i stays long below apart =
    get_or-take 2112 new i 0 below
    ∙ ⊎_elim (λ (front : i < p). stays.before i front (omega arith)) (λ (behind : p + 4 ≤ i). stays.behind i behind (omega arith)) apart
    ∙ sym (get_or-take 2112 old i 0 below)

abbrev IsHeadWord : ℕ → Type 0
IsHeadWord p = (p ≡ 20) ⊎ ((64 ≤ p) × (p + 4 ≤ 2112))

head_same : (old new : List ℕ) (p : ℕ) → StaysBut p 4 old new → 2112 ≤ length old → IsHeadWord p
    → unlinked_head (take 2112 new) ≡ unlinked_head (take 2112 old)
unfolding unlinked_head
head_same old new p stays long is =
    let a = take 2112 new in
    let b = take 2112 old in
    let size_b : length b ≡ 2112 = length-take-le 2112 old long in
    let size_a : length a ≡ 2112 = length-take-le 2112 new (omega (arith, stays.longer)) in
    ⊎_elim
    (λ (free : p ≡ 20).
    ap (blanked 64 2048) (blank_same 20 4 a b (size_a ∙ sym size_b) (omega arith)
    (λ i below beside. head_byte old new p i stays long (omega (arith, below, size_b)) (⊎_elim
    (λ (front : i < 20). inl (omega (arith, free))) (λ (behind : 20 + 4 ≤ i). inr (omega (arith, free))) beside))))
    (λ (key : (64 ≤ p) × (p + 4 ≤ 2112)).
    let len_a : length (blanked 20 4 a) ≡ 2112 = blanked_len 20 4 a (omega arith) ∙ size_a in
    let len_b : length (blanked 20 4 b) ≡ 2112 = blanked_len 20 4 b (omega arith) ∙ size_b in
    let in_a = blanked_stays 20 4 a (omega arith) in
    let in_b = blanked_stays 20 4 b (omega arith) in
    let byte : (i : ℕ) → i < 64 → slice_index a i ≡ slice_index b i =
    λ i less. head_byte old new p i stays long (omega arith) (inl (omega (arith, key.0))) in
    blank_same 64 2048 (blanked 20 4 a) (blanked 20 4 b) (len_a ∙ sym len_b) (omega arith)
    (λ i below beside.
    let less : i < 64 = ⊎_elim (λ (front : i < 64). front) (λ (behind : 64 + 2048 ≤ i). absurd (omega (arith, below, len_b))) beside in
    ⊎_elim
    (λ (front : i < 20). in_a.before i front (omega arith) ∙ byte i less ∙ sym (in_b.before i front (omega arith)))
    (λ (on : 20 ≤ i).
    ⊎_elim
    (λ (inside : i < 24). inside_same 20 4 i a b (omega arith) (omega arith) on inside)
    (λ (behind : 24 ≤ i). in_a.behind i behind (omega arith) ∙ byte i less ∙ sym (in_b.behind i behind (omega arith)))
    (cases_lt i 24))
    (cases_lt i 20)))
    is

pub head_beside : (image : List ℕ) (p n : ℕ) → IsWhole 2112 image → (p ≡ 20) ⊎ ((64 ≤ p) × (p + 4 ≤ 2112))
    → unchained (put_word p n image) ≡ unchained image
head_beside image p n whole is =
    let new = put_word p n image in
    let within : p + 4 ≤ 2112 =
    ⊎_elim (λ (free : p ≡ 20). omega (arith, free)) (λ (key : (64 ≤ p) × (p + 4 ≤ 2112)). key.1) is in
    let stays : StaysBut p 4 image new = word_put image p n (omega (arith, whole)) in
    image_same image new (word_len image p n (omega (arith, whole))) (head_same image new p stays (omega (arith, whole)) is)
    (λ k below. ap unlinked (other_block image new p k whole stays below (inr (omega arith))))

-- ---- a word of a block

-- all but the block of a number
beside_block : (image : List ℕ) (k offset n : ℕ) → IsWhole 2112 image → k < block_count image → offset + 4 ≤ 192
    → unlinked (block_in (put_word (block_place k + offset) n image) k) ≡ unlinked (block_in image k)
    → unchained (put_word (block_place k + offset) n image) ≡ unchained image
beside_block image k offset n whole below fits here =
    let p = block_place k + offset in
    let new = put_word p n image in
    let room : p + 4 ≤ length image = omega (arith, whole) in
    let stays : StaysBut p 4 image new = word_put image p n room in
    let head : take 2112 new ≡ take 2112 image =
    same_number_lists (take 2112 new) (take 2112 image)
    (length-take-le 2112 new (omega (arith, stays.longer)) ∙ sym (length-take-le 2112 image (omega (arith, whole))))
    (λ i less.
    let low : i < 2112 = omega (arith, less, length-take-le 2112 new (omega (arith, stays.longer))) in
    head_byte image new p i stays (omega (arith, whole)) low (inl (omega arith))) in
    image_same image new (word_len image p n room) (ap unlinked_head head)
    (λ j less.
    ⊎_elim
    (λ (same : j ≡ k). ap (λ (m : ℕ). unlinked (block_in new m)) same ∙ here ∙ ap (λ (m : ℕ). unlinked (block_in image m)) (sym same))
    (λ (other : j ≡ k → ⊥).
    ap unlinked (other_block image new p j whole stays less (⊎_elim (λ (before : j < k). inl (omega arith))
    (λ (behind : k ≤ j). inr (omega (arith, other))) (cases_lt j k))))
    (cases_eq j k))

kind_stays : (image : List ℕ) (k offset n : ℕ) → IsWhole 2112 image → k < block_count image → 4 ≤ offset → offset + 4 ≤ 192
    → kind_of (block_in (put_word (block_place k + offset) n image) k) ≡ kind_of (block_in image k)
kind_stays image k offset n whole below from fits =
    let p = block_place k + offset in
    let new = put_word p n image in
    let stays : StaysBut p 4 image new = word_put image p n (omega (arith, whole)) in
    in_block 2112 new k 0 192 refl (omega arith)
    ∙ word_stays p 4 (block_place k + 0) image new stays (omega (arith, whole)) (inl (omega arith))
    ∙ sym (in_block 2112 image k 0 192 refl (omega arith))

block_same : (image : List ℕ) (k offset n at len : ℕ) → IsWhole 2112 image → k < block_count image → at ≤ offset → offset + 4 ≤ at + len
    → at + len ≤ 192
    → blanked at len (block_in (put_word (block_place k + offset) n image) k) ≡ blanked at len (block_in image k)
block_same image k offset n at len whole below from fits within =
    let p = block_place k + offset in
    let new = put_word p n image in
    let room : p + 4 ≤ length image = omega (arith, whole) in
    let stays : StaysBut p 4 image new = word_put image p n room in
    let size : length new ≡ length image = word_len image p n room in
    let new_len : length (block_in new k) ≡ 192 = block_len new k (block_count image) (size ∙ whole) below in
    let old_len : length (block_in image k) ≡ 192 = block_len image k (block_count image) whole below in
    blank_same at len (block_in new k) (block_in image k) (new_len ∙ sym old_len) (omega (arith, old_len))
    (λ i less beside.
    byte_stays 2112 p 4 k i image new stays (omega (arith, whole)) (omega (arith, less, old_len)) (⊎_elim
    (λ (front : i < at). inl (omega arith)) (λ (behind : at + len ≤ i). inr (omega arith)) beside))

pub entry_beside : (image : List ℕ) (k offset n : ℕ) → IsWhole 2112 image → k < block_count image → kind_of (block_in image k) ≡ 1
    → 96 ≤ offset
    → offset + 4 ≤ 112 → unchained (put_word (block_place k + offset) n image) ≡ unchained image
entry_beside image k offset n whole below kind from fits =
    beside_block image k offset n whole below (omega arith)
    (entry_unlinked (block_in (put_word (block_place k + offset) n image) k)
    (kind_stays image k offset n whole below (omega arith) (omega arith) ∙ kind)
    ∙ block_same image k offset n 96 16 whole below from fits (omega arith)
    ∙ sym (entry_unlinked (block_in image k) kind))

pub free_beside : (image : List ℕ) (k n : ℕ) → IsWhole 2112 image → k < block_count image → kind_of (block_in image k) ≡ 0
    → unchained (put_word (block_place k + 4) n image) ≡ unchained image
free_beside image k n whole below kind =
    beside_block image k 4 n whole below (omega arith)
    (free_unlinked (block_in (put_word (block_place k + 4) n image) k)
    (kind_stays image k 4 n whole below (omega arith) (omega arith) ∙ kind)
    ∙ block_same image k 4 n 4 4 whole below (omega arith) (omega arith) (omega arith)
    ∙ sym (free_unlinked (block_in image k) kind))

-- ---- words of chains of entries

pub put_whole : (image : List ℕ) (p n : ℕ) → IsWhole 2112 image → p + 4 ≤ length image → IsWhole 2112 (put_word p n image)
put_whole image p n whole room =
    let size : length (put_word p n image) ≡ length image = word_len image p n room in
    omega (arith, size, whole)

place_room : (image : List ℕ) (at : ℕ) → IsWhole 2112 image → IsEntryPlace image at → at + 4 ≤ length image
place_room image at whole is =
    ⊎_elim (λ (head : (64 ≤ at) × (at + 4 ≤ 2112)). omega (arith, whole, head.1))
    (λ (block : (k : ℕ) × IsInEntry image at k). omega (arith, whole, block.1.place, block.1.below, block.1.to))
    is

pub place_beside : (image : List ℕ) (at n : ℕ) → IsWhole 2112 image → IsEntryPlace image at
    → unchained (put_word at n image) ≡ unchained image
place_beside image at n whole is =
    ⊎_elim (λ (head : (64 ≤ at) × (at + 4 ≤ 2112)). head_beside image at n whole (inr head))
    (λ (block : (k : ℕ) × IsInEntry image at k).
    let b = block.1 in
    ap (λ (p : ℕ). unchained (put_word p n image)) b.place
    ∙ entry_beside image block.0 b.offset n whole b.below b.kind b.from b.to)
    is

-- a block keeps its kind
kind_kept : (image : List ℕ) (at n j : ℕ) → IsWhole 2112 image → IsEntryPlace image at → j < block_count image
    → kind_of (block_in (put_word at n image) j) ≡ kind_of (block_in image j)
kind_kept image at n j whole is below =
    let room = place_room image at whole is in
    let stays : StaysBut at 4 image (put_word at n image) = word_put image at n room in
    ⊎_elim
    (λ (head : (64 ≤ at) × (at + 4 ≤ 2112)). ap kind_of (other_block image (put_word at n image) at j whole stays below (inr (omega
    (arith, head.1)))))
    (λ (block : (k : ℕ) × IsInEntry image at k).
    let k = block.0 in
    let b = block.1 in
    ⊎_elim
    (λ (same : j ≡ k).
    ap (λ (p : ℕ). kind_of (block_in (put_word p n image) j)) b.place
    ∙ ap (λ (i : ℕ). kind_of (block_in (put_word (block_place k + b.offset) n image) i)) same
    ∙ kind_stays image k b.offset n whole b.below (omega (arith, b.from)) (omega (arith, b.to))
    ∙ ap (λ (i : ℕ). kind_of (block_in image i)) (sym same))
    (λ (other : j ≡ k → ⊥).
    ap kind_of (other_block image (put_word at n image) at j whole stays below (⊎_elim
    (λ (before : j < k). inl (omega (arith, b.place, b.from))) (λ (behind : k ≤ j). inr (omega (arith, b.place, b.to, other)))
    (cases_lt j k))))
    (cases_eq j k))
    is

-- a place stays one
place_kept : (image : List ℕ) (at n to : ℕ) → IsWhole 2112 image → IsEntryPlace image at → IsEntryPlace image to
    → IsEntryPlace (put_word at n image) to
place_kept image at n to whole is there =
    let size : length (put_word at n image) ≡ length image = word_len image at n (place_room image at whole is) in
    ⊎_elim (λ (head : (64 ≤ to) × (to + 4 ≤ 2112)). inl head)
    (λ (block : (k : ℕ) × IsInEntry image to k).
    let b = block.1 in
    inr (
      block.0,
      record {
        offset = b.offset;
        place = b.place;
        below = omega (arith, b.below, size);
        kind = kind_kept image at n block.0 whole is b.below ∙ b.kind;
        from = b.from;
        to = b.to;
      },
    ))
    there

-- two puts in turn
two_beside : (image : List ℕ) (at to m n : ℕ) → IsWhole 2112 image → IsEntryPlace image at → IsEntryPlace image to
    → unchained (put_word to n (put_word at m image)) ≡ unchained image
two_beside image at to m n whole is there =
    place_beside (put_word at m image) to n (put_whole image at m whole (place_room image at whole is))
    (place_kept image at m to whole is there)
    ∙ place_beside image at m whole is

-- where a word's next one stands
pub next_is : (next : ℕ) (image : List ℕ) (w : ℕ) → 96 ≤ next → next + 4 ≤ 112 → is_right (entry_links next) image w ≡ true
    → IsEntryPlace image (next_place (entry_links next) w)
next_is next image w from fits is =
    let n = right_names (entry_links next) image w is in
    let k = block_of (entry_links next) w in
    let below : k < block_count image = omega (arith, n.some, n.block) in
    let rest : w % 1 ≡ 0 = omega arith in
    let mark : kind_of (block_in image k) ≡ 1 =
    in_block 2112 image k 0 192 refl (omega arith)
    ∙ ap (word_at image) (omega arith) ∙ (right (entry_links next) image w is).mark in
    inr (
      k,
      record {
        offset = next;
        place = ap (λ (x : ℕ). block_place k + (next + 4 * x)) rest ∙ omega arith;
        below = below;
        kind = mark;
        from = from;
        to = fits;
      },
    )

pub put_beside : (next : ℕ) (image : List ℕ) (at w : ℕ) → 96 ≤ next → next + 4 ≤ 112 → IsWhole 2112 image → IsEntryPlace image at
    → is_right (entry_links next) image w ≡ true → unchained (put_in (entry_links next) at w image) ≡ unchained image
unfolding put_in
put_beside next image at w from fits whole is right_is =
    two_beside image (next_place (entry_links next) w) at (word_at image at) w whole (next_is next image w from fits right_is) is

pub taken_beside : (next : ℕ) (image : List ℕ) (at : ℕ) → 96 ≤ next → next + 4 ≤ 112 → IsWhole 2112 image → IsEntryPlace image at
    → is_right (entry_links next) image (word_at image at) ≡ true → unchained (taken_out (entry_links next) at image) ≡ unchained image
unfolding taken_out
taken_beside next image at from fits whole is right_is =
    let w = word_at image at in
    let there = next_is next image w from fits right_is in
    two_beside image at (next_place (entry_links next) w) (word_at image (next_place (entry_links next) w)) 0 whole is there
