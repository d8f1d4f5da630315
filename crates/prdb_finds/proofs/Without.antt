-- The head and the blocks of an image without the words of its chains.
use Rattle.std.proofs.Common.{◌≡◌, ℕ, zero, suc, ◌+◌, ◌*◌, ◌<◌, ◌≤◌, List, ◌++◌, length, take, drop, refl, sym, ap, ◌∙◌, arith}
use Rattle.std.specs.List.{flat_map, range_with_len}
use Rattle.std.proofs.lemmas.List.{drop-drop, drop_at, length-append, length-take-le, take_at}
use Rattle.db_blocks.specs.Blocks.{block_in as any_block, IsWhole, kind_of, blanked}
use Rattle.db_chains.proofs.Bytes.{blanked_len}
use Rattle.prdb_layout.specs.Blocks.{block_count}
use Rattle.prdb_layout.specs.Records.{block_in, entry_in}
use Rattle.prdb_layout.proofs.BlockPlaces.{block_len}
use Rattle.prdb_finds.specs.Unchained.{unchained, unlinked, unlinked_head}
use Rattle.prdb_finds.proofs.Fields.{unlinked_entry, unlinked_kind, unlinked_len}

-- ---- parts of one length, one behind the other

parts_len : (f : ℕ → List ℕ) (from n : ℕ) → ((k : ℕ) → k < from + n → length (f k) ≡ 192)
    → length (flat_map f (range_with_len from n)) ≡ 192 * n
parts_len f from zero len = refl
parts_len f from (suc n) len =
    omega (
      arith,
      length-append (f from) (flat_map f (range_with_len (from + 1) n)),
      len from (omega arith),
      parts_len f (from + 1) n (λ k less. len k (omega arith)),
    )

part_at : (f : ℕ → List ℕ) (from n j : ℕ) → j < n → ((k : ℕ) → k < from + n → length (f k) ≡ 192)
    → take 192 (drop (192 * j) (flat_map f (range_with_len from n))) ≡ f (from + j)
part_at f from zero j less len = absurd (omega arith)
part_at f from (suc n) zero less len =
    let same : from ≡ from + 0 = omega arith in
    take_at (f from) (flat_map f (range_with_len (from + 1) n)) 192 (len from (omega arith)) ∙ ap f same
part_at f from (suc n) (suc j) less len =
    let rest = flat_map f (range_with_len (from + 1) n) in
    let far : 192 * suc j ≡ 192 + 192 * j = omega arith in
    let same : from + 1 + j ≡ from + suc j = omega arith in
    ap (λ (p : ℕ). take 192 (drop p (f from ++ rest))) far
    ∙ ap (take 192) (sym (drop-drop (192 * j) 192 (f from ++ rest)))
    ∙ ap (λ (x : List ℕ). take 192 (drop (192 * j) x)) (drop_at (f from) rest 192 (len from (omega arith)))
    ∙ part_at f (from + 1) n j (omega arith) (λ k below. len k (omega arith)) ∙ ap f same

-- ---- the image

head_len : (image : List ℕ) → 2112 ≤ length image → length (unlinked_head (take 2112 image)) ≡ 2112
unfolding unlinked_head
head_len image long =
    let head = take 2112 image in
    let size : length head ≡ 2112 = length-take-le 2112 image long in
    let mid : length (blanked 20 4 head) ≡ 2112 = blanked_len 20 4 head (omega arith) ∙ size in
    blanked_len 64 2048 (blanked 20 4 head) (omega arith) ∙ mid

block_lens : (image : List ℕ) (k : ℕ) → IsWhole 2112 image → k < 0 + block_count image → length (unlinked (block_in image k)) ≡ 192
block_lens image k whole below =
    unlinked_len (block_in image k) (block_len image k (block_count image) whole (omega arith))

pub unchained_len : (image : List ℕ) → IsWhole 2112 image → length (unchained image) ≡ 2112 + 192 * block_count image
unfolding unchained
unchained_len image whole =
    let f : ℕ → List ℕ = λ k. unlinked (block_in image k) in
    let n = block_count image in
    omega (
      arith,
      length-append (unlinked_head (take 2112 image)) (flat_map f (range_with_len 0 n)),
      head_len image (omega (arith, whole)),
      parts_len f 0 n (λ k below. block_lens image k whole below),
    )

pub unchained_count : (image : List ℕ) → IsWhole 2112 image → block_count (unchained image) ≡ block_count image
unchained_count image whole = omega (arith, unchained_len image whole)

pub unchained_head : (image : List ℕ) → IsWhole 2112 image → take 2112 (unchained image) ≡ unlinked_head (take 2112 image)
unfolding unchained
unchained_head image whole =
    take_at (unlinked_head (take 2112 image)) (flat_map (λ k. unlinked (block_in image k)) (range_with_len 0 (block_count image))) 2112
    (head_len image (omega (arith, whole)))

blocks_behind : (head blocks : List ℕ) (k : ℕ) → length head ≡ 2112
    → take 192 (drop (2112 + 192 * k) (head ++ blocks)) ≡ take 192 (drop (192 * k) blocks)
blocks_behind head blocks k size =
    ap (take 192) (sym (drop-drop (192 * k) 2112 (head ++ blocks)))
    ∙ ap (λ (x : List ℕ). take 192 (drop (192 * k) x)) (drop_at head blocks 2112 size)

taken_block : (image : List ℕ) (k : ℕ) → block_in image k ≡ take 192 (drop (2112 + 192 * k) image)
unfolding any_block
taken_block image k = refl

pub unchained_block : (image : List ℕ) (k : ℕ) → IsWhole 2112 image → k < block_count image
    → block_in (unchained image) k ≡ unlinked (block_in image k)
unfolding unchained
unchained_block image k whole below =
    let f : ℕ → List ℕ = λ j. unlinked (block_in image j) in
    let n = block_count image in
    let same : 0 + k ≡ k = omega arith in
    taken_block (unchained image) k
    ∙ blocks_behind (unlinked_head (take 2112 image)) (flat_map f (range_with_len 0 n)) k (head_len image (omega (arith, whole)))
    ∙ part_at f 0 n k below (λ j less. block_lens image j whole less) ∙ ap f same

-- ---- what is read of a block

pub unchained_kind : (image : List ℕ) (k : ℕ) → IsWhole 2112 image → k < block_count image
    → kind_of (block_in (unchained image) k) ≡ kind_of (block_in image k)
unchained_kind image k whole below =
    ap kind_of (unchained_block image k whole below)
    ∙ unlinked_kind (block_in image k) (block_len image k (block_count image) whole below)

pub unchained_entry : (image : List ℕ) (k : ℕ) → IsWhole 2112 image → k < block_count image → kind_of (block_in image k) ≡ 1
    → entry_in (block_in (unchained image) k) ≡ entry_in (block_in image k)
unchained_entry image k whole below kind =
    ap entry_in (unchained_block image k whole below)
    ∙ unlinked_entry (block_in image k) (block_len image k (block_count image) whole below) kind
