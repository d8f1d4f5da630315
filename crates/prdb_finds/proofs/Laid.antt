-- Bytes of the head that stand in no chain, and blocks, laid into an image: without the words of chains they are laid into it all the same.
use Rattle.std.proofs.Common.{◌≡◌, ◌≢◌, ℕ, ◌+◌, ◌-◌, ◌*◌, ◌/◌, ◌%◌, ◌<◌, ◌≤◌, ◌⊎◌, inl, inr, ⊎_elim, List, length, slice_index, take, drop, refl, sym, ap, ◌∙◌, arith}
use Rattle.std.proofs.lemmas.Bool.{cases_eq, cases_lt}
use Rattle.std.proofs.lemmas.Grind.{same_number_lists}
use Rattle.std.proofs.lemmas.List.{get_or-drop, get_or-take, length-take-le}
use Rattle.ubik_types.specs.Image.{changed}
use Rattle.ubik_types.specs.declared.images.Change.TheVariants.{Put}
use Rattle.db_blocks.specs.Blocks.{block_in as any_block, IsWhole, blanked}
use Rattle.db_blocks.proofs.BlockPlaces.{head_put as any_head_put, laid, laid_out, laid_in, laid_len, IsPut, add_block, put_block}
use Rattle.db_chains.proofs.Bytes.{blanked_len, blanked_stays}
use Rattle.prdb_layout.specs.Blocks.{block_count}
use Rattle.prdb_layout.specs.Records.{block_in, with_block}
use Rattle.prdb_finds.specs.Unchained.{unchained, unlinked, unlinked_head}
use Rattle.prdb_finds.proofs.Beside.{inside_same}
use Rattle.prdb_finds.proofs.Fields.{unlinked_len}
use Rattle.prdb_finds.proofs.Without.{unchained_block, unchained_count, unchained_head, unchained_len}

-- an image is its head and its blocks
pub same_image : (u v : List ℕ) (n : ℕ) → length u ≡ 2112 + 192 * n → length v ≡ 2112 + 192 * n → take 2112 u ≡ take 2112 v
    → ((k : ℕ) → k < n → block_in u k ≡ block_in v k) → u ≡ v
unfolding any_block
same_image u v n len_u len_v head blocks =
    same_number_lists u v (len_u ∙ sym len_v)
    (λ i below.
    ⊎_elim
    (λ (low : i < 2112). sym (get_or-take 2112 u i 0 low) ∙ ap (λ (h : List ℕ). slice_index h i) head ∙ get_or-take 2112 v i 0 low)
    (λ (high : 2112 ≤ i).
    let k = (i - 2112) / 192 in
    let j = (i - 2112) % 192 in
    let place : 2112 + 192 * k + j ≡ i = omega arith in
    let small : j < 192 = omega arith in
    let less : k < n = omega (arith, below, len_u) in
    let byte : (x : List ℕ) → slice_index (take 192 (drop (2112 + 192 * k) x)) j ≡ slice_index x i =
    λ x. get_or-take 192 (drop (2112 + 192 * k) x) j 0 small ∙ get_or-drop (2112 + 192 * k) x j 0 ∙ ap (slice_index x) place in
    sym (byte u) ∙ ap (λ (b : List ℕ). slice_index b j) (blocks k less) ∙ byte v)
    (cases_lt i 2112))

-- ---- the head

-- a byte that stands in no chain
head_byte : (h : List ℕ) (i : ℕ) → length h ≡ 2112 → (i < 20) ⊎ ((24 ≤ i) × (i < 64))
    → slice_index (unlinked_head h) i ≡ slice_index h i
unfolding unlinked_head
head_byte h i size is =
    let mid = blanked 20 4 h in
    let len : length mid ≡ 2112 = blanked_len 20 4 h (omega arith) ∙ size in
    let one = blanked_stays 20 4 h (omega arith) in
    let two = blanked_stays 64 2048 mid (omega arith) in
    ⊎_elim
    (λ (front : i < 20). two.before i (omega arith) (omega arith) ∙ one.before i front (omega arith))
    (λ (behind : (24 ≤ i) × (i < 64)). two.before i behind.1 (omega (arith, behind.1)) ∙ one.behind i behind.0 (omega (arith, behind.1)))
    is

-- and one that stands in a chain
head_zero : (g h : List ℕ) (i : ℕ) → length g ≡ 2112 → length h ≡ 2112 → i < 2112 → ((20 ≤ i) × (i < 24)) ⊎ (64 ≤ i)
    → slice_index (unlinked_head g) i ≡ slice_index (unlinked_head h) i
unfolding unlinked_head
head_zero g h i size_g size_h below is =
    let len : (x : List ℕ) → length x ≡ 2112 → length (blanked 20 4 x) ≡ 2112 =
    λ x size. blanked_len 20 4 x (omega arith) ∙ size in
    let len_g = len g size_g in
    let len_h = len h size_h in
    ⊎_elim
    (λ (free : (20 ≤ i) × (i < 24)).
    (blanked_stays 64 2048 (blanked 20 4 g) (omega arith)).before i (omega (arith, free.1)) (omega arith)
    ∙ inside_same 20 4 i g h (omega arith) (omega arith) free.0 free.1
    ∙ sym ((blanked_stays 64 2048 (blanked 20 4 h) (omega arith)).before i (omega (arith, free.1)) (omega arith)))
    (λ (key : 64 ≤ i). inside_same 64 2048 i (blanked 20 4 g) (blanked 20 4 h) (omega arith) (omega arith) key (omega arith))
    is

around : (i : ℕ) → ((i < 20) ⊎ ((24 ≤ i) × (i < 64))) ⊎ (((20 ≤ i) × (i < 24)) ⊎ (64 ≤ i))
around i =
    ⊎_elim (λ (a : i < 20). inl (inl a))
    (λ (b : 20 ≤ i). ⊎_elim (λ (c : i < 24). inr (inl (b, c)))
    (λ (d : 24 ≤ i). ⊎_elim (λ (e : i < 64). inl (inr (d, e))) (λ (f : 64 ≤ i). inr (inr f)) (cases_lt i 64)) (cases_lt i 24))
    (cases_lt i 20)

head_unlinked : (h : List ℕ) → length h ≡ 2112 → length (unlinked_head h) ≡ 2112
unfolding unlinked_head
head_unlinked h size =
    let mid : length (blanked 20 4 h) ≡ 2112 = blanked_len 20 4 h (omega arith) ∙ size in
    blanked_len 64 2048 (blanked 20 4 h) (omega arith) ∙ mid

unlinked_laid : (h b : List ℕ) (p : ℕ) → length h ≡ 2112 → p + length b ≤ 20 → unlinked_head (laid h p b) ≡ laid (unlinked_head h) p b
unlinked_laid h b p size within =
    let x = laid h p b in
    let len_x : length x ≡ 2112 = laid_len h b p (omega arith) ∙ size in
    let len_u : length (unlinked_head h) ≡ 2112 = head_unlinked h size in
    let room : p + length b ≤ length (unlinked_head h) = omega arith in
    same_number_lists (unlinked_head x) (laid (unlinked_head h) p b)
    (head_unlinked x len_x ∙ sym (laid_len (unlinked_head h) b p room ∙ len_u))
    (λ i below.
    let low : i < 2112 = omega (arith, below, head_unlinked x len_x) in
    let outside : (i < p) ⊎ (p + length b ≤ i) → slice_index (unlinked_head x) i ≡ slice_index (laid (unlinked_head h) p b) i =
    λ out. ⊎_elim
    (λ (kept : (i < 20) ⊎ ((24 ≤ i) × (i < 64))).
    head_byte x i len_x kept ∙ laid_out h b p i (omega arith) out ∙ sym (head_byte h i size kept)
    ∙ sym (laid_out (unlinked_head h) b p i room out))
    (λ (zero_is : ((20 ≤ i) × (i < 24)) ⊎ (64 ≤ i)).
    head_zero x h i len_x size low zero_is ∙ sym (laid_out (unlinked_head h) b p i room out))
    (around i) in
    ⊎_elim (λ (before : i < p). outside (inl before))
    (λ (from : p ≤ i). ⊎_elim
    (λ (inside : i < p + length b).
    let front : i < 20 = omega arith in
    head_byte x i len_x (inl front) ∙ laid_in h b p i (omega arith) from inside
    ∙ sym (laid_in (unlinked_head h) b p i room from inside))
    (λ (behind : p + length b ≤ i). outside (inr behind))
    (cases_lt i (p + length b)))
    (cases_lt i p))

pub head_laid : (image b : List ℕ) (p : ℕ) → IsWhole 2112 image → p + length b ≤ 20
    → unchained (changed image (Put p b)) ≡ changed (unchained image) (Put p b)
head_laid image b p whole within =
    let n = block_count image in
    let u = unchained image in
    let new = changed image (Put p b) in
    let len_u = unchained_len image whole in
    let head : length (take 2112 image) ≡ 2112 = length-take-le 2112 image (omega (arith, whole)) in
    let put = any_head_put 2112 image b (take 2112 image) (laid (take 2112 image) p b) p n whole (omega arith) refl refl in
    let also = any_head_put 2112 u b (take 2112 u) (laid (take 2112 u) p b) p n len_u (omega arith) refl refl in
    let whole_new : IsWhole 2112 new = omega (arith, put.size, whole) in
    let count : block_count new ≡ n = omega (arith, put.size) in
    same_image (unchained new) (changed u (Put p b)) n (omega (arith, unchained_len new whole_new, count)) (also.size ∙ len_u)
    (unchained_head new whole_new ∙ ap unlinked_head put.front ∙ unlinked_laid (take 2112 image) b p head within
    ∙ ap (λ (h : List ℕ). laid h p b) (sym (unchained_head image whole)) ∙ sym also.front)
    (λ k below.
    unchained_block new k whole_new (omega (arith, below, count))
    ∙ ap unlinked (put.others k below)
    ∙ sym (unchained_block image k whole below)
    ∙ sym (also.others k (omega (arith, below, unchained_count image whole))))

-- ---- a block

-- a block in its place, or one more
put_both : (image block new v : List ℕ) (k n : ℕ) → IsWhole 2112 image → length block ≡ 192 → k < n → n ≤ block_count image + 1
    → ((j : ℕ) → j < n → j ≢ k → j < block_count image) → IsPut 2112 k block image new n → IsPut 2112 k (unlinked block) (unchained image) v n
    → unchained new ≡ v
put_both image block new v k n whole len within most only put also =
    let whole_new : IsWhole 2112 new = omega (arith, put.size) in
    let count : block_count new ≡ n = omega (arith, put.size) in
    same_image (unchained new) v n (omega (arith, unchained_len new whole_new, count)) also.size
    (unchained_head new whole_new ∙ ap unlinked_head put.front ∙ sym (unchained_head image whole) ∙ sym also.front)
    (λ j below.
    unchained_block new j whole_new (omega (arith, below, count))
    ∙ ⊎_elim
    (λ (same : j ≡ k).
    ap (λ (i : ℕ). unlinked (block_in new i)) same ∙ ap unlinked put.here ∙ sym also.here ∙ ap (block_in v) (sym same))
    (λ (other : j ≡ k → ⊥).
    let less = only j below other in
    ap unlinked (put.others j less other) ∙ sym (unchained_block image j whole less)
    ∙ sym (also.others j (omega (arith, less, unchained_count image whole)) other))
    (cases_eq j k))

pub block_laid : (image block : List ℕ) (k : ℕ) → IsWhole 2112 image → length block ≡ 192 → k < block_count image
    → unchained (with_block k block image) ≡ with_block k (unlinked block) (unchained image)
block_laid image block k whole len below =
    let n = block_count image in
    put_both image block (with_block k block image) (with_block k (unlinked block) (unchained image)) k n whole len below (omega arith)
    (λ j less other. less) (put_block 2112 image block k n whole len below)
    (put_block 2112 (unchained image) (unlinked block) k n (unchained_len image whole) (unlinked_len block len) below)

pub block_added : (image block : List ℕ) → IsWhole 2112 image → length block ≡ 192
    → unchained (with_block (block_count image) block image) ≡ with_block (block_count image) (unlinked block) (unchained image)
block_added image block whole len =
    let n = block_count image in
    put_both image block (with_block n block image) (with_block n (unlinked block) (unchained image)) n (n + 1) whole len (omega arith)
    (omega arith)
    (λ j less other. omega (arith, less, other)) (add_block 2112 image block n whole len)
    (add_block 2112 (unchained image) (unlinked block) n (unchained_len image whole) (unlinked_len block len))
