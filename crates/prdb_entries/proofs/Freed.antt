-- A block that is freed: without the words of chains it is zero.
use Rattle.std.proofs.Common.{◌≡◌, ◌≢◌, ℕ, ◌+◌, ◌-◌, ◌*◌, ◌/◌, ◌%◌, ◌<◌, ◌≤◌, ◌⊎◌, inl, inr, ⊎_elim, Bool, true, false, cond, List, [], ◌∷◌, ◌++◌, length, refl, sym, ap, subst, ◌∙◌, arith}
use Rattle.std.specs.Prelude.{nat_lt}
use Rattle.std.specs.List.{AllByRecursion, Contains}
use Rattle.db_blocks.specs.Blocks.{IsWhole, with_block as any_with, word_at, kind_of}
use Rattle.db_blocks.specs.Bytes.{zeros}
use Rattle.db_chains.specs.Chains.{HasChain}
use Rattle.db_chains.specs.Changes.{place_above, put_in, put_word}
use Rattle.db_chains.specs.Free.{IsAscending, blank, free_links, put_among, with_freed}
use Rattle.db_chains.specs.Links.{is_right, mark_place, next_place}
use Rattle.db_chains.specs.Walks.{place_behind}
use Rattle.db_chains.proofs.Bytes.{StaysBut, word_len, word_put}
use Rattle.db_chains.proofs.Framed.{block_mark, block_stays}
use Rattle.db_chains.proofs.Free.{beside}
use Rattle.db_chains.proofs.Freed.{blank_len, split}
use Rattle.db_chains.proofs.Stops.{above_behind}
use Rattle.db_chains.proofs.Words.{right, right_names}
use Rattle.prdb_layout.specs.Blocks.{block_count}
use Rattle.prdb_layout.specs.Records.{block_in, block_place, with_block}
use Rattle.prdb_finds.specs.Places.{free_blocks}
use Rattle.prdb_finds.specs.Unchained.{unchained, unlinked}
use Rattle.prdb_finds.proofs.Beside.{free_beside, head_beside}
use Rattle.prdb_finds.proofs.Laid.{block_laid}
use Rattle.prdb_finds.proofs.Lists.{first_or_rest}
use Rattle.prdb_finds.proofs.Taken.{free_word}
use Rattle.db_chains.proofs.Leaving.{place_kind, here, later}
use Rattle.db_blocks.proofs.BlockPlaces.{put_block}

-- ---- the words of free blocks

-- a block that is not free is none of them
pub none_busy : (image : List ℕ) (at n : ℕ) (ws : List ℕ) → kind_of (block_in image (n - 1)) ≡ 1
    → HasChain (free_links free_blocks) image at ws → AllByRecursion (λ v. v ≢ n) ws
none_busy image at n [] kind chain = tt
none_busy image at n (w ∷ ws) kind chain = (
  λ same.
      let free = (free_word image at w ws chain).2 in
      absurd (omega (arith, free, kind, ap (λ (v : ℕ). kind_of (block_in image (v - 1))) same)),
  none_busy image (next_place (free_links free_blocks) w) n ws kind chain.2,
)

among_choice : (b : Bool) (n w v : ℕ) (ws more : List ℕ) → Contains (n ∷ w ∷ ws) v → Contains (w ∷ more) v
    → Contains (cond b (n ∷ w ∷ ws) (w ∷ more)) v
among_choice true n w v ws more first second = first
among_choice false n w v ws more first second = second

pub among_own : (n : ℕ) (ws : List ℕ) → Contains (put_among n ws) n
among_own n [] = here n n [] refl
among_own n (w ∷ ws) =
    among_choice (nat_lt n w) n w n ws (put_among n ws) (here n n (w ∷ ws) refl) (later w n (put_among n ws) (among_own n ws))

pub among_others : (n v : ℕ) (ws : List ℕ) → Contains ws v → Contains (put_among n ws) v
among_others n v [] has = absurd (omega (arith, has.1))
among_others n v (w ∷ ws) has =
    among_choice (nat_lt n w) n w v ws (put_among n ws) (later n v (w ∷ ws) has)
    (⊎_elim (λ (rest : Contains ws v). later w v (put_among n ws) (among_others n v ws rest))
    (λ (same : v ≡ w). here w v (put_among n ws) same) (first_or_rest w v ws has))

-- ---- the image without the words of chains

blank_unlinked : unlinked (blank free_blocks) ≡ zeros 192
unfolding unlinked zeros
blank_unlinked = refl

blank_kind : kind_of (blank free_blocks) ≡ 0
unfolding zeros
blank_kind = refl

next_is : (w : ℕ) → 0 < w → next_place (free_links free_blocks) w ≡ block_place (w - 1) + 4
next_is w some =
    let one : w / 1 ≡ w = omega arith in
    let rest : w % 1 ≡ 0 = omega arith in
    omega (arith, one, rest)

-- a free block of a word that may stand in their chain
right_free : (image : List ℕ) (w : ℕ) → is_right (free_links free_blocks) image w ≡ true
    → (0 < w) × (w ≤ block_count image) × (kind_of (block_in image (w - 1)) ≡ 0)
right_free image w is =
    let l = free_links free_blocks in
    let one : w / 1 ≡ w = omega arith in
    let names = right_names l image w is in
    let place : mark_place l w ≡ 2112 + 192 * (w - 1) = omega (arith, one) in (
      omega (arith, names.some),
      omega (arith, names.block),
      block_mark 2112 (w - 1) image ∙ ap (word_at image) (sym place)
          ∙ (right l image w is).mark,
    )

put_form : (image : List ℕ) (n p : ℕ) → IsWhole 2112 image → 0 < n → n ≤ block_count image → kind_of (block_in image (n - 1)) ≡ 1
    → (p ≡ 20) ⊎ ((w : ℕ) × (p ≡ next_place (free_links free_blocks) w) × (is_right (free_links free_blocks) image w ≡ true))
    → unchained (put_in (free_links free_blocks) p n (any_with 2112 (n - 1) (blank free_blocks) image))
    ≡ with_block (n - 1) (zeros 192) (unchained image)
unfolding put_in
put_form image n p whole some within kind where_p =
    let l = free_links free_blocks in
    let k = n - 1 in
    let count = block_count image in
    let below : k < count = omega arith in
    let base = with_block k (blank free_blocks) image in
    let put = put_block 2112 image (blank free_blocks) k count whole (blank_len free_blocks) below in
    let whole_base : IsWhole 2112 base = omega (arith, put.size) in
    let count_base : block_count base ≡ count = omega (arith, put.size) in
    let below_base : k < block_count base = omega arith in
    let free_base : kind_of (block_in base k) ≡ 0 = ap kind_of put.here ∙ blank_kind in
    let x = word_at base p in
    let q = next_place l n in
    let at : q ≡ block_place k + 4 = next_is n some in
    let room : q + 4 ≤ length base = omega (arith, at, whole_base, below_base) in
    let mid = put_word q x base in
    let size : length mid ≡ length base = word_len base q x room in
    let whole_mid : IsWhole 2112 mid = omega (arith, size, whole_base) in
    let first : unchained mid ≡ with_block k (zeros 192) (unchained image) =
    ap (λ (y : ℕ). unchained (put_word y x base)) at ∙ free_beside base k x whole_base below_base free_base
    ∙ block_laid image (blank free_blocks) k whole (blank_len free_blocks) below
    ∙ ap (λ (b : List ℕ). with_block k b (unchained image)) blank_unlinked in
    ⊎_elim
    (λ (head : p ≡ 20). ap (λ (y : ℕ). unchained (put_word y n mid)) head ∙ head_beside mid 20 n whole_mid (inl refl) ∙ first)
    (λ (behind : (w : ℕ) × (p ≡ next_place l w) × (is_right l image w ≡ true)).
    let w = behind.0 in
    let free = right_free image w behind.2 in
    let j = w - 1 in
    let place : p ≡ block_place j + 4 = behind.1 ∙ next_is w free.0 in
    let other : j ≢ k = λ same. omega (arith, free.2, kind, ap (λ (i : ℕ). kind_of (block_in image i)) same) in
    let in_image : j < count = omega (arith, free.0, free.1) in
    let stays : StaysBut q 4 base mid = word_put base q x room in
    let kept : block_in mid j ≡ block_in image j =
    block_stays 2112 q 4 j base mid stays (omega (arith, whole_base, count_base, in_image))
    (⊎_elim (λ (before : 2112 + 192 * j + 192 ≤ 2112 + 192 * k + 4). inl (omega (arith, at)))
    (λ (after : 2112 + 192 * k + 4 + 4 ≤ 2112 + 192 * j). inr (omega (arith, at))) (beside 2112 k j 4 (omega arith) other))
    ∙ put.others j in_image other in
    ap (λ (y : ℕ). unchained (put_word y n mid)) place
    ∙ free_beside mid j n whole_mid (omega (arith, size, count_base, in_image)) (ap kind_of kept ∙ free.2)
    ∙ first)
    where_p

pub freed_form : (image : List ℕ) (n : ℕ) (ws : List ℕ) → IsWhole 2112 image → 0 < n → n ≤ block_count image
    → kind_of (block_in image (n - 1)) ≡ 1 → HasChain (free_links free_blocks) image 20 ws → IsAscending ws
    → unchained (with_freed free_blocks n image) ≡ with_block (n - 1) (zeros 192) (unchained image)
unfolding with_freed
freed_form image n ws whole some within kind chain up =
    let l = free_links free_blocks in
    let s = split n ws up (none_busy image 20 n ws kind chain) in
    let all : HasChain l image 20 (s.below ++ s.above) = subst (HasChain l image 20) (sym s.whole) chain in
    let p : place_above l 20 n image ≡ place_behind l 20 s.below =
    above_behind l image 20 n s.below s.above (omega arith) all s.less s.more in
    put_form image n (place_above l 20 n image) whole some within kind
    (⊎_elim (λ (first : place_behind l 20 s.below ≡ 20). inl (p ∙ first))
    (λ (behind : (w : ℕ) × (place_behind l 20 s.below ≡ next_place l w) × (is_right l image w ≡ true) × Contains s.below w).
    inr (behind.0, p ∙ behind.1, behind.2))
    (place_kind l image 20 s.below s.above all))
