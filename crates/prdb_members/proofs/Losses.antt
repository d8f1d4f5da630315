-- An id that goes out of the list of an entry.
use Rattle.std.proofs.Common.{◌≡◌, ◌≢◌, ℕ, ℤ, suc, ◌+◌, ◌-◌, ◌<◌, ◌≤◌, List, [], ◌∷◌, ◌++◌, length, get_or, take, drop, IsSome, refl, sym, ap, subst, ◌∙◌, arith}
use Rattle.std.specs.List.{AllByRecursion, Contains}
use Rattle.std.proofs.lemmas.List.{get_or_append_left, get_or-append_right, length-append, length-drop, take-append-drop}
use Rattle.std.proofs.lemmas.List.Elements.{Contains-append_left, Contains-append_right}
use Rattle.db_chains.specs.Free.{with_freed as with_free_block}
use Rattle.prdb_layout.specs.Blocks.{block_count}
use Rattle.db_blocks.specs.Bytes.{zeros}
use Rattle.db_blocks.specs.Blocks.{kind_of}
use Rattle.prdb_layout.specs.Records.{block_in, with_block}
use Rattle.prdb_layout.specs.Registry.{Registry}
use Rattle.prdb_lists.specs.Changes.{blocks_for, list_in, lost as plain_lost, relisted, with_freed as plain_freed}
use Rattle.prdb_lists.specs.Layout.{IsDistinct, PairList}
use Rattle.prdb_lists.specs.Lists.{ids_without}
use Rattle.prdb_lists.proofs.Ids.{length-ids_without}
use Rattle.prdb_lists.proofs.Relist.{StandsAt}
use Rattle.prdb_finds.specs.Places.{free_blocks}
use Rattle.prdb_finds.specs.Unchained.{unchained}
use Rattle.prdb_members.specs.Changes.{lost, with_freed, without_id}
use Rattle.prdb_members.specs.Sides.{HasLists}
use Rattle.prdb_members.proofs.Free.{free_none}
use Rattle.prdb_members.proofs.Freed.{IsOneFreed, freed_zero, keeps_freed, one_freed}
use Rattle.prdb_members.proofs.Gains.{IsMid, IsSide, list_blocks, place_is, side_over, side_same, told_at}
use Rattle.prdb_members.proofs.Listed.{listed_at, more_length}
use Rattle.prdb_members.proofs.Taken.{chain_names}

pub lost_is : (image : List ℕ) (r : Registry) (lists : ℤ → PairList) (x id : ℤ) (k : ℕ) → HasLists image r lists → StandsAt image x k
    → without_id x id image ≡ lost k x (block_in image k) (lists x) id image
lost_is image r lists x id k h at =
    ap (λ (j : ℕ). lost j x (block_in image j) (list_in image (block_in image j)) id image) (place_is image r lists x k h at)
    ∙ ap (λ (l : PairList). lost k x (block_in image k) l id image) (told_at image r lists x k h at)

-- ---- the block that is freed

pub all_from : (P : ℕ → Type 0) (ws : List ℕ) → ((w : ℕ) → Contains ws w → P w) → AllByRecursion P ws
all_from P [] each = tt
all_from P (w ∷ ws) each =
    (each w (0, omega arith, refl), all_from P ws (λ v has. each v (suc has.0, omega (arith, has.1), has.2)))

last_apart : (kept : List ℕ) (f j : ℕ) → IsDistinct (kept ++ f ∷ []) → Contains kept j → j ≢ f
last_apart kept f j is has same =
    let len = length-append kept (f ∷ []) in
    let none : length kept - length kept ≡ 0 = omega arith in
    let low : get_or (kept ++ f ∷ []) has.0 j ≡ j = get_or_append_left kept (f ∷ []) j has.0 has.1 ∙ has.2 in
    let last : get_or (kept ++ f ∷ []) (length kept) j ≡ f =
    get_or-append_right kept (f ∷ []) (length kept) (length kept) j refl (omega arith)
    ∙ ap (λ (n : ℕ). get_or (f ∷ []) n j) none in
    is has.0 (length kept) j has.1 (omega (arith, len)) (low ∙ same ∙ sym last)

mid_freed : (image : List ℕ) (r : Registry) (lists : ℤ → PairList) (x : ℤ) (k f : ℕ) (kept : List ℕ) → HasLists image r lists
    → StandsAt image x k → IsSome (r.entry x) → (lists x).more ≡ kept ++ f ∷ []
    → IsMid image (with_free_block free_blocks (f + 1) image) (with_block f (zeros 192) (unchained image)) kept
mid_freed image r lists x k f kept h at there parts =
    let free = h.chains.free in
    let blocks = list_blocks image r lists x k h at there in
    let old : (j : ℕ) → Contains (kept ++ f ∷ []) j → Contains (lists x).more j =
    λ j has. subst (λ (m : List ℕ). Contains m j) (sym parts) has in
    let last = blocks f (old f (Contains-append_right kept (f ∷ []) f (0, omega arith, refl))) in
    let others : AllByRecursion (λ v. v ≢ f + 1) free.words =
    all_from (λ v. v ≢ f + 1) free.words
    (λ w has is.
    let back : w - 1 ≡ f = omega (arith, is) in
    omega (arith, last.kind, (chain_names image 20 free.words w free.chain has).kind, ap (λ (i : ℕ). kind_of (block_in image i)) back)) in
    let new = with_free_block free_blocks (f + 1) image in
    let one : IsOneFreed image new f =
    one_freed image f h.size last.below free (λ none. omega (arith, none, last.kind)) others in
    let among : (j : ℕ) → Contains kept j → (j < block_count image) × (kind_of (block_in new j) ≡ 2) =
    λ j has.
    let b = blocks j (old j (Contains-append_left kept (f ∷ []) j has)) in
    let other : j ≢ f = last_apart kept f j (subst IsDistinct parts (h.without.are.once x there)) has in
    (b.below, one.kinds j b.below other ∙ b.kind) in
    record {
      keeps = keeps_freed image new f h.size (λ is. omega (arith, is, last.kind)) one;
      same = freed_zero image free.words f h.size last.below free.chain free.ascending others;
      stays = λ j below is.
          one.others j below (λ same. omega (arith, is, last.kind, ap (λ (i : ℕ). kind_of (block_in image i)) same))
          (λ none. omega (arith, is, none));
      free = free_none new kept one.free (λ j has none. omega (arith, none, (among j has).1));
      below = λ j has. omega (arith, (among j has).0, one.size);
      kinds = λ j has is. omega (arith, is, (among j has).1);
      most = omega (arith, one.size);
    }

-- ---- one id less

lose_cut : (image : List ℕ) (r : Registry) (lists : ℤ → PairList) (x : ℤ) (k : ℕ) (ids : List ℤ) (kept freed : List ℕ)
    → HasLists image r lists → StandsAt image x k → IsSome (r.entry x) → (lists x).more ≡ kept ++ freed → length freed ≤ 1
    → IsSide image (relisted k x (block_in image k) (record { ids = ids; more = kept }) (with_freed freed image))
    (relisted k x (block_in (unchained image) k) (record { ids = ids; more = kept }) (plain_freed freed (unchained image))) k
lose_cut image r lists x k ids kept [] h at there parts one =
    side_same image r lists x k (record { ids = ids; more = kept }) h at
    (λ j has.
    list_blocks image r lists x k h at there j
    (subst (λ (m : List ℕ). Contains m j) (sym parts) (Contains-append_left kept [] j has)))
lose_cut image r lists x k ids kept (f ∷ []) h at there parts one =
    side_over image (with_free_block free_blocks (f + 1) image) (with_block f (zeros 192) (unchained image)) r lists x k
    (record { ids = ids; more = kept }) h at (mid_freed image r lists x k f kept h at there parts)
lose_cut image r lists x k ids kept (f ∷ g ∷ freed) h at there parts one = absurd (omega arith)

one_left : (l m n left : ℕ) → m ≡ blocks_for (l + 1) → n ≡ blocks_for l → left ≡ m - n → left ≤ 1
one_left l m n left was is cut = omega arith

pub lose : (image : List ℕ) (r : Registry) (lists : ℤ → PairList) (x id : ℤ) (k : ℕ) → HasLists image r lists → StandsAt image x k
    → IsSome (r.entry x) → Contains (lists x).ids id
    → IsSide image (lost k x (block_in image k) (lists x) id image)
    (plain_lost k x (block_in (unchained image) k) (lists x) id (unchained image)) k
lose image r lists x id k h at there has =
    let ids = ids_without id (lists x).ids in
    let more = (lists x).more in
    let n = blocks_for (length ids) in
    let less : length ids + 1 ≡ length (lists x).ids = length-ids_without id (lists x).ids (listed_at image r lists x k h at).ascending has in
    let was : length more ≡ blocks_for (length ids + 1) = more_length image r lists x k h at ∙ ap blocks_for (sym less) in
    lose_cut image r lists x k ids (take n more) (drop n more) h at there (sym (take-append-drop n more))
    (one_left (length ids) (length more) n (length (drop n more)) was refl (length-drop n more))
