-- An image with a free block holds what it held.
use Rattle.std.proofs.Common.{◌≡◌, ◌≢◌, ℕ, ℤ, ◌+◌, ◌<◌, ◌≤◌, List, length, take, Some, refl, sym, ap, subst, ◌∙◌, ⊎_elim, inl, inr, arith}
use Rattle.std.proofs.lemmas.Bool.{cases_eq, cases_lt, lt-ltb, le-ltb, eqb-true}
use Rattle.prdb_layout.specs.Blocks.{block_count}
use Rattle.db_blocks.specs.Bytes.{zeros}
use Rattle.db_blocks.specs.Blocks.{kind_of}
use Rattle.db_blocks.proofs.FirstBlocks.{first_met, first_within}
use Rattle.prdb_layout.specs.Records.{IsBlock, IsLaidOut, block_in, block_place, entry_in, head_with, is_free, next_block, with_block, with_count}
use Rattle.prdb_layout.specs.Registry.{Registry}
use Rattle.prdb_layout.proofs.BlockPlaces.{IsHeadPut, put_count}
use Rattle.prdb_layout.proofs.LaidOut.{zero_kind}
use Rattle.prdb_lists.specs.Changes.{with_free}
use Rattle.prdb_lists.specs.Layout.{PairList}
use Rattle.prdb_lists.specs.Sides.{HoldsLists}
use Rattle.prdb_lists.proofs.Kept.{IsOneOther, lists_kept}
use Rattle.prdb_lists.proofs.RecordsKeep.{zeros_len}
use Rattle.db_blocks.proofs.Scanned.{count_is}
use Rattle.db_blocks.proofs.BlockPlaces.{IsPut, add_block}

-- this block is free, all others are those that were there, and the image holds the same
pub record HasFree (old new : List ℕ) (r : Registry) (lists : ℤ → PairList) (f : ℕ) : Type 0 where
  pub holds : HoldsLists new r lists
  pub below : f < block_count new
  pub zero : block_in new f ≡ zeros 192
  pub size : length new ≤ length old + 192
  pub stood : (j : ℕ) → j < block_count old → (j < block_count new) × (block_in new j ≡ block_in old j)

-- a block that says 0 is zero
pub free_zero : (block : List ℕ) → IsBlock block → kind_of block ≡ 0 → block ≡ zeros 192
free_zero block is none =
    elim is [
      | inl zero ↦ zero
      | inr other ↦
          elim other [ inl two ↦ absurd (omega arith) | inr entry ↦ let one = entry.kind in absurd (omega arith) ]
    ]

free_there : (image : List ℕ) (r : Registry) (lists : ℤ → PairList) (f : ℕ) → HoldsLists image r lists → f < block_count image
    → kind_of (block_in image f) ≡ 0
    → HasFree image image r lists f
free_there image r lists f h below kind = record {
  holds = h;
  below = below;
  zero = free_zero (block_in image f) (h.has.laid.blocks f below) kind;
  size = omega arith;
  stood = λ j in_old. (in_old, refl);
}

-- what stands behind the new block's head
record IsAdded (old new : List ℕ) (n : ℕ) : Type 0 where
  size : length new ≡ block_place (n + 1)
  here : block_in new n ≡ zeros 192
  others : (j : ℕ) → j < n → block_in new j ≡ block_in old j

added_laid : (old new : List ℕ) (r : Registry) (n : ℕ) → IsLaidOut old r → block_count old ≡ n → IsAdded old new n
    → take 2112 new ≡ head_with r.max_user r.max_group (n + 1) → IsLaidOut new r
added_laid old new r n laid count a head =
    let new_count : block_count new ≡ n + 1 = count_is 2112 new (n + 1) a.size in
    let zero : kind_of (block_in new n) ≡ 0 = ap kind_of a.here ∙ zero_kind in
    let before : (j : ℕ) → j < block_count new → kind_of (block_in new j) ≡ 1 → j < n = λ j below kind.
    ⊎_elim (λ (same : j ≡ n). let one = ap (λ (i : ℕ). kind_of (block_in new i)) (sym same) ∙ kind in absurd (omega arith))
    (λ (other : j ≢ n). omega arith) (cases_eq j n) in
    record {
      size = a.size ∙ ap block_place (sym new_count);
      head = head ∙ ap (head_with r.max_user r.max_group) (sym new_count);
      blocks = λ j below.
          ⊎_elim
          (λ (same : j ≡ n). inl (ap (block_in new) same ∙ a.here))
          (λ (other : j ≢ n).
          let in_old : j < n = omega arith in
          subst IsBlock (sym (a.others j in_old)) (laid.blocks j (omega arith)))
          (cases_eq j n);
      there = λ j below kind.
          let in_old = before j below kind in
          subst (λ (c : List ℕ). r.entry (entry_in c).id ≡ Some (entry_in c)) (sym (a.others j in_old))
          (laid.there j (omega arith) (ap kind_of (sym (a.others j in_old)) ∙ kind));
      only = λ id e at.
          let o = laid.only id e at in
          let in_old : o.0 < n = omega (arith, o.1) in
          let same = a.others o.0 in_old in
          (o.0, omega arith, ap kind_of same ∙ o.2, ap entry_in same ∙ o.3);
      one = λ i j in_i in_j kind_i kind_j same.
          let a_i = before i in_i kind_i in
          let a_j = before j in_j kind_j in
          laid.one i j (omega arith) (omega arith) (ap kind_of (sym (a.others i a_i)) ∙ kind_i) (ap kind_of (sym (a.others j a_j)) ∙ kind_j)
          (ap (λ (c : List ℕ). (entry_in c).id) (sym (a.others i a_i)) ∙ same ∙ ap (λ (c : List ℕ). (entry_in c).id) (a.others j a_j));
    }

free_end : (image : List ℕ) (r : Registry) (lists : ℤ → PairList) (n : ℕ) → HoldsLists image r lists → block_count image ≡ n
    → HasFree image (with_count (n + 1) (with_block n (zeros 192) image)) r lists n
free_end image r lists n h count =
    let mid = with_block n (zeros 192) image in
    let new = with_count (n + 1) mid in
    let was : length image ≡ block_place n = h.has.laid.size ∙ ap block_place count in
    let put : IsPut 2112 n (zeros 192) image mid (n + 1) = add_block 2112 image (zeros 192) n was zeros_len in
    let first : take 2112 image ≡ head_with r.max_user r.max_group n = h.has.laid.head ∙ ap (head_with r.max_user r.max_group) count in
    let head : IsHeadPut mid new (head_with r.max_user r.max_group (n + 1)) = put_count mid r.max_user r.max_group n (n + 1)
    (n + 1) put.size (put.front ∙ first) in
    let mid_count : block_count mid ≡ n + 1 = count_is 2112 mid (n + 1) put.size in
    let size : length new ≡ block_place (n + 1) = head.size ∙ put.size in
    let new_count : block_count new ≡ n + 1 = count_is 2112 new (n + 1) size in
    let a : IsAdded image new n = record {
      size = size;
      here = head.others n (omega arith) ∙ put.here;
      others = λ j below. head.others j (omega arith) ∙ put.others j (omega arith) (omega arith);
    } in
    let zero : kind_of (block_in new n) ≡ 0 = ap kind_of a.here ∙ zero_kind in
    let one : IsOneOther image new n = record {
      stood = λ j in_new other. let in_old : j < n = omega arith in (omega arith, a.others j in_old);
      stays = λ j in_old. omega arith;
      was = λ in_old two. omega arith;
      is = λ two. omega arith;
    } in
    record {
      holds = record {
        has = record {
          valid = h.has.valid;
          laid = added_laid image new r n h.has.laid count a head.head;
          are = lists_kept image new n r r lists lists h.has.are one (λ kind. absurd (omega arith)) (λ kind. absurd (omega arith))
              (λ j in_old other kind. refl) (λ id j there has. (there, refl)) (λ id there. h.has.are.once id there);
        };
        members = h.members;
      };
      below = omega arith;
      zero = a.here;
      size = omega arith;
      stood = λ j in_old. let less : j < n = omega arith in (omega arith, a.others j less);
    }

pub free_taken : (image : List ℕ) (r : Registry) (lists : ℤ → PairList) → HoldsLists image r lists
    → HasFree image (with_free image) r lists (next_block image)
unfolding with_free
free_taken image r lists h =
    let k = next_block image in
    let n = block_count image in
    let within : k ≤ 0 + n = first_within (λ j. is_free (block_in image j)) 0 n in
    ⊎_elim
    (λ (below : k < n).
    let free = eqb-true (kind_of (block_in image k)) 0 (first_met (λ j. is_free (block_in image j)) 0 n (omega arith)) in
    rw (lt-ltb k n below) (free_there image r lists k h below free))
    (λ (last : n ≤ k).
    let same : k ≡ n = omega arith in
    rw (le-ltb k n last)
    (subst (λ (j : ℕ). HasFree image (with_count (n + 1) (with_block n (zeros 192) image)) r lists j) (sym same)
    (free_end image r lists n h refl)))
    (cases_lt k n)
