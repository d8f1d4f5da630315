-- An image in which an entry has another id, in its own blocks and in all lists, holds the registry and the pairs with that id.
use Rattle.std.proofs.Common.{◌≡◌, ◌≢◌, ℕ, ℤ, zero, suc, ◌<◌, true, false, List, [], ◌∷◌, IsSome, refl, sym, ap, subst, ◌∙◌, ⊎_elim, inl, inr, arith}
use Rattle.std.specs.List.{Contains}
use Rattle.std.proofs.lemmas.Bool.{cases_Bool}
use Rattle.db_blocks.specs.Bytes.{words, zeros}
use Rattle.prdb_layout.specs.Layout.{layout, head_of, block_of as entry_block, numbers_of}
use Rattle.db_blocks.specs.Blocks.{block_in as any_block}
use Rattle.prdb_layout.specs.Records.{IsLaidOut, block_in, entry_in, whole}
use Rattle.prdb_layout.specs.Registry.{Registry, IsFixedId}
use Rattle.prdb_layout.specs.State.{PrEntry, fixed_entries, initial_state}
use Rattle.prdb_layout.proofs.Changed.{by_id}
use Rattle.prdb_layout.proofs.Initial.{length-initial}
use Rattle.prdb_layout.proofs.LaidOut.{whole_same}
use Rattle.prdb_layout.proofs.Lengths.{fits_id}
use Rattle.entry_scans.specs.Lists.{IsListOf}
use Rattle.prdb_lists.specs.Layout.{HoldsPairs, PairList}
use Rattle.prdb_lists.specs.Members.{Members, are_paired}
use Rattle.prdb_lists.specs.Moves.{MayMove, after_move, after_put_id, after_relists, ids_moved, moved_members, moved_registry}
use Rattle.prdb_lists.proofs.Both.{either, lists_of, other_there, pairs_of, turned}
use Rattle.prdb_lists.proofs.Gains.{place_of, some_entry}
use Rattle.prdb_lists.proofs.ListFound.{whole_none}
use Rattle.prdb_lists.proofs.MovedIds.{from_moved, list_moves, lists_stay, moved_lists, new_moved, other_moved}
use Rattle.prdb_lists.proofs.MovedImage.{put_holds}
use Rattle.prdb_lists.proofs.MovedRegistry.{back, back_new, back_other, has_moved, ids_differ, moved_pairs, moved_there, paired_back, there_differs}
use Rattle.prdb_lists.proofs.RecordsKeep.{true_false}
use Rattle.prdb_lists.proofs.Relists.{AreOthers, AreRelisted, relist_all}

-- ---- those with whom the entry is paired

abbrev pub AreAll : Members → ℤ → List ℤ → Type 0
AreAll m old others = IsListOf (λ other. are_paired m old other ≡ true) others

pub others_are : (image : List ℕ) (r : Registry) (m : Members) (old new : ℤ) (others : List ℤ) (h : HoldsPairs image r m)
    → MayMove old new r → AreAll m old others
    → AreOthers old new r h.lists others
others_are image r m old new others h may list x has =
    let paired = list.each x has in
    let there = other_there r m h.valid old x paired in (
      there,
      h.all x there old (turned m old x paired),
      λ has_new. there_differs old new r may new (other_there r m h.valid x new (h.each x there new has_new)) refl,
    )

-- ---- who is in the lists afterwards

record MembersOf (lists made : ℤ → PairList) (old new z : ℤ) : Type 0 where
  from : (y : ℤ) → Contains (made z).ids y → (y ≢ old) × Contains (lists z).ids (back old new y)
  to : (y : ℤ) → y ≢ old → Contains (lists z).ids (back old new y) → Contains (made z).ids y

members_of : (image : List ℕ) (r : Registry) (m : Members) (old new : ℤ) (others : List ℤ) (h : HoldsPairs image r m) → MayMove old new r
    → AreAll m old others
    → (z : ℤ) → IsSome (r.entry z) → MembersOf h.lists (moved_lists old new others h.lists) old new z
members_of image r m old new others h may list z there =
    let differ = ids_differ old new r may in
    ⊎_elim
    (λ (t : are_paired m old z ≡ true).
    let is = list_moves old new others h.lists z list.ascending (list.all z t) in
    let old_in : Contains (h.lists z).ids old = h.all z there old (turned m old z t) in
    record {
      from = λ y has. elim (from_moved old new (h.lists z).ids y (subst (λ (l : PairList). Contains l.ids y) is has)) [
        | inl same ↦ (λ is_old. differ (sym same ∙ is_old), subst (Contains (h.lists z).ids) (sym (back_new old new y same)) old_in)
        | inr was ↦ (
          was.0,
          by_id y new
              (λ same. subst (Contains (h.lists z).ids) (sym (back_new old new y same)) old_in)
              (λ other. subst (Contains (h.lists z).ids) (sym (back_other old new y other)) was.1),
        )
      ];
      to = λ y apart has. subst (λ (l : PairList). Contains l.ids y) (sym is) (by_id y new
          (λ same. subst (Contains (ids_moved old new (h.lists z).ids)) (sym same) (new_moved old new (h.lists z).ids))
          (λ other. other_moved old new (h.lists z).ids y apart (subst (Contains (h.lists z).ids) (back_other old new y other) has)));
    })
    (λ (f : are_paired m old z ≡ false).
    let is = lists_stay old new others h.lists z (λ has. true_false (are_paired m old z) (list.each z has) f) in
    let not_old : Contains (h.lists z).ids old → ⊥ = λ has. true_false (are_paired m old z) (turned m z old (h.each z there old has)) f in
    record {
      from = λ y has.
          let was : Contains (h.lists z).ids y = subst (λ (l : PairList). Contains l.ids y) is has in
          let other = there_differs old new r may y (other_there r m h.valid z y (h.each z there y was)) in (
            λ same. not_old (subst (Contains (h.lists z).ids) same was),
            subst (Contains (h.lists z).ids) (sym (back_other old new y other)) was,
          );
      to = λ y apart has. subst (λ (l : PairList). Contains l.ids y) (sym is) (by_id y new
          (λ same. absurd (not_old (subst (Contains (h.lists z).ids) (back_new old new y same) has)))
          (λ other. subst (Contains (h.lists z).ids) (back_other old new y other) has));
    })
    (cases_Bool (are_paired m old z))

-- ---- the image

pub relisted_all : (image : List ℕ) (r : Registry) (m : Members) (old new : ℤ) (others : List ℤ) (h : HoldsPairs image r m)
    → MayMove old new r → AreAll m old others
    → AreRelisted (whole image) (after_relists old new others (whole image)) r h.lists old new others
relisted_all image r m old new others h may list =
    relist_all others (whole image) r h.lists old new (lists_of image r m h).has (fits_id new may.good) list.ascending
    (others_are image r m old new others h may list)

pub move_holds : (image : List ℕ) (r : Registry) (m : Members) (old new : ℤ) (others : List ℤ) → HoldsPairs image r m → MayMove old new r
    → AreAll m old others
    → HoldsPairs (after_move old new others image) (moved_registry old new r) (moved_members old new m)
unfolding after_move
move_holds image r m old new others h may list =
    let mid = after_relists old new others (whole image) in
    let lists = moved_lists old new others h.lists in
    let a = relisted_all image r m old new others h may list in
    let p = place_of mid r lists old a.has may.there in
    let made = put_holds mid r lists old new p.k a.has may p.at in
    let valid = h.holds.valid in
    pairs_of (after_put_id old new mid) (moved_registry old new r) (moved_members old new m)
    (λ id. moved_lists old new others h.lists (back old new id)) made
    (moved_pairs old new r m valid may h.valid)
    (λ id there y has.
    let t = moved_there old new r valid may id there in
    let f = (members_of image r m old new others h may list (back old new id) t.1).from y has in
    paired_back old new m id y t.0 f.0 ∙ h.each (back old new id) t.1 (back old new y) f.1)
    (λ id there y paired.
    let t = moved_there old new r valid may id there in
    let apart : y ≢ old = elim (either ((moved_members old new m).has id y) ((moved_members old new m).has y id) paired) [
      | inl one ↦ (has_moved old new m (ids_differ old new r may) id y one).1
      | inr two ↦ (has_moved old new m (ids_differ old new r may) y id two).0
    ] in
    (members_of image r m old new others h may list (back old new id) t.1).to y apart
    (h.all (back old new id) t.1 (back old new y) (sym (paired_back old new m id y t.0 apart) ∙ paired)))

-- ---- the empty image

fixed_there : (k : ℕ) → k < 6 → IsFixedId (entry_in (block_in (layout initial_state) k)).id
unfolding any_block layout head_of words zeros fixed_entries entry_block numbers_of
fixed_there zero below = (0, omega arith, refl)
fixed_there (suc zero) below = (1, omega arith, refl)
fixed_there (suc (suc zero)) below = (2, omega arith, refl)
fixed_there (suc (suc (suc zero))) below = (3, omega arith, refl)
fixed_there (suc (suc (suc (suc zero)))) below = (4, omega arith, refl)
fixed_there (suc (suc (suc (suc (suc zero))))) below = (5, omega arith, refl)
fixed_there (suc (suc (suc (suc (suc (suc k)))))) below = absurd (omega arith)

-- it holds fixed entries alone, which keep their ids
pub image_is : (image : List ℕ) (r : Registry) (m : Members) (old new : ℤ) → HoldsPairs image r m → MayMove old new r → whole image ≡ image
image_is [] r m old new h may =
    let laid : IsLaidOut (layout initial_state) r = subst (λ (i : List ℕ). IsLaidOut i r) whole_none h.holds.laid in
    some_entry (r.entry old) may.there (λ e at.
    let o = laid.only old e at in
    let six : o.0 < 6 = omega (arith, o.1, length-initial) in
    absurd (may.not_fixed (subst IsFixedId (ap (λ (y : PrEntry). y.id) o.3 ∙ h.holds.valid.ids old e at) (fixed_there o.0 six))))
image_is (byte ∷ bytes) r m old new h may = whole_same (byte ∷ bytes) (omega arith)
