-- The lists of those with whom an entry is paired, in which its new id takes the place of the old one.
use Rattle.std.proofs.Common.{◌≡◌, ◌≢◌, ℕ, ℤ, List, [], ◌∷◌, refl, sym, ap, subst, ◌∙◌, arith}
use Rattle.std.specs.Prelude.{FitsSigned}
use Rattle.std.specs.Int.{w32}
use Rattle.std.specs.List.{Contains}
use Rattle.prdb_layout.specs.Records.{block_in}
use Rattle.prdb_layout.specs.Registry.{Registry}
use Rattle.entry_scans.specs.Lists.{IsAscending}
use Rattle.prdb_lists.specs.Changes.{list_in, relisted}
use Rattle.prdb_lists.specs.Layout.{PairList}
use Rattle.prdb_lists.specs.Moves.{MayRelist as MayRelistPlain, after_relist, after_relists}
use Rattle.prdb_lists.specs.Sides.{HasLists as HasPlainLists, set_list}
use Rattle.prdb_lists.proofs.Ascending.{ascending_right}
use Rattle.prdb_lists.proofs.MovedIds.{in_tail, moved_list, moved_lists, not_again}
use Rattle.prdb_lists.proofs.Relist.{IsRewritten, StandsAt}
use Rattle.prdb_lists.proofs.Relists.{AreOthers, relist_is as plain_relist_is, relist_one as plain_relist_one}
use Rattle.prdb_lists.proofs.Side.{set_other}
use Rattle.prdb_finds.specs.Unchained.{unchained}
use Rattle.prdb_members.specs.Moves.{MayRelist}
use Rattle.prdb_members.specs.Sides.{HasLists}
use Rattle.prdb_members.proofs.Gains.{IsSide, list_blocks, place_is, side_same, told_at}
use Rattle.prdb_members.proofs.Kept.{KeepsEntries, keeps_none, keeps_then}
use Rattle.prdb_members.proofs.Listed.{place_of, stands_plain}

-- the image is a function of the bytes
pub relist_is : (image : List ℕ) (r : Registry) (lists : ℤ → PairList) (old new x : ℤ) (k : ℕ) → HasLists image r lists → StandsAt image x k
    → after_relist old new x image ≡ relisted k x (block_in image k) (moved_list old new (lists x)) image
relist_is image r lists old new x k h at =
    ap (λ (j : ℕ). relisted j x (block_in image j) (moved_list old new (list_in image (block_in image j))) image)
    (place_is image r lists x k h at)
    ∙ ap (λ (l : PairList). relisted k x (block_in image k) (moved_list old new l) image) (told_at image r lists x k h at)

-- an image has these lists, and is this one without the words of chains; entries and their words of chains are as they were
pub record HasThese (image after plain : List ℕ) (r : Registry) (lists : ℤ → PairList) : Type 0 where
  pub has : HasLists after r lists
  pub keeps : KeepsEntries image after
  pub same : unchained after ≡ plain

-- one list more has the new id
relist_one : (image : List ℕ) (r : Registry) (lists : ℤ → PairList) (old new x : ℤ) (k : ℕ) → MayRelist old new x image r lists
    → FitsSigned w32 new → StandsAt image x k
    → HasThese image (after_relist old new x image) (after_relist old new x (unchained image)) r
    (set_list x (moved_list old new (lists x)) lists)
relist_one image r lists old new x k may fits at =
    let h = may.has in
    let u = unchained image in
    let l = moved_list old new (lists x) in
    let plain_at = stands_plain image x k h.size at in
    let plain : MayRelistPlain old new x u r lists =
    record { has = h.without; there = may.there; old_in = may.old_in; new_out = may.new_out } in
    let one : IsRewritten u (after_relist old new x u) r lists k x l = plain_relist_one u r lists old new x k plain fits plain_at in
    let side : IsSide image (relisted k x (block_in image k) l image) (relisted k x (block_in u k) l u) k =
    side_same image r lists x k l h at (list_blocks image r lists x k h at may.there) in
    let same : unchained (relisted k x (block_in image k) l image) ≡ after_relist old new x u =
    side.same ∙ sym (plain_relist_is u r lists old new x k h.without plain_at) in
    let made : HasThese image (relisted k x (block_in image k) l image) (after_relist old new x u) r (set_list x l lists) = record {
      has = record {
        size = side.keeps.size;
        without = subst (λ (v : List ℕ). HasPlainLists v r (set_list x l lists)) (sym same) one.has;
        chains = side.chains;
      };
      keeps = side.keeps;
      same = same;
    } in
    subst (λ (i : List ℕ). HasThese image i (after_relist old new x u) r (set_list x l lists))
    (sym (relist_is image r lists old new x k h at)) made

-- all of them
pub relist_all : (entries : List ℤ) (image : List ℕ) (r : Registry) (lists : ℤ → PairList) (old new : ℤ) → HasLists image r lists
    → FitsSigned w32 new → IsAscending entries → AreOthers old new r lists entries
    → HasThese image (after_relists old new entries image) (after_relists old new entries (unchained image)) r
    (moved_lists old new entries lists)
relist_all [] image r lists old new h fits rises are = record { has = h; keeps = keeps_none image h.size; same = refl }
relist_all (x ∷ entries) image r lists old new h fits rises are =
    let here = are x (0, omega arith, refl) in
    let p = place_of image r lists x h here.0 in
    let may : MayRelist old new x image r lists = record { has = h; there = here.0; old_in = here.1; new_out = here.2 } in
    let one = relist_one image r lists old new x p.k may fits p.at in
    let next = set_list x (moved_list old new (lists x)) lists in
    let rest = relist_all entries (after_relist old new x image) r next old new one.has fits (ascending_right (x ∷ []) entries rises)
    (λ y has.
    let other : y ≢ x = λ same. not_again x entries rises (subst (λ (z : ℤ). Contains entries z) same has) in
    let stays : next y ≡ lists y = set_other x y (moved_list old new (lists x)) lists other in
    let was = are y (in_tail x entries y has) in (
      was.0,
      subst (λ (l : PairList). Contains l.ids old) (sym stays) was.1,
      λ has_new. was.2 (subst (λ (l : PairList). Contains l.ids new) stays has_new),
    )) in
    record {
      has = rest.has;
      keeps = keeps_then image (after_relist old new x image) (after_relists old new entries (after_relist old new x image)) one.keeps
          rest.keeps;
      same = rest.same ∙ ap (after_relists old new entries) one.same;
    }
