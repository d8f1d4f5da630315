-- The lists of those with whom an entry is paired, in which its new id takes the place of the old one.
use Rattle.std.proofs.Common.{◌≡◌, ◌≢◌, ℕ, ℤ, ◌-◌, List, [], ◌∷◌, ◌++◌, length, drop, IsSome, refl, sym, ap, subst, ◌∙◌, inl, arith}
use Rattle.std.specs.Prelude.{FitsSigned}
use Rattle.std.specs.Int.{w32, div_ceil}
use Rattle.std.specs.List.{Contains}
use Rattle.std.proofs.lemmas.List.{length-drop}
use Rattle.prdb_layout.specs.Blocks.{block_count}
use Rattle.prdb_layout.specs.Records.{block_in}
use Rattle.prdb_layout.specs.Registry.{Registry}
use Rattle.entry_scans.specs.Lists.{IsAscending}
use Rattle.prdb_lists.specs.Changes.{list_in, relisted}
use Rattle.prdb_lists.specs.Layout.{PairList}
use Rattle.prdb_lists.specs.Moves.{MayRelist, after_relist, after_relists, ids_moved}
use Rattle.prdb_lists.specs.Sides.{HasLists, set_list}
use Rattle.prdb_lists.proofs.Ascending.{ascending_right}
use Rattle.prdb_lists.proofs.Chains.{chain-length}
use Rattle.prdb_lists.proofs.Gains.{listed_at, more_within, place_is, place_of, told_at}
use Rattle.prdb_lists.proofs.MovedIds.{in_tail, length-moved, moved_list, moved_listed, moved_lists, not_again}
use Rattle.prdb_lists.proofs.Relist.{IsRewritten, MayBeListed, MayStand, StandsAt, rewritten}
use Rattle.prdb_lists.proofs.Side.{set_other}

-- the image is a function of the bytes
pub relist_is : (image : List ℕ) (r : Registry) (lists : ℤ → PairList) (old new x : ℤ) (k : ℕ) → HasLists image r lists → StandsAt image x k
    → after_relist old new x image ≡ relisted k x (block_in image k) (moved_list old new (lists x)) image
relist_is image r lists old new x k h at =
    ap (λ (j : ℕ). relisted j x (block_in image j) (moved_list old new (list_in image (block_in image j))) image)
    (place_is image r lists x k h at)
    ∙ ap (λ (l : PairList). relisted k x (block_in image k) (moved_list old new l) image) (told_at image r lists x k h at)

-- one list more has the new id
pub relist_one : (image : List ℕ) (r : Registry) (lists : ℤ → PairList) (old new x : ℤ) (k : ℕ) → MayRelist old new x image r lists
    → FitsSigned w32 new → StandsAt image x k
    → IsRewritten image (after_relist old new x image) r lists k x (moved_list old new (lists x))
relist_one image r lists old new x k may fits at =
    let h = may.has in
    let listed = listed_at image r lists x k h at in
    let ids : MayBeListed (lists x).ids = record { ascending = listed.ascending; fits = listed.fits; few = listed.few } in
    let len : length (drop 19 (lists x).ids) ≡ length (drop 19 (ids_moved old new (lists x).ids)) =
    length-drop 19 (lists x).ids ∙ ap (λ (n : ℕ). n - 19) (sym (length-moved old new (lists x).ids listed.ascending may.old_in))
    ∙ sym (length-drop 19 (ids_moved old new (lists x).ids)) in
    let stand : MayStand image (lists x) (moved_list old new (lists x)) (block_count image) = record {
      enough = chain-length image x (lists x).more (drop 19 (lists x).ids) listed.chain ∙ ap (λ (n : ℕ). div_ceil n 44) len;
      within = more_within image r lists x k h at;
      distinct = h.are.once x may.there;
      new_more = λ j has. inl has;
      old_more = λ j has. inl has;
      spare_was = λ less. absurd (omega arith);
    } in
    subst (λ (i : List ℕ). IsRewritten image i r lists k x (moved_list old new (lists x))) (sym (relist_is image r lists old new x k h at))
    (rewritten image image r lists x k (block_count image) (moved_list old new (lists x)) h at may.there
    (record { size = refl; front = refl; zero = λ less. absurd (omega arith); others = λ j less apart. refl })
    (moved_listed old new (lists x).ids ids may.old_in may.new_out fits) stand)

-- ---- all of them

-- entries whose lists have the old id, and not the new one
abbrev pub AreOthers : (old new : ℤ) → Registry → (ℤ → PairList) → List ℤ → Type 0
AreOthers old new r lists entries =
    (x : ℤ) → Contains entries x → IsSome (r.entry x) × Contains (lists x).ids old × (Contains (lists x).ids new → ⊥)

pub record AreRelisted (image after : List ℕ) (r : Registry) (lists : ℤ → PairList) (old new : ℤ) (entries : List ℤ) : Type 0 where
  pub has : HasLists after r (moved_lists old new entries lists)
  pub size : length after ≡ length image

pub relist_all : (entries : List ℤ) (image : List ℕ) (r : Registry) (lists : ℤ → PairList) (old new : ℤ) → HasLists image r lists
    → FitsSigned w32 new → IsAscending entries
    → AreOthers old new r lists entries → AreRelisted image (after_relists old new entries image) r lists old new entries
relist_all [] image r lists old new h fits rises are = record { has = h; size = refl }
relist_all (x ∷ entries) image r lists old new h fits rises are =
    let here = are x (0, omega arith, refl) in
    let p = place_of image r lists x h here.0 in
    let may : MayRelist old new x image r lists = record { has = h; there = here.0; old_in = here.1; new_out = here.2 } in
    let one = relist_one image r lists old new x p.k may fits p.at in
    let next = set_list x (moved_list old new (lists x)) lists in
    let rest = relist_all entries (after_relist old new x image) r next old new one.has fits (ascending_right (x ∷ []) entries rises)
    (λ y has.
    let other : y ≢ x = λ same. not_again x entries rises (subst (λ (z : ℤ). Contains entries z) same has) in
    let stays : next y ≡ lists y = set_other x y (moved_list old new (lists x)) lists other in
    let was = are y (in_tail x entries y has) in (
      was.0,
      subst (λ (l : PairList). Contains l.ids old) (sym stays) was.1,
      λ has_new. was.2 (subst (λ (l : PairList). Contains l.ids new) stays has_new),
    )) in
    record { has = rest.has; size = rest.size ∙ one.size }

pub relists_push : (old new : ℤ) (entries : List ℤ) (x : ℤ) (image : List ℕ)
    → after_relists old new (entries ++ x ∷ []) image ≡ after_relist old new x (after_relists old new entries image)
relists_push old new [] x image = refl
relists_push old new (y ∷ entries) x image = relists_push old new entries x (after_relist old new y image)
