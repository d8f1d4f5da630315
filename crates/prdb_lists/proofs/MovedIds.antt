-- An id in place of another one in a list, and in all lists that have it.
use Rattle.std.proofs.Common.{◌≡◌, ◌≢◌, ℕ, ℤ, zero, suc, ◌^◌, ◌<◌, List, [], ◌∷◌, length, sym, ap, subst, ◌∙◌, refl, inl, inr, arith}
use Rattle.std.specs.Prelude.{◌⊎◌, ◌<ℤ◌, FitsSigned}
use Rattle.std.specs.Int.{w32}
use Rattle.std.specs.List.{All, Contains}
use Rattle.std.proofs.lemmas.List.Elements.{All-contains, All-contains_itself}
use Rattle.entry_scans.specs.Lists.{IsAscending}
use Rattle.prdb_lists.specs.Layout.{PairList}
use Rattle.prdb_lists.specs.Lists.{ids_without}
use Rattle.prdb_lists.specs.Moves.{ids_moved}
use Rattle.prdb_lists.specs.Sides.{set_list}
use Rattle.prdb_lists.proofs.Ascending.{IsWith, ascending_right, not_self}
use Rattle.prdb_lists.proofs.Ids.{IsWithout, above_head, ids_with-ascending, ids_with-members, ids_without-ascending, ids_without-members, length-ids_with, length-ids_without, of_without}
use Rattle.prdb_lists.proofs.Relist.{MayBeListed}
use Rattle.prdb_lists.proofs.Side.{set_other, set_same}

-- ---- one list

pub from_moved : (old new : ℤ) (ids : List ℤ) (y : ℤ) → Contains (ids_moved old new ids) y → (y ≡ new) ⊎ ((y ≢ old) × Contains ids y)
unfolding IsWith IsWithout
from_moved old new ids y has = elim ((ids_with-members new (ids_without old ids) y).0 has) [
  | inl same ↦ inl same
  | inr was ↦ inr ((ids_without-members old ids y).0 was)
]

pub new_moved : (old new : ℤ) (ids : List ℤ) → Contains (ids_moved old new ids) new
unfolding IsWith
new_moved old new ids = (ids_with-members new (ids_without old ids) new).1 (inl refl)

pub other_moved : (old new : ℤ) (ids : List ℤ) (y : ℤ) → y ≢ old → Contains ids y → Contains (ids_moved old new ids) y
unfolding IsWith IsWithout
other_moved old new ids y other has = (ids_with-members new (ids_without old ids) y).1 (inr ((ids_without-members old ids y).1 other has))

pub length-moved : (old new : ℤ) (ids : List ℤ) → IsAscending ids → Contains ids old → length (ids_moved old new ids) ≡ length ids
length-moved old new ids rises has = length-ids_with new (ids_without old ids) ∙ length-ids_without old ids rises has

pub not_without : (old new : ℤ) (ids : List ℤ) → ¬ Contains ids new → ¬ Contains (ids_without old ids) new
not_without old new ids out has = out (of_without old ids new has)

all_by : (P : ℤ → Type 0) (ids : List ℤ) → ((y : ℤ) → Contains ids y → P y) → All P ids
all_by P ids each i d below = each _ (All-contains_itself ids i d below)

pub moved_listed : (old new : ℤ) (ids : List ℤ) → MayBeListed ids → Contains ids old → ¬ Contains ids new → FitsSigned w32 new
    → MayBeListed (ids_moved old new ids)
moved_listed old new ids is has out fits =
    let few = is.few in
    record {
      ascending = ids_with-ascending new (ids_without old ids) (ids_without-ascending old ids is.ascending) (not_without old new ids out);
      fits = all_by (λ y. FitsSigned w32 y) (ids_moved old new ids) (λ y has_y. elim (from_moved old new ids y has_y) [
        | inl same ↦ subst (λ (z : ℤ). FitsSigned w32 z) (sym same) fits
        | inr was ↦ All-contains (λ z. FitsSigned w32 z) ids y is.fits was.1
      ]);
      few = subst (λ (n : ℕ). n < 2 ^ 32) (sym (length-moved old new ids is.ascending has)) few;
    }

-- ---- the lists of some entries

abbrev pub moved_list : (old new : ℤ) → PairList → PairList
moved_list old new l = record { ids = ids_moved old new l.ids; more = l.more }

-- the lists after those of these entries have the new id
abbrev pub moved_lists : (old new : ℤ) → List ℤ → (ℤ → PairList) → ℤ → PairList
moved_lists old new [] lists = lists
moved_lists old new (x ∷ entries) lists = moved_lists old new entries (set_list x (moved_list old new (lists x)) lists)

-- an id stands once in an ascending list
pub not_again : (x : ℤ) (xs : List ℤ) → IsAscending (x ∷ xs) → Contains xs x → ⊥
not_again x xs rises has = not_self x (All-contains (λ y. x <ℤ y) xs x (above_head x xs rises) has)

pub in_tail : (x : ℤ) (xs : List ℤ) (y : ℤ) → Contains xs y → Contains (x ∷ xs) y
in_tail x xs y has = (suc has.0, omega (arith, has.1), has.2)

pub lists_stay : (old new : ℤ) (entries : List ℤ) (lists : ℤ → PairList) (id : ℤ) → ¬ Contains entries id
    → moved_lists old new entries lists id ≡ lists id
lists_stay old new [] lists id out = refl
lists_stay old new (x ∷ entries) lists id out =
    lists_stay old new entries (set_list x (moved_list old new (lists x)) lists) id (λ has. out (in_tail x entries id has))
    ∙ set_other x id (moved_list old new (lists x)) lists (λ same. out (0, omega arith, sym same))

pub list_moves : (old new : ℤ) (entries : List ℤ) (lists : ℤ → PairList) (id : ℤ) → IsAscending entries → Contains entries id
    → moved_lists old new entries lists id ≡ moved_list old new (lists id)
list_moves old new [] lists id rises has = absurd (omega (arith, has.1))
list_moves old new (x ∷ entries) lists id rises (zero, below, same) =
    lists_stay old new entries (set_list x (moved_list old new (lists x)) lists) id
    (λ has. not_again x entries rises (subst (λ (y : ℤ). Contains entries y) (sym same) has))
    ∙ set_same x id (moved_list old new (lists x)) lists (sym same) ∙ ap (λ (y : ℤ). moved_list old new (lists y)) same
list_moves old new (x ∷ entries) lists id rises (suc i, below, same) =
    let has : Contains entries id = (i, omega arith, same) in
    let apart : id ≢ x = λ is. not_again x entries rises (subst (λ (y : ℤ). Contains entries y) is has) in
    list_moves old new entries (set_list x (moved_list old new (lists x)) lists) id (ascending_right (x ∷ []) entries rises) has
    ∙ ap (moved_list old new) (set_other x id (moved_list old new (lists x)) lists apart)
