-- Ids that were sorted, each of which stands once.
use Rattle.std.proofs.Common.{◌≡◌, ℤ, List, get_or, sym, rules}
use Rattle.std.specs.Prelude.{◌<ℤ◌}
use Rattle.std.specs.List.{Contains, dedup}
use Rattle.std.specs.List.Sorted.{IsPermutation, IsSorted, IsStrictlySortedBy}
use Rattle.std.specs.Ordering.{eq_by_cmp, int_cmp, int_eq}
use Rattle.std.specs.declared.cmp.Ordering.TheVariants.{Less}
use Rattle.std.proofs.lemmas.Bool.Decides.{Decides-int_eq}
use Rattle.std.proofs.lemmas.Cmp.{int_cmp_total, int_eq_equiv, int_ranked}
use Rattle.std.proofs.lemmas.List.Kept.{Contains-dedup, Contains-from_dedup, IsStrictlySortedBy-dedup}
use Rattle.std.proofs.lemmas.List.Sorted.{Contains-permutation, IsPermutation-sym}
use Rattle.std.proofs.lemmas.Map.Keys.{Less-from_sorted}
use Rattle.entry_scans.specs.Lists.{IsAscending}

less_is : (x y : ℤ) → int_cmp x y ≡ Less → x <ℤ y
less_is x y is = int_ranked x y Less (sym is)

pub ascending_strict : (ids : List ℤ) → IsStrictlySortedBy int_cmp ids → IsAscending ids
ascending_strict ids strict i j d less within =
    less_is (get_or ids i d) (get_or ids j d) (Less-from_sorted int_cmp ids i j d strict less within)

ties : (x y : ℤ) → int_eq x y ≡ eq_by_cmp int_cmp x y
ties x y = search rules

pub ascending_once : (ids : List ℤ) → IsSorted int_cmp ids → IsAscending (dedup int_eq ids)
ascending_once ids sorted = ascending_strict (dedup int_eq ids) (IsStrictlySortedBy-dedup int_cmp_total ties ids sorted)

pub same_once : (ids sorted : List ℤ) → IsPermutation ids sorted → (id : ℤ)
    → (Contains (dedup int_eq sorted) id → Contains ids id) × (Contains ids id → Contains (dedup int_eq sorted) id)
same_once ids sorted moved id = (
  λ there. Contains-permutation sorted ids id (IsPermutation-sym ids sorted moved) (Contains-from_dedup int_eq sorted id there),
  λ there. Contains-dedup int_eq_equiv (λ x y. (Decides-int_eq x y).0) sorted id (Contains-permutation ids sorted id moved there),
)
