-- The pairs that an image tells, whatever it holds, without the words of its chains.
use Rattle.std.specs.Prelude.{ℕ, ℤ, pos, ◌≡◌, ◌&&◌, int_lt, is_some, Bool, true, List, length}
use Rattle.std.specs.List.{list_any}
use Rattle.std.specs.Ordering.{int_eq}
use Rattle.prdb_layout.specs.Records.{block_in, entry_at, entry_in}
use Rattle.prdb_lists.specs.Changes.{list_in, place_in}
use Rattle.prdb_lists.specs.Members.{Members, are_paired}
use Rattle.entry_scans.specs.Pages.{pair_count_in}
use Rattle.entry_scans.specs.Lists.{IsListOf}

-- the list of a user has a group
abbrev pub is_listed : List ℕ → (user group : ℤ) → Bool
is_listed image user group =
    int_lt (pos 0) user && is_some (entry_at image user)
    && list_any (int_eq group) (list_in image (block_in image (place_in image user))).ids

-- the pairs by the lists of the users
unfoldable pub members_in : List ℕ → Members
members_in image = record { has = is_listed image }

-- a block has the number of the ids with which its entry is paired
abbrev pub HasCounted : Members → List ℕ → Type 0
HasCounted m block =
    (ids : List ℤ) × IsListOf (λ other. are_paired m (entry_in block).id other ≡ true) ids × (pair_count_in block ≡ length ids)
