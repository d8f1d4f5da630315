-- Ascending lists of ids.
use Rattle.std.specs.Prelude.{ℕ, ℤ, ◌<◌, ◌≤◌, ◌<ℤ◌, ◌≤ℤ◌, not, int_lt, List, ◌∷◌, ◌++◌, length, take, drop, filter, slice_index_or}
use Rattle.std.specs.Ordering.{int_eq}
use Rattle.db_blocks.specs.Blocks.{first_from}

-- so many first ids are below one, and none behind them is
pub record IsRank (ids : List ℤ) (id : ℤ) (rank : ℕ) : Type 0 where
  pub most : rank ≤ length ids
  pub within : (i : ℕ) (d : ℤ) → i < rank → slice_index_or ids i d <ℤ id
  pub behind : (d : ℤ) → rank < length ids → id ≤ℤ slice_index_or ids rank d

-- how many first ids are below one
abbrev pub rank_of : ℤ → List ℤ → ℕ
rank_of id ids = first_from (λ i. not (int_lt (slice_index_or ids i id) id)) 0 (length ids)

-- an ascending list with an id more in its place
unfoldable pub ids_with : ℤ → List ℤ → List ℤ
ids_with id ids = take (rank_of id ids) ids ++ id ∷ drop (rank_of id ids) ids

-- a list without an id
unfoldable pub ids_without : ℤ → List ℤ → List ℤ
ids_without id ids = filter (λ x. not (int_eq x id)) ids
