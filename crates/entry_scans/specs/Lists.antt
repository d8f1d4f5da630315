-- Ascending lists of ids.
use Rattle.std.specs.Prelude.{ℕ, ℤ, ◌<◌, ◌<ℤ◌, List, length, slice_index_or}
use Rattle.std.specs.List.{Contains}

-- each id is below those behind it
abbrev pub IsAscending : List ℤ → Type 0
IsAscending ids = (i j : ℕ) (d : ℤ) → i < j → j < length ids → slice_index_or ids i d <ℤ slice_index_or ids j d

-- the ascending list of the ids of which something holds
pub record IsListOf (holds : ℤ → Type 0) (ids : List ℤ) : Type 0 where
  pub ascending : IsAscending ids
  pub each : (id : ℤ) → Contains ids id → holds id
  pub all : (id : ℤ) → holds id → Contains ids id
