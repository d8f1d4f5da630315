-- The lock table: the ranges held, in the order in which they were taken, and the ids that wait, the first
-- to be served first (own).
use Rattle.std.specs.Prelude.{ℕ, ◌==◌, ◌<◌, ◌≤◌, ◌^◌, not, Option, List, [], ◌∷◌, ◌++◌, length, filter, find, drop, All, AllPairs}
use Rattle.lock_table.specs.declared.ranges.HeldRange.{HeldRange}
use Rattle.lock_table.specs.declared.tables.TheConstants.{MAX_WAITING}
use Rattle.lock_table.specs.Ranges.{range_end, conflicts, Conflicts}

pub record Table : Type 0 where
  pub held : List HeldRange
  pub line : List ℕ

-- what is true of every table that its calls make: no place that one id writes is held by another, each
-- range ends within 32 bits, and not too many ids wait
pub record IsLockTable (table : Table) : Type 0 where
  pub apart : AllPairs (λ a b. ¬ Conflicts a b) table.held
  pub ends : All (λ range. range_end range < 2 ^ 32) table.held
  pub not_more : length table.line ≤ MAX_WAITING

abbrev pub empty_table : Table
empty_table = record { held = []; line = [] }

-- the first range in the list that conflicts with the one wanted
abbrev pub first_conflict : Table → HeldRange → Option HeldRange
first_conflict table wanted = find (λ held. conflicts held wanted) table.held

-- the table after a range was taken
abbrev pub with_range : Table → HeldRange → Table
with_range table range = record table { held = table.held ++ range ∷ [] }

-- the ranges that other ids hold
abbrev pub others : List HeldRange → ℕ → List HeldRange
others held who = filter (λ (range : HeldRange). not (range.holder == who)) held

-- the table after an id gave back all that it held
abbrev pub without_holder : Table → ℕ → Table
without_holder table who = record table { held = others table.held who }

-- the table after an id joined the line
abbrev pub with_waiting : Table → ℕ → Table
with_waiting table who = record table { line = table.line ++ who ∷ [] }

-- the table after the first in line got its turn
abbrev pub without_first : Table → Table
without_first table = record table { line = drop 1 table.line }
