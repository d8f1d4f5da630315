-- Ranges of places, held by ids for reading or for writing (own).
use Rattle.std.specs.Prelude.{ℕ, ◌≢◌, ◌+◌, ◌<◌, ◌≤◌, ◌==◌, ◌&&◌, ◌||◌, ◌⊎◌, not, Bool, IsTrue, nat_lt, max, min}
use Rattle.lock_table.specs.declared.ranges.HeldRange.{HeldRange}
use Rattle.lock_table.specs.declared.ranges.LockConflict.{LockConflict}

-- the range of `len` places from `start` on, held by an id
abbrev pub held_range : ℕ → ℕ → Bool → ℕ → HeldRange
held_range start len write who = record { holder = who; start = start; len = len; write = write }

-- the first place after a range
abbrev pub range_end : HeldRange → ℕ
range_end range = range.start + range.len

-- the later start comes before the earlier end
abbrev pub overlaps : HeldRange → HeldRange → Bool
overlaps a b = nat_lt (max a.start b.start) (min (range_end a) (range_end b))

-- two ids want ranges that overlap, and one of the two writes
abbrev pub conflicts : HeldRange → HeldRange → Bool
conflicts a b = not (a.holder == b.holder) && (a.write || b.write) && overlaps a b

-- what is told of a range that is in the way
abbrev pub conflict_of : HeldRange → LockConflict
conflict_of range = record { holder = range.holder; start = range.start; len = range.len }

-- the place lies in the range
pub record IsIn (place : ℕ) (range : HeldRange) : Type 0 where
  pub from : range.start ≤ place
  pub before : place < range_end range

-- two ids want a common place, and one of the two writes it
pub record Conflicts (a b : HeldRange) : Type 0 where
  pub two_ids : a.holder ≢ b.holder
  pub common : (place : ℕ) × IsIn place a × IsIn place b
  pub one_writes : IsTrue a.write ⊎ IsTrue b.write
