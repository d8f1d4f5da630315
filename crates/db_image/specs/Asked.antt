-- How many bytes the reads of an image have asked for.
use Rattle.std.specs.Prelude.{ℕ, ◌+◌, ◌≤◌, ◌^◌, nat_lt, Option, Some, None, if◌then◌else◌}

-- a number of bytes that were asked for is told while it is below 2^63
abbrev pub told_of : ℕ → Option ℕ
told_of asked = if nat_lt asked (2 ^ 63) then Some asked else None

-- it rose by so many at most
pub record RoseAtMost (most before after : ℕ) : Type 0 where
  pub never_falls : before ≤ after
  pub within : after ≤ before + most

-- so many more bytes were asked for at most; where their number is told afterwards, it was told before
abbrev pub AsksAtMost : ℕ → (before after : Option ℕ) → Type 0
AsksAtMost most before None = Unit {0}
AsksAtMost most None (Some after) = ⊥
AsksAtMost most (Some before) (Some after) = RoseAtMost most before after
