-- Moments of a clock (own).
use Rattle.std.specs.Prelude.{ℕ}

-- the clock gave this moment: of how it tells that, nothing else is known
abbrev pub IsOfClock : (ℕ → Type 0) → ℕ → Type 0
IsOfClock gave moment = ∥ gave moment ∥₁
