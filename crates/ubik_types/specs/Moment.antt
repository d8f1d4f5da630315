-- Moments: whole seconds from 1 to 2^31 - 1 (own).
use Rattle.std.specs.Prelude.{ℕ, ◌<◌, ◌^◌}

pub record IsMoment (now : ℕ) : Type 0 where
  pub some : 0 < now
  pub fits : now < 2 ^ 31
