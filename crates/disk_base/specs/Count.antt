-- Counts of faults: what shows that a failure was not made up.
use Rattle.std.specs.Prelude.{ℕ, ◌<◌, ◌≤◌}

-- the count never falls, and it rose where the call failed
pub record HasCause (before after : ℕ) (failed : Type 0) : Type 0 where
  pub never_falls : before ≤ after
  pub rose : failed → before < after
