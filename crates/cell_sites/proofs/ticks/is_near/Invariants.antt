use Rattle.std.proofs.Common.{◌≡◌, ◌≢◌, ◌≤◌, ◌<◌, ◌+◌, ℕ, Some}
use Rattle.std.specs.Prelude.{slice_get}
use Rattle.ubik_types.specs.declared.limits.TheConstants.{SKEW}
use Rattle.cell_sites.specs.declared.sites.Site.{Site}
use Rattle.cell_sites.proofs.ticks.is_near.Given as goal

abbrev pub invariant-loop-j : goal.invariant-loop-j
invariant-loop-j g l = (i : ℕ) (site : Site _ _ _) → i < l.j → slice_get l.fn.sites i ≡ Some site → i ≢ l.k → l.now ≤ site.clock + SKEW
