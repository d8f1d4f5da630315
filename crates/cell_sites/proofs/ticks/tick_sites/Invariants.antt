use Rattle.std.proofs.Common.{◌≡◌, ◌≤◌, ℕ, ◌++◌, map, take, drop}
use Rattle.std.specs.Prelude.{slice_get}
use Rattle.cell_sites.specs.Places.{ticked_on}
use Rattle.cell_sites.proofs.ticks.tick_sites.Given as goal

abbrev pub invariant-loop-site : goal.invariant-loop-site
invariant-loop-site g l =
    (map (ticked_on l.seconds) l.fn.sites ≡ take l.site-index l.sites ++ map (ticked_on l.seconds) (drop l.site-index l.sites))
    × ((k : ℕ) → l.site-index ≤ k → slice_get l.sites k ≡ slice_get l.fn.sites k)
