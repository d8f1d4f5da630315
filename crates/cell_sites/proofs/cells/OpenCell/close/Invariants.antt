use Rattle.std.proofs.Common.{◌≡◌, ◌≤◌, ◌+◌, ◌++◌, length, map, reverse}
use Rattle.std.specs.Prelude.{vec_capacity}
use Rattle.cell_sites.specs.Sites.{site_disk}
use Rattle.cell_sites.proofs.cells.OpenCell.close.Given as goal

abbrev pub invariant-loop-site : goal.invariant-loop-site
invariant-loop-site g l =
    (l.disks.items ++ map site_disk (reverse l.sites.items) ≡ l.fn.disks.items ++ map site_disk l.fn.self.sites.items)
    × (length l.disks.items + length l.sites.items ≤ vec_capacity l.disks)
    × (vec_capacity l.fn.disks ≤ vec_capacity l.disks)

abbrev pub decreases-loop-site : goal.decreases-loop-site
decreases-loop-site g l = length l.sites.items
