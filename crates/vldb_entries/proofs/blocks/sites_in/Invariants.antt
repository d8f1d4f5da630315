use Rattle.std.proofs.Common.{◌≡◌, map}
use Rattle.std.specs.List.{range_with_len}
use Rattle.vldb_entries.specs.Forms.{site_in}
use Rattle.vldb_entries.proofs.blocks.sites_in.Given as goal

abbrev pub invariant-loop-k : goal.invariant-loop-k
invariant-loop-k l = l.sites.items ≡ map (site_in l.addresses l.block) (range_with_len 0 l.k)
