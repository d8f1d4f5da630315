use Rattle.std.proofs.Common.{◌≡◌, map, take}
use Rattle.vldb_entries.proofs.forms.partitions_of.Given as goal

abbrev pub invariant-loop-site : goal.invariant-loop-site
invariant-loop-site l = l.partitions.items ≡ map (λ site. site.partition) (take l.site-index l.sites)
