use Rattle.std.proofs.Common.{◌≡◌, map, take}
use Rattle.vldb_entries.proofs.forms.flags_of.Given as goal

abbrev pub invariant-loop-site : goal.invariant-loop-site
invariant-loop-site l = l.flags.items ≡ map (λ site. site.flags) (take l.site-index l.sites)
