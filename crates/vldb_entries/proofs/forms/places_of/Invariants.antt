use Rattle.std.proofs.Common.{◌≡◌, map, take}
use Rattle.vldb_entries.specs.Forms.{place_of}
use Rattle.vldb_entries.proofs.forms.places_of.Given as goal

abbrev pub invariant-loop-site : goal.invariant-loop-site
invariant-loop-site l = l.places.items ≡ map (λ site. place_of l.addresses site.host) (take l.site-index l.sites)
