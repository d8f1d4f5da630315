-- Sites of an entry, added, taken away and moved.
use Rattle.std.specs.Prelude.{ℕ, ◌==◌, ◌&&◌, Bool, List, [], ◌∷◌, ◌++◌, position, remove, slice_get, slice_set, Option, Some, option_map, option_and_then}
use Rattle.vldb_entries.specs.declared.entries.VlSite.{VlSite}
use Rattle.vos_tool.specs.Texts.{has_flag}
use Rattle.afs_commands.specs.declared.places.Place.{Place}
use Rattle.vos_tool.specs.declared.places.TheConstants.{READ_ONLY, READ_WRITE}
use Rattle.vos_tool.specs.declared.sites.SiteChange.{SiteChange}
use Rattle.vos_tool.specs.declared.sites.SiteChange.TheVariants.{Add, Remove, Move}

-- a site at a place
abbrev pub site_at : Place → ℕ → VlSite
site_at place flags = record { host = place.host; partition = place.partition; flags = flags }

abbrev pub is_replica_at : Place → VlSite → Bool
is_replica_at place s = (s.host == place.host) && ((s.partition == place.partition) && has_flag s.flags READ_ONLY)

abbrev pub is_read_write : VlSite → Bool
is_read_write s = has_flag s.flags READ_WRITE

abbrev pub with_site : List VlSite → ℕ → VlSite → List VlSite
with_site sites at s = slice_set sites at s

-- the sites after a change, where it finds the site that it changes: one more read-only site; all but the first read-only site at the
-- place; the first read-write site at the place in place of its own
abbrev pub changed_sites : SiteChange → Place → List VlSite → Option (List VlSite)
changed_sites Add place sites = Some (sites ++ site_at place READ_ONLY ∷ [])
changed_sites Remove place sites = option_map (λ at. remove sites at) (position (is_replica_at place) sites)
changed_sites Move place sites =
    option_and_then (λ at. option_map (λ s. with_site sites at (site_at place s.flags)) (slice_get sites at)) (position is_read_write sites)
