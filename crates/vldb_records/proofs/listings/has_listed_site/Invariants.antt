use Rattle.std.proofs.Common.{◌≡◌, false, map}
use Rattle.std.specs.List.{list_any, range_with_len}
use Rattle.vldb_records.specs.Listing.{is_listed_site}
use Rattle.vldb_entries.specs.Forms.{site_in}
use Rattle.vldb_records.proofs.listings.has_listed_site.Given as goal

abbrev pub invariant-loop-k : goal.invariant-loop-k
invariant-loop-k l = list_any (is_listed_site l.listing) (map (site_in l.addresses l.block) (range_with_len 0 l.k)) ≡ false
