-- A page of the entries that a call lists, by the records' listings.
use Rattle.std.specs.Prelude.{ℕ, ℤ, pos, negsuc, Bool, List, take, filter, Some, None}
use Rattle.vldb_entries.specs.declared.entries.VlEntry.{VlEntry}
use Rattle.vldb_records.specs.declared.listings.Listing.{Listing}
use Rattle.vldb_records.specs.Listing.{is_listed_above}
use Rattle.vldb_entries.specs.Location.{Location}
use Rattle.vl_service.specs.Meaning.{entries}

-- what a call asks for: the partition -1 is any
abbrev pub listing_of : (host : ℕ) → (partition : ℤ) → (locked : Bool) → Listing
listing_of host (pos n) locked = record { host = host; partition = Some n; locked = locked }
listing_of host (negsuc n) locked = record { host = host; partition = None; locked = locked }

-- the listed entries with an id above one
abbrev pub above : Listing → (after : ℕ) → Location → List VlEntry
above listing after s = filter (is_listed_above listing after) (entries s)

-- the first hundred of them
abbrev pub page_of : Listing → (after : ℕ) → Location → List VlEntry
page_of listing after s = take 100 (above listing after s)
