-- `listvldb`, `unlockvldb`: entries, read in pages.
use Rattle.std.specs.Prelude.{ℕ, ℤ, pos, negsuc, min, zero, suc, nat_lt, Bool, if◌then◌else◌, List, [], ◌∷◌, ◌++◌, length, codes, Option, Some, None, unwrap_or, fold}
use Rattle.std.specs.Fmt.{decimal}
use Rattle.std.specs.List.{flat_map}
use Rattle.afs_commands.specs.declared.places.SiteFilter.{SiteFilter}
use Rattle.afs_commands.specs.declared.places.Style.{Style}
use Rattle.vl_calls.specs.declared.calls.VlCall.{VlCall}
use Rattle.vl_calls.specs.declared.calls.VlCall.TheVariants as call
use Rattle.vl_calls.specs.declared.limits.TheConstants.{MAX_PAGE}
use Rattle.vldb_entries.specs.declared.entries.VlEntry.{VlEntry}
use Rattle.tool_base.specs.Course.{◌>>=◌, Course, gives}
use Rattle.tool_base.specs.Texts.{joined}
use Rattle.vos_tool.specs.Asking.{asks_page}
use Rattle.vos_tool.specs.Each.{each}
use Rattle.vos_tool.specs.Locking.{releases_lock}
use Rattle.vos_tool.specs.Ordering.{by_name}
use Rattle.vos_tool.specs.Texts.{entry_text, line_end}
use Rattle.vos_tool.specs.Volumes.{volume_entry}
use Rattle.vos_tool.specs.declared.listing.Filter.{Filter}
use Rattle.vos_tool.specs.declared.paging.TheConstants.{MOST_PAGES}

-- any partition where none is given
abbrev pub any_partition : Option ℕ → ℤ
any_partition (Some partition) = pos (min partition 255)
any_partition None = negsuc 0

-- the entries that have one of these sites: the host 0 is any
abbrev pub filter_of : SiteFilter → Bool → Filter
filter_of sites locked = record {
  host = unwrap_or sites.server 0;
  partition = any_partition sites.partition;
  locked = locked;
}

abbrev pub page_call : Filter → ℕ → VlCall
page_call filter after = call.ListAttributes after filter.host filter.partition filter.locked

-- the last id of a page, or what was before it
abbrev pub last_id : ℕ → List VlEntry → ℕ
last_id after es = fold (λ last e. e.rw) after es

-- The entries behind those that were found, in at most so many pages; a page that is not full is the last.
unfoldable pub pages : ℕ → Filter → ℕ → List VlEntry → Course (List VlEntry)
pages zero filter after found = gives found
pages (suc more) filter after found =
    asks_page after (page_call filter after) >>= λ es.
    if nat_lt (length es) MAX_PAGE then gives (found ++ es) else pages more filter (last_id after es) (found ++ es)

-- all entries of a listing; there are no more pages than ids
abbrev pub entries_of : Filter → Course (List VlEntry)
entries_of filter = pages MOST_PAGES filter 0 []

abbrev pub total_text : Style → ℕ → List ℕ
total_text style count =
    if style.quiet then [] else joined (codes "Total entries: " ∷ decimal count ∷ line_end ∷ [])

abbrev pub in_order : Style → List VlEntry → List VlEntry
in_order style es = if style.unsorted then es else by_name es

abbrev pub entries_text : Style → List VlEntry → List ℕ
entries_text style es = flat_map entry_text (in_order style es) ++ total_text style (length es)

unfoldable pub listing_text : Filter → Style → Course (List ℕ)
listing_text filter style = do
  es ← entries_of filter
  gives (entries_text style es)

unfoldable pub one_text : List ℕ → Course (List ℕ)
one_text word = do
  e ← volume_entry word
  gives (entry_text e)

-- one entry, or those of a listing
abbrev pub listvldb_text : Option (List ℕ) → Filter → Style → Course (List ℕ)
listvldb_text (Some word) filter style = one_text word
listvldb_text None filter style = listing_text filter style

-- one after the other
abbrev pub releases_each : List VlEntry → Course (Unit {0})
releases_each es = each (λ e. releases_lock e.rw) es

abbrev pub released_text : ℕ → List ℕ
released_text count = joined (codes "Locks released: " ∷ decimal count ∷ line_end ∷ [])

unfoldable pub unlockvldb_text : Filter → Course (List ℕ)
unlockvldb_text filter = do
  es ← entries_of filter
  done ← releases_each es
  gives (released_text (length es))
