-- Which entries a listing names.
use Rattle.std.specs.Prelude.{ℕ, zero, suc, ◌≡◌, ◌<◌, ◌≤◌, ◌==◌, ◌&&◌, ◌||◌, Bool, true, false, not, nat_lt, List, [], ◌∷◌, Option, Some, None}
use Rattle.std.specs.List.{list_any}
use Rattle.vldb_entries.specs.declared.entries.VlEntry.{VlEntry}
use Rattle.vldb_entries.specs.declared.entries.VlSite.{VlSite}
use Rattle.vldb_records.specs.declared.listings.Listing.{Listing}
use Rattle.db_blocks.specs.Blocks.{word_at, kind_of}
use Rattle.vldb_entries.specs.declared.layout.TheConstants.{RW_AT}
use Rattle.vldb_entries.specs.Location.{Location}
use Rattle.vldb_entries.specs.Forms.{entry_in}

-- on a partition, none for any
abbrev pub is_on : Option ℕ → VlSite → Bool
is_on None site = true
is_on (Some partition) site = partition == site.partition

-- of a server, 0 for any, on a partition
abbrev pub is_listed_site : Listing → VlSite → Bool
is_listed_site l site = (l.host == 0 || site.host == l.host) && is_on l.partition site

abbrev pub is_listed : Listing → VlEntry → Bool
is_listed l e = list_any (is_listed_site l) e.sites && (not l.locked || not (e.lock_op == 0))

-- with a read-write id above one
abbrev pub is_listed_above : Listing → (after : ℕ) → VlEntry → Bool
is_listed_above l after e = nat_lt after e.rw && is_listed l e

-- the block of such an entry
abbrev pub is_listed_in : Listing → (after : ℕ) → List ℕ → List ℕ → Bool
is_listed_in l after addresses block = kind_of block == 1 && is_listed_above l after (entry_in addresses block)

-- the read-write id in an entry's block
abbrev pub rw_in : List ℕ → ℕ
rw_in block = word_at block RW_AT

-- the listed entry with the least read-write id above one, if there is one
abbrev pub IsNextListed : Location → Listing → (after : ℕ) → Option VlEntry → Type 0
IsNextListed s l after None = (rw : ℕ) (e : VlEntry) → after < rw → s.entry rw ≡ Some e → is_listed l e ≡ false
IsNextListed s l after (Some e) = (s.entry e.rw ≡ Some e) × (after < e.rw) × (is_listed l e ≡ true)
    × ((rw : ℕ) (f : VlEntry) → after < rw → s.entry rw ≡ Some f → is_listed l f ≡ true → e.rw ≤ rw)

-- the first so many listed entries above one, ascending: each is the next one behind that before it, and behind the last of fewer is none
abbrev pub AreListed : Location → Listing → (after most : ℕ) → List VlEntry → Type 0
AreListed s l after zero es = es ≡ []
AreListed s l after (suc n) [] = IsNextListed s l after None
AreListed s l after (suc n) (e ∷ es) = IsNextListed s l after (Some e) × AreListed s l e.rw n es
