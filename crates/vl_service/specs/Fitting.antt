-- The tests of an entry that is to be stored.
use Rattle.std.specs.Prelude.{ℕ, ◌==◌, ◌&&◌, Bool, not, List, length, nat_le}
use Rattle.std.specs.List.{list_all}
use Rattle.vldb_entries.specs.declared.entries.VlEntry.{VlEntry}
use Rattle.vldb_entries.specs.declared.entries.VlSite.{VlSite}
use Rattle.vldb_entries.specs.Location.{is_name, has_equal_ids, has_repeat}

-- its server is a word other than 0, its partition and its flags are bytes
abbrev pub site_fits : VlSite → Bool
site_fits site = not (site.host == 0) && nat_le site.host 4294967295 && nat_le site.partition 255 && nat_le site.flags 255

abbrev pub sites_fit : List VlSite → Bool
sites_fit sites = nat_le (length sites) 13 && list_all site_fits sites && not (has_repeat sites)

-- no id passes the greatest one, and the read-write id is one
abbrev pub ids_fit : (rw ro backup clone_id : ℕ) → Bool
ids_fit rw ro backup clone_id =
    not (rw == 0) && nat_le rw 2147483647 && nat_le ro 2147483647 && nat_le backup 2147483647 && nat_le clone_id 2147483647

abbrev pub entry_fits : VlEntry → Bool
entry_fits e = is_name e.name && ids_fit e.rw e.ro e.backup e.clone_id && not (has_equal_ids e.rw e.ro e.backup) && sites_fit e.sites
