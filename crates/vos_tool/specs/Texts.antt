-- The parts of the texts of `vos` (OpenAFS manual pages of `vos`, as far as they are followed here).
use Rattle.std.specs.Prelude.{ℕ, ◌+◌, ◌-◌, ◌/◌, ◌%◌, ◌==◌, ◌&&◌, not, min, nat_lt, bit_and, Bool, if◌then◌else◌, List, [], ◌∷◌, ◌++◌, length, codes}
use Rattle.std.specs.Fmt.{decimal}
use Rattle.std.specs.List.{flat_map}
use Rattle.tool_base.specs.Texts.{at_left, joined}
use Rattle.vldb_entries.specs.declared.entries.VlEntry.{VlEntry}
use Rattle.vldb_entries.specs.declared.entries.VlSite.{VlSite}
use Rattle.afs_commands.specs.declared.places.Place.{Place}

abbrev pub line_end : List ℕ
line_end = 10 ∷ []

-- a dotted address
unfoldable pub dotted : ℕ → List ℕ
dotted host =
    decimal (host / 16777216) ++ codes "." ++ decimal (host / 65536 % 256) ++ codes "." ++ decimal (host / 256 % 256) ++ codes "."
    ++ decimal (host % 256)

-- the letters of a partition, 0 to 255: one for the first 26, then two
abbrev pub letters : ℕ → List ℕ
letters n = if nat_lt n 26 then (97 + n) ∷ [] else (97 + (n - 26) / 26) ∷ (97 + (n - 26) % 26) ∷ []

unfoldable pub partition_text : ℕ → List ℕ
partition_text partition = codes "/vicep" ++ letters (min partition 255)

-- what is told of a volume
abbrev pub volume_line : (told word : List ℕ) → List ℕ
volume_line told word = joined (told ∷ word ∷ line_end ∷ [])

-- a server and its partition
unfoldable pub place_text : Place → List ℕ
place_text place = joined (dotted place.host ∷ codes " " ∷ partition_text place.partition ∷ [])

-- whether a word of flags has one
abbrev pub has_flag : ℕ → ℕ → Bool
has_flag flags flag = not (bit_and flags flag == 0)

abbrev pub id_text : Bool → List ℕ → ℕ → List ℕ
id_text shown label id = if shown then joined (label ∷ at_left 10 (decimal id) ∷ []) else []

-- the ids of an entry that exist
unfoldable pub ids_text : VlEntry → List ℕ
ids_text e = joined (
    id_text (has_flag e.flags 4096) (codes "    RWrite: ") e.rw
    ∷ id_text (has_flag e.flags 8192) (codes "    ROnly: ") e.ro
    ∷ id_text (has_flag e.flags 16384) (codes "    Backup: ") e.backup
    ∷ id_text (not (e.clone_id == 0) && has_flag e.flags 8192) (codes "    RClone: ") e.clone_id
    ∷ line_end ∷ [])

abbrev pub site_kind : ℕ → List ℕ
site_kind flags = if has_flag flags 4 then codes " RW Site" else (if has_flag flags 2 then codes " RO Site" else codes " BK Site")

abbrev pub new_mark : ℕ → List ℕ
new_mark flags = if has_flag flags 1 then codes " -- New release" else []

-- what of a volume lies where
unfoldable pub site_text : VlSite → List ℕ
site_text s = joined (
    codes "       server "
    ∷ dotted s.host
    ∷ codes " partition "
    ∷ partition_text s.partition
    ∷ site_kind s.flags
    ∷ new_mark s.flags
    ∷ line_end ∷ [])

-- how many sites there are, and each
abbrev pub sites_text : List VlSite → List ℕ
sites_text sites = joined (codes "    number of sites -> " ∷ decimal (length sites) ∷ line_end ∷ flat_map site_text sites ∷ [])

abbrev pub lock_mark : ℕ → List ℕ
lock_mark operation = if operation == 0 then [] else codes "    Volume is currently LOCKED" ++ line_end

-- an entry as it is listed
unfoldable pub entry_text : VlEntry → List ℕ
entry_text e = joined (
    joined (e.name ∷ line_end ∷ [])
    ∷ ids_text e
    ∷ sites_text e.sites
    ∷ lock_mark e.lock_op
    ∷ line_end ∷ [])
