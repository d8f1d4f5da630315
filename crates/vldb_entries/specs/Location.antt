-- The location database apart from any layout (vlserver): its entries by their read-write ids, 255 places of server addresses, and the
-- next volume id. The order in which entries lie anywhere is no part of it.
use Rattle.std.specs.Prelude.{ℕ, ◌≡◌, ◌≢◌, ◌<◌, ◌≤◌, ◌^◌, ◌==◌, ◌&&◌, ◌||◌, Bool, true, false, not, List, [], ◌∷◌, length, map, replicate, slice_index, slice_set, Option, Some, None, IsSome, option_and_then, bit_and, nat_le, if◌then◌else◌}
use Rattle.std.specs.List.{All, AllByRecursion, Contains, list_all, list_any, position, position_or_len}
use Rattle.std.specs.Option.{option_map}
use Rattle.vldb_entries.specs.declared.entries.VlEntry.{VlEntry}
use Rattle.vldb_entries.specs.declared.entries.VlSite.{VlSite}

-- the entries by their read-write ids, the addresses of the places (0 of a free one), and the next volume id
pub record Location : Type 0 where
  pub entry : ℕ → Option VlEntry
  pub addresses : List ℕ
  pub next_volume : ℕ

-- the database at first
abbrev pub first_location : Location
first_location = record { entry = λ rw. None; addresses = replicate 255 0; next_volume = 536870912 }

-- ---- entries

-- a letter, a digit, `.`, `-` or `_`
abbrev pub is_name_byte : ℕ → Bool
is_name_byte b =
    (nat_le 97 b && nat_le b 122) || (nat_le 65 b && nat_le b 90) || (nat_le 48 b && nat_le b 57) || b == 46 || b == 45 || b == 95

-- a name has 1 to 64 such bytes
unfoldable pub is_name : List ℕ → Bool
is_name name = nat_le 1 (length name) && nat_le (length name) 64 && list_all is_name_byte name

-- two sites are on one partition of one server, and a kind of the volume (flags 2, 4, 8) lies on both
abbrev pub repeats : VlSite → VlSite → Bool
repeats a b = a.host == b.host && a.partition == b.partition && not (bit_and (bit_and a.flags b.flags) 14 == 0)

-- so do two of these sites
abbrev pub has_repeat : List VlSite → Bool
has_repeat [] = false
has_repeat (site ∷ sites) = list_any (repeats site) sites || has_repeat sites

-- one of the three ids of an entry; 0 is no entry's
abbrev pub has_id : ℕ → VlEntry → Bool
has_id id e = not (id == 0) && (e.rw == id || e.ro == id || e.backup == id)

-- two of three ids other than 0 are equal
abbrev pub has_equal_ids : (rw ro backup : ℕ) → Bool
has_equal_ids rw ro backup =
    (not (rw == 0) && (rw == ro || rw == backup)) || (not (ro == 0) && ro == backup)

pub record IsSite (site : VlSite) : Type 0 where
  pub low : 0 < site.host
  pub host : site.host < 2 ^ 32
  pub partition : site.partition ≤ 255
  pub flags : site.flags ≤ 255

-- what an entry is by itself
pub record IsRecord (e : VlEntry) : Type 0 where
  pub name : is_name e.name ≡ true
  pub flags : e.flags < 2 ^ 32
  pub rw_low : 0 < e.rw
  pub rw : e.rw ≤ 2147483647
  pub ro : e.ro ≤ 2147483647
  pub backup : e.backup ≤ 2147483647
  pub clone : e.clone_id ≤ 2147483647
  pub ids : has_equal_ids e.rw e.ro e.backup ≡ false
  pub count : length e.sites ≤ 13
  pub sites : All IsSite e.sites
  pub repeats : has_repeat e.sites ≡ false
  pub lock_op : e.lock_op < 2 ^ 32
  pub lock_moment : e.lock_moment < 2 ^ 32

-- ---- states

-- A valid state: each read-write id has its own entry, names are distinct, no id other than 0 is two entries', each site's server has a
-- place, and no address has two.
pub record IsLocation (s : Location) : Type 0 where
  pub ids : (rw : ℕ) (e : VlEntry) → s.entry rw ≡ Some e → e.rw ≡ rw
  pub records : (rw : ℕ) (e : VlEntry) → s.entry rw ≡ Some e → IsRecord e
  pub names : (a b : ℕ) (e f : VlEntry) → s.entry a ≡ Some e → s.entry b ≡ Some f → e.name ≡ f.name → a ≡ b
  pub apart : (a b id : ℕ) (e f : VlEntry) → s.entry a ≡ Some e → s.entry b ≡ Some f → has_id id e ≡ true → has_id id f ≡ true → a ≡ b
  pub hosts : (rw : ℕ) (e : VlEntry) → s.entry rw ≡ Some e → All (λ site. Contains s.addresses site.host) e.sites
  pub places : length s.addresses ≡ 255
  pub words : AllByRecursion (λ host. host < 2 ^ 32) s.addresses
  pub once : (i j : ℕ) → i < 255 → j < 255 → slice_index s.addresses i ≢ 0 → slice_index s.addresses i ≡ slice_index s.addresses j → i ≡ j
  pub next : s.next_volume < 2 ^ 32

-- ---- what is found

-- the entry of this name, if one has it
abbrev pub IsNamed : Location → List ℕ → Option VlEntry → Type 0
IsNamed s name None = (rw : ℕ) (e : VlEntry) → s.entry rw ≡ Some e → e.name ≢ name
IsNamed s name (Some e) = (s.entry e.rw ≡ Some e) × (e.name ≡ name)

-- the entry of this id, if one has it
abbrev pub IsOfId : Location → (id : ℕ) → Option VlEntry → Type 0
IsOfId s id None = (rw : ℕ) (e : VlEntry) → s.entry rw ≡ Some e → has_id id e ≡ false
IsOfId s id (Some e) = (s.entry e.rw ≡ Some e) × (has_id id e ≡ true)

-- ---- places

-- the addresses with these servers' among them: a new one takes the lowest free place, if there is one
abbrev pub place_host : ℕ → List ℕ → Option (List ℕ)
place_host host addresses =
    if list_any (λ a. a == host) addresses then Some addresses
    else option_and_then (λ free. Some (slice_set addresses free host)) (position (λ a. a == 0) addresses)

unfoldable pub placed : List VlSite → List ℕ → Option (List ℕ)
placed [] addresses = Some addresses
placed (site ∷ sites) addresses = option_and_then (placed sites) (place_host site.host addresses)

-- ---- changes

-- the same with this entry under its read-write id
abbrev pub with_entry : VlEntry → Location → Location
with_entry e s = record s { entry = λ rw. if rw == e.rw then Some e else s.entry rw }

-- the same without the entry of a read-write id
abbrev pub without_entry : ℕ → Location → Location
without_entry gone s = record s { entry = λ rw. if rw == gone then None else s.entry rw }

abbrev pub with_addresses : List ℕ → Location → Location
with_addresses addresses s = record s { addresses = addresses }

abbrev pub with_next_volume : ℕ → Location → Location
with_next_volume id s = record s { next_volume = id }

-- An entry may come into the database in place of that of a read-write id, or of none (0): no other entry has its name or one of its
-- ids, and each of its servers has a place.
pub record MayEnter (own : ℕ) (e : VlEntry) (s : Location) : Type 0 where
  pub name : (rw : ℕ) (f : VlEntry) → s.entry rw ≡ Some f → rw ≢ own → f.name ≢ e.name
  pub ids : (rw id : ℕ) (f : VlEntry) → s.entry rw ≡ Some f → rw ≢ own → has_id id e ≡ true → has_id id f ≡ false
  pub hosts : All (λ site. Contains s.addresses site.host) e.sites

-- the same where there is such an entry
abbrev pub MayReplace : (own : ℕ) → VlEntry → Location → Type 0
MayReplace own e s = IsSome (s.entry own) × MayEnter own e s

-- the same with an entry in place of that of a read-write id
abbrev pub with_entered : (own : ℕ) → VlEntry → Location → Location
with_entered own e s = with_entry e (without_entry own s)

-- ---- other addresses of the places

-- the site of a server whose place has this address now
abbrev pub relocated_site : (old new : List ℕ) → VlSite → VlSite
relocated_site old new site = record site { host = slice_index new (position_or_len (λ a. a == site.host) old) }

abbrev pub relocated : (old new : List ℕ) → VlEntry → VlEntry
relocated old new e = record e { sites = map (relocated_site old new) e.sites }

-- the same with these addresses: each site is at the address of its place
abbrev pub with_places : List ℕ → Location → Location
with_places new s = record s { entry = λ rw. option_map (relocated s.addresses new) (s.entry rw); addresses = new }

-- such addresses may be the places': no address has two, and the place of each site has one
pub record MayBePlaces (new : List ℕ) (s : Location) : Type 0 where
  pub places : length new ≡ 255
  pub words : AllByRecursion (λ host. host < 2 ^ 32) new
  pub once : (i j : ℕ) → i < 255 → j < 255 → slice_index new i ≢ 0 → slice_index new i ≡ slice_index new j → i ≡ j
  pub used : (rw : ℕ) (e : VlEntry) → s.entry rw ≡ Some e
      → All (λ site. slice_index new (position_or_len (λ a. a == site.host) s.addresses) ≢ 0) e.sites

-- an entry that has a place in a block, as each one that is read of a block does
abbrev pub IsSmall : VlEntry → Type 0
IsSmall e = (length e.name ≤ 64) × (length e.sites ≤ 13)
