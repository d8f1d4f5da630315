-- The protection database apart from any layout: its entries by their ids, and the two maxima (ptserver). The order in which entries
-- lie anywhere is no part of it. Pairs are not part of it either.
use Rattle.std.specs.Prelude.{ℕ, ℤ, pos, negsuc, ◌≡◌, ◌≢◌, ◌+◌, ◌==◌, ◌≤ℤ◌, ◌⊎◌, Bool, IsTrue, ◌&&◌, not, List, length, drop, map, Option, Some, None, IsSome, IsSomeAnd, nat_le, if◌then◌else◌, codes}
use Rattle.std.specs.List.{All, Contains, find, list_all, list_any}
use Rattle.std.specs.Ordering.{int_eq}
use Rattle.std.specs.Str.{bytes_eq}
use Rattle.prdb_layout.specs.Names.{is_name_byte, is_user_name}
use Rattle.prdb_layout.specs.State.{PrEntry, IsPrEntry, fixed_entries, front_of}

-- the entries by their ids, the greatest user id and the least group id that were given
pub record Registry : Type 0 where
  pub entry : ℤ → Option PrEntry
  pub max_user : ℤ
  pub max_group : ℤ

-- the registry at first
abbrev pub first_registry : Registry
first_registry = record { entry = λ id. find (λ e. int_eq e.id id) fixed_entries; max_user = pos 0; max_group = negsuc 204 }

-- ---- names

-- one byte or more of a name
abbrev pub is_text : List ℕ → Bool
is_text text = nat_le 1 (length text) && list_all is_name_byte text

-- what stands behind the first `:`
abbrev pub behind_colon : List ℕ → List ℕ
behind_colon name = drop (length (front_of name) + 1) name

-- a group's name is a text other than `system`, or two texts joined by a `:`; it has at most 63 bytes
unfoldable pub is_group_name : List ℕ → Bool
is_group_name name = nat_le (length name) 63 && is_text (front_of name)
    && (if list_any (λ b. b == 58) name then is_text (behind_colon name) else not (bytes_eq name (codes "system")))

-- the form that an id wants of a name: a user's where it is positive, a group's where it is negative
abbrev pub is_name_for : ℤ → List ℕ → Bool
is_name_for (pos n) name = is_user_name name
is_name_for (negsuc n) name = is_group_name name

-- ---- states

-- what an entry is by itself: its fields have a place, its id is one, and its name is of the form that the id wants
pub record IsRecord (e : PrEntry) : Type 0 where
  pub fields : IsPrEntry e
  pub name : IsTrue (is_name_for e.id e.name)

-- 0, or an entry's id
abbrev pub IsOwner : (ℤ → Option PrEntry) → ℤ → Type 0
IsOwner entry id = (id ≡ pos 0) ⊎ IsSome (entry id)

-- the id of a fixed entry
abbrev pub IsFixedId : ℤ → Type 0
IsFixedId id = Contains (map (λ e. e.id) fixed_entries) id

-- what an entry is among the others: its owner is none or an entry, and its creator a fixed entry
pub record IsAmong (entry : ℤ → Option PrEntry) (e : PrEntry) : Type 0 where
  pub owner : IsOwner entry e.owner
  pub creator : IsFixedId e.creator

-- The maxima are in range: a user's from 0 on, a group's from -2147483647 to -1.
pub record AreMaxima (user group : ℤ) : Type 0 where
  pub user_low : pos 0 ≤ℤ user
  pub user_high : user ≤ℤ pos 2147483647
  pub group_low : negsuc 2147483646 ≤ℤ group
  pub group_high : group ≤ℤ negsuc 0

-- A valid registry: each id has its own entry, names are distinct, the fixed entries are there under their ids and names, and the
-- maxima are in range. Between two calls on the records the name of a group may begin otherwise than its owner's.
pub record IsRegistry (r : Registry) : Type 0 where
  pub ids : (id : ℤ) (e : PrEntry) → r.entry id ≡ Some e → e.id ≡ id
  pub records : (id : ℤ) (e : PrEntry) → r.entry id ≡ Some e → IsRecord e
  pub among : (id : ℤ) (e : PrEntry) → r.entry id ≡ Some e → IsAmong r.entry e
  pub names : (a b : ℤ) (e f : PrEntry) → r.entry a ≡ Some e → r.entry b ≡ Some f → e.name ≡ f.name → a ≡ b
  pub fixed : All (λ f. IsSomeAnd (r.entry f.id) (λ e. e.name ≡ f.name)) fixed_entries
  pub maxima : AreMaxima r.max_user r.max_group

-- ---- what is found

-- the entry of this name, if one has it
abbrev pub IsNamed : Registry → List ℕ → Option PrEntry → Type 0
IsNamed r name None = (id : ℤ) (e : PrEntry) → r.entry id ≡ Some e → e.name ≢ name
IsNamed r name (Some e) = (r.entry e.id ≡ Some e) × (e.name ≡ name)

-- ---- changes

-- the same with this entry under its id
abbrev pub with_entry : PrEntry → Registry → Registry
with_entry e r = record r { entry = λ id. if int_eq id e.id then Some e else r.entry id }

-- the same without the entry of an id
abbrev pub without_entry : ℤ → Registry → Registry
without_entry gone r = record r { entry = λ id. if int_eq id gone then None else r.entry id }

abbrev pub with_maxima : (user group : ℤ) → Registry → Registry
with_maxima user group r = record r { max_user = user; max_group = group }

-- an entry may be added: its id and its name are new
pub record MayBeAdded (e : PrEntry) (r : Registry) : Type 0 where
  pub id : r.entry e.id ≡ None
  pub name : (id : ℤ) (f : PrEntry) → r.entry id ≡ Some f → f.name ≢ e.name
  pub among : IsAmong (with_entry e r).entry e

-- an entry may stand in place of the one of its id: no other one has its name, and a fixed entry keeps its own
pub record MayReplace (id : ℤ) (e : PrEntry) (r : Registry) : Type 0 where
  pub there : IsSome (r.entry id)
  pub same_id : e.id ≡ id
  pub name : (other : ℤ) (f : PrEntry) → r.entry other ≡ Some f → f.name ≡ e.name → other ≡ id
  pub fixed : All (λ f. f.id ≡ id → e.name ≡ f.name) fixed_entries
  pub among : IsAmong (with_entry e r).entry e

-- the entry of an id may be removed: it is not fixed, and owns nothing
pub record MayBeRemoved (id : ℤ) (r : Registry) : Type 0 where
  pub there : IsSome (r.entry id)
  pub not_fixed : ¬ IsFixedId id
  pub owns_nothing : (other : ℤ) (f : PrEntry) → r.entry other ≡ Some f → f.owner ≢ id
