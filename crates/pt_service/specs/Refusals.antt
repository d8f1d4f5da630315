-- The numbers of the refusals (ptserver's names, PR..; the numbers are own).
use Rattle.std.specs.Prelude.{ℕ}
use Rattle.prdb_layout.specs.Meaning as user

-- an entry has the name
abbrev pub name_exists : ℕ
name_exists = user.name_exists

-- another entry has the id, or the pair is there
abbrev pub id_exists : ℕ
id_exists = 267265

-- no id is left
abbrev pub no_ids : ℕ
no_ids = user.no_ids

-- there is no such entry, or no such pair
abbrev pub no_entry : ℕ
no_entry = 267268

-- the entry may not be changed so
abbrev pub not_permitted : ℕ
not_permitted = 267269

-- a group is asked for, and this is none
abbrev pub not_group : ℕ
not_group = 267270

-- a user is asked for, and this is none
abbrev pub not_user : ℕ
not_user = 267271

-- no entry may have the name
abbrev pub bad_name : ℕ
bad_name = user.bad_name

-- a value that no entry has
abbrev pub bad_argument : ℕ
bad_argument = 267273
