-- The tests of an entry that a database may hold.
use Rattle.std.specs.Prelude.{ℕ, ℤ, ◌≡◌, ◌&&◌, Bool, Some}
use Rattle.prdb_layout.specs.Registry.{Registry}
use Rattle.prdb_layout.specs.State.{PrEntry}
use Rattle.pt_service.specs.Names.{is_name_of}
use Rattle.pt_service.specs.State.{is_group, is_id}

-- its id is one, and its name has the form that the id wants
abbrev pub entry_fits : PrEntry → Bool
entry_fits e = is_id (is_group e.id) e.id && is_name_of (is_group e.id) e.name

-- an entry stands in place of one that differs from it in its flags and its quota at most
abbrev pub Refits : Registry → PrEntry → Type 0
Refits r e = (flags : ℕ) × (quota : ℤ) × (r.entry e.id ≡ Some (record e { flags = flags; quota = quota }))
