-- The entries whose names begin with that of another one.
use Rattle.std.specs.Prelude.{ℕ, ℤ, ◌&&◌, Bool, false, List, filter, Option, Some, None, option_to_list}
use Rattle.std.specs.Str.{bytes_eq}
use Rattle.prdb_layout.specs.Registry.{Registry}
use Rattle.prdb_layout.specs.State.{PrEntry, front_of}
use Rattle.pt_service.specs.Names.{has_colon}
use Rattle.pt_service.specs.State.{entries, ids}

-- a name begins with a whole name and a `:`
abbrev pub is_under : (whole name : List ℕ) → Bool
is_under whole name = has_colon name && bytes_eq (front_of name) whole

-- the entries whose names do, ascending by id
abbrev pub groups_under : Registry → (whole : List ℕ) → List PrEntry
groups_under r whole = filter (λ e. is_under whole e.name) (entries r)

-- their ids
abbrev pub is_one_under : (whole : List ℕ) → Option PrEntry → Bool
is_one_under whole None = false
is_one_under whole (Some e) = is_under whole e.name

unfoldable pub ids_under : Registry → (whole : List ℕ) → List ℤ
ids_under r whole = filter (λ id. is_one_under whole (r.entry id)) ids

-- the entry of an id, or none
abbrev pub its_entry : Registry → ℤ → List PrEntry
its_entry r id = option_to_list (r.entry id)
