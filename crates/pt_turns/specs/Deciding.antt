-- What is decided of an entry that is to get another name, owner or id, once the entry of its owner is found.
use Rattle.std.specs.Prelude.{ℕ, ℤ, pos, ◌≡◌, ◌==◌, ◌&&◌, ◌||◌, not, is_none, Bool, List, length, nat_lt, Option, Some, None, Result, Ok}
use Rattle.std.specs.Prelude.{Err, if◌then◌else◌}
use Rattle.std.specs.List.{list_any}
use Rattle.std.specs.Ordering.{int_eq}
use Rattle.std.specs.Str.{bytes_eq}
use Rattle.prdb_layout.specs.Registry.{Registry}
use Rattle.prdb_layout.specs.State.{PrEntry, front_of}
use Rattle.pt_service.specs.Names.{has_colon, is_name_of, with_front}
use Rattle.pt_service.specs.Refusals as rule
use Rattle.pt_service.specs.State.{entries, is_group, is_id}
use Rattle.pt_service.specs.Turning.{front_of_entry, given_or, has_equal_names, has_long_name, is_fixed, new_name, turn_fault}
use Rattle.pt_service.specs.Turning.{turns_its_groups}
use Rattle.pt_turns.specs.declared.deciding.Turn.{Turn}

-- the name that an entry gets
abbrev pub name_by : PrEntry → (name : List ℕ) → (owner : ℤ) → (found : Option PrEntry) → List ℕ
name_by e name owner found =
    if not (length name == 0) then name
    else if has_colon e.name && not (int_eq owner (pos 0))
    && not (int_eq owner e.owner) then with_front (front_of_entry found (front_of e.name)) e.name
    else e.name

-- the rule by which what is given does not fit an entry by itself
abbrev pub given_fault : PrEntry → (name : List ℕ) → (owner new_id : ℤ) → (found : Option PrEntry) → Option ℕ
given_fault e name owner new_id found =
    if is_fixed e.id then Some rule.not_permitted
    else if not (length name == 0) && not (is_name_of (is_group e.id) name) then Some rule.bad_name
    else if not (int_eq owner (pos 0)) && is_none found then Some rule.no_entry
    else if not (is_id (is_group e.id) (given_or new_id e.id)) then Some rule.bad_argument
    else None

-- a group's given name begins otherwise than that of its owner
abbrev pub misnamed_by : PrEntry → (name : List ℕ) → (owner : ℤ) → (found : Option PrEntry) → Bool
misnamed_by e name owner found =
    is_group e.id && has_colon name && not (int_eq (given_or owner e.owner) (pos 0))
    && not (bytes_eq (front_of name) (front_of_entry found (front_of name)))

-- what is decided
abbrev pub IsDecided : Registry → PrEntry → (name : List ℕ) → (owner new_id : ℤ) → Result Turn ℕ → Type 0
IsDecided r e name owner new_id (Err rule) = turn_fault r e name owner new_id ≡ Some rule
IsDecided r e name owner new_id (Ok t) = (turn_fault r e name owner new_id ≡ None) × (t.name.items ≡ new_name r e name owner)
    × (t.owner ≡ given_or owner e.owner) × (t.id ≡ given_or new_id e.id)

-- ---- names that turn

-- an entry has this name
abbrev pub has_name : Registry → (name : List ℕ) → Bool
has_name r name = list_any (λ g. bytes_eq g.name name) (entries r)

-- the name of a group that follows a new one is too long
abbrev pub is_long : (new : List ℕ) → PrEntry → Bool
is_long new g = nat_lt 63 (length (with_front (front_of new) g.name))

-- a group of this name that follows a new one has that one afterwards, or another one that an entry has
abbrev pub shares_by : Registry → (new name after : List ℕ) → Bool
shares_by r new name after = bytes_eq after new || (not (bytes_eq after name) && has_name r after)

abbrev pub shares_one : Registry → (new name : List ℕ) → Bool
shares_one r new name = shares_by r new name (with_front (front_of new) name)

-- the rule by which names do not turn so
abbrev pub name_fault : Registry → PrEntry → (new : List ℕ) → Option ℕ
name_fault r e new =
    if turns_its_groups r e new then Some rule.not_permitted
    else if has_long_name r e new then Some rule.bad_name
    else if has_equal_names r e new then Some rule.name_exists
    else None
