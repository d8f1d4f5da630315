-- An entry that gets another name, owner or id, and what follows it (ptserver): names that begin with its name, owners, creators, pairs.
use Rattle.std.specs.Prelude.{ℕ, ℤ, pos, ◌==◌, ◌&&◌, Bool, false, not, is_none, is_some, List, length, Option, Some, None, option_map, option_and_then, nat_lt, if◌then◌else◌}
use Rattle.std.specs.List.{list_any}
use Rattle.std.specs.Ordering.{int_eq}
use Rattle.std.specs.Str.{bytes_eq}
use Rattle.prdb_layout.specs.Registry.{Registry, is_name_for}
use Rattle.prdb_layout.specs.State.{PrEntry, fixed_entries, front_of}
use Rattle.prdb_lists.specs.Moves.{before}
use Rattle.pt_service.specs.Names.{has_colon, with_front}
use Rattle.pt_service.specs.Refusals as rule
use Rattle.pt_service.specs.State.{State, entries, is_group, is_id}

abbrev pub is_fixed : ℤ → Bool
is_fixed id = list_any (λ e. int_eq e.id id) fixed_entries

-- what is given, 0 for nothing, or what was there
abbrev pub given_or : (given old : ℤ) → ℤ
given_or given old = if int_eq given (pos 0) then old else given

-- ---- names

abbrev pub front_of_entry : Option PrEntry → List ℕ → List ℕ
front_of_entry None otherwise = otherwise
front_of_entry (Some e) otherwise = front_of e.name

-- the front that a name has under an owner; its own where there is no owner
abbrev pub front_under : Registry → (owner : ℤ) → List ℕ → List ℕ
front_under r owner name = front_of_entry (r.entry owner) (front_of name)

-- the name that an entry gets: the given one, or its own, which turns to the front of another owner
abbrev pub new_name : Registry → PrEntry → (name : List ℕ) → (owner : ℤ) → List ℕ
new_name r e name owner =
    if not (length name == 0) then name
    else if has_colon e.name && not (int_eq owner (pos 0)) && not (int_eq owner e.owner) then with_front (front_under r owner e.name) e.name
    else e.name

-- the name of an entry once `e` has a new one: a group's that begins with the whole name of `e` and a `:` begins with the new front
abbrev pub name_after : (e : PrEntry) → (new : List ℕ) → PrEntry → List ℕ
name_after e new f =
    if int_eq f.id e.id then new
    else if has_colon f.name && bytes_eq (front_of f.name) e.name then with_front (front_of new) f.name
    else f.name

-- ---- why it is refused

-- a group of another name's front: under its owner, as the name is given
abbrev pub is_misnamed : Registry → (id owner : ℤ) → (name : List ℕ) → Bool
is_misnamed r id owner name =
    is_group id && has_colon name && not (int_eq owner (pos 0)) && not (bytes_eq (front_of name) (front_under r owner name))

-- an entry owns another group
abbrev pub owns_another : Registry → ℤ → Bool
owns_another r id = list_any (λ f. is_group f.id && int_eq f.owner id && not (int_eq f.id id)) (entries r)

-- the front of a group's name with a `:` turns, although groups are named after it
abbrev pub turns_its_groups : Registry → PrEntry → (new : List ℕ) → Bool
turns_its_groups r e new = has_colon e.name && not (bytes_eq (front_of new) (front_of e.name)) && owns_another r e.id

abbrev pub has_long_name : Registry → PrEntry → (new : List ℕ) → Bool
has_long_name r e new = list_any (λ f. nat_lt 63 (length (name_after e new f))) (entries r)

abbrev pub has_equal_names : Registry → PrEntry → (new : List ℕ) → Bool
has_equal_names r e new =
    list_any (λ f. list_any (λ g. not (int_eq f.id g.id) && bytes_eq (name_after e new f) (name_after e new g)) (entries r)) (entries r)

-- the rule of the first reason, if there is one; the name is in lower case
abbrev pub turn_fault : Registry → PrEntry → (name : List ℕ) → (owner new_id : ℤ) → Option ℕ
turn_fault r e name owner new_id =
    let new = new_name r e name owner in
    let id = given_or new_id e.id in
    if is_fixed e.id then Some rule.not_permitted
    else if not (length name == 0) && not (is_name_for e.id name) then Some rule.bad_name
    else if not (int_eq owner (pos 0)) && is_none (r.entry owner) then Some rule.no_entry
    else if not (is_id (is_group e.id) id) then Some rule.bad_argument
    else if is_misnamed r e.id (given_or owner e.owner) name then Some rule.bad_name
    else if turns_its_groups r e new then Some rule.not_permitted
    else if has_long_name r e new then Some rule.bad_name
    else if has_equal_names r e new then Some rule.name_exists
    else if not (int_eq id e.id) && is_some (r.entry id) then Some rule.id_exists
    else None

-- ---- the state after it

-- an id where one id took the place of another
abbrev pub moved : (old new : ℤ) → ℤ → ℤ
moved old new id = if int_eq id old then new else id

abbrev pub turned : PrEntry → (name : List ℕ) → (owner id : ℤ) → PrEntry → PrEntry
turned e name owner id f = record f {
  name = name_after e name f;
  id = moved e.id id f.id;
  owner = moved e.id id (if int_eq f.id e.id then owner else f.owner);
  creator = moved e.id id f.creator;
}

abbrev pub both_in : State → Option ℤ → Option ℤ → Bool
both_in s None group = false
both_in s (Some user) None = false
both_in s (Some user) (Some group) = s.is_in user group

-- the entry `e` has this name, this owner and this id
abbrev pub with_turned : PrEntry → (name : List ℕ) → (owner id : ℤ) → State → State
with_turned e name owner id s = record s {
  registry = record s.registry { entry = λ z. option_map (turned e name owner id) (option_and_then s.registry.entry (before e.id id z)) };
  is_in = λ user group. both_in s (before e.id id user) (before e.id id group);
}
