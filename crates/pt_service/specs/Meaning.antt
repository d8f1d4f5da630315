-- What the calls mean (ptserver): what is decided of a call in a state, and by it the reply and the state after.
use Rattle.std.specs.Prelude.{ℕ, ℤ, pos, negsuc, ◌+◌, ◌-◌, ◌/◌, ◌%◌, ◌==◌, ◌&&◌, ◌||◌, Bool, true, false, not, is_some, is_none, unsigned_abs, List, take, map, filter, Option, Some, None, Result, Ok, Err, option_map, bit_and, nat_lt, nat_le, int_lt, if◌then◌else◌}
use Rattle.std.specs.Fmt.{signed_decimal}
use Rattle.std.specs.List.{find, list_all, range_with_len}
use Rattle.std.specs.Ordering.{int_eq}
use Rattle.std.specs.Str.{bytes_eq}
use Rattle.db_image.specs.declared.services.CallReply.{CallReply}
use Rattle.db_image.specs.declared.services.CallReply.TheVariants as reply
use Rattle.db_image.specs.Meaning.{Meaning}
use Rattle.prdb_layout.specs.Names.{lowered}
use Rattle.prdb_layout.specs.Registry.{Registry, with_entry, with_maxima}
use Rattle.prdb_layout.specs.State.{PrEntry, administrators, anonymous, front_of, group_flags, user_flags}
use Rattle.pt_calls.specs.declared.answers.PtAnswer.{PtAnswer}
use Rattle.pt_calls.specs.declared.answers.PtAnswer.TheVariants as answer
use Rattle.pt_calls.specs.declared.answers.PtEntry.{PtEntry}
use Rattle.pt_calls.specs.declared.calls.PtCall.{PtCall}
use Rattle.pt_calls.specs.declared.calls.PtCall.TheVariants as call
use Rattle.pt_calls.specs.Answers.{answer_spelling}
use Rattle.pt_calls.specs.Meaning.{id_named, id_or_anonymous}
use Rattle.pt_calls.specs.Reading.{call_of}
use Rattle.pt_service.specs.Names.{has_colon, is_name_of, system}
use Rattle.pt_service.specs.Refusals as rule
use Rattle.pt_service.specs.State.{State, elements, entries, first_state, ids, is_group, is_id, pair_count}
use Rattle.pt_service.specs.Turning.{given_or, is_fixed, new_name, turn_fault, with_turned}

-- ---- verdicts

-- what a call changes
pub data Change : Type 0 where
  -- the greatest user id and the least group id that were given are others
  Maxima : (user group : ℤ) → Change
  -- an entry comes in, and these are the maxima then
  Enter : PrEntry → (user group : ℤ) → Change
  -- an entry has other fields, and keeps its id and its name
  Refit : PrEntry → Change
  Leave : (id : ℤ) → Change
  -- an entry gets this name, this owner and this id; other names, owners and pairs follow it, and these are the maxima then
  Turn : PrEntry → (name : List ℕ) → (owner id : ℤ) → (user group : ℤ) → Change
  -- a user comes into a group, or goes out of it
  Join : (user group : ℤ) → Change
  Part : (user group : ℤ) → Change

-- what is decided of a call
pub data Verdict : Type 0 where
  -- the bytes are no call
  NoCall : Verdict
  Refuses : (rule : ℕ) → Verdict
  Answers : PtAnswer → Verdict
  -- the answer, and what is changed
  Makes : PtAnswer → Change → Verdict

-- of the entry of an id, if there is one
abbrev pub of_entry : Option PrEntry → (PrEntry → Verdict) → Verdict
of_entry None goes = Refuses rule.no_entry
of_entry (Some e) goes = goes e

abbrev pub unless : Option ℕ → Verdict → Verdict
unless None goes = goes
unless (Some fault) goes = Refuses fault

-- ---- looks

-- the name of an entry, and for an id that is no entry's its digits
abbrev pub name_or_digits : ℤ → Option PrEntry → List ℕ
name_or_digits id None = signed_decimal id
name_or_digits id (Some e) = e.name

abbrev pub name_of : Registry → ℤ → List ℕ
name_of r id = name_or_digits id (r.entry id)

-- an entry as an answer has it, with the number of its pairs
abbrev pub told : (count : ℕ) → PrEntry → PtEntry
told count e = record {
  flags = e.flags;
  id = e.id;
  owner = e.owner;
  creator = e.creator;
  quota = e.quota;
  count = count;
  name = e.name;
}

abbrev pub told_of : State → PrEntry → PtEntry
told_of s e = told (pair_count s e.id) e

-- 1 users, 2 groups, 3 both
abbrev pub is_of_kinds : (kinds : ℕ) → PrEntry → Bool
is_of_kinds kinds e = not (bit_and kinds (if is_group e.id then 2 else 1) == 0)

abbrev pub is_listed : (kinds : ℕ) → (after : ℤ) → PrEntry → Bool
is_listed kinds after e = int_lt after e.id && is_of_kinds kinds e

abbrev pub are_kinds : ℕ → Bool
are_kinds kinds = kinds == 1 || kinds == 2 || kinds == 3

abbrev pub page : State → (kinds : ℕ) → (after : ℤ) → Verdict
page s kinds after =
    if are_kinds kinds then Answers (answer.Entries (map (told_of s) (take 100 (filter (is_listed kinds after) (entries s.registry)))))
    else Refuses rule.bad_argument

-- a group with this owner; 0 is none
abbrev pub is_owned_by : ℤ → PrEntry → Bool
is_owned_by id e = is_group e.id && int_eq e.owner id

unfoldable pub owned_by : Registry → ℤ → List ℤ
owned_by r id = map (λ e. e.id) (filter (is_owned_by id) (entries r))

abbrev pub owned : Registry → ℤ → Verdict
owned r id = if not (int_eq id (pos 0)) && is_none (r.entry id) then Refuses rule.no_entry else Answers (answer.Ids (owned_by r id))

-- the ids for which an entry counts: its own, and for a user its groups, `system:anyuser`, and `system:authuser` where it is not `anonymous`
abbrev pub counts_for : State → ℤ → ℤ → Bool
counts_for s (pos n) id =
    int_eq id (pos n) || s.is_in (pos n) id || int_eq id (negsuc 100) || int_eq id (negsuc 101) && not (int_eq (pos n) anonymous)
counts_for s (negsuc n) id = int_eq id (negsuc n)

-- of a pair as a call names it: both are there, the second a group and the first a user
abbrev pub of_pair : Registry → (user group : ℤ) → Verdict → Verdict
of_pair r user group goes =
    if is_none (r.entry user) || is_none (r.entry group) then Refuses rule.no_entry
    else if not (is_group group) then Refuses rule.not_group
    else if is_group user then Refuses rule.not_user
    else goes

-- ---- maxima and fields

-- a maximum of groups is one of their ids, a maximum of users is at least 0
abbrev pub is_maximum : (group : Bool) → ℤ → Bool
is_maximum group id = if group then is_id true id else not (is_group id)

-- the maxima with another one of users or of groups
abbrev pub maxima_with : Registry → (group : Bool) → ℤ → Change
maxima_with r group id = if group then Maxima r.max_user id else Maxima id r.max_group

abbrev pub maximum_set : Registry → ℤ → (group : Bool) → Verdict
maximum_set r id group = if is_maximum group id then Makes answer.Done (maxima_with r group id) else Refuses rule.bad_argument

-- five places of four bits: who may see the status (1, 2), the owned groups (0, 2), the members (0, 1, 2), who may add (0, 1, 2) and remove (0, 1)
abbrev pub are_flags : ℕ → Bool
are_flags flags =
    let status = flags / 65536 in
    let owned = flags / 4096 % 16 in
    (status == 1 || status == 2) && (owned == 0 || owned == 2) && nat_le (flags / 256 % 16) 2 && nat_le (flags / 16 % 16) 2
    && nat_le (flags % 16) 1

-- a mask names the flags by 1, the quota by 2
abbrev pub names_flags : ℕ → Bool
names_flags mask = not (bit_and mask 1 == 0)

abbrev pub names_quota : ℕ → Bool
names_quota mask = not (bit_and mask 2 == 0)

abbrev pub are_bad_fields : (mask flags : ℕ) → (quota : ℤ) → Bool
are_bad_fields mask flags quota =
    nat_lt 3 mask || names_flags mask && not (are_flags flags) || names_quota mask && int_lt quota (pos 0)

abbrev pub with_fields : (mask flags : ℕ) → (quota : ℤ) → PrEntry → PrEntry
with_fields mask flags quota e = record e {
  flags = if names_flags mask then flags else e.flags;
  quota = if names_quota mask then quota else e.quota;
}

abbrev pub fields_set : (mask flags : ℕ) → (quota : ℤ) → PrEntry → Verdict
fields_set mask flags quota e =
    if are_bad_fields mask flags quota then Refuses rule.bad_argument
    else Makes answer.Done (Refit (with_fields mask flags quota e))

-- ---- new entries

-- the owner of a group by the text before the `:` of its name, where none is given
abbrev pub owner_named : Option ℤ → Result ℤ ℕ
owner_named None = Err rule.bad_name
owner_named (Some id) = Ok id

abbrev pub owner_by_front : Registry → List ℕ → Result ℤ ℕ
owner_by_front r front = if bytes_eq front system then Ok administrators else owner_named (id_named r front)

-- the owner that is given, if it is an entry; a name with a `:` begins like its name
abbrev pub given_owner : (name : List ℕ) → (given : ℤ) → Option PrEntry → Result ℤ ℕ
given_owner name given None = Err rule.no_entry
given_owner name given (Some o) = if has_colon name && not (bytes_eq (front_of name) (front_of o.name)) then Err rule.bad_name else Ok given

-- the owner of a new entry; 0 stands for none given
abbrev pub owner_of : Registry → (name : List ℕ) → (given : ℤ) → Result ℤ ℕ
owner_of r name given =
    if not (int_eq given (pos 0)) then given_owner name given (r.entry given)
    else if has_colon name then owner_by_front r (front_of name)
    else Ok administrators

abbrev pub unless_taken : (taken : Bool) → Result ℤ ℕ → Result ℤ ℕ
unless_taken taken (Err fault) = Err fault
unless_taken taken (Ok owner) = if taken then Err rule.name_exists else Ok owner

-- the owner of a new entry of this name, in lower case, or the rule of the first reason why there is to be none
unfoldable pub owner_for : Registry → (group : Bool) → (name : List ℕ) → (given : ℤ) → Result ℤ ℕ
owner_for r group name given =
    if is_name_of group name then unless_taken (is_some (id_named r name)) (owner_of r name given) else Err rule.bad_name

-- an entry as a call makes it for who is not signed in
abbrev pub made : (group : Bool) → (name : List ℕ) → (id owner : ℤ) → PrEntry
made group name id owner = record {
  name = name;
  flags = if group then group_flags else user_flags;
  id = id;
  owner = owner;
  creator = anonymous;
  quota = if group then pos 0 else pos 20;
}

abbrev pub maximum : Registry → (group : Bool) → ℤ
maximum r group = if group then r.max_group else r.max_user

-- the ids of users or of groups behind so many of them, away from 0
abbrev pub id_behind : (group : Bool) → ℕ → ℤ
id_behind group n = if group then negsuc n else pos (n + 1)

unfoldable pub ids_behind : (group : Bool) → (passed : ℕ) → List ℤ
ids_behind group passed = map (id_behind group) (range_with_len passed (2147483647 - passed))

-- the first unused one of them
unfoldable pub first_unused : Registry → (group : Bool) → (passed : ℕ) → Option ℤ
first_unused r group passed = find (λ id. is_none (r.entry id)) (ids_behind group passed)

-- the id that a new entry gets, behind the maximum
abbrev pub next_id : Registry → (group : Bool) → Option ℤ
next_id r group = first_unused r group (unsigned_abs (maximum r group))

-- the maxima with an id that comes in: it becomes the one that it is past
abbrev pub raised : (user group : ℤ) → (id : ℤ) → ℤ × ℤ
raised user group id =
    if is_group id then (user, if int_lt id group then id else group) else (if int_lt user id then id else user, group)

abbrev pub enters : Registry → PrEntry → Change
enters r e = let maxima = raised r.max_user r.max_group e.id in Enter e maxima.0 maxima.1

-- newentry, once its name and its owner are good
abbrev pub with_next : Registry → (group : Bool) → (name : List ℕ) → (owner : ℤ) → Option ℤ → Verdict
with_next r group name owner None = Refuses rule.no_ids
with_next r group name owner (Some id) = Makes (answer.Id id) (enters r (made group name id owner))

-- inewentry, the same
abbrev pub with_given : Registry → (name : List ℕ) → (id owner : ℤ) → (taken : Bool) → Verdict
with_given r name id owner taken = if taken then Refuses rule.id_exists else Makes answer.Done (enters r (made (is_group id) name id owner))

abbrev pub of_owner : Result ℤ ℕ → (ℤ → Verdict) → Verdict
of_owner (Err fault) goes = Refuses fault
of_owner (Ok owner) goes = goes owner

abbrev pub entry_made : Registry → (group : Bool) → (name : List ℕ) → (owner : ℤ) → Verdict
entry_made r group name owner = of_owner (owner_for r group name owner) (λ o. with_next r group name o (next_id r group))

-- the kind is 0 for a user, 2 for a group
abbrev pub new_entry : Registry → (name : List ℕ) → (kind : ℕ) → (owner : ℤ) → Verdict
new_entry r name kind owner = if kind == 0 || kind == 2 then entry_made r (kind == 2) name owner else Refuses rule.bad_argument

abbrev pub new_entry_of_id : Registry → (name : List ℕ) → (id owner : ℤ) → Verdict
new_entry_of_id r name id owner =
    if is_id (is_group id) id then of_owner (owner_for r (is_group id) name owner) (λ o. with_given r name id o (is_some (r.entry id)))
    else Refuses rule.bad_argument

-- ---- entries that leave or turn

abbrev pub leaves : PrEntry → Verdict
leaves e = if is_fixed e.id then Refuses rule.not_permitted else Makes answer.Done (Leave e.id)

-- a new id that is given becomes the maximum that it is past; 0 is past none
abbrev pub turn_by : Registry → (name : List ℕ) → (owner new_id : ℤ) → PrEntry → Change
turn_by r name owner new_id e =
    let maxima = raised r.max_user r.max_group new_id in
    Turn e (new_name r e name owner) (given_or owner e.owner) (given_or new_id e.id) maxima.0 maxima.1

abbrev pub turns : Registry → (name : List ℕ) → (owner new_id : ℤ) → PrEntry → Verdict
turns r name owner new_id e = unless (turn_fault r e name owner new_id) (Makes answer.Done (turn_by r name owner new_id e))

-- ---- pairs

abbrev pub joins : State → (user group : ℤ) → Verdict
joins s user group =
    if int_eq group (negsuc 100) || int_eq group (negsuc 101) then Refuses rule.not_permitted
    else if s.is_in user group then Refuses rule.id_exists
    else Makes answer.Done (Join user group)

abbrev pub parts : State → (user group : ℤ) → Verdict
parts s user group = if s.is_in user group then Makes answer.Done (Part user group) else Refuses rule.no_entry

-- ---- what is changed

-- an entry that another one owned, which has left
abbrev pub disowned : (gone : ℤ) → PrEntry → PrEntry
disowned gone e = record e { owner = if int_eq e.owner gone then pos 0 else e.owner }

abbrev pub without : (gone : ℤ) → State → State
without gone s = record s {
  registry = record s.registry { entry = λ id. if int_eq id gone then None else option_map (disowned gone) (s.registry.entry id) };
  is_in = λ user group. not (int_eq user gone) && not (int_eq group gone) && s.is_in user group;
}

abbrev pub with_pair : (user group : ℤ) → (is_in : Bool) → State → State
with_pair user group is_in s = record s { is_in = λ u g. if int_eq u user && int_eq g group then is_in else s.is_in u g }

abbrev pub with_registry : Registry → State → State
with_registry r s = record s { registry = r }

abbrev pub state_after : Change → State → State
state_after (Maxima user group) s = with_registry (with_maxima user group s.registry) s
state_after (Enter e user group) s = with_registry (with_maxima user group (with_entry e s.registry)) s
state_after (Refit e) s = with_registry (with_entry e s.registry) s
state_after (Leave id) s = without id s
state_after (Turn e name owner id user group) s =
    let after = with_turned e name owner id s in
    with_registry (with_maxima user group after.registry) after
state_after (Join user group) s = with_pair user group true s
state_after (Part user group) s = with_pair user group false s

-- ---- one case a call

unfoldable pub verdict : State → Option PtCall → Verdict
verdict s None = NoCall
verdict s (Some (call.NewEntry name kind owner)) = new_entry s.registry (lowered name) kind owner
verdict s (Some (call.INewEntry name id owner)) = new_entry_of_id s.registry (lowered name) id owner
verdict s (Some (call.NameToId names)) = Answers (answer.Ids (map (id_or_anonymous s.registry) names))
verdict s (Some (call.IdToName given)) = Answers (answer.Names (map (name_of s.registry) given))
verdict s (Some (call.Delete id)) = of_entry (s.registry.entry id) leaves
verdict s (Some (call.AddToGroup user group)) = of_pair s.registry user group (joins s user group)
verdict s (Some (call.RemoveFromGroup user group)) = of_pair s.registry user group (parts s user group)
verdict s (Some (call.GetCps id)) = of_entry (s.registry.entry id) (λ e. Answers (answer.Ids (filter (counts_for s id) ids)))
verdict s (Some call.ListMax) = Answers (answer.Maxima s.registry.max_user s.registry.max_group)
verdict s (Some (call.SetMax id group)) = maximum_set s.registry id group
verdict s (Some (call.ListEntry id)) = of_entry (s.registry.entry id) (λ e. Answers (answer.Entry (told_of s e)))
verdict s (Some (call.ListEntries kinds after)) = page s kinds after
verdict s (Some (call.ChangeEntry id name owner new_id)) = of_entry (s.registry.entry id) (turns s.registry (lowered name) owner new_id)
verdict s (Some (call.SetFields id mask flags quota)) = of_entry (s.registry.entry id) (fields_set mask flags quota)
verdict s (Some (call.ListElements id)) = of_entry (s.registry.entry id) (λ e. Answers (answer.Ids (elements s id)))
verdict s (Some (call.IsMemberOf user group)) = of_pair s.registry user group (Answers (answer.Truth (s.is_in user group)))
verdict s (Some (call.ListOwned id)) = owned s.registry id

abbrev pub reply_by : Verdict → CallReply
reply_by NoCall = reply.Malformed
reply_by (Refuses rule) = reply.Rule rule
reply_by (Answers a) = reply.Done (answer_spelling a)
reply_by (Makes a change) = reply.Done (answer_spelling a)

-- a refusal leaves the state
abbrev pub state_by : Verdict → State → State
state_by (Makes a change) s = state_after change s
state_by _ s = s

-- the call that bytes spell; bytes are below 256
abbrev pub asked : List ℕ → Option PtCall
asked bytes = if list_all (λ b. nat_lt b 256) bytes then call_of bytes else None

-- the moment of a call changes nothing
abbrev pub protection_meaning : Meaning State
protection_meaning = record {
  first = first_state;
  call = λ s now bytes. let v = verdict s (asked bytes) in record { reply = reply_by v; state = state_by v s };
}
