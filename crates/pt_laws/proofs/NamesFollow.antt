-- What is decided of a call keeps groups named after their owners, and at first they are named so.
use Rattle.std.proofs.Common.{◌≡◌, ℕ, ℤ, Bool, true, false, ◌||◌, cond, eqb, List, [], ◌∷◌, Option, Some, None, Ok, refl, sym, ap, ◌∙◌}
use Rattle.std.proofs.Common.{subst}
use Rattle.std.specs.Prelude.{is_some, unsigned_abs}
use Rattle.std.specs.List.{AllByRecursion, find}
use Rattle.std.specs.Ordering.{int_eq}
use Rattle.prdb_layout.specs.Names.{lowered}
use Rattle.prdb_layout.specs.Registry.{IsRegistry, first_registry}
use Rattle.prdb_layout.specs.State.{PrEntry, fixed_entries}
use Rattle.prdb_layout.proofs.Changed.{some_same}
use Rattle.pt_calls.specs.declared.answers.PtAnswer.{PtAnswer}
use Rattle.pt_calls.specs.declared.answers.PtAnswer.TheVariants as answer
use Rattle.pt_calls.specs.declared.calls.PtCall.{PtCall}
use Rattle.pt_calls.specs.declared.calls.PtCall.TheVariants as call
use Rattle.pt_service.specs.Meaning.{Answers, Join, Leave, Makes, NoCall, Part, Refit, Refuses, Verdict, are_bad_fields, enters, entry_made}
use Rattle.pt_service.specs.Meaning.{fields_set, is_maximum, joins, leaves, made, maxima_with, maximum, maximum_set, new_entry}
use Rattle.pt_service.specs.Meaning.{new_entry_of_id}
use Rattle.pt_service.specs.Meaning.{next_id, of_entry, of_owner, owner_for, parts, state_by, turn_by, turns, verdict, with_fields}
use Rattle.pt_service.specs.Meaning.{with_given, with_next}
use Rattle.pt_service.specs.NamedAfter.{IsNamedAfter, NamesFollowOwners}
use Rattle.pt_service.specs.Refusals as rule
use Rattle.pt_service.specs.State.{State, is_group, is_id}
use Rattle.pt_service.specs.Turning.{is_fixed, turn_fault}
use Rattle.pt_service.proofs.Entered.{unused_is}
use Rattle.pt_laws.proofs.Changing.{IsLook, by_test, of_both, reads_look}
use Rattle.pt_laws.proofs.NamesEntered.{owner_named_so}
use Rattle.pt_laws.proofs.NamesKept.{entered_follow, left_follow, refitted_follow}
use Rattle.pt_laws.proofs.NamesTurned.{turned_follow}
use Rattle.pt_laws.proofs.Possible.{either, of_good, of_one, unless_one}
use Rattle.pt_laws.proofs.SoundTurns.{passed}

-- names follow owners in the state after it, where they do before it
abbrev pub Follows : State → Verdict → Type 0
Follows s v = NamesFollowOwners s.registry → NamesFollowOwners (state_by v s).registry

look_follows : (s : State) (v : Verdict) → IsLook v → Follows s v
look_follows s NoCall is follow = follow
look_follows s (Refuses rule) is follow = follow
look_follows s (Answers a) is follow = follow
look_follows s (Makes a change) is follow = absurd is

read_follows : (s : State) (c : PtCall) → IsLook (verdict s (Some c)) → Follows s (verdict s (Some c))
read_follows s c is = look_follows s (verdict s (Some c)) is

-- ---- maxima and fields

maxima_follow : (s : State) (id : ℤ) (group : Bool) → Follows s (Makes answer.Done (maxima_with s.registry group id))
maxima_follow s id true follow = follow
maxima_follow s id false follow = follow

maximum_follows : (s : State) (id : ℤ) (group : Bool) → Follows s (maximum_set s.registry id group)
maximum_follows s id group =
    by_test (Follows s) (is_maximum group id) (Makes answer.Done (maxima_with s.registry group id)) (Refuses rule.bad_argument)
    (maxima_follow s id group) (λ follow. follow)

fields_follow : (s : State) (id : ℤ) (mask flags : ℕ) (quota : ℤ) → IsRegistry s.registry
    → Follows s (of_entry (s.registry.entry id) (fields_set mask flags quota))
fields_follow s id mask flags quota valid =
    of_one (Follows s) (s.registry.entry id) (fields_set mask flags quota) (λ rule follow. follow)
    (λ e at. let new = with_fields mask flags quota e in
    by_test (Follows s) (are_bad_fields mask flags quota) (Refuses rule.bad_argument) (Makes answer.Done (Refit new)) (λ follow. follow)
    (refitted_follow s.registry e new.flags new.quota (ap s.registry.entry (valid.ids id e at) ∙ at)))

-- ---- an entry comes

made_follows : (s : State) (group : Bool) (name : List ℕ) (given owner id : ℤ) (a : PtAnswer) → IsRegistry s.registry
    → owner_for s.registry group name given ≡ Ok owner → s.registry.entry id ≡ None
    → Follows s (Makes a (enters s.registry (made group name id owner)))
made_follows s group name given owner id a valid good unused follow =
    entered_follow s.registry (made group name id owner) unused
    (λ colon owned. owner_named_so s.registry group name given owner valid good colon) follow

next_follows : (s : State) (group : Bool) (name : List ℕ) (given owner : ℤ) (next : Option ℤ) → IsRegistry s.registry
    → owner_for s.registry group name given ≡ Ok owner
    → next_id s.registry group ≡ next → Follows s (with_next s.registry group name owner next)
next_follows s group name given owner None valid good is = λ follow. follow
next_follows s group name given owner (Some id) valid good is =
    made_follows s group name given owner id (answer.Id id) valid good
    (unused_is s.registry group (unsigned_abs (maximum s.registry group)) id (sym is))

new_follows : (s : State) (name : List ℕ) (kind : ℕ) (given : ℤ) → IsRegistry s.registry → Follows s (new_entry s.registry name kind given)
new_follows s name kind given valid =
    let group = eqb kind 2 in
    by_test (Follows s) (eqb kind 0 || eqb kind 2) (entry_made s.registry group name given) (Refuses rule.bad_argument)
    (of_good (Follows s) (owner_for s.registry group name given)
    (λ owner. with_next s.registry group name owner (next_id s.registry group)) (λ rule follow. follow)
    (λ owner good. next_follows s group name given owner (next_id s.registry group) valid good refl)) (λ follow. follow)

none_by : (o : Option PrEntry) → is_some o ≡ false → o ≡ None
none_by None is = refl
none_by (Some e) is = absurd cc

given_follows : (s : State) (name : List ℕ) (id given : ℤ) → IsRegistry s.registry → Follows s (new_entry_of_id s.registry name id given)
given_follows s name id given valid =
    let r = s.registry in
    let group = is_group id in
    by_test (Follows s) (is_id group id)
    (of_owner (owner_for r group name given) (λ owner. with_given r name id owner (is_some (r.entry id)))) (Refuses rule.bad_argument)
    (of_good (Follows s) (owner_for r group name given) (λ owner. with_given r name id owner (is_some (r.entry id)))
    (λ rule follow. follow)
    (λ owner good. either (Follows s) (is_some (r.entry id)) (Refuses rule.id_exists)
    (Makes answer.Done (enters r (made group name id owner))) (λ taken follow. follow)
    (λ free. made_follows s group name given owner id answer.Done valid good (none_by (r.entry id) free)))) (λ follow. follow)

-- ---- an entry leaves, or turns

leave_follows : (s : State) (id : ℤ) → Follows s (of_entry (s.registry.entry id) leaves)
leave_follows s id =
    of_one (Follows s) (s.registry.entry id) leaves (λ rule follow. follow)
    (λ e at. by_test (Follows s) (is_fixed e.id) (Refuses rule.not_permitted) (Makes answer.Done (Leave e.id)) (λ follow. follow)
    (left_follow e.id s.registry))

turn_follows : (s : State) (id : ℤ) (name : List ℕ) (owner new_id : ℤ) → IsRegistry s.registry
    → Follows s (of_entry (s.registry.entry id) (turns s.registry name owner new_id))
turn_follows s id name owner new_id valid =
    let r = s.registry in
    of_one (Follows s) (r.entry id) (turns r name owner new_id) (λ rule follow. follow)
    (λ e at. unless_one (Follows s) (turn_fault r e name owner new_id) (Makes answer.Done (turn_by r name owner new_id e))
    (λ rule follow. follow)
    (λ none follow. turned_follow r e name owner new_id valid follow (ap r.entry (valid.ids id e at) ∙ at)
    (passed r e name owner new_id none)))

-- ---- each call

call_follows : (s : State) (c : PtCall) → IsRegistry s.registry → Follows s (verdict s (Some c))
unfolding verdict
call_follows s (call.NewEntry name kind owner) valid = new_follows s (lowered name) kind owner valid
call_follows s (call.INewEntry name id owner) valid = given_follows s (lowered name) id owner valid
call_follows s (call.Delete id) valid = leave_follows s id
call_follows s (call.AddToGroup user group) valid =
    of_both (Follows s) s.registry user group (joins s user group) (λ rule follow. follow)
    (by_test (Follows s) _ (Refuses rule.not_permitted) _ (λ follow. follow)
    (by_test (Follows s) (s.is_in user group) (Refuses rule.id_exists) (Makes answer.Done (Join user group)) (λ follow. follow)
    (λ follow. follow)))
call_follows s (call.RemoveFromGroup user group) valid =
    of_both (Follows s) s.registry user group (parts s user group) (λ rule follow. follow)
    (by_test (Follows s) (s.is_in user group) (Makes answer.Done (Part user group)) (Refuses rule.no_entry) (λ follow. follow)
    (λ follow. follow))
call_follows s (call.SetMax id group) valid = maximum_follows s id group
call_follows s (call.ChangeEntry id name owner new_id) valid = turn_follows s id (lowered name) owner new_id valid
call_follows s (call.SetFields id mask flags quota) valid = fields_follow s id mask flags quota valid
call_follows s (call.NameToId names) valid = read_follows s (call.NameToId names) (reads_look s (call.NameToId names) refl)
call_follows s (call.IdToName given) valid = read_follows s (call.IdToName given) (reads_look s (call.IdToName given) refl)
call_follows s (call.GetCps id) valid = read_follows s (call.GetCps id) (reads_look s (call.GetCps id) refl)
call_follows s call.ListMax valid = read_follows s call.ListMax (reads_look s call.ListMax refl)
call_follows s (call.ListEntry id) valid = read_follows s (call.ListEntry id) (reads_look s (call.ListEntry id) refl)
call_follows s (call.ListEntries kinds after) valid =
    read_follows s (call.ListEntries kinds after) (reads_look s (call.ListEntries kinds after) refl)
call_follows s (call.ListElements id) valid = read_follows s (call.ListElements id) (reads_look s (call.ListElements id) refl)
call_follows s (call.IsMemberOf user group) valid =
    read_follows s (call.IsMemberOf user group) (reads_look s (call.IsMemberOf user group) refl)
call_follows s (call.ListOwned id) valid = read_follows s (call.ListOwned id) (reads_look s (call.ListOwned id) refl)

pub names_follow : (s : State) (o : Option PtCall) → IsRegistry s.registry → Follows s (verdict s o)
unfolding verdict
names_follow s None valid = λ follow. follow
names_follow s (Some c) valid = call_follows s c valid

-- ---- at first

found_by : (P : PrEntry → Type 0) (b : Bool) (x e : PrEntry) (later : Option PrEntry) → P x → (later ≡ Some e → P e)
    → cond b (Some x) later ≡ Some e → P e
found_by P true x e later here more is = subst P (some_same is) here
found_by P false x e later here more is = more is

found_one : (P : PrEntry → Type 0) (p : PrEntry → Bool) (xs : List PrEntry) (e : PrEntry) → AllByRecursion P xs → find p xs ≡ Some e → P e
found_one P p [] e all is = absurd cc
found_one P p (x ∷ xs) e all is = found_by P (p x) x e (find p xs) all.0 (found_one P p xs e all.1) is

all_fixed : AllByRecursion (IsNamedAfter first_registry.entry) fixed_entries
unfolding fixed_entries
all_fixed = (
  λ colon owned. refl,
  (
    λ colon owned. refl,
    (
      λ colon owned. refl,
      (
        λ colon owned. refl,
        (
          λ colon owned. refl,
          (λ colon owned. absurd cc, tt),
        ),
      ),
    ),
  ),
)

pub first_follow : NamesFollowOwners first_registry
first_follow id e at = found_one (IsNamedAfter first_registry.entry) (λ f. int_eq f.id id) fixed_entries e all_fixed at
