-- What kind of change each call makes, if it makes one.
use Rattle.std.proofs.Common.{◌≡◌, ℕ, ℤ, pos, Bool, true, false, not, ◌&&◌, ◌||◌, cond, eqb, List, Option, Some, None, Result, Ok, Err, refl}
use Rattle.std.specs.Prelude.{is_none, is_some}
use Rattle.std.specs.Ordering.{int_eq}
use Rattle.prdb_layout.specs.Registry.{Registry}
use Rattle.prdb_layout.specs.State.{PrEntry}
use Rattle.pt_calls.specs.Calls.{call_kind}
use Rattle.pt_calls.specs.declared.answers.PtAnswer.{PtAnswer}
use Rattle.pt_calls.specs.declared.answers.PtAnswer.TheVariants as answer
use Rattle.pt_calls.specs.declared.calls.PtCall.{PtCall}
use Rattle.pt_calls.specs.declared.calls.PtCall.TheVariants as call
use Rattle.pt_service.specs.Meaning.{Answers, Enter, Makes, Maxima, NoCall, Refit, Refuses, Verdict, are_bad_fields, are_kinds, enters, entry_made, fields_set, is_maximum}
use Rattle.pt_service.specs.Meaning.{maxima_with, maximum_set, new_entry, new_entry_of_id, next_id, of_entry, of_owner, of_pair, owned}
use Rattle.pt_service.specs.Meaning.{owner_for, page, unless, verdict, with_given, with_next}
use Rattle.pt_service.specs.State.{State, is_group, is_id}
use Rattle.pt_calls.specs.Writes.{is_write}
use Rattle.pt_changes.specs.Standing.{image_by}

-- ---- kinds of change

-- nothing is changed by it
abbrev pub IsLook : Verdict → Type 0
IsLook NoCall = Unit {0}
IsLook (Refuses rule) = Unit {0}
IsLook (Answers a) = Unit {0}
IsLook (Makes a change) = ⊥

-- the change is not one of pairs
abbrev pub IsPlain : Verdict → Type 0
IsPlain (Makes a (Maxima user group)) = Unit {0}
IsPlain (Makes a (Enter e user group)) = Unit {0}
IsPlain (Makes a (Refit e)) = Unit {0}
IsPlain (Makes a change) = ⊥
IsPlain v = Unit {0}

-- ---- verdicts that are put together

pub by_test : (P : Verdict → Type 0) (b : Bool) (v w : Verdict) → P v → P w → P (cond b v w)
by_test P true v w h k = h
by_test P false v w h k = k

pub of_one : (P : Verdict → Type 0) (o : Option PrEntry) (goes : PrEntry → Verdict) → ((rule : ℕ) → P (Refuses rule))
    → ((e : PrEntry) → P (goes e)) → P (of_entry o goes)
of_one P None goes refused each = refused 267268
of_one P (Some e) goes refused each = each e

pub of_good : (P : Verdict → Type 0) (o : Result ℤ ℕ) (goes : ℤ → Verdict) → ((rule : ℕ) → P (Refuses rule))
    → ((id : ℤ) → P (goes id)) → P (of_owner o goes)
of_good P (Err rule) goes refused each = refused rule
of_good P (Ok id) goes refused each = each id

pub unless_one : (P : Verdict → Type 0) (o : Option ℕ) (v : Verdict) → ((rule : ℕ) → P (Refuses rule)) → P v → P (unless o v)
unless_one P None v refused is = is
unless_one P (Some rule) v refused is = refused rule

pub of_both : (P : Verdict → Type 0) (r : Registry) (user group : ℤ) (goes : Verdict) → ((rule : ℕ) → P (Refuses rule)) → P goes
    → P (of_pair r user group goes)
of_both P r user group goes refused is =
    by_test P (is_none (r.entry user) || is_none (r.entry group)) (Refuses 267268)
    (cond (not (is_group group)) (Refuses 267270) (cond (is_group user) (Refuses 267271) goes)) (refused 267268)
    (by_test P (not (is_group group)) (Refuses 267270) (cond (is_group user) (Refuses 267271) goes) (refused 267270)
    (by_test P (is_group user) (Refuses 267271) goes (refused 267271) is))

of_next : (P : Verdict → Type 0) (r : Registry) (group : Bool) (name : List ℕ) (owner : ℤ) (next : Option ℤ)
    → ((rule : ℕ) → P (Refuses rule))
    → ((a : PtAnswer) (e : PrEntry) → P (Makes a (enters r e))) → P (with_next r group name owner next)
of_next P r group name owner None refused makes = refused _
of_next P r group name owner (Some id) refused makes = makes _ _

of_made : (P : Verdict → Type 0) (r : Registry) (group : Bool) (name : List ℕ) (owner : ℤ) → ((rule : ℕ) → P (Refuses rule))
    → ((a : PtAnswer) (e : PrEntry) → P (Makes a (enters r e))) → P (entry_made r group name owner)
of_made P r group name owner refused makes =
    of_good P (owner_for r group name owner) (λ o. with_next r group name o (next_id r group)) refused
    (λ o. of_next P r group name o (next_id r group) refused makes)

pub of_new : (P : Verdict → Type 0) (r : Registry) (name : List ℕ) (kind : ℕ) (owner : ℤ) → ((rule : ℕ) → P (Refuses rule))
    → ((a : PtAnswer) (e : PrEntry) → P (Makes a (enters r e))) → P (new_entry r name kind owner)
of_new P r name kind owner refused makes =
    by_test P (eqb kind 0 || eqb kind 2) (entry_made r (eqb kind 2) name owner) (Refuses _)
    (of_made P r (eqb kind 2) name owner refused makes) (refused _)

pub of_given : (P : Verdict → Type 0) (r : Registry) (name : List ℕ) (id owner : ℤ) → ((rule : ℕ) → P (Refuses rule))
    → ((a : PtAnswer) (e : PrEntry) → P (Makes a (enters r e))) → P (new_entry_of_id r name id owner)
of_given P r name id owner refused makes =
    by_test P (is_id (is_group id) id)
    (of_owner (owner_for r (is_group id) name owner) (λ o. with_given r name id o (is_some (r.entry id)))) (Refuses _)
    (of_good P (owner_for r (is_group id) name owner) (λ o. with_given r name id o (is_some (r.entry id))) refused
    (λ o. by_test P (is_some (r.entry id)) _ _ (refused _) (makes _ _))) (refused _)

-- ---- calls that only look

page_look : (s : State) (kinds : ℕ) (after : ℤ) → IsLook (page s kinds after)
page_look s kinds after = by_test IsLook (are_kinds kinds) _ (Refuses 267273) tt tt

owned_look : (r : Registry) (id : ℤ) → IsLook (owned r id)
owned_look r id = by_test IsLook (not (int_eq id (pos 0)) && is_none (r.entry id)) (Refuses 267268) _ tt tt

-- a call that is no write changes nothing
pub reads_look : (s : State) (c : PtCall) → is_write (call_kind c) ≡ false → IsLook (verdict s (Some c))
unfolding verdict
reads_look s (call.NameToId names) is = tt
reads_look s (call.IdToName given) is = tt
reads_look s (call.GetCps id) is = of_one IsLook (s.registry.entry id) _ (λ rule. tt) (λ e. tt)
reads_look s call.ListMax is = tt
reads_look s (call.ListEntry id) is = of_one IsLook (s.registry.entry id) _ (λ rule. tt) (λ e. tt)
reads_look s (call.ListEntries kinds after) is = page_look s kinds after
reads_look s (call.ListElements id) is = of_one IsLook (s.registry.entry id) _ (λ rule. tt) (λ e. tt)
reads_look s (call.IsMemberOf user group) is = of_both IsLook s.registry user group _ (λ rule. tt) tt
reads_look s (call.ListOwned id) is = owned_look s.registry id
reads_look s (call.NewEntry name kind owner) is = absurd cc
reads_look s (call.INewEntry name id owner) is = absurd cc
reads_look s (call.Delete id) is = absurd cc
reads_look s (call.AddToGroup user group) is = absurd cc
reads_look s (call.RemoveFromGroup user group) is = absurd cc
reads_look s (call.SetMax id group) is = absurd cc
reads_look s (call.ChangeEntry id name owner new_id) is = absurd cc
reads_look s (call.SetFields id mask flags quota) is = absurd cc

pub image_same : (v : Verdict) (s : State) (image : List ℕ) → IsLook v → image_by v s image ≡ image
image_same NoCall s image is = refl
image_same (Refuses rule) s image is = refl
image_same (Answers a) s image is = refl
image_same (Makes a change) s image is = absurd is

-- ---- calls that touch no pair

pub new_plain : (r : Registry) (name : List ℕ) (kind : ℕ) (owner : ℤ) → IsPlain (new_entry r name kind owner)
new_plain r name kind owner = of_new IsPlain r name kind owner (λ rule. tt) (λ a e. tt)

pub given_plain : (r : Registry) (name : List ℕ) (id owner : ℤ) → IsPlain (new_entry_of_id r name id owner)
given_plain r name id owner = of_given IsPlain r name id owner (λ rule. tt) (λ a e. tt)

max_plain : (r : Registry) (id : ℤ) (group : Bool) → IsPlain (Makes answer.Done (maxima_with r group id))
max_plain r id true = tt
max_plain r id false = tt

pub maximum_plain : (r : Registry) (id : ℤ) (group : Bool) → IsPlain (maximum_set r id group)
maximum_plain r id group =
    by_test IsPlain (is_maximum group id) (Makes answer.Done (maxima_with r group id)) (Refuses 267273) (max_plain r id group) tt

pub fields_plain : (o : Option PrEntry) (mask flags : ℕ) (quota : ℤ) → IsPlain (of_entry o (fields_set mask flags quota))
fields_plain o mask flags quota =
    of_one IsPlain o (fields_set mask flags quota) (λ rule. tt)
    (λ e. by_test IsPlain (are_bad_fields mask flags quota) (Refuses 267273) _ tt tt)
