-- A call is answered as one.
use Rattle.std.proofs.Common.{ℤ, pos, negsuc, not, ◌&&◌, ◌||◌, Option, Some}
use Rattle.std.specs.Prelude.{is_none}
use Rattle.std.specs.Ordering.{int_eq}
use Rattle.prdb_layout.specs.Names.{lowered}
use Rattle.prdb_layout.specs.Registry.{Registry}
use Rattle.prdb_layout.specs.State.{PrEntry}
use Rattle.pt_calls.specs.declared.calls.PtCall.{PtCall}
use Rattle.pt_calls.specs.declared.calls.PtCall.TheVariants as call
use Rattle.pt_service.specs.Meaning.{NoCall, Verdict, are_bad_fields, are_kinds, is_maximum, joins, of_entry, of_pair, parts, verdict}
use Rattle.pt_service.specs.State.{State}
use Rattle.pt_service.specs.Turning.{is_fixed, turn_fault}
use Rattle.pt_laws.proofs.Changing.{by_test, of_both, of_given, of_new, of_one, unless_one}

-- not as bytes that are no call
abbrev pub IsAnswer : Verdict → Type 0
IsAnswer NoCall = ⊥
IsAnswer _ = Unit {0}

one_answers : (o : Option PrEntry) (goes : PrEntry → Verdict) → ((e : PrEntry) → IsAnswer (goes e)) → IsAnswer (of_entry o goes)
one_answers o goes each = of_one IsAnswer o goes (λ rule. tt) each

pair_answers : (r : Registry) (user group : ℤ) (goes : Verdict) → IsAnswer goes → IsAnswer (of_pair r user group goes)
pair_answers r user group goes is = of_both IsAnswer r user group goes (λ rule. tt) is

pub call_answers : (s : State) (c : PtCall) → IsAnswer (verdict s (Some c))
unfolding verdict
call_answers s (call.NewEntry name kind owner) = of_new IsAnswer s.registry (lowered name) kind owner (λ rule. tt) (λ a e. tt)
call_answers s (call.INewEntry name id owner) = of_given IsAnswer s.registry (lowered name) id owner (λ rule. tt) (λ a e. tt)
call_answers s (call.NameToId names) = tt
call_answers s (call.IdToName given) = tt
call_answers s (call.Delete id) = one_answers (s.registry.entry id) _ (λ e. by_test IsAnswer (is_fixed e.id) _ _ tt tt)
call_answers s (call.AddToGroup user group) =
    pair_answers s.registry user group (joins s user group)
    (by_test IsAnswer (int_eq group (negsuc 100) || int_eq group (negsuc 101)) _ _ tt (by_test IsAnswer (s.is_in user group) _ _ tt tt))
call_answers s (call.RemoveFromGroup user group) =
    pair_answers s.registry user group (parts s user group) (by_test IsAnswer (s.is_in user group) _ _ tt tt)
call_answers s (call.GetCps id) = one_answers (s.registry.entry id) _ (λ e. tt)
call_answers s call.ListMax = tt
call_answers s (call.SetMax id group) = by_test IsAnswer (is_maximum group id) _ _ tt tt
call_answers s (call.ListEntry id) = one_answers (s.registry.entry id) _ (λ e. tt)
call_answers s (call.ListEntries kinds after) = by_test IsAnswer (are_kinds kinds) _ _ tt tt
call_answers s (call.ChangeEntry id name owner new_id) =
    one_answers (s.registry.entry id) _ (λ e. unless_one IsAnswer (turn_fault s.registry e (lowered name) owner new_id) _ (λ rule. tt) tt)
call_answers s (call.SetFields id mask flags quota) =
    one_answers (s.registry.entry id) _ (λ e. by_test IsAnswer (are_bad_fields mask flags quota) _ _ tt tt)
call_answers s (call.ListElements id) = one_answers (s.registry.entry id) _ (λ e. tt)
call_answers s (call.IsMemberOf user group) = pair_answers s.registry user group _ tt
call_answers s (call.ListOwned id) = by_test IsAnswer (not (int_eq id (pos 0)) && is_none (s.registry.entry id)) _ _ tt tt
