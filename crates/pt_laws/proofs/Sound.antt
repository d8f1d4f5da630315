-- What is decided of a call in a state can be made there.
use Rattle.std.proofs.Common.{◌≡◌, ℕ, pos, Bool, true, false, not, ◌&&◌, cond, List, Option, Some, None, refl}
use Rattle.std.specs.Prelude.{filter, is_none, nat_lt}
use Rattle.std.specs.List.{list_all}
use Rattle.std.specs.Ordering.{int_eq}
use Rattle.call_grammar.specs.Laws.{IsBytes}
use Rattle.call_grammar.proofs.Fitting.{bytes_low}
use Rattle.prdb_layout.specs.Names.{lowered}
use Rattle.prdb_layout.specs.Registry.{IsRegistry}
use Rattle.pt_calls.specs.declared.answers.PtAnswer.TheVariants as answer
use Rattle.pt_calls.specs.declared.calls.PtCall.{PtCall}
use Rattle.pt_calls.specs.declared.calls.PtCall.TheVariants as call
use Rattle.pt_calls.specs.Calls.{HasItsBits}
use Rattle.pt_calls.specs.Reading.{call_of}
use Rattle.pt_calls.proofs.Taken.{read_alone}
use Rattle.pt_service.specs.Meaning.{Answers, Refuses, are_kinds, asked, counts_for, owned_by, told_of, verdict}
use Rattle.pt_service.specs.Refusals as rule
use Rattle.pt_service.specs.State.{State, elements, ids}
use Rattle.pt_laws.proofs.Possible.{IsSound, either, of_one}
use Rattle.pt_laws.proofs.SoundEntries.{new_of_id_sound, new_sound}
use Rattle.pt_laws.proofs.SoundFields.{fields_sound, maximum_sound}
use Rattle.pt_laws.proofs.SoundPairs.{join_sound, leave_sound, pair_sound, part_sound}
use Rattle.pt_laws.proofs.SoundTurns.{turn_sound}

call_sound : (s : State) (c : PtCall) → IsRegistry s.registry → HasItsBits c → IsSound s (verdict s (Some c))
unfolding verdict
call_sound s (call.NewEntry name kind owner) valid bits = new_sound s (lowered name) kind owner valid
call_sound s (call.INewEntry name id owner) valid bits = new_of_id_sound s (lowered name) id owner valid bits.1.0
call_sound s (call.NameToId names) valid bits = tt
call_sound s (call.IdToName given) valid bits = tt
call_sound s (call.Delete id) valid bits = leave_sound s id valid
call_sound s (call.AddToGroup user group) valid bits = join_sound s user group valid
call_sound s (call.RemoveFromGroup user group) valid bits = part_sound s user group
call_sound s (call.GetCps id) valid bits =
    of_one (IsSound s) (s.registry.entry id) (λ e. Answers (answer.Ids (filter (counts_for s id) ids))) (λ rule. tt) (λ e at. tt)
call_sound s call.ListMax valid bits = tt
call_sound s (call.SetMax id group) valid bits = maximum_sound s id group valid bits.0
call_sound s (call.ListEntry id) valid bits =
    of_one (IsSound s) (s.registry.entry id) (λ e. Answers (answer.Entry (told_of s e))) (λ rule. tt) (λ e at. tt)
call_sound s (call.ListEntries kinds after) valid bits =
    either (IsSound s) (are_kinds kinds) (Answers (answer.Entries _)) (Refuses rule.bad_argument) (λ is. tt) (λ is. tt)
call_sound s (call.ChangeEntry id name owner new_id) valid bits = turn_sound s id (lowered name) owner new_id valid bits.1.1.1.0
call_sound s (call.SetFields id mask flags quota) valid bits = fields_sound s id mask flags quota valid bits.1.1.0 bits.1.1.1.0
call_sound s (call.ListElements id) valid bits =
    of_one (IsSound s) (s.registry.entry id) (λ e. Answers (answer.Ids (elements s id))) (λ rule. tt) (λ e at. tt)
call_sound s (call.IsMemberOf user group) valid bits = pair_sound s user group (Answers (answer.Truth (s.is_in user group))) (λ pair. tt)
call_sound s (call.ListOwned id) valid bits =
    either (IsSound s) (not (int_eq id (pos 0)) && is_none (s.registry.entry id)) (Refuses rule.no_entry)
    (Answers (answer.Ids (owned_by s.registry id))) (λ is. tt) (λ is. tt)

-- ---- of bytes

read_sound : (s : State) (bytes : List ℕ) (o : Option PtCall) → IsRegistry s.registry → IsBytes bytes → call_of bytes ≡ o
    → IsSound s (verdict s o)
unfolding verdict
read_sound s bytes None valid are is = tt
read_sound s bytes (Some c) valid are is = call_sound s c valid (read_alone bytes c are is).0.1

within_sound : (s : State) (bytes : List ℕ) (b : Bool) → IsRegistry s.registry → list_all (λ x. nat_lt x 256) bytes ≡ b
    → IsSound s (verdict s (cond b (call_of bytes) None))
unfolding verdict
within_sound s bytes false valid is = tt
within_sound s bytes true valid is = read_sound s bytes (call_of bytes) valid (bytes_low bytes is) refl

pub sound : (s : State) (bytes : List ℕ) → IsRegistry s.registry → IsSound s (verdict s (asked bytes))
sound s bytes valid = within_sound s bytes (list_all (λ x. nat_lt x 256) bytes) valid refl
