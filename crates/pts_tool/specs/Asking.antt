-- A call of the protection database, asked of the hosts.
use Rattle.std.specs.Prelude.{ℕ, ◌&&◌, nat_le, Bool, true, if◌then◌else◌, List, length, Option, option_and_then}
use Rattle.std.specs.List.{list_all}
use Rattle.pt_calls.specs.Answers.{answer_of, asked_for}
use Rattle.pt_calls.specs.Writes.{is_write}
use Rattle.pt_calls.specs.Calls.{call_kind, spelling}
use Rattle.pt_calls.specs.declared.answers.PtAnswer.{PtAnswer}
use Rattle.pt_calls.specs.declared.calls.PtCall.{PtCall}
use Rattle.pt_calls.specs.declared.calls.PtCall.TheVariants as call
use Rattle.pt_calls.specs.declared.limits.TheConstants.{MAX_LIST, MAX_NAME}
use Rattle.tool_base.specs.Asking.{asks_call}
use Rattle.tool_base.specs.Course.{Course, stops}
use Rattle.tool_base.specs.declared.stops.Refusal.TheVariants.{Malformed}
use Rattle.tool_base.specs.declared.stops.Stop.TheVariants.{Refused}

-- a name is no longer than a call's names may be
abbrev pub is_short : List ℕ → Bool
is_short name = nat_le (length name) MAX_NAME

-- whether a call has a spelling
abbrev pub has_spelling : PtCall → Bool
has_spelling (call.NewEntry name kind owner) = is_short name
has_spelling (call.INewEntry name id owner) = is_short name
has_spelling (call.NameToId names) = nat_le (length names) MAX_LIST && list_all is_short names
has_spelling (call.IdToName ids) = nat_le (length ids) MAX_LIST
has_spelling (call.ChangeEntry id name owner new_id) = is_short name
has_spelling _ = true

-- what is taken from the bytes of the answer to a call
abbrev pub taken_from : {A : Type 0} → (PtAnswer → Option A) → PtCall → List ℕ → Option A
taken_from take call bytes = option_and_then take (answer_of (asked_for (call_kind call)) bytes)

-- a call that has a spelling is asked; another is refused as each server would refuse it
unfoldable pub asks : {A : Type 0} → (PtCall → PtAnswer → Option A) → PtCall → Course A
asks take call =
    if has_spelling call then asks_call (is_write (call_kind call)) (taken_from (take call) call) (spelling call) else stops
    (Refused Malformed)
