-- The calls of a command, as its hosts see them.
use Rattle.std.specs.Prelude.{ℕ, ◌^◌, ◌&&◌, nat_lt, ℤ, pos, negsuc, int_lt, Bool, true, List, Option, Some, is_some}
use Rattle.std.specs.List.{list_all}
use Rattle.vl_calls.specs.Calls as vl
use Rattle.vl_calls.specs.Writes as vl_writes
use Rattle.vl_calls.specs.declared.calls.VlCall.{VlCall}
use Rattle.vl_calls.specs.declared.calls.VlCall.TheVariants as vl_call
use Rattle.pt_calls.specs.Answers.{answer_of}
use Rattle.pt_calls.specs.declared.answers.AnswerKind.TheVariants as tells
use Rattle.pt_calls.specs.declared.answers.PtAnswer.{PtAnswer}
use Rattle.pt_calls.specs.declared.answers.PtAnswer.TheVariants as pt_answer
use Rattle.pt_calls.specs.Calls as pt
use Rattle.pt_calls.specs.Writes as pt_writes
use Rattle.pt_calls.specs.declared.calls.PtCall.{PtCall}
use Rattle.pt_calls.specs.declared.calls.PtCall.TheVariants as pt_call
use Rattle.vl_calls.specs.Answers as vl_answers
use Rattle.vl_calls.specs.declared.answers.AnswerKind.TheVariants as vl_tells
use Rattle.vl_calls.specs.declared.answers.VlAnswer.{VlAnswer}
use Rattle.vl_calls.specs.declared.answers.VlAnswer.TheVariants as vl_answer
use Rattle.tool_base.specs.declared.stops.Refusal.{Refusal}
use Rattle.tool_base.specs.declared.stops.Refusal.TheVariants.{Rule}
use Rattle.vos_tool.specs.Answers as volumes
use Rattle.pts_tool.specs.Answers as users
use Rattle.pts_tool.specs.Asking.{taken_from}

-- a call: whether it writes, its bytes, whether bytes are an answer to it, and whether the id that it asks behind is one that bytes spell
pub record Question : Type 0 where
  pub writes : Bool
  pub bytes : List ℕ
  pub is_answer : List ℕ → Bool
  pub fits : Bool

-- A database as its clients know it: its calls, whether the ids of a page that bytes spell are such as a call spells, and the refusal in which
-- a command ends by itself.
pub record Database (C : Type 0) : Type 0 where
  pub question : C → Question
  pub has_bits : List ℕ → Bool
  pub own : Refusal

-- the answers to a call of the location database: a new id, an entry, a page behind the id that was asked for, addresses, or nothing
abbrev pub is_vl_answer : VlCall → List ℕ → Bool
is_vl_answer (vl_call.GetNewVolumeId bump) bytes = is_some (volumes.id_in bytes)
is_vl_answer (vl_call.CreateEntry entry) bytes = is_some (volumes.done_in bytes)
is_vl_answer (vl_call.DeleteEntry id kind) bytes = is_some (volumes.done_in bytes)
is_vl_answer (vl_call.GetEntryById id kind) bytes = is_some (volumes.entry_in bytes)
is_vl_answer (vl_call.GetEntryByName name) bytes = is_some (volumes.entry_in bytes)
is_vl_answer (vl_call.ReplaceEntry id kind entry mask) bytes = is_some (volumes.done_in bytes)
is_vl_answer (vl_call.SetLock id kind operation) bytes = is_some (volumes.done_in bytes)
is_vl_answer (vl_call.ReleaseLock id kind mask) bytes = is_some (volumes.done_in bytes)
is_vl_answer (vl_call.ListAttributes after host partition locked) bytes = is_some (volumes.page_in after bytes)
is_vl_answer vl_call.GetAddrs bytes = is_some (volumes.hosts_in bytes)
is_vl_answer (vl_call.ChangeAddr from to) bytes = is_some (volumes.done_in bytes)
is_vl_answer vl_call.Probe bytes = is_some (volumes.done_in bytes)

-- an id of a volume has 32 bits
abbrev pub is_volume_id : ℕ → Bool
is_volume_id id = nat_lt id (2 ^ 32)

abbrev pub vl_fits : VlCall → Bool
vl_fits (vl_call.ListAttributes after host partition locked) = is_volume_id after
vl_fits _ = true

abbrev pub vl_page_has_bits : Option VlAnswer → Bool
vl_page_has_bits (Some (vl_answer.Entries entries)) = list_all (λ e. is_volume_id e.rw) entries
vl_page_has_bits _ = true

abbrev pub vl_question : VlCall → Question
vl_question c =
    record { writes = vl_writes.is_write (vl.call_kind c); bytes = vl.spelling c; is_answer = is_vl_answer c; fits = vl_fits c }

-- a command of `vos` ends by itself where there is no such site
abbrev pub volumes_database : Database VlCall
volumes_database = record {
  question = vl_question;
  has_bits = λ bytes. vl_page_has_bits (vl_answers.answer_of vl_tells.Entries bytes);
  own = Rule 363533;
}

abbrev pub is_taken : {A : Type 0} → (PtCall → PtAnswer → Option A) → PtCall → List ℕ → Bool
is_taken take c bytes = is_some (taken_from (take c) c bytes)

-- the answers to a call of the protection database: one id, names or ids, an entry, a page behind the id that was asked for, the maxima, yes
-- or no, or nothing
abbrev pub is_pt_answer : PtCall → List ℕ → Bool
is_pt_answer (pt_call.NewEntry name kind owner) bytes = is_taken users.id_in (pt_call.NewEntry name kind owner) bytes
is_pt_answer (pt_call.INewEntry name id owner) bytes = is_taken users.done_in (pt_call.INewEntry name id owner) bytes
is_pt_answer (pt_call.NameToId names) bytes = is_taken users.id_in (pt_call.NameToId names) bytes
is_pt_answer (pt_call.IdToName ids) bytes = is_taken users.names_in (pt_call.IdToName ids) bytes
is_pt_answer (pt_call.Delete id) bytes = is_taken users.done_in (pt_call.Delete id) bytes
is_pt_answer (pt_call.AddToGroup member group) bytes = is_taken users.done_in (pt_call.AddToGroup member group) bytes
is_pt_answer (pt_call.RemoveFromGroup member group) bytes = is_taken users.done_in (pt_call.RemoveFromGroup member group) bytes
is_pt_answer (pt_call.GetCps id) bytes = is_taken users.ids_in (pt_call.GetCps id) bytes
is_pt_answer pt_call.ListMax bytes = is_taken users.maxima_in pt_call.ListMax bytes
is_pt_answer (pt_call.SetMax id is_group) bytes = is_taken users.done_in (pt_call.SetMax id is_group) bytes
is_pt_answer (pt_call.ListEntry id) bytes = is_taken users.entry_in (pt_call.ListEntry id) bytes
is_pt_answer (pt_call.ListEntries kinds after) bytes = is_taken users.page_in (pt_call.ListEntries kinds after) bytes
is_pt_answer (pt_call.ChangeEntry id name owner new_id) bytes = is_taken users.done_in (pt_call.ChangeEntry id name owner new_id) bytes
is_pt_answer (pt_call.SetFields id mask flags quota) bytes = is_taken users.done_in (pt_call.SetFields id mask flags quota) bytes
is_pt_answer (pt_call.ListElements id) bytes = is_taken users.ids_in (pt_call.ListElements id) bytes
is_pt_answer (pt_call.IsMemberOf member group) bytes = is_some (answer_of tells.Truth bytes)
is_pt_answer (pt_call.ListOwned id) bytes = is_taken users.ids_in (pt_call.ListOwned id) bytes

-- an id of a user or group has 32 bits, with its sign
abbrev pub is_user_id : ℤ → Bool
is_user_id id = int_lt (negsuc 2147483648) id && int_lt id (pos 2147483648)

abbrev pub pt_fits : PtCall → Bool
pt_fits (pt_call.ListEntries kinds after) = is_user_id after
pt_fits _ = true

abbrev pub pt_page_has_bits : Option PtAnswer → Bool
pt_page_has_bits (Some (pt_answer.Entries entries)) = list_all (λ e. is_user_id e.id) entries
pt_page_has_bits _ = true

abbrev pub pt_question : PtCall → Question
pt_question c =
    record { writes = pt_writes.is_write (pt.call_kind c); bytes = pt.spelling c; is_answer = is_pt_answer c; fits = pt_fits c }

-- a command of `pts` ends by itself where there is no such user or group
abbrev pub users_database : Database PtCall
users_database = record {
  question = pt_question;
  has_bits = λ bytes. pt_page_has_bits (answer_of tells.Entries bytes);
  own = Rule 267268;
}
