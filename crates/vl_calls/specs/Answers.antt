-- The answers of the location database (vlserver), and the text of each. The layout is own.
use Rattle.std.specs.Prelude.{ℕ, ◌<◌, ◌≤◌, ◌^◌, List, [], length, Option, Some}
use Rattle.std.specs.List.{AllByRecursion}
use Rattle.xdr_base.specs.Reading.{Reading, at_start}
use Rattle.call_grammar.specs.Items as item
use Rattle.call_grammar.specs.Items.{xdr_text}
use Rattle.call_grammar.specs.Lists.{TextsOf, listed}
use Rattle.call_grammar.specs.Reading.{◌>>=◌, list_at, whole, xdr_item}
use Rattle.vl_calls.specs.declared.answers.AnswerKind.{AnswerKind}
use Rattle.vl_calls.specs.declared.answers.AnswerKind.TheVariants as tells
use Rattle.vl_calls.specs.declared.answers.VlAnswer.{VlAnswer}
use Rattle.vl_calls.specs.declared.answers.VlAnswer.TheVariants as answer
use Rattle.vl_calls.specs.declared.kinds.CallKind.{CallKind}
use Rattle.vl_calls.specs.declared.kinds.CallKind.TheVariants as kinds
use Rattle.vl_calls.specs.declared.limits.TheConstants.{MAX_HOSTS, MAX_PAGE}
use Rattle.vl_calls.specs.Entries.{entry_at, entry_text, IsEntryText, EntryHasItsBits}

-- what the answer to a call of each kind tells
abbrev pub asked_for : CallKind → AnswerKind
asked_for kinds.GetNewVolumeId = tells.Id
asked_for kinds.CreateEntry = tells.Done
asked_for kinds.DeleteEntry = tells.Done
asked_for kinds.GetEntryById = tells.Entry
asked_for kinds.GetEntryByName = tells.Entry
asked_for kinds.ReplaceEntry = tells.Done
asked_for kinds.SetLock = tells.Done
asked_for kinds.ReleaseLock = tells.Done
asked_for kinds.ListAttributes = tells.Entries
asked_for kinds.GetAddrs = tells.Hosts
asked_for kinds.ChangeAddr = tells.Done
asked_for kinds.Probe = tells.Done

abbrev pub answer_kind : VlAnswer → AnswerKind
answer_kind answer.Done = tells.Done
answer_kind (answer.Id id) = tells.Id
answer_kind (answer.Entry e) = tells.Entry
answer_kind (answer.Entries es) = tells.Entries
answer_kind (answer.Hosts hosts) = tells.Hosts

-- an answer has no number; its kind is that of the call
abbrev pub answer_text : TextsOf → VlAnswer → List ℕ
answer_text text answer.Done = []
answer_text text (answer.Id id) = text item.Number id
answer_text text (answer.Entry e) = entry_text text e
answer_text text (answer.Entries es) = listed text (entry_text text) es
answer_text text (answer.Hosts hosts) = listed text (text item.Number) hosts

-- its bytes
abbrev pub answer_spelling : VlAnswer → List ℕ
answer_spelling a = answer_text xdr_text a

-- the answer has a spelling: its names and lists are bounded
abbrev pub AnswerHasSpelling : VlAnswer → Type 0
AnswerHasSpelling answer.Done = Unit {0}
AnswerHasSpelling (answer.Id id) = Unit {0}
AnswerHasSpelling (answer.Entry e) = IsEntryText e
AnswerHasSpelling (answer.Entries es) = (length es ≤ MAX_PAGE) × AllByRecursion IsEntryText es
AnswerHasSpelling (answer.Hosts hosts) = length hosts ≤ MAX_HOSTS

abbrev pub IsWord : ℕ → Type 0
IsWord n = n < 2 ^ 32

abbrev pub AnswerHasItsBits : VlAnswer → Type 0
AnswerHasItsBits answer.Done = Unit {0}
AnswerHasItsBits (answer.Id id) = IsWord id
AnswerHasItsBits (answer.Entry e) = EntryHasItsBits e
AnswerHasItsBits (answer.Entries es) = AllByRecursion EntryHasItsBits es
AnswerHasItsBits (answer.Hosts hosts) = AllByRecursion IsWord hosts

abbrev pub IsAnswer : VlAnswer → Type 0
IsAnswer a = AnswerHasSpelling a × AnswerHasItsBits a

-- reading: an answer of each kind
unfoldable pub answer_at : AnswerKind → Reading → Option (VlAnswer × Reading)
answer_at tells.Done from = Some (answer.Done, from)
answer_at tells.Id from = do
  id ← xdr_item item.Number from
  Some (answer.Id id.0, id.1)
answer_at tells.Entry from = do
  e ← entry_at xdr_item from
  Some (answer.Entry e.0, e.1)
answer_at tells.Entries from = do
  es ← list_at xdr_item MAX_PAGE (entry_at xdr_item) from
  Some (answer.Entries es.0, es.1)
answer_at tells.Hosts from = do
  hosts ← list_at xdr_item MAX_HOSTS (xdr_item item.Number) from
  Some (answer.Hosts hosts.0, hosts.1)

-- the answer of a kind that bytes spell, all of them
unfoldable pub answer_of : AnswerKind → List ℕ → Option VlAnswer
answer_of kind bytes = whole (answer_at kind (at_start bytes))
