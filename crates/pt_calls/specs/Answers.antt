-- The answers of the protection database (ptserver), and the text of each. The layout is own.
use Rattle.std.specs.Prelude.{ℕ, ◌≤◌, List, [], ◌∷◌, ◌++◌, length, FitsSigned, Option, Some}
use Rattle.std.specs.Int.{w32}
use Rattle.std.specs.List.{AllByRecursion}
use Rattle.xdr_base.specs.Reading.{Reading, at_start}
use Rattle.call_grammar.specs.Items as item
use Rattle.call_grammar.specs.Items.{xdr_text}
use Rattle.call_grammar.specs.Lists.{TextsOf, listed, spelled}
use Rattle.call_grammar.specs.Reading.{◌>>=◌, list_at, values, values_at, AllValues, whole, xdr_item}
use Rattle.pt_calls.specs.declared.answers.AnswerKind.{AnswerKind}
use Rattle.pt_calls.specs.declared.answers.AnswerKind.TheVariants as tells
use Rattle.pt_calls.specs.declared.answers.PtAnswer.{PtAnswer}
use Rattle.pt_calls.specs.declared.answers.PtAnswer.TheVariants as answer
use Rattle.pt_calls.specs.declared.answers.PtEntry.{PtEntry}
use Rattle.pt_calls.specs.declared.kinds.CallKind.{CallKind}
use Rattle.pt_calls.specs.declared.kinds.CallKind.TheVariants as kinds
use Rattle.pt_calls.specs.declared.limits.TheConstants.{MAX_LIST, MAX_ANSWER_IDS, MAX_PAGE}
use Rattle.pt_calls.specs.declared.shapes.Shape.{Shape}
use Rattle.pt_calls.specs.declared.shapes.Shape.TheVariants.{Number, Id, Name}
use Rattle.pt_calls.specs.Shapes.{value, shape_at, shape_text, IsName, IsBounded, IsOfItsBits}

-- what the answer to a call of each kind tells
abbrev pub asked_for : CallKind → AnswerKind
asked_for kinds.NewEntry = tells.Id
asked_for kinds.INewEntry = tells.Done
asked_for kinds.NameToId = tells.Ids
asked_for kinds.IdToName = tells.Names
asked_for kinds.Delete = tells.Done
asked_for kinds.AddToGroup = tells.Done
asked_for kinds.RemoveFromGroup = tells.Done
asked_for kinds.GetCps = tells.Ids
asked_for kinds.ListMax = tells.Maxima
asked_for kinds.SetMax = tells.Done
asked_for kinds.ListEntry = tells.Entry
asked_for kinds.ListEntries = tells.Entries
asked_for kinds.ChangeEntry = tells.Done
asked_for kinds.SetFields = tells.Done
asked_for kinds.ListElements = tells.Ids
asked_for kinds.IsMemberOf = tells.Truth
asked_for kinds.ListOwned = tells.Ids

-- an entry: flags, id, owner, creator, quota, count and name
abbrev pub entry_shapes : List Shape
entry_shapes = Number ∷ Id ∷ Id ∷ Id ∷ Id ∷ Number ∷ Name ∷ []

abbrev pub entry_values : PtEntry → values value entry_shapes
entry_values e = (e.flags, (e.id, (e.owner, (e.creator, (e.quota, (e.count, (e.name, tt)))))))

abbrev pub entry_from : values value entry_shapes → PtEntry
entry_from v = record {
  flags = v.0;
  id = v.1.0;
  owner = v.1.1.0;
  creator = v.1.1.1.0;
  quota = v.1.1.1.1.0;
  count = v.1.1.1.1.1.0;
  name = v.1.1.1.1.1.1.0;
}

unfoldable pub entry_text : TextsOf → PtEntry → List ℕ
entry_text text e = spelled value (shape_text text) entry_shapes (entry_values e)

-- its bytes
abbrev pub entry_spelling : PtEntry → List ℕ
entry_spelling e = entry_text xdr_text e

unfoldable pub IsEntryText : PtEntry → Type 0
IsEntryText e = AllValues value IsBounded entry_shapes (entry_values e)

unfoldable pub HasEntryBits : PtEntry → Type 0
HasEntryBits e = AllValues value IsOfItsBits entry_shapes (entry_values e)

abbrev pub answer_kind : PtAnswer → AnswerKind
answer_kind answer.Done = tells.Done
answer_kind (answer.Id id) = tells.Id
answer_kind (answer.Ids ids) = tells.Ids
answer_kind (answer.Names names) = tells.Names
answer_kind (answer.Maxima user group) = tells.Maxima
answer_kind (answer.Truth b) = tells.Truth
answer_kind (answer.Entry e) = tells.Entry
answer_kind (answer.Entries es) = tells.Entries

-- an answer has no number; its kind is that of the call
abbrev pub answer_text : TextsOf → PtAnswer → List ℕ
answer_text text answer.Done = []
answer_text text (answer.Id id) = text item.Signed id
answer_text text (answer.Ids ids) = listed text (text item.Signed) ids
answer_text text (answer.Names names) = listed text (text item.Text) names
answer_text text (answer.Maxima user group) = text item.Signed user ++ text item.Signed group
answer_text text (answer.Truth b) = text item.Truth b
answer_text text (answer.Entry e) = entry_text text e
answer_text text (answer.Entries es) = listed text (entry_text text) es

-- its bytes
abbrev pub answer_spelling : PtAnswer → List ℕ
answer_spelling a = answer_text xdr_text a

-- the answer has a spelling: its names and lists are bounded
abbrev pub AnswerHasSpelling : PtAnswer → Type 0
AnswerHasSpelling answer.Done = Unit {0}
AnswerHasSpelling (answer.Id id) = Unit {0}
AnswerHasSpelling (answer.Ids ids) = length ids ≤ MAX_ANSWER_IDS
AnswerHasSpelling (answer.Names names) = (length names ≤ MAX_LIST) × AllByRecursion IsName names
AnswerHasSpelling (answer.Maxima user group) = Unit {0}
AnswerHasSpelling (answer.Truth b) = Unit {0}
AnswerHasSpelling (answer.Entry e) = IsEntryText e
AnswerHasSpelling (answer.Entries es) = (length es ≤ MAX_PAGE) × AllByRecursion IsEntryText es

abbrev pub AnswerHasItsBits : PtAnswer → Type 0
AnswerHasItsBits answer.Done = Unit {0}
AnswerHasItsBits (answer.Id id) = FitsSigned w32 id
AnswerHasItsBits (answer.Ids ids) = AllByRecursion (FitsSigned w32) ids
AnswerHasItsBits (answer.Names names) = Unit {0}
AnswerHasItsBits (answer.Maxima user group) = FitsSigned w32 user × FitsSigned w32 group
AnswerHasItsBits (answer.Truth b) = Unit {0}
AnswerHasItsBits (answer.Entry e) = HasEntryBits e
AnswerHasItsBits (answer.Entries es) = AllByRecursion HasEntryBits es

abbrev pub IsAnswer : PtAnswer → Type 0
IsAnswer a = AnswerHasSpelling a × AnswerHasItsBits a

-- reading: an entry, and an answer of each kind
unfoldable pub entry_at : Reading → Option (PtEntry × Reading)
entry_at from = do
  v ← values_at value (shape_at xdr_item) entry_shapes from
  Some (entry_from v.0, v.1)

unfoldable pub answer_at : AnswerKind → Reading → Option (PtAnswer × Reading)
answer_at tells.Done from = Some (answer.Done, from)
answer_at tells.Id from = do
  id ← xdr_item item.Signed from
  Some (answer.Id id.0, id.1)
answer_at tells.Ids from = do
  ids ← list_at xdr_item MAX_ANSWER_IDS (xdr_item item.Signed) from
  Some (answer.Ids ids.0, ids.1)
answer_at tells.Names from = do
  names ← list_at xdr_item MAX_LIST (xdr_item item.Text) from
  Some (answer.Names names.0, names.1)
answer_at tells.Maxima from = do
  user ← xdr_item item.Signed from
  group ← xdr_item item.Signed user.1
  Some (answer.Maxima user.0 group.0, group.1)
answer_at tells.Truth from = do
  b ← xdr_item item.Truth from
  Some (answer.Truth b.0, b.1)
answer_at tells.Entry from = do
  e ← entry_at from
  Some (answer.Entry e.0, e.1)
answer_at tells.Entries from = do
  es ← list_at xdr_item MAX_PAGE entry_at from
  Some (answer.Entries es.0, es.1)

-- the answer of a kind that bytes spell, all of them
unfoldable pub answer_of : AnswerKind → List ℕ → Option PtAnswer
answer_of kind bytes = whole (answer_at kind (at_start bytes))
