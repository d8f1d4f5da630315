-- The calls of the protection database (ptserver): their numbers, fields and spelling. The numbers and the layout are own.
use Rattle.std.specs.Prelude.{ℕ, List, [], ◌∷◌, ◌++◌, Option, Some, None, ◌==◌, if◌then◌else◌}
use Rattle.xdr_base.specs.Spelling.{word}
use Rattle.call_grammar.specs.Items.{xdr_text}
use Rattle.call_grammar.specs.Lists.{spelled}
use Rattle.call_grammar.specs.Reading.{values, AllValues}
use Rattle.pt_calls.specs.declared.calls.PtCall.{PtCall}
use Rattle.pt_calls.specs.declared.calls.PtCall.TheVariants as call
use Rattle.pt_calls.specs.declared.kinds.CallKind.{CallKind}
use Rattle.pt_calls.specs.declared.kinds.CallKind.TheVariants as kinds
use Rattle.pt_calls.specs.declared.shapes.Shape.{Shape}
use Rattle.pt_calls.specs.declared.shapes.Shape.TheVariants.{Number, Id, Truth, Name, Names, Ids}
use Rattle.pt_calls.specs.Shapes.{value, shape_text, IsBounded, IsOfItsBits}

-- the number of a kind, and the kind of a number
abbrev pub kind_number : CallKind → ℕ
kind_number kinds.NewEntry = 1
kind_number kinds.INewEntry = 2
kind_number kinds.NameToId = 3
kind_number kinds.IdToName = 4
kind_number kinds.Delete = 5
kind_number kinds.AddToGroup = 6
kind_number kinds.RemoveFromGroup = 7
kind_number kinds.GetCps = 8
kind_number kinds.ListMax = 9
kind_number kinds.SetMax = 10
kind_number kinds.ListEntry = 11
kind_number kinds.ListEntries = 12
kind_number kinds.ChangeEntry = 13
kind_number kinds.SetFields = 14
kind_number kinds.ListElements = 15
kind_number kinds.IsMemberOf = 16
kind_number kinds.ListOwned = 17

abbrev pub kind_numbered : ℕ → Option CallKind
kind_numbered n =
    if n == 1 then Some kinds.NewEntry else if n == 2 then Some kinds.INewEntry else if n == 3 then Some kinds.NameToId
    else if n == 4 then Some kinds.IdToName else if n == 5 then Some kinds.Delete else if n == 6 then Some kinds.AddToGroup
    else if n == 7 then Some kinds.RemoveFromGroup else if n == 8 then Some kinds.GetCps else if n == 9 then Some kinds.ListMax
    else if n == 10 then Some kinds.SetMax else if n == 11 then Some kinds.ListEntry else if n == 12 then Some kinds.ListEntries
    else if n == 13 then Some kinds.ChangeEntry else if n == 14 then Some kinds.SetFields else if n == 15 then Some kinds.ListElements
    else if n == 16 then Some kinds.IsMemberOf else if n == 17 then Some kinds.ListOwned else None

-- the fields of a call of each kind
abbrev pub shapes_of : CallKind → List Shape
shapes_of kinds.NewEntry = Name ∷ Number ∷ Id ∷ []
shapes_of kinds.INewEntry = Name ∷ Id ∷ Id ∷ []
shapes_of kinds.NameToId = Names ∷ []
shapes_of kinds.IdToName = Ids ∷ []
shapes_of kinds.Delete = Id ∷ []
shapes_of kinds.AddToGroup = Id ∷ Id ∷ []
shapes_of kinds.RemoveFromGroup = Id ∷ Id ∷ []
shapes_of kinds.GetCps = Id ∷ []
shapes_of kinds.ListMax = []
shapes_of kinds.SetMax = Id ∷ Truth ∷ []
shapes_of kinds.ListEntry = Id ∷ []
shapes_of kinds.ListEntries = Number ∷ Id ∷ []
shapes_of kinds.ChangeEntry = Id ∷ Name ∷ Id ∷ Id ∷ []
shapes_of kinds.SetFields = Id ∷ Number ∷ Number ∷ Id ∷ []
shapes_of kinds.ListElements = Id ∷ []
shapes_of kinds.IsMemberOf = Id ∷ Id ∷ []
shapes_of kinds.ListOwned = Id ∷ []

-- the call of a kind with these values, its kind, and its values
abbrev pub call_from : (k : CallKind) → values value (shapes_of k) → PtCall
call_from kinds.NewEntry v = call.NewEntry v.0 v.1.0 v.1.1.0
call_from kinds.INewEntry v = call.INewEntry v.0 v.1.0 v.1.1.0
call_from kinds.NameToId v = call.NameToId v.0
call_from kinds.IdToName v = call.IdToName v.0
call_from kinds.Delete v = call.Delete v.0
call_from kinds.AddToGroup v = call.AddToGroup v.0 v.1.0
call_from kinds.RemoveFromGroup v = call.RemoveFromGroup v.0 v.1.0
call_from kinds.GetCps v = call.GetCps v.0
call_from kinds.ListMax v = call.ListMax
call_from kinds.SetMax v = call.SetMax v.0 v.1.0
call_from kinds.ListEntry v = call.ListEntry v.0
call_from kinds.ListEntries v = call.ListEntries v.0 v.1.0
call_from kinds.ChangeEntry v = call.ChangeEntry v.0 v.1.0 v.1.1.0 v.1.1.1.0
call_from kinds.SetFields v = call.SetFields v.0 v.1.0 v.1.1.0 v.1.1.1.0
call_from kinds.ListElements v = call.ListElements v.0
call_from kinds.IsMemberOf v = call.IsMemberOf v.0 v.1.0
call_from kinds.ListOwned v = call.ListOwned v.0

abbrev pub call_kind : PtCall → CallKind
call_kind (call.NewEntry name kind owner) = kinds.NewEntry
call_kind (call.INewEntry name id owner) = kinds.INewEntry
call_kind (call.NameToId names) = kinds.NameToId
call_kind (call.IdToName ids) = kinds.IdToName
call_kind (call.Delete id) = kinds.Delete
call_kind (call.AddToGroup member group) = kinds.AddToGroup
call_kind (call.RemoveFromGroup member group) = kinds.RemoveFromGroup
call_kind (call.GetCps id) = kinds.GetCps
call_kind call.ListMax = kinds.ListMax
call_kind (call.SetMax id is_group) = kinds.SetMax
call_kind (call.ListEntry id) = kinds.ListEntry
call_kind (call.ListEntries which after) = kinds.ListEntries
call_kind (call.ChangeEntry id name owner new_id) = kinds.ChangeEntry
call_kind (call.SetFields id mask flags quota) = kinds.SetFields
call_kind (call.ListElements id) = kinds.ListElements
call_kind (call.IsMemberOf member group) = kinds.IsMemberOf
call_kind (call.ListOwned id) = kinds.ListOwned

abbrev pub call_values : (c : PtCall) → values value (shapes_of (call_kind c))
call_values (call.NewEntry name kind owner) = (name, (kind, (owner, tt)))
call_values (call.INewEntry name id owner) = (name, (id, (owner, tt)))
call_values (call.NameToId names) = (names, tt)
call_values (call.IdToName ids) = (ids, tt)
call_values (call.Delete id) = (id, tt)
call_values (call.AddToGroup member group) = (member, (group, tt))
call_values (call.RemoveFromGroup member group) = (member, (group, tt))
call_values (call.GetCps id) = (id, tt)
call_values call.ListMax = tt
call_values (call.SetMax id is_group) = (id, (is_group, tt))
call_values (call.ListEntry id) = (id, tt)
call_values (call.ListEntries which after) = (which, (after, tt))
call_values (call.ChangeEntry id name owner new_id) = (id, (name, (owner, (new_id, tt))))
call_values (call.SetFields id mask flags quota) = (id, (mask, (flags, (quota, tt))))
call_values (call.ListElements id) = (id, tt)
call_values (call.IsMemberOf member group) = (member, (group, tt))
call_values (call.ListOwned id) = (id, tt)

-- a call: its number, then its fields, and nothing behind them
abbrev pub spelling : PtCall → List ℕ
spelling c = word (kind_number (call_kind c)) ++ spelled value (shape_text xdr_text) (shapes_of (call_kind c)) (call_values c)

-- the call has a spelling: its names and lists are bounded
abbrev pub HasSpelling : PtCall → Type 0
HasSpelling c = AllValues value IsBounded (shapes_of (call_kind c)) (call_values c)

abbrev pub HasItsBits : PtCall → Type 0
HasItsBits c = AllValues value IsOfItsBits (shapes_of (call_kind c)) (call_values c)

abbrev pub IsCall : PtCall → Type 0
IsCall c = HasSpelling c × HasItsBits c
