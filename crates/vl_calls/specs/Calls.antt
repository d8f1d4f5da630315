-- The calls of the location database (vlserver): their numbers, fields and spelling. The numbers and the layout are own.
use Rattle.std.specs.Prelude.{ℕ, List, [], ◌∷◌, ◌++◌, Option, Some, None, ◌==◌, if◌then◌else◌}
use Rattle.xdr_base.specs.Spelling.{word}
use Rattle.call_grammar.specs.Items.{xdr_text}
use Rattle.call_grammar.specs.Lists.{spelled}
use Rattle.call_grammar.specs.Reading.{values, AllValues}
use Rattle.vl_calls.specs.declared.calls.VlCall.{VlCall}
use Rattle.vl_calls.specs.declared.calls.VlCall.TheVariants as call
use Rattle.vl_calls.specs.declared.kinds.CallKind.{CallKind}
use Rattle.vl_calls.specs.declared.kinds.CallKind.TheVariants as kinds
use Rattle.vl_calls.specs.declared.shapes.Shape.{Shape}
use Rattle.vl_calls.specs.declared.shapes.Shape.TheVariants.{Number, Signed, Truth, Name, Entry}
use Rattle.vl_calls.specs.Shapes.{value, shape_text, IsBounded, IsOfItsBits}

-- the number of a kind, and the kind of a number
abbrev pub kind_number : CallKind → ℕ
kind_number kinds.GetNewVolumeId = 1
kind_number kinds.CreateEntry = 2
kind_number kinds.DeleteEntry = 3
kind_number kinds.GetEntryById = 4
kind_number kinds.GetEntryByName = 5
kind_number kinds.ReplaceEntry = 6
kind_number kinds.SetLock = 7
kind_number kinds.ReleaseLock = 8
kind_number kinds.ListAttributes = 9
kind_number kinds.GetAddrs = 10
kind_number kinds.ChangeAddr = 11
kind_number kinds.Probe = 12

abbrev pub kind_numbered : ℕ → Option CallKind
kind_numbered n =
    if n == 1 then Some kinds.GetNewVolumeId else if n == 2 then Some kinds.CreateEntry else if n == 3 then Some kinds.DeleteEntry
    else if n == 4 then Some kinds.GetEntryById else if n == 5 then Some kinds.GetEntryByName else if n == 6 then Some kinds.ReplaceEntry
    else if n == 7 then Some kinds.SetLock else if n == 8 then Some kinds.ReleaseLock else if n == 9 then Some kinds.ListAttributes
    else if n == 10 then Some kinds.GetAddrs else if n == 11 then Some kinds.ChangeAddr else if n == 12 then Some kinds.Probe else None

-- the fields of a call of each kind
abbrev pub shapes_of : CallKind → List Shape
shapes_of kinds.GetNewVolumeId = Number ∷ []
shapes_of kinds.CreateEntry = Entry ∷ []
shapes_of kinds.DeleteEntry = Number ∷ Signed ∷ []
shapes_of kinds.GetEntryById = Number ∷ Signed ∷ []
shapes_of kinds.GetEntryByName = Name ∷ []
shapes_of kinds.ReplaceEntry = Number ∷ Signed ∷ Entry ∷ Number ∷ []
shapes_of kinds.SetLock = Number ∷ Signed ∷ Number ∷ []
shapes_of kinds.ReleaseLock = Number ∷ Signed ∷ Number ∷ []
shapes_of kinds.ListAttributes = Number ∷ Number ∷ Signed ∷ Truth ∷ []
shapes_of kinds.GetAddrs = []
shapes_of kinds.ChangeAddr = Number ∷ Number ∷ []
shapes_of kinds.Probe = []

-- the call of a kind with these values, its kind, and its values
abbrev pub call_from : (k : CallKind) → values value (shapes_of k) → VlCall
call_from kinds.GetNewVolumeId v = call.GetNewVolumeId v.0
call_from kinds.CreateEntry v = call.CreateEntry v.0
call_from kinds.DeleteEntry v = call.DeleteEntry v.0 v.1.0
call_from kinds.GetEntryById v = call.GetEntryById v.0 v.1.0
call_from kinds.GetEntryByName v = call.GetEntryByName v.0
call_from kinds.ReplaceEntry v = call.ReplaceEntry v.0 v.1.0 v.1.1.0 v.1.1.1.0
call_from kinds.SetLock v = call.SetLock v.0 v.1.0 v.1.1.0
call_from kinds.ReleaseLock v = call.ReleaseLock v.0 v.1.0 v.1.1.0
call_from kinds.ListAttributes v = call.ListAttributes v.0 v.1.0 v.1.1.0 v.1.1.1.0
call_from kinds.GetAddrs v = call.GetAddrs
call_from kinds.ChangeAddr v = call.ChangeAddr v.0 v.1.0
call_from kinds.Probe v = call.Probe

abbrev pub call_kind : VlCall → CallKind
call_kind (call.GetNewVolumeId bump) = kinds.GetNewVolumeId
call_kind (call.CreateEntry e) = kinds.CreateEntry
call_kind (call.DeleteEntry id volume_type) = kinds.DeleteEntry
call_kind (call.GetEntryById id volume_type) = kinds.GetEntryById
call_kind (call.GetEntryByName name) = kinds.GetEntryByName
call_kind (call.ReplaceEntry id volume_type e mask) = kinds.ReplaceEntry
call_kind (call.SetLock id volume_type operation) = kinds.SetLock
call_kind (call.ReleaseLock id volume_type mask) = kinds.ReleaseLock
call_kind (call.ListAttributes after host partition locked) = kinds.ListAttributes
call_kind call.GetAddrs = kinds.GetAddrs
call_kind (call.ChangeAddr from to) = kinds.ChangeAddr
call_kind call.Probe = kinds.Probe

abbrev pub call_values : (c : VlCall) → values value (shapes_of (call_kind c))
call_values (call.GetNewVolumeId bump) = (bump, tt)
call_values (call.CreateEntry e) = (e, tt)
call_values (call.DeleteEntry id volume_type) = (id, (volume_type, tt))
call_values (call.GetEntryById id volume_type) = (id, (volume_type, tt))
call_values (call.GetEntryByName name) = (name, tt)
call_values (call.ReplaceEntry id volume_type e mask) = (id, (volume_type, (e, (mask, tt))))
call_values (call.SetLock id volume_type operation) = (id, (volume_type, (operation, tt)))
call_values (call.ReleaseLock id volume_type mask) = (id, (volume_type, (mask, tt)))
call_values (call.ListAttributes after host partition locked) = (after, (host, (partition, (locked, tt))))
call_values call.GetAddrs = tt
call_values (call.ChangeAddr from to) = (from, (to, tt))
call_values call.Probe = tt

-- a call: its number, then its fields, and nothing behind them
abbrev pub spelling : VlCall → List ℕ
spelling c = word (kind_number (call_kind c)) ++ spelled value (shape_text xdr_text) (shapes_of (call_kind c)) (call_values c)

-- the call has a spelling: its names and lists are bounded
abbrev pub HasSpelling : VlCall → Type 0
HasSpelling c = AllValues value IsBounded (shapes_of (call_kind c)) (call_values c)

abbrev pub HasItsBits : VlCall → Type 0
HasItsBits c = AllValues value IsOfItsBits (shapes_of (call_kind c)) (call_values c)

abbrev pub IsCall : VlCall → Type 0
IsCall c = HasSpelling c × HasItsBits c
