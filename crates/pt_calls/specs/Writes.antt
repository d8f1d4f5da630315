-- Which calls write.
use Rattle.std.specs.Prelude.{Bool, true, false}
use Rattle.pt_calls.specs.declared.kinds.CallKind.{CallKind}
use Rattle.pt_calls.specs.declared.kinds.CallKind.TheVariants as kinds

-- the kinds of calls that may change the database: what server and commands hold a call for
abbrev pub is_write : CallKind → Bool
is_write kinds.NewEntry = true
is_write kinds.INewEntry = true
is_write kinds.NameToId = false
is_write kinds.IdToName = false
is_write kinds.Delete = true
is_write kinds.AddToGroup = true
is_write kinds.RemoveFromGroup = true
is_write kinds.GetCps = false
is_write kinds.ListMax = false
is_write kinds.SetMax = true
is_write kinds.ListEntry = false
is_write kinds.ListEntries = false
is_write kinds.ChangeEntry = true
is_write kinds.SetFields = true
is_write kinds.ListElements = false
is_write kinds.IsMemberOf = false
is_write kinds.ListOwned = false
