-- Which calls write.
use Rattle.std.specs.Prelude.{Bool, true, false}
use Rattle.vl_calls.specs.declared.kinds.CallKind.{CallKind}
use Rattle.vl_calls.specs.declared.kinds.CallKind.TheVariants as kinds

-- the kinds of calls that may change the database: what server and commands hold a call for
abbrev pub is_write : CallKind → Bool
is_write kinds.GetNewVolumeId = true
is_write kinds.CreateEntry = true
is_write kinds.DeleteEntry = true
is_write kinds.GetEntryById = false
is_write kinds.GetEntryByName = false
is_write kinds.ReplaceEntry = true
is_write kinds.SetLock = true
is_write kinds.ReleaseLock = true
is_write kinds.ListAttributes = false
is_write kinds.GetAddrs = false
is_write kinds.ChangeAddr = true
is_write kinds.Probe = false
