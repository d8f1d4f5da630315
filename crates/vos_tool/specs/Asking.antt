-- Calls of the location database, asked of the hosts.
use Rattle.std.specs.Prelude.{ℕ, List, Option}
use Rattle.vl_calls.specs.Calls.{call_kind, spelling}
use Rattle.vl_calls.specs.declared.calls.VlCall.{VlCall}
use Rattle.vl_calls.specs.Writes.{is_write}
use Rattle.vldb_entries.specs.declared.entries.VlEntry.{VlEntry}
use Rattle.tool_base.specs.Asking.{asks_call}
use Rattle.tool_base.specs.Course.{Course}
use Rattle.vos_tool.specs.Answers.{done_in, entry_in, hosts_in, id_in, page_in}

-- a call, whose answers are read so
abbrev pub asks : {A : Type 0} → (List ℕ → Option A) → VlCall → Course A
asks read c = asks_call (is_write (call_kind c)) read (spelling c)

abbrev pub asks_done : VlCall → Course (Unit {0})
asks_done c = asks done_in c

abbrev pub asks_id : VlCall → Course ℕ
asks_id c = asks id_in c

abbrev pub asks_entry : VlCall → Course VlEntry
asks_entry c = asks entry_in c

abbrev pub asks_page : ℕ → VlCall → Course (List VlEntry)
asks_page after c = asks (page_in after) c

abbrev pub asks_hosts : VlCall → Course (List ℕ)
asks_hosts c = asks hosts_in c
