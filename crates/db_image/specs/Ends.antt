-- How a call on a draft ends.
use Rattle.std.specs.Prelude.{ℕ, ◌≡◌, ◌≤◌, Bool, List, Option, Some, None, IsSome, length}
use Rattle.db_image.specs.declared.faults.RecordFault.{RecordFault}
use Rattle.db_image.specs.declared.faults.RecordFault.TheVariants as fault
use Rattle.db_image.specs.declared.draft_services.CallEnd.{CallEnd}
use Rattle.db_image.specs.declared.draft_services.CallEnd.TheVariants as end
use Rattle.db_image.specs.declared.services.CallReply.{CallReply}
use Rattle.db_image.specs.declared.services.CallReply.TheVariants as reply
use Rattle.db_image.specs.Database.{Outcome}

-- the end that gives a reply
abbrev pub end_of : CallReply → CallEnd
end_of (reply.Done fields) = end.Done fields
end_of (reply.Rule number) = end.Rule number
end_of reply.Malformed = end.Malformed
end_of (reply.BadRecord at) = end.BadRecord at

-- the end that a fault makes
abbrev pub end_by : RecordFault → CallEnd
end_by fault.DiskFault = end.DiskFault
end_by (fault.BadRecord at) = end.BadRecord at
end_by fault.NoMemory = end.NoMemory

-- A call ended by this outcome, with these bytes of the draft after it. A fault of what holds the image and want of memory say
-- nothing of the draft, which is then to be dropped.
abbrev pub EndsBy : Outcome → CallEnd → Option (List ℕ) → Type 0
EndsBy o end.DiskFault after = Unit {0}
EndsBy o end.NoMemory after = Unit {0}
EndsBy o (end.Done fields) after = (end.Done fields ≡ end_of o.reply) × (after ≡ Some o.image)
EndsBy o (end.Rule number) after = (end.Rule number ≡ end_of o.reply) × (after ≡ Some o.image)
EndsBy o end.Malformed after = (end.Malformed ≡ end_of o.reply) × (after ≡ Some o.image)
EndsBy o (end.BadRecord at) after = (end.BadRecord at ≡ end_of o.reply) × (after ≡ Some o.image)

-- an answer has no more bytes than this, whatever the image holds
abbrev pub IsShort : CallEnd → Type 0
IsShort (end.Done fields) = length fields ≤ 1048576
IsShort ended = Unit {0}

-- a call ended by what was decided of it, and not by a fault or as no call; its answer is short
abbrev pub IsDecided : CallEnd → Type 0
IsDecided (end.Done fields) = length fields ≤ 1048576
IsDecided (end.Rule number) = Unit {0}
IsDecided end.Malformed = ⊥
IsDecided (end.BadRecord at) = ⊥
IsDecided end.DiskFault = ⊥
IsDecided end.NoMemory = ⊥

-- Bytes that are no call end as malformed, and no call does, whatever the image holds. `writes` is what the database tells of the bytes;
-- want of memory is free.
abbrev pub KeepsGrammar : (writes : Option Bool) → CallEnd → Type 0
KeepsGrammar writes end.Malformed = writes ≡ None
KeepsGrammar writes end.NoMemory = Unit {0}
KeepsGrammar writes ended = IsSome writes
