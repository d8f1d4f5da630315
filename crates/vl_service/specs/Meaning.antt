-- What the calls mean (vlserver): what is decided of a call in a state at a moment, and by it the reply and the state after.
use Rattle.std.specs.Prelude.{ℕ, ℤ, pos, negsuc, ◌+◌, ◌==◌, ◌&&◌, ◌||◌, Bool, false, not, is_none, unwrap_or, List, length, take, map, filter, Option, Some, None, option_and_then, option_map, option_to_list, bit_and, nat_lt, nat_le, slice_set, if◌then◌else◌}
use Rattle.std.specs.List.{find, flat_map, list_all, list_any, position_or_len, range_with_len}
use Rattle.std.specs.Ordering.{int_eq}
use Rattle.std.specs.Str.{bytes_eq}
use Rattle.db_image.specs.declared.services.CallReply.{CallReply}
use Rattle.db_image.specs.declared.services.CallReply.TheVariants as reply
use Rattle.db_image.specs.Meaning.{Meaning}
use Rattle.vldb_entries.specs.declared.entries.VlEntry.{VlEntry}
use Rattle.vldb_entries.specs.declared.entries.VlSite.{VlSite}
use Rattle.vldb_entries.specs.Location.{Location, first_location, is_name, has_repeat, has_id, has_equal_ids, placed, with_entered, without_entry, with_addresses, with_next_volume}
use Rattle.vl_calls.specs.declared.answers.VlAnswer.{VlAnswer}
use Rattle.vl_calls.specs.declared.answers.VlAnswer.TheVariants as answer
use Rattle.vl_calls.specs.declared.calls.GivenEntry.{GivenEntry}
use Rattle.vl_calls.specs.declared.calls.VlCall.{VlCall}
use Rattle.vl_calls.specs.declared.calls.VlCall.TheVariants as call
use Rattle.vl_calls.specs.Answers.{answer_spelling}
use Rattle.vl_calls.specs.Reading.{call_of}
use Rattle.vl_service.specs.Refusals as rule

-- ---- entries

-- the greatest id
abbrev pub max_id : ℕ
max_id = 2147483647

-- the entries with one of so many read-write ids, from one on, ascending by it
unfoldable pub entries_from : (first count : ℕ) → Location → List VlEntry
entries_from first count s = flat_map (λ rw. option_to_list (s.entry rw)) (range_with_len first count)

-- all entries, ascending by read-write id
abbrev pub entries : Location → List VlEntry
entries s = entries_from 1 max_id s

abbrev pub meets : (VlEntry → Bool) → Option VlEntry → Bool
meets test None = false
meets test (Some e) = test e

-- the entry that meets a test, of those with a read-write id up to one; the first where several do
unfoldable pub first_to : (most : ℕ) → (VlEntry → Bool) → Location → Option VlEntry
first_to most test s = option_and_then s.entry (find (λ rw. meets test (s.entry rw)) (range_with_len 1 most))

-- the entry of a name
abbrev pub entry_named : Location → List ℕ → Option VlEntry
entry_named s name = first_to max_id (λ e. bytes_eq e.name name) s

-- 0 read-write, 1 read-only, 2 backup, -1 any of the three
abbrev pub is_volume_type : ℤ → Bool
is_volume_type volume_type =
    int_eq volume_type (negsuc 0) || int_eq volume_type (pos 0) || int_eq volume_type (pos 1) || int_eq volume_type (pos 2)

-- an entry has this id as its id of a type; the id 0 is no entry's
abbrev pub is_of_type : ℤ → ℕ → VlEntry → Bool
is_of_type volume_type id e =
    if int_eq volume_type (pos 0) then not (id == 0) && e.rw == id
    else if int_eq volume_type (pos 1) then not (id == 0) && e.ro == id
    else if int_eq volume_type (pos 2) then not (id == 0) && e.backup == id
    else has_id id e

abbrev pub entry_of_type : Location → ℤ → ℕ → Option VlEntry
entry_of_type s volume_type id = first_to max_id (is_of_type volume_type id) s

-- an entry as a call gives it, with this lock
abbrev pub with_lock : (operation moment : ℕ) → GivenEntry → VlEntry
with_lock operation moment e = record {
  name = e.name;
  flags = e.flags;
  rw = e.rw;
  ro = e.ro;
  backup = e.backup;
  clone_id = e.clone_id;
  sites = e.sites;
  lock_op = operation;
  lock_moment = moment;
}

-- what a mask leaves of a lock: 1 clears its moment, 2 its operation
abbrev pub operation_left : (mask : ℕ) → VlEntry → ℕ
operation_left mask e = if bit_and mask 2 == 0 then e.lock_op else 0

abbrev pub moment_left : (mask : ℕ) → VlEntry → ℕ
moment_left mask e = if bit_and mask 1 == 0 then e.lock_moment else 0

-- ---- the refusals of an entry

-- which of them hold, in their order
pub record EntryFaults : Type 0 where
  pub bad_name : Bool
  pub replicas_full : Bool
  pub no_replica : Bool
  pub bad_server : Bool
  pub bad_partition : Bool
  pub repeated_replica : Bool
  pub bad_entry : Bool
  pub name_exists : Bool
  pub id_exists : Bool
  pub size_exceeded : Bool

-- the rule of the first that holds, if one does
abbrev pub first_fault : EntryFaults → Option ℕ
first_fault f =
    if f.bad_name then Some rule.bad_name
    else if f.replicas_full then Some rule.replicas_full
    else if f.no_replica then Some rule.no_replica
    else if f.bad_server then Some rule.bad_server
    else if f.bad_partition then Some rule.bad_partition
    else if f.repeated_replica then Some rule.repeated_replica
    else if f.bad_entry then Some rule.bad_entry
    else if f.name_exists then Some rule.name_exists
    else if f.id_exists then Some rule.id_exists
    else if f.size_exceeded then Some rule.size_exceeded
    else None

-- an id that no volume has, ids of one volume that are equal, or flags that have no meaning
abbrev pub is_bad_entry : GivenEntry → Bool
is_bad_entry e =
    e.rw == 0 || nat_lt max_id e.rw || nat_lt max_id e.ro || nat_lt max_id e.backup || nat_lt max_id e.clone_id
    || has_equal_ids e.rw e.ro e.backup || not (bit_and e.flags 0x7000 == e.flags) || list_any (λ site. nat_lt 15 site.flags) e.sites

-- one of the three ids is an entry's
abbrev pub shares_id : GivenEntry → VlEntry → Bool
shares_id e f = has_id e.rw f || has_id e.ro f || has_id e.backup f

-- another entry than the one that is replaced, if one is: that of the read-write id `own`, else 0
abbrev pub is_other : (own : ℕ) → VlEntry → Bool
is_other own f = not (f.rw == own)

unfoldable pub entry_faults : Location → (own : ℕ) → GivenEntry → EntryFaults
entry_faults s own e = record {
  bad_name = not (is_name e.name);
  replicas_full = nat_lt 13 (length e.sites);
  no_replica = length e.sites == 0;
  bad_server = list_any (λ site. site.host == 0) e.sites;
  bad_partition = list_any (λ site. nat_lt 255 site.partition) e.sites;
  repeated_replica = has_repeat e.sites;
  bad_entry = is_bad_entry e;
  name_exists = list_any (λ f. is_other own f && bytes_eq f.name e.name) (entries s);
  id_exists = list_any (λ f. is_other own f && shares_id e f) (entries s);
  size_exceeded = is_none (placed e.sites s.addresses);
}

-- ---- verdicts

-- what a call changes
pub data Change : Type 0 where
  NextVolume : (id : ℕ) → Change
  -- an entry comes in, in place of that of the read-write id `own` (0: of none), and these are the addresses then
  Enter : (own : ℕ) → VlEntry → (addresses : List ℕ) → Change
  Leave : (rw : ℕ) → Change
  -- a server's address is another one, or, 0, none
  Move : (old new : ℕ) → Change

-- what is decided of a call
pub data Verdict : Type 0 where
  -- the bytes are no call
  NoCall : Verdict
  Refuses : (rule : ℕ) → Verdict
  Answers : VlAnswer → Verdict
  -- the answer, and what is changed
  Makes : VlAnswer → Change → Verdict

-- an entry is put in, with this lock, in place of the one of the read-write id `own`
abbrev pub entered : Location → (own operation moment : ℕ) → GivenEntry → Change
entered s own operation moment e = Enter own (with_lock operation moment e) (unwrap_or (placed e.sites s.addresses) s.addresses)

abbrev pub entered_unless : Option ℕ → Change → Verdict
entered_unless None change = Makes answer.Done change
entered_unless (Some fault) change = Refuses fault

abbrev pub new_volume_id : Location → ℕ → Verdict
new_volume_id s bump =
    if nat_lt 20 bump || nat_lt max_id (s.next_volume + bump) then Refuses rule.bad_bump
    else Makes (answer.Id s.next_volume) (NextVolume (s.next_volume + bump))

abbrev pub created : Location → GivenEntry → Verdict
created s e = entered_unless (first_fault (entry_faults s 0 e)) (entered s 0 0 0 e)

-- of the entry that a call names, if there is one
abbrev pub of_entry : Option VlEntry → (VlEntry → Verdict) → Verdict
of_entry None goes = Refuses rule.no_entry
of_entry (Some e) goes = goes e

-- the entry is told
abbrev pub told : VlEntry → Verdict
told e = Answers (answer.Entry e)

-- the entry leaves
abbrev pub leaves : VlEntry → Verdict
leaves e = Makes answer.Done (Leave e.rw)

-- of the entry of a name, which is to be one
abbrev pub named_verdict : Location → List ℕ → Verdict
named_verdict s name = if is_name name then of_entry (entry_named s name) told else Refuses rule.bad_name

-- the same, by an id and a type
abbrev pub of_id : Location → ℤ → ℕ → (VlEntry → Verdict) → Verdict
of_id s volume_type id goes =
    if is_volume_type volume_type then of_entry (entry_of_type s volume_type id) goes else Refuses rule.bad_volume_type

-- a mask of more than both bits is refused, behind a bad type
abbrev pub of_masked : Location → ℤ → ℕ → (mask : ℕ) → (VlEntry → Verdict) → Verdict
of_masked s volume_type id mask goes =
    if not (is_volume_type volume_type) then Refuses rule.bad_volume_type
    else if nat_lt 3 mask then Refuses rule.bad_release
    else of_entry (entry_of_type s volume_type id) goes

abbrev pub replaced : Location → GivenEntry → (mask : ℕ) → VlEntry → Verdict
replaced s e mask old =
    entered_unless (first_fault (entry_faults s old.rw e)) (entered s old.rw (operation_left mask old) (moment_left mask old) e)

-- move, release, backup, delete (and a change of sites), dump
abbrev pub is_operation : ℕ → Bool
is_operation operation = operation == 0x10 || operation == 0x20 || operation == 0x40 || operation == 0x80 || operation == 0x100

abbrev pub locked_by : Location → (operation now : ℕ) → VlEntry → Verdict
locked_by s operation now e =
    if e.lock_op == 0 then Makes answer.Done
    (Enter e.rw (record e { lock_op = operation; lock_moment = now }) s.addresses) else Refuses rule.entry_locked

abbrev pub lock_set : Location → ℤ → ℕ → (operation now : ℕ) → Verdict
lock_set s volume_type id operation now =
    if not (is_volume_type volume_type) then Refuses rule.bad_volume_type
    else if not (is_operation operation) then Refuses rule.bad_operation
    else of_entry (entry_of_type s volume_type id) (locked_by s operation now)

abbrev pub lock_released : Location → (mask : ℕ) → VlEntry → Verdict
lock_released s mask e =
    Makes answer.Done (Enter e.rw (record e { lock_op = operation_left mask e; lock_moment = moment_left mask e }) s.addresses)

-- a site of this server, 0 for any, and this partition, -1 for any
abbrev pub is_site : (host : ℕ) → (partition : ℤ) → VlSite → Bool
is_site host partition site = (host == 0 || site.host == host) && (int_eq partition (negsuc 0) || int_eq partition (pos site.partition))

abbrev pub is_listed : (after host : ℕ) → (partition : ℤ) → (locked : Bool) → VlEntry → Bool
is_listed after host partition locked e =
    nat_lt after e.rw && list_any (is_site host partition) e.sites && (not locked || not (e.lock_op == 0))

abbrev pub is_partition : ℤ → Bool
is_partition (pos n) = nat_le n 255
is_partition (negsuc n) = n == 0

abbrev pub page : Location → (after host : ℕ) → (partition : ℤ) → (locked : Bool) → Verdict
page s after host partition locked =
    if is_partition partition then Answers (answer.Entries (take 100 (filter (is_listed after host partition locked) (entries s))))
    else Refuses rule.bad_partition

-- the addresses that are used, in the order of their places
abbrev pub used : Location → List ℕ
used s = filter (λ host. not (host == 0)) s.addresses

abbrev pub has_address : Location → ℕ → Bool
has_address s host = not (host == 0) && list_any (λ a. a == host) s.addresses

-- the place of an address has another one
abbrev pub with_place_of : (old new : ℕ) → List ℕ → List ℕ
with_place_of old new addresses = slice_set addresses (position_or_len (λ a. a == old) addresses) new

abbrev pub moved : (old new : ℕ) → VlSite → VlSite
moved old new site = record site { host = if site.host == old then new else site.host }

abbrev pub with_moved : (old new : ℕ) → VlEntry → VlEntry
with_moved old new e = record e { sites = map (moved old new) e.sites }

abbrev pub with_moved_sites : (old new : ℕ) → Location → Location
with_moved_sites old new s = record s { entry = λ rw. option_map (with_moved old new) (s.entry rw) }

abbrev pub has_site_at : ℕ → VlEntry → Bool
has_site_at host e = list_any (λ site. site.host == host) e.sites

abbrev pub address_changed : Location → (old new : ℕ) → Verdict
address_changed s old new =
    if not (has_address s old) then Refuses rule.no_entry
    else if has_address s new then Refuses rule.bad_server
    else if new == 0 && list_any (has_site_at old) (entries s) then Refuses rule.bad_entry
    else Makes answer.Done (Move old new)

-- ---- what is changed

abbrev pub state_after : Change → Location → Location
state_after (NextVolume id) s = with_next_volume id s
state_after (Enter own e addresses) s = with_entered own e (with_addresses addresses s)
state_after (Leave rw) s = without_entry rw s
state_after (Move old new) s = with_moved_sites old new (with_addresses (with_place_of old new s.addresses) s)

-- ---- one case a call

unfoldable pub verdict : Location → (now : ℕ) → Option VlCall → Verdict
verdict s now None = NoCall
verdict s now (Some (call.GetNewVolumeId bump)) = new_volume_id s bump
verdict s now (Some (call.CreateEntry e)) = created s e
verdict s now (Some (call.DeleteEntry id volume_type)) = of_id s volume_type id leaves
verdict s now (Some (call.GetEntryById id volume_type)) = of_id s volume_type id told
verdict s now (Some (call.GetEntryByName name)) = named_verdict s name
verdict s now (Some (call.ReplaceEntry id volume_type e mask)) = of_masked s volume_type id mask (replaced s e mask)
verdict s now (Some (call.SetLock id volume_type operation)) = lock_set s volume_type id operation now
verdict s now (Some (call.ReleaseLock id volume_type mask)) = of_masked s volume_type id mask (lock_released s mask)
verdict s now (Some (call.ListAttributes after host partition locked)) = page s after host partition locked
verdict s now (Some call.GetAddrs) = Answers (answer.Hosts (used s))
verdict s now (Some (call.ChangeAddr from to)) = address_changed s from to
verdict s now (Some call.Probe) = Answers answer.Done

abbrev pub reply_by : Verdict → CallReply
reply_by NoCall = reply.Malformed
reply_by (Refuses rule) = reply.Rule rule
reply_by (Answers a) = reply.Done (answer_spelling a)
reply_by (Makes a change) = reply.Done (answer_spelling a)

-- a refusal leaves the state
abbrev pub state_by : Verdict → Location → Location
state_by (Makes a change) s = state_after change s
state_by _ s = s

-- the call that bytes spell at a moment; a moment is a word, and bytes are below 256
abbrev pub asked : (now : ℕ) → List ℕ → Option VlCall
asked now bytes = if nat_lt now 4294967296 && list_all (λ b. nat_lt b 256) bytes then call_of bytes else None

abbrev pub vl_meaning : Meaning Location
vl_meaning = record {
  first = first_location;
  call = λ s now bytes. let v = verdict s now (asked now bytes) in record { reply = reply_by v; state = state_by v s };
}
