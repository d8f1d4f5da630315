-- What is decided of a call: one that only reads changes nothing, and each is answered as a call.
use Rattle.std.specs.Prelude.{◌≡◌, ◌+◌, ◌&&◌, ◌||◌, ◌==◌, ℕ, ℤ, Bool, true, false, List, Option, Some, None, nat_lt, not}
use Rattle.std.specs.List.{list_all, list_any}
use Rattle.std.proofs.Common.{ap, cond, refl}
use Rattle.vl_calls.specs.declared.answers.VlAnswer.TheVariants as answer
use Rattle.vl_calls.specs.declared.calls.VlCall.{VlCall}
use Rattle.vl_calls.specs.declared.calls.VlCall.TheVariants as call
use Rattle.vl_calls.specs.Calls.{call_kind}
use Rattle.vl_calls.specs.Reading.{call_of}
use Rattle.vl_calls.specs.Writes.{is_write}
use Rattle.vldb_entries.specs.declared.entries.VlEntry.{VlEntry}
use Rattle.vldb_entries.specs.Location.{Location, is_name}
use Rattle.vl_service.specs.Meaning.{Answers, Change, Makes, NoCall, Refuses, Verdict, asked, entered_unless, entries, entry_named, entry_of_type, has_address, has_site_at}
use Rattle.vl_service.specs.Meaning.{is_operation, is_partition, is_volume_type, max_id, named_verdict, of_entry, of_id, of_masked, page, told, verdict}
use Rattle.vl_service.specs.Refusals as rule
use Rattle.vl_service.specs.Standing.{image_by}
use Rattle.vl_database.specs.Service.{moment_word, spelled_call}

-- ---- a call that only reads

-- nothing is changed by it
abbrev pub IsLook : Verdict → Type 0
IsLook NoCall = Unit {0}
IsLook (Refuses fault) = Unit {0}
IsLook (Answers a) = Unit {0}
IsLook (Makes a change) = ⊥

look_either : (b : Bool) (v w : Verdict) → IsLook v → IsLook w → IsLook (cond b v w)
look_either true v w is_v is_w = is_v
look_either false v w is_v is_w = is_w

look_told : (o : Option VlEntry) → IsLook (of_entry o told)
look_told None = tt
look_told (Some e) = tt

pub named_look : (s : Location) (name : List ℕ) → IsLook (named_verdict s name)
named_look s name =
    look_either (is_name name) (of_entry (entry_named s name) told) (Refuses rule.bad_name) (look_told (entry_named s name)) tt

pub by_id_look : (s : Location) (volume_type : ℤ) (id : ℕ) → IsLook (of_id s volume_type id told)
by_id_look s volume_type id =
    look_either (is_volume_type volume_type) (of_entry (entry_of_type s volume_type id) told) (Refuses rule.bad_volume_type)
    (look_told (entry_of_type s volume_type id)) tt

page_look : (s : Location) (after host : ℕ) (partition : ℤ) (locked : Bool) → IsLook (page s after host partition locked)
page_look s after host partition locked =
    look_either (is_partition partition) (Answers (answer.Entries _)) (Refuses rule.bad_partition) tt tt

-- a call that is no write changes nothing
pub reads_look : (s : Location) (now : ℕ) (c : VlCall) → is_write (call_kind c) ≡ false → IsLook (verdict s now (Some c))
unfolding verdict
reads_look s now (call.GetEntryById id volume_type) is = by_id_look s volume_type id
reads_look s now (call.GetEntryByName name) is = named_look s name
reads_look s now (call.ListAttributes after host partition locked) is = page_look s after host partition locked
reads_look s now call.GetAddrs is = tt
reads_look s now call.Probe is = tt
reads_look s now (call.GetNewVolumeId bump) is = absurd cc
reads_look s now (call.CreateEntry e) is = absurd cc
reads_look s now (call.DeleteEntry id volume_type) is = absurd cc
reads_look s now (call.ReplaceEntry id volume_type e mask) is = absurd cc
reads_look s now (call.SetLock id volume_type operation) is = absurd cc
reads_look s now (call.ReleaseLock id volume_type mask) is = absurd cc
reads_look s now (call.ChangeAddr from to) is = absurd cc

pub image_same : (v : Verdict) (s : Location) (image : List ℕ) → IsLook v → image_by v s image ≡ image
image_same NoCall s image is = refl
image_same (Refuses fault) s image is = refl
image_same (Answers a) s image is = refl
image_same (Makes a change) s image is = absurd is

-- ---- a call is answered as one

-- not as bytes that are no call
abbrev pub IsAnswer : Verdict → Type 0
IsAnswer NoCall = ⊥
IsAnswer _ = Unit {0}

either : (b : Bool) (v w : Verdict) → IsAnswer v → IsAnswer w → IsAnswer (cond b v w)
either true v w h k = h
either false v w h k = k

entry_answers : (o : Option VlEntry) (goes : VlEntry → Verdict) → ((e : VlEntry) → IsAnswer (goes e)) → IsAnswer (of_entry o goes)
entry_answers None goes each = tt
entry_answers (Some e) goes each = each e

unless_answers : (o : Option ℕ) (change : Change) → IsAnswer (entered_unless o change)
unless_answers None change = tt
unless_answers (Some fault) change = tt

id_answers : (s : Location) (volume_type : ℤ) (id : ℕ) (goes : VlEntry → Verdict) → ((e : VlEntry) → IsAnswer (goes e))
    → IsAnswer (of_id s volume_type id goes)
id_answers s volume_type id goes each =
    either (is_volume_type volume_type) _ _ (entry_answers (entry_of_type s volume_type id) goes each) tt

masked_answers : (s : Location) (volume_type : ℤ) (id mask : ℕ) (goes : VlEntry → Verdict) → ((e : VlEntry) → IsAnswer (goes e))
    → IsAnswer (of_masked s volume_type id mask goes)
masked_answers s volume_type id mask goes each =
    either (not (is_volume_type volume_type)) _ _ tt
    (either (nat_lt 3 mask) _ _ tt (entry_answers (entry_of_type s volume_type id) goes each))

pub call_answers : (s : Location) (now : ℕ) (c : VlCall) → IsAnswer (verdict s now (Some c))
unfolding verdict
call_answers s now (call.GetNewVolumeId bump) = either (nat_lt 20 bump || nat_lt max_id (s.next_volume + bump)) _ _ tt tt
call_answers s now (call.CreateEntry e) = unless_answers _ _
call_answers s now (call.DeleteEntry id volume_type) = id_answers s volume_type id _ (λ e. tt)
call_answers s now (call.GetEntryById id volume_type) = id_answers s volume_type id _ (λ e. tt)
call_answers s now (call.GetEntryByName name) = either (is_name name) _ _ (entry_answers (entry_named s name) _ (λ e. tt)) tt
call_answers s now (call.ReplaceEntry id volume_type e mask) = masked_answers s volume_type id mask _ (λ old. unless_answers _ _)
call_answers s now (call.SetLock id volume_type operation) =
    either (not (is_volume_type volume_type)) _ _ tt
    (either (not (is_operation operation)) _ _ tt
    (entry_answers (entry_of_type s volume_type id) _ (λ e. either (e.lock_op == 0) _ _ tt tt)))
call_answers s now (call.ReleaseLock id volume_type mask) = masked_answers s volume_type id mask _ (λ e. tt)
call_answers s now (call.ListAttributes after host partition locked) = either (is_partition partition) _ _ tt tt
call_answers s now call.GetAddrs = tt
call_answers s now (call.ChangeAddr from to) =
    either (not (has_address s from)) _ _ tt
    (either (has_address s to) _ _ tt (either (to == 0 && list_any (has_site_at from) (entries s)) _ _ tt tt))
call_answers s now call.Probe = tt

-- ---- the moment

word_low : (now : ℕ) (b : Bool) → nat_lt now 4294967296 ≡ b → nat_lt (cond b now 0) 4294967296 ≡ true
word_low now true is = is
word_low now false is = refl

-- the call that bytes spell is the same at each moment
pub same_call : (now : ℕ) (bytes : List ℕ) → asked (moment_word now) bytes ≡ spelled_call bytes
same_call now bytes =
    ap (λ (b : Bool). cond (b && list_all (λ x. nat_lt x 256) bytes) (call_of bytes) None) (word_low now (nat_lt now 4294967296) refl)
