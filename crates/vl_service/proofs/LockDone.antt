-- Another lock of an entry.
use Rattle.std.proofs.Common.{◌≡◌, ℕ, ℤ, ◌<◌, Bool, true, false, not, cond, eqb, List, Option, Some, None, IsSome, IfSome, refl, sym, ap, subst, ◌∙◌}
use Rattle.std.specs.Prelude.{nat_lt}
use Rattle.std.specs.Option.{option_map}
use Rattle.std.proofs.lemmas.Bool.{false_from_ne_true}
use Rattle.std.proofs.lemmas.Slice.Eq.{bytes_eq-Decides}
use Rattle.db_image.specs.Ends.{end_of}
use Rattle.db_image.specs.declared.draft_services.CallEnd.{CallEnd}
use Rattle.db_image.specs.declared.faults.RecordFault.{RecordFault}
use Rattle.db_image.specs.declared.faults.RecordFault.TheVariants.{DiskFault, BadRecord, NoMemory}
use Rattle.vldb_entries.specs.declared.entries.VlEntry.{VlEntry}
use Rattle.vldb_records.specs.Ends.{HasCauseWhere, HasItsCause}
use Rattle.vldb_entries.specs.Location.{Location, IsLocation, MayReplace, has_id}
use Rattle.vldb_records.specs.Changes.{after_insert, after_replace, after_set_places}
use Rattle.vldb_records.specs.Records.{Holds}
use Rattle.vldb_entries.proofs.EntryAgain.{not_zero}
use Rattle.vl_service.proofs.FittingEntries.{record_fits}
use Rattle.vl_service.proofs.Found.{typed_there}
use Rattle.vl_calls.specs.declared.answers.VlAnswer.TheVariants as answer
use Rattle.vl_service.specs.Fitting.{entry_fits}
use Rattle.vl_service.specs.Meaning.{Answers, Enter, Makes, Refuses, Verdict, entry_of_type, is_operation, is_volume_type, lock_released, lock_set, locked_by, moment_left, of_entry, of_masked, operation_left, reply_by}
use Rattle.vl_service.specs.Refusals.{bad_operation, bad_release, bad_volume_type, entry_locked, no_entry}
use Rattle.vl_service.specs.Standing.{IsDone, image_after, image_by, readdressed}

-- ---- a call in a state

-- a call that is refused in each state that the image may hold
pub refusal_done : (bytes after : Option (List ℕ)) (v : Location → Verdict) (number : ℕ) (ended : CallEnd)
    → IfSome bytes (λ image. (s : Location) → Holds image s → v s ≡ Refuses number) → ended ≡ end_of (reply_by (Refuses number))
    → after ≡ bytes
    → IfSome bytes (λ image. (s : Location) → Holds image s → IsDone (v s) s image ended after)
refusal_done None after v number ended is told same = tt
refusal_done (Some image) after v number ended is told same = λ s holds. record {
  reply = told ∙ ap (λ (w : Verdict). end_of (reply_by w)) (sym (is s holds));
  leaves = same ∙ ap (λ (w : Verdict). Some (image_by w s image)) (sym (is s holds));
}

-- an entry in its own place, the addresses as they are
own_place : (s : Location) (own : ℕ) (x : VlEntry) (image : List ℕ) → 0 < own
    → image_after (Enter own x s.addresses) s image ≡ after_replace own x image
own_place s own x image low =
    ap (λ (b : Bool). cond b (after_insert x (readdressed s.addresses s image)) (after_replace own x (readdressed s.addresses s image)))
    (not_zero own low)
    ∙ ap (λ (b : Bool). after_replace own x (cond b image (after_set_places s.addresses image)))
    ((bytes_eq-Decides s.addresses s.addresses).1 refl)

-- an entry that is there is put in with another lock
relocked : (s : Location) (image : List ℕ) (v : Verdict) (own : ℕ) (x : VlEntry) (ended : CallEnd) (after : Option (List ℕ))
    → v ≡ Makes answer.Done (Enter own x s.addresses) → 0 < own → ended ≡ end_of (reply_by (Answers answer.Done))
    → after ≡ Some (after_replace own x image)
    → IsDone v s image ended after
relocked s image v own x ended after is low told changed = record {
  reply = told ∙ ap (λ (w : Verdict). end_of (reply_by w)) (sym is);
  leaves =
      changed ∙ ap (λ (i : List ℕ). Some i) (sym (own_place s own x image low)) ∙ ap (λ (w : Verdict). Some (image_by w s image)) (sym is);
}

-- the same of a call that names the entry by an id and a type
relocked_done : (bytes mid after : Option (List ℕ)) (v : Location → Verdict) (volume_type : ℤ) (id : ℕ) (e x : VlEntry) (ended : CallEnd)
    → IfSome bytes (λ image. (s : Location) → Holds image s → entry_of_type s volume_type id ≡ Some e)
    → ((s : Location) → entry_of_type s volume_type id ≡ Some e → v s ≡ Makes answer.Done (Enter e.rw x s.addresses))
    → ended ≡ end_of (reply_by (Answers answer.Done)) → mid ≡ bytes → after ≡ option_map (after_replace e.rw x) mid
    → IfSome bytes (λ image. (s : Location) → Holds image s → IsDone (v s) s image ended after)
relocked_done None mid after v volume_type id e x ended found is told same changed = tt
relocked_done (Some image) mid after v volume_type id e x ended found is told same changed = λ s holds.
    let at = found s holds in
    let there = typed_there s volume_type id e holds.valid at in
    relocked s image (v s) e.rw x ended after (is s at) (holds.valid.records e.rw e there).rw_low told
    (changed ∙ ap (option_map (after_replace e.rw x)) same)

-- ---- setting it

set_is : (s : Location) (volume_type : ℤ) (id operation now : ℕ) (a b : Bool) → is_volume_type volume_type ≡ a → is_operation operation ≡ b
    → lock_set s volume_type id operation now
    ≡ cond (not a) (Refuses bad_volume_type)
    (cond (not b) (Refuses bad_operation) (of_entry (entry_of_type s volume_type id) (locked_by s operation now)))
set_is s volume_type id operation now a b form known =
    let last = of_entry (entry_of_type s volume_type id) (locked_by s operation now) in
    ap (λ (t : Bool). cond (not t) (Refuses bad_volume_type) (cond (not (is_operation operation)) (Refuses bad_operation) last)) form
    ∙ ap (λ (t : Bool). cond (not a) (Refuses bad_volume_type) (cond (not t) (Refuses bad_operation) last)) known

pub set_bad_type : (bytes : Option (List ℕ)) (volume_type : ℤ) (id operation now : ℕ) (ended : CallEnd) → is_volume_type volume_type ≡ false
    → ended ≡ end_of (reply_by (Refuses bad_volume_type))
    → IfSome bytes (λ image. (s : Location) → Holds image s → IsDone (lock_set s volume_type id operation now) s image ended bytes)
set_bad_type None volume_type id operation now ended form told = tt
set_bad_type (Some image) volume_type id operation now ended form told =
    refusal_done (Some image) (Some image) (λ s. lock_set s volume_type id operation now) bad_volume_type ended
    (λ s holds. set_is s volume_type id operation now false (is_operation operation) form refl) told refl

pub set_bad_operation : (bytes : Option (List ℕ)) (volume_type : ℤ) (id operation now : ℕ) (ended : CallEnd)
    → is_volume_type volume_type ≡ true
    → is_operation operation ≡ false → ended ≡ end_of (reply_by (Refuses bad_operation))
    → IfSome bytes (λ image. (s : Location) → Holds image s → IsDone (lock_set s volume_type id operation now) s image ended bytes)
set_bad_operation None volume_type id operation now ended form known told = tt
set_bad_operation (Some image) volume_type id operation now ended form known told =
    refusal_done (Some image) (Some image) (λ s. lock_set s volume_type id operation now) bad_operation ended
    (λ s holds. set_is s volume_type id operation now true false form known) told refl

pub set_no_entry : (bytes after : Option (List ℕ)) (volume_type : ℤ) (id operation now : ℕ) (ended : CallEnd)
    → is_volume_type volume_type ≡ true
    → is_operation operation ≡ true → IfSome bytes (λ image. (s : Location) → Holds image s → entry_of_type s volume_type id ≡ None)
    → ended ≡ end_of (reply_by (Refuses no_entry)) → after ≡ bytes
    → IfSome bytes (λ image. (s : Location) → Holds image s → IsDone (lock_set s volume_type id operation now) s image ended after)
set_no_entry None after volume_type id operation now ended form known none told same = tt
set_no_entry (Some image) after volume_type id operation now ended form known none told same =
    refusal_done (Some image) after (λ s. lock_set s volume_type id operation now) no_entry ended
    (λ s holds. set_is s volume_type id operation now true true form known
    ∙ ap (λ (o : Option VlEntry). of_entry o (locked_by s operation now)) (none s holds)) told same

is_not : (b : Bool) → not b ≡ false → b ≡ true
is_not true none = refl
is_not false none = absurd cc

not_is : (b : Bool) → not b ≡ true → b ≡ false
not_is true some = absurd cc
not_is false some = refl

-- what setting the lock of an entry comes to, by whether it is free
of_free : (s : Location) (volume_type : ℤ) (id operation now : ℕ) (e : VlEntry) (free : Bool) → is_volume_type volume_type ≡ true
    → is_operation operation ≡ true
    → entry_of_type s volume_type id ≡ Some e → eqb e.lock_op 0 ≡ free
    → lock_set s volume_type id operation now
    ≡ cond free (Makes answer.Done (Enter e.rw (record e { lock_op = operation; lock_moment = now }) s.addresses)) (Refuses entry_locked)
of_free s volume_type id operation now e free form known found is =
    set_is s volume_type id operation now true true form known ∙ ap (λ (o : Option VlEntry). of_entry o (locked_by s operation now)) found
    ∙ ap (λ (b : Bool). cond b (Makes answer.Done (Enter e.rw (record e { lock_op = operation; lock_moment = now }) s.addresses))
    (Refuses entry_locked)) is

pub set_locked : (bytes after : Option (List ℕ)) (volume_type : ℤ) (id operation now : ℕ) (e : VlEntry) (ended : CallEnd)
    → is_volume_type volume_type ≡ true
    → is_operation operation ≡ true → IfSome bytes (λ image. (s : Location) → Holds image s → entry_of_type s volume_type id ≡ Some e)
    → not (eqb e.lock_op 0) ≡ true
    → ended ≡ end_of (reply_by (Refuses entry_locked)) → after ≡ bytes
    → IfSome bytes (λ image. (s : Location) → Holds image s → IsDone (lock_set s volume_type id operation now) s image ended after)
set_locked None after volume_type id operation now e ended form known found locked told same = tt
set_locked (Some image) after volume_type id operation now e ended form known found locked told same =
    refusal_done (Some image) after (λ s. lock_set s volume_type id operation now) entry_locked ended
    (λ s holds. of_free s volume_type id operation now e false form known (found s holds) (not_is (eqb e.lock_op 0) locked)) told same

pub set_done : (bytes mid after : Option (List ℕ)) (volume_type : ℤ) (id operation now : ℕ) (e : VlEntry) (ended : CallEnd)
    → is_volume_type volume_type ≡ true
    → is_operation operation ≡ true → IfSome bytes (λ image. (s : Location) → Holds image s → entry_of_type s volume_type id ≡ Some e)
    → not (eqb e.lock_op 0) ≡ false
    → ended ≡ end_of (reply_by (Answers answer.Done)) → mid ≡ bytes
    → after ≡ option_map (after_replace e.rw (record e { lock_op = operation; lock_moment = now })) mid
    → IfSome bytes (λ image. (s : Location) → Holds image s → IsDone (lock_set s volume_type id operation now) s image ended after)
set_done bytes mid after volume_type id operation now e ended form known found free told same changed =
    relocked_done bytes mid after (λ s. lock_set s volume_type id operation now) volume_type id e
    (record e { lock_op = operation; lock_moment = now }) ended found
    (λ s at. of_free s volume_type id operation now e true form known at (is_not (eqb e.lock_op 0) free)) told same changed

-- ---- clearing what a mask names

pub masked_is : (s : Location) (volume_type : ℤ) (id mask : ℕ) (goes : VlEntry → Verdict) (a b : Bool) → is_volume_type volume_type ≡ a
    → nat_lt 3 mask ≡ b
    → of_masked s volume_type id mask goes ≡ cond (not a) (Refuses bad_volume_type)
    (cond b (Refuses bad_release) (of_entry (entry_of_type s volume_type id) goes))
masked_is s volume_type id mask goes a b form more =
    let last = of_entry (entry_of_type s volume_type id) goes in
    ap (λ (t : Bool). cond (not t) (Refuses bad_volume_type) (cond (nat_lt 3 mask) (Refuses bad_release) last)) form
    ∙ ap (λ (t : Bool). cond (not a) (Refuses bad_volume_type) (cond t (Refuses bad_release) last)) more

pub masked_bad_type : (bytes : Option (List ℕ)) (volume_type : ℤ) (id mask : ℕ) (goes : Location → VlEntry → Verdict) (ended : CallEnd)
    → is_volume_type volume_type ≡ false → ended ≡ end_of (reply_by (Refuses bad_volume_type))
    → IfSome bytes (λ image. (s : Location) → Holds image s → IsDone (of_masked s volume_type id mask (goes s)) s image ended bytes)
masked_bad_type None volume_type id mask goes ended form told = tt
masked_bad_type (Some image) volume_type id mask goes ended form told =
    refusal_done (Some image) (Some image) (λ s. of_masked s volume_type id mask (goes s)) bad_volume_type ended
    (λ s holds. masked_is s volume_type id mask (goes s) false (nat_lt 3 mask) form refl) told refl

pub masked_bad_mask : (bytes : Option (List ℕ)) (volume_type : ℤ) (id mask : ℕ) (goes : Location → VlEntry → Verdict) (ended : CallEnd)
    → is_volume_type volume_type ≡ true → nat_lt 3 mask ≡ true → ended ≡ end_of (reply_by (Refuses bad_release))
    → IfSome bytes (λ image. (s : Location) → Holds image s → IsDone (of_masked s volume_type id mask (goes s)) s image ended bytes)
masked_bad_mask None volume_type id mask goes ended form more told = tt
masked_bad_mask (Some image) volume_type id mask goes ended form more told =
    refusal_done (Some image) (Some image) (λ s. of_masked s volume_type id mask (goes s)) bad_release ended
    (λ s holds. masked_is s volume_type id mask (goes s) true true form more) told refl

pub masked_no_entry : (bytes after : Option (List ℕ)) (volume_type : ℤ) (id mask : ℕ) (goes : Location → VlEntry → Verdict)
    (ended : CallEnd)
    → is_volume_type volume_type ≡ true → nat_lt 3 mask ≡ false
    → IfSome bytes (λ image. (s : Location) → Holds image s → entry_of_type s volume_type id ≡ None)
    → ended ≡ end_of (reply_by (Refuses no_entry)) → after ≡ bytes
    → IfSome bytes (λ image. (s : Location) → Holds image s → IsDone (of_masked s volume_type id mask (goes s)) s image ended after)
masked_no_entry None after volume_type id mask goes ended form less none told same = tt
masked_no_entry (Some image) after volume_type id mask goes ended form less none told same =
    refusal_done (Some image) after (λ s. of_masked s volume_type id mask (goes s)) no_entry ended
    (λ s holds. masked_is s volume_type id mask (goes s) true false form less
    ∙ ap (λ (o : Option VlEntry). of_entry o (goes s)) (none s holds)) told same

released_is : (s : Location) (volume_type : ℤ) (id mask operation moment : ℕ) (e : VlEntry) → is_volume_type volume_type ≡ true
    → nat_lt 3 mask ≡ false
    → operation ≡ operation_left mask e → moment ≡ moment_left mask e → entry_of_type s volume_type id ≡ Some e
    → of_masked s volume_type id mask (lock_released s mask) ≡ Makes answer.Done
    (Enter e.rw (record e { lock_op = operation; lock_moment = moment }) s.addresses)
released_is s volume_type id mask operation moment e form less op_is moment_is found =
    masked_is s volume_type id mask (lock_released s mask) true false form less
    ∙ ap (λ (o : Option VlEntry). of_entry o (lock_released s mask)) found
    ∙ ap (λ (n : ℕ). Makes answer.Done (Enter e.rw (record e { lock_op = n; lock_moment = moment_left mask e }) s.addresses)) (sym op_is)
    ∙ ap (λ (n : ℕ). Makes answer.Done (Enter e.rw (record e { lock_op = operation; lock_moment = n }) s.addresses)) (sym moment_is)

pub release_done : (bytes mid after : Option (List ℕ)) (volume_type : ℤ) (id mask operation moment : ℕ) (e : VlEntry) (ended : CallEnd)
    → is_volume_type volume_type ≡ true → nat_lt 3 mask ≡ false → operation ≡ operation_left mask e → moment ≡ moment_left mask e
    → IfSome bytes (λ image. (s : Location) → Holds image s → entry_of_type s volume_type id ≡ Some e)
    → ended ≡ end_of (reply_by (Answers answer.Done)) → mid ≡ bytes
    → after ≡ option_map (after_replace e.rw (record e { lock_op = operation; lock_moment = moment })) mid
    → IfSome bytes (λ image. (s : Location) → Holds image s
    → IsDone (of_masked s volume_type id mask (lock_released s mask)) s image ended after)
release_done bytes mid after volume_type id mask operation moment e ended form less op_is moment_is found told same changed =
    relocked_done bytes mid after (λ s. of_masked s volume_type id mask (lock_released s mask)) volume_type id e
    (record e { lock_op = operation; lock_moment = moment }) ended found
    (λ s at. released_is s volume_type id mask operation moment e form less op_is moment_is at) told same changed

-- ---- faults

-- an entry may take its own place with another lock
pub may_lock : (s : Location) (e : VlEntry) (operation moment : ℕ) → IsLocation s → s.entry e.rw ≡ Some e
    → MayReplace e.rw (record e { lock_op = operation; lock_moment = moment }) s
may_lock s e operation moment valid there = (
  subst (λ (o : Option VlEntry). IsSome o) (sym there) refl,
  record {
    name = λ k f at other same. other (valid.names k e.rw f e at there same);
    ids = λ k id f at other has. false_from_ne_true (has_id id f) (λ has_f. other (valid.apart k e.rw id f e at there has_f has));
    hosts = valid.hosts e.rw e there;
  },
)

pub cause_of_lock : (bytes : Option (List ℕ)) (e : VlEntry) (operation moment : ℕ) (fault : RecordFault)
    → HasCauseWhere (MayReplace e.rw (record e { lock_op = operation; lock_moment = moment })) bytes fault
    → HasCauseWhere (λ s. s.entry e.rw ≡ Some e) bytes fault
cause_of_lock bytes e operation moment DiskFault cause = tt
cause_of_lock bytes e operation moment NoMemory cause = tt
cause_of_lock None e operation moment (BadRecord at) cause = tt
cause_of_lock (Some image) e operation moment (BadRecord at) cause = λ some.
    cause (some.0, some.1, may_lock some.0 e operation moment some.1.valid some.2)

pub cause_of_unfit : (bytes : Option (List ℕ)) (e : VlEntry) (at : ℕ) → entry_fits e ≡ false
    → HasCauseWhere (λ s. s.entry e.rw ≡ Some e) bytes (BadRecord at)
cause_of_unfit None e at unfit = tt
cause_of_unfit (Some image) e at unfit = λ some. let fits = record_fits e (some.1.valid.records e.rw e some.2) in absurd cc

pub cause_of_there : (bytes mid : Option (List ℕ)) (volume_type : ℤ) (id : ℕ) (e : VlEntry) (fault : RecordFault) → mid ≡ bytes
    → IfSome bytes (λ image. (s : Location) → Holds image s → entry_of_type s volume_type id ≡ Some e)
    → HasCauseWhere (λ s. s.entry e.rw ≡ Some e) mid fault
    → HasItsCause bytes fault
cause_of_there bytes mid volume_type id e DiskFault same found cause = tt
cause_of_there bytes mid volume_type id e NoMemory same found cause = tt
cause_of_there None mid volume_type id e (BadRecord at) same found cause = tt
cause_of_there (Some image) mid volume_type id e (BadRecord at) same found cause = λ some.
    let not_so = subst (λ (b : Option (List ℕ)). HasCauseWhere (λ (s : Location). s.entry e.rw ≡ Some e) b (BadRecord at)) same cause in
    not_so (some.0, some.1, typed_there some.0 volume_type id e some.1.valid (found some.0 some.1))
