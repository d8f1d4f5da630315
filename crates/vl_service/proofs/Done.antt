-- What a changing call did is what was decided of it.
use Rattle.std.proofs.Common.{◌≡◌, ℕ, ℤ, ◌+◌, Bool, true, false, ◌||◌, cond, List, Option, Some, None, IsSome, IfSome, refl, sym, ap, subst, ◌∙◌}
use Rattle.std.specs.Prelude.{nat_lt}
use Rattle.std.specs.Option.{option_map}
use Rattle.db_image.specs.Ends.{end_of}
use Rattle.db_image.specs.declared.draft_services.CallEnd.{CallEnd}
use Rattle.db_blocks.proofs.Maps.{some_same}
use Rattle.vldb_entries.specs.Location.{Location}
use Rattle.db_image.specs.declared.faults.RecordFault.{RecordFault}
use Rattle.db_image.specs.declared.faults.RecordFault.TheVariants.{DiskFault, BadRecord, NoMemory}
use Rattle.vldb_records.specs.Ends.{HasCauseWhere, HasItsCause}
use Rattle.vldb_entries.specs.declared.entries.VlEntry.{VlEntry}
use Rattle.vldb_records.specs.Changes.{after_remove, after_set_next}
use Rattle.vldb_records.specs.Records.{Holds}
use Rattle.vl_service.proofs.Found.{typed_there}
use Rattle.vl_calls.specs.declared.answers.VlAnswer.TheVariants as answer
use Rattle.vl_service.specs.Meaning.{Answers, Leave, Makes, NextVolume, Refuses, Verdict, entry_of_type, is_volume_type, leaves, max_id, new_volume_id, of_entry, of_id, reply_by}
use Rattle.vl_service.specs.Refusals.{bad_bump, bad_volume_type, no_entry}
use Rattle.vl_service.specs.Standing.{IsDone, image_by}

-- ---- the next volume id

volumes_step : (image : List ℕ) (s : Location) (next bump sum : ℕ) (ended : CallEnd) (after : Option (List ℕ)) (b : Bool)
    → next ≡ s.next_volume
    → (nat_lt 20 bump || nat_lt max_id (next + bump)) ≡ b → cond b None (Some (next + bump)) ≡ Some sum
    → ended ≡ end_of (reply_by (Answers (answer.Id next)))
    → after ≡ Some (after_set_next sum image) → IsDone (new_volume_id s bump) s image ended after
volumes_step image s next bump sum ended after true same test taken told made = absurd cc
volumes_step image s next bump sum ended after false same test taken told made =
    let sum_is : next + bump ≡ sum = some_same taken in
    let v : new_volume_id s bump ≡ Makes (answer.Id next) (NextVolume sum) =
    subst (λ (n : ℕ). cond (nat_lt 20 bump || nat_lt max_id (n + bump)) (Refuses bad_bump)
    (Makes (answer.Id n) (NextVolume (n + bump))) ≡ Makes (answer.Id next) (NextVolume sum)) same
    (ap (λ (t : Bool). cond t (Refuses bad_bump) (Makes (answer.Id next) (NextVolume (next + bump)))) test
    ∙ ap (λ (m : ℕ). Makes (answer.Id next) (NextVolume m)) sum_is) in
    record {
      reply = told ∙ ap (λ (w : Verdict). end_of (reply_by w)) (sym v);
      leaves = made
          ∙ ap (λ (w : Verdict). Some (image_by w s image)) (sym v);
    }

pub volumes_done : (bytes after : Option (List ℕ)) (next bump sum : ℕ) (ended : CallEnd)
    → IfSome bytes (λ image. (s : Location) → Holds image s → next ≡ s.next_volume)
    → cond (nat_lt 20 bump || nat_lt max_id (next + bump)) None (Some (next + bump)) ≡ Some sum
    → ended ≡ end_of (reply_by (Answers (answer.Id next)))
    → after ≡ option_map (after_set_next sum) bytes
    → IfSome bytes (λ image. (s : Location) → Holds image s → IsDone (new_volume_id s bump) s image ended after)
volumes_done None after next bump sum ended is taken told made = tt
volumes_done (Some image) after next bump sum ended is taken told made = λ s holds.
    volumes_step image s next bump sum ended after (nat_lt 20 bump || nat_lt max_id (next + bump)) (is s holds) refl taken told made

refused_step : (image : List ℕ) (s : Location) (next bump : ℕ) (ended : CallEnd) (b : Bool) → next ≡ s.next_volume
    → (nat_lt 20 bump || nat_lt max_id (next + bump)) ≡ b → cond b None (Some (next + bump)) ≡ None
    → ended ≡ end_of (reply_by (Refuses bad_bump))
    → IsDone (new_volume_id s bump) s image ended (Some image)
refused_step image s next bump ended false same test taken told = absurd cc
refused_step image s next bump ended true same test taken told =
    let v : new_volume_id s bump ≡ Refuses bad_bump =
    subst (λ (n : ℕ). cond (nat_lt 20 bump || nat_lt max_id (n + bump)) (Refuses bad_bump)
    (Makes (answer.Id n) (NextVolume (n + bump))) ≡ Refuses bad_bump) same
    (ap (λ (t : Bool). cond t (Refuses bad_bump) (Makes (answer.Id next) (NextVolume (next + bump)))) test) in
    record {
      reply = told
          ∙ ap (λ (w : Verdict). end_of (reply_by w)) (sym v);
      leaves = ap (λ (w : Verdict). Some (image_by w s image)) (sym v);
    }

pub volumes_refused : (bytes after : Option (List ℕ)) (next bump : ℕ) (ended : CallEnd)
    → IfSome bytes (λ image. (s : Location) → Holds image s → next ≡ s.next_volume)
    → cond (nat_lt 20 bump || nat_lt max_id (next + bump)) None (Some (next + bump)) ≡ None
    → ended ≡ end_of (reply_by (Refuses bad_bump)) → after ≡ bytes
    → IfSome bytes (λ image. (s : Location) → Holds image s → IsDone (new_volume_id s bump) s image ended after)
volumes_refused None after next bump ended is taken told same = tt
volumes_refused (Some image) after next bump ended is taken told same = λ s holds.
    subst (λ (o : Option (List ℕ)). IsDone (new_volume_id s bump) s image ended o) (sym same)
    (refused_step image s next bump ended (nat_lt 20 bump || nat_lt max_id (next + bump)) (is s holds) refl taken told)

-- ---- an entry leaves

-- a call that is refused
refused : (image : List ℕ) (s : Location) (v : Verdict) (number : ℕ) (ended : CallEnd) → v ≡ Refuses number
    → ended ≡ end_of (reply_by (Refuses number))
    → IsDone v s image ended (Some image)
refused image s v number ended is told = record {
  reply = told ∙ ap (λ (w : Verdict). end_of (reply_by w)) (sym is);
  leaves = ap (λ (w : Verdict). Some (image_by w s image)) (sym is);
}

of_id_is : (s : Location) (volume_type : ℤ) (id : ℕ) (goes : VlEntry → Verdict) (b : Bool) → is_volume_type volume_type ≡ b
    → of_id s volume_type id goes ≡ cond b (of_entry (entry_of_type s volume_type id) goes) (Refuses bad_volume_type)
of_id_is s volume_type id goes b is =
    ap (λ (t : Bool). cond t (of_entry (entry_of_type s volume_type id) goes) (Refuses bad_volume_type)) is

pub bad_type_done : (bytes : Option (List ℕ)) (volume_type : ℤ) (id : ℕ) (goes : VlEntry → Verdict) (ended : CallEnd)
    → is_volume_type volume_type ≡ false
    → ended ≡ end_of (reply_by (Refuses bad_volume_type))
    → IfSome bytes (λ image. (s : Location) → Holds image s → IsDone (of_id s volume_type id goes) s image ended bytes)
bad_type_done None volume_type id goes ended form told = tt
bad_type_done (Some image) volume_type id goes ended form told = λ s holds.
    refused image s (of_id s volume_type id goes) bad_volume_type ended (of_id_is s volume_type id goes false form) told

pub no_entry_done : (bytes after : Option (List ℕ)) (volume_type : ℤ) (id : ℕ) (goes : VlEntry → Verdict) (ended : CallEnd)
    → is_volume_type volume_type ≡ true
    → IfSome bytes (λ image. (s : Location) → Holds image s → entry_of_type s volume_type id ≡ None)
    → ended ≡ end_of (reply_by (Refuses no_entry)) → after ≡ bytes
    → IfSome bytes (λ image. (s : Location) → Holds image s → IsDone (of_id s volume_type id goes) s image ended after)
no_entry_done None after volume_type id goes ended form none told same = tt
no_entry_done (Some image) after volume_type id goes ended form none told same = λ s holds.
    subst (λ (o : Option (List ℕ)). IsDone (of_id s volume_type id goes) s image ended o) (sym same)
    (refused image s (of_id s volume_type id goes) no_entry ended
    (of_id_is s volume_type id goes true form ∙ ap (λ (o : Option VlEntry). of_entry o goes) (none s holds)) told)

pub leave_done : (bytes after : Option (List ℕ)) (volume_type : ℤ) (id : ℕ) (e : VlEntry) (ended : CallEnd)
    → is_volume_type volume_type ≡ true
    → IfSome bytes (λ image. (s : Location) → Holds image s → entry_of_type s volume_type id ≡ Some e)
    → ended ≡ end_of (reply_by (Answers answer.Done))
    → after ≡ option_map (after_remove e.rw) bytes
    → IfSome bytes (λ image. (s : Location) → Holds image s → IsDone (of_id s volume_type id leaves) s image ended after)
leave_done None after volume_type id e ended form found told made = tt
leave_done (Some image) after volume_type id e ended form found told made = λ s holds.
    let v : of_id s volume_type id leaves ≡ Makes answer.Done (Leave e.rw) =
    of_id_is s volume_type id leaves true form ∙ ap (λ (o : Option VlEntry). of_entry o leaves) (found s holds) in
    record {
      reply = told ∙ ap (λ (w : Verdict). end_of (reply_by w)) (sym v);
      leaves = made
          ∙ ap (λ (w : Verdict). Some (image_by w s image)) (sym v);
    }

-- a change that may be made in each state that the image may hold
pub cause_of_found : (bytes mid : Option (List ℕ)) (volume_type : ℤ) (id : ℕ) (e : VlEntry) (fault : RecordFault) → mid ≡ bytes
    → IfSome bytes (λ image. (s : Location) → Holds image s → entry_of_type s volume_type id ≡ Some e)
    → HasCauseWhere (λ s. IsSome (s.entry e.rw)) mid fault
    → HasItsCause bytes fault
cause_of_found bytes mid volume_type id e DiskFault same found cause = tt
cause_of_found bytes mid volume_type id e NoMemory same found cause = tt
cause_of_found None mid volume_type id e (BadRecord at) same found cause = tt
cause_of_found (Some image) mid volume_type id e (BadRecord at) same found cause = λ some.
    let not = subst (λ (b : Option (List ℕ)). HasCauseWhere (λ s. IsSome (s.entry e.rw)) b (BadRecord at)) same cause in
    let there = typed_there some.0 volume_type id e some.1.valid (found some.0 some.1) in
    not (some.0, some.1, subst (λ (o : Option VlEntry). IsSome o) (sym there) refl)
