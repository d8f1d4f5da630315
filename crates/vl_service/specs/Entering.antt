-- An entry that a call gives, and what is decided of it before it comes in.
use Rattle.std.specs.Prelude.{ℕ, ◌≡◌, ◌<◌, ◌^◌, ◌==◌, ◌&&◌, ◌⊎◌, Bool, not, List, length, Option, Some, None, IsSome, nat_lt, if◌then◌else◌}
use Rattle.std.specs.List.{list_any}
use Rattle.std.specs.Str.{bytes_eq}
use Rattle.vl_calls.specs.declared.calls.GivenEntry.{GivenEntry}
use Rattle.vldb_entries.specs.declared.entries.VlEntry.{VlEntry}
use Rattle.vldb_entries.specs.Location.{Location, IsRecord, MayBePlaces, MayEnter, has_id, has_repeat, is_name, placed, with_places}
use Rattle.vldb_records.specs.Changes.{after_insert, after_replace, after_set_places}
use Rattle.vl_service.specs.Meaning.{entries, entry_faults, first_fault, is_bad_entry, is_other, shares_id, with_lock}
use Rattle.vl_service.specs.Refusals as rule
use Rattle.vl_service.specs.declared.deciding.Decision.{Decision}
use Rattle.vl_service.specs.declared.deciding.Decision.TheVariants as decision
use Rattle.vl_service.specs.declared.deciding.Places.{Places}

-- the rule of the first fault that shows in the entry alone
abbrev pub own_fault : GivenEntry → Option ℕ
own_fault e =
    if not (is_name e.name) then Some rule.bad_name
    else if nat_lt 13 (length e.sites) then Some rule.replicas_full
    else if length e.sites == 0 then Some rule.no_replica
    else if list_any (λ site. site.host == 0) e.sites then Some rule.bad_server
    else if list_any (λ site. nat_lt 255 site.partition) e.sites then Some rule.bad_partition
    else if has_repeat e.sites then Some rule.repeated_replica
    else if is_bad_entry e then Some rule.bad_entry
    else None

-- it can be stored, with any lock
abbrev pub CanBeStored : GivenEntry → Type 0
CanBeStored e = (operation moment : ℕ) → operation < 2 ^ 32 → moment < 2 ^ 32 → IsRecord (with_lock operation moment e)

-- so it is where it shows no fault
abbrev pub IsSound : GivenEntry → Option ℕ → Type 0
IsSound e None = CanBeStored e
IsSound e (Some fault) = Unit {0}

-- another entry than that of the read-write id `own` has the name, this id, one of the three ids
abbrev pub other_has_name : Location → (own : ℕ) → List ℕ → Bool
other_has_name s own name = list_any (λ f. is_other own f && bytes_eq f.name name) (entries s)

abbrev pub other_has_id : Location → (own id : ℕ) → Bool
other_has_id s own id = list_any (λ f. is_other own f && has_id id f) (entries s)

abbrev pub other_shares_id : Location → (own : ℕ) → GivenEntry → Bool
other_shares_id s own e = list_any (λ f. is_other own f && shares_id e f) (entries s)

-- the rule by which another entry bars it
abbrev pub shared_fault : Location → (own : ℕ) → GivenEntry → Option ℕ
shared_fault s own e =
    if other_has_name s own e.name then Some rule.name_exists else if other_shares_id s own e then Some rule.id_exists else None

-- the decision on an entry in place of that of the read-write id `own`, or of none (0)
abbrev pub IsDecided : Location → (own : ℕ) → GivenEntry → Decision → Type 0
IsDecided s own e (decision.Refused fault) = first_fault (entry_faults s own e) ≡ Some fault
IsDecided s own e (decision.Enters places) =
    (first_fault (entry_faults s own e) ≡ None) × (places.old ≡ s.addresses) × (placed e.sites places.old ≡ Some places.new)

-- what comes in can be stored, whatever the image holds
abbrev pub IsFit : GivenEntry → Decision → Type 0
IsFit e (decision.Refused fault) = Unit {0}
IsFit e (decision.Enters places) = CanBeStored e

-- ---- what is put in

-- the image with these addresses of the places; it stays where they do
abbrev pub moved : Places → List ℕ → List ℕ
moved places image = if bytes_eq places.new places.old then image else after_set_places places.new image

-- the image with an entry in place of that of a read-write id, or of none (0)
abbrev pub stored : (own : ℕ) → VlEntry → List ℕ → List ℕ
stored own e image = if own == 0 then after_insert e image else after_replace own e image

-- there is an entry of the read-write id, if it is one
abbrev pub IsThere : (own : ℕ) → Location → Type 0
IsThere own s = (own ≡ 0) ⊎ IsSome (s.entry own)

abbrev pub MayStore : (own : ℕ) → VlEntry → Location → Type 0
MayStore own e s = IsThere own s × MayEnter own e s

-- the same behind a change of the places
abbrev pub MayPut : (own : ℕ) → VlEntry → Places → Location → Type 0
MayPut own e places s = (places.old ≡ s.addresses) × MayBePlaces places.new s × MayStore own e (with_places places.new s)
