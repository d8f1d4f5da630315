-- An entry is removed: how the call ends, and what it leaves.
use Rattle.std.proofs.Common.{◌≡◌, ℕ, ℤ, pos, ◌<◌, Bool, true, false, cond, List, length, Option, Some, None, IfSome, IsSome, refl, ap, subst, ◌∙◌}
use Rattle.std.specs.Prelude.{is_none, option_map}
use Rattle.db_blocks.specs.Ends.{HasCause}
use Rattle.db_image.specs.Ends.{end_of}
use Rattle.db_image.specs.declared.draft_services.CallEnd.{CallEnd}
use Rattle.db_image.specs.declared.faults.RecordFault.{RecordFault}
use Rattle.db_image.specs.declared.faults.RecordFault.TheVariants.{DiskFault, BadRecord, NoMemory}
use Rattle.prdb_layout.specs.Registry.{Registry, IsRegistry}
use Rattle.prdb_layout.specs.State.{PrEntry}
use Rattle.prdb_lists.specs.Members.{Members}
use Rattle.prdb_finds.specs.Ends.{HasCauseWhere, HasItsCause}
use Rattle.prdb_finds.specs.Records.{Holds}
use Rattle.prdb_entries.specs.Changes.{after_remove}
use Rattle.prdb_entries.specs.Ends.{MayGo}
use Rattle.prdb_members.specs.Changes.{after_parts}
use Rattle.prdb_members.proofs.PartingEnds.{Parts}
use Rattle.pt_calls.specs.declared.answers.PtAnswer.TheVariants as answer
use Rattle.pt_service.specs.Meaning.{Answers, Leave, Makes as Changes, Refuses, leaves, of_entry, reply_by}
use Rattle.pt_service.specs.State.{State, elements}
use Rattle.pt_service.specs.Turning.{is_fixed}
use Rattle.prdb_turns.specs.Owners.{AreItsOwn, Disowns, HasOwner, after_gives}
use Rattle.prdb_turns.proofs.Left.{left, left_holds}
use Rattle.prdb_turns.proofs.Owned.{HasItsOwn}
use Rattle.pt_looks.specs.States.{HoldsRecords, OfStates, members_of}
use Rattle.pt_looks.proofs.Pairs.{is_there}
use Rattle.pt_looks.proofs.States.{known_some, of_map, unknown_is}
use Rattle.pt_changes.specs.Leaving.{after_leave, without_pairs}
use Rattle.pt_changes.specs.Standing.{IsMeantOf}
use Rattle.pt_changes.specs.Turning.{its_in}
use Rattle.pt_changes.proofs.Decided.{OfImages, made_so, refused_so}
use Rattle.pt_changes.proofs.Left.{may_remove, parts_hold}
use Rattle.pt_changes.proofs.Owned.{has_its}
use Rattle.pt_changes.proofs.Parted.{elements_list, none_paired}

-- ---- what is decided

fixed_by : (r : Registry) (id : ℤ) (b : Bool) → IsRegistry r → false ≡ is_none (r.entry id) → is_fixed id ≡ b
    → of_entry (r.entry id) leaves ≡ cond b (Refuses 267269) (Changes answer.Done (Leave id))
fixed_by r id b valid there is =
    let e = known_some (r.entry id) there in
    ap (λ (o : Option PrEntry). of_entry o leaves) e.1
    ∙ ap (λ (z : ℤ). cond (is_fixed z) (Refuses 267269) (Changes answer.Done (Leave z))) (valid.ids id e.0 e.1)
    ∙ ap (λ (t : Bool). cond t (Refuses 267269) (Changes answer.Done (Leave id))) is

abbrev pub Known : Option (List ℕ) → ℤ → Type 0
Known bytes id = OfStates bytes (λ s. false ≡ is_none (s.registry.entry id))

pub delete_unknown : (bytes after : Option (List ℕ)) (id : ℤ) (ended : CallEnd) → OfStates bytes (λ s. true ≡ is_none (s.registry.entry id))
    → ended ≡ end_of (reply_by (Refuses 267268)) → after ≡ bytes → IsMeantOf bytes (λ s. of_entry (s.registry.entry id) leaves) ended after
delete_unknown bytes after id ended none told same =
    refused_so bytes after (λ s. of_entry (s.registry.entry id) leaves) 267268 ended told same
    (of_map bytes (λ s. true ≡ is_none (s.registry.entry id)) (λ s. of_entry (s.registry.entry id) leaves ≡ Refuses 267268)
    (λ image s holds is. unknown_is (s.registry.entry id) leaves is) none)

pub delete_fixed : (bytes after : Option (List ℕ)) (id : ℤ) (ended : CallEnd) → Known bytes id → is_fixed id ≡ true
    → ended ≡ end_of (reply_by (Refuses 267269)) → after ≡ bytes → IsMeantOf bytes (λ s. of_entry (s.registry.entry id) leaves) ended after
delete_fixed bytes after id ended known fixed told same =
    refused_so bytes after (λ s. of_entry (s.registry.entry id) leaves) 267269 ended told same
    (of_map bytes (λ s. false ≡ is_none (s.registry.entry id)) (λ s. of_entry (s.registry.entry id) leaves ≡ Refuses 267269)
    (λ image s holds is. fixed_by s.registry id true holds.pairs.holds.valid is fixed) known)

-- ---- what is left

some_at : (bytes : Option (List ℕ)) (at : List ℕ) (P : List ℕ → Type 0) → bytes ≡ Some at → IfSome bytes P → P at
some_at bytes at P is all = subst (λ (b : Option (List ℕ)). IfSome b P) is all

-- the bytes once the pairs are gone
record IsStripped (id : ℤ) (image : List ℕ) (s : State) (after : Option (List ℕ)) : Type 0 where
  bytes : after ≡ Some (after_parts id (elements s id) image)
  holds : HoldsRecords (after_parts id (elements s id) image) (without_pairs id s)

abbrev pub Strips : (bytes first mid : Option (List ℕ)) → (id : ℤ) → Type 0
Strips bytes first mid id = (first ≡ bytes) × Parts first mid id

-- by a number that is the id
pub strips_so : (bytes first mid : Option (List ℕ)) (z id : ℤ) → z ≡ id → first ≡ bytes → Parts first mid z → Strips bytes first mid id
strips_so bytes first mid z id is same parts = (same, subst (λ (y : ℤ). Parts first mid y) is parts)

stripped : (image : List ℕ) (first mid : Option (List ℕ)) (id : ℤ) (s : State) → HoldsRecords image s → Strips (Some image) first mid id
    → IsStripped id image s mid
stripped image first mid id s holds so =
    let parts : Parts (Some image) mid id = subst (λ (b : Option (List ℕ)). Parts b mid id) so.0 so.1 in
    record {
      bytes = parts s.registry (members_of s) (elements s id) holds (elements_list s id image holds);
      holds = parts_hold image s id holds;
    }

-- what the entry owns then, as they tell it
own_of : (image : List ℕ) (mid : Option (List ℕ)) (id : ℤ) (s : State) → IsStripped id image s mid → IsSome (s.registry.entry id)
    → is_fixed id ≡ false
    → HasItsOwn (after_parts id (elements s id) image) s.registry (members_of (without_pairs id s)) id
    (its_in (after_parts id (elements s id) image) s.registry id)
own_of image mid id s so there free =
    has_its (after_parts id (elements s id) image) s.registry (members_of (without_pairs id s)) id so.holds there free

-- and the bytes once that has no owner
given : (image : List ℕ) (mid given_to : Option (List ℕ)) (id : ℤ) (s : State) → IsStripped id image s mid → IsSome (s.registry.entry id)
    → is_fixed id ≡ false → Disowns id mid given_to
    → given_to
    ≡ Some (after_gives (pos 0) (its_in (after_parts id (elements s id) image) s.registry id) s.registry (after_parts id (elements s id) image))
given image mid given_to id s so there free disowns =
    let parted = after_parts id (elements s id) image in
    let own = own_of image mid id s so there free in
    some_at mid parted
    (λ i. (r : Registry) (m : Members) → Holds i r m → IsSome (r.entry id) → 0 < length i → (its : List ℤ) → AreItsOwn i r id its
    → given_to ≡ Some (after_gives (pos 0) its r i))
    so.bytes disowns s.registry (members_of (without_pairs id s)) own.holds own.there own.some (its_in parted s.registry id) own.are

leave_is : (image : List ℕ) (id : ℤ) (s : State)
    → after_remove id
    (after_gives (pos 0) (its_in (after_parts id (elements s id) image) s.registry id) s.registry (after_parts id (elements s id) image))
    ≡ after_leave id s image
unfolding after_leave
leave_is image id s = refl

known_there : (image : List ℕ) (id : ℤ) (s : State) → Known (Some image) id → HoldsRecords image s → IsSome (s.registry.entry id)
known_there image id s known holds =
    let e = known_some (s.registry.entry id) (known s holds) in is_there (s.registry.entry id) e.0 e.1

left_by : (bytes first mid given_to after : Option (List ℕ)) (id : ℤ) → Known bytes id → is_fixed id ≡ false → Strips bytes first mid id
    → Disowns id mid given_to → after ≡ option_map (after_remove id) given_to
    → OfImages bytes (λ image s. after ≡ Some (after_leave id s image))
left_by None first mid given_to after id known free strips disowns removed = tt
left_by (Some image) first mid given_to after id known free strips disowns removed = λ s holds.
    let so = stripped image first mid id s holds strips in
    removed
    ∙ ap (option_map (after_remove id)) (given image mid given_to id s so (known_there image id s known holds) free disowns)
    ∙ ap Some (leave_is image id s)

pub delete_made : (bytes first mid given_to after : Option (List ℕ)) (id : ℤ) (ended : CallEnd) → Known bytes id → is_fixed id ≡ false
    → Strips bytes first mid id → Disowns id mid given_to → after ≡ option_map (after_remove id) given_to
    → ended ≡ end_of (reply_by (Answers answer.Done)) → IsMeantOf bytes (λ s. of_entry (s.registry.entry id) leaves) ended after
delete_made bytes first mid given_to after id ended known free strips disowns removed told =
    made_so bytes after (λ s. of_entry (s.registry.entry id) leaves) (Leave id) ended told
    (of_map bytes (λ s. false ≡ is_none (s.registry.entry id)) (λ s. of_entry (s.registry.entry id) leaves ≡ Changes answer.Done (Leave id))
    (λ image s holds is. fixed_by s.registry id false holds.pairs.holds.valid is free) known)
    (left_by bytes first mid given_to after id known free strips disowns removed)

-- ---- faults

pub parts_fault : (bytes first : Option (List ℕ)) (fault : RecordFault) → first ≡ bytes → HasItsCause first fault → HasItsCause bytes fault
parts_fault bytes first fault same cause = subst (λ (b : Option (List ℕ)). HasItsCause b fault) same cause

pub disown_fault : (bytes first mid : Option (List ℕ)) (id : ℤ) (fault : RecordFault) → Known bytes id → is_fixed id ≡ false
    → Strips bytes first mid id → HasCause mid (HasOwner id) fault → HasItsCause bytes fault
disown_fault bytes first mid id DiskFault known free strips cause = tt
disown_fault None first mid id (BadRecord at) known free strips cause = tt
disown_fault (Some image) first mid id (BadRecord at) known free strips cause = λ some.
    let s : State = record { registry = some.0; is_in = some.1.has } in
    let so = stripped image first mid id s some.2 strips in
    let own = own_of image mid id s so (known_there image id s known some.2) free in
    some_at mid (after_parts id (elements s id) image) (λ i. HasOwner id i → ⊥) so.bytes cause
    (s.registry, members_of (without_pairs id s), own.holds, own.there, own.some)
disown_fault bytes first mid id NoMemory known free strips cause = tt

pub remove_fault : (bytes first mid given_to : Option (List ℕ)) (id : ℤ) (fault : RecordFault) → Known bytes id → is_fixed id ≡ false
    → Strips bytes first mid id → Disowns id mid given_to → HasCauseWhere (MayGo id) given_to fault → HasItsCause bytes fault
remove_fault bytes first mid given_to id DiskFault known free strips disowns cause = tt
remove_fault None first mid given_to id (BadRecord at) known free strips disowns cause = tt
remove_fault (Some image) first mid given_to id (BadRecord at) known free strips disowns cause = λ some.
    let s : State = record { registry = some.0; is_in = some.1.has } in
    let parted = after_parts id (elements s id) image in
    let r = s.registry in
    let m = members_of (without_pairs id s) in
    let its = its_in parted r id in
    let so = stripped image first mid id s some.2 strips in
    let there = known_there image id s known some.2 in
    let own = own_of image mid id s so there free in
    some_at given_to (after_gives (pos 0) its r parted) (λ i. ((q : Registry) × (m : Members) × Holds i q m × MayGo id q m) → ⊥)
    (given image mid given_to id s so there free disowns) cause
    (left r its, m, left_holds parted r m id its own, (may_remove parted r m id its own free, none_paired s id))
remove_fault bytes first mid given_to id NoMemory known free strips disowns cause = tt
