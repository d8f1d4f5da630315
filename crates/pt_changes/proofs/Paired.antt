-- A call on a pair that is good: what may be made of it, and how it ends.
use Rattle.std.proofs.Common.{◌≡◌, ℕ, ℤ, pos, negsuc, Bool, true, false, not, ◌||◌, cond, List, Option, Some, None, IsSome, IfSome, refl, sym, ap, subst, ◌∙◌, arith}
use Rattle.std.specs.Prelude.{◌<ℤ◌, ◌<◌, is_none}
use Rattle.std.specs.Ordering.{int_eq}
use Rattle.std.proofs.lemmas.Int.{ints}
use Rattle.db_image.specs.Ends.{end_of}
use Rattle.db_image.specs.declared.draft_services.CallEnd.{CallEnd}
use Rattle.db_image.specs.declared.faults.RecordFault.{RecordFault}
use Rattle.db_image.specs.declared.faults.RecordFault.TheVariants.{DiskFault, BadRecord, NoMemory}
use Rattle.prdb_layout.specs.Registry.{Registry, IsRegistry}
use Rattle.prdb_layout.specs.State.{IsId, PrEntry}
use Rattle.prdb_lists.specs.Members.{MayJoin, MayLeave, Members}
use Rattle.prdb_finds.specs.Ends.{HasCauseWhere, HasItsCause}
use Rattle.prdb_finds.specs.Records.{Holds}
use Rattle.prdb_members.specs.Changes.{after_join, after_part}
use Rattle.pt_calls.specs.declared.answers.PtAnswer.TheVariants as answer
use Rattle.pt_service.specs.Meaning.{Answers, Join, Makes, NoCall, Part, Refuses, Verdict, joins, of_pair, parts, reply_by}
use Rattle.pt_service.specs.State.{State, is_group}
use Rattle.pt_looks.specs.States.{OfStates, members_of}
use Rattle.pt_looks.proofs.Ended.{PairFault}
use Rattle.pt_looks.proofs.States.{known_some, of_both, of_map, of_same}
use Rattle.pt_changes.specs.Standing.{IsMeantOf}
use Rattle.pt_changes.proofs.Decided.{OfImages, made_so, refused_so}

-- ---- both are there, the one a user and the other a group

record IsGoodPair (r : Registry) (user group : ℤ) : Type 0 where
  user_there : is_none (r.entry user) ≡ false
  group_there : is_none (r.entry group) ≡ false
  of_group : is_group group ≡ true
  of_user : is_group user ≡ false

abbrev pair_by : (a b f u : Bool) → Verdict → Verdict
pair_by a b f u goes = cond (a || b) (Refuses 267268) (cond (not f) (Refuses 267270) (cond u (Refuses 267271) goes))

no_call : (rule : ℕ) → Refuses rule ≡ NoCall → ⊥
no_call rule e = cc

good_by : (a b f u : Bool) → ((goes : Verdict) → pair_by a b f u goes ≡ goes) → (a ≡ false) × (b ≡ false) × (f ≡ true) × (u ≡ false)
good_by true b f u all = absurd (no_call 267268 (all NoCall))
good_by false true f u all = absurd (no_call 267268 (all NoCall))
good_by false false false u all = absurd (no_call 267270 (all NoCall))
good_by false false true true all = absurd (no_call 267271 (all NoCall))
good_by false false true false all = (refl, refl, refl, refl)

good_pair : (r : Registry) (user group : ℤ) → ((goes : Verdict) → of_pair r user group goes ≡ goes) → IsGoodPair r user group
good_pair r user group all =
    let p = good_by (is_none (r.entry user)) (is_none (r.entry group)) (is_group group) (is_group user) all in
    record { user_there = p.0; group_there = p.1; of_group = p.2; of_user = p.3 }

is_there : (o : Option PrEntry) → is_none o ≡ false → IsSome o
is_there None is = absurd cc
is_there (Some e) is = refl

id_of_entry : (r : Registry) (id : ℤ) → IsRegistry r → is_none (r.entry id) ≡ false → IsId id
id_of_entry r id valid is =
    let e = known_some (r.entry id) (sym is) in
    subst IsId (valid.ids id e.0 e.1) (valid.records id e.0 e.1).fields.id

positive : (id : ℤ) → is_group id ≡ false → IsId id → pos 0 <ℤ id
positive (pos n) is good = let low : 0 < n = good.0 in omega (arith, ints)
positive (negsuc n) is good = absurd cc

negative : (id : ℤ) → is_group id ≡ true → id <ℤ pos 0
negative (pos n) is = absurd cc
negative (negsuc n) is = omega (arith, ints)

may_join : (s : State) (user group : ℤ) → IsRegistry s.registry → IsGoodPair s.registry user group → s.is_in user group ≡ false
    → MayJoin user group s.registry (members_of s)
may_join s user group valid good new = record {
  user = positive user good.of_user (id_of_entry s.registry user valid good.user_there);
  group_id = negative group good.of_group;
  member_there = is_there (s.registry.entry user) good.user_there;
  group_there = is_there (s.registry.entry group) good.group_there;
  new = new;
}

-- ---- what is decided

abbrev All : Registry → (user group : ℤ) → Type 0
All r user group = (goes : Verdict) → of_pair r user group goes ≡ goes

joins_by : (s : State) (user group : ℤ) (fixed there : Bool) → (int_eq group (negsuc 100) || int_eq group (negsuc 101)) ≡ fixed
    → s.is_in user group ≡ there
    → joins s user group ≡ cond fixed (Refuses 267269) (cond there (Refuses 267265) (Makes answer.Done (Join user group)))
joins_by s user group fixed there one two =
    ap (λ (t : Bool). cond t (Refuses 267269) (cond (s.is_in user group) (Refuses 267265) (Makes answer.Done (Join user group)))) one
    ∙ ap (λ (t : Bool). cond fixed (Refuses 267269) (cond t (Refuses 267265) (Makes answer.Done (Join user group)))) two

parts_by : (s : State) (user group : ℤ) (there : Bool) → s.is_in user group ≡ there
    → parts s user group ≡ cond there (Makes answer.Done (Part user group)) (Refuses 267268)
parts_by s user group there is = ap (λ (t : Bool). cond t (Makes answer.Done (Part user group)) (Refuses 267268)) is

-- ---- refusals

pub pair_refuses : (bytes after : Option (List ℕ)) (user group : ℤ) (goes : State → Verdict) (rule : ℕ) (ended : CallEnd)
    → PairFault bytes user group (Some rule)
    → ended ≡ end_of (reply_by (Refuses rule)) → after ≡ bytes → IsMeantOf bytes (λ s. of_pair s.registry user group (goes s)) ended after
pair_refuses bytes after user group goes rule ended fault told same =
    refused_so bytes after (λ s. of_pair s.registry user group (goes s)) rule ended told same
    (of_map bytes (λ s. (goes : Verdict) → of_pair s.registry user group goes ≡ Refuses rule)
    (λ s. of_pair s.registry user group (goes s) ≡ Refuses rule)
    (λ image s holds is. is (goes s)) fault)

pub join_not_permitted : (bytes after : Option (List ℕ)) (user group : ℤ) (ended : CallEnd) → PairFault bytes user group None
    → true ≡ (int_eq group (negsuc 100) || int_eq group (negsuc 101)) → ended ≡ end_of (reply_by (Refuses 267269)) → after ≡ bytes
    → IsMeantOf bytes (λ s. of_pair s.registry user group (joins s user group)) ended after
join_not_permitted bytes after user group ended good fixed told same =
    refused_so bytes after (λ s. of_pair s.registry user group (joins s user group)) 267269 ended told same
    (of_map bytes (λ s. All s.registry user group) (λ s. of_pair s.registry user group (joins s user group) ≡ Refuses 267269)
    (λ image s holds all. all (joins s user group) ∙ joins_by s user group true (s.is_in user group) (sym fixed) refl) good)

pub join_there : (bytes mid after : Option (List ℕ)) (user group : ℤ) (ended : CallEnd) → PairFault bytes user group None
    → false ≡ (int_eq group (negsuc 100) || int_eq group (negsuc 101)) → mid ≡ bytes → OfStates mid (λ s. true ≡ s.is_in user group)
    → ended ≡ end_of (reply_by (Refuses 267265)) → after ≡ bytes
    → IsMeantOf bytes (λ s. of_pair s.registry user group (joins s user group)) ended after
join_there bytes mid after user group ended good fixed same there told left =
    refused_so bytes after (λ s. of_pair s.registry user group (joins s user group)) 267265 ended told left
    (of_both bytes (λ s. All s.registry user group) (λ s. true ≡ s.is_in user group)
    (λ s. of_pair s.registry user group (joins s user group) ≡ Refuses 267265)
    (λ image s holds all is. all (joins s user group) ∙ joins_by s user group false true (sym fixed) (sym is))
    good (of_same bytes mid (λ s. true ≡ s.is_in user group) same there))

pub part_not_there : (bytes mid after : Option (List ℕ)) (user group : ℤ) (ended : CallEnd) → PairFault bytes user group None → mid ≡ bytes
    → OfStates mid (λ s. false ≡ s.is_in user group) → ended ≡ end_of (reply_by (Refuses 267268)) → after ≡ bytes
    → IsMeantOf bytes (λ s. of_pair s.registry user group (parts s user group)) ended after
part_not_there bytes mid after user group ended good same there told left =
    refused_so bytes after (λ s. of_pair s.registry user group (parts s user group)) 267268 ended told left
    (of_both bytes (λ s. All s.registry user group) (λ s. false ≡ s.is_in user group)
    (λ s. of_pair s.registry user group (parts s user group) ≡ Refuses 267268)
    (λ image s holds all is. all (parts s user group) ∙ parts_by s user group false (sym is))
    good (of_same bytes mid (λ s. false ≡ s.is_in user group) same there))

-- ---- changes

abbrev Joined : Option (List ℕ) → Option (List ℕ) → (user group : ℤ) → Type 0
Joined bytes after user group = IfSome bytes (λ image. (r : Registry) (m : Members) → Holds image r m → MayJoin user group r m →
    after ≡ Some (after_join user group image))

abbrev Parted : Option (List ℕ) → Option (List ℕ) → (user group : ℤ) → Type 0
Parted bytes after user group = IfSome bytes (λ image. (r : Registry) (m : Members) → Holds image r m → MayLeave user group m →
    after ≡ Some (after_part user group image))

join_leaves : (bytes after : Option (List ℕ)) (user group : ℤ) → PairFault bytes user group None
    → OfStates bytes (λ s. false ≡ s.is_in user group) → Joined bytes after user group
    → OfImages bytes (λ image s. after ≡ Some (after_join user group image))
join_leaves None after user group good new joined = tt
join_leaves (Some image) after user group good new joined = λ s holds.
    joined s.registry (members_of s) holds (may_join s user group holds.pairs.holds.valid (good_pair s.registry user group (good s holds))
    (sym (new s holds)))

part_leaves : (bytes after : Option (List ℕ)) (user group : ℤ) → OfStates bytes (λ s. true ≡ s.is_in user group)
    → Parted bytes after user group
    → OfImages bytes (λ image s. after ≡ Some (after_part user group image))
part_leaves None after user group there parted = tt
part_leaves (Some image) after user group there parted = λ s holds. parted s.registry (members_of s) holds (sym (there s holds))

pub join_made : (bytes first mid after : Option (List ℕ)) (user group : ℤ) (ended : CallEnd) → PairFault bytes user group None
    → false ≡ (int_eq group (negsuc 100) || int_eq group (negsuc 101)) → first ≡ bytes → OfStates first (λ s. false ≡ s.is_in user group)
    → mid ≡ bytes
    → Joined mid after user group → ended ≡ end_of (reply_by (Answers answer.Done))
    → IsMeantOf bytes (λ s. of_pair s.registry user group (joins s user group)) ended after
join_made bytes first mid after user group ended good fixed same new still joined told =
    let not_in = of_same bytes first (λ s. false ≡ s.is_in user group) same new in
    made_so bytes after (λ s. of_pair s.registry user group (joins s user group)) (Join user group) ended told
    (of_both bytes (λ s. All s.registry user group) (λ s. false ≡ s.is_in user group)
    (λ s. of_pair s.registry user group (joins s user group) ≡ Makes answer.Done (Join user group))
    (λ image s holds all is. all (joins s user group) ∙ joins_by s user group false false (sym fixed) (sym is)) good not_in)
    (join_leaves bytes after user group good not_in (subst (λ (b : Option (List ℕ)). Joined b after user group) still joined))

pub part_made : (bytes first mid after : Option (List ℕ)) (user group : ℤ) (ended : CallEnd) → PairFault bytes user group None
    → first ≡ bytes → OfStates first (λ s. true ≡ s.is_in user group) → mid ≡ bytes → Parted mid after user group
    → ended ≡ end_of (reply_by (Answers answer.Done))
    → IsMeantOf bytes (λ s. of_pair s.registry user group (parts s user group)) ended after
part_made bytes first mid after user group ended good same there still parted told =
    let is_in = of_same bytes first (λ s. true ≡ s.is_in user group) same there in
    made_so bytes after (λ s. of_pair s.registry user group (parts s user group)) (Part user group) ended told
    (of_both bytes (λ s. All s.registry user group) (λ s. true ≡ s.is_in user group)
    (λ s. of_pair s.registry user group (parts s user group) ≡ Makes answer.Done (Part user group))
    (λ image s holds all is. all (parts s user group) ∙ parts_by s user group true (sym is)) good is_in)
    (part_leaves bytes after user group is_in (subst (λ (b : Option (List ℕ)). Parted b after user group) still parted))

-- ---- faults

join_cause : (bytes : Option (List ℕ)) (user group : ℤ) (fault : RecordFault) → PairFault bytes user group None
    → OfStates bytes (λ s. false ≡ s.is_in user group)
    → HasCauseWhere (MayJoin user group) bytes fault → HasItsCause bytes fault
join_cause bytes user group DiskFault good new cause = tt
join_cause None user group (BadRecord at) good new cause = tt
join_cause (Some image) user group (BadRecord at) good new cause = λ some.
    let s : State = record { registry = some.0; is_in = some.1.has } in
    cause (
      some.0,
      some.1,
      some.2,
      may_join s user group some.2.pairs.holds.valid (good_pair some.0 user group (good s some.2)) (sym (new s some.2)),
    )
join_cause bytes user group NoMemory good new cause = tt

part_cause : (bytes : Option (List ℕ)) (user group : ℤ) (fault : RecordFault) → OfStates bytes (λ s. true ≡ s.is_in user group)
    → HasCauseWhere (λ r. MayLeave user group) bytes fault → HasItsCause bytes fault
part_cause bytes user group DiskFault there cause = tt
part_cause None user group (BadRecord at) there cause = tt
part_cause (Some image) user group (BadRecord at) there cause = λ some.
    let s : State = record { registry = some.0; is_in = some.1.has } in
    cause (some.0, some.1, some.2, sym (there s some.2))
part_cause bytes user group NoMemory there cause = tt

pub join_fault : (bytes first mid : Option (List ℕ)) (user group : ℤ) (fault : RecordFault) → PairFault bytes user group None
    → first ≡ bytes
    → OfStates first (λ s. false ≡ s.is_in user group) → mid ≡ bytes → HasCauseWhere (MayJoin user group) mid fault → HasItsCause bytes fault
join_fault bytes first mid user group fault good same new still cause =
    join_cause bytes user group fault good (of_same bytes first (λ s. false ≡ s.is_in user group) same new)
    (subst (λ (b : Option (List ℕ)). HasCauseWhere (MayJoin user group) b fault) still cause)

pub part_fault : (bytes first mid : Option (List ℕ)) (user group : ℤ) (fault : RecordFault) → first ≡ bytes
    → OfStates first (λ s. true ≡ s.is_in user group) → mid ≡ bytes → HasCauseWhere (λ r. MayLeave user group) mid fault
    → HasItsCause bytes fault
part_fault bytes first mid user group fault same there still cause =
    part_cause bytes user group fault (of_same bytes first (λ s. true ≡ s.is_in user group) same there)
    (subst (λ (b : Option (List ℕ)). HasCauseWhere (λ r. MayLeave user group) b fault) still cause)
