-- How a call ends that gives an entry another name, owner or id, once it was decided of it.
use Rattle.std.proofs.Common.{◌≡◌, ℕ, ℤ, pos, negsuc, ◌≤◌, Bool, true, false, not, ◌&&◌, cond, List, length, Option, Some, None, IfSome, Result, Ok, Err, refl, sym, ap, subst, ◌∙◌, inl, inr, arith}
use Rattle.std.specs.Prelude.{◌⊎◌, ◌<ℤ◌, ◌≤ℤ◌, ◌==◌, FitsSigned, int_lt, is_none, is_some, nat_lt, option_map}
use Rattle.std.specs.Int.{w32}
use Rattle.std.specs.Ordering.{int_eq}
use Rattle.std.proofs.lemmas.Bool.{and_parts, cases_Bool, ltb-false, ltb-true, not-false, not-true}
use Rattle.std.proofs.lemmas.Int.{ints}
use Rattle.db_image.specs.Ends.{end_of}
use Rattle.db_image.specs.declared.draft_services.CallEnd.{CallEnd}
use Rattle.db_image.specs.declared.faults.RecordFault.{RecordFault}
use Rattle.db_image.specs.declared.faults.RecordFault.TheVariants.{DiskFault, BadRecord, NoMemory}
use Rattle.db_blocks.specs.Ends.{HasCause}
use Rattle.prdb_layout.specs.Registry.{Registry, AreMaxima, IsOwner, IsRegistry, is_name_for}
use Rattle.prdb_layout.specs.State.{PrEntry, IsId, front_of}
use Rattle.prdb_lists.specs.Members.{Members}
use Rattle.prdb_finds.specs.Changes.{after_set_maxima}
use Rattle.prdb_finds.specs.Ends.{HasItsCause, HoldsSome}
use Rattle.prdb_finds.specs.Records.{Holds}
use Rattle.pt_calls.specs.declared.answers.PtAnswer.TheVariants as answer
use Rattle.pt_service.specs.Meaning.{Answers, Makes, Refuses, Turn as Turns, Verdict, of_entry, raised, reply_by, turn_by, turns, unless}
use Rattle.pt_service.specs.Names.{has_colon, with_front}
use Rattle.pt_service.specs.State.{State, is_group, is_id}
use Rattle.pt_service.specs.Turning.{front_of_entry, front_under, given_or, has_equal_names, has_long_name, is_fixed, is_misnamed, name_after, new_name, turn_fault, turns_its_groups, with_turned}
use Rattle.pt_service.specs.Told.{Told}
use Rattle.pt_service.proofs.Entered.{raised_are}
use Rattle.prdb_turns.specs.Fronts.{ids_by_block}
use Rattle.prdb_turns.specs.Turning.{HasTurn, IsTurned, MayTurn as MaySteps, is_under as is_named_under}
use Rattle.prdb_turns.proofs.Refits.{some_at}
use Rattle.pt_looks.specs.States.{HoldsRecords, OfStates, members_of}
use Rattle.pt_looks.proofs.Pairs.{is_there}
use Rattle.pt_changes.proofs.Decided.{done_made, refused_so}
use Rattle.pt_turns.specs.Deciding.{IsDecided}
use Rattle.pt_changes.specs.Standing.{IsMeantOf}
use Rattle.pt_changes.specs.Turning.{MayRenumber, MayTurn, after_turn}
use Rattle.pt_turns.specs.declared.deciding.Turn.{Turn}
use Rattle.pt_turns.proofs.Anyone.{any_some}
use Rattle.pt_turns.proofs.Named.{after_own, clash, front_good, front_text, id_of}
use Rattle.pt_turns.proofs.Whole.{steps_may, turned_at, turned_holds}

-- ---- no reason against it

passes : (a : Bool) (rule : ℕ) (rest : Option ℕ) → cond a (Some rule) rest ≡ None → (a ≡ false) × (rest ≡ None)
passes true rule rest is = absurd cc
passes false rule rest is = (refl, is)

-- all reasons, none of which holds
record Passes (r : Registry) (e : PrEntry) (name : List ℕ) (owner new_id : ℤ) : Type 0 where
  not_fixed : is_fixed e.id ≡ false
  form : (not (length name == 0) && not (is_name_for e.id name)) ≡ false
  owner_there : (not (int_eq owner (pos 0)) && is_none (r.entry owner)) ≡ false
  id : not (is_id (is_group e.id) (given_or new_id e.id)) ≡ false
  short : has_long_name r e (new_name r e name owner) ≡ false
  distinct : has_equal_names r e (new_name r e name owner) ≡ false
  free : (not (int_eq (given_or new_id e.id) e.id) && is_some (r.entry (given_or new_id e.id))) ≡ false

all_pass : (r : Registry) (e : PrEntry) (name : List ℕ) (owner new_id : ℤ) → turn_fault r e name owner new_id ≡ None
    → Passes r e name owner new_id
all_pass r e name owner new_id none =
    let new = new_name r e name owner in
    let id = given_or new_id e.id in
    let last : Option ℕ = cond (not (int_eq id e.id) && is_some (r.entry id)) (Some 267265) None in
    let eighth : Option ℕ = cond (has_equal_names r e new) (Some 267264) last in
    let seventh : Option ℕ = cond (has_long_name r e new) (Some 267272) eighth in
    let sixth : Option ℕ = cond (turns_its_groups r e new) (Some 267269) seventh in
    let fifth : Option ℕ = cond (is_misnamed r e.id (given_or owner e.owner) name) (Some 267272) sixth in
    let fourth : Option ℕ = cond (not (is_id (is_group e.id) id)) (Some 267273) fifth in
    let third : Option ℕ = cond (not (int_eq owner (pos 0)) && is_none (r.entry owner)) (Some 267268) fourth in
    let second : Option ℕ = cond (not (length name == 0) && not (is_name_for e.id name)) (Some 267272) third in
    let p1 = passes (is_fixed e.id) 267269 second none in
    let p2 = passes (not (length name == 0) && not (is_name_for e.id name)) 267272 third p1.1 in
    let p3 = passes (not (int_eq owner (pos 0)) && is_none (r.entry owner)) 267268 fourth p2.1 in
    let p4 = passes (not (is_id (is_group e.id) id)) 267273 fifth p3.1 in
    let p5 = passes (is_misnamed r e.id (given_or owner e.owner) name) 267272 sixth p4.1 in
    let p6 = passes (turns_its_groups r e new) 267269 seventh p5.1 in
    let p7 = passes (has_long_name r e new) 267272 eighth p6.1 in
    let p8 = passes (has_equal_names r e new) 267264 last p7.1 in
    let p9 = passes (not (int_eq id e.id) && is_some (r.entry id)) 267265 None p8.1 in
    record { not_fixed = p1.0; form = p2.0; owner_there = p3.0; id = p4.0; short = p7.0; distinct = p8.0; free = p9.0 }

-- ---- its name

and_no : (a b : Bool) → (not a && b) ≡ false → a ≡ false → b ≡ false
and_no true b is apart = absurd cc
and_no false b is apart = is

no_none : (o : Option PrEntry) → is_none o ≡ false → (x : PrEntry) × (o ≡ Some x)
no_none None is = absurd cc
no_none (Some x) is = (x, refl)

given_good : (r : Registry) (e : PrEntry) (name : List ℕ) (owner new_id : ℤ) → (length name == 0) ≡ false → Passes r e name owner new_id
    → is_name_for e.id name ≡ true
given_good r e name owner new_id given p =
    not-false (is_name_for e.id name) (and_no (length name == 0) (not (is_name_for e.id name)) p.form given)

-- with the front of another owner
abbrev under_owner : Registry → PrEntry → (owner : ℤ) → List ℕ
under_owner r e owner = with_front (front_under r owner e.name) e.name

front_for : (r : Registry) (owner : ℤ) (name : List ℕ) (o : PrEntry) → r.entry owner ≡ Some o → front_under r owner name ≡ front_of o.name
front_for r owner name o at = ap (λ (x : Option PrEntry). front_of_entry x (front_of name)) at

owner_good : (r : Registry) (e : PrEntry) (owner : ℤ) (o : PrEntry) → IsRegistry r → r.entry e.id ≡ Some e → r.entry owner ≡ Some o
    → has_colon e.name ≡ true
    → length (under_owner r e owner) ≤ 63 → is_name_for e.id (under_owner r e owner) ≡ true
owner_good r e owner o valid at owner_at has short =
    let front = front_for r owner e.name o owner_at in
    let text = front_text o.id o.name (valid.records owner o owner_at).name in
    subst (λ (f : List ℕ). is_name_for e.id (with_front f e.name) ≡ true) (sym front)
    (front_good e.id (front_of o.name) e.name text has (valid.records e.id e at).name
    (subst (λ (f : List ℕ). length (with_front f e.name) ≤ 63) front short))

abbrev owner_turns : PrEntry → (owner : ℤ) → Bool
owner_turns e owner = has_colon e.name && not (int_eq owner (pos 0)) && not (int_eq owner e.owner)

abbrev name_cases : Registry → PrEntry → (name : List ℕ) → (owner : ℤ) → (none turns : Bool) → List ℕ
name_cases r e name owner none turns = cond (not none) name (cond turns (under_owner r e owner) e.name)

name_by : (r : Registry) (e : PrEntry) (name : List ℕ) (owner : ℤ) (none turns : Bool) → (length name == 0) ≡ none
    → owner_turns e owner ≡ turns
    → new_name r e name owner ≡ name_cases r e name owner none turns
name_by r e name owner none turns one two =
    ap (λ (b : Bool). name_cases r e name owner b (owner_turns e owner)) one ∙ ap (λ (b : Bool). name_cases r e name owner none b) two

good_by : (r : Registry) (e : PrEntry) (name : List ℕ) (owner new_id : ℤ) (none turns : Bool) → IsRegistry r → r.entry e.id ≡ Some e
    → Passes r e name owner new_id
    → (length name == 0) ≡ none → owner_turns e owner ≡ turns → length (new_name r e name owner) ≤ 63
    → is_name_for e.id (name_cases r e name owner none turns) ≡ true
good_by r e name owner new_id false turns valid at p one two short = given_good r e name owner new_id one p
good_by r e name owner new_id true false valid at p one two short = (valid.records e.id e at).name
good_by r e name owner new_id true true valid at p one two short =
    let parts = and_parts (has_colon e.name && not (int_eq owner (pos 0))) (not (int_eq owner e.owner)) two in
    let more = and_parts (has_colon e.name) (not (int_eq owner (pos 0))) parts.0 in
    let o = no_none (r.entry owner)
    (and_no (int_eq owner (pos 0)) (is_none (r.entry owner)) p.owner_there (not-true (int_eq owner (pos 0)) more.1)) in
    owner_good r e owner o.0 valid at o.1 more.0 (subst (λ (n : List ℕ). length n ≤ 63) (name_by r e name owner true true one two) short)

own_short : (r : Registry) (e : PrEntry) (new : List ℕ) → IsRegistry r → r.entry e.id ≡ Some e → has_long_name r e new ≡ false
    → length new ≤ 63
own_short r e new valid at none =
    elim (cases_Bool (nat_lt 63 (length (name_after e new e)))) [
      | inl long ↦ absurd (clash (has_long_name r e new) (any_some r (λ f. nat_lt 63 (length (name_after e new f))) e valid at long) none)
      | inr short ↦ subst (λ (n : List ℕ). length n ≤ 63) (after_own e new) (ltb-false 63 (length (name_after e new e)) short)
    ]

name_good : (r : Registry) (e : PrEntry) (name : List ℕ) (owner new_id : ℤ) → IsRegistry r → r.entry e.id ≡ Some e
    → Passes r e name owner new_id
    → is_name_for e.id (new_name r e name owner) ≡ true
name_good r e name owner new_id valid at p =
    ap (is_name_for e.id) (name_by r e name owner (length name == 0) (owner_turns e owner) refl refl)
    ∙ good_by r e name owner new_id (length name == 0) (owner_turns e owner) valid at p refl refl
    (own_short r e (new_name r e name owner) valid at p.short)

-- ---- its owner and its id

owner_by : (r : Registry) (e : PrEntry) (owner : ℤ) (b : Bool) → IsRegistry r → r.entry e.id ≡ Some e → int_eq owner (pos 0) ≡ b
    → (not b && is_none (r.entry owner)) ≡ false → IsOwner r.entry (cond b e.owner owner)
owner_by r e owner true valid at zero is = (valid.among e.id e at).owner
owner_by r e owner false valid at zero is = let o = no_none (r.entry owner) is in inr (is_there (r.entry owner) o.0 o.1)

owner_good_too : (r : Registry) (e : PrEntry) (owner : ℤ) → IsRegistry r → r.entry e.id ≡ Some e
    → (not (int_eq owner (pos 0)) && is_none (r.entry owner)) ≡ false
    → IsOwner r.entry (given_or owner e.owner)
owner_good_too r e owner valid at is = owner_by r e owner (int_eq owner (pos 0)) valid at refl is

id_good : (group : Bool) (id : ℤ) → is_id group id ≡ true → FitsSigned w32 id → IsId id
id_good true (pos n) is fits = absurd cc
id_good true (negsuc n) is fits = ltb-true n 2147483647 is
id_good false (pos n) is fits = (ltb-true 0 n is, omega (arith, ints, fits.sfits))
id_good false (negsuc n) is fits = absurd cc

kind_is : (group : Bool) (id : ℤ) → is_id group id ≡ true → is_group id ≡ group
kind_is true (pos n) is = absurd cc
kind_is true (negsuc n) is = refl
kind_is false (pos n) is = refl
kind_is false (negsuc n) is = absurd cc

no_some : (o : Option PrEntry) → is_some o ≡ false → o ≡ None
no_some None is = refl
no_some (Some x) is = absurd cc

fits_by : (new_id own : ℤ) (b : Bool) → int_eq new_id (pos 0) ≡ b → FitsSigned w32 new_id → FitsSigned w32 own
    → FitsSigned w32 (cond b own new_id)
fits_by new_id own true is new old = old
fits_by new_id own false is new old = new

id_by : (r : Registry) (e : PrEntry) (name : List ℕ) (owner new_id : ℤ) (b : Bool) → r.entry e.id ≡ Some e → Passes r e name owner new_id
    → FitsSigned w32 new_id
    → FitsSigned w32 e.id → int_eq (given_or new_id e.id) e.id ≡ b
    → (given_or new_id e.id ≡ e.id) ⊎ MayRenumber e.id (given_or new_id e.id) r
id_by r e name owner new_id true at p new old same = inl (id_of (given_or new_id e.id) e.id same)
id_by r e name owner new_id false at p new old same =
    let id = given_or new_id e.id in
    let is = not-false (is_id (is_group e.id) id) p.id in
    inr (record {
      there = is_there (r.entry e.id) e at;
      not_fixed = p.not_fixed;
      good = id_good (is_group e.id) id is (fits_by new_id e.id (int_eq new_id (pos 0)) refl new old);
      kind = kind_is (is_group e.id) id is;
      new_id = no_some (r.entry id) (and_no (int_eq id e.id) (is_some (r.entry id)) p.free same);
    })

pub may_turn : (r : Registry) (e : PrEntry) (name : List ℕ) (owner new_id : ℤ) → IsRegistry r → r.entry e.id ≡ Some e
    → turn_fault r e name owner new_id ≡ None
    → FitsSigned w32 new_id → FitsSigned w32 e.id → MayTurn e (new_name r e name owner) (given_or owner e.owner) (given_or new_id e.id) r
may_turn r e name owner new_id valid at none new old =
    let p = all_pass r e name owner new_id none in (
      record {
        there = at;
        not_fixed = p.not_fixed;
        good = name_good r e name owner new_id valid at p;
        short = p.short;
        distinct = p.distinct;
        owner_there = owner_good_too r e owner valid at p.owner_there;
      },
      id_by r e name owner new_id (int_eq (given_or new_id e.id) e.id) at p new old refl,
    )

-- ---- how it ends

abbrev pub turn_verdict : (low : List ℕ) → (id owner new_id : ℤ) → State → Verdict
turn_verdict low id owner new_id s = of_entry (s.registry.entry id) (turns s.registry low owner new_id)

no_entry_by : (o : Option PrEntry) (goes : PrEntry → Verdict) → None ≡ o → of_entry o goes ≡ Refuses 267268
no_entry_by o goes is = ap (λ (x : Option PrEntry). of_entry x goes) (sym is)

none_by : (bytes : Option (List ℕ)) (low : List ℕ) (id owner new_id : ℤ) → OfStates bytes (λ s. None ≡ s.registry.entry id)
    → OfStates bytes (λ s. turn_verdict low id owner new_id s ≡ Refuses 267268)
none_by None low id owner new_id none = tt
none_by (Some image) low id owner new_id none =
    λ s holds. no_entry_by (s.registry.entry id) (turns s.registry low owner new_id) (none s holds)

pub turn_unknown : (bytes after : Option (List ℕ)) (low : List ℕ) (id owner new_id : ℤ) (ended : CallEnd)
    → OfStates bytes (λ s. None ≡ s.registry.entry id)
    → ended ≡ end_of (reply_by (Refuses 267268)) → after ≡ bytes → IsMeantOf bytes (turn_verdict low id owner new_id) ended after
turn_unknown bytes after low id owner new_id ended none told same =
    refused_so bytes after (turn_verdict low id owner new_id) 267268 ended told same (none_by bytes low id owner new_id none)

-- the entry of the id, of which it was decided
abbrev pub Found : Option (List ℕ) → (id : ℤ) → PrEntry → Type 0
Found bytes id e = OfStates bytes (λ s. Some e ≡ s.registry.entry id)

abbrev pub Decides : Option (List ℕ) → PrEntry → (low : List ℕ) → (owner new_id : ℤ) → Result Turn ℕ → Type 0
Decides bytes e low owner new_id decided =
    OfStates bytes (λ s. s.registry.entry e.id ≡ Some e → IsDecided s.registry e low owner new_id decided)

own_at : (r : Registry) (id : ℤ) (e : PrEntry) → IsRegistry r → Some e ≡ r.entry id → r.entry e.id ≡ Some e
own_at r id e valid at = ap r.entry (valid.ids id e (sym at)) ∙ sym at

entry_by : (o : Option PrEntry) (e : PrEntry) (goes : PrEntry → Verdict) → Some e ≡ o → of_entry o goes ≡ goes e
entry_by o e goes is = ap (λ (x : Option PrEntry). of_entry x goes) (sym is)

refuses_by : (r : Registry) (e : PrEntry) (low : List ℕ) (owner new_id : ℤ) (fault : Option ℕ) → turn_fault r e low owner new_id ≡ fault
    → turns r low owner new_id e ≡ unless fault (Makes answer.Done (turn_by r low owner new_id e))
refuses_by r e low owner new_id fault is = ap (λ (f : Option ℕ). unless f (Makes answer.Done (turn_by r low owner new_id e))) is

rule_by : (bytes : Option (List ℕ)) (low : List ℕ) (id owner new_id : ℤ) (e : PrEntry) (rule : ℕ) → Found bytes id e
    → Decides bytes e low owner new_id (Err rule)
    → OfStates bytes (λ s. turn_verdict low id owner new_id s ≡ Refuses rule)
rule_by None low id owner new_id e rule found decides = tt
rule_by (Some image) low id owner new_id e rule found decides = λ s holds.
    let r = s.registry in
    entry_by (r.entry id) e (turns r low owner new_id) (found s holds)
    ∙ refuses_by r e low owner new_id (Some rule) (decides s holds (own_at r id e holds.pairs.holds.valid (found s holds)))

pub turn_refused : (bytes look after : Option (List ℕ)) (low : List ℕ) (id owner new_id : ℤ) (e : PrEntry) (rule : ℕ) (ended : CallEnd)
    → Found bytes id e → look ≡ bytes
    → Decides look e low owner new_id (Err rule) → ended ≡ end_of (reply_by (Refuses rule)) → after ≡ bytes
    → IsMeantOf bytes (turn_verdict low id owner new_id) ended after
turn_refused bytes look after low id owner new_id e rule ended found seen decides told same =
    refused_so bytes after (turn_verdict low id owner new_id) rule ended told same
    (rule_by bytes low id owner new_id e rule found (subst (λ (b : Option (List ℕ)). Decides b e low owner new_id (Err rule)) seen decides))

-- ---- what it leaves

-- of each state that the bytes hold, what the steps leave
abbrev pub Turned : (bytes after : Option (List ℕ)) → PrEntry → Turn → Type 0
Turned bytes after e t =
    IfSome bytes
    (λ image. (r : Registry) (m : Members) → Holds image r m
    → MaySteps e t.name.items t.owner t.id (ids_by_block (is_named_under e.name) image) r
    → IsTurned e t.name.items t.owner t.id r m image after)

turned_so : (image : List ℕ) (look after : Option (List ℕ)) (s : State) (e : PrEntry) (t : Turn) → look ≡ Some image → HoldsRecords image s
    → MayTurn e t.name.items t.owner t.id s.registry → Turned look after e t
    → after ≡ Some (after_turn e t.name.items t.owner t.id s image)
turned_so image look after s e t same holds may told =
    turned_at image s e t.name.items t.owner t.id after holds may
    (some_at look image (λ i. (r : Registry) (m : Members) → Holds i r m
    → MaySteps e t.name.items t.owner t.id (ids_by_block (is_named_under e.name) i) r
    → IsTurned e t.name.items t.owner t.id r m i after) same told s.registry (members_of s) holds
    (steps_may image s e t.name.items t.owner t.id holds may))

-- what was decided may be made, and is what is meant
may_decided : (r : Registry) (e : PrEntry) (low : List ℕ) (owner new_id : ℤ) (t : Turn) → IsRegistry r → r.entry e.id ≡ Some e
    → IsDecided r e low owner new_id (Ok t)
    → FitsSigned w32 new_id → FitsSigned w32 e.id → MayTurn e t.name.items t.owner t.id r
may_decided r e low owner new_id t valid at decided new old =
    let may = may_turn r e low owner new_id valid at decided.0 new old in
    let one = subst (λ (n : List ℕ). MayTurn e n (given_or owner e.owner) (given_or new_id e.id) r) (sym decided.1) may in
    let two = subst (λ (o : ℤ). MayTurn e t.name.items o (given_or new_id e.id) r) (sym decided.2) one in
    subst (λ (i : ℤ). MayTurn e t.name.items t.owner i r) (sym decided.3) two

makes_by : (r : Registry) (e : PrEntry) (low : List ℕ) (owner new_id u g : ℤ) (p : ℤ × ℤ) (t : Turn) → IsDecided r e low owner new_id (Ok t)
    → ◌≡◌ {A = ℤ × ℤ} (u, g) (r.max_user, r.max_group) → ◌≡◌ {A = ℤ × ℤ} p (raised u g new_id)
    → turns r low owner new_id e ≡ Makes answer.Done (Turns e t.name.items t.owner t.id p.0 p.1)
makes_by r e low owner new_id u g p t decided max raises =
    let user : r.max_user ≡ u = sym (ap (λ (q : ℤ × ℤ). q.0) max) in
    let group : r.max_group ≡ g = sym (ap (λ (q : ℤ × ℤ). q.1) max) in
    let pair : raised r.max_user r.max_group new_id ≡ p = ap (λ (z : ℤ). raised z r.max_group new_id) user
    ∙ ap (λ (z : ℤ). raised u z new_id) group ∙ sym raises in
    refuses_by r e low owner new_id None decided.0
    ∙ ap (λ (q : ℤ × ℤ). Makes answer.Done (Turns e (new_name r e low owner) (given_or owner e.owner) (given_or new_id e.id) q.0 q.1)) pair
    ∙ ap (λ (n : List ℕ). Makes answer.Done (Turns e n (given_or owner e.owner) (given_or new_id e.id) p.0 p.1)) (sym decided.1)
    ∙ ap (λ (o : ℤ). Makes answer.Done (Turns e t.name.items o (given_or new_id e.id) p.0 p.1)) (sym decided.2)
    ∙ ap (λ (i : ℤ). Makes answer.Done (Turns e t.name.items t.owner i p.0 p.1)) (sym decided.3)

pub turn_made : (bytes b1 bm b2 b3 after : Option (List ℕ)) (low : List ℕ) (id owner new_id : ℤ) (e : PrEntry) (t : Turn) (u g : ℤ)
    (p : ℤ × ℤ) (ended : CallEnd)
    → Found bytes id e → b1 ≡ bytes → Decides b1 e low owner new_id (Ok t) → FitsSigned w32 new_id → FitsSigned w32 e.id
    → bm ≡ bytes → Told bm (λ r. ◌≡◌ {A = ℤ × ℤ} (u, g) (r.max_user, r.max_group))
    → ◌≡◌ {A = ℤ × ℤ} p (raised u g new_id)
    → b2 ≡ bytes → Turned b2 b3 e t → after ≡ option_map (after_set_maxima p.0 p.1) b3 → ended ≡ end_of (reply_by (Answers answer.Done))
    → IsMeantOf bytes (turn_verdict low id owner new_id) ended after
turn_made None b1 bm b2 b3 after low id owner new_id e t u g p ended found same1 decides new old same_m max raises same2 turned made told =
    tt
turn_made (Some image) b1 bm b2 b3 after low id owner new_id e t u g p ended found same1 decides new old same_m max raises same2 turned
    made told =
    λ s holds.
    let r = s.registry in
    let own = own_at r id e holds.pairs.holds.valid (found s holds) in
    let decided = some_at b1 image
    (λ i. (s : State) → HoldsRecords i s → s.registry.entry e.id ≡ Some e
    → IsDecided s.registry e low owner new_id (Ok t)) same1 decides s holds own in
    let maxima = some_at bm image
    (λ i. (r : Registry) (m : Members) → Holds i r m → ◌≡◌ {A = ℤ × ℤ} (u, g) (r.max_user, r.max_group)) same_m max r
    (members_of s) holds in
    let may = may_decided r e low owner new_id t holds.pairs.holds.valid own decided new old in
    let at = turned_so image b2 b3 s e t same2 holds may turned in
    done_made (turn_verdict low id owner new_id s) s image after (Turns e t.name.items t.owner t.id p.0 p.1) ended told
    (made ∙ ap (option_map (after_set_maxima p.0 p.1)) at)
    (entry_by (r.entry id) e (turns r low owner new_id) (found s holds) ∙ makes_by r e low owner new_id u g p t decided maxima raises)

-- ---- faults

pub turn_fault_cause : (bytes b1 b2 : Option (List ℕ)) (low : List ℕ) (id owner new_id : ℤ) (e : PrEntry) (t : Turn)
    (fault : RecordFault) → Found bytes id e → b1 ≡ bytes
    → Decides b1 e low owner new_id (Ok t) → FitsSigned w32 new_id → FitsSigned w32 e.id → b2 ≡ bytes
    → HasCause b2 (HasTurn e t.name.items t.owner t.id) fault → HasItsCause bytes fault
turn_fault_cause bytes b1 b2 low id owner new_id e t DiskFault found same1 decides new old same2 cause = tt
turn_fault_cause None b1 b2 low id owner new_id e t (BadRecord at) found same1 decides new old same2 cause = tt
turn_fault_cause (Some image) b1 b2 low id owner new_id e t (BadRecord at) found same1 decides new old same2 cause = λ some.
    let s : State = record { registry = some.0; is_in = some.1.has } in
    let own = own_at s.registry id e some.2.pairs.holds.valid (found s some.2) in
    let decided = some_at b1 image
    (λ i. (s : State) → HoldsRecords i s → s.registry.entry e.id ≡ Some e
    → IsDecided s.registry e low owner new_id (Ok t)) same1 decides s some.2 own in
    let may = may_decided s.registry e low owner new_id t some.2.pairs.holds.valid own decided new old in
    some_at b2 image (λ i. HasTurn e t.name.items t.owner t.id i → ⊥) same2 cause
    (some.0, some.1, some.2, steps_may image s e t.name.items t.owner t.id some.2 may)
turn_fault_cause bytes b1 b2 low id owner new_id e t NoMemory found same1 decides new old same2 cause = tt

pub maxima_cause : (bytes b1 b2 b3 : Option (List ℕ)) (low : List ℕ) (id owner new_id : ℤ) (e : PrEntry) (t : Turn) (fault : RecordFault)
    → Found bytes id e → b1 ≡ bytes → Decides b1 e low owner new_id (Ok t) → FitsSigned w32 new_id → FitsSigned w32 e.id → b2 ≡ bytes
    → Turned b2 b3 e t
    → HasItsCause b3 fault → HasItsCause bytes fault
maxima_cause bytes b1 b2 b3 low id owner new_id e t DiskFault found same1 decides new old same2 turned cause = tt
maxima_cause None b1 b2 b3 low id owner new_id e t (BadRecord at) found same1 decides new old same2 turned cause = tt
maxima_cause (Some image) b1 b2 b3 low id owner new_id e t (BadRecord at) found same1 decides new old same2 turned cause =
    λ some.
    let s : State = record { registry = some.0; is_in = some.1.has } in
    let own = own_at s.registry id e some.2.pairs.holds.valid (found s some.2) in
    let decided = some_at b1 image
    (λ i. (s : State) → HoldsRecords i s → s.registry.entry e.id ≡ Some e
    → IsDecided s.registry e low owner new_id (Ok t)) same1 decides s some.2 own in
    let may = may_decided s.registry e low owner new_id t some.2.pairs.holds.valid own decided new old in
    let left = turned_so image b2 b3 s e t same2 some.2 may turned in
    let held = turned_holds image s e t.name.items t.owner t.id some.2 may in
    let after : State = with_turned e t.name.items t.owner t.id s in
    some_at b3 (after_turn e t.name.items t.owner t.id s image) (λ i. HoldsSome i → ⊥) left cause
    (after.registry, members_of after, held)
maxima_cause bytes b1 b2 b3 low id owner new_id e t NoMemory found same1 decides new old same2 turned cause = tt

-- ---- the maxima

less_from : (a b : ℤ) → int_lt a b ≡ true → a <ℤ b
less_from a b less = grind (arith, ints)

not_less : (u z : ℤ) → pos 0 ≤ℤ u → z ≡ pos 0 → int_lt u z ≡ true → ⊥
not_less u z low zero less = let below = less_from u z less in omega (arith, ints, low, below, zero)

low_stays : (u g z : ℤ) (b : Bool) → AreMaxima u g → z ≡ pos 0 → int_lt u z ≡ b → cond b z u ≡ u
low_stays u g z true are zero less = absurd (not_less u z are.user_low zero less)
low_stays u g z false are zero less = refl

raised_none : (u g z : ℤ) → AreMaxima u g → z ≡ pos 0 → AreMaxima (raised u g z).0 (raised u g z).1
raised_none u g z are zero =
    let stays = low_stays u g (pos 0) (int_lt u (pos 0)) are refl refl in
    subst (λ (x : ℤ). AreMaxima (raised u g x).0 (raised u g x).1) (sym zero) (subst (λ (x : ℤ). AreMaxima x g) (sym stays) are)

raised_by : (u g new own : ℤ) (b : Bool) → AreMaxima u g → FitsSigned w32 new → int_eq new (pos 0) ≡ b
    → is_id (is_group own) (cond b own new) ≡ true
    → AreMaxima (raised u g new).0 (raised u g new).1
raised_by u g new own true are fits zero is = raised_none u g new are (id_of new (pos 0) zero)
raised_by u g new own false are fits zero is =
    raised_are u g new are fits (subst (λ (k : Bool). is_id k new ≡ true) (sym (kind_is (is_group own) new is)) is)

pub raised_good : (u g new own : ℤ) (p : ℤ × ℤ) → AreMaxima u g → FitsSigned w32 new → is_id (is_group own) (given_or new own) ≡ true
    → ◌≡◌ {A = ℤ × ℤ} p (raised u g new)
    → AreMaxima p.0 p.1
raised_good u g new own p are fits is same =
    subst (λ (q : ℤ × ℤ). AreMaxima q.0 q.1) (sym same) (raised_by u g new own (int_eq new (pos 0)) are fits refl is)
