-- Why an entry does not turn, one reason after the other, as it is decided.
use Rattle.std.proofs.Common.{◌≡◌, ℕ, ℤ, pos, negsuc, Bool, true, false, not, ◌&&◌, cond, List, length, Option, Some, None, Result, Ok, Err, refl, sym, ap, subst, ◌∙◌}
use Rattle.std.specs.Prelude.{◌==◌, is_none, is_some}
use Rattle.std.specs.Ordering.{int_eq}
use Rattle.prdb_layout.specs.Registry.{Registry, is_name_for}
use Rattle.prdb_layout.specs.State.{PrEntry, front_of}
use Rattle.pt_service.specs.Names.{has_colon, is_name_of, with_front}
use Rattle.pt_service.specs.State.{State, is_group, is_id}
use Rattle.pt_service.specs.Turning.{front_of_entry, given_or, has_equal_names, has_long_name, is_fixed, new_name, turn_fault, turns_its_groups}
use Rattle.pt_looks.specs.States.{OfStates}
use Rattle.pt_looks.proofs.States.{of_both, of_map}
use Rattle.pt_turns.specs.Deciding.{IsDecided, given_fault, misnamed_by, name_by, name_fault}
use Rattle.pt_turns.specs.declared.deciding.Turn.{Turn}

-- ---- one reason after the other

abbrev or_else : Option ℕ → Option ℕ → Option ℕ
or_else None later = later
or_else (Some rule) later = Some rule

given_then : (a b c d : Bool) (later : Option ℕ)
    → or_else (cond a (Some 267269) (cond b (Some 267272) (cond c (Some 267268) (cond d (Some 267273) None)))) later
    ≡ cond a (Some 267269) (cond b (Some 267272) (cond c (Some 267268) (cond d (Some 267273) later)))
given_then true b c d later = refl
given_then false true c d later = refl
given_then false false true d later = refl
given_then false false false true later = refl
given_then false false false false later = refl

names_then : (a b c : Bool) (later : Option ℕ)
    → or_else (cond a (Some 267269) (cond b (Some 267272) (cond c (Some 267264) None))) later
    ≡ cond a (Some 267269) (cond b (Some 267272) (cond c (Some 267264) later))
names_then true b c later = refl
names_then false true c later = refl
names_then false false true later = refl
names_then false false false later = refl

-- ---- the entry of the owner that there is afterwards

abbrev pub its_owner : Registry → PrEntry → (owner : ℤ) → Option PrEntry
its_owner r e owner = r.entry (given_or owner e.owner)

no_owner_by : (r : Registry) (e : PrEntry) (owner : ℤ) (t : Bool) → int_eq owner (pos 0) ≡ t
    → (not (int_eq owner (pos 0)) && is_none (its_owner r e owner)) ≡ (not (int_eq owner (pos 0)) && is_none (r.entry owner))
no_owner_by r e owner true is =
    ap (λ (t : Bool). not t && is_none (its_owner r e owner)) is ∙ sym (ap (λ (t : Bool). not t && is_none (r.entry owner)) is)
no_owner_by r e owner false is = ap (λ (t : Bool). not (int_eq owner (pos 0)) && is_none (r.entry (cond t e.owner owner))) is

no_front : (a c t : Bool) → t ≡ true → (x y z : List ℕ) → cond (a && not t && not c) x z ≡ cond (a && not t && not c) y z
no_front true c true is x y z = refl
no_front false c true is x y z = refl
no_front a c false is x y z = absurd cc

named_by_test : (r : Registry) (e : PrEntry) (owner : ℤ) (t : Bool) → int_eq owner (pos 0) ≡ t
    → cond (has_colon e.name && not (int_eq owner (pos 0)) && not (int_eq owner e.owner))
    (with_front (front_of_entry (its_owner r e owner) (front_of e.name)) e.name) e.name
    ≡ cond (has_colon e.name && not (int_eq owner (pos 0)) && not (int_eq owner e.owner))
    (with_front (front_of_entry (r.entry owner) (front_of e.name)) e.name) e.name
named_by_test r e owner true is = no_front (has_colon e.name) (int_eq owner e.owner) (int_eq owner (pos 0)) is
    (with_front (front_of_entry (its_owner r e owner) (front_of e.name)) e.name)
    (with_front (front_of_entry (r.entry owner) (front_of e.name)) e.name) e.name
named_by_test r e owner false is =
    ap (λ (t : Bool). cond (has_colon e.name && not (int_eq owner (pos 0)) && not (int_eq owner e.owner))
    (with_front (front_of_entry (r.entry (cond t e.owner owner)) (front_of e.name)) e.name) e.name) is

pub name_is : (r : Registry) (e : PrEntry) (name : List ℕ) (owner : ℤ)
    → name_by e name owner (its_owner r e owner) ≡ new_name r e name owner
name_is r e name owner =
    ap (λ (rest : List ℕ). cond (not (length name == 0)) name rest) (named_by_test r e owner (int_eq owner (pos 0)) refl)

form_is : (id : ℤ) (name : List ℕ) → is_name_of (is_group id) name ≡ is_name_for id name
form_is (pos n) name = refl
form_is (negsuc n) name = refl

-- ---- all reasons

abbrev pub id_taken : Registry → PrEntry → (new_id : ℤ) → Bool
id_taken r e new_id = not (int_eq (given_or new_id e.id) e.id) && is_some (r.entry (given_or new_id e.id))

abbrev later_fault : Registry → PrEntry → (name : List ℕ) → (owner new_id : ℤ) → Option ℕ
later_fault r e name owner new_id =
    cond (misnamed_by e name owner (its_owner r e owner)) (Some 267272)
    (or_else (name_fault r e (new_name r e name owner)) (cond (id_taken r e new_id) (Some 267265) None))

abbrev given_tests : (form owner : Bool) → PrEntry → (name : List ℕ) → (new_id : ℤ) → Option ℕ → Option ℕ
given_tests form owner e name new_id later =
    cond (is_fixed e.id) (Some 267269) (cond (not (length name == 0) && not form) (Some 267272)
    (cond owner (Some 267268) (cond (not (is_id (is_group e.id) (given_or new_id e.id))) (Some 267273) later)))

pub fault_is : (r : Registry) (e : PrEntry) (name : List ℕ) (owner new_id : ℤ)
    → turn_fault r e name owner new_id ≡ or_else (given_fault e name owner new_id (its_owner r e owner)) (later_fault r e name owner new_id)
fault_is r e name owner new_id =
    let new = new_name r e name owner in
    let later = later_fault r e name owner new_id in
    ap (λ (rest : Option ℕ). given_tests (is_name_for e.id name) (not (int_eq owner (pos 0)) && is_none (r.entry owner)) e name new_id
    (cond (misnamed_by e name owner (its_owner r e owner)) (Some 267272) rest))
    (sym (names_then (turns_its_groups r e new) (has_long_name r e new) (has_equal_names r e new)
    (cond (id_taken r e new_id) (Some 267265) None)))
    ∙ ap (λ (b : Bool). given_tests (is_name_for e.id name) b e name new_id later) (sym (no_owner_by r e owner (int_eq owner (pos 0)) refl))
    ∙ ap (λ (b : Bool). given_tests b (not (int_eq owner (pos 0)) && is_none (its_owner r e owner)) e name new_id later)
    (sym (form_is e.id name))
    ∙ sym (given_then (is_fixed e.id) (not (length name == 0) && not (is_name_of (is_group e.id) name))
    (not (int_eq owner (pos 0)) && is_none (its_owner r e owner))
    (not (is_id (is_group e.id) (given_or new_id e.id))) later)

-- ---- what is decided

abbrev pub Owner : Option (List ℕ) → PrEntry → (owner : ℤ) → Option PrEntry → Type 0
Owner bytes e owner found = OfStates bytes (λ s. found ≡ its_owner s.registry e owner)

abbrev pub Decides : Option (List ℕ) → PrEntry → (name : List ℕ) → (owner new_id : ℤ) → Result Turn ℕ → Type 0
Decides bytes e name owner new_id decided =
    OfStates bytes (λ s. s.registry.entry e.id ≡ Some e → IsDecided s.registry e name owner new_id decided)

fault_at : (r : Registry) (e : PrEntry) (name : List ℕ) (owner new_id : ℤ) (found : Option PrEntry) (o : Option ℕ)
    → found ≡ its_owner r e owner
    → o ≡ given_fault e name owner new_id found → turn_fault r e name owner new_id ≡ or_else o (later_fault r e name owner new_id)
fault_at r e name owner new_id found o is given =
    fault_is r e name owner new_id
    ∙ ap (λ (f : Option PrEntry). or_else (given_fault e name owner new_id f) (later_fault r e name owner new_id)) (sym is)
    ∙ ap (λ (x : Option ℕ). or_else x (later_fault r e name owner new_id)) (sym given)

pub decided_given : (bytes : Option (List ℕ)) (e : PrEntry) (name : List ℕ) (owner new_id : ℤ) (found : Option PrEntry) (rule : ℕ)
    → Owner bytes e owner found
    → Some rule ≡ given_fault e name owner new_id found → Decides bytes e name owner new_id (Err rule)
decided_given bytes e name owner new_id found rule is given =
    of_map bytes (λ s. found ≡ its_owner s.registry e owner)
    (λ s. s.registry.entry e.id ≡ Some e → turn_fault s.registry e name owner new_id ≡ Some rule)
    (λ image s holds same at. fault_at s.registry e name owner new_id found (Some rule) same given) is

misnamed_at : (r : Registry) (e : PrEntry) (name : List ℕ) (owner new_id : ℤ) (found : Option PrEntry) (b : Bool)
    → found ≡ its_owner r e owner
    → None ≡ given_fault e name owner new_id found → misnamed_by e name owner found ≡ b
    → turn_fault r e name owner new_id ≡ cond b (Some 267272)
    (or_else (name_fault r e (new_name r e name owner)) (cond (id_taken r e new_id) (Some 267265) None))
misnamed_at r e name owner new_id found b is given misnamed =
    fault_at r e name owner new_id found None is given
    ∙ ap (λ (f : Option PrEntry). cond (misnamed_by e name owner f) (Some 267272)
    (or_else (name_fault r e (new_name r e name owner)) (cond (id_taken r e new_id) (Some 267265) None))) (sym is)
    ∙ ap (λ (t : Bool). cond t (Some 267272)
    (or_else (name_fault r e (new_name r e name owner)) (cond (id_taken r e new_id) (Some 267265) None))) misnamed

pub decided_misnamed : (bytes : Option (List ℕ)) (e : PrEntry) (name : List ℕ) (owner new_id : ℤ) (found : Option PrEntry)
    → Owner bytes e owner found
    → None ≡ given_fault e name owner new_id found → misnamed_by e name owner found ≡ true → Decides bytes e name owner new_id (Err 267272)
decided_misnamed bytes e name owner new_id found is given misnamed =
    of_map bytes (λ s. found ≡ its_owner s.registry e owner)
    (λ s. s.registry.entry e.id ≡ Some e → turn_fault s.registry e name owner new_id ≡ Some 267272)
    (λ image s holds same at. misnamed_at s.registry e name owner new_id found true same given misnamed) is

-- the names are looked at
abbrev pub NameFault : Option (List ℕ) → PrEntry → (new : List ℕ) → Option ℕ → Type 0
NameFault bytes e new fault = OfStates bytes (λ s. s.registry.entry e.id ≡ Some e → fault ≡ name_fault s.registry e new)

named_at : (r : Registry) (e : PrEntry) (name : List ℕ) (owner new_id : ℤ) (found : Option PrEntry) (new : List ℕ) (fault : Option ℕ)
    → found ≡ its_owner r e owner
    → None ≡ given_fault e name owner new_id found → misnamed_by e name owner found ≡ false → new ≡ name_by e name owner found
    → fault ≡ name_fault r e new
    → turn_fault r e name owner new_id ≡ or_else fault (cond (id_taken r e new_id) (Some 267265) None)
named_at r e name owner new_id found new fault is given misnamed named told =
    let same : new ≡ new_name r e name owner = named ∙ ap (name_by e name owner) is ∙ name_is r e name owner in
    misnamed_at r e name owner new_id found false is given misnamed
    ∙ ap (λ (n : List ℕ). or_else (name_fault r e n) (cond (id_taken r e new_id) (Some 267265) None)) (sym same)
    ∙ ap (λ (x : Option ℕ). or_else x (cond (id_taken r e new_id) (Some 267265) None)) (sym told)

pub decided_named : (bytes : Option (List ℕ)) (e : PrEntry) (name : List ℕ) (owner new_id : ℤ) (found : Option PrEntry) (new : List ℕ)
    (rule : ℕ)
    → Owner bytes e owner found → None ≡ given_fault e name owner new_id found → misnamed_by e name owner found ≡ false
    → new ≡ name_by e name owner found
    → NameFault bytes e new (Some rule) → Decides bytes e name owner new_id (Err rule)
decided_named bytes e name owner new_id found new rule is given misnamed named told =
    of_both bytes (λ s. found ≡ its_owner s.registry e owner)
    (λ s. s.registry.entry e.id ≡ Some e → Some rule ≡ name_fault s.registry e new)
    (λ s. s.registry.entry e.id ≡ Some e → turn_fault s.registry e name owner new_id ≡ Some rule)
    (λ image s holds same so at. named_at s.registry e name owner new_id found new (Some rule) same given misnamed named (so at)) is told

taken_at : (r : Registry) (e : PrEntry) (new_id : ℤ) (b : Bool) → id_taken r e new_id ≡ b
    → cond {A = Option ℕ} (id_taken r e new_id) (Some 267265) None ≡ cond b (Some 267265) None
taken_at r e new_id b is = ap (λ (t : Bool). cond {A = Option ℕ} t (Some 267265) None) is

abbrev pub Taken : Option (List ℕ) → PrEntry → (new_id : ℤ) → Bool → Type 0
Taken bytes e new_id taken = OfStates bytes (λ s. taken ≡ id_taken s.registry e new_id)

abbrev AllGood : State → PrEntry → (owner : ℤ) → (new : List ℕ) → Option PrEntry → Type 0
AllGood s e owner new found = (found ≡ its_owner s.registry e owner) × (s.registry.entry e.id ≡ Some e → None ≡ name_fault s.registry e new)

pub decided_taken : (bytes : Option (List ℕ)) (e : PrEntry) (name : List ℕ) (owner new_id : ℤ) (found : Option PrEntry) (new : List ℕ)
    → Owner bytes e owner found
    → None ≡ given_fault e name owner new_id found → misnamed_by e name owner found ≡ false → new ≡ name_by e name owner found
    → NameFault bytes e new None
    → Taken bytes e new_id true → Decides bytes e name owner new_id (Err 267265)
decided_taken bytes e name owner new_id found new is given misnamed named told taken =
    of_both bytes (λ s. AllGood s e owner new found) (λ s. true ≡ id_taken s.registry e new_id)
    (λ s. s.registry.entry e.id ≡ Some e → turn_fault s.registry e name owner new_id ≡ Some 267265)
    (λ image s holds good so at.
    named_at s.registry e name owner new_id found new None good.0 given misnamed named (good.1 at)
    ∙ taken_at s.registry e new_id true (sym so))
    (of_both bytes (λ s. found ≡ its_owner s.registry e owner) (λ s. s.registry.entry e.id ≡ Some e → None ≡ name_fault s.registry e new)
    (λ s. AllGood s e owner new found) (λ image s holds a b. (a, b)) is told) taken

pub decided_turns : (bytes : Option (List ℕ)) (e : PrEntry) (name : List ℕ) (owner new_id : ℤ) (found : Option PrEntry) (t : Turn)
    → Owner bytes e owner found
    → None ≡ given_fault e name owner new_id found → misnamed_by e name owner found ≡ false → t.name.items ≡ name_by e name owner found
    → NameFault bytes e t.name.items None → Taken bytes e new_id false → t.owner ≡ given_or owner e.owner → t.id ≡ given_or new_id e.id
    → Decides bytes e name owner new_id (Ok t)
decided_turns bytes e name owner new_id found t is given misnamed named told taken owner_is id_is =
    of_both bytes (λ s. AllGood s e owner t.name.items found) (λ s. false ≡ id_taken s.registry e new_id)
    (λ s. s.registry.entry e.id ≡ Some e → IsDecided s.registry e name owner new_id (Ok t))
    (λ image s holds good so at. (
      named_at s.registry e name owner new_id found t.name.items None good.0 given misnamed named (good.1 at)
          ∙ taken_at s.registry e new_id false (sym so),
      named ∙ ap (name_by e name owner) good.0 ∙ name_is s.registry e name owner,
      owner_is,
      id_is,
    ))
    (of_both bytes (λ s. found ≡ its_owner s.registry e owner)
    (λ s. s.registry.entry e.id ≡ Some e → None ≡ name_fault s.registry e t.name.items)
    (λ s. AllGood s e owner t.name.items found) (λ image s holds a b. (a, b)) is told) taken

-- what was found over a draft of the same bytes
pub name_fault_same : (bytes look : Option (List ℕ)) (e : PrEntry) (new : List ℕ) (fault : Option ℕ) → look ≡ bytes
    → NameFault look e new fault → NameFault bytes e new fault
name_fault_same bytes look e new fault same told = subst (λ (b : Option (List ℕ)). NameFault b e new fault) same told

pub taken_same : (bytes look : Option (List ℕ)) (e : PrEntry) (new_id : ℤ) (taken : Bool) → look ≡ bytes → Taken look e new_id taken
    → Taken bytes e new_id taken
taken_same bytes look e new_id taken same told = subst (λ (b : Option (List ℕ)). Taken b e new_id taken) same told

-- an id that is given fits the entry, whatever the image holds
given_id_by : (fixed form owner fits : Bool)
    → ◌≡◌ {A = Option ℕ} None
    (cond fixed (Some 267269) (cond form (Some 267272) (cond owner (Some 267268) (cond (not fits) (Some 267273) None)))) → fits ≡ true
given_id_by true form owner fits none = absurd cc
given_id_by false true owner fits none = absurd cc
given_id_by false false true fits none = absurd cc
given_id_by false false false true none = refl
given_id_by false false false false none = absurd cc

pub given_id : (e : PrEntry) (name : List ℕ) (owner new_id : ℤ) (found : Option PrEntry) → None ≡ given_fault e name owner new_id found
    → is_id (is_group e.id) (given_or new_id e.id) ≡ true
given_id e name owner new_id found none =
    given_id_by (is_fixed e.id) (not (length name == 0) && not (is_name_of (is_group e.id) name))
    (not (int_eq owner (pos 0)) && is_none found)
    (is_id (is_group e.id) (given_or new_id e.id)) none
