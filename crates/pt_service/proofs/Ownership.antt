-- Who owns a new entry, as it is found in the records.
use Rattle.std.proofs.Common.{◌≡◌, ℕ, ℤ, pos, Bool, true, false, not, cond, List, Option, Some, None, Result, Ok, Err, IfOk, refl, sym, ap, subst, ◌∙◌}
use Rattle.std.specs.Prelude.{is_some}
use Rattle.std.specs.Option.{option_map}
use Rattle.std.specs.Ordering.{int_eq}
use Rattle.std.specs.Str.{bytes_eq}
use Rattle.db_image.specs.declared.faults.RecordFault.{RecordFault}
use Rattle.prdb_layout.specs.RecordEnds.{seen}
use Rattle.prdb_layout.specs.Registry.{Registry, IsNamed}
use Rattle.prdb_layout.specs.State.{PrEntry, administrators, front_of}
use Rattle.prdb_layout.specs.declared.records.PrEntry.{PrEntry as CodeEntry}
use Rattle.pt_calls.specs.Meaning.{id_named}
use Rattle.pt_service.specs.Meaning.{given_owner, owner_by_front, owner_for, owner_named, owner_of, unless_taken}
use Rattle.pt_service.specs.Names.{has_colon, is_name_of, system}
use Rattle.pt_service.specs.Told.{Told}
use Rattle.pt_service.proofs.Done.{told_all, told_both, told_map}
use Rattle.pt_service.proofs.Found.{its_id}

-- ---- by the front of a name

pub front_is : (r : Registry) (front : List ℕ) (b : Bool) → bytes_eq front system ≡ b
    → owner_by_front r front ≡ cond b (Ok administrators) (owner_named (id_named r front))
front_is r front b is = ap (λ (t : Bool). cond t (Ok administrators) (owner_named (id_named r front))) is

pub front_system : (bytes : Option (List ℕ)) (front : List ℕ) → bytes_eq front system ≡ true
    → Told bytes (λ r. Ok administrators ≡ owner_by_front r front)
front_system bytes front is = told_all bytes (λ r. Ok administrators ≡ owner_by_front r front) (λ r. sym (front_is r front true is))

ids_are : (found : Option CodeEntry)
    → option_map (λ (e : PrEntry). e.id) (option_map seen found) ≡ option_map (λ (e : CodeEntry). e.id) found
ids_are None = refl
ids_are (Some e) = refl

pub front_found : (bytes : Option (List ℕ)) (front : List ℕ) (found : Option CodeEntry) (owner : Result ℤ ℕ) → bytes_eq front system ≡ false
    → Told bytes (λ r. IsNamed r front (option_map seen found))
    → owner ≡ owner_named (option_map (λ (e : CodeEntry). e.id) found) → Told bytes (λ r. owner ≡ owner_by_front r front)
front_found None front found owner other named is = tt
front_found (Some image) front found owner other named is = λ r m holds.
    is ∙ ap owner_named (sym (ids_are found) ∙ sym (its_id image r m front (option_map seen found) holds (named r m holds)))
    ∙ sym (front_is r front false other)

-- ---- the owner of a name

abbrev owners : Registry → (name : List ℕ) → (given : ℤ) → (none colon : Bool) → Result ℤ ℕ
owners r name given none colon =
    cond (not none) (given_owner name given (r.entry given)) (cond colon (owner_by_front r (front_of name)) (Ok administrators))

pub owner_is : (r : Registry) (name : List ℕ) (given : ℤ) (none colon : Bool) → int_eq given (pos 0) ≡ none → has_colon name ≡ colon
    → owner_of r name given ≡ owners r name given none colon
owner_is r name given none colon is has =
    ap (λ (b : Bool). owners r name given b (has_colon name)) is ∙ ap (λ (b : Bool). owners r name given none b) has

pub owner_given : (bytes : Option (List ℕ)) (name : List ℕ) (given : ℤ) (found : Option CodeEntry) (owner : Result ℤ ℕ)
    → int_eq given (pos 0) ≡ false
    → Told bytes (λ r. option_map seen found ≡ r.entry given)
    → owner ≡ given_owner name given (option_map seen found)
    → Told bytes (λ r. owner ≡ owner_of r name given)
owner_given bytes name given found owner is there so =
    told_map bytes (λ r. option_map seen found ≡ r.entry given) (λ r. owner ≡ owner_of r name given)
    (λ r at. so ∙ ap (given_owner name given) at ∙ sym (owner_is r name given false (has_colon name) is refl)) there

pub owner_fronted : (res : Result (Result ℤ ℕ) RecordFault) (bytes : Option (List ℕ)) (name front : List ℕ) (given : ℤ)
    → int_eq given (pos 0) ≡ true
    → has_colon name ≡ true → front ≡ front_of name → IfOk res (λ owner. Told bytes (λ r. owner ≡ owner_by_front r front))
    → IfOk res (λ owner. Told bytes (λ r. owner ≡ owner_of r name given))
owner_fronted (Err fault) bytes name front given is has same found = tt
owner_fronted (Ok owner) bytes name front given is has same found =
    told_map bytes (λ r. owner ≡ owner_by_front r front) (λ r. owner ≡ owner_of r name given)
    (λ r so. so ∙ ap (owner_by_front r) same ∙ sym (owner_is r name given true true is has)) found

-- ---- the owner of a new entry

pub for_is : (r : Registry) (group : Bool) (name : List ℕ) (given : ℤ) (form taken : Bool) → is_name_of group name ≡ form
    → is_some (id_named r name) ≡ taken
    → owner_for r group name given ≡ cond form (unless_taken taken (owner_of r name given)) (Err 267272)
unfolding owner_for
for_is r group name given form taken is named =
    ap (λ (b : Bool). cond b (unless_taken (is_some (id_named r name)) (owner_of r name given)) (Err 267272)) is
    ∙ ap (λ (b : Bool). cond form (unless_taken b (owner_of r name given)) (Err 267272)) named

pub for_bad_name : (bytes : Option (List ℕ)) (group : Bool) (name : List ℕ) (given : ℤ) → is_name_of group name ≡ false
    → Told bytes (λ r. Err 267272 ≡ owner_for r group name given)
for_bad_name bytes group name given is =
    told_all bytes (λ r. Err 267272 ≡ owner_for r group name given)
    (λ r. sym (for_is r group name given false (is_some (id_named r name)) is refl))

pub for_barred : (bytes : Option (List ℕ)) (group : Bool) (name : List ℕ) (given : ℤ) (rule : ℕ) → is_name_of group name ≡ true
    → Told bytes (λ r. Err rule ≡ owner_of r name given) → Told bytes (λ r. Err rule ≡ owner_for r group name given)
for_barred bytes group name given rule is barred =
    told_map bytes (λ r. Err rule ≡ owner_of r name given) (λ r. Err rule ≡ owner_for r group name given)
    (λ r so. ap (unless_taken (is_some (id_named r name))) so
    ∙ sym (for_is r group name given true (is_some (id_named r name)) is refl)) barred

pub for_taken : (bytes mid : Option (List ℕ)) (group : Bool) (name : List ℕ) (given owner : ℤ) → is_name_of group name ≡ true → mid ≡ bytes
    → Told bytes (λ r. Ok owner ≡ owner_of r name given) → Told mid (λ r. true ≡ is_some (id_named r name))
    → Told bytes (λ r. Err 267264 ≡ owner_for r group name given)
for_taken bytes mid group name given owner is same so taken =
    told_both bytes (λ r. Ok owner ≡ owner_of r name given) (λ r. true ≡ is_some (id_named r name))
    (λ r. Err 267264 ≡ owner_for r group name given)
    (λ r o t. ap (unless_taken true) o ∙ sym (for_is r group name given true true is (sym t))) so
    (subst (λ (b : Option (List ℕ)). Told b (λ r. true ≡ is_some (id_named r name))) same taken)

pub for_owned : (bytes mid : Option (List ℕ)) (group : Bool) (name : List ℕ) (given owner : ℤ) → is_name_of group name ≡ true → mid ≡ bytes
    → Told bytes (λ r. Ok owner ≡ owner_of r name given) → Told mid (λ r. false ≡ is_some (id_named r name))
    → Told bytes (λ r. Ok owner ≡ owner_for r group name given)
for_owned bytes mid group name given owner is same so free =
    told_both bytes (λ r. Ok owner ≡ owner_of r name given) (λ r. false ≡ is_some (id_named r name))
    (λ r. Ok owner ≡ owner_for r group name given)
    (λ r o t. ap (unless_taken false) o ∙ sym (for_is r group name given true false is (sym t))) so
    (subst (λ (b : Option (List ℕ)). Told b (λ r. false ≡ is_some (id_named r name))) same free)
