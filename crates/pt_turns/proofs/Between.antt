-- An entry with another name, another id and another owner, before the groups that are named after it follow: the registry then.
use Rattle.std.proofs.Common.{◌≡◌, ◌≢◌, ℕ, ℤ, Bool, true, false, cond, List, Option, Some, None, refl, sym, ap, ◌∙◌}
use Rattle.std.specs.Prelude.{option_map, option_and_then}
use Rattle.std.specs.Ordering.{int_eq}
use Rattle.prdb_layout.specs.Registry.{Registry, IsRegistry, with_entry}
use Rattle.prdb_layout.specs.State.{PrEntry}
use Rattle.prdb_layout.proofs.Changed.{under_other, under_same}
use Rattle.prdb_lists.specs.Moves.{before}
use Rattle.pt_service.specs.Turning.{moved}
use Rattle.prdb_turns.specs.Owners.{with_owner}
use Rattle.prdb_turns.specs.Refits.{with_refit}
use Rattle.prdb_turns.specs.Renumbering.{renumbered, with_new_id}
use Rattle.prdb_turns.specs.Turning.{first, named, second, third}
use Rattle.pt_turns.proofs.Moved.{before_new, before_old, before_other, before_same, is_other, moved_own, moved_same}
use Rattle.pt_turns.proofs.Named.{id_of, to_id}

-- an entry as it is then
abbrev pub midway : PrEntry → (name : List ℕ) → (owner id : ℤ) → PrEntry → PrEntry
midway e name owner id f = record f {
  name = cond (int_eq f.id e.id) name f.name;
  id = moved e.id id f.id;
  owner = moved e.id id (cond (int_eq f.id e.id) owner f.owner);
}

-- ---- the entry itself, and any other one

abbrev by_test : PrEntry → (name : List ℕ) → (owner id : ℤ) → PrEntry → Bool → PrEntry
by_test e name owner id f b = record f {
  name = cond b name f.name;
  id = moved e.id id f.id;
  owner = moved e.id id (cond b owner f.owner);
}

midway_own : (e : PrEntry) (name : List ℕ) (owner id : ℤ)
    → with_owner (moved e.id id owner) (with_new_id e.id id (named name e)) ≡ midway e name owner id e
midway_own e name owner id = ap (by_test e name owner id e) (sym (to_id e.id e.id refl))

midway_other : (e : PrEntry) (name : List ℕ) (owner id : ℤ) (f : PrEntry) → f.id ≢ e.id
    → with_new_id e.id id f ≡ midway e name owner id f
midway_other e name owner id f other = ap (by_test e name owner id f) (sym (is_other f.id e.id other))

others_same : (r : Registry) (e : PrEntry) (name : List ℕ) (owner id z : ℤ) (o : Option PrEntry) → IsRegistry r → r.entry z ≡ o → z ≢ e.id
    → option_map (with_new_id e.id id) o ≡ option_map (midway e name owner id) o
others_same r e name owner id z None valid at other = refl
others_same r e name owner id z (Some f) valid at other =
    ap Some (midway_other e name owner id f (λ same. other (sym (valid.ids z f at) ∙ same)))

-- ---- with its name

first_is : (r : Registry) (e : PrEntry) (name : List ℕ) → r.entry e.id ≡ Some e → first e name r ≡ with_entry (named name e) r
first_is r e name at = ap (λ (o : Option PrEntry). with_refit (named name) o r) at

pub first_own : (r : Registry) (e : PrEntry) (name : List ℕ) → r.entry e.id ≡ Some e → (first e name r).entry e.id ≡ Some (named name e)
first_own r e name at =
    ap (λ (q : Registry). q.entry e.id) (first_is r e name at) ∙ under_same e.id e.id (Some (named name e)) r.entry refl

pub first_other : (r : Registry) (e : PrEntry) (name : List ℕ) (z : ℤ) → r.entry e.id ≡ Some e → z ≢ e.id
    → (first e name r).entry z ≡ r.entry z
first_other r e name z at other =
    ap (λ (q : Registry). q.entry z) (first_is r e name at) ∙ under_other e.id z (Some (named name e)) r.entry other

-- ---- with its id

same_id : (a : ℤ) (o : Option PrEntry) → option_map (with_new_id a a) o ≡ o
same_id a None = refl
same_id a (Some f) =
    ap (λ (z : ℤ). Some (record f { id = z; owner = moved a a f.owner })) (moved_same a f.id)
    ∙ ap (λ (z : ℤ). Some (record f { owner = z })) (moved_same a f.owner)

with_id_by : (q : Registry) (old new z : ℤ) (b : Bool) → int_eq new old ≡ b
    → (cond b q (renumbered old new q)).entry z ≡ option_map (with_new_id old new) (option_and_then q.entry (before old new z))
with_id_by q old new z true is =
    sym (ap (λ (i : ℤ). option_map (with_new_id old i) (option_and_then q.entry (before old i z))) (id_of new old is)
    ∙ ap (λ (o : Option ℤ). option_map (with_new_id old old) (option_and_then q.entry o)) (before_same old z)
    ∙ same_id old (q.entry z))
with_id_by q old new z false is = refl

pub second_at : (r : Registry) (e : PrEntry) (name : List ℕ) (id z : ℤ)
    → (second e name id r).entry z ≡ option_map (with_new_id e.id id) (option_and_then (first e name r).entry (before e.id id z))
second_at r e name id z = with_id_by (first e name r) e.id id z (int_eq id e.id) refl

-- the entry under its new id
abbrev pub moved_entry : PrEntry → (name : List ℕ) → (id : ℤ) → PrEntry
moved_entry e name id = with_new_id e.id id (named name e)

pub second_own : (r : Registry) (e : PrEntry) (name : List ℕ) (id : ℤ) → r.entry e.id ≡ Some e
    → (second e name id r).entry id ≡ Some (moved_entry e name id)
second_own r e name id at =
    second_at r e name id id
    ∙ ap (λ (o : Option ℤ). option_map (with_new_id e.id id) (option_and_then (first e name r).entry o)) (before_new e.id id id refl)
    ∙ ap (option_map (with_new_id e.id id)) (first_own r e name at)

second_none : (r : Registry) (e : PrEntry) (name : List ℕ) (id z : ℤ) → before e.id id z ≡ None → (second e name id r).entry z ≡ None
second_none r e name id z none =
    second_at r e name id z
    ∙ ap (λ (o : Option ℤ). option_map (with_new_id e.id id) (option_and_then (first e name r).entry o)) none

pub second_other : (r : Registry) (e : PrEntry) (name : List ℕ) (id z : ℤ) → r.entry e.id ≡ Some e → z ≢ id → z ≢ e.id
    → (second e name id r).entry z ≡ option_map (with_new_id e.id id) (r.entry z)
second_other r e name id z at new old =
    second_at r e name id z
    ∙ ap (λ (o : Option ℤ). option_map (with_new_id e.id id) (option_and_then (first e name r).entry o)) (before_other e.id id z new old)
    ∙ ap (option_map (with_new_id e.id id)) (first_other r e name z at old)

-- ---- with its owner

third_is : (r : Registry) (e : PrEntry) (name : List ℕ) (owner id : ℤ) → r.entry e.id ≡ Some e
    → third e name owner id r ≡ with_entry (with_owner (moved e.id id owner) (moved_entry e name id)) (second e name id r)
third_is r e name owner id at =
    ap (λ (o : Option PrEntry). with_refit (with_owner (moved e.id id owner)) o (second e name id r)) (second_own r e name id at)

pub third_own : (r : Registry) (e : PrEntry) (name : List ℕ) (owner id z : ℤ) → r.entry e.id ≡ Some e → z ≡ id
    → (third e name owner id r).entry z ≡ Some (midway e name owner id e)
third_own r e name owner id z at same =
    let new = with_owner (moved e.id id owner) (moved_entry e name id) in
    ap (λ (q : Registry). q.entry z) (third_is r e name owner id at)
    ∙ under_same new.id z (Some new) (second e name id r).entry (same ∙ sym (moved_own e.id id e.id refl))
    ∙ ap Some (midway_own e name owner id)

third_second : (r : Registry) (e : PrEntry) (name : List ℕ) (owner id z : ℤ) → r.entry e.id ≡ Some e → z ≢ id
    → (third e name owner id r).entry z ≡ (second e name id r).entry z
third_second r e name owner id z at other =
    let new = with_owner (moved e.id id owner) (moved_entry e name id) in
    ap (λ (q : Registry). q.entry z) (third_is r e name owner id at)
    ∙ under_other new.id z (Some new) (second e name id r).entry (λ same. other (same ∙ moved_own e.id id e.id refl))

pub third_gone : (r : Registry) (e : PrEntry) (name : List ℕ) (owner id z : ℤ) → r.entry e.id ≡ Some e → z ≢ id → z ≡ e.id
    → (third e name owner id r).entry z ≡ None
third_gone r e name owner id z at new old =
    third_second r e name owner id z at new ∙ second_none r e name id z (before_old e.id id z new old)

pub third_other : (r : Registry) (e : PrEntry) (name : List ℕ) (owner id z : ℤ) → IsRegistry r → r.entry e.id ≡ Some e → z ≢ id → z ≢ e.id
    → (third e name owner id r).entry z ≡ option_map (midway e name owner id) (r.entry z)
third_other r e name owner id z valid at new old =
    third_second r e name owner id z at new ∙ second_other r e name id z at new old
    ∙ others_same r e name owner id z (r.entry z) valid refl old

-- ---- the maxima

with_id_maxima : (q : Registry) (old new : ℤ) (b : Bool)
    → ((cond b q (renumbered old new q)).max_user ≡ q.max_user) × ((cond b q (renumbered old new q)).max_group ≡ q.max_group)
with_id_maxima q old new true = (refl, refl)
with_id_maxima q old new false = (refl, refl)

pub third_maxima : (r : Registry) (e : PrEntry) (name : List ℕ) (owner id : ℤ) → r.entry e.id ≡ Some e
    → ((third e name owner id r).max_user ≡ r.max_user) × ((third e name owner id r).max_group ≡ r.max_group)
third_maxima r e name owner id at =
    let one = first_is r e name at in
    let two = with_id_maxima (first e name r) e.id id (int_eq id e.id) in
    let three = third_is r e name owner id at in (
      ap (λ (q : Registry). q.max_user) three ∙ two.0 ∙ ap (λ (q : Registry). q.max_user) one,
      ap (λ (q : Registry). q.max_group) three ∙ two.1 ∙ ap (λ (q : Registry). q.max_group) one,
    )
