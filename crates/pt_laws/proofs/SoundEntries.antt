-- An entry that is to come in may come in.
use Rattle.std.proofs.Common.{◌≡◌, ℕ, ℤ, pos, zero, suc, ◌+◌, ◌-◌, ◌<◌, ◌≤◌, Bool, true, false, ◌||◌, cond, eqb, List, map, Option, Some}
use Rattle.std.proofs.Common.{None, IsSome, Ok, Err, refl, sym, subst, ◌∙◌, ⊎_elim, arith}
use Rattle.std.specs.Prelude.{FitsSigned, is_none, is_some, unsigned_abs}
use Rattle.std.specs.Int.{w32}
use Rattle.std.specs.List.{find, range_with_len}
use Rattle.std.proofs.lemmas.Int.{ints}
use Rattle.prdb_layout.specs.Registry.{Registry, IsOwner, IsRegistry, MayBeAdded, with_entry}
use Rattle.prdb_layout.specs.State.{PrEntry, IsId}
use Rattle.prdb_layout.proofs.Changed.{by_id, under_other}
use Rattle.prdb_layout.proofs.Lengths.{fits_id}
use Rattle.pt_calls.specs.declared.answers.PtAnswer.TheVariants as answer
use Rattle.pt_calls.specs.Meaning.{id_named}
use Rattle.pt_service.specs.Meaning.{Makes, Refuses, entry_made, enters, first_unused, id_behind, ids_behind, made, maximum, new_entry}
use Rattle.pt_service.specs.Meaning.{new_entry_of_id, next_id, of_owner, owner_for, owner_of, raised, unless_taken, with_given, with_next}
use Rattle.pt_service.specs.Names.{is_name_of}
use Rattle.pt_service.specs.Refusals as rule
use Rattle.pt_service.specs.State.{State, is_group, is_id}
use Rattle.pt_service.proofs.Entered.{group_of, made_record, may_enter, raised_are, unused_is}
use Rattle.pt_service.proofs.Ownership.{for_is}
use Rattle.pt_service.proofs.Unused.{behind_is}
use Rattle.pt_looks.proofs.Pairs.{some_is}
use Rattle.pt_laws.proofs.Possible.{CanEnter, IsSound, either, of_good}

-- ---- the id that was found

record IsGoodId (group : Bool) (id : ℤ) : Type 0 where
  is : is_id group id ≡ true
  fits : FitsSigned w32 id

behind_fits : (group : Bool) (n : ℕ) → n < 2147483647 → FitsSigned w32 (id_behind group n)
behind_fits true n low = record { sfits = omega (arith, ints) }
behind_fits false n low = record { sfits = omega (arith, ints) }

behind_good : (group : Bool) (n : ℕ) → n < 2147483647 → IsGoodId group (id_behind group n)
behind_good group n low = record { is = behind_is group n low; fits = behind_fits group n low }

good_by : (group b : Bool) (y x : ℤ) (later : Option ℤ) → IsGoodId group y → (later ≡ Some x → IsGoodId group x)
    → cond b (Some y) later ≡ Some x → IsGoodId group x
good_by group true y x later here more is = let same : y ≡ x = cc in subst (IsGoodId group) same here
good_by group false y x later here more is = more is

-- so many numbers from one on that are all below the greatest
found_good : (p : ℤ → Bool) (group : Bool) (n a : ℕ) (id : ℤ) → (0 < n → a + n ≤ 2147483647)
    → find p (map (id_behind group) (range_with_len a n)) ≡ Some id → IsGoodId group id
found_good p group zero a id low is = absurd cc
found_good p group (suc n) a id low is =
    let most = low (omega arith) in
    good_by group (p (id_behind group a)) (id_behind group a) id (find p (map (id_behind group) (range_with_len (a + 1) n)))
    (behind_good group a (omega (arith, most)))
    (found_good p group n (a + 1) id (λ some. omega (arith, most))) is

unused_good : (s : State) (group : Bool) (passed : ℕ) (id : ℤ) → first_unused s.registry group passed ≡ Some id → IsGoodId group id
unfolding first_unused ids_behind
unused_good s group passed id is =
    found_good (λ x. is_none (s.registry.entry x)) group (2147483647 - passed) passed id (λ some. omega (arith, some)) is

-- ---- its name and its owner

form_by : (r : Registry) (group : Bool) (name : List ℕ) (given owner : ℤ) (form : Bool)
    → cond form (unless_taken (is_some (id_named r name)) (owner_of r name given)) (Err 267272) ≡ Ok owner → form ≡ true
form_by r group name given owner true is = refl
form_by r group name given owner false is = absurd cc

form_is : (r : Registry) (group : Bool) (name : List ℕ) (given owner : ℤ) → owner_for r group name given ≡ Ok owner
    → is_name_of group name ≡ true
form_is r group name given owner is =
    form_by r group name given owner (is_name_of group name)
    (sym (for_is r group name given (is_name_of group name) (is_some (id_named r name)) refl refl) ∙ is)

there_fits : (r : Registry) (id : ℤ) → IsRegistry r → IsSome (r.entry id) → FitsSigned w32 id
there_fits r id valid there =
    let e = some_is (r.entry id) there in fits_id id (subst IsId (valid.ids id e.0 e.1) (valid.records id e.0 e.1).fields.id)

-- an owner among the others and a new entry
owner_fits : (r : Registry) (e : PrEntry) (owner : ℤ) → IsRegistry r → FitsSigned w32 e.id → IsOwner (with_entry e r).entry owner
    → FitsSigned w32 owner
owner_fits r e owner valid own there =
    ⊎_elim
    (λ (none : owner ≡ pos 0). subst (λ (z : ℤ). FitsSigned w32 z) (sym none) (record { sfits = omega arith }))
    (λ (some : IsSome ((with_entry e r).entry owner)).
    by_id owner e.id (λ same. subst (λ (z : ℤ). FitsSigned w32 z) (sym same) own)
    (λ other. there_fits r owner valid (subst (λ (o : Option PrEntry). IsSome o) (under_other e.id owner (Some e) r.entry other) some)))
    there

-- ---- an entry of such an id

enter_can : (s : State) (group : Bool) (name : List ℕ) (given owner id : ℤ) → IsRegistry s.registry
    → owner_for s.registry group name given ≡ Ok owner
    → s.registry.entry id ≡ None → is_id group id ≡ true → FitsSigned w32 id
    → CanEnter s (made group name id owner) (raised s.registry.max_user s.registry.max_group id).0
    (raised s.registry.max_user s.registry.max_group id).1
enter_can s group name given owner id valid good unused is fits =
    let r = s.registry in
    let e = made group name id owner in
    let may : MayBeAdded e r = may_enter r group name given owner id e valid (sym good) unused refl in
    let own : is_id (is_group id) id ≡ true = subst (λ (b : Bool). is_id b id ≡ true) (sym (group_of group id is)) is in
    record {
      good = made_record e group name id owner refl fits (owner_fits r e owner valid fits may.among.owner) is
          (form_is r group name given owner good);
      may = may;
      maxima = raised_are r.max_user r.max_group id valid.maxima fits own;
    }

-- ---- newentry

next_sound : (s : State) (group : Bool) (name : List ℕ) (given owner : ℤ) (next : Option ℤ) → IsRegistry s.registry
    → owner_for s.registry group name given ≡ Ok owner
    → next_id s.registry group ≡ next → IsSound s (with_next s.registry group name owner next)
next_sound s group name given owner None valid good is = tt
next_sound s group name given owner (Some id) valid good is =
    let passed = unsigned_abs (maximum s.registry group) in
    let found = unused_good s group passed id is in
    enter_can s group name given owner id valid good (unused_is s.registry group passed id (sym is)) found.is found.fits

made_sound : (s : State) (group : Bool) (name : List ℕ) (given : ℤ) → IsRegistry s.registry
    → IsSound s (entry_made s.registry group name given)
made_sound s group name given valid =
    of_good (IsSound s) (owner_for s.registry group name given)
    (λ owner. with_next s.registry group name owner (next_id s.registry group)) (λ rule. tt)
    (λ owner good. next_sound s group name given owner (next_id s.registry group) valid good refl)

pub new_sound : (s : State) (name : List ℕ) (kind : ℕ) (given : ℤ) → IsRegistry s.registry
    → IsSound s (new_entry s.registry name kind given)
new_sound s name kind given valid =
    either (IsSound s) (eqb kind 0 || eqb kind 2) (entry_made s.registry (eqb kind 2) name given) (Refuses rule.bad_argument)
    (λ is. made_sound s (eqb kind 2) name given valid) (λ is. tt)

-- ---- inewentry

none_by : (o : Option PrEntry) → is_some o ≡ false → o ≡ None
none_by None is = refl
none_by (Some e) is = absurd cc

given_sound : (s : State) (name : List ℕ) (id given owner : ℤ) → IsRegistry s.registry → FitsSigned w32 id → is_id (is_group id) id ≡ true
    → owner_for s.registry (is_group id) name given ≡ Ok owner
    → IsSound s (with_given s.registry name id owner (is_some (s.registry.entry id)))
given_sound s name id given owner valid fits is good =
    either (IsSound s) (is_some (s.registry.entry id)) (Refuses rule.id_exists)
    (Makes answer.Done (enters s.registry (made (is_group id) name id owner))) (λ taken. tt)
    (λ free. enter_can s (is_group id) name given owner id valid good (none_by (s.registry.entry id) free) is fits)

pub new_of_id_sound : (s : State) (name : List ℕ) (id given : ℤ) → IsRegistry s.registry → FitsSigned w32 id
    → IsSound s (new_entry_of_id s.registry name id given)
new_of_id_sound s name id given valid fits =
    either (IsSound s) (is_id (is_group id) id)
    (of_owner (owner_for s.registry (is_group id) name given)
    (λ owner. with_given s.registry name id owner (is_some (s.registry.entry id))))
    (Refuses rule.bad_argument)
    (λ is. of_good (IsSound s) (owner_for s.registry (is_group id) name given)
    (λ owner. with_given s.registry name id owner (is_some (s.registry.entry id))) (λ rule. tt)
    (λ owner good. given_sound s name id given owner valid fits is good)) (λ is. tt)
