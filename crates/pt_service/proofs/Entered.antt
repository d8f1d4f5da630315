-- A new entry: what is decided of it, and that it may come in.
use Rattle.std.proofs.Common.{◌≡◌, ℕ, ℤ, pos, negsuc, Bool, true, false, not, ◌&&◌, ◌||◌, cond, eqb, List, [], ◌∷◌, map, Option, Some, None, Result, Ok, Err, IsSome, IsSomeAnd, refl, sym, ap, subst, ◌∙◌, inr, arith}
use Rattle.std.specs.Prelude.{◌≤ℤ◌, FitsSigned, codes, int_lt, is_none, is_some, option_and_then, unsigned_abs}
use Rattle.std.specs.Int.{w32}
use Rattle.std.specs.List.{Contains, find}
use Rattle.std.specs.Option.{option_map}
use Rattle.std.specs.Ordering.{int_eq}
use Rattle.std.specs.Str.{bytes_eq}
use Rattle.std.proofs.lemmas.Bool.{eqb-true, ltb-true}
use Rattle.std.proofs.lemmas.Int.{ints}
use Rattle.db_image.specs.declared.faults.RecordFault.{RecordFault}
use Rattle.prdb_layout.specs.Registry.{Registry, AreMaxima, IsRecord, IsRegistry, MayBeAdded}
use Rattle.prdb_layout.specs.State.{PrEntry, administrators, anonymous, fixed_entries, front_of}
use Rattle.prdb_finds.specs.Changes.{after_set_maxima}
use Rattle.prdb_finds.specs.Ends.{HasCauseWhere, HasItsCause}
use Rattle.prdb_entries.specs.Changes.{after_insert}
use Rattle.pt_calls.specs.declared.answers.PtAnswer.TheVariants as answer
use Rattle.pt_calls.specs.Meaning.{id_named, ids_to, is_named}
use Rattle.pt_calls.specs.NameLaws.{none_named}
use Rattle.pt_service.specs.Entering.{kind_of}
use Rattle.pt_service.specs.Meaning.{Enter, Makes, Refuses, entry_made, enters, first_unused, given_owner, ids_behind, made, new_entry, new_entry_of_id, next_id, of_owner, owner_by_front, owner_for, owner_named, owner_of, raised, unless_taken, with_given, with_next}
use Rattle.pt_service.specs.Names.{has_colon, is_name_of, system}
use Rattle.pt_service.specs.Standing.{image_after}
use Rattle.pt_service.specs.State.{is_group, is_id}
use Rattle.pt_service.specs.Told.{Told}
use Rattle.pt_service.proofs.Causes.{cause_told, told_valid}
use Rattle.pt_service.proofs.Entries.{record_of}
use Rattle.pt_service.proofs.Ownership.{for_is, front_is, owner_is}
use Rattle.pt_service.proofs.Refitted.{some_with}

-- ---- ids and maxima

pub group_of : (group : Bool) (id : ℤ) → is_id group id ≡ true → is_group id ≡ group
group_of true (pos n) is = absurd cc
group_of true (negsuc n) is = refl
group_of false (pos n) is = refl
group_of false (negsuc n) is = absurd cc

lesser : (id g : ℤ) (b : Bool) → int_lt id g ≡ b → negsuc 2147483646 ≤ℤ id → negsuc 2147483646 ≤ℤ g → g ≤ℤ negsuc 0 → id ≤ℤ negsuc 0
    → (negsuc 2147483646 ≤ℤ cond b id g) × (cond b id g ≤ℤ negsuc 0)
lesser id g true is low_id low_g high_g high_id = (low_id, high_id)
lesser id g false is low_id low_g high_g high_id = (low_g, high_g)

greater : (id u : ℤ) (b : Bool) → int_lt u id ≡ b → pos 0 ≤ℤ id → pos 0 ≤ℤ u → u ≤ℤ pos 2147483647 → id ≤ℤ pos 2147483647
    → (pos 0 ≤ℤ cond b id u) × (cond b id u ≤ℤ pos 2147483647)
greater id u true is low_id low_u high_u high_id = (low_id, high_id)
greater id u false is low_id low_u high_u high_id = (low_u, high_u)

pub raised_are : (u g id : ℤ) → AreMaxima u g → FitsSigned w32 id → is_id (is_group id) id ≡ true
    → AreMaxima (raised u g id).0 (raised u g id).1
raised_are u g (pos n) are fits is =
    let p = greater (pos n) u (int_lt u (pos n)) refl (omega (arith, ints)) are.user_low are.user_high (omega (arith, ints, fits.sfits)) in
    record { user_low = p.0; user_high = p.1; group_low = are.group_low; group_high = are.group_high }
raised_are u g (negsuc n) are fits is =
    let below = ltb-true n 2147483647 is in
    let p = lesser (negsuc n) g (int_lt (negsuc n) g) refl (omega (arith, ints, below)) are.group_low are.group_high
    (omega (arith, ints)) in
    record { user_low = are.user_low; user_high = are.user_high; group_low = p.0; group_high = p.1 }

-- ---- what is decided

not_both : (kind : ℕ) → eqb kind 0 ≡ true → eqb kind 2 ≡ true → ⊥
not_both kind zero two = let a = eqb-true kind 0 zero in let b = eqb-true kind 2 two in omega (arith, a, b)

kind_by : (r : Registry) (name : List ℕ) (kind : ℕ) (owner : ℤ) (a b : Bool) → eqb kind 0 ≡ a → eqb kind 2 ≡ b
    → new_entry r name kind owner ≡ cond (a || b) (entry_made r b name owner) (Refuses 267273)
kind_by r name kind owner a b is_a is_b =
    ap (λ (t : Bool). cond (t || eqb kind 2) (entry_made r (eqb kind 2) name owner) (Refuses 267273)) is_a
    ∙ ap (λ (t : Bool). cond (a || t) (entry_made r t name owner) (Refuses 267273)) is_b

some_by : (r : Registry) (name : List ℕ) (kind : ℕ) (owner : ℤ) (group a b : Bool) → eqb kind 0 ≡ a → eqb kind 2 ≡ b
    → cond a (Some false) (cond b (Some true) None) ≡ Some group → new_entry r name kind owner ≡ entry_made r group name owner
some_by r name kind owner group true true is_a is_b some = absurd (not_both kind is_a is_b)
some_by r name kind owner group true false is_a is_b some =
    let same : false ≡ group = cc in
    kind_by r name kind owner true false is_a is_b ∙ ap (λ (t : Bool). entry_made r t name owner) same
some_by r name kind owner group false true is_a is_b some =
    let same : true ≡ group = cc in
    kind_by r name kind owner false true is_a is_b ∙ ap (λ (t : Bool). entry_made r t name owner) same
some_by r name kind owner group false false is_a is_b some = absurd cc

pub kind_some : (r : Registry) (name : List ℕ) (kind : ℕ) (owner : ℤ) (group : Bool) → kind_of kind ≡ Some group
    → new_entry r name kind owner ≡ entry_made r group name owner
kind_some r name kind owner group some = some_by r name kind owner group (eqb kind 0) (eqb kind 2) refl refl some

-- the maxima after it, as they were found
enters_so : (r : Registry) (e : PrEntry) (u g : ℤ) (p : ℤ × ℤ) → ◌≡◌ {A = ℤ × ℤ} (u, g) (r.max_user, r.max_group)
    → ◌≡◌ {A = ℤ × ℤ} p (raised u g e.id)
    → enters r e ≡ Enter e p.0 p.1
enters_so r e u g p max is =
    let same : ◌≡◌ {A = ℤ × ℤ} (raised r.max_user r.max_group e.id) p = ap (λ (m : ℤ × ℤ). raised m.0 m.1 e.id) (sym max) ∙ sym is in
    ap (λ (m : ℤ × ℤ). Enter e m.0 m.1) same

pub next_refused : (r : Registry) (group : Bool) (name : List ℕ) (given : ℤ) (rule : ℕ) → Err rule ≡ owner_for r group name given
    → entry_made r group name given ≡ Refuses rule
next_refused r group name given rule is = ap (λ (o : Result ℤ ℕ). of_owner o (λ o. with_next r group name o (next_id r group))) (sym is)

next_found : (r : Registry) (group : Bool) (u g : ℤ) (k : ℕ) (id : Option ℤ) → ◌≡◌ {A = ℤ × ℤ} (u, g) (r.max_user, r.max_group)
    → k ≡ unsigned_abs (cond group g u)
    → id ≡ first_unused r group k → next_id r group ≡ id
next_found r group u g k id max is found =
    ap (λ (m : ℤ × ℤ). first_unused r group (unsigned_abs (cond group m.1 m.0))) (sym max) ∙ ap (first_unused r group) (sym is) ∙ sym found

pub next_none : (r : Registry) (group : Bool) (name : List ℕ) (given owner u g : ℤ) (k : ℕ) → Ok owner ≡ owner_for r group name given
    → ◌≡◌ {A = ℤ × ℤ} (u, g) (r.max_user, r.max_group) → k ≡ unsigned_abs (cond group g u) → None ≡ first_unused r group k
    → entry_made r group name given ≡ Refuses 267266
next_none r group name given owner u g k is max number found =
    ap (λ (o : Result ℤ ℕ). of_owner o (λ o. with_next r group name o (next_id r group))) (sym is)
    ∙ ap (with_next r group name owner) (next_found r group u g k None max number found)

pub next_made : (r : Registry) (group : Bool) (name : List ℕ) (given owner u g id : ℤ) (k : ℕ) (e : PrEntry) (p : ℤ × ℤ)
    → Ok owner ≡ owner_for r group name given
    → ◌≡◌ {A = ℤ × ℤ} (u, g) (r.max_user, r.max_group) → k ≡ unsigned_abs (cond group g u) → Some id ≡ first_unused r group k
    → e ≡ made group name id owner → ◌≡◌ {A = ℤ × ℤ} p (raised u g id)
    → entry_made r group name given ≡ Makes (answer.Id id) (Enter e p.0 p.1)
next_made r group name given owner u g id k e p is max number found so raises =
    ap (λ (o : Result ℤ ℕ). of_owner o (λ o. with_next r group name o (next_id r group))) (sym is)
    ∙ ap (with_next r group name owner) (next_found r group u g k (Some id) max number found)
    ∙ ap (Makes (answer.Id id)) (enters_so r (made group name id owner) u g p max raises ∙ ap (λ (x : PrEntry). Enter x p.0 p.1) (sym so))

of_id_is : (r : Registry) (name : List ℕ) (id given : ℤ) (b : Bool) → is_id (is_group id) id ≡ b
    → new_entry_of_id r name id given
    ≡ cond b (of_owner (owner_for r (is_group id) name given) (λ o. with_given r name id o (is_some (r.entry id)))) (Refuses 267273)
of_id_is r name id given b is =
    ap (λ (t : Bool). cond t (of_owner (owner_for r (is_group id) name given) (λ o. with_given r name id o (is_some (r.entry id))))
    (Refuses 267273)) is

pub given_refused : (r : Registry) (group : Bool) (name : List ℕ) (id given : ℤ) (rule : ℕ) → is_id (is_group id) id ≡ true
    → group ≡ is_group id
    → Err rule ≡ owner_for r group name given → new_entry_of_id r name id given ≡ Refuses rule
given_refused r group name id given rule is own barred =
    of_id_is r name id given true is
    ∙ ap (λ (o : Result ℤ ℕ). of_owner o (λ o. with_given r name id o (is_some (r.entry id))))
    (ap (λ (b : Bool). owner_for r b name given) (sym own) ∙ sym barred)

given_by : (r : Registry) (group : Bool) (name : List ℕ) (id given owner : ℤ) (taken : Bool) → is_id (is_group id) id ≡ true
    → group ≡ is_group id
    → Ok owner ≡ owner_for r group name given → is_some (r.entry id) ≡ taken
    → new_entry_of_id r name id given ≡ with_given r name id owner taken
given_by r group name id given owner taken is own good there =
    of_id_is r name id given true is
    ∙ ap (λ (o : Result ℤ ℕ). of_owner o (λ o. with_given r name id o (is_some (r.entry id))))
    (ap (λ (b : Bool). owner_for r b name given) (sym own) ∙ sym good)
    ∙ ap (with_given r name id owner) there

some_of : (o : Option PrEntry) (b : Bool) → b ≡ is_none o → is_some o ≡ not b
some_of None b is = ap not (sym is)
some_of (Some e) b is = ap not (sym is)

pub given_taken : (r : Registry) (group : Bool) (name : List ℕ) (id given owner : ℤ) → is_id (is_group id) id ≡ true → group ≡ is_group id
    → Ok owner ≡ owner_for r group name given → false ≡ is_none (r.entry id) → new_entry_of_id r name id given ≡ Refuses 267265
given_taken r group name id given owner is own good there =
    given_by r group name id given owner true is own good (some_of (r.entry id) false there)

pub given_made : (r : Registry) (group : Bool) (name : List ℕ) (id given owner u g : ℤ) (e : PrEntry) (p : ℤ × ℤ)
    → is_id (is_group id) id ≡ true → group ≡ is_group id
    → Ok owner ≡ owner_for r group name given → true ≡ is_none (r.entry id) → ◌≡◌ {A = ℤ × ℤ} (u, g) (r.max_user, r.max_group)
    → e ≡ made group name id owner → ◌≡◌ {A = ℤ × ℤ} p (raised u g id)
    → new_entry_of_id r name id given ≡ Makes answer.Done (Enter e p.0 p.1)
given_made r group name id given owner u g e p is own good there max so raises =
    given_by r group name id given owner false is own good (some_of (r.entry id) true there)
    ∙ ap (λ (b : Bool). Makes answer.Done (enters r (made b name id owner))) (sym own)
    ∙ ap (Makes answer.Done) (enters_so r (made group name id owner) u g p max raises ∙ ap (λ (x : PrEntry). Enter x p.0 p.1) (sym so))

-- ---- it may come in

none_there : (o : Option PrEntry) → is_none o ≡ true → o ≡ None
none_there None is = refl
none_there (Some e) is = absurd cc

found_by : (p : ℤ → Bool) (x y : ℤ) (xs : List ℤ) (b : Bool) → p y ≡ b → cond b (Some y) (find p xs) ≡ Some x
    → (find p xs ≡ Some x → p x ≡ true) → p x ≡ true
found_by p x y xs true met is later = let same : y ≡ x = cc in ap p (sym same) ∙ met
found_by p x y xs false met is later = later is

found_met : (p : ℤ → Bool) (xs : List ℤ) (x : ℤ) → find p xs ≡ Some x → p x ≡ true
found_met p [] x is = absurd cc
found_met p (y ∷ xs) x is = found_by p x y xs (p y) refl is (found_met p xs x)

pub unused_is : (r : Registry) (group : Bool) (k : ℕ) (id : ℤ) → Some id ≡ first_unused r group k → r.entry id ≡ None
unfolding first_unused
unused_is r group k id is = none_there (r.entry id) (found_met (λ z. is_none (r.entry z)) (ids_behind group k) id (sym is))

named_some : (name : List ℕ) (o : Option PrEntry) → is_named name o ≡ true → IsSome o
named_some name None is = absurd cc
named_some name (Some e) is = refl

named_there : (r : Registry) (name : List ℕ) (id : ℤ) → id_named r name ≡ Some id → IsSome (r.entry id)
unfolding id_named
named_there r name id is = named_some name (r.entry id) (found_met (λ z. is_named name (r.entry z)) (ids_to 2147483647) id is)

some_and : (o : Option PrEntry) (P : PrEntry → Type 0) → IsSomeAnd o P → IsSome o
some_and None P h = absurd h
some_and (Some e) P h = refl

administrators_there : (r : Registry) → IsRegistry r → IsSome (r.entry administrators)
unfolding fixed_entries
administrators_there r valid =
    some_and (r.entry administrators) (λ e. e.name ≡ codes "system:administrators")
    (valid.fixed 3 (made false [] (pos 1) (pos 0)) (omega arith))

anonymous_fixed : Contains (map (λ (e : PrEntry). e.id) fixed_entries) anonymous
unfolding fixed_entries
anonymous_fixed = (5, omega arith, refl)

given_there : (name : List ℕ) (given owner : ℤ) (o : Option PrEntry) (bad : Bool) → (some : o ≡ None → ⊥)
    → cond {A = Result ℤ ℕ} bad (Err 267272) (Ok given) ≡ Ok owner → given ≡ owner
given_there name given owner o true some is = absurd cc
given_there name given owner o false some is = cc

given_some : (name : List ℕ) (given owner : ℤ) (o : Option PrEntry) → given_owner name given o ≡ Ok owner → IsSome o × (given ≡ owner)
given_some name given owner None is = absurd cc
given_some name given owner (Some e) is =
    (refl, given_there name given owner (Some e) (has_colon name && not (bytes_eq (front_of name) (front_of e.name))) (λ h. cc) is)

front_there : (r : Registry) (owner : ℤ) (o : Option ℤ) → owner_named o ≡ Ok owner → (o ≡ Some owner → IsSome (r.entry owner))
    → IsSome (r.entry owner)
front_there r owner None is goes = absurd cc
front_there r owner (Some id) is goes = let same : id ≡ owner = cc in goes (ap (λ (z : ℤ). Some z) same)

by_front : (r : Registry) (front : List ℕ) (owner : ℤ) (b : Bool) → IsRegistry r
    → cond b (Ok administrators) (owner_named (id_named r front)) ≡ Ok owner → IsSome (r.entry owner)
by_front r front owner true valid is =
    let same : administrators ≡ owner = cc in subst (λ (z : ℤ). IsSome (r.entry z)) same (administrators_there r valid)
by_front r front owner false valid is = front_there r owner (id_named r front) is (named_there r front owner)

by_colon : (r : Registry) (name : List ℕ) (owner : ℤ) (b : Bool) → IsRegistry r
    → cond b (owner_by_front r (front_of name)) (Ok administrators) ≡ Ok owner → IsSome (r.entry owner)
by_colon r name owner true valid is =
    let front = front_of name in
    by_front r front owner (bytes_eq front system) valid (sym (front_is r front (bytes_eq front system) refl) ∙ is)
by_colon r name owner false valid is =
    let same : administrators ≡ owner = cc in subst (λ (z : ℤ). IsSome (r.entry z)) same (administrators_there r valid)

by_given : (r : Registry) (name : List ℕ) (given owner : ℤ) (b : Bool) → IsRegistry r
    → cond (not b) (given_owner name given (r.entry given))
    (cond (has_colon name) (owner_by_front r (front_of name)) (Ok administrators)) ≡ Ok owner
    → IsSome (r.entry owner)
by_given r name given owner true valid is = by_colon r name owner (has_colon name) valid is
by_given r name given owner false valid is =
    let p = given_some name given owner (r.entry given) is in
    subst (λ (z : ℤ). IsSome (r.entry z)) p.1 p.0

owner_there : (r : Registry) (name : List ℕ) (given owner : ℤ) → IsRegistry r → owner_of r name given ≡ Ok owner → IsSome (r.entry owner)
owner_there r name given owner valid is =
    by_given r name given owner (int_eq given (pos 0)) valid
    (sym (owner_is r name given (int_eq given (pos 0)) (has_colon name) refl refl) ∙ is)

none_found : (o : Option ℤ) → is_some o ≡ false → o ≡ None
none_found None is = refl
none_found (Some id) is = absurd cc

untaken : (taken : Bool) (o : Result ℤ ℕ) (owner : ℤ) → unless_taken taken o ≡ Ok owner → (o ≡ Ok owner) × (taken ≡ false)
untaken taken (Err rule) owner is = absurd cc
untaken true (Ok x) owner is = absurd cc
untaken false (Ok x) owner is = (is, refl)

owned_by_form : (r : Registry) (name : List ℕ) (given owner : ℤ) (form : Bool)
    → cond form (unless_taken (is_some (id_named r name)) (owner_of r name given)) (Err 267272) ≡ Ok owner
    → (owner_of r name given ≡ Ok owner) × (id_named r name ≡ None)
owned_by_form r name given owner false is = absurd cc
owned_by_form r name given owner true is =
    let p = untaken (is_some (id_named r name)) (owner_of r name given) owner is in
    (p.0, none_found (id_named r name) p.1)

pub may_enter : (r : Registry) (group : Bool) (name : List ℕ) (given owner id : ℤ) (e : PrEntry) → IsRegistry r
    → Ok owner ≡ owner_for r group name given
    → r.entry id ≡ None → e ≡ made group name id owner → MayBeAdded e r
may_enter r group name given owner id e valid good unused so =
    let form = is_name_of group name in
    let p = owned_by_form r name given owner form (sym (for_is r group name given form (is_some (id_named r name)) refl refl) ∙ sym good) in
    let x = made group name id owner in
    subst (λ (f : PrEntry). MayBeAdded f r) (sym so) (record {
      id = unused;
      name = none_named r name valid p.1;
      among = record { owner = inr (some_with r x owner (owner_there r name given owner valid p.0)); creator = anonymous_fixed };
    })

pub cause_of_enter : (bytes mid : Option (List ℕ)) (e : PrEntry) (f : RecordFault) → mid ≡ bytes
    → Told bytes (λ r. IsRegistry r → MayBeAdded e r) → HasCauseWhere (λ r m. MayBeAdded e r) mid f → HasItsCause bytes f
cause_of_enter bytes mid e f same may cause =
    cause_told (λ r m. MayBeAdded e r) bytes mid f same
    (told_valid bytes (λ r. IsRegistry r → MayBeAdded e r) (λ r. MayBeAdded e r) (λ r valid so. so valid) may) cause

pub enter_left : (bytes mid after : Option (List ℕ)) (e : PrEntry) (u g : ℤ) → mid ≡ bytes
    → after ≡ option_map (λ image. after_set_maxima u g (after_insert e image)) mid
    → after ≡ option_and_then (image_after (Enter e u g)) bytes
enter_left None mid after e u g same made = made ∙ ap (option_map (λ image. after_set_maxima u g (after_insert e image))) same
enter_left (Some image) mid after e u g same made = made ∙ ap (option_map (λ image. after_set_maxima u g (after_insert e image))) same

-- ---- it has the bits of its fields

made_of : (group : Bool) (name : List ℕ) (id owner : ℤ) → FitsSigned w32 id → FitsSigned w32 owner → is_id (is_group id) id ≡ true
    → is_name_of (is_group id) name ≡ true
    → IsRecord (made group name id owner)
made_of true name id owner fits own is form =
    record_of (made true name id owner) (omega arith) fits own (record { sfits = omega arith }) (record { sfits = omega arith }) is form
made_of false name id owner fits own is form =
    record_of (made false name id owner) (omega arith) fits own (record { sfits = omega arith }) (record { sfits = omega arith }) is form

pub made_record : (e : PrEntry) (group : Bool) (name : List ℕ) (id owner : ℤ) → e ≡ made group name id owner → FitsSigned w32 id
    → FitsSigned w32 owner
    → is_id group id ≡ true → is_name_of group name ≡ true → IsRecord e
made_record e group name id owner so fits own is form =
    let same = sym (group_of group id is) in
    subst IsRecord (sym so)
    (made_of group name id owner fits own (subst (λ (b : Bool). is_id b id ≡ true) same is)
    (subst (λ (b : Bool). is_name_of b name ≡ true) same form))
