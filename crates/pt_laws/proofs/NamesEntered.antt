-- A new entry is named after the owner that is found for it.
use Rattle.std.proofs.Common.{◌≡◌, ℕ, ℤ, pos, Bool, true, false, not, ◌&&◌, cond, List, [], ◌∷◌, codes, Option, Some, None, IsSomeAnd}
use Rattle.std.proofs.Common.{Result, Ok, Err, refl, sym, ap, ◌∙◌, arith}
use Rattle.std.specs.Prelude.{is_some}
use Rattle.std.specs.List.{find}
use Rattle.std.specs.Ordering.{int_eq}
use Rattle.std.specs.Str.{bytes_eq}
use Rattle.std.proofs.lemmas.Slice.Eq.{bytes_eq-Decides}
use Rattle.prdb_layout.specs.Registry.{Registry, IsRegistry}
use Rattle.prdb_layout.specs.State.{PrEntry, administrators, fixed_entries, front_of}
use Rattle.pt_calls.specs.Meaning.{id_named, ids_to, is_named}
use Rattle.pt_service.specs.Meaning.{given_owner, made, owner_by_front, owner_for, owner_named, owner_of, unless_taken}
use Rattle.pt_service.specs.Names.{has_colon, is_name_of, system}
use Rattle.pt_service.proofs.Ownership.{for_is, front_is, owner_is}
use Rattle.pt_turns.proofs.Fronts.{front_all, front_free}
use Rattle.pt_laws.proofs.NamesKept.{Fronts, fronts_at}

text_of : (xs ys : List ℕ) → bytes_eq xs ys ≡ true → xs ≡ ys
text_of xs ys is = (bytes_eq-Decides xs ys).0 is

and_map : (o : Option PrEntry) (P Q : PrEntry → Type 0) → ((e : PrEntry) → P e → Q e) → IsSomeAnd o P → IsSomeAnd o Q
and_map None P Q so is = absurd is
and_map (Some e) P Q so is = so e is

-- ---- an owner that is given

given_by : (colon same : Bool) (given owner : ℤ) → cond {A = Result ℤ ℕ} (colon && not same) (Err 267272) (Ok given) ≡ Ok owner
    → colon ≡ true → (same ≡ true) × (given ≡ owner)
given_by true true given owner is colon = (refl, cc)
given_by true false given owner is colon = absurd cc
given_by false same given owner is colon = absurd cc

given_named : (name : List ℕ) (given owner : ℤ) (o : Option PrEntry) → given_owner name given o ≡ Ok owner → has_colon name ≡ true
    → Fronts name o × (given ≡ owner)
given_named name given owner None is colon = absurd cc
given_named name given owner (Some e) is colon =
    let p = given_by (has_colon name) (bytes_eq (front_of name) (front_of e.name)) given owner is colon in
    (text_of (front_of name) (front_of e.name) p.0, p.1)

-- ---- one that is found by the text before the `:`

-- an entry of this name has its front, where the name is a front itself
whole_named : (name : List ℕ) (o : Option PrEntry) → IsSomeAnd o (λ e. e.name ≡ front_of name) → Fronts name o
whole_named name o is =
    and_map o (λ e. e.name ≡ front_of name) (λ e. front_of name ≡ front_of e.name)
    (λ e same. sym (front_all (front_of name) (front_free name)) ∙ ap front_of (sym same)) is

found_by : (p : ℤ → Bool) (x y : ℤ) (xs : List ℤ) (b : Bool) → p y ≡ b → cond b (Some y) (find p xs) ≡ Some x
    → (find p xs ≡ Some x → p x ≡ true) → p x ≡ true
found_by p x y xs true met is later = let same : y ≡ x = cc in ap p (sym same) ∙ met
found_by p x y xs false met is later = later is

found_met : (p : ℤ → Bool) (xs : List ℤ) (x : ℤ) → find p xs ≡ Some x → p x ≡ true
found_met p [] x is = absurd cc
found_met p (y ∷ xs) x is = found_by p x y xs (p y) refl is (found_met p xs x)

its_name : (name : List ℕ) (o : Option PrEntry) → is_named name o ≡ true → IsSomeAnd o (λ e. e.name ≡ name)
its_name name None is = absurd cc
its_name name (Some e) is = text_of e.name name is

of_named : (r : Registry) (name : List ℕ) (id : ℤ) → id_named r name ≡ Some id → IsSomeAnd (r.entry id) (λ e. e.name ≡ name)
unfolding id_named
of_named r name id is = its_name name (r.entry id) (found_met (λ z. is_named name (r.entry z)) (ids_to 2147483647) id is)

some_named : (r : Registry) (front : List ℕ) (owner : ℤ) (o : Option ℤ) → id_named r front ≡ o → owner_named o ≡ Ok owner
    → IsSomeAnd (r.entry owner) (λ e. e.name ≡ front)
some_named r front owner None at is = absurd cc
some_named r front owner (Some id) at is = let same : id ≡ owner = cc in of_named r front owner (at ∙ ap Some same)

-- `system` is the front of the administrators' name
system_named : (r : Registry) (name : List ℕ) → IsRegistry r → front_of name ≡ system → Fronts name (r.entry administrators)
unfolding fixed_entries
system_named r name valid same =
    and_map (r.entry administrators) (λ e. e.name ≡ codes "system:administrators") (λ e. front_of name ≡ front_of e.name)
    (λ e is. same ∙ ap front_of (sym is)) (valid.fixed 3 (made false [] (pos 1) (pos 0)) (omega arith))

front_named : (r : Registry) (name : List ℕ) (owner : ℤ) (b : Bool) → IsRegistry r → bytes_eq (front_of name) system ≡ b
    → cond b (Ok administrators) (owner_named (id_named r (front_of name))) ≡ Ok owner → Fronts name (r.entry owner)
front_named r name owner true valid of_system is =
    let same : administrators ≡ owner = cc in
    fronts_at name (r.entry administrators) (r.entry owner) (system_named r name valid (text_of (front_of name) system of_system))
    (ap r.entry same)
front_named r name owner false valid other is =
    whole_named name (r.entry owner) (some_named r (front_of name) owner (id_named r (front_of name)) refl is)

-- ---- either

owner_by : (r : Registry) (name : List ℕ) (given owner : ℤ) (none : Bool) → IsRegistry r → has_colon name ≡ true
    → cond (not none) (given_owner name given (r.entry given)) (owner_by_front r (front_of name)) ≡ Ok owner → Fronts name (r.entry owner)
owner_by r name given owner true valid colon is =
    let b = bytes_eq (front_of name) system in
    front_named r name owner b valid refl (sym (front_is r (front_of name) b refl) ∙ is)
owner_by r name given owner false valid colon is =
    let p = given_named name given owner (r.entry given) is colon in
    fronts_at name (r.entry given) (r.entry owner) p.0 (ap r.entry p.1)

owner_fronts : (r : Registry) (name : List ℕ) (given owner : ℤ) → IsRegistry r → has_colon name ≡ true → owner_of r name given ≡ Ok owner
    → Fronts name (r.entry owner)
owner_fronts r name given owner valid colon is =
    owner_by r name given owner (int_eq given (pos 0)) valid colon (sym (owner_is r name given (int_eq given (pos 0)) true refl colon) ∙ is)

untaken : (taken : Bool) (o : Result ℤ ℕ) (owner : ℤ) → unless_taken taken o ≡ Ok owner → o ≡ Ok owner
untaken taken (Err rule) owner is = absurd cc
untaken true (Ok x) owner is = absurd cc
untaken false (Ok x) owner is = is

by_form : (o : Result ℤ ℕ) (form taken : Bool) (owner : ℤ) → cond form (unless_taken taken o) (Err 267272) ≡ Ok owner → o ≡ Ok owner
by_form o true taken owner is = untaken taken o owner is
by_form o false taken owner is = absurd cc

pub owner_named_so : (r : Registry) (group : Bool) (name : List ℕ) (given owner : ℤ) → IsRegistry r
    → owner_for r group name given ≡ Ok owner → has_colon name ≡ true → Fronts name (r.entry owner)
owner_named_so r group name given owner valid is colon =
    let form = is_name_of group name in
    let taken = is_some (id_named r name) in
    owner_fronts r name given owner valid colon
    (by_form (owner_of r name given) form taken owner (sym (for_is r group name given form taken refl refl) ∙ is))
