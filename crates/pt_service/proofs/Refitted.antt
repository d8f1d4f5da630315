-- Maxima and fields that are set.
use Rattle.std.proofs.Common.{◌≡◌, ℕ, ℤ, pos, negsuc, Bool, true, false, cond, List, get_or, Option, Some, None, Result, IsSome, IsSomeAnd, IfErr, refl, sym, ap, subst, ◌∙◌, ⊎_elim, inl, inr, arith}
use Rattle.std.specs.Prelude.{◌≤ℤ◌, ◌⊎◌, FitsSigned, option_and_then}
use Rattle.std.specs.Int.{w32}
use Rattle.std.specs.Option.{option_map}
use Rattle.std.proofs.lemmas.Bool.{ltb-true}
use Rattle.std.proofs.lemmas.Int.{ints}
use Rattle.db_image.specs.declared.faults.RecordFault.{RecordFault}
use Rattle.prdb_layout.specs.Registry.{Registry, AreMaxima, IsAmong, IsFixedId, IsRegistry, MayReplace, with_entry}
use Rattle.prdb_layout.specs.State.{PrEntry, fixed_entries}
use Rattle.prdb_layout.proofs.Changed.{by_id, some_same, under_other, under_same}
use Rattle.prdb_finds.specs.Changes.{after_set_maxima}
use Rattle.prdb_finds.specs.Ends.{HasCauseWhere, HasItsCause}
use Rattle.prdb_entries.specs.Changes.{after_replace}
use Rattle.pt_calls.specs.declared.answers.PtAnswer.TheVariants as answer
use Rattle.pt_service.specs.Fitting.{Refits}
use Rattle.pt_service.specs.Meaning.{Maxima, Makes, Refit, Refuses, Verdict, are_bad_fields, fields_set, is_maximum, maxima_with, maximum_set, of_entry, with_fields}
use Rattle.pt_service.specs.Standing.{image_after}
use Rattle.pt_service.specs.Told.{Told}
use Rattle.pt_service.proofs.Causes.{cause_of_err, cause_told, told_valid}
use Rattle.pt_service.proofs.Done.{told_map}

-- ---- maxima

set_by : (r : Registry) (id : ℤ) (group b : Bool) → is_maximum group id ≡ b
    → maximum_set r id group ≡ cond b (Makes answer.Done (maxima_with r group id)) (Refuses 267273)
set_by r id group b is = ap (λ (t : Bool). cond t (Makes answer.Done (maxima_with r group id)) (Refuses 267273)) is

with_by : (r : Registry) (id u g : ℤ) (group : Bool) (p : ℤ × ℤ) → ◌≡◌ {A = ℤ × ℤ} (u, g) (r.max_user, r.max_group)
    → ◌≡◌ {A = ℤ × ℤ} p (cond group (u, id) (id, g)) → maxima_with r group id ≡ Maxima p.0 p.1
with_by r id u g true p max same =
    let user : r.max_user ≡ p.0 = sym (ap (λ (q : ℤ × ℤ). q.0) max) ∙ sym (ap (λ (q : ℤ × ℤ). q.0) same) in
    ap (λ (z : ℤ). Maxima z id) user ∙ ap (λ (z : ℤ). Maxima p.0 z) (sym (ap (λ (q : ℤ × ℤ). q.1) same))
with_by r id u g false p max same =
    let group : r.max_group ≡ p.1 = sym (ap (λ (q : ℤ × ℤ). q.1) max) ∙ sym (ap (λ (q : ℤ × ℤ). q.1) same) in
    ap (λ (z : ℤ). Maxima id z) group ∙ ap (λ (z : ℤ). Maxima z p.1) (sym (ap (λ (q : ℤ × ℤ). q.0) same))

pub max_set : (bytes : Option (List ℕ)) (id u g : ℤ) (group : Bool) (p : ℤ × ℤ) → is_maximum group id ≡ true
    → Told bytes (λ r. ◌≡◌ {A = ℤ × ℤ} (u, g) (r.max_user, r.max_group))
    → ◌≡◌ {A = ℤ × ℤ} p (cond group (u, id) (id, g)) → Told bytes (λ r. maximum_set r id group ≡ Makes answer.Done (Maxima p.0 p.1))
max_set bytes id u g group p is max same =
    told_map bytes (λ r. ◌≡◌ {A = ℤ × ℤ} (u, g) (r.max_user, r.max_group))
    (λ r. maximum_set r id group ≡ Makes answer.Done (Maxima p.0 p.1))
    (λ r m. set_by r id group true is ∙ ap (Makes answer.Done) (with_by r id u g group p m same)) max

pub maxima_left : (bytes mid after : Option (List ℕ)) (u g : ℤ) → mid ≡ bytes → after ≡ option_map (after_set_maxima u g) mid
    → after ≡ option_and_then (image_after (Maxima u g)) bytes
maxima_left None mid after u g same made = made ∙ ap (option_map (after_set_maxima u g)) same
maxima_left (Some image) mid after u g same made = made ∙ ap (option_map (after_set_maxima u g)) same

group_max : (id : ℤ) → is_maximum true id ≡ true → (negsuc 2147483646 ≤ℤ id) × (id ≤ℤ negsuc 0)
group_max (pos n) is = absurd cc
group_max (negsuc n) is = let low = ltb-true n 2147483647 is in (omega (arith, ints, low), omega (arith, ints))

user_max : (id : ℤ) → FitsSigned w32 id → is_maximum false id ≡ true → (pos 0 ≤ℤ id) × (id ≤ℤ pos 2147483647)
user_max (pos n) fits is = (omega (arith, ints), omega (arith, ints, fits.sfits))
user_max (negsuc n) fits is = absurd cc

pub are_maxima : (id u g : ℤ) (group : Bool) → AreMaxima u g → FitsSigned w32 id → is_maximum group id ≡ true
    → (p : ℤ × ℤ) → ◌≡◌ {A = ℤ × ℤ} p (cond group (u, id) (id, g)) → AreMaxima p.0 p.1
are_maxima id u g true are fits is p same =
    let m = group_max id is in
    subst (λ (q : ℤ × ℤ). AreMaxima q.0 q.1) (sym same)
    (record { user_low = are.user_low; user_high = are.user_high; group_low = m.0; group_high = m.1 })
are_maxima id u g false are fits is p same =
    let m = user_max id fits is in
    subst (λ (q : ℤ × ℤ). AreMaxima q.0 q.1) (sym same)
    (record { user_low = m.0; user_high = m.1; group_low = are.group_low; group_high = are.group_high })

-- ---- fields

pub no_fields : (bytes : Option (List ℕ)) (id : ℤ) (goes : PrEntry → Verdict)
    → Told bytes (λ r. None ≡ r.entry id)
    → Told bytes (λ r. of_entry (r.entry id) goes ≡ Refuses 267268)
no_fields bytes id goes none =
    told_map bytes (λ r. None ≡ r.entry id) (λ r. of_entry (r.entry id) goes ≡ Refuses 267268)
    (λ r at. ap (λ (o : Option PrEntry). of_entry o goes) (sym at)) none

fields_by : (mask flags : ℕ) (quota : ℤ) (e : PrEntry) (b : Bool) → are_bad_fields mask flags quota ≡ b
    → fields_set mask flags quota e ≡ cond b (Refuses 267273) (Makes answer.Done (Refit (with_fields mask flags quota e)))
fields_by mask flags quota e b is =
    ap (λ (t : Bool). cond t (Refuses 267273) (Makes answer.Done (Refit (with_fields mask flags quota e)))) is

pub fields_refused : (bytes : Option (List ℕ)) (id : ℤ) (mask flags : ℕ) (quota : ℤ) (e : PrEntry) → are_bad_fields mask flags quota ≡ true
    → Told bytes (λ r. Some e ≡ r.entry id)
    → Told bytes (λ r. of_entry (r.entry id) (fields_set mask flags quota) ≡ Refuses 267273)
fields_refused bytes id mask flags quota e is there =
    told_map bytes (λ r. Some e ≡ r.entry id) (λ r. of_entry (r.entry id) (fields_set mask flags quota) ≡ Refuses 267273)
    (λ r at. ap (λ (o : Option PrEntry). of_entry o (fields_set mask flags quota)) (sym at) ∙ fields_by mask flags quota e true is) there

pub fields_made : (bytes : Option (List ℕ)) (id : ℤ) (mask flags : ℕ) (quota : ℤ) (e new : PrEntry)
    → are_bad_fields mask flags quota ≡ false
    → Told bytes (λ r. Some e ≡ r.entry id) → new ≡ with_fields mask flags quota e
    → Told bytes (λ r. of_entry (r.entry id) (fields_set mask flags quota) ≡ Makes answer.Done (Refit new))
fields_made bytes id mask flags quota e new is there so =
    told_map bytes (λ r. Some e ≡ r.entry id) (λ r. of_entry (r.entry id) (fields_set mask flags quota) ≡ Makes answer.Done (Refit new))
    (λ r at.
    ap (λ (o : Option PrEntry). of_entry o (fields_set mask flags quota)) (sym at) ∙ fields_by mask flags quota e false is
    ∙ ap (λ (x : PrEntry). Makes answer.Done (Refit x)) (sym so)) there

pub fields_left : (bytes mid after : Option (List ℕ)) (new : PrEntry) → mid ≡ bytes → after ≡ option_map (after_replace new.id new) mid
    → after ≡ option_and_then (image_after (Refit new)) bytes
fields_left None mid after new same made = made ∙ ap (option_map (after_replace new.id new)) same
fields_left (Some image) mid after new same made = made ∙ ap (option_map (after_replace new.id new)) same

pub some_with : (r : Registry) (e : PrEntry) (id : ℤ) → IsSome (r.entry id) → IsSome ((with_entry e r).entry id)
some_with r e id some =
    by_id id e.id
    (λ same. subst (λ (o : Option PrEntry). IsSome o) (sym (under_same e.id id (Some e) r.entry same)) refl)
    (λ other. subst (λ (o : Option PrEntry). IsSome o) (sym (under_other e.id id (Some e) r.entry other)) some)

named_so : (o : Option PrEntry) (e f : PrEntry) → IsSomeAnd o (λ g. g.name ≡ f.name) → o ≡ Some e → e.name ≡ f.name
named_so None e f named is = absurd named
named_so (Some g) e f named is = sym (ap (λ (x : PrEntry). x.name) (some_same is)) ∙ named

pub may_refit : (r : Registry) (e old : PrEntry) → IsRegistry r → r.entry e.id ≡ Some old → old.name ≡ e.name → IsAmong r.entry old
    → old.owner ≡ e.owner → old.creator ≡ e.creator
    → MayReplace e.id e r
may_refit r e old valid at name among owner creator = record {
  there = subst (λ (o : Option PrEntry). IsSome o) (sym at) refl;
  same_id = refl;
  name = λ other f there same. valid.names other e.id f old there at (same ∙ sym name);
  fixed = λ k d below same.
      sym name ∙ named_so (r.entry (get_or fixed_entries k d).id) old (get_or fixed_entries k d) (valid.fixed k d below)
      (ap r.entry same ∙ at);
  among = record {
    owner = subst (λ (z : ℤ). (z ≡ pos 0) ⊎ IsSome ((with_entry e r).entry z)) owner
        (⊎_elim (λ none. inl none) (λ some. inr (some_with r e old.owner some)) among.owner);
    creator = subst (λ (z : ℤ). IsFixedId z) creator among.creator;
  };
}

refits_may : (r : Registry) (e : PrEntry) → IsRegistry r → Refits r e → MayReplace e.id e r
refits_may r e valid refits =
    let old : PrEntry = record e { flags = refits.0; quota = refits.1 } in
    may_refit r e old valid refits.2 refl (valid.among e.id old refits.2) refl refl

pub refit_err : {T : Type 0} (res : Result T RecordFault) (bytes : Option (List ℕ)) (e : PrEntry)
    → IfErr res (HasCauseWhere (λ r m. MayReplace e.id e r) bytes) → IfErr res (HasCauseWhere (λ r m. Refits r e) bytes)
refit_err res bytes e cause =
    cause_of_err res (λ r m. MayReplace e.id e r) (λ r m. Refits r e) bytes (λ r m valid refits. refits_may r e valid refits) cause

-- the entry that was found with other fields is one that refits
found_refits : (r : Registry) (id : ℤ) (mask flags : ℕ) (quota : ℤ) (e new : PrEntry) → new ≡ with_fields mask flags quota e → IsRegistry r
    → Some e ≡ r.entry id → Refits r new
found_refits r id mask flags quota e new so valid there =
    let own : id ≡ e.id = sym (valid.ids id e (sym there)) in
    subst (λ (x : PrEntry). Refits r x) (sym so) (e.flags, e.quota, ap r.entry (sym own) ∙ sym there)

pub cause_of_fields : (bytes mid : Option (List ℕ)) (id : ℤ) (mask flags : ℕ) (quota : ℤ) (e new : PrEntry) (f : RecordFault) → mid ≡ bytes
    → Told bytes (λ r. Some e ≡ r.entry id) → new ≡ with_fields mask flags quota e
    → HasCauseWhere (λ r m. Refits r new) mid f → HasItsCause bytes f
cause_of_fields bytes mid id mask flags quota e new f same there so cause =
    cause_told (λ r m. Refits r new) bytes mid f same
    (told_valid bytes (λ r. Some e ≡ r.entry id) (λ r. Refits r new)
    (λ r valid at. found_refits r id mask flags quota e new so valid at) there) cause
