-- The empty image where its entry gets the fields that it has, and a replacement over every image.
use Rattle.std.proofs.Common.{◌≡◌, ℕ, ℤ, ◌<◌, ◌&&◌, ◌==◌, ⊎_elim, Bool, true, false, cond, List, [], ◌∷◌, Option, Some, None, IfSome, Result, Ok, Err, IfOk, length, refl, sym, ap, subst, ◌∙◌, arith}
use Rattle.std.specs.Prelude.{IsSomeAnd}
use Rattle.std.specs.Option.{option_map}
use Rattle.std.specs.Ordering.{int_eq}
use Rattle.std.specs.Str.{bytes_eq}
use Rattle.std.proofs.lemmas.Bool.{and_from, and_parts, cases_Bool, eq-eqb, eqb-true}
use Rattle.std.proofs.lemmas.Bool.Decides.{Decides-int_eq}
use Rattle.std.proofs.lemmas.Slice.Eq.{bytes_eq-Decides}
use Rattle.db_image.specs.Images.{IsOfImage}
use Rattle.db_image.specs.declared.faults.RecordFault.{RecordFault}
use Rattle.db_image.specs.declared.faults.RecordFault.TheVariants.{DiskFault, BadRecord, NoMemory}
use Rattle.prdb_layout.specs.Registry.{IsRecord, MayReplace, Registry, first_registry, with_entry}
use Rattle.prdb_layout.specs.State.{PrEntry}
use Rattle.prdb_lists.specs.Layout.{HoldsPairs}
use Rattle.prdb_lists.specs.Members.{Members, no_members}
use Rattle.prdb_finds.specs.Records.{Holds, whole}
use Rattle.prdb_finds.specs.Unchained.{unchained}
use Rattle.prdb_finds.proofs.FirstHolds.{empty_holds, first_holds}
use Rattle.prdb_finds.proofs.Told.{registry_is, whole_same}
use Rattle.prdb_entries.specs.Changes.{after_replace, fitted, is_same, is_this, stays_empty}
use Rattle.prdb_entries.proofs.InsertClauses.{on_false, on_true}
use Rattle.prdb_entries.proofs.Refitted.{holds_refit}
use Rattle.prdb_entries.proofs.ReplaceClauses.{fit_of}
use Rattle.prdb_entries.proofs.Same.{same_stays}

-- ---- the same fields

abbrev made_of : (name : List ℕ) (flags : ℕ) (id owner creator quota : ℤ) → PrEntry
made_of name flags id owner creator quota =
    record { name = name; flags = flags; id = id; owner = owner; creator = creator; quota = quota }

same_entry : (e f : PrEntry) → is_same e f ≡ true → e ≡ f
same_entry e f is =
    let a = bytes_eq e.name f.name in
    let b = e.flags == f.flags in
    let c = int_eq e.id f.id in
    let d = int_eq e.owner f.owner in
    let x = int_eq e.creator f.creator in
    let y = int_eq e.quota f.quota in
    let p5 = and_parts (a && b && c && d && x) y is in
    let p4 = and_parts (a && b && c && d) x p5.0 in
    let p3 = and_parts (a && b && c) d p4.0 in
    let p2 = and_parts (a && b) c p3.0 in
    let p1 = and_parts a b p2.0 in
    ap (λ (n : List ℕ). made_of n e.flags e.id e.owner e.creator e.quota) ((bytes_eq-Decides e.name f.name).0 p1.0)
    ∙ ap (λ (n : ℕ). made_of f.name n e.id e.owner e.creator e.quota) (eqb-true e.flags f.flags p1.1)
    ∙ ap (λ (z : ℤ). made_of f.name f.flags z e.owner e.creator e.quota) ((Decides-int_eq e.id f.id).0 p2.1)
    ∙ ap (λ (z : ℤ). made_of f.name f.flags f.id z e.creator e.quota) ((Decides-int_eq e.owner f.owner).0 p3.1)
    ∙ ap (λ (z : ℤ). made_of f.name f.flags f.id f.owner z e.quota) ((Decides-int_eq e.creator f.creator).0 p4.1)
    ∙ ap (λ (z : ℤ). made_of f.name f.flags f.id f.owner f.creator z) ((Decides-int_eq e.quota f.quota).0 p5.1)

entry_same : (e : PrEntry) → is_same e e ≡ true
entry_same e =
    let a = bytes_eq e.name e.name in
    let b = e.flags == e.flags in
    let c = int_eq e.id e.id in
    let d = int_eq e.owner e.owner in
    let x = int_eq e.creator e.creator in
    let y = int_eq e.quota e.quota in
    and_from (a && b && c && d && x) y
    (and_from (a && b && c && d) x
    (and_from (a && b && c) d
    (and_from (a && b) c
    (and_from a b ((bytes_eq-Decides e.name e.name).1 refl) (eq-eqb e.flags e.flags refl)) ((Decides-int_eq e.id e.id).1 refl))
    ((Decides-int_eq e.owner e.owner).1 refl)) ((Decides-int_eq e.creator e.creator).1 refl)) ((Decides-int_eq e.quota e.quota).1 refl)

this_entry : (o : Option PrEntry) (e : PrEntry) → is_this o e ≡ true → o ≡ Some e
this_entry None e is = absurd cc
this_entry (Some f) e is = ap Some (same_entry f e is)

-- ---- the empty image

first_is : (r : Registry) (m : Members) → Holds [] r m → r ≡ first_registry
first_is r m holds = registry_is [] r m holds ∙ sym (registry_is [] first_registry no_members empty_holds)

-- what is not empty is fitted
stays_told : (image : List ℕ) (r : Registry) (m : Members) (id : ℤ) (e : PrEntry) → Holds image r m → stays_empty id e image ≡ true
    → r.entry id ≡ Some e
unfolding stays_empty
stays_told [] r m id e holds is =
    ap (λ (q : Registry). q.entry id) (first_is r m holds) ∙ this_entry (first_registry.entry id) e is
stays_told (b ∷ bytes) r m id e holds is = absurd cc

stays_from : (r : Registry) (m : Members) (e : PrEntry) → Holds [] r m → r.entry e.id ≡ Some e → stays_empty e.id e [] ≡ true
unfolding stays_empty
stays_from r m e holds there =
    ap (λ (o : Option PrEntry). is_this o e) (sym (ap (λ (q : Registry). q.entry e.id) (first_is r m holds)) ∙ there) ∙ entry_same e

whole_twice : (image : List ℕ) → 0 < length (whole image) → whole (whole image) ≡ whole image
whole_twice image some = whole_same (whole image) some

-- what is found in the first image
pub first_found : (first : Option (List ℕ)) (o : Option PrEntry) (id : ℤ) (e : PrEntry) → first ≡ Some (whole [])
    → IfSome first (λ image. (r : Registry) (m : Members) → Holds image r m → o ≡ r.entry id)
    → is_this o e ≡ is_this (first_registry.entry id) e
first_found first o id e here found =
    ap (λ (x : Option PrEntry). is_this x e)
    ((subst (λ (b : Option (List ℕ)). IfSome b (λ image. (r : Registry) (m : Members) → Holds image r m → o ≡ r.entry id)) here found)
    first_registry no_members first_holds)

pub only_memory : (fault : RecordFault) → IsOfImage fault → (fault ≡ DiskFault → ⊥) → fault ≡ NoMemory
only_memory DiskFault cause never = absurd (never refl)
only_memory NoMemory cause never = refl
only_memory (BadRecord at) cause never = absurd cause

pub not_stays : (image : List ℕ) (id : ℤ) (e : PrEntry) → (length image ≡ 0 → ⊥) → false ≡ stays_empty id e image
unfolding stays_empty
not_stays [] id e some = absurd (some refl)
not_stays (b ∷ bytes) id e some = refl

this_stays : (image : List ℕ) (id : ℤ) (e : PrEntry) → length image ≡ 0 → is_this (first_registry.entry id) e ≡ stays_empty id e image
unfolding stays_empty
this_stays [] id e none = refl
this_stays (b ∷ bytes) id e none = absurd (omega arith)

pub empty_stays : (r : Result Bool RecordFault) (id : ℤ) (e : PrEntry) (len : ℕ) → len ≡ 0
    → IfOk r (λ is. is ≡ is_this (first_registry.entry id) e)
    → IfOk r (λ stays. (image : List ℕ) → length image ≡ len → stays ≡ stays_empty id e image)
empty_stays (Err x) id e len none is = tt
empty_stays (Ok b) id e len none is = λ image same. is ∙ this_stays image id e (same ∙ none)

-- ---- a replacement

pub holds_after : (image : List ℕ) (r : Registry) (m : Members) (id : ℤ) (e : PrEntry) → Holds image r m → IsRecord e → MayReplace id e r
    → Holds (after_replace id e image) (with_entry e r) m
unfolding after_replace
holds_after image r m id e holds is may =
    let o = fit_of image id e is (r, m, holds, may) in
    let fit : Holds (fitted id e image) (with_entry e r) m = holds_refit image r m id o.0 e o.1 o.2 in
    let At : Bool → Type 0 = λ b. Holds (cond b image (fitted id e image)) (with_entry e r) m in
    ⊎_elim
    (λ (stays : stays_empty id e image ≡ true).
    let there : r.entry e.id ≡ Some e = ap r.entry may.same_id ∙ stays_told image r m id e holds stays in
    let same : fitted id e image ≡ whole image =
    subst (λ (z : ℤ). fitted z e image ≡ whole image) may.same_id (same_stays image r m e holds there) in
    let held : Holds (whole image) (with_entry e r) m = subst (λ (i : List ℕ). Holds i (with_entry e r) m) same fit in
    let twice = whole_twice image (omega (arith, holds.size)) in
    subst At (sym stays) record {
      size = holds.size;
      pairs = subst (λ (i : List ℕ). HoldsPairs (unchained i) (with_entry e r) m) twice held.pairs;
      chains = holds.chains;
    })
    (λ (no : stays_empty id e image ≡ false). subst At (sym no) fit)
    (cases_Bool (stays_empty id e image))

not_empty : (b : ℕ) (bytes : List ℕ) (e : PrEntry) → after_replace e.id e (b ∷ bytes) ≡ fitted e.id e (b ∷ bytes)
unfolding after_replace stays_empty
not_empty b bytes e = refl

pub unchanged : (image : List ℕ) (r : Registry) (m : Members) (e : PrEntry) → Holds image r m → r.entry e.id ≡ Some e
    → after_replace e.id e image ≡ image
unfolding after_replace whole
unchanged [] r m e holds there = sym (on_true (stays_empty e.id e []) [] (fitted e.id e []) (stays_from r m e holds there))
unchanged (b ∷ bytes) r m e holds there = not_empty b bytes e ∙ same_stays (b ∷ bytes) r m e holds there

-- ---- what is said of a draft

pub kept_empty : (a : Option (List ℕ)) (id : ℤ) (e : PrEntry) (len : ℕ) (stays : Bool) → IfSome a (λ image. length image ≡ len)
    → ((image : List ℕ) → length image ≡ len → stays ≡ stays_empty id e image) → stays ≡ true → a ≡ option_map (after_replace id e) a
unfolding after_replace
kept_empty None id e len stays told value is = refl
kept_empty (Some image) id e len stays told value is =
    ap Some (on_true (stays_empty id e image) image (fitted id e image) (sym (value image told) ∙ is))

pub fitted_after : (a x : Option (List ℕ)) (id : ℤ) (e : PrEntry) (len : ℕ) (stays : Bool) → IfSome a (λ image. length image ≡ len)
    → ((image : List ℕ) → length image ≡ len → stays ≡ stays_empty id e image) → stays ≡ false → x ≡ option_map (fitted id e) a
    → x ≡ option_map (after_replace id e) a
unfolding after_replace
fitted_after None x id e len stays told value is made = made
fitted_after (Some image) x id e len stays told value is made =
    made ∙ ap Some (on_false (stays_empty id e image) image (fitted id e image) (sym (value image told) ∙ is))

pub replace_makes : (a d : Option (List ℕ)) (id : ℤ) (e : PrEntry) → IsRecord e → d ≡ option_map (after_replace id e) a
    → IfSome a (λ image. (r : Registry) (m : Members) → Holds image r m → MayReplace id e r → IsSomeAnd d (λ x. Holds x (with_entry e r) m))
replace_makes None d id e is made = tt
replace_makes (Some image) d id e is made = λ r m holds may.
    subst (λ (o : Option (List ℕ)). IsSomeAnd o (λ x. Holds x (with_entry e r) m)) (sym made) (holds_after image r m id e holds is may)
