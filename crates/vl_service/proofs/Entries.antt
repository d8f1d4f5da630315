-- Tests on all entries of a database.
use Rattle.std.proofs.Common.{◌≡◌, ◌≢◌, ℕ, zero, suc, ◌+◌, ◌<◌, ◌≤◌, Bool, true, false, ◌&&◌, ◌||◌, List, Option, Some, None, refl, sym, ap, ◌∙◌, ⊎_elim, arith}
use Rattle.std.specs.Prelude.{option_to_list}
use Rattle.std.specs.List.{flat_map, list_any, range_with_len}
use Rattle.std.proofs.lemmas.Bool.{and_from, and_parts, cases_eq, cases_Bool, false_from_ne_true}
use Rattle.std.proofs.lemmas.List.Folds.{list_any-append}
use Rattle.vldb_entries.specs.declared.entries.VlEntry.{VlEntry}
use Rattle.vldb_entries.specs.Location.{Location, IsLocation}
use Rattle.vl_service.specs.Meaning.{entries_from, is_other}

abbrev under : Location → ℕ → List VlEntry
under s = λ rw_id. option_to_list (s.entry rw_id)

-- ---- a test that no entry meets

one_fails : (test : VlEntry → Bool) (o : Option VlEntry) → ((f : VlEntry) → o ≡ Some f → test f ≡ false)
    → list_any test (option_to_list o) ≡ false
one_fails test None fails = refl
one_fails test (Some f) fails = ap (λ (b : Bool). b || false) (fails f refl)

none_met : (s : Location) (test : VlEntry → Bool) (a n : ℕ) → ((rw_id : ℕ) (f : VlEntry) → s.entry rw_id ≡ Some f → test f ≡ false)
    → list_any test (flat_map (under s) (range_with_len a n)) ≡ false
none_met s test a zero fails = refl
none_met s test a (suc n) fails =
    let rest = flat_map (under s) (range_with_len (a + 1) n) in
    list_any-append test (under s a) rest ∙ ap (λ (b : Bool). b || list_any test rest) (one_fails test (s.entry a) (fails a))
    ∙ none_met s test (a + 1) n fails

pub none_meets : (s : Location) (test : VlEntry → Bool) (first count : ℕ)
    → ((rw_id : ℕ) (f : VlEntry) → s.entry rw_id ≡ Some f → test f ≡ false)
    → list_any test (entries_from first count s) ≡ false
unfolding entries_from
none_meets s test first count fails = none_met s test first count fails

-- ---- a test that an entry meets

one_meets : (test : VlEntry → Bool) (o : Option VlEntry) (e : VlEntry) → o ≡ Some e → test e ≡ true
    → list_any test (option_to_list o) ≡ true
one_meets test o e is met = ap (λ (x : Option VlEntry). list_any test (option_to_list x)) is ∙ ap (λ (b : Bool). b || false) met

or_true : (b : Bool) → (b || true) ≡ true
or_true true = refl
or_true false = refl

one_met : (s : Location) (test : VlEntry → Bool) (a n k : ℕ) (e : VlEntry) → a ≤ k → k < a + n → s.entry k ≡ Some e → test e ≡ true
    → list_any test (flat_map (under s) (range_with_len a n)) ≡ true
one_met s test a zero k e from below at met = absurd (omega arith)
one_met s test a (suc n) k e from below at met =
    let rest = flat_map (under s) (range_with_len (a + 1) n) in
    list_any-append test (under s a) rest
    ∙ ⊎_elim
    (λ (same : a ≡ k). ap (λ (b : Bool). b || list_any test rest) (one_meets test (s.entry a) e (ap s.entry same ∙ at) met))
    (λ (other : a ≢ k).
    ap (λ (b : Bool). list_any test (under s a) || b) (one_met s test (a + 1) n k e (omega arith) (omega arith) at met)
    ∙ or_true (list_any test (under s a)))
    (cases_eq a k)

pub some_meets : (s : Location) (test : VlEntry → Bool) (first count k : ℕ) (e : VlEntry) → first ≤ k → k < first + count
    → s.entry k ≡ Some e → test e ≡ true
    → list_any test (entries_from first count s) ≡ true
unfolding entries_from
some_meets s test first count k e from below at met = one_met s test first count k e from below at met

-- ---- the one entry that a test may be met by, and another than that of a read-write id

abbrev pub IsOnly : Location → (VlEntry → Bool) → Option VlEntry → Type 0
IsOnly s test None = (rw_id : ℕ) (f : VlEntry) → s.entry rw_id ≡ Some f → test f ≡ false
IsOnly s test (Some e) =
    (s.entry e.rw ≡ Some e) × (test e ≡ true) × ((rw_id : ℕ) (f : VlEntry) → s.entry rw_id ≡ Some f → test f ≡ true → rw_id ≡ e.rw)

abbrev pub other_of : (own : ℕ) → Option VlEntry → Bool
other_of own None = false
other_of own (Some f) = is_other own f

and_false : (b : Bool) → (b && false) ≡ false
and_false true = refl
and_false false = refl

-- whether another one meets it is whether the one that does is another one
pub other_meets : (s : Location) (own : ℕ) (test : VlEntry → Bool) (found : Option VlEntry) → IsLocation s → IsOnly s test found
    → list_any (λ f. is_other own f && test f) (entries_from 1 2147483647 s) ≡ other_of own found
other_meets s own test None valid is =
    none_meets s (λ f. is_other own f && test f) 1 2147483647
    (λ rw_id f at. ap (λ (b : Bool). is_other own f && b) (is rw_id f at) ∙ and_false (is_other own f))
other_meets s own test (Some e) valid is =
    let r = valid.records e.rw e is.0 in
    ⊎_elim
    (λ (other : is_other own e ≡ true).
    some_meets s (λ f. is_other own f && test f) 1 2147483647 e.rw e (omega (arith, r.rw_low)) (omega (arith, r.rw)) is.0
    (and_from (is_other own e) (test e) other is.1)
    ∙ sym other)
    (λ (same : is_other own e ≡ false).
    none_meets s (λ f. is_other own f && test f) 1 2147483647
    (λ rw_id f at. false_from_ne_true (is_other own f && test f) (λ met.
    let p = and_parts (is_other own f) (test f) met in
    let here : rw_id ≡ e.rw = is.2 rw_id f at p.1 in
    let f_is : Some f ≡ Some e = sym at ∙ ap s.entry here ∙ is.0 in
    let entry : f ≡ e = cc in
    let fails : is_other own f ≡ false = ap (is_other own) entry ∙ same in
    absurd cc))
    ∙ sym same)
    (cases_Bool (is_other own e))
