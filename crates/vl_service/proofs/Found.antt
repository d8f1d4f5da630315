-- What the records find is the entry that a call means.
use Rattle.std.proofs.Common.{◌≡◌, ◌≢◌, ℕ, ℤ, zero, suc, pos, ◌+◌, ◌<◌, ◌≤◌, Bool, true, false, not, ◌&&◌, ◌||◌, cond, eqb, List, Option, Some, None, IfSome, refl, sym, ap, ◌∙◌, ⊎_elim, arith}
use Rattle.std.specs.Prelude.{filter, option_and_then}
use Rattle.std.specs.List.{find, range_with_len}
use Rattle.std.specs.Ordering.{int_eq}
use Rattle.std.specs.Str.{bytes_eq}
use Rattle.std.proofs.lemmas.Bool.{cases_eq}
use Rattle.std.proofs.lemmas.Slice.Eq.{bytes_eq-Decides}
use Rattle.vldb_entries.specs.declared.entries.VlEntry.{VlEntry}
use Rattle.db_image.specs.Ends.{end_of}
use Rattle.db_image.specs.declared.draft_services.CallEnd.{CallEnd}
use Rattle.vldb_entries.specs.Location.{Location, IsLocation, IsNamed, IsOfId, IsSmall, has_id, is_name}
use Rattle.vldb_records.specs.Records.{Holds}
use Rattle.vl_calls.specs.Entries.{IsEntryText}
use Rattle.vl_service.specs.Meaning.{Answers, Refuses, entry_named, entry_of_type, first_to, is_of_type, is_volume_type, meets, named_verdict, of_entry, of_id, reply_by, told, used}
use Rattle.vl_calls.specs.declared.answers.VlAnswer.TheVariants as answer
use Rattle.vl_service.specs.Refusals.{bad_name, bad_volume_type}

-- ---- the first number that meets a test

find_at : (test : ℕ → Bool) (a n k : ℕ) → a ≤ k → k < a + n → ((j : ℕ) → a ≤ j → j < k → test j ≡ false) → test k ≡ true
    → find test (range_with_len a n) ≡ Some k
find_at test a zero k from below before here = absurd (omega arith)
find_at test a (suc n) k from below before here =
    let rest = find test (range_with_len (a + 1) n) in
    ⊎_elim
    (λ (same : a ≡ k). ap (λ (b : Bool). cond b (Some a) rest) (ap test same ∙ here) ∙ ap Some same)
    (λ (other : a ≢ k).
    ap (λ (b : Bool). cond b (Some a) rest) (before a (omega arith) (omega arith))
    ∙ find_at test (a + 1) n k (omega arith) (omega arith) (λ j least less. before j (omega arith) less) here)
    (cases_eq a k)

find_none : (test : ℕ → Bool) (a n : ℕ) → ((j : ℕ) → test j ≡ false) → find test (range_with_len a n) ≡ None
find_none test a zero fails = refl
find_none test a (suc n) fails =
    ap (λ (b : Bool). cond b (Some a) (find test (range_with_len (a + 1) n))) (fails a) ∙ find_none test (a + 1) n fails

-- ---- the entry that meets a test

meets_not : (test : VlEntry → Bool) (o : Option VlEntry) → ((f : VlEntry) → o ≡ Some f → test f ≡ false) → meets test o ≡ false
meets_not test None fails = refl
meets_not test (Some f) fails = fails f refl

is_false : (b : Bool) → (b ≡ true → ⊥) → b ≡ false
is_false true not = absurd (not refl)
is_false false not = refl

first_some : (s : Location) (most : ℕ) (test : VlEntry → Bool) (e : VlEntry) → s.entry e.rw ≡ Some e → 1 ≤ e.rw → e.rw ≤ most
    → test e ≡ true
    → ((rw_id : ℕ) (f : VlEntry) → s.entry rw_id ≡ Some f → test f ≡ true → rw_id ≡ e.rw) → first_to most test s ≡ Some e
unfolding first_to
first_some s most test e at low high met_e alone =
    let found = find_at (λ k. meets test (s.entry k)) 1 most e.rw low (omega arith)
    (λ j from less. meets_not test (s.entry j)
    (λ f there. is_false (test f) (λ met. let same = alone j f there met in omega (arith, same, less))))
    (ap (meets test) at ∙ met_e) in
    ap (option_and_then s.entry) found ∙ at

first_none : (s : Location) (most : ℕ) (test : VlEntry → Bool) → ((rw_id : ℕ) (f : VlEntry) → s.entry rw_id ≡ Some f → test f ≡ false)
    → first_to most test s ≡ None
unfolding first_to
first_none s most test fails =
    ap (option_and_then s.entry)
    (find_none (λ k. meets test (s.entry k)) 1 most (λ j. meets_not test (s.entry j) (λ f there. fails j f there)))

-- ---- by name

pub named_is : (s : Location) (name : List ℕ) (found : Option VlEntry) → IsLocation s → IsNamed s name found → entry_named s name ≡ found
named_is s name None valid is =
    first_none s 2147483647 (λ f. bytes_eq f.name name)
    (λ k f there. is_false (bytes_eq f.name name) (λ same. is k f there ((bytes_eq-Decides f.name name).0 same)))
named_is s name (Some e) valid is =
    let r = valid.records e.rw e is.0 in
    first_some s 2147483647 (λ f. bytes_eq f.name name) e is.0 (omega (arith, r.rw_low)) r.rw ((bytes_eq-Decides e.name name).1 is.1)
    (λ k f there same. valid.names k e.rw f e there is.0 ((bytes_eq-Decides f.name name).0 same ∙ sym is.1))

-- ---- by an id of a type

part_one : (z a b c : Bool) → (not z && a) ≡ true → (not z && (a || b || c)) ≡ true
part_one true a b c is = is
part_one false true b c is = refl
part_one false false b c is = absurd cc

part_two : (z a b c : Bool) → (not z && b) ≡ true → (not z && (a || b || c)) ≡ true
part_two true a b c is = is
part_two false true b c is = refl
part_two false false true c is = refl
part_two false false false c is = absurd cc

part_three : (z a b c : Bool) → (not z && c) ≡ true → (not z && (a || b || c)) ≡ true
part_three true a b c is = is
part_three false true b c is = refl
part_three false false true c is = refl
part_three false false false true is = refl
part_three false false false false is = absurd cc

one : (first second third z a b c : Bool)
    → cond first (not z && a) (cond second (not z && b) (cond third (not z && c) (not z && (a || b || c)))) ≡ true
    → (not z && (a || b || c)) ≡ true
one true second third z a b c is = part_one z a b c is
one false true third z a b c is = part_two z a b c is
one false false true z a b c is = part_three z a b c is
one false false false z a b c is = is

-- an id of a type is one of the three
of_type : (volume_type : ℤ) (id : ℕ) (e : VlEntry) → is_of_type volume_type id e ≡ true → has_id id e ≡ true
of_type volume_type id e is =
    one (int_eq volume_type (pos 0)) (int_eq volume_type (pos 1)) (int_eq volume_type (pos 2)) (eqb id 0) (eqb e.rw id) (eqb e.ro id)
    (eqb e.backup id) is

-- the entry of an id, where its type fits
abbrev pub of_fitting : ℤ → ℕ → Option VlEntry → Option VlEntry
of_fitting volume_type id None = None
of_fitting volume_type id (Some e) = cond (is_of_type volume_type id e) (Some e) None

typed_some : (s : Location) (volume_type : ℤ) (id : ℕ) (e : VlEntry) → IsLocation s → IsOfId s id (Some e) → (b : Bool)
    → is_of_type volume_type id e ≡ b
    → entry_of_type s volume_type id ≡ cond b (Some e) None
typed_some s volume_type id e valid is true fits =
    let r = valid.records e.rw e is.0 in
    first_some s 2147483647 (is_of_type volume_type id) e is.0 (omega (arith, r.rw_low)) r.rw fits
    (λ k f there met. valid.apart k e.rw id f e there is.0 (of_type volume_type id f met) is.1)
typed_some s volume_type id e valid is false fits =
    first_none s 2147483647 (is_of_type volume_type id) (λ k f there. is_false (is_of_type volume_type id f) (λ met.
    let same : k ≡ e.rw = valid.apart k e.rw id f e there is.0 (of_type volume_type id f met) is.1 in
    let f_is : Some f ≡ Some e = sym there ∙ ap s.entry same ∙ is.0 in
    let entry : f ≡ e = cc in
    let fails : is_of_type volume_type id f ≡ false = ap (is_of_type volume_type id) entry ∙ fits in
    absurd cc))

pub typed_is : (s : Location) (volume_type : ℤ) (id : ℕ) (found : Option VlEntry) → IsLocation s → IsOfId s id found
    → entry_of_type s volume_type id ≡ of_fitting volume_type id found
typed_is s volume_type id None valid is =
    first_none s 2147483647 (is_of_type volume_type id) (λ k f there. is_false (is_of_type volume_type id f) (λ met.
    let has = of_type volume_type id f met in
    let hasnt = is k f there in
    absurd cc))
typed_is s volume_type id (Some e) valid is = typed_some s volume_type id e valid is (is_of_type volume_type id e) refl

-- ---- over a draft

pub small_text : (e : VlEntry) → IsSmall e → IsEntryText e
unfolding IsEntryText
small_text e is = (omega (arith, is.0), (tt, (tt, (tt, (tt, (tt, (omega (arith, is.1), (tt, (tt, tt)))))))))

pub named_meant : (bytes : Option (List ℕ)) (name : List ℕ) (found : Option VlEntry) (ended : CallEnd) → is_name name ≡ true
    → IfSome bytes (λ image. (s : Location) → Holds image s → IsNamed s name found) → ended ≡ end_of (reply_by (of_entry found told))
    → IfSome bytes (λ image. (s : Location) → Holds image s → ended ≡ end_of (reply_by (named_verdict s name)))
named_meant None name found ended form is meant = tt
named_meant (Some image) name found ended form is meant = λ s holds.
    meant ∙ ap (λ (o : Option VlEntry). end_of (reply_by (of_entry o told))) (sym (named_is s name found holds.valid (is s holds)))
    ∙ ap (λ (b : Bool). end_of (reply_by (cond b (of_entry (entry_named s name) told) (Refuses bad_name)))) (sym form)

pub named_refused : (bytes : Option (List ℕ)) (name : List ℕ) (ended : CallEnd) → is_name name ≡ false
    → ended ≡ end_of (reply_by (Refuses bad_name))
    → IfSome bytes (λ image. (s : Location) → Holds image s → ended ≡ end_of (reply_by (named_verdict s name)))
named_refused None name ended form meant = tt
named_refused (Some image) name ended form meant = λ s holds.
    meant ∙ ap (λ (b : Bool). end_of (reply_by (cond b (of_entry (entry_named s name) told) (Refuses bad_name)))) (sym form)

pub typed_found : (bytes : Option (List ℕ)) (volume_type : ℤ) (id : ℕ) (found result : Option VlEntry)
    → IfSome bytes (λ image. (s : Location) → Holds image s → IsOfId s id found) → of_fitting volume_type id found ≡ result
    → IfSome bytes (λ image. (s : Location) → Holds image s → entry_of_type s volume_type id ≡ result)
typed_found None volume_type id found result is fits = tt
typed_found (Some image) volume_type id found result is fits = λ s holds. typed_is s volume_type id found holds.valid (is s holds) ∙ fits

pub typed_meant : (bytes : Option (List ℕ)) (volume_type : ℤ) (id : ℕ) (found : Option VlEntry) (ended : CallEnd)
    → is_volume_type volume_type ≡ true
    → IfSome bytes (λ image. (s : Location) → Holds image s → entry_of_type s volume_type id ≡ found)
    → ended ≡ end_of (reply_by (of_entry found told))
    → IfSome bytes (λ image. (s : Location) → Holds image s → ended ≡ end_of (reply_by (of_id s volume_type id told)))
typed_meant None volume_type id found ended form is meant = tt
typed_meant (Some image) volume_type id found ended form is meant = λ s holds.
    meant ∙ ap (λ (o : Option VlEntry). end_of (reply_by (of_entry o told))) (sym (is s holds))
    ∙ ap (λ (b : Bool). end_of (reply_by (cond b (of_entry (entry_of_type s volume_type id) told) (Refuses bad_volume_type)))) (sym form)

pub typed_refused : (bytes : Option (List ℕ)) (volume_type : ℤ) (id : ℕ) (ended : CallEnd) → is_volume_type volume_type ≡ false
    → ended ≡ end_of (reply_by (Refuses bad_volume_type))
    → IfSome bytes (λ image. (s : Location) → Holds image s → ended ≡ end_of (reply_by (of_id s volume_type id told)))
typed_refused None volume_type id ended form meant = tt
typed_refused (Some image) volume_type id ended form meant = λ s holds.
    meant ∙ ap (λ (b : Bool). end_of (reply_by (cond b (of_entry (entry_of_type s volume_type id) told) (Refuses bad_volume_type))))
    (sym form)

pub hosts_meant : (bytes : Option (List ℕ)) (places hosts : List ℕ) (ended : CallEnd)
    → IfSome bytes (λ image. (s : Location) → Holds image s → places ≡ s.addresses)
    → hosts ≡ filter (λ host. not (eqb host 0)) places → ended ≡ end_of (reply_by (Answers (answer.Hosts hosts)))
    → IfSome bytes (λ image. (s : Location) → Holds image s → ended ≡ end_of (reply_by (Answers (answer.Hosts (used s)))))
hosts_meant None places hosts ended are is meant = tt
hosts_meant (Some image) places hosts ended are is meant = λ s holds.
    meant ∙ ap (λ (h : List ℕ). end_of (reply_by (Answers (answer.Hosts h)))) (is ∙ ap (filter (λ host. not (eqb host 0))) (are s holds))

-- an entry that was found is there
through : {X Y : Type 0} (f : X → Option Y) (o : Option X) (y : Y) → option_and_then f o ≡ Some y → (x : X) × (f x ≡ Some y)
through f None y is = absurd cc
through f (Some x) y is = (x, is)

first_there : (s : Location) (most : ℕ) (test : VlEntry → Bool) (e : VlEntry) → first_to most test s ≡ Some e → (k : ℕ)
    × (s.entry k ≡ Some e)
unfolding first_to
first_there s most test e is = through s.entry (find (λ k. meets test (s.entry k)) (range_with_len 1 most)) e is

pub typed_there : (s : Location) (volume_type : ℤ) (id : ℕ) (e : VlEntry) → IsLocation s → entry_of_type s volume_type id ≡ Some e
    → s.entry e.rw ≡ Some e
typed_there s volume_type id e valid is =
    let at = first_there s 2147483647 (is_of_type volume_type id) e is in
    ap s.entry (valid.ids at.0 e at.1) ∙ at.1
