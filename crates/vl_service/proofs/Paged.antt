-- A page is made of the next listed entries, one after the other.
use Rattle.std.proofs.Common.{◌≡◌, ◌≢◌, ℕ, zero, suc, ◌+◌, ◌-◌, ◌<◌, ◌≤◌, ℤ, pos, negsuc, Bool, true, false, not, ◌&&◌, ◌||◌, cond, eqb, ltb, List, [], ◌∷◌, ◌++◌, take, Option, Some, None, IfSome, refl, sym, ap, ◌∙◌, ⊎_elim, arith}
use Rattle.std.specs.Prelude.{filter, option_to_list}
use Rattle.std.specs.List.{AllByRecursion, flat_map, list_any, range_with_len}
use Rattle.std.specs.Ordering.{int_eq}
use mathlib.Core.Path.{fun_ext}
use Rattle.std.proofs.lemmas.Bool.{and_from, and_parts, cases_eq, eq-eqb, eqb-true, false_from_ne_true, lt-ltb, le-ltb, ltb-true}
use Rattle.std.proofs.lemmas.Bool.Decides.{Decides-int_eq}
use Rattle.std.proofs.lemmas.List.Elements.{filter-append}
use Rattle.db_image.specs.Ends.{end_of}
use Rattle.db_image.specs.declared.draft_services.CallEnd.{CallEnd}
use Rattle.db_blocks.proofs.Maps.{test_other}
use Rattle.vl_calls.specs.Entries.{IsEntryText}
use Rattle.vl_calls.specs.declared.answers.VlAnswer.TheVariants as answer
use Rattle.vldb_entries.specs.declared.entries.VlEntry.{VlEntry}
use Rattle.vldb_entries.specs.declared.entries.VlSite.{VlSite}
use Rattle.vldb_records.specs.declared.listings.Listing.{Listing}
use Rattle.vldb_records.specs.Listing.{AreListed, IsNextListed, is_listed, is_listed_above, is_listed_site}
use Rattle.vldb_entries.specs.Location.{Location, IsLocation, IsSmall}
use Rattle.vldb_records.specs.Records.{Holds}
use Rattle.vl_service.specs.Meaning.{Answers, Refuses, Verdict, entries, entries_from, is_partition, is_site, page, reply_by}
use Rattle.vl_service.specs.Meaning as meaning
use Rattle.vl_service.specs.Pages.{above, listing_of, page_of}
use Rattle.vl_service.specs.Refusals.{bad_partition}
use Rattle.vl_service.proofs.Found.{small_text}

-- ---- the entries of a range of ids that pass a test

abbrev under : Location → ℕ → List VlEntry
under s = λ rw_id. option_to_list (s.entry rw_id)

abbrev passing : (VlEntry → Bool) → Location → (a n : ℕ) → List VlEntry
passing test s a n = filter test (flat_map (under s) (range_with_len a n))

-- one id after the other
passing_step : (test : VlEntry → Bool) (s : Location) (a n : ℕ) → passing test s a (suc n) ≡ filter test (under s a)
    ++ passing test s (a + 1) n
passing_step test s a n = filter-append test (under s a) (flat_map (under s) (range_with_len (a + 1) n))

one_passes : (test : VlEntry → Bool) (o : Option VlEntry) (e : VlEntry) → o ≡ Some e → test e ≡ true
    → filter test (option_to_list o) ≡ e ∷ []
one_passes test o e at met =
    ap (λ (x : Option VlEntry). filter test (option_to_list x)) at ∙ ap (λ (b : Bool). cond b (e ∷ []) []) met

one_fails : (test : VlEntry → Bool) (o : Option VlEntry) → ((f : VlEntry) → o ≡ Some f → test f ≡ false)
    → filter test (option_to_list o) ≡ []
one_fails test None fails = refl
one_fails test (Some f) fails = ap (λ (b : Bool). cond b (f ∷ []) []) (fails f refl)

-- none of them
none_pass : (test : VlEntry → Bool) (s : Location) (a n : ℕ) → ((rw_id : ℕ) (f : VlEntry) → s.entry rw_id ≡ Some f → test f ≡ false)
    → passing test s a n ≡ []
none_pass test s a zero fails = refl
none_pass test s a (suc n) fails =
    passing_step test s a n ∙ ap (λ (xs : List VlEntry). xs ++ passing test s (a + 1) n) (one_fails test (s.entry a) (fails a))
    ∙ none_pass test s (a + 1) n fails

one_same : (p q : VlEntry → Bool) (o : Option VlEntry) → ((f : VlEntry) → o ≡ Some f → p f ≡ q f)
    → filter p (option_to_list o) ≡ filter q (option_to_list o)
one_same p q None same = refl
one_same p q (Some f) same = ap (λ (b : Bool). cond b (f ∷ []) []) (same f refl)

-- two tests that agree on each of them
same_pass : (p q : VlEntry → Bool) (s : Location) (a n : ℕ) → ((rw_id : ℕ) (f : VlEntry) → a ≤ rw_id → s.entry rw_id ≡ Some f → p f ≡ q f)
    → passing p s a n ≡ passing q s a n
same_pass p q s a zero same = refl
same_pass p q s a (suc n) same =
    passing_step p s a n
    ∙ ap (λ (xs : List VlEntry). xs ++ passing p s (a + 1) n) (one_same p q (s.entry a) (λ f at. same a f (omega arith) at))
    ∙ ap (λ (xs : List VlEntry). filter q (under s a) ++ xs) (same_pass p q s (a + 1) n (λ rw_id f more at. same rw_id f (omega arith) at))
    ∙ sym (passing_step q s a n)

-- ---- the next listed entry is the first of those above

false_below : (l : Listing) (last : ℕ) (f : VlEntry) → f.rw ≤ last → is_listed_above l last f ≡ false
false_below l last f low = ap (λ (b : Bool). b && is_listed l f) (le-ltb last f.rw low)

next_passes : (s : Location) (l : Listing) (last : ℕ) (e : VlEntry) (a n : ℕ) → IsLocation s → IsNextListed s l last (Some e) → a ≤ e.rw
    → e.rw < a + n
    → passing (is_listed_above l last) s a n ≡ e ∷ passing (is_listed_above l e.rw) s a n
next_passes s l last e a zero valid next from below = absurd (omega arith)
next_passes s l last e a (suc n) valid next from below =
    let p = is_listed_above l last in
    let q = is_listed_above l e.rw in
    let rest = passing q s (a + 1) n in
    passing_step p s a n
    ∙ ⊎_elim
    (λ (same : a ≡ e.rw).
    let met : p e ≡ true = and_from (ltb last e.rw) (is_listed l e) (lt-ltb last e.rw next.1) next.2 in
    ap (λ (xs : List VlEntry). xs ++ passing p s (a + 1) n) (one_passes p (s.entry a) e (ap s.entry same ∙ next.0) met)
    ∙ ap (λ (xs : List VlEntry). e ∷ xs)
    (same_pass p q s (a + 1) n
    (λ rw_id f more at.
    let own = valid.ids rw_id f at in
    ap (λ (b : Bool). b && is_listed l f)
    (lt-ltb last f.rw (omega (arith, own, more, same, next.1)) ∙ sym (lt-ltb e.rw f.rw (omega (arith, own, more, same))))))
    ∙ ap (λ (xs : List VlEntry). e ∷ (xs ++ rest))
    (sym (one_fails q (s.entry a) (λ f at. false_below l e.rw f (omega (arith, valid.ids a f at, same)))))
    ∙ ap (λ (xs : List VlEntry). e ∷ xs) (sym (passing_step q s a n)))
    (λ (other : a ≢ e.rw).
    ap (λ (xs : List VlEntry). xs ++ passing p s (a + 1) n)
    (one_fails p (s.entry a) (λ f at. false_from_ne_true (p f) (λ met.
    let own = valid.ids a f at in
    let parts = and_parts (ltb last f.rw) (is_listed l f) met in
    let more : last < f.rw = ltb-true last f.rw parts.0 in
    let least = next.3 a f (omega (arith, own, more)) at parts.1 in
    omega (arith, least, other, from))))
    ∙ next_passes s l last e (a + 1) n valid next (omega (arith, from, other)) (omega (arith, below))
    ∙ ap (λ (xs : List VlEntry). e ∷ (xs ++ rest))
    (sym (one_fails q (s.entry a) (λ f at. false_below l e.rw f (omega (arith, valid.ids a f at, from)))))
    ∙ ap (λ (xs : List VlEntry). e ∷ xs) (sym (passing_step q s a n)))
    (cases_eq a e.rw)

above_next : (s : Location) (l : Listing) (last first count : ℕ) (e : VlEntry) → IsLocation s → IsNextListed s l last (Some e)
    → first ≤ e.rw → e.rw < first + count
    → filter (is_listed_above l last) (entries_from first count s) ≡ e ∷ filter (is_listed_above l e.rw) (entries_from first count s)
unfolding entries_from
above_next s l last first count e valid next from below = next_passes s l last e first count valid next from below

above_none : (s : Location) (l : Listing) (last first count : ℕ) → IsLocation s → IsNextListed s l last None
    → filter (is_listed_above l last) (entries_from first count s) ≡ []
unfolding entries_from
above_none s l last first count valid next =
    none_pass (is_listed_above l last) s first count
    (λ rw_id f at. false_from_ne_true (is_listed_above l last f) (λ met.
    let own = valid.ids rw_id f at in
    let parts = and_parts (ltb last f.rw) (is_listed l f) met in
    let more : last < f.rw = ltb-true last f.rw parts.0 in
    let fails = next rw_id f (omega (arith, own, more)) at in
    let listed = parts.1 in
    absurd cc))

-- ---- so the next ones, one after the other, are the first of them

take_from : (s : Location) (l : Listing) (n after : ℕ) (es : List VlEntry) → IsLocation s → AreListed s l after n es
    → es ≡ take n (above l after s)
take_from s l zero after es valid are = are
take_from s l (suc n) after [] valid are = ap (take (suc n)) (sym (above_none s l after 1 2147483647 valid are))
take_from s l (suc n) after (e ∷ es) valid are =
    let r = valid.records e.rw e are.0.0 in
    ap (λ (xs : List VlEntry). e ∷ xs) (take_from s l n e.rw es valid are.1)
    ∙ ap (take (suc n)) (sym (above_next s l after 1 2147483647 e valid are.0 (omega (arith, r.rw_low)) (omega (arith, r.rw))))

pub page_from : (bytes : Option (List ℕ)) (l : Listing) (after : ℕ) (es : List VlEntry)
    → IfSome bytes (λ image. (s : Location) → Holds image s → AreListed s l after 100 es)
    → IfSome bytes (λ image. (s : Location) → Holds image s → es ≡ page_of l after s)
page_from None l after es are = tt
page_from (Some image) l after es are = λ s holds. take_from s l 100 after es holds.valid (are s holds)

-- ---- what a call asks for is a listing

and_assoc : (a b c : Bool) → ((a && b) && c) ≡ (a && (b && c))
and_assoc true b c = refl
and_assoc false b c = refl

same_number : (n m : ℕ) → int_eq (pos n) (pos m) ≡ eqb n m
same_number n m =
    ⊎_elim
    (λ (same : n ≡ m). (Decides-int_eq (pos n) (pos m)).1 (ap pos same) ∙ sym (eq-eqb n m same))
    (λ (other : n ≢ m).
    false_from_ne_true (int_eq (pos n) (pos m)) (λ met. let same =
    (Decides-int_eq (pos n) (pos m)).0 met in let number : n ≡ m = cc in other number)
    ∙ sym (test_other n m other))
    (cases_eq n m)

no_any : (n : ℕ) → int_eq (pos n) (negsuc 0) ≡ false
no_any n = false_from_ne_true (int_eq (pos n) (negsuc 0)) (λ met. let same = (Decides-int_eq (pos n) (negsuc 0)).0 met in absurd cc)

site_at : (host : ℕ) (z : ℤ) (locked : Bool) (site : VlSite) → is_partition z ≡ true
    → is_site host z site ≡ is_listed_site (listing_of host z locked) site
site_at host (pos n) locked site is =
    ap (λ (b : Bool). (eqb host 0 || eqb site.host host) && (b || int_eq (pos n) (pos site.partition))) (no_any n)
    ∙ ap (λ (b : Bool). (eqb host 0 || eqb site.host host) && b) (same_number n site.partition)
site_at host (negsuc zero) locked site is =
    ap (λ (b : Bool). (eqb host 0 || eqb site.host host) && (b || int_eq (negsuc 0) (pos site.partition)))
    ((Decides-int_eq (negsuc 0) (negsuc 0)).1 refl)
site_at host (negsuc (suc n)) locked site is = absurd (omega (arith, eqb-true (suc n) 0 is))

any_site : (host : ℕ) (z : ℤ) (locked : Bool) (sites : List VlSite) → is_partition z ≡ true
    → list_any (is_site host z) sites ≡ list_any (is_listed_site (listing_of host z locked)) sites
any_site host z locked sites is = ap (λ (test : VlSite → Bool). list_any test sites) (fun_ext (λ site. site_at host z locked site is))

listed_at : (after host : ℕ) (z : ℤ) (locked : Bool) (e : VlEntry) → is_partition z ≡ true
    → meaning.is_listed after host z locked e ≡ is_listed_above (listing_of host z locked) after e
listed_at after host (pos n) locked e is =
    and_assoc (ltb after e.rw) (list_any (is_site host (pos n)) e.sites) (not locked || not (eqb e.lock_op 0))
    ∙ ap (λ (b : Bool). ltb after e.rw && (b && (not locked || not (eqb e.lock_op 0)))) (any_site host (pos n) locked e.sites is)
listed_at after host (negsuc n) locked e is =
    and_assoc (ltb after e.rw) (list_any (is_site host (negsuc n)) e.sites) (not locked || not (eqb e.lock_op 0))
    ∙ ap (λ (b : Bool). ltb after e.rw && (b && (not locked || not (eqb e.lock_op 0)))) (any_site host (negsuc n) locked e.sites is)

page_is : (s : Location) (after host : ℕ) (z : ℤ) (locked : Bool) → is_partition z ≡ true
    → page s after host z locked ≡ Answers (answer.Entries (page_of (listing_of host z locked) after s))
page_is s after host z locked is =
    ap (λ (b : Bool). cond b (Answers (answer.Entries (take 100 (filter (meaning.is_listed after host z locked) (entries s)))))
    (Refuses bad_partition)) is
    ∙ ap (λ (test : VlEntry → Bool). Answers (answer.Entries (take 100 (filter test (entries s)))))
    (fun_ext (λ e. listed_at after host z locked e is))

pub page_meant : (bytes : Option (List ℕ)) (after host : ℕ) (z : ℤ) (locked : Bool) (es : List VlEntry) (ended : CallEnd)
    → is_partition z ≡ true
    → IfSome bytes (λ image. (s : Location) → Holds image s → es ≡ page_of (listing_of host z locked) after s)
    → ended ≡ end_of (reply_by (Answers (answer.Entries es)))
    → IfSome bytes (λ image. (s : Location) → Holds image s → ended ≡ end_of (reply_by (page s after host z locked)))
page_meant None after host z locked es ended form is told = tt
page_meant (Some image) after host z locked es ended form is told = λ s holds.
    told ∙ ap (λ (xs : List VlEntry). end_of (reply_by (Answers (answer.Entries xs)))) (is s holds)
    ∙ ap (λ (v : Verdict). end_of (reply_by v)) (sym (page_is s after host z locked form))

pub page_refused : (bytes : Option (List ℕ)) (after host : ℕ) (z : ℤ) (locked : Bool) (ended : CallEnd) → is_partition z ≡ false
    → ended ≡ end_of (reply_by (Refuses bad_partition))
    → IfSome bytes (λ image. (s : Location) → Holds image s → ended ≡ end_of (reply_by (page s after host z locked)))
page_refused None after host z locked ended form told = tt
page_refused (Some image) after host z locked ended form told = λ s holds.
    told
    ∙ ap (λ (b : Bool). end_of
    (reply_by (cond b (Answers (answer.Entries (take 100 (filter (meaning.is_listed after host z locked) (entries s)))))
    (Refuses bad_partition))))
    (sym form)

-- small entries have texts
pub small_texts : (es : List VlEntry) → AllByRecursion IsSmall es → AllByRecursion IsEntryText es
small_texts [] all = tt
small_texts (e ∷ es) all = (small_text e all.0, small_texts es all.1)
