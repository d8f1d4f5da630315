-- A page is made of the first entries of its kinds, as their blocks tell them.
use Rattle.std.proofs.Common.{◌≡◌, ◌≢◌, ℕ, zero, suc, ◌<◌, ◌+ℤ◌, ℤ, pos, negsuc, Bool, true, false, cond, List, [], ◌∷◌, ◌++◌, length, map, take, Option, Some, None, IfSome, refl, sym, ap, subst, ◌∙◌, inl, inr, arith}
use Rattle.std.specs.Prelude.{◌<ℤ◌, ◌≤ℤ◌, filter, option_to_list}
use Rattle.std.specs.List.{AllByRecursion, flat_map}
use Rattle.std.proofs.lemmas.Bool.{cases_Bool}
use Rattle.std.proofs.lemmas.Int.{ints}
use Rattle.std.proofs.lemmas.List.Elements.{filter-append}
use Rattle.db_image.specs.declared.faults.RecordFault.{RecordFault}
use Rattle.db_image.specs.declared.faults.RecordFault.TheVariants.{DiskFault, BadRecord, NoMemory}
use Rattle.db_blocks.specs.Blocks.{kind_of}
use Rattle.prdb_layout.specs.Blocks.{block_count}
use Rattle.prdb_layout.specs.Records.{block_in, entry_in}
use Rattle.prdb_layout.specs.Registry.{Registry, IsRegistry}
use Rattle.prdb_layout.specs.State.{PrEntry}
use Rattle.entry_scans.specs.Pages.{AreFirst, IsOfEntry, pair_count_in, least_id}
use Rattle.prdb_lists.specs.Members.{Members}
use Rattle.prdb_finds.specs.Ends.{HasItsCause}
use Rattle.prdb_finds.specs.Records.{Holds, whole}
use Rattle.prdb_finds.proofs.Told.{told_there}
use Rattle.prdb_scans.proofs.Told.{counted}
use Rattle.pt_calls.specs.declared.answers.PtEntry.{PtEntry}
use Rattle.pt_service.specs.Meaning.{is_listed, told, told_of}
use Rattle.pt_service.specs.State.{State, entries_from, numbers_from, pair_count}
use Rattle.pt_service.specs.Told.{Told}
use Rattle.pt_service.proofs.Entries.{record_fits}
use Rattle.pt_looks.specs.Ends.{IsUnless}
use Rattle.pt_looks.specs.Pages.{HasShortName, above, fits_in, page_of, told_in}
use Rattle.pt_looks.specs.States.{HoldsRecords, OfStates, members_of}
use Rattle.pt_looks.proofs.Pairs.{elements_are, entry_range, is_there}

-- ---- the entries of a range of ids that pass a test

abbrev under : Registry → ℤ → List PrEntry
under r = λ id. option_to_list (r.entry id)

abbrev passing : (PrEntry → Bool) → Registry → (a : ℤ) → (n : ℕ) → List PrEntry
passing test r a n = filter test (flat_map (under r) (numbers_from a n))

passing_none : (test : PrEntry → Bool) (r : Registry) (a : ℤ) → passing test r a zero ≡ []
unfolding numbers_from
passing_none test r a = refl

-- one id after the other
passing_step : (test : PrEntry → Bool) (r : Registry) (a : ℤ) (n : ℕ)
    → passing test r a (suc n) ≡ filter test (under r a) ++ passing test r (a +ℤ pos 1) n
unfolding numbers_from
passing_step test r a n = filter-append test (under r a) (flat_map (under r) (numbers_from (a +ℤ pos 1) n))

one_passes : (test : PrEntry → Bool) (o : Option PrEntry) (e : PrEntry) → o ≡ Some e → test e ≡ true
    → filter test (option_to_list o) ≡ e ∷ []
one_passes test o e at met =
    ap (λ (x : Option PrEntry). filter test (option_to_list x)) at ∙ ap (λ (b : Bool). cond b (e ∷ []) []) met

one_fails : (test : PrEntry → Bool) (o : Option PrEntry) → ((f : PrEntry) → o ≡ Some f → test f ≡ false)
    → filter test (option_to_list o) ≡ []
one_fails test None fails = refl
one_fails test (Some f) fails = ap (λ (b : Bool). cond b (f ∷ []) []) (fails f refl)

passing_met : (test : PrEntry → Bool) (r : Registry) (a : ℤ) (n : ℕ) (e : PrEntry) → r.entry a ≡ Some e → test e ≡ true
    → passing test r a (suc n) ≡ e ∷ passing test r (a +ℤ pos 1) n
passing_met test r a n e at met =
    passing_step test r a n ∙ ap (λ (xs : List PrEntry). xs ++ passing test r (a +ℤ pos 1) n) (one_passes test (r.entry a) e at met)

passing_past : (test : PrEntry → Bool) (r : Registry) (a : ℤ) (n : ℕ) → ((f : PrEntry) → r.entry a ≡ Some f → test f ≡ false)
    → passing test r a (suc n) ≡ passing test r (a +ℤ pos 1) n
passing_past test r a n fails =
    passing_step test r a n ∙ ap (λ (xs : List PrEntry). xs ++ passing test r (a +ℤ pos 1) n) (one_fails test (r.entry a) fails)

-- ---- the first of them

itself : (a : ℤ) → a ≤ℤ a
itself a = omega (arith, ints)

up_on : (a id : ℤ) → (a +ℤ pos 1) ≤ℤ id → a ≤ℤ id
up_on a id up = omega (arith, ints)

up_from : (a b : ℤ) → a ≤ℤ b → a ≢ b → (a +ℤ pos 1) ≤ℤ b
up_from a b most other = grind (arith, ints)

same_from : (a b : ℤ) → a ≤ℤ b → b ≤ℤ a → b ≡ a
same_from a b one two = omega (arith, ints, one, two)

none_between : (a b : ℤ) → a ≤ℤ b → b <ℤ (a +ℤ pos 0) → ⊥
none_between a b from below = omega (arith, ints)

below_next : (a b : ℤ) (n : ℕ) → b <ℤ (a +ℤ pos (suc n)) → b <ℤ ((a +ℤ pos 1) +ℤ pos n)
below_next a b n below = omega (arith, ints)

both : (b : Bool) → b ≡ true → b ≡ false → ⊥
both true is not = absurd cc
both false is not = absurd cc

-- where none has the first id, they are the first from the next one on
past_first : (test : PrEntry → Bool) (r : Registry) (low : ℤ) (n : ℕ) (es : List PrEntry)
    → ((f : PrEntry) → r.entry low ≡ Some f → test f ≡ false)
    → AreFirst test r low n es → AreFirst test r (low +ℤ pos 1) n es
past_first test r low zero es fails are = are
past_first test r low (suc n) [] fails are = λ id e above at. are id e (up_on low id above) at
past_first test r low (suc n) (e ∷ es) fails are = (
  record {
    there = are.0.there;
    above = up_from low e.id are.0.above (λ same. both (test e) are.0.met (fails e (ap r.entry same ∙ are.0.there)));
    met = are.0.met;
    least = λ id f above at met. are.0.least id f (up_on low id above) at met;
  },
  are.1,
)

-- where one has it, it is the first of them
take_met : (test : PrEntry → Bool) (r : Registry) (low : ℤ) (count n : ℕ) (es : List PrEntry) (f : PrEntry) → r.entry low ≡ Some f
    → test f ≡ true
    → ((es : List PrEntry) → AreFirst test r (low +ℤ pos 1) n es → es ≡ take n (passing test r (low +ℤ pos 1) count))
    → AreFirst test r low (suc n) es → es ≡ take (suc n) (passing test r low (suc count))
take_met test r low count n [] f at met next are = absurd (both (test f) met (are low f (itself low) at))
take_met test r low count n (e ∷ es) f at met next are =
    let same : e.id ≡ low = same_from low e.id are.0.above (are.0.least low f (itself low) at met) in
    let here : r.entry low ≡ Some e = ap r.entry (sym same) ∙ are.0.there in
    ap (λ (xs : List PrEntry). e ∷ xs) (next es (subst (λ (z : ℤ). AreFirst test r (z +ℤ pos 1) n es) same are.1))
    ∙ ap (take (suc n)) (sym (passing_met test r low count e here are.0.met))

take_at : (test : PrEntry → Bool) (r : Registry) (low : ℤ) (count n : ℕ) (es : List PrEntry) (o : Option PrEntry) → r.entry low ≡ o
    → ((m : ℕ) (es : List PrEntry) → AreFirst test r (low +ℤ pos 1) m es → es ≡ take m (passing test r (low +ℤ pos 1) count))
    → AreFirst test r low (suc n) es → es ≡ take (suc n) (passing test r low (suc count))
take_at test r low count n es None at next are =
    let fails : (f : PrEntry) → r.entry low ≡ Some f → test f ≡ false =
    λ f is. let not : None ≡ Some f = sym at ∙ is in absurd cc in
    next (suc n) es (past_first test r low (suc n) es fails are) ∙ ap (take (suc n)) (sym (passing_past test r low count fails))
take_at test r low count n es (Some f) at next are =
    elim (cases_Bool (test f)) [
      | inl met ↦ take_met test r low count n es f at met (next n) are
      | inr not ↦
          let fails : (g : PrEntry) → r.entry low ≡ Some g → test g ≡ false =
          λ g is. let same : Some f ≡ Some g = sym at ∙ is in let one : f ≡ g = cc in ap test (sym one) ∙ not in
          next (suc n) es (past_first test r low (suc n) es fails are) ∙ ap (take (suc n)) (sym (passing_past test r low count fails))
    ]

take_first : (test : PrEntry → Bool) (r : Registry) (count : ℕ) (low : ℤ) (n : ℕ) (es : List PrEntry)
    → ((id : ℤ) (f : PrEntry) → r.entry id ≡ Some f → id <ℤ (low +ℤ pos count)) → AreFirst test r low n es
    → es ≡ take n (passing test r low count)
take_first test r zero low zero es within are = are
take_first test r zero low (suc n) [] within are = ap (take (suc n)) (sym (passing_none test r low))
take_first test r zero low (suc n) (e ∷ es) within are = absurd (none_between low e.id are.0.above (within e.id e are.0.there))
take_first test r (suc count) low zero es within are = are
take_first test r (suc count) low (suc n) es within are =
    take_at test r low count n es (r.entry low) refl
    (λ m es are. take_first test r count (low +ℤ pos 1) m es (λ id f at. below_next low id count (within id f at)) are) are

first_from : (test : PrEntry → Bool) (r : Registry) (first : ℤ) (count n : ℕ) (es : List PrEntry)
    → ((id : ℤ) (f : PrEntry) → r.entry id ≡ Some f → id <ℤ (first +ℤ pos count)) → AreFirst test r first n es
    → es ≡ take n (filter test (entries_from first count r))
unfolding entries_from
first_from test r first count n es within are = take_first test r count first n es within are

first_above : (s : State) (kinds : ℕ) (after : ℤ) (n : ℕ) (es : List PrEntry) → IsRegistry s.registry
    → AreFirst (is_listed kinds after) s.registry (negsuc 2147483646) n es → es ≡ take n (above s kinds after)
first_above s kinds after n es valid are =
    first_from (is_listed kinds after) s.registry least_id 4294967295 n es
    (λ id f at. (entry_range s.registry id valid (is_there (s.registry.entry id) f at)).1) are

-- ---- what their blocks tell

-- an entry's block tells the number of its pairs
count_at : (image : List ℕ) (s : State) (k : ℕ) → HoldsRecords image s → k < block_count (whole image)
    → kind_of (block_in (whole image) k) ≡ 1
    → pair_count_in (block_in (whole image) k) ≡ pair_count s (entry_in (block_in (whole image) k)).id
count_at image s k holds below kind =
    let c = counted image s.registry (members_of s) k holds below kind in
    c.2 ∙ ap length (elements_are image s (entry_in (block_in (whole image) k)).id c.0 holds c.1)

told_same : (n m : ℕ) (e : PrEntry) → n ≡ m → told n e ≡ told m e
told_same n m e same = ap (λ (k : ℕ). told k e) same

pub told_at : (image : List ℕ) (s : State) (block : List ℕ) → HoldsRecords image s → IsOfEntry (whole image) block
    → told_in block ≡ told_of s (entry_in block)
told_at image s block holds of =
    let b = block_in (whole image) of.0 in
    let kind : kind_of b ≡ 1 = ap kind_of (sym of.3) ∙ of.2 in
    subst (λ (x : List ℕ). told_in x ≡ told_of s (entry_in x)) (sym of.3)
    (told_same (pair_count_in b) (pair_count s (entry_in b).id) (entry_in b) (count_at image s of.0 holds of.1 kind))

all_told : (image : List ℕ) (s : State) (blocks : List (List ℕ)) → HoldsRecords image s → AllByRecursion (IsOfEntry (whole image)) blocks
    → map told_in blocks ≡ map (told_of s) (map entry_in blocks)
all_told image s [] holds of = refl
all_told image s (b ∷ blocks) holds of =
    ap (λ (e : PtEntry). e ∷ map told_in blocks) (told_at image s b holds of.0)
    ∙ ap (λ (es : List PtEntry). told_of s (entry_in b) ∷ es) (all_told image s blocks holds of.1)

pub page_told : (bytes : Option (List ℕ)) (kinds : ℕ) (after : ℤ) (blocks : List (List ℕ)) (es : List PtEntry)
    → Told bytes (λ r. AreFirst (is_listed kinds after) r (negsuc 2147483646) 100 (map entry_in blocks))
    → IfSome bytes (λ image. (r : Registry) (m : Members) → Holds image r m → AllByRecursion (IsOfEntry (whole image)) blocks)
    → es ≡ map told_in blocks → OfStates bytes (λ s. es ≡ page_of s kinds after)
page_told None kinds after blocks es first of is = tt
page_told (Some image) kinds after blocks es first of is = λ s holds.
    let m = members_of s in
    is ∙ all_told image s blocks holds (of s.registry m holds)
    ∙ ap (map (told_of s)) (first_above s kinds after 100 (map entry_in blocks) holds.pairs.holds.valid (first s.registry m holds))

-- ---- what no database may hold is in none

pub fits_at : (image : List ℕ) (r : Registry) (m : Members) (block : List ℕ) → Holds image r m → IsOfEntry (whole image) block
    → fits_in block ≡ true
fits_at image r m block holds of =
    let b = block_in (whole image) of.0 in
    let kind : kind_of b ≡ 1 = ap kind_of (sym of.3) ∙ of.2 in
    let there = told_there image r m of.0 holds of.1 kind in
    subst (λ (x : List ℕ). fits_in x ≡ true) (sym of.3)
    (record_fits (entry_in b) (holds.pairs.holds.valid.records (entry_in b).id (entry_in b) there))

all_fit : (image : List ℕ) (r : Registry) (m : Members) (blocks : List (List ℕ)) → Holds image r m
    → AllByRecursion (IsOfEntry (whole image)) blocks → AllByRecursion (λ b. fits_in b ≡ true) blocks
all_fit image r m [] holds of = tt
all_fit image r m (b ∷ blocks) holds of = (fits_at image r m b holds of.0, all_fit image r m blocks holds of.1)

pub page_cause : (bytes : Option (List ℕ)) (blocks : List (List ℕ)) (fault : RecordFault)
    → IfSome bytes (λ image. (r : Registry) (m : Members) → Holds image r m → AllByRecursion (IsOfEntry (whole image)) blocks)
    → IsUnless (AllByRecursion (λ b. fits_in b ≡ true) blocks) fault → HasItsCause bytes fault
page_cause bytes blocks DiskFault of cause = tt
page_cause None blocks (BadRecord at) of cause = tt
page_cause (Some image) blocks (BadRecord at) of cause = λ h. cause (all_fit image h.0 h.1 blocks h.2 (of h.0 h.1 h.2))
page_cause bytes blocks NoMemory of cause = tt

-- ---- one block after the other

-- so many blocks were told
pub record AreTold (blocks : List (List ℕ)) (es : List PtEntry) (done : ℕ) : Type 0 where
  pub told : es ≡ map told_in (take done blocks)
  pub short : AllByRecursion HasShortName es
