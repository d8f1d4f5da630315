-- Whether an entry passes a test: what is known of the list of all entries.
use Rattle.std.proofs.Common.{◌≡◌, ◌≢◌, ℕ, ℤ, zero, suc, pos, ◌+ℤ◌, Bool, true, false, ◌||◌, List, [], ◌∷◌, Option, Some, None, refl, sym, ap, ◌∙◌, ⊎_elim, inl, inr, Decides, arith}
use Rattle.std.specs.Prelude.{◌<ℤ◌, ◌≤ℤ◌, ◌⊎◌, option_to_list}
use Rattle.std.specs.List.{flat_map, list_any}
use Rattle.std.specs.Ordering.{int_eq}
use Rattle.std.proofs.lemmas.Bool.Decides.{Decides-int_eq}
use Rattle.std.proofs.lemmas.Int.{ints}
use Rattle.std.proofs.lemmas.List.Folds.{list_any-append}
use Rattle.prdb_layout.specs.Registry.{Registry, IsRegistry}
use Rattle.prdb_layout.specs.State.{PrEntry}
use Rattle.entry_scans.specs.Pages.{least_id}
use Rattle.pt_service.specs.State.{entries, entries_from, numbers_from}
use Rattle.pt_looks.proofs.Pairs.{entry_range, is_there}

abbrev there : Registry → ℤ → List PrEntry
there r = λ id. option_to_list (r.entry id)

-- ---- none does

one_none : (test : PrEntry → Bool) (o : Option PrEntry) → ((f : PrEntry) → o ≡ Some f → test f ≡ false)
    → list_any test (option_to_list o) ≡ false
one_none test None fails = refl
one_none test (Some f) fails = ap (λ (b : Bool). b || false) (fails f refl)

none_in : (test : PrEntry → Bool) (r : Registry) (xs : List ℤ) → ((id : ℤ) (f : PrEntry) → r.entry id ≡ Some f → test f ≡ false)
    → list_any test (flat_map (there r) xs) ≡ false
none_in test r [] fails = refl
none_in test r (x ∷ xs) fails =
    list_any-append test (there r x) (flat_map (there r) xs)
    ∙ ap (λ (b : Bool). b || list_any test (flat_map (there r) xs)) (one_none test (r.entry x) (fails x))
    ∙ none_in test r xs fails

none_from : (test : PrEntry → Bool) (r : Registry) (first : ℤ) (count : ℕ) → ((id : ℤ) (f : PrEntry) → r.entry id ≡ Some f → test f ≡ false)
    → list_any test (entries_from first count r) ≡ false
unfolding entries_from
none_from test r first count fails = none_in test r (numbers_from first count) fails

pub any_none : (r : Registry) (test : PrEntry → Bool) → ((id : ℤ) (f : PrEntry) → r.entry id ≡ Some f → test f ≡ false)
    → list_any test (entries r) ≡ false
any_none r test fails = none_from test r least_id 4294967295 fails

-- ---- one does

one_some : (test : PrEntry → Bool) (o : Option PrEntry) (f : PrEntry) → o ≡ Some f → test f ≡ true → list_any test (option_to_list o) ≡ true
one_some test o f at met = ap (λ (x : Option PrEntry). list_any test (option_to_list x)) at ∙ ap (λ (b : Bool). b || false) met

or_first : (a b : Bool) → a ≡ true → (a || b) ≡ true
or_first true b is = refl
or_first false b is = absurd cc

or_second : (a b : Bool) → b ≡ true → (a || b) ≡ true
or_second true b is = refl
or_second false b is = is

nothing_between : (a b : ℤ) → a ≤ℤ b → b <ℤ (a +ℤ pos 0) → ⊥
nothing_between a b from below = omega (arith, ints)

next_up : (a b : ℤ) → a ≤ℤ b → a ≢ b → (a +ℤ pos 1) ≤ℤ b
next_up a b most other = grind (arith, ints)

below_next : (a b : ℤ) (n : ℕ) → b <ℤ (a +ℤ pos (suc n)) → b <ℤ ((a +ℤ pos 1) +ℤ pos n)
below_next a b n below = omega (arith, ints)

by_test : (b : Bool) (P : Type 0) → Decides b P → P ⊎ (P → ⊥)
by_test true P d = inl (d.0 refl)
by_test false P d = inr (λ p. let is = d.1 p in absurd cc)

pub cases_id : (a b : ℤ) → (a ≡ b) ⊎ (a ≢ b)
cases_id a b = by_test (int_eq a b) (a ≡ b) (Decides-int_eq a b)

some_up : (test : PrEntry → Bool) (r : Registry) (f : PrEntry) (n : ℕ) (a : ℤ) → a ≤ℤ f.id → f.id <ℤ (a +ℤ pos n) → r.entry f.id ≡ Some f
    → test f ≡ true
    → list_any test (flat_map (there r) (numbers_from a n)) ≡ true
unfolding numbers_from
some_up test r f zero a from below at met = absurd (nothing_between a f.id from below)
some_up test r f (suc n) a from below at met =
    let rest = list_any test (flat_map (there r) (numbers_from (a +ℤ pos 1) n)) in
    list_any-append test (there r a) (flat_map (there r) (numbers_from (a +ℤ pos 1) n))
    ∙ ⊎_elim
    (λ (same : a ≡ f.id). or_first (list_any test (there r a)) rest (one_some test (r.entry a) f (ap r.entry same ∙ at) met))
    (λ (other : a ≢ f.id).
    or_second (list_any test (there r a)) rest
    (some_up test r f n (a +ℤ pos 1) (next_up a f.id from other) (below_next a f.id n below) at met))
    (cases_id a f.id)

some_from : (test : PrEntry → Bool) (r : Registry) (f : PrEntry) (first : ℤ) (count : ℕ) → first ≤ℤ f.id → f.id <ℤ (first +ℤ pos count)
    → r.entry f.id ≡ Some f
    → test f ≡ true → list_any test (entries_from first count r) ≡ true
unfolding entries_from
some_from test r f first count from below at met = some_up test r f count first from below at met

pub any_some : (r : Registry) (test : PrEntry → Bool) (f : PrEntry) → IsRegistry r → r.entry f.id ≡ Some f → test f ≡ true
    → list_any test (entries r) ≡ true
any_some r test f valid at met =
    let range = entry_range r f.id valid (is_there (r.entry f.id) f at) in
    some_from test r f least_id 4294967295 range.0 range.1 at met

-- ---- which one does

pub record IsPassing (r : Registry) (test : PrEntry → Bool) : Type 0 where
  pub id : ℤ
  pub entry : PrEntry
  pub there : r.entry id ≡ Some entry
  pub met : test entry ≡ true

which_one : (test : PrEntry → Bool) (r : Registry) (x : ℤ) (f : PrEntry) → r.entry x ≡ Some f → (b : Bool) → test f ≡ b → (rest : Bool)
    → (rest ≡ true → IsPassing r test) → ((b || false) || rest) ≡ true → IsPassing r test
which_one test r x f at true met rest later is = record { id = x; entry = f; there = at; met = met }
which_one test r x f at false met rest later is = later is

which_by : (test : PrEntry → Bool) (r : Registry) (x : ℤ) (o : Option PrEntry) → r.entry x ≡ o → (rest : Bool)
    → (rest ≡ true → IsPassing r test) → (list_any test (option_to_list o) || rest) ≡ true → IsPassing r test
which_by test r x None at rest later is = later is
which_by test r x (Some f) at rest later is = which_one test r x f at (test f) refl rest later is

which_in : (test : PrEntry → Bool) (r : Registry) (xs : List ℤ) → list_any test (flat_map (there r) xs) ≡ true → IsPassing r test
which_in test r [] is = absurd cc
which_in test r (x ∷ xs) is =
    which_by test r x (r.entry x) refl (list_any test (flat_map (there r) xs)) (which_in test r xs)
    (sym (list_any-append test (there r x) (flat_map (there r) xs)) ∙ is)

which_from : (test : PrEntry → Bool) (r : Registry) (first : ℤ) (count : ℕ) → list_any test (entries_from first count r) ≡ true
    → IsPassing r test
unfolding entries_from
which_from test r first count is = which_in test r (numbers_from first count) is

pub any_which : (r : Registry) (test : PrEntry → Bool) → list_any test (entries r) ≡ true → IsPassing r test
any_which r test is = which_from test r least_id 4294967295 is
