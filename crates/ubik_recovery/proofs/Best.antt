-- The greatest answered version, and the lowest server that answered it.
use Rattle.std.proofs.Common.{◌≡◌, ℕ, ◌+◌, ◌<◌, ◌≤◌, Bool, true, false, cond, Option, Some, None, is_some, List, [], ◌∷◌, length, drop, map, get_or, refl, ap, sym, ◌∙◌, inl, inr, ⊎_elim, ◌⊎◌, arith}
use Rattle.std.proofs.lemmas.Bool.Decides.{nat_tests}
use Rattle.std.proofs.lemmas.List.{drop_more, at_drop_all}
use Rattle.ubik_types.specs.declared.versions.Version.{Version}
use Rattle.ubik_types.specs.Quorum.{size}
use Rattle.ubik_types.specs.Version.{version_lt, version_eq, zero_version}
use Rattle.cell_model.specs.Polls.{best_version, first_with, is_answer}
use Rattle.ubik_recovery.specs.Record.{later_answer}

best_version-cons : (best : Version) (answer : Option Version) (answers : List (Option Version)) → best_version best (answer ∷ answers) ≡ best_version (later_answer best answer) answers
best_version-cons best None answers = refl
best_version-cons best (Some v) answers = refl

-- one more answer is looked at
pub best-step : (all : List (Option Version)) (best next : Version) (i : ℕ) → i < length all → next ≡ later_answer best (get_or all i None) → best_version best (drop i all) ≡ best_version next (drop (i + 1) all)
best-step all best next i inside is =
    ap (λ (among : List (Option Version)). best_version best among) (drop_more all i None inside)
    ∙ best_version-cons best (get_or all i None) (drop (i + 1) all)
    ∙ ap (λ (v : Version). best_version v (drop (i + 1) all)) (sym is)

pub best-end : (all : List (Option Version)) (best : Version) (i : ℕ) → length all ≤ i → best_version best (drop i all) ≡ best
best-end all best i past = at_drop_all (λ (among : List (Option Version)). best_version best among) all i past

-- the answer that is looked at is another one
pub first-step : (all : List (Option Version)) (v : Version) (i : ℕ) → i < length all → is_answer v (get_or all i None) ≡ false → first_with v (drop i all) ≡ first_with v (drop (i + 1) all) + 1
first-step all v i inside other =
    let more = ap (λ (among : List (Option Version)). first_with v among) (drop_more all i None inside) in
    let is_next : first_with v (get_or all i None ∷ drop (i + 1) all) ≡ first_with v (drop (i + 1) all) + 1 = rw other in
    more ∙ is_next

pub first-here : (all : List (Option Version)) (v : Version) (i : ℕ) → i < length all → is_answer v (get_or all i None) ≡ true → first_with v (drop i all) ≡ 0
first-here all v i inside here =
    let more = ap (λ (among : List (Option Version)). first_with v among) (drop_more all i None inside) in
    let is_here : first_with v (get_or all i None ∷ drop (i + 1) all) ≡ 0 = rw here in
    more ∙ is_here

pub first-end : (all : List (Option Version)) (v : Version) (i : ℕ) → length all ≤ i → first_with v (drop i all) ≡ 0
first-end all v i past = at_drop_all (λ (among : List (Option Version)). first_with v among) all i past

same_version : (v : Version) → version_eq v v ≡ true
same_version v = grind (arith, nat_tests)

-- of those from the first on, one more
first_with-cons : (v : Version) (answer : Option Version) (answers : List (Option Version)) → first_with v answers < length answers → first_with v (answer ∷ answers) < length (answer ∷ answers)
first_with-cons v answer answers inside = by_test (is_answer v answer)
  where
    by_test : (test : Bool) → cond test 0 (first_with v answers + 1) < length (answer ∷ answers)
    by_test true = omega arith
    by_test false = omega arith

first_with-head : (v w : Version) (answers : List (Option Version)) → v ≡ w → first_with v (Some w ∷ answers) < length (Some w ∷ answers)
first_with-head v w answers e =
    let here : is_answer v (Some w) ≡ true = rw e (same_version w) in
    rw here (omega arith)

-- the best version is an answered one, or the one that the search began with
best-stands : (best : Version) (answers : List (Option Version)) → (first_with (best_version best answers) answers < length answers) ⊎ (best_version best answers ≡ best)
best-stands best [] = inr refl
best-stands best (None ∷ answers) =
    ⊎_elim
    (λ (inside : first_with (best_version best answers) answers < length answers). inl (first_with-cons (best_version best answers) None answers inside))
    (λ (same : best_version best answers ≡ best). inr same)
    (best-stands best answers)
best-stands best (Some v ∷ answers) = by_test (version_lt best v) (best-stands v answers) (best-stands best answers)
  where
    by_test : (test : Bool) → (first_with (best_version v answers) answers < length answers) ⊎ (best_version v answers ≡ v) → (first_with (best_version best answers) answers < length answers) ⊎ (best_version best answers ≡ best) → (first_with (best_version (cond test v best) answers) (Some v ∷ answers) < length (Some v ∷ answers)) ⊎ (best_version (cond test v best) answers ≡ best)
    by_test true later same =
        ⊎_elim
        (λ (inside : first_with (best_version v answers) answers < length answers). inl (first_with-cons (best_version v answers) (Some v) answers inside))
        (λ (is : best_version v answers ≡ v). inl (first_with-head (best_version v answers) v answers is))
        later
    by_test false later same =
        ⊎_elim
        (λ (inside : first_with (best_version best answers) answers < length answers). inl (first_with-cons (best_version best answers) (Some v) answers inside))
        (λ (is : best_version best answers ≡ best). inr is)
        same

-- each answered version is 0.0
abbrev AllZero : List (Option Version) → Type 0
AllZero [] = Unit {0}
AllZero (None ∷ answers) = AllZero answers
AllZero (Some v ∷ answers) = (v ≡ zero_version) × AllZero answers

none-below_zero : (v : Version) → version_lt v zero_version ≡ true → ⊥
none-below_zero v test = grind (arith, nat_tests)

version-of : (epoch counter epoch' counter' : ℕ) → epoch ≡ epoch' → counter ≡ counter' → (let v : Version = record { epoch = epoch; counter = counter } in v ≡ record { epoch = epoch'; counter = counter' })
version-of epoch counter epoch' counter' same_epoch same_counter = cc

zero-where_none_below : (v : Version) → version_lt zero_version v ≡ false → v ≡ zero_version
zero-where_none_below v test =
    let epoch : v.epoch ≡ 0 = grind (arith, nat_tests) in
    let counter : v.counter ≡ 0 = grind (arith, nat_tests) in
    version-of v.epoch v.counter 0 0 epoch counter

-- where the best version is 0.0, each is
best-zero : (best : Version) (answers : List (Option Version)) → best_version best answers ≡ zero_version → (best ≡ zero_version) × AllZero answers
best-zero best [] is = (is, tt)
best-zero best (None ∷ answers) is = best-zero best answers is
best-zero best (Some v ∷ answers) is = by_test (version_lt best v) refl (best-zero v answers) (best-zero best answers) is
  where
    by_test : (test : Bool) → version_lt best v ≡ test → (best_version v answers ≡ zero_version → (v ≡ zero_version) × AllZero answers) → (best_version best answers ≡ zero_version → (best ≡ zero_version) × AllZero answers) → best_version (cond test v best) answers ≡ zero_version → (best ≡ zero_version) × ((v ≡ zero_version) × AllZero answers)
    by_test true e later same is_zero = absurd (none-below_zero best (rw (later is_zero).0 at e))
    by_test false e later same is_zero =
        let rest = same is_zero in
        (rest.0, (zero-where_none_below v (rw rest.0 at e), rest.1))

first-of_zeros : (answers : List (Option Version)) → AllZero answers → 0 < size (map is_some answers) → first_with zero_version answers < length answers
first-of_zeros [] zeros some = absurd (omega arith)
first-of_zeros (None ∷ answers) zeros some =
    first_with-cons zero_version None answers (first-of_zeros answers zeros some)
first-of_zeros (Some v ∷ answers) zeros some = first_with-head zero_version v answers (sym zeros.0)

-- where somebody answered, the best version is one that a server answered
pub best-is_answered : (answers : List (Option Version)) → 0 < size (map is_some answers) → first_with (best_version zero_version answers) answers < length answers
best-is_answered answers some =
    ⊎_elim
    (λ (inside : first_with (best_version zero_version answers) answers < length answers). inside)
    (λ (same : best_version zero_version answers ≡ zero_version).
    (let zeros = best-zero zero_version answers same in
    rw same (first-of_zeros answers zeros.1 some)))
    (best-stands zero_version answers)
