-- A cell that is opened server by server.
use Rattle.std.proofs.Common.{if◌then◌else◌, ◌≡◌, ◌<◌, ◌≤◌, ◌+◌, ◌++◌, ℕ, Bool, true, false, List, [], ◌∷◌, length, map, refl, sym, ap, subst, ◌∙◌, arith}
use Rattle.std.specs.List.{AllByRecursion}
use Rattle.std.specs.Prelude.{◌==◌}
use Rattle.std.proofs.lemmas.Bool.{eq-eqb, ne_eqb}
use Rattle.std.proofs.lemmas.List.{map-append}
use Rattle.cell_model.specs.World.{Stays_down, first_seen}
use Rattle.cell_runs.specs.Script.{Choice, IsHeard, fails_at, sound}
use Rattle.cell_runs.specs.Trace.{TraceItem, Tells, Shows, fault_count}
use Rattle.cell_sites.specs.Disks.{Held, AreRises}
use Rattle.cell_sites.specs.Opened.{opening_items}

-- ---- what is told of an opening

pub seen_more : (k : ℕ) (failed : List Bool) (fails : Bool)
    → first_seen k (failed ++ fails ∷ []) ≡ first_seen k failed ++ first_seen (k + length failed) (fails ∷ [])
seen_more k [] fails = ap (λ (n : ℕ). first_seen n (fails ∷ [])) (omega arith)
seen_more k (true ∷ failed) fails =
    ap (λ (l : List _). Stays_down k ∷ l)
    (seen_more (k + 1) failed fails ∙ ap (λ (n : ℕ). first_seen (k + 1) failed ++ first_seen n (fails ∷ [])) (omega arith))
seen_more k (false ∷ failed) fails =
    seen_more (k + 1) failed fails ∙ ap (λ (n : ℕ). first_seen (k + 1) failed ++ first_seen n (fails ∷ [])) (omega arith)

pub items_more : (failed : List Bool) (fails : Bool)
    → opening_items (failed ++ fails ∷ []) ≡ opening_items failed ++ map Tells (first_seen (length failed) (fails ∷ []))
items_more failed fails =
    ap (map Tells) (seen_more 0 failed fails)
    ∙ map-append Tells (first_seen 0 failed) (first_seen (0 + length failed) (fails ∷ []))
    ∙ ap (λ (n : ℕ). opening_items failed ++ map Tells (first_seen n (fails ∷ []))) (omega arith)

pub count_append : (k : ℕ) (items more : List TraceItem) → fault_count k (items ++ more) ≡ fault_count k items + fault_count k more
count_append k [] more = omega arith
count_append k (Tells h ∷ items) more = let rest = count_append k items more in omega (arith, rest)
count_append k (Shows server clock showing ∷ items) more = count_append k items more

-- one where it is so
abbrev of : Bool → ℕ
of b = if b then 1 else 0

-- nothing is told of the servers below the first, and of those behind the last
count_below : (j k : ℕ) (failed : List Bool) → j < k → fault_count j (map Tells (first_seen k failed)) ≡ 0
count_below j k [] less = refl
count_below j k (false ∷ failed) less = count_below j (k + 1) failed (omega arith)
count_below j k (true ∷ failed) less =
    let rest = count_below j (k + 1) failed (omega arith) in
    let one : of (k == j) ≡ 0 = ap of (ne_eqb k j (λ is. absurd (omega (arith, is)))) in
    omega (arith, rest, one)

count_behind : (j k : ℕ) (failed : List Bool) → k + length failed ≤ j → fault_count j (map Tells (first_seen k failed)) ≡ 0
count_behind j k [] past = refl
count_behind j k (false ∷ failed) past = count_behind j (k + 1) failed (omega arith)
count_behind j k (true ∷ failed) past =
    let rest = count_behind j (k + 1) failed (omega arith) in
    let one : of (k == j) ≡ 0 = ap of (ne_eqb k j (λ is. absurd (omega (arith, is)))) in
    omega (arith, rest, one)

count_at : (j k : ℕ) (fails : Bool) → j ≡ k → fault_count j (map Tells (first_seen k (fails ∷ []))) ≡ of fails
count_at j k false is = refl
count_at j k true is =
    let one : of (k == j) ≡ 1 = ap of (eq-eqb k j (sym is)) in
    omega (arith, one)

-- more is told, which is no fault of these servers
rises_push : (k : ℕ) (items more : List TraceItem) (before after : List Held) (x y : Held) → AreRises k items before after
    → ((j : ℕ) → j < k + length before → fault_count j more ≡ 0) → x.faults + fault_count (k + length before) (items ++ more) ≤ y.faults
    → AreRises k (items ++ more) (before ++ x ∷ []) (after ++ y ∷ [])
rises_push k items more [] [] x y are none last =
    let P : ℕ → Type 0 = λ n. x.faults + fault_count n (items ++ more) ≤ y.faults in
    let same : k + 0 ≡ k = omega arith in
    (subst P same last, tt)
rises_push k items more [] (b ∷ after) x y are none last = absurd are
rises_push k items more (a ∷ before) [] x y are none last = absurd are
rises_push k items more (a ∷ before) (b ∷ after) x y are none last =
    let P : ℕ → Type 0 = λ n. x.faults + fault_count n (items ++ more) ≤ y.faults in
    let same : k + length (a ∷ before) ≡ k + 1 + length before = omega arith in
    let sum = count_append k items more in
    let zero_more = none k (omega arith) in (
      omega (arith, are.0, sum, zero_more),
      rises_push (k + 1) items more before after x y are.1 (λ j less. none j (omega (arith, less))) (subst P same last),
    )

-- one more server was opened
pub rises_more : (failed : List Bool) (fails : Bool) (before after : List Held) (x y : Held) → length failed ≡ length before
    → AreRises 0 (opening_items failed) before after → x.faults + of fails ≤ y.faults
    → AreRises 0 (opening_items (failed ++ fails ∷ [])) (before ++ x ∷ []) (after ++ y ∷ [])
rises_more failed fails before after x y same are last =
    let more = map Tells (first_seen (length failed) (fails ∷ [])) in
    let old = count_behind (0 + length before) 0 failed (omega (arith, same)) in
    let new = count_at (0 + length before) (length failed) fails (omega (arith, same)) in
    let sum = count_append (0 + length before) (opening_items failed) more in
    subst (λ (l : List TraceItem). AreRises 0 l (before ++ x ∷ []) (after ++ y ∷ [])) (sym (items_more failed fails))
    (rises_push 0 (opening_items failed) more before after x y are
    (λ j less. count_below j (length failed) (fails ∷ []) (omega (arith, less, same)))
    (omega (arith, last, old, new, sum)))

-- ---- the choices of an opening

pub choices_of : List Bool → List Choice
choices_of [] = []
choices_of (fails ∷ failed) = record sound { fails = fails } ∷ choices_of failed

pub heard : (failed : List Bool) → AllByRecursion IsHeard (choices_of failed)
unfolding choices_of
heard [] = tt
heard (fails ∷ failed) = (refl, heard failed)

pub chosen : (failed : List Bool) → fails_at (length failed) (choices_of failed) ≡ failed
unfolding choices_of
chosen [] = refl
chosen (fails ∷ failed) = ap (λ (l : List Bool). fails ∷ l) (chosen failed)
