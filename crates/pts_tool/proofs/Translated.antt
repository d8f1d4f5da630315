-- Ids whose names are asked, call by call.
use Rattle.std.proofs.Common.{◌≡◌, ℕ, ℤ, ◌+◌, ◌-◌, ◌≤◌, ◌<◌, zero, suc, arith, List, [], ◌∷◌, ◌++◌, length, take, drop, Result, Ok, Err, refl, subst, sym, add-one}
use Rattle.std.specs.Prelude.{IsErrAnd}
use Rattle.io_base.specs.declared.links.Exchange.{Exchange}
use Rattle.pt_calls.specs.declared.calls.PtCall.TheVariants as call
use Rattle.tool_base.specs.Course.{◌>>=◌, Asker, Course, gives}
use Rattle.tool_base.specs.Running.{Led, Ran}
use Rattle.tool_base.specs.declared.stops.Stop.{Stop}
use Rattle.tool_base.specs.declared.stops.Stop.TheVariants as stop
use Rattle.tool_base.proofs.Walking.{led_gave, led_on, led_ran, led_start, ran_err, ran_gave, ran_led, ran_short, ran_stops, ran_then}
use Rattle.pts_tool.specs.Answers.{names_in}
use Rattle.pts_tool.specs.Asking.{asks}
use Rattle.pts_tool.specs.Names.{calls_for, names_by, the_names}

abbrev more : ℕ → List (List ℕ) → List ℤ → List (List ℕ) → Course (List (List ℕ))
more count names ids found = names_by count (names ++ found) (drop 5000 ids)

-- so many calls are left, and one of them is next
one_left : (n i : ℕ) → i < n → n - i ≡ suc (n - (i + 1))
one_left n i lt = omega arith

pub names_start : (ids : List ℤ) (n : ℕ) (names : List (List ℕ)) (s : Asker) (e : List Exchange) → n ≡ calls_for (length ids) → names ≡ []
    → Led (the_names ids) s e [] (names_by (n - 0) names ids) s e
unfolding the_names
names_start ids n names s e count none =
    let same : n - 0 ≡ calls_for (length ids) = omega (arith, count) in
    rw (same, none) (led_start (names_by (calls_for (length ids)) [] ids) s e)

-- the next call is left
next_call : (first : Course (List (List ℕ))) (n i : ℕ) (names : List (List ℕ)) (ids : List ℤ) (s0 s : Asker) (e0 e : List Exchange) → i < n
    → Led first s0 e0 [] (names_by (n - i) names ids) s e
    → Led first s0 e0 [] (asks names_in (call.IdToName (take 5000 ids)) >>= more (n - (i + 1)) names ids) s e
next_call first n i names ids s0 s e0 e lt led =
    subst (λ (k : ℕ). Led first s0 e0 [] (names_by k names ids) s e) (one_left n i lt) led

pub names_next : (first : Course (List (List ℕ))) (n i : ℕ) (names new : List (List ℕ)) (ids now later : List ℤ) (s0 s s1 : Asker)
    (e0 e e1 : List Exchange) (found : List (List ℕ))
    → i < n → now ≡ take 5000 ids → later ≡ drop 5000 ids → new ≡ names ++ found
    → Led first s0 e0 [] (names_by (n - i) names ids) s e → Ran (asks names_in (call.IdToName now)) s s1 e e1 (Ok found)
    → Led first s0 e0 [] (names_by (n - (i + 1)) new later) s1 e1
names_next first n i names new ids now later s0 s s1 e0 e e1 found lt is rest all led ran =
    rw (rest, all) (led_on (next_call first n i names ids s0 s e0 e lt led)
    (led_gave found (more (n - (i + 1)) names ids) (ran_led found refl (rw is at ran))))

pub names_stop : (first : Course (List (List ℕ))) (n i : ℕ) (names : List (List ℕ)) (ids now : List ℤ) (s0 s s1 : Asker)
    (e0 e e1 : List Exchange) (why : Stop) → i < n → now ≡ take 5000 ids
    → Led first s0 e0 [] (names_by (n - i) names ids) s e → Ran (asks names_in (call.IdToName now)) s s1 e e1 (Err why)
    → Ran first s0 s1 e0 e1 (Err why)
names_stop first n i names ids now s0 s s1 e0 e e1 why lt is led ran =
    led_ran (next_call first n i names ids s0 s e0 e lt led) (ran_stops (more (n - (i + 1)) names ids) why refl (rw is at ran))

-- memory ran out behind a call
pub names_short : (first : Course (List (List ℕ))) (n i : ℕ) (names : List (List ℕ)) (ids now : List ℤ) (s0 s s1 : Asker)
    (e0 e e1 : List Exchange) (found : List (List ℕ)) → i < n
    → now ≡ take 5000 ids → Led first s0 e0 [] (names_by (n - i) names ids) s e
    → Ran (asks names_in (call.IdToName now)) s s1 e e1 (Ok found)
    → Ran first s0 s1 e0 e1 (Err stop.NoMemory)
names_short first n i names ids now s0 s s1 e0 e e1 found lt is led ran =
    led_ran (names_next first n i names (names ++ found) ids now (drop 5000 ids) s0 s s1 e0 e e1 found lt is refl refl led ran)
    (ran_short (names_by (n - (i + 1)) (names ++ found) (drop 5000 ids)) s1 e1)

pub names_all : (first : Course (List (List ℕ))) (n i : ℕ) (names : List (List ℕ)) (ids : List ℤ) (s0 s : Asker) (e0 e : List Exchange)
    → n ≤ i
    → Led first s0 e0 [] (names_by (n - i) names ids) s e → Ran first s0 s e0 e (Ok names)
names_all first n i names ids s0 s e0 e le led =
    let none : n - i ≡ zero = omega arith in
    ran_gave names (subst (λ (k : ℕ). Led first s0 e0 [] (names_by k names ids) s e) none led)
