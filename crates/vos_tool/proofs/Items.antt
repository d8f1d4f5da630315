-- Items, worked through one after the other, where nothing is written.
use Rattle.std.proofs.Common.{◌≡◌, ℕ, ◌+◌, ◌<◌, ◌≤◌, List, [], ◌∷◌, length, get_or, drop, Result, Ok, Err, refl, sym, ap, ◌∙◌, subst}
use Rattle.std.specs.Prelude.{IsErrAnd}
use Rattle.std.proofs.lemmas.List.{at_drop_more, drop_all}
use Rattle.io_base.specs.declared.links.Exchange.{Exchange}
use Rattle.tool_base.specs.Course.{◌>>=◌, Asker, Course}
use Rattle.tool_base.specs.Running.{Led, Ran}
use Rattle.tool_base.specs.declared.stops.Stop.{Stop}
use Rattle.vos_tool.specs.Each.{each}
use Rattle.tool_base.proofs.Walking.{led_gave, led_on, led_ran, ran_err, ran_gave, ran_led, ran_stops}

at_item : {X : Type 0} (do_one : X → Course (Unit {0})) (xs : List X) (i : ℕ) (x : X) (first : Course (Unit {0})) (s s1 : Asker)
    (e0 e : List Exchange)
    → i < length xs → x ≡ get_or xs i x → Led first s e0 [] (each do_one (drop i xs)) s1 e
    → Led first s e0 [] (do_one x >>= λ (done : Unit {0}). each do_one (drop (i + 1) xs)) s1 e
at_item {X = X} do_one xs i x first s s1 e0 e low is led =
    let there : drop i xs ≡ x ∷ drop (i + 1) xs
    = at_drop_more (λ (ys : List X). ys) xs i x low ∙ ap (λ (y : X). y ∷ drop (i + 1) xs) (sym is) in
    subst (λ (ys : List X). Led first s e0 [] (each do_one ys) s1 e) there led

pub each_next : {X : Type 0} (do_one : X → Course (Unit {0})) (xs : List X) (i : ℕ) (x : X) (first : Course (Unit {0})) (s s1 s2 : Asker)
    (e0 e e1 : List Exchange)
    → i < length xs → x ≡ get_or xs i x → Led first s e0 [] (each do_one (drop i xs)) s1 e → Ran (do_one x) s1 s2 e e1 (Ok tt)
    → Led first s e0 [] (each do_one (drop (i + 1) xs)) s2 e1
each_next {X = X} do_one xs i x first s s1 s2 e0 e e1 low is led ran =
    let f : Unit {0} → Course (Unit {0}) = λ (done : Unit {0}). each do_one (drop (i + 1) xs) in
    led_on (at_item do_one xs i x first s s1 e0 e low is led) (led_gave tt f (ran_led tt refl ran))

pub each_stops : {X : Type 0} (do_one : X → Course (Unit {0})) (xs : List X) (i : ℕ) (x : X) (first : Course (Unit {0}))
    (s s1 s2 : Asker) (e0 e e1 : List Exchange) (why : Stop)
    (r : Result (Unit {0}) Stop) → i < length xs → x ≡ get_or xs i x → Led first s e0 [] (each do_one (drop i xs)) s1 e
    → Ran (do_one x) s1 s2 e e1 (Err why)
    → IsErrAnd r (λ (y : Stop). y ≡ why) → Ran first s s2 e0 e1 r
each_stops {X = X} do_one xs i x first s s1 s2 e0 e e1 why r low is led ran end =
    let f : Unit {0} → Course (Unit {0}) = λ (done : Unit {0}). each do_one (drop (i + 1) xs) in
    ran_err why r end (led_ran (at_item do_one xs i x first s s1 e0 e low is led) (ran_stops f why refl ran))

pub each_all : {X : Type 0} (do_one : X → Course (Unit {0})) (xs : List X) (i : ℕ) (first : Course (Unit {0})) (s s1 : Asker)
    (e0 e : List Exchange)
    → length xs ≤ i → Led first s e0 [] (each do_one (drop i xs)) s1 e → Ran first s s1 e0 e (Ok tt)
each_all {X = X} do_one xs i first s s1 e0 e high led =
    ran_gave tt (subst (λ (ys : List X). Led first s e0 [] (each do_one ys) s1 e) (drop_all i xs high) led)
