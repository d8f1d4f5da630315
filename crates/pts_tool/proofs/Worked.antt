-- Items that are worked through.
use Rattle.std.proofs.Common.{◌≡◌, ℕ, ◌+◌, ◌<◌, suc, add-one, Bool, List, [], ◌∷◌, ◌++◌, map, take, Option, Result, Ok, Err, length, drop, drop-cons, get_or, ap, sym, ◌∙◌, subst}
use Rattle.std.specs.List.{flat_map}
use Rattle.std.proofs.lemmas.List.{flat_map_more, take_more}
use Rattle.io_base.specs.declared.links.Exchange.{Exchange}
use Rattle.tool_base.specs.Course.{◌>>=◌, Asker, Course, says}
use Rattle.tool_base.specs.Ending.{Appended, FrontOf}
use Rattle.tool_base.specs.Running.{Ran, Told, ToldSome, Under}
use Rattle.tool_base.specs.declared.stops.Stop.{Stop}
use Rattle.tool_base.specs.declared.stops.Stop.TheVariants as stop
use Rattle.tool_base.proofs.Working.{text_then, told_part, told_stops, under_next}
use Rattle.pts_tool.specs.Courses.{task_course, works}
use Rattle.pts_tool.specs.Plans.{pairs}
use Rattle.pts_tool.specs.declared.tasks.Task.{Task}
use Rattle.pts_tool.specs.declared.tasks.Task.TheVariants as task

-- an item stands before those behind it
pub item_next : {A : Type 0} (xs : List A) (i : ℕ) (x : A) → i < length xs → x ≡ get_or xs i x → drop i xs ≡ x ∷ drop (i + 1) xs
item_next xs i x lt is = rw add-one (drop-cons xs i x lt ∙ ap (λ y. y ∷ drop (suc i) xs) (sym is))

under_item : (tasks : List Task) (i : ℕ) (x : Task) (first : Course (Unit {0})) (s0 s : Asker) (e0 e : List Exchange)
    (written told : Option (List ℕ))
    → i < length tasks → x ≡ get_or tasks i x → Under first s0 (works (drop i tasks)) s e0 e written told
    → Under first s0 (task_course x >>= text_then (works (drop (i + 1) tasks))) s e0 e written told
under_item tasks i x first s0 s e0 e written told lt is under =
    subst (λ (ts : List Task). Under first s0 (works ts) s e0 e written told) (item_next tasks i x lt is) under

pub item_done : (tasks : List Task) (i : ℕ) (x : Task) (first : Course (Unit {0})) (s0 s s1 : Asker) (e0 e e1 : List Exchange)
    (written told after : Option (List ℕ)) (text : List ℕ)
    → i < length tasks → x ≡ get_or tasks i x → Under first s0 (works (drop i tasks)) s e0 e written told
    → Ran (task_course x) s s1 e e1 (Ok text) → Appended told after text
    → Under first s0 (works (drop (i + 1) tasks)) s1 e0 e1 written after
item_done tasks i x first s0 s s1 e0 e e1 written told after text lt is under ran appended =
    under_next (task_course x) (works (drop (i + 1) tasks)) first s0 s s1 e0 e e1 written told after text
    (under_item tasks i x first s0 s e0 e written told lt is under) ran appended

pub item_stops : (tasks : List Task) (i : ℕ) (x : Task) (first : Course (Unit {0})) (s0 s s1 : Asker) (e0 e e1 : List Exchange)
    (written told : Option (List ℕ)) (why : Stop)
    → i < length tasks → x ≡ get_or tasks i x → Under first s0 (works (drop i tasks)) s e0 e written told
    → Ran (task_course x) s s1 e e1 (Err why) → Told first s0 s1 e0 e1 written told (Err why)
item_stops tasks i x first s0 s s1 e0 e e1 written told why lt is under ran =
    told_stops (task_course x) (works (drop (i + 1) tasks)) first s0 s s1 e0 e e1 written told why
    (under_item tasks i x first s0 s e0 e written told lt is under) ran

pub item_part : (tasks : List Task) (i : ℕ) (x : Task) (first : Course (Unit {0})) (s0 s s1 : Asker) (e0 e e1 : List Exchange)
    (written told after : Option (List ℕ)) (text : List ℕ)
    → i < length tasks → x ≡ get_or tasks i x → Under first s0 (works (drop i tasks)) s e0 e written told
    → Ran (task_course x) s s1 e e1 (Ok text) → FrontOf told after text → Told first s0 s1 e0 e1 written after (Err stop.WriteFault)
item_part tasks i x first s0 s s1 e0 e e1 written told after text lt is under ran part =
    told_part (task_course x) (works (drop (i + 1) tasks)) first s0 s s1 e0 e e1 written told after text
    (under_item tasks i x first s0 s e0 e written told lt is under) ran part

-- a user more, with each group
pub pairs_more : (adds : Bool) (users groups : List (List ℕ)) (i : ℕ) (x : List ℕ) → i < length users → x ≡ get_or users i x
    → pairs adds (take i users) groups ++ map (λ (group : List ℕ). task.Member x group adds) groups ≡ pairs adds (take (i + 1) users) groups
pairs_more adds users groups i x lt is =
    let with : List ℕ → List Task = λ user. map (λ (group : List ℕ). task.Member user group adds) groups in
    let all : take (i + 1) users ≡ take i users ++ x ∷ [] = take_more users i x lt ∙ ap (λ (y : List ℕ). take i users ++ y ∷ []) (sym is) in
    flat_map_more with [] (take i users) x ∙ ap (flat_map with) (sym all)
