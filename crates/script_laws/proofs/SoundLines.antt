-- Where no fault of a disk is told of a line, no choice in it matters: a step in which a disk fails or stops tells of it, and so does
-- an opening in which one fails.
use Rattle.std.proofs.Common.{Bool, true, false, cond, ◌≡◌, ℕ, zero, suc, ◌+◌, ◌-◌, ◌<◌, ◌==◌, ◌&&◌, nat_lt, nat_le, List, [], ◌∷◌, ◌++◌, length}
use Rattle.std.proofs.Common.{refl, sym, ap, subst, ◌∙◌, arith}
use Rattle.std.proofs.lemmas.Bool.Decides.{nat_tests}
use Rattle.std.specs.List.{AllByRecursion}
use Rattle.std.specs.Prelude.{Option, Some, None, Result, Ok, Err, IfOk, map, drop, set}
use Rattle.db_image.specs.Database.{Database}
use Rattle.cell_model.specs.declared.events.NodeEvent.{NodeEvent}
use Rattle.cell_model.specs.declared.events.NodeEvent.TheVariants as event
use Rattle.cell_model.specs.Node.{Node, Down, Halted, Up, Server}
use Rattle.cell_model.specs.Book.{clock_at}
use Rattle.cell_model.specs.Durable.{Made}
use Rattle.cell_model.specs.NodeRule.{refusals, step_of}
use Rattle.cell_model.specs.World.{Site, World, Trigger, Beacon_turn, Recover_turn, Asking, Delivery, Fault, Stop, Restart, Halts, Happened, member}
use Rattle.cell_model.specs.World.{site_of, occasion, seen_from, first_seen, stop_at, fault_at, restart_at, happened_at, happens_at, triggered}
use Rattle.cell_model.specs.World.{happens}
use Rattle.ubik_types.specs.declared.versions.Version.{Version}
use Rattle.cell_script.specs.Meaning.{line_of}
use Rattle.cell_script.specs.declared.lines.Line.{Line}
use Rattle.cell_script.specs.declared.lines.Line.TheVariants as line
use Rattle.cell_script.specs.declared.lines.Why.{Why}
use Rattle.cell_script.specs.declared.lines.Why.TheVariants as why
use Rattle.cell_runs.specs.declared.limits.TheConstants.{MAX_LINES}
use Rattle.cell_runs.specs.declared.endings.Ending.{Ending}
use Rattle.cell_runs.specs.declared.endings.Ending.TheVariants.{Limit}
use Rattle.cell_runs.specs.declared.endings.Which.TheVariants.{Lines}
use Rattle.cell_runs.specs.Script.{Armed, Choice, Choices, IsHeard, sound, choice_of, first_choice, Cell, Cell_run, Stage, Line_run, Run_or_why, DiskOutcome, Fails_after}
use Rattle.cell_runs.specs.Script.{Serves, Stops_after, armed_at, calls_on_all, or_stops, outcome_up, served_or_stops, stops_in}
use Rattle.cell_runs.specs.Script.{outcome_at, outcome_of, node_in, place_in, bytes_of, within, stepped_so, stepped, delivered}
use Rattle.cell_runs.specs.Script.{first_waiting, joined_run, unless_ended, all_delivered, at_up, at_down, is_down_at, with_event, cell_size_of}
use Rattle.cell_runs.specs.Script.{run_in, asked, asked_in, in_stage, fails_at, opened_cell, kind_of_cell, run_first, run_standing, line_run}
use Rattle.cell_runs.specs.Script.{meaning_run, or_refused, next_line, line_result}
use Rattle.cell_runs.specs.ScriptDatabase.{ScriptDatabase, Databases}
use Rattle.cell_runs.specs.Trace.{TraceItem, Tells, Shows, fault_count}
use Rattle.script_laws.specs.Sound.{HasNoFault}
use Rattle.script_laws.proofs.LineRuns.{between}
use Rattle.script_laws.proofs.Sites.{HasSites, MayHaveSites, site_at}

-- ---- counts

count-append : (k : ℕ) (xs ys : List TraceItem) → fault_count k (xs ++ ys) ≡ fault_count k xs + fault_count k ys
count-append k [] ys = omega arith
count-append k (Tells h ∷ xs) ys = omega (arith, count-append k xs ys)
count-append k (Shows server clock showing ∷ xs) ys = count-append k xs ys

pub front_free : (xs ys : List TraceItem) → HasNoFault (xs ++ ys) → HasNoFault xs
front_free xs ys free = λ k. omega (arith, free k, count-append k xs ys)

pub back_free : (xs ys : List TraceItem) → HasNoFault (xs ++ ys) → HasNoFault ys
back_free xs ys free = λ k. omega (arith, free k, count-append k xs ys)

its_own : (k n : ℕ) → cond (k == k) 1 0 + n ≡ suc n
its_own k n = grind (arith, nat_tests)

-- ---- a step

-- a site whose server is up
found : (o : Option Site) (s : Server) → node_in o ≡ Up s → (site : Site) × (o ≡ Some site) × (site.node ≡ Up s)
found None s is = let never : Down ≡ Up s = is in absurd (cc)
found (Some site) s is = (site, refl, is)

-- what is told of an event at a server, and how often that it failed
abbrev faults_in : ℕ → ℕ → Happened → ℕ
faults_in k bytes h = fault_count k (within bytes h.seen).items

refused_halt : (k number bytes : ℕ) (e : NodeEvent)
    → fault_count k (within bytes (seen_from k number (refusals e) ++ Halts k ∷ [])).items ≡ 1
refused_halt k number bytes (event.Packet p) = its_own k 0
refused_halt k number bytes event.BeaconTurn = its_own k 0
refused_halt k number bytes event.RecoverTurn = its_own k 0
refused_halt k number bytes (event.Ask id call) = omega (arith, its_own k 0)

module _ (db : Database) (w : World) (trigger : Trigger) (k : ℕ) (e : NodeEvent) (s : Server) (brought : occasion w trigger ≡ Some (k, e))
    (up : node_in (site_of w k) ≡ Up s) (short : List Bool) (made bytes : ℕ) where
  fault_told : faults_in k bytes (happens db w (Fault trigger short made)) ≡ 1
  fault_told =
      let at = found (site_of w k) s up in
      ap (λ (o : Option (ℕ × NodeEvent)). faults_in k bytes (triggered w (λ m e site. fault_at db m e short made site site.node) o)) brought
      ∙ ap (λ (o : Option Site). faults_in k bytes (happens_at w k (λ site. fault_at db (member w k) e short made site site.node) o)) at.1
      ∙ ap (λ (node : Node). faults_in k bytes (happened_at w k (fault_at db (member w k) e short made at.0 node))) at.2
      ∙ refused_halt k (length w.packets + 1) bytes e

  stop_told : faults_in k bytes (happens db w (Stop trigger short made)) ≡ 1
  stop_told =
      let at = found (site_of w k) s up in
      ap (λ (o : Option (ℕ × NodeEvent)). faults_in k bytes (triggered w (λ m e site. stop_at db m e short made site site.node) o)) brought
      ∙ ap (λ (o : Option Site). faults_in k bytes (happens_at w k (λ site. stop_at db (member w k) e short made site site.node) o)) at.1
      ∙ ap (λ (node : Node). faults_in k bytes (happened_at w k (stop_at db (member w k) e short made at.0 node))) at.2
      ∙ its_own k 0

-- a server that stays down in its opening
restart_told : (db : Database) (w : World) (k bytes : ℕ) (site : Site) → site_of w k ≡ Some site
    → faults_in k bytes (happens db w (Restart k true)) ≡ 1
restart_told db w k bytes site there =
    ap (λ (o : Option Site). faults_in k bytes (happens_at w k (restart_at (length w.hosts) k true) o)) there ∙ its_own k 0

-- ---- choices in which memory is found

pub first_heard : (choices : List Choice) → AllByRecursion IsHeard choices → IsHeard (choice_of choices)
first_heard [] heard = refl
first_heard (choice ∷ choices) heard = heard.0

pub later_heard : (choices : List Choice) → AllByRecursion IsHeard choices → AllByRecursion IsHeard (drop 1 choices)
later_heard [] heard = tt
later_heard (choice ∷ choices) heard = heard.1

module _ (script_db : ScriptDatabase) where
  module _ (c : Cell) (trigger : Trigger) where
    abbrev FreeStep : ℕ → List Bool → DiskOutcome → Type 0
    FreeStep k short outcome = HasNoFault (stepped_so script_db c trigger k short outcome).items

    -- a disk that does not fail, and does not stop, serves the step; so it does where it is sound
    up_same : (k : ℕ) (choice : Choice) (version : Version) (calls_with : List Bool → List Made) (armed : Option Armed)
        → choice.short ≡ []
        → ((short : List Bool) (made : ℕ) → FreeStep k choice.short (Fails_after short made) → ⊥)
        → ((short : List Bool) (made : ℕ) → FreeStep k choice.short (Stops_after short made) → ⊥)
        → FreeStep k choice.short (outcome_up choice version calls_with armed)
        → outcome_up sound version calls_with armed ≡ outcome_up choice version calls_with armed
    up_same k choice version calls_with armed heard fault stop free = by choice.fails refl
      where
        serves : (o : Option ℕ) → stops_in version (calls_with choice.short) armed ≡ o → FreeStep k choice.short (served_or_stops choice version calls_with armed)
            → o ≡ None
        serves None at free = refl
        serves (Some n) at free =
            let made : ℕ = cond choice.took (n + 1) n in
            absurd (stop choice.short made (subst (λ (o : Option ℕ). FreeStep k choice.short
            (or_stops (Serves (calls_on_all version (calls_with choice.short))) choice.short choice.took o)) at free))

        unstopped : (o : Option ℕ) → stops_in version (calls_with choice.unheard) armed ≡ o
            → FreeStep k choice.short (or_stops (served_or_stops choice version calls_with armed) choice.unheard choice.took o)
            → outcome_up sound version calls_with armed ≡ or_stops (served_or_stops choice version calls_with armed) choice.unheard choice.took o
        unstopped (Some n) at free = absurd (stop choice.unheard (cond choice.took (n + 1) n) free)
        unstopped None at free =
            let none : stops_in version (calls_with choice.short) armed ≡ None =
            serves (stops_in version (calls_with choice.short) armed) refl free in
            let at_sound : stops_in version (calls_with []) armed ≡ None =
            ap (λ (l : List Bool). stops_in version (calls_with l) armed) (sym heard) ∙ none in
            ap (or_stops (served_or_stops sound version calls_with armed) [] false) at_sound
            ∙ ap (or_stops (Serves (calls_on_all version (calls_with []))) [] false) at_sound
            ∙ ap (λ (l : List Bool). Serves (calls_on_all version (calls_with l))) (sym heard)
            ∙ ap (or_stops (Serves (calls_on_all version (calls_with choice.short))) choice.short choice.took) (sym none)

        by : (fails : Bool) → choice.fails ≡ fails → outcome_up sound version calls_with armed ≡ outcome_up choice version calls_with armed
        by true at =
            absurd (fault choice.unheard choice.made (subst (λ (b : Bool). FreeStep k choice.short (cond b
            (Fails_after choice.unheard choice.made) (or_stops (served_or_stops choice version calls_with armed) choice.unheard choice.took (stops_in version (calls_with choice.unheard) armed))))
            at free))
        by false at =
            unstopped (stops_in version (calls_with choice.unheard) armed) refl
            (subst (λ (b : Bool). FreeStep k choice.short (cond b (Fails_after choice.unheard choice.made)
            (or_stops (served_or_stops choice version calls_with armed) choice.unheard choice.took (stops_in version (calls_with choice.unheard) armed)))) at free)
            ∙ ap (λ (b : Bool). cond b (Fails_after choice.unheard choice.made)
            (or_stops (served_or_stops choice version calls_with armed) choice.unheard choice.took (stops_in version (calls_with choice.unheard) armed))) (sym at)

    node_same : (choice : Choice) (k : ℕ) (e : NodeEvent) (node : Node) → choice.short ≡ [] → occasion c.run.world trigger ≡ Some (k, e)
        → node_in (site_of c.run.world k) ≡ node
        → FreeStep k choice.short (outcome_at script_db.database c.run.world choice c.armed (k, e) node)
        → outcome_at script_db.database c.run.world sound c.armed (k, e) node
        ≡ outcome_at script_db.database c.run.world choice c.armed (k, e) node
    node_same choice k e Down heard brought at free = refl
    node_same choice k e (Halted h) heard brought at free = refl
    node_same choice k e (Up s) heard brought at free =
        let bytes : ℕ = bytes_of c.run.world.packets in
        up_same k choice s.version
        (λ short. (step_of script_db.database (member c.run.world k) s (clock_at c.run.world k) e short).calls) (armed_at c.armed k) heard
        (λ short made free. omega (arith, free k, fault_told script_db.database c.run.world trigger k e s brought at short made bytes))
        (λ short made free. omega (arith, free k, stop_told script_db.database c.run.world trigger k e s brought at short made bytes)) free

    outcome_same : (choice : Choice) (o : Option (ℕ × NodeEvent)) → choice.short ≡ [] → occasion c.run.world trigger ≡ o
        → FreeStep (place_in o) choice.short (outcome_of script_db.database c.run.world choice c.armed o)
        → outcome_of script_db.database c.run.world sound c.armed o ≡ outcome_of script_db.database c.run.world choice c.armed o
    outcome_same choice None heard brought free = refl
    outcome_same choice (Some o) heard brought free = node_same choice o.0 o.1 (node_in (site_of c.run.world o.0)) heard brought refl free

    step_same : (choice : Choice) → IsHeard choice → HasNoFault (stepped script_db c choice trigger).items
        → stepped script_db c sound trigger ≡ stepped script_db c choice trigger
    step_same choice heard free =
        ap (stepped_so script_db c trigger (place_in (occasion c.run.world trigger)) [])
        (outcome_same choice (occasion c.run.world trigger) heard refl free)
        ∙ ap (λ (short : List Bool). stepped_so script_db c trigger (place_in (occasion c.run.world trigger)) short
        (outcome_of script_db.database c.run.world choice c.armed (occasion c.run.world trigger))) (sym heard)

  deliver_same : (c : Cell) (choice : Choice) (number : ℕ) → IsHeard choice → HasNoFault (delivered script_db c choice number).items
      → delivered script_db c sound number ≡ delivered script_db c choice number
  deliver_same c choice number heard free = step_same (record c { handed = set c.handed (number - 1) true }) (Delivery number) choice heard free

  -- ---- deliveries

  first_free : (r next : Cell_run) (o : Option Ending) → HasNoFault (unless_ended r o next).items → HasNoFault r.items
  first_free r next None free = front_free r.items next.items free
  first_free r next (Some ending) free = free

  next_same : (r a b : Cell_run) (o : Option Ending) → (HasNoFault b.items → a ≡ b) → HasNoFault (unless_ended r o b).items
      → unless_ended r o a ≡ unless_ended r o b
  next_same r a b None same free = ap (joined_run r.items) (same (back_free r.items b.items free))
  next_same r a b (Some ending) same free = refl

  all_same : (most : ℕ) (c : Cell) (choices : List Choice) (o : Option ℕ) → AllByRecursion IsHeard choices
      → HasNoFault (all_delivered script_db most c choices o).items
      → all_delivered script_db most c [] o ≡ all_delivered script_db most c choices o
  all_same zero c choices None heard free = refl
  all_same zero c choices (Some number) heard free = refl
  all_same (suc most) c choices None heard free = refl
  all_same (suc most) c choices (Some number) heard free =
      let r : Cell_run = delivered script_db c (choice_of choices) number in
      let next = all_delivered script_db most r.cell (drop 1 choices) (first_waiting 1 r.cell.handed) in
      ap (λ (x : Cell_run). unless_ended x x.ending (all_delivered script_db most x.cell [] (first_waiting 1 x.cell.handed)))
      (deliver_same c (choice_of choices) number (first_heard choices heard) (first_free r next r.ending free))
      ∙ next_same r (all_delivered script_db most r.cell [] (first_waiting 1 r.cell.handed)) next r.ending
      (all_same most r.cell (drop 1 choices) (first_waiting 1 r.cell.handed) (later_heard choices heard)) free

-- ---- lines

-- the same line where every disk is sound, and memory is found
abbrev pub quieted : Choices → Choices
quieted choices = record { each = []; most = choices.most }

abbrev FreeRun : Run_or_why → Type 0
FreeRun r = IfOk r (λ (run : Cell_run). HasNoFault run.items)

if_same : (b : Bool) (x y z : Run_or_why) → (FreeRun y → x ≡ y) → FreeRun (cond b y z) → cond b x z ≡ cond b y z
if_same true x y z same free = same free
if_same false x y z same free = refl

unless_same : (b : Bool) (x y z : Run_or_why) → (FreeRun y → x ≡ y) → FreeRun (cond b z y) → cond b z x ≡ cond b z y
unless_same true x y z same free = refl
unless_same false x y z same free = same free

-- the same where the test is known
taken_same : (b : Bool) (x y z : Run_or_why) → (b ≡ true → FreeRun y → x ≡ y) → FreeRun (cond b y z) → cond b x z ≡ cond b y z
taken_same true x y z same free = same refl free
taken_same false x y z same free = refl

module _ (script_db : ScriptDatabase) (c : Cell) (has : HasSites c) where
  at_up_same : (number : ℕ) (f g : ℕ → Cell_run) → ((k : ℕ) → HasNoFault (g k).items → f k ≡ g k) → FreeRun (at_up c number g)
      → at_up c number f ≡ at_up c number g
  at_up_same number f g same free =
      if_same (nat_lt 0 number && nat_le number (cell_size_of c)) _ _ (Err why.Server)
      (unless_same (is_down_at c (number - 1)) (Ok (f (number - 1))) (Ok (g (number - 1))) (Err why.State)
      (λ free. ap Ok (same (number - 1) free))) free

  turn_same : (number : ℕ) (choice : Choice) (trigger : ℕ → Trigger) → IsHeard choice
      → FreeRun (at_up c number (λ k. stepped script_db c choice (trigger k)))
      → at_up c number (λ k. stepped script_db c sound (trigger k)) ≡ at_up c number (λ k. stepped script_db c choice (trigger k))
  turn_same number choice trigger heard free =
      at_up_same number (λ k. stepped script_db c sound (trigger k)) (λ k. stepped script_db c choice (trigger k))
      (λ k free. step_same script_db c (trigger k) choice heard free) free

  at_down_same : (number : ℕ) (f g : ℕ → Cell_run) → ((k : ℕ) → k < cell_size_of c → HasNoFault (g k).items → f k ≡ g k)
      → FreeRun (at_down c number g) → at_down c number f ≡ at_down c number g
  at_down_same number f g same free =
      taken_same (nat_lt 0 number && nat_le number (cell_size_of c)) _ _ (Err why.Server)
      (λ there. let place = between number (cell_size_of c) there in
      if_same (is_down_at c (number - 1)) (Ok (f (number - 1))) (Ok (g (number - 1))) (Err why.State)
      (λ free. ap Ok (same (number - 1) (omega (arith, place.0, place.1)) free))) free

  opening_same : (k : ℕ) (fails : Bool) → k < cell_size_of c → HasNoFault (with_event script_db c (Restart k fails)).items
      → with_event script_db c (Restart k false) ≡ with_event script_db c (Restart k fails)
  opening_same k true inside free =
      let w = c.run.world in
      let at = site_at w k has inside in
      absurd (omega (arith, free k, restart_told script_db.database w k (bytes_of w.packets) at.0 at.1))
  opening_same k false inside free = refl

  run_same : (choices : Choices) (l : Line) → AllByRecursion IsHeard choices.each → FreeRun (run_in script_db c choices l)
      → run_in script_db c (quieted choices) l ≡ run_in script_db c choices l
  run_same choices (line.Tick server seconds) heard free = refl
  run_same choices (line.TickAll seconds) heard free = refl
  run_same choices (line.Beacon server) heard free = turn_same server (first_choice choices) Beacon_turn (first_heard choices.each heard) free
  run_same choices (line.Recover server) heard free = turn_same server (first_choice choices) Recover_turn (first_heard choices.each heard) free
  run_same choices (line.Deliver packet) heard free =
      if_same (nat_lt 0 packet && nat_le packet (length c.run.world.packets)) _ _ (Err why.Packet)
      (λ free. ap Ok (deliver_same script_db c (first_choice choices) packet (first_heard choices.each heard) free)) free
  run_same choices (line.Drop packet) heard free = refl
  run_same choices (line.DropAll server) heard free = refl
  run_same choices line.DeliverAll heard free =
      ap Ok (all_same script_db choices.most c choices.each (first_waiting 1 c.handed) heard free)
  run_same choices (line.Stop server calls f) heard free = refl
  run_same choices (line.Crash server) heard free = refl
  run_same choices (line.Restart server) heard free =
      at_down_same server (λ k. with_event script_db c (Restart k false))
      (λ k. with_event script_db c (Restart k (first_choice choices).fails))
      (λ k inside free. opening_same k (first_choice choices).fails inside free) free
  run_same choices (line.Show server) heard free = refl
  run_same choices (line.Cell count clock k) heard free = refl
  run_same choices line.Nothing heard free = refl
  run_same choices (line.Ask server words) heard free = refl

  ask_same : (choice : Choice) (id : ℕ) (words : List (List ℕ)) (server : Option ℕ) (call : Option (List ℕ)) → IsHeard choice
      → FreeRun (asked_in script_db c choice id words server call)
      → asked_in script_db c sound id words server call ≡ asked_in script_db c choice id words server call
  ask_same choice id words server None heard free = refl
  ask_same choice id words None (Some call) heard free = refl
  ask_same choice id words (Some number) (Some call) heard free = turn_same number choice (λ k. Asking k id call) heard free

-- ---- openings

fails_same : (n server : ℕ) (choices : List Choice) → HasNoFault (map Tells (first_seen server (fails_at n choices)))
    → fails_at n [] ≡ fails_at n choices
fails_same zero server choices free = refl
fails_same (suc n) server choices free =
    by (choice_of choices).fails (fails_at n (drop 1 choices)) (fails_same n (server + 1) (drop 1 choices)) free
  where
    by : (failed : Bool) (more : List Bool) → (HasNoFault (map Tells (first_seen (server + 1) more)) → fails_at n [] ≡ more)
        → HasNoFault (map Tells (first_seen server (failed ∷ more))) → false ∷ fails_at n [] ≡ failed ∷ more
    by true more same free = absurd (omega (
      arith,
      free server,
      its_own server
          (fault_count server (map Tells (first_seen (server + 1) more))),
    ))
    by false more same free = ap (λ (l : List Bool). false ∷ l) (same free)

-- ---- a line of a script

abbrev pub FreeLine : {E : Type 0} → Result Line_run E → Type 0
FreeLine r = IfOk r (λ (run : Line_run). HasNoFault run.items)

first_same : (st : Stage) (choices : Choices) (l : Line) → FreeLine (run_first st choices l)
    → run_first st (quieted choices) l ≡ run_first st choices l
first_same st choices line.Nothing free = refl
first_same st choices (line.Cell servers clock k) free =
    ap (λ (failed : List Bool). Ok (record {
      stage = record st { cell = Some (opened_cell servers clock k failed) };
      items = map Tells (first_seen 0 failed);
      ending = None;
    })) (fails_same servers 0 choices.each free)
first_same st choices (line.Ask None words) free = refl
first_same st choices (line.Ask (Some server) words) free = refl
first_same st choices (line.Tick server seconds) free = refl
first_same st choices (line.TickAll seconds) free = refl
first_same st choices (line.Beacon server) free = refl
first_same st choices (line.Recover server) free = refl
first_same st choices (line.Deliver packet) free = refl
first_same st choices (line.Drop packet) free = refl
first_same st choices (line.DropAll server) free = refl
first_same st choices line.DeliverAll free = refl
first_same st choices (line.Stop server calls f) free = refl
first_same st choices (line.Crash server) free = refl
first_same st choices (line.Restart server) free = refl
first_same st choices (line.Show server) free = refl

in_same : (st : Stage) (x y : Run_or_why) → (FreeRun y → x ≡ y) → FreeLine (in_stage st y) → in_stage st x ≡ in_stage st y
in_same st x (Err w) same free = ap (in_stage st) (same tt)
in_same st x (Ok r) same free = ap (in_stage st) (same free)

module _ (dbs : Databases) where
  other_same : (st : Stage) (choices : Choices) (c : Cell) (l : Line) → HasSites c → AllByRecursion IsHeard choices.each
      → FreeLine (in_stage st (run_in (dbs (kind_of_cell c)) c choices l))
      → in_stage st (run_in (dbs (kind_of_cell c)) c (quieted choices) l) ≡ in_stage st (run_in (dbs (kind_of_cell c)) c choices l)
  other_same st choices c l has heard free =
      in_same st (run_in (dbs (kind_of_cell c)) c (quieted choices) l) (run_in (dbs (kind_of_cell c)) c choices l)
      (run_same (dbs (kind_of_cell c)) c has choices l heard) free

  standing_same : (st : Stage) (choices : Choices) (c : Cell) (l : Line) → HasSites c → AllByRecursion IsHeard choices.each
      → FreeLine (run_standing dbs st choices c l) → run_standing dbs st (quieted choices) c l ≡ run_standing dbs st choices c l
  standing_same st choices c (line.Ask server words) has heard free =
      let script_db = dbs (kind_of_cell c) in
      in_same (record st { asks = st.asks + 1 }) (asked script_db c sound (st.asks + 1) words server)
      (asked script_db c (first_choice choices) (st.asks + 1) words server)
      (ask_same script_db c has (first_choice choices) (st.asks + 1) words server (script_db.words.call_of words) (first_heard choices.each heard)) free
  standing_same st choices c line.Nothing has heard free = refl
  standing_same st choices c (line.Cell count clock k) has heard free = refl
  standing_same st choices c (line.Tick server seconds) has heard free = refl
  standing_same st choices c (line.TickAll seconds) has heard free = refl
  standing_same st choices c (line.Beacon server) has heard free = other_same st choices c (line.Beacon server) has heard free
  standing_same st choices c (line.Recover server) has heard free = other_same st choices c (line.Recover server) has heard free
  standing_same st choices c (line.Deliver packet) has heard free = other_same st choices c (line.Deliver packet) has heard free
  standing_same st choices c (line.Drop packet) has heard free = refl
  standing_same st choices c (line.DropAll server) has heard free = refl
  standing_same st choices c line.DeliverAll has heard free = other_same st choices c line.DeliverAll has heard free
  standing_same st choices c (line.Stop server calls f) has heard free = refl
  standing_same st choices c (line.Crash server) has heard free = refl
  standing_same st choices c (line.Restart server) has heard free = other_same st choices c (line.Restart server) has heard free
  standing_same st choices c (line.Show server) has heard free = refl

  any_same : (st : Stage) (choices : Choices) (l : Line) (cell : Option Cell) → MayHaveSites cell → AllByRecursion IsHeard choices.each
      → FreeLine (line_run dbs st choices l cell) → line_run dbs st (quieted choices) l cell ≡ line_run dbs st choices l cell
  any_same st choices l None has heard free = first_same st choices l free
  any_same st choices l (Some c) has heard free = standing_same st choices c l has heard free

  meant_same : (st : Stage) (choices : Choices) (meaning : Result Line Why) → MayHaveSites st.cell → AllByRecursion IsHeard choices.each
      → FreeLine (meaning_run dbs st choices meaning) → meaning_run dbs st (quieted choices) meaning ≡ meaning_run dbs st choices meaning
  meant_same st choices (Err w) has heard free = refl
  meant_same st choices (Ok l) has heard free = any_same st choices l st.cell has heard free

  refused_free : (r : Result Line_run Why) → FreeLine (or_refused r) → FreeLine r
  refused_free (Ok run) free = free
  refused_free (Err w) free = tt

  unless_past : (past : Bool) (x y : Result Line_run Why) → (FreeLine y → x ≡ y)
      → FreeLine (cond {A = Result Line_run Ending} past (Err (Limit Lines)) (or_refused y))
      → cond {A = Result Line_run Ending} past (Err (Limit Lines)) (or_refused x) ≡ cond past (Err (Limit Lines)) (or_refused y)
  unless_past true x y same free = refl
  unless_past false x y same free = ap or_refused (same (refused_free y free))

  -- a line of which no fault is told is the same where every disk is sound
  pub result_same : (st : Stage) (bytes : List ℕ) (choices : Choices) → MayHaveSites st.cell → AllByRecursion IsHeard choices.each
      → FreeLine (line_result dbs st (record { line = bytes; choices = choices }))
      → line_result dbs st (record { line = bytes; choices = quieted choices }) ≡ line_result dbs st (record { line = bytes; choices = choices })
  result_same st bytes choices has heard free =
      let meaning = line_of bytes in
      unless_past (nat_le MAX_LINES st.lines) (meaning_run dbs (next_line st) (quieted choices) meaning) (meaning_run dbs (next_line st) choices meaning)
      (meant_same (next_line st) choices meaning has heard) free
