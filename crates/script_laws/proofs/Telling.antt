-- What any lines tell is what is seen of a run of the world.
use Rattle.std.proofs.Common.{Bool, true, false, cond, ◌≡◌, ◌⊎◌, inl, inr, ℕ, zero, suc, ◌+◌, ◌≤◌, List, [], ◌∷◌, ◌++◌, length, refl, sym, ap, subst}
use Rattle.std.proofs.Common.{◌∙◌, append_assoc, arith}
use Rattle.std.proofs.lemmas.Grind.{flat_map-append}
use Rattle.std.proofs.lemmas.List.{append-nil}
use Rattle.std.proofs.lemmas.List.Elements.{All-nil, All-append}
use Rattle.std.specs.Prelude.{Option, Some, None, Result, Ok, Err, IfOk, map, drop, nat_le}
use Rattle.ubik_types.specs.declared.hosts.Host.{Host}
use Rattle.ubik_types.specs.declared.limits.TheConstants.{MAXSERVERS}
use Rattle.ubik_types.specs.Hosts.{IsCell, IsAscending}
use Rattle.ubik_types.specs.Moment.{IsMoment}
use Rattle.db_image.specs.Database.{Database}
use Rattle.cell_model.specs.Book.{Run, first_run, run_through}
use Rattle.cell_places.specs.Places.{PacketsHavePlaces}
use Rattle.cell_model.specs.World.{World, Event, Happening, IsFirst, IsRun, first_world, first_seen, seen_of, world_after}
use Rattle.cell_script.specs.declared.lines.Kind.{Kind}
use Rattle.cell_script.specs.declared.lines.Line.{Line}
use Rattle.cell_script.specs.declared.lines.Line.TheVariants as line
use Rattle.cell_script.specs.declared.lines.Why.{Why}
use Rattle.cell_script.specs.Meaning.{HasBounds, line_of}
use Rattle.cell_runs.specs.declared.limits.TheConstants.{MAX_LINES}
use Rattle.cell_runs.specs.declared.endings.Ending.{Ending}
use Rattle.cell_runs.specs.Script.{Choice, Choices, LineRead, Opening, Cell, Cell_run, Stage, Line_run, Run_or_why, ScriptEnd, Told, hosts_from, hosts_of}
use Rattle.cell_runs.specs.Script.{fails_at, first_choice, opened_cell, kind_of_cell, next_line, in_stage, asked, run_in}
use Rattle.cell_runs.specs.Script.{run_first, run_standing, line_run, meaning_run, or_refused, line_result, first_told, end_text, ended_at, told_with}
use Rattle.cell_runs.specs.Script.{told_after, told_from, told}
use Rattle.cell_runs.specs.ScriptDatabase.{ScriptDatabase, Databases}
use Rattle.cell_runs.specs.Trace.{TraceItem, Tells, trace, item_text}
use Rattle.script_laws.specs.CellRuns.{Fits}
use Rattle.script_laws.specs.Runs.{NamesCalls, database_of, first_of, happenings_of, passes_packets, IsScripted, IsRunOf, IsRunOfCell, ScriptsAreRuns}
use Rattle.script_laws.proofs.LineFacts.{line_bounds, ticks_on}
use Rattle.script_laws.proofs.LineRuns.{line_part, ask_part}
use Rattle.script_laws.proofs.Parts.{IsPart, ends_by_packets, happenings-append, run-append, world_of_run, legal-append, seen-append}
use Rattle.script_laws.proofs.Worlds.{first_fits}

-- ---- the opening

pub length-hosts : (k n : ℕ) → length (hosts_from k n) ≡ n
length-hosts k zero = refl
length-hosts k (suc n) = ap suc (length-hosts (k + 1) n)

rising : (k n : ℕ) → IsAscending (hosts_from k n)
rising k zero = tt
rising k (suc zero) = tt
rising k (suc (suc n)) = (omega arith, rising (k + 1) (suc n))

pub is_cell : (n : ℕ) → 1 ≤ n → n ≤ MAXSERVERS → IsCell (hosts_of n)
is_cell n some few = record { some = omega (arith, length-hosts 0 n); not_more = omega (arith, length-hosts 0 n); ascending = rising 0 n }

pub length-fails : (n : ℕ) (choices : List Choice) → length (fails_at n choices) ≡ n
length-fails zero choices = refl
length-fails (suc n) choices = ap suc (length-fails n (drop 1 choices))

happenings-told : (seen : List Happening) → happenings_of (map Tells seen) ≡ seen
happenings-told [] = refl
happenings-told (h ∷ seen) = ap (λ (l : List Happening). h ∷ l) (happenings-told seen)

-- ---- what a line is

-- a line that leaves a cell
abbrev pub ran : Stage → Cell → List TraceItem → Option Ending → Line_run
ran st c items ending = record { stage = record st { cell = Some c }; items = items; ending = ending }

-- no cell stands after it
pub record Rests (run : Line_run) : Type 0 where
  pub stage : Stage
  pub none : stage.cell ≡ None
  pub is : run ≡ record { stage = stage; items = []; ending = None }

-- it opens a cell
pub record Opens (run : Line_run) : Type 0 where
  pub stage : Stage
  pub servers : ℕ
  pub clock : ℕ
  pub kind : Kind
  pub failed : List Bool
  pub is : run ≡ ran stage (opened_cell servers clock kind failed) (map Tells (first_seen 0 failed)) None
  pub cell : IsCell (hosts_of servers)
  pub moment : IsMoment clock
  pub each : length failed ≡ servers

-- it goes on with the run of a cell
pub record GoesOn (dbs : Databases) (c : Cell) (run : Line_run) : Type 0 where
  pub stage : Stage
  pub r : Cell_run
  pub is : run ≡ ran stage r.cell r.items r.ending
  pub part : IsPart (Unit {0}) (dbs (kind_of_cell c)) stage.asks c.opening c.events c.run r

abbrev pub IsLine : Databases → Option Cell → Line_run → Type 0
IsLine dbs None run = Rests run ⊎ Opens run
IsLine dbs (Some c) run = GoesOn dbs c run

-- a cell after lines in which so many calls were asked
abbrev pub CellFits : ℕ → Option Cell → Type 0
CellFits asks None = Unit {0}
CellFits asks (Some c) = Fits asks c.run.world × (length c.handed ≡ length c.run.world.packets)

first_line : (dbs : Databases) (st : Stage) (choices : Choices) (l : Line) → st.cell ≡ None → HasBounds l
    → IfOk (run_first st choices l) (IsLine dbs None)
first_line dbs st choices line.Nothing none bounds = inl (record { stage = st; none = none; is = refl })
first_line dbs st choices (line.Cell servers clock k) none bounds = inr (record {
  stage = st;
  servers = servers;
  clock = clock;
  kind = k;
  failed = fails_at servers choices.each;
  is = refl;
  cell = is_cell servers bounds.0 bounds.1;
  moment = bounds.2;
  each = length-fails servers choices.each;
})
first_line dbs st choices (line.Ask None words) none bounds = tt
first_line dbs st choices (line.Ask (Some server) words) none bounds = tt
first_line dbs st choices (line.Tick server seconds) none bounds = tt
first_line dbs st choices (line.TickAll seconds) none bounds = tt
first_line dbs st choices (line.Beacon server) none bounds = tt
first_line dbs st choices (line.Recover server) none bounds = tt
first_line dbs st choices (line.Deliver packet) none bounds = tt
first_line dbs st choices (line.Drop packet) none bounds = tt
first_line dbs st choices (line.DropAll server) none bounds = tt
first_line dbs st choices line.DeliverAll none bounds = tt
first_line dbs st choices (line.Stop server calls f) none bounds = tt
first_line dbs st choices (line.Crash server) none bounds = tt
first_line dbs st choices (line.Restart server) none bounds = tt
first_line dbs st choices (line.Show server) none bounds = tt

goes_on : (dbs : Databases) (c : Cell) (st : Stage) (r : Run_or_why)
    → IfOk r (IsPart (Unit {0}) (dbs (kind_of_cell c)) st.asks c.opening c.events c.run) → IfOk (in_stage st r) (GoesOn dbs c)
goes_on dbs c st (Err w) part = tt
goes_on dbs c st (Ok r) part = record { stage = st; r = r; is = refl; part = part }

module _ (law : PacketsHavePlaces) (dbs : Databases) (names : NamesCalls dbs) where
  other_line : (st : Stage) (choices : Choices) (c : Cell) (l : Line) → Fits st.asks c.run.world
      → length c.handed ≡ length c.run.world.packets → HasBounds l
      → IfOk (in_stage st (run_in (dbs (kind_of_cell c)) c choices l)) (GoesOn dbs c)
  other_line st choices c l fits each bounds =
      goes_on dbs c st (run_in (dbs (kind_of_cell c)) c choices l)
      (line_part (Unit {0}) law (dbs (kind_of_cell c)) st.asks c fits each choices l (ticks_on l bounds))

  standing_line : (st : Stage) (choices : Choices) (c : Cell) (l : Line) → Fits st.asks c.run.world
      → length c.handed ≡ length c.run.world.packets → HasBounds l
      → IfOk (run_standing dbs st choices c l) (GoesOn dbs c)
  standing_line st choices c (line.Ask server words) fits each bounds =
      goes_on dbs c (record st { asks = st.asks + 1 }) (asked (dbs (kind_of_cell c)) c (first_choice choices) (st.asks + 1) words server)
      (ask_part (Unit {0}) law (dbs (kind_of_cell c)) st.asks c fits each (λ _. names (kind_of_cell c)) (first_choice choices) words server)
  standing_line st choices c line.Nothing fits each bounds = other_line st choices c line.Nothing fits each bounds
  standing_line st choices c (line.Cell servers clock k) fits each bounds =
      other_line st choices c (line.Cell servers clock k) fits each bounds
  standing_line st choices c (line.Tick server seconds) fits each bounds = other_line st choices c (line.Tick server seconds) fits each bounds
  standing_line st choices c (line.TickAll seconds) fits each bounds = other_line st choices c (line.TickAll seconds) fits each bounds
  standing_line st choices c (line.Beacon server) fits each bounds = other_line st choices c (line.Beacon server) fits each bounds
  standing_line st choices c (line.Recover server) fits each bounds = other_line st choices c (line.Recover server) fits each bounds
  standing_line st choices c (line.Deliver packet) fits each bounds = other_line st choices c (line.Deliver packet) fits each bounds
  standing_line st choices c (line.Drop packet) fits each bounds = other_line st choices c (line.Drop packet) fits each bounds
  standing_line st choices c (line.DropAll server) fits each bounds = other_line st choices c (line.DropAll server) fits each bounds
  standing_line st choices c line.DeliverAll fits each bounds = other_line st choices c line.DeliverAll fits each bounds
  standing_line st choices c (line.Stop server calls f) fits each bounds = other_line st choices c (line.Stop server calls f) fits each bounds
  standing_line st choices c (line.Crash server) fits each bounds = other_line st choices c (line.Crash server) fits each bounds
  standing_line st choices c (line.Restart server) fits each bounds = other_line st choices c (line.Restart server) fits each bounds
  standing_line st choices c (line.Show server) fits each bounds = other_line st choices c (line.Show server) fits each bounds

  any_line : (st : Stage) (choices : Choices) (l : Line) (cell : Option Cell) → st.cell ≡ cell → CellFits st.asks cell
      → HasBounds l → IfOk (line_run dbs st choices l cell) (IsLine dbs cell)
  any_line st choices l None is fits bounds = first_line dbs st choices l is bounds
  any_line st choices l (Some c) is fits bounds = standing_line st choices c l fits.0 fits.1 bounds

  refused_line : (cell : Option Cell) (r : Result Line_run Why) → IfOk r (IsLine dbs cell) → IfOk (or_refused r) (IsLine dbs cell)
  refused_line cell (Ok run) is = is
  refused_line cell (Err w) is = tt

  meant_line : (st : Stage) (choices : Choices) (meaning : Result Line Why) → CellFits st.asks st.cell
      → IfOk meaning HasBounds → IfOk (meaning_run dbs st choices meaning) (IsLine dbs st.cell)
  meant_line st choices (Err w) fits bounds = tt
  meant_line st choices (Ok l) fits bounds = any_line st choices l st.cell refl fits bounds

  if_line : (cell : Option Cell) (b : Bool) (x y : Result Line_run Ending) → IfOk x (IsLine dbs cell) → IfOk y (IsLine dbs cell)
      → IfOk (cond b x y) (IsLine dbs cell)
  if_line cell true x y first second = first
  if_line cell false x y first second = second

  pub result_line : (st : Stage) (r : LineRead) → CellFits st.asks st.cell → IfOk (line_result dbs st r) (IsLine dbs st.cell)
  result_line st r fits =
      if_line st.cell (nat_le MAX_LINES st.lines) _ _ tt
      (refused_line st.cell (meaning_run dbs (next_line st) r.choices (line_of r.line))
      (meant_line (next_line st) r.choices (line_of r.line) fits (line_bounds r.line)))

-- ---- what is told

-- so far a run was told
record IsSoFar (dbs : Databases) (t : Told) (c : Cell) : Type 0 where
  pub run : IsRunOf dbs t c
  pub fits : Fits t.stage.asks c.run.world
  pub handed : length c.handed ≡ length c.run.world.packets

abbrev SoFar : Databases → Told → Option Cell → Type 0
SoFar dbs t None = (t.items ≡ []) × (t.text ≡ end_text t.ended)
SoFar dbs t (Some c) = IsSoFar dbs t c

fits_so_far : (dbs : Databases) (t : Told) (cell : Option Cell) → SoFar dbs t cell → CellFits t.stage.asks cell
fits_so_far dbs t None so = tt
fits_so_far dbs t (Some c) so = (so.fits, so.handed)

-- while the script goes on
going_text : (ended : Option ScriptEnd) → ended ≡ None → end_text ended ≡ []
going_text ended goes = ap end_text goes

halts_by : (n : ℕ) (ending : Option Ending) → passes_packets (ended_at n ending) ≡ ends_by_packets ending
halts_by n None = refl
halts_by n (Some ending) = refl

-- the script ends before this line is run
ended_line : (dbs : Databases) (t : Told) (ending : Ending) (cell : Option Cell) → t.ended ≡ None → SoFar dbs t cell
    → SoFar dbs (told_with dbs t (Err ending)) cell
ended_line dbs t ending None goes so =
    (so.0, ap (λ (text : List ℕ). text ++ end_text (ended_at (t.stage.lines + 1) (Some ending))) (so.1 ∙ going_text t.ended goes))
ended_line dbs t ending (Some c) goes so =
    let last = end_text (ended_at (t.stage.lines + 1) (Some ending)) in
    let items = trace (dbs (kind_of_cell c)) c.run.world.hosts t.items in
    record {
      run = record {
        hosts = so.run.hosts;
        first = so.run.first;
        run = so.run.run;
        scripted = so.run.scripted;
        legal = so.run.legal;
        seen = record { back = so.run.seen.back; split = so.run.seen.split; whole = λ _. so.run.seen.whole (ap passes_packets goes) };
        text =
            ap (λ (text : List ℕ). text ++ last)
            (so.run.text ∙ ap (λ (l : List ℕ). items ++ l) (going_text t.ended goes) ∙ append-nil items);
      };
      fits = so.fits;
      handed = so.handed;
    }

trace-append : (script_db : ScriptDatabase) (hosts : List Host) (items more : List TraceItem)
    → trace script_db hosts (items ++ more) ≡ trace script_db hosts items ++ trace script_db hosts more
trace-append script_db hosts items more = flat_map-append (item_text script_db hosts) items more

opened_line : PacketsHavePlaces → (dbs : Databases) (t : Told) (run : Line_run) → t.ended ≡ None → SoFar dbs t None → Opens run
    → SoFar dbs (told_with dbs t (Ok run)) run.stage.cell
opened_line law dbs t run goes so is =
    subst (λ (x : Line_run). SoFar dbs (told_with dbs t (Ok x)) x.stage.cell) (sym is.is) (record {
      run = record {
        hosts = ap hosts_of (sym is.each);
        first = record { cell = is.cell; moment = is.moment; each = each };
        run = refl;
        scripted = All-nil (IsScripted (database_of dbs c));
        legal = tt;
        seen = record {
          back = [];
          split =
              append-nil (first_seen 0 is.failed) ∙ sym (happenings-told (first_seen 0 is.failed))
              ∙ ap happenings_of (sym items) ∙ sym (append-nil (happenings_of (t.items ++ map Tells (first_seen 0 is.failed))));
          whole = λ _. refl;
        };
        text =
            ap (λ (text : List ℕ). text ++ trace (dbs is.kind) (hosts_of is.servers) (map Tells (first_seen 0 is.failed)) ++ [])
            (so.1 ∙ going_text t.ended goes)
            ∙ ap (λ (l : List TraceItem). trace (dbs is.kind) (hosts_of is.servers) l ++ []) (sym items);
      };
      fits = first_fits law (hosts_of is.servers) is.stage.asks is.clock is.failed each;
      handed = refl;
    })
  where
    c : Cell
    c = opened_cell is.servers is.clock is.kind is.failed

    each : length is.failed ≡ length (hosts_of is.servers)
    each = is.each ∙ sym (length-hosts 0 is.servers)

    items : t.items ++ map Tells (first_seen 0 is.failed) ≡ map Tells (first_seen 0 is.failed)
    items = ap (λ (l : List TraceItem). l ++ map Tells (first_seen 0 is.failed)) so.0

-- ---- a line that goes on with a run

module _ (dbs : Databases) (t : Told) (c : Cell) (stage : Stage) (r : Cell_run) (goes : t.ended ≡ None) (so : IsSoFar dbs t c)
    (part : IsPart (Unit {0}) (dbs (kind_of_cell c)) stage.asks c.opening c.events c.run r) where
  abbrev db : Database
  db = database_of dbs c

  -- the cell after the line
  abbrev after : Cell
  after = record r.cell { opening = c.opening; events = c.events ++ part.events; run = run_through db c.run part.events }

  same_cell : r.cell ≡ after
  same_cell =
      ap (λ (o : Opening). record r.cell { opening = o }) part.opening_is
      ∙ ap (λ (l : List Event). record r.cell { opening = c.opening; events = l }) part.brought
      ∙ ap (λ (x : Run). record r.cell { opening = c.opening; events = c.events ++ part.events; run = x }) part.run_is

  same_hosts : after.run.world.hosts ≡ c.run.world.hosts
  same_hosts = sym (ap (λ (x : Run). x.world.hosts) part.run_is) ∙ part.hosts

  same_first : first_of c ≡ first_of after
  same_first = ap (λ (hosts : List Host). first_world hosts c.opening.clock c.opening.failed) (sym same_hosts)

  world_before : c.run.world ≡ world_after db (first_of c) c.events
  world_before = ap (λ (x : Run). x.world) so.run.run ∙ world_of_run db (first_run (first_of c)) c.events

  -- what was seen before, and what is seen in the line
  told_before : first_seen 0 c.opening.failed ++ seen_of db (first_of c) c.events ≡ happenings_of t.items
  told_before =
      so.run.seen.split ∙ ap (λ (back : List Happening). happenings_of t.items ++ back) (so.run.seen.whole (ap passes_packets goes))
      ∙ append-nil (happenings_of t.items)

  seen_split : first_seen 0 c.opening.failed ++ seen_of db (first_of after) (c.events ++ part.events)
      ≡ happenings_of (t.items ++ r.items) ++ part.back
  seen_split =
      ap (λ (w : World). first_seen 0 c.opening.failed ++ seen_of db w (c.events ++ part.events)) (sym same_first)
      ∙ ap (λ (l : List Happening). first_seen 0 c.opening.failed ++ l) (seen-append db (first_of c) c.events part.events)
      ∙ ap (λ (w : World). first_seen 0 c.opening.failed ++ (seen_of db (first_of c) c.events ++ seen_of db w part.events))
      (sym world_before)
      ∙ sym (append_assoc (first_seen 0 c.opening.failed) (seen_of db (first_of c) c.events) (seen_of db c.run.world part.events))
      ∙ ap (λ (l : List Happening). l ++ seen_of db c.run.world part.events) told_before
      ∙ ap (λ (l : List Happening). happenings_of t.items ++ l) part.seen
      ∙ sym (append_assoc (happenings_of t.items) (happenings_of r.items) part.back)
      ∙ ap (λ (l : List Happening). l ++ part.back) (sym (happenings-append t.items r.items))

  text_split : (last : List ℕ)
      → t.text ++ trace (dbs (kind_of_cell c)) after.run.world.hosts r.items ++ last ≡ trace (dbs (kind_of_cell c)) after.run.world.hosts
      (t.items ++ r.items) ++ last
  text_split last =
      let tells : List Host → List TraceItem → List ℕ = λ hosts items. trace (dbs (kind_of_cell c)) hosts items in
      let before = tells c.run.world.hosts t.items in
      ap (λ (text : List ℕ). (text ++ tells after.run.world.hosts r.items) ++ last)
      (so.run.text ∙ ap (λ (l : List ℕ). before ++ l) (going_text t.ended goes) ∙ append-nil before ∙ ap
      (λ (hosts : List Host). tells hosts t.items) (sym same_hosts))
      ∙ ap (λ (l : List ℕ). l ++ last) (sym (trace-append (dbs (kind_of_cell c)) after.run.world.hosts t.items r.items))

  run_after_line : IsRunOf dbs (told_with dbs t (Ok (ran stage after r.items r.ending))) after
  run_after_line = record {
    hosts = same_hosts ∙ so.run.hosts;
    first = subst (λ (hosts : List Host). IsFirst hosts c.opening.clock c.opening.failed) (sym same_hosts) so.run.first;
    run =
        ap (λ (x : Run). run_through db x part.events) so.run.run
        ∙ ap (λ (w : World). run_through db (run_through db (first_run w) c.events) part.events) same_first
        ∙ sym (run-append db (first_run (first_of after)) c.events part.events);
    scripted = All-append (IsScripted db) c.events part.events so.run.scripted (part.scripted tt);
    legal = subst (λ (w : World). IsRun db w (c.events ++ part.events)) same_first
        (legal-append db (first_of c) c.events part.events so.run.legal
        (subst (λ (w : World). IsRun db w part.events) world_before part.legal));
    seen = record { back = part.back; split = seen_split; whole = λ none. part.whole (sym (halts_by (t.stage.lines + 1) r.ending) ∙ none) };
    text = text_split (end_text (ended_at (t.stage.lines + 1) r.ending));
  }

  so_far_after : SoFar dbs (told_with dbs t (Ok (ran stage r.cell r.items r.ending))) (Some r.cell)
  so_far_after =
      subst (λ (x : Cell). IsSoFar dbs (told_with dbs t (Ok (ran stage x r.items r.ending))) x) (sym same_cell) (record {
        run = run_after_line;
        fits = subst (λ (x : Run). Fits stage.asks x.world) part.run_is part.fits;
        handed = part.handed ∙ ap (λ (x : Run). length x.world.packets) part.run_is;
      })

-- ---- each line, and all

ran_line : PacketsHavePlaces → (dbs : Databases) (t : Told) (run : Line_run) (cell : Option Cell) → t.ended ≡ None → SoFar dbs t cell
    → IsLine dbs cell run → SoFar dbs (told_with dbs t (Ok run)) run.stage.cell
ran_line law dbs t run None goes so (inl is) =
    subst (λ (x : Line_run). SoFar dbs (told_with dbs t (Ok x)) x.stage.cell) (sym is.is)
    (let P : Option Cell → Type 0 = λ o. SoFar dbs
    (told_with dbs t (Ok (record { stage = record is.stage { cell = o }; items = []; ending = None }))) o in
    subst P (sym is.none) (append-nil t.items ∙ so.0, append-nil (t.text ++ []) ∙ append-nil t.text ∙ so.1 ∙ going_text t.ended goes))
ran_line law dbs t run None goes so (inr is) = opened_line law dbs t run goes so is
ran_line law dbs t run (Some c) goes so is =
    subst (λ (x : Line_run). SoFar dbs (told_with dbs t (Ok x)) x.stage.cell) (sym is.is)
    (so_far_after dbs t c is.stage is.r goes so is.part)

with_line : PacketsHavePlaces → (dbs : Databases) (t : Told) (o : Result Line_run Ending) → t.ended ≡ None → SoFar dbs t t.stage.cell
    → IfOk o (IsLine dbs t.stage.cell) → SoFar dbs (told_with dbs t o) (told_with dbs t o).stage.cell
with_line law dbs t (Err ending) goes so is = ended_line dbs t ending t.stage.cell goes so
with_line law dbs t (Ok run) goes so is = ran_line law dbs t run t.stage.cell goes so is

module _ (law : PacketsHavePlaces) (dbs : Databases) (names : NamesCalls dbs) where
  one_line : (t : Told) (r : LineRead) (ended : Option ScriptEnd) → t.ended ≡ ended → SoFar dbs t t.stage.cell
      → SoFar dbs (told_after dbs t r ended) (told_after dbs t r ended).stage.cell
  one_line t r None goes so =
      with_line law dbs t (line_result dbs t.stage r) goes so (result_line law dbs names t.stage r (fits_so_far dbs t t.stage.cell so))
  one_line t r (Some h) ended so = so

  from_lines : (t : Told) (readings : List LineRead) → SoFar dbs t t.stage.cell
      → SoFar dbs (told_from dbs t readings) (told_from dbs t readings).stage.cell
  from_lines t [] so = so
  from_lines t (r ∷ readings) so = from_lines (told_after dbs t r t.ended) readings (one_line t r t.ended refl so)

run_so_far : (dbs : Databases) (t : Told) (cell : Option Cell) → SoFar dbs t cell → IsRunOfCell dbs t cell
run_so_far dbs t None so = so
run_so_far dbs t (Some c) so = so.run

pub scripts_are_runs : PacketsHavePlaces → ScriptsAreRuns
scripts_are_runs law dbs names readings =
    run_so_far dbs (told dbs readings) (told dbs readings).stage.cell (from_lines law dbs names first_told readings (refl, refl))
