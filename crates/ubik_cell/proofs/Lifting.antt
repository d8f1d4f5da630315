-- What a line does in a cell that stands is what it does in the run.
use Rattle.std.proofs.Common.{◌≡◌, ◌⊎◌, inl, inr, ℕ, ◌+◌, ◌-◌, ◌<◌, ◌≤◌, List, [], ◌++◌, length, refl, sym, ap, subst, ◌∙◌, arith}
use Rattle.std.specs.Prelude.{All, Bool, false, true, Option, Some, None, Result, Ok, Err, IfOk, take, drop}
use Rattle.disk_base.specs.declared.disks.Disk.{Ghosts}
use Rattle.disk_base.specs.Files.{no_files}
use Rattle.db_image.specs.Database.{Database}
use Rattle.ubik_types.specs.declared.hosts.Host.{Host}
use Rattle.cell_script.specs.declared.lines.Line.{Line}
use Rattle.cell_script.specs.declared.lines.Line.TheVariants as line
use Rattle.cell_script.specs.declared.lines.TheConstants.{MAX_TICK}
use Rattle.cell_script.specs.declared.lines.Why.{Why}
use Rattle.cell_runs.specs.declared.endings.Ending.{Ending}
use Rattle.cell_runs.specs.declared.endings.Ending.TheVariants as ending
use Rattle.cell_runs.specs.declared.limits.TheConstants.{MAX_LINES}
use Rattle.cell_runs.specs.Script.{Cell, Choices, Run_or_why, Stage, asked, asked_at, asked_in, first_choice, in_stage, kind_of_cell, line_run, next_line, run_in, run_standing, servers_of}
use Rattle.cell_runs.specs.ScriptDatabase.{ScriptDatabase, Databases}
use Rattle.cell_runs.specs.Trace.{TraceItem, trace}
use Rattle.cell_sites.specs.declared.cells.OpenCell.{OpenCell}
use Rattle.cell_sites.specs.declared.faults.LineFault.{LineFault}
use Rattle.cell_sites.specs.declared.faults.LineFault.TheVariants.{Refused, Limit, NoMemory}
use Rattle.cell_sites.specs.Counts.{HoldRun}
use Rattle.cell_sites.specs.Disks.{Held, all_held, AreCauses, AreRises}
use Rattle.cell_sites.specs.Opened.{counts_of}
use Rattle.cell_sites.specs.Sites.{IsModelledBy, helds}
use Rattle.cell_sites.specs.Sound.{Bounds, IsSound}
use Rattle.cell_sites.specs.Told.{CellTold, IsAfter, IsRefused, IsShort}
use Rattle.ubik_cell.specs.declared.scripts.CellRun.{CellRun}
use Rattle.ubik_cell.specs.LineRuns.{CellDone, KeepsCell, KeepsRun, LineDone, run_of_line}
use Rattle.ubik_cell.specs.Lines.{AreUnwritten, CellIsSound, CellStandsFor, HasCauses, HeldCauses, HoldStage, IsNear, IsRefusedLine, IsSoundRun, ShortAfter, StageShort, StageTold, bounds_after, cell_helds, clock_bound, only, run_helds, sites_in}
use Rattle.ubik_cell.proofs.KeptHosts.{ask_stays, line_stays}
use Rattle.ubik_cell.proofs.LineDisks.{counted_causes, fewer_rises, first_causes, hold_cell, hosts_count, length-helds, length-read, more_causes, same_causes, stage_short, unwritten}
use Rattle.db_image.specs.Standing.{Standing}

-- the cell of a stage at which a run stands
pub cell_of : {D V : Type 0} (g : Ghosts D) (db : ScriptDatabase) (given : List ℕ) (running : OpenCell D V g) (cell : Option Cell)
    → CellStandsFor g (only db) given (Some running) cell
    → (c : Cell) × (cell ≡ Some c) × IsModelledBy g db.database (take (length running.sites.items) given) running c
cell_of g db given running None stands = absurd stands
cell_of g db given running (Some c) stands = (c, refl, stands)

-- what a cell's disks hold after a line
holds_after : {D V : Type 0} (g : Ghosts D) (db : Database) (given : List ℕ) (ended : Option Ending) (running : OpenCell D V g) (c : Cell)
    → IsAfter g db given ended running c → HoldRun db given false c (helds g running)
holds_after g db given None running c after = after.disks
holds_after g db given (Some ending) running c after = after

ok_of : {X E : Type 0} (P : X → Type 0) (r : Result X E) (x : X) → r ≡ Ok x → IfOk r P → P x
ok_of P (Ok y) x is holds = subst P (cc) holds
ok_of P (Err e) x is holds = absurd (cc)

-- A line l that runs so in each cell that stands, and leaves the stage with so many asks. The run stands over a cell.
module _ {D V : Type 0} {standing : Standing} (g : Ghosts D) (db : ScriptDatabase) (l : Line) (run : Stage → Cell → Choices → Run_or_why)
    (later : Stage → Stage)
    (run_is : (st : Stage) (c : Cell) (choices : Choices) → st.cell ≡ Some c
    → run_of_line db l st choices ≡ in_stage (later st) (run st c choices))
    (hosts : (st : Stage) (c : Cell) (choices : Choices) → IfOk (run st c choices) (λ r. r.cell.run.world.hosts ≡ c.run.world.hosts))
    (before : CellRun D V g) (running : OpenCell D V g) (here : before.cell ≡ Some running) (sound : IsSoundRun g standing before)
    (given : List ℕ) (st : Stage) (near : IsNear g (only db) given 0 before st) where
  -- the counts of the disks of the cell before the script
  abbrev own : List ℕ
  own = take (length running.sites.items) given

  stands : (c : Cell) × (st.cell ≡ Some c) × IsModelledBy g db.database own running c
  stands =
      cell_of g db given running st.cell (subst (λ (o : Option (OpenCell D V g)). CellStandsFor g (only db) given o st.cell) here near.cell)

  abbrev Told : Option Ending → OpenCell D V g → List ℕ → List ℕ → Type 0
  Told ended after text_before text_after =
      (given : List ℕ) (c : Cell) → IsModelledBy g db.database given running c
      → CellTold g db given (run st c) ended running after text_before text_after

  causes_before : (items : List TraceItem) → HasCauses g before.cell items → AreCauses 0 items (helds g running)
  causes_before items causes = subst (λ (o : Option (OpenCell D V g)). HasCauses g o items) here causes

  abbrev others : List Held
  others = all_held g before.spare.items

  -- what was told before, after a line that leaves as many disks
  kept_causes : (after : OpenCell D V g) (items : List TraceItem) (c : Option Cell) → length after.sites.items ≡ length running.sites.items
      → AreRises 0 items (helds g running) (helds g after) → CellStandsFor g (only db) given before.cell c → (told : List TraceItem)
      → HasCauses g before.cell told → HeldCauses c told (helds g after ++ others)
  kept_causes after items c same rises at told causes =
      let there = cell_of g db given running c (subst (λ (o : Option (OpenCell D V g)). CellStandsFor g (only db) given o c) here at) in
      let count : length there.0.run.world.sites ≡ length (helds g after) =
      length-read there.0.run.world.sites (helds g running) there.2.disks.read ∙ length-helds g running.sites.items ∙ sym same
      ∙ sym (length-helds g after.sites.items) in
      subst (λ (o : Option Cell). HeldCauses o told (helds g after ++ others)) (sym there.1)
      (counted_causes (length there.0.run.world.sites) told (helds g after) others count
      (same_causes 0 told (helds g running) (helds g after) (causes_before told causes)
      (fewer_rises 0 items (helds g running) (helds g after) rises)))

  -- as many disks as hosts
  count_before : length running.hosts.items ≡ length running.sites.items
  count_before =
      let bounds : Bounds = bounds_after before.lines before.asks in
      let is_sound : IsSound g standing.database bounds running = subst (CellIsSound g standing bounds) here sound.cell in
      ap length is_sound.steady.hosts ∙ hosts_count (length running.sites.items)

  -- the disks behind those of the cell
  spare_given : counts_of g before.spare.items ≡ drop (length running.sites.items) given
  spare_given = near.spare ∙ ap (λ (o : Option (OpenCell D V g)). drop (sites_in o) given) here

  -- disks that hold a run of the cell
  stage_holds : (short : Bool) (after : OpenCell D V g) (c : Cell) → length after.sites.items ≡ length running.sites.items
      → HoldRun db.database own short c (helds g after) → HoldStage (only db) given short (Some c) (helds g after ++ others)
  stage_holds short after c same holds =
      hold_cell (only db) given short c (length running.sites.items) (helds g after) others
      (sym same ∙ sym (length-helds g after.sites.items)) holds
      (subst (λ (l : List ℕ). AreUnwritten l others) spare_given (unwritten g before.spare.items sound.spare))

  told_line : (asks : ℕ) (ended : Option Ending) (after : OpenCell D V g) (text_before text_after : List ℕ)
      → Told ended after text_before text_after
      → length after.sites.items ≡ length running.sites.items
      → (ended ≡ None → ((later st).lines ≡ before.lines + 1) × ((later st).asks ≡ asks))
      → StageTold g (only db) given (run_of_line db l st) ended before
      (record before { cell = Some after; asks = asks }) text_before text_after
  told_line asks ended after text_before text_after told same_count counts =
      let c = stands.0 in
      let t = told own c stands.2 in
      let same : t.ran.cell.run.world.hosts ≡ running.hosts.items =
      ok_of (λ r. r.cell.run.world.hosts ≡ c.run.world.hosts) (run st c t.choices) t.ran t.is (hosts st c t.choices) ∙ stands.2.hosts in
      let holds : HoldRun db.database own false t.ran.cell (helds g after) = holds_after g db.database own ended after t.ran.cell t.cell in
      record {
        choices = t.choices;
        whole = t.whole;
        ran = record { stage = record (later st) { cell = Some t.ran.cell }; items = t.ran.items; ending = t.ran.ending };
        is = run_is st c t.choices stands.1 ∙ ap (in_stage (later st)) t.is;
        ends = t.ends;
        near = λ none. record {
          lines = (counts none).0;
          asks = (counts none).1;
          cell = subst (λ (n : ℕ). IsModelledBy g db.database (take n given) after t.ran.cell) (sym same_count)
              (subst (λ (o : Option Ending). IsAfter g db.database own o after t.ran.cell) none t.cell);
          spare = spare_given ∙ ap (λ (n : ℕ). drop n given) (sym same_count);
        };
        servers = same_count ∙ sym (ap length same ∙ count_before);
        holds = stage_holds false after t.ran.cell same_count holds;
        kept = λ o items at causes. kept_causes after t.ran.items o same_count t.causes at items causes;
        told = t.told ∙ ap (λ (l : List Host). text_before ++ trace db l t.ran.items) (sym same);
        causes = λ items causes. more_causes 0 items t.ran.items (helds g running) (helds g after) (causes_before items causes) t.causes;
        held = λ items causes.
            first_causes t.ran.cell.run.world.sites (items ++ t.ran.items) (helds g after) others holds.read
            (more_causes 0 items t.ran.items (helds g running) (helds g after) (causes_before items causes) t.causes);
      }

  refused_line : (why : Why) → ((given : List ℕ) (c : Cell) → IsModelledBy g db.database given running c → IsRefused why (run st c))
      → IsRefusedLine why (run_of_line db l st)
  refused_line why refused =
      λ choices. run_is st stands.0 choices stands.1 ∙ ap (in_stage (later st)) (refused own stands.0 stands.2 choices)

  short_by : (after : OpenCell D V g) (c : Cell) → st.cell ≡ Some c → length after.sites.items ≡ length running.sites.items
      → IsShort g db.database own (run st c) c running after
      → HoldStage (only db) given true st.cell (helds g after ++ others)
      ⊎ ShortAfter g (only db) given (run_of_line db l st) before (record before { cell = Some after })
  short_by after c is same (inl holds) =
      inl (subst (λ (o : Option Cell). HoldStage (only db) given true o (helds g after ++ others)) (sym is)
      (stage_holds true after c same holds))
  short_by after c is same (inr ran) = inr (record {
    choices = ran.choices;
    ran = record { stage = record (later st) { cell = Some ran.ran.cell }; items = ran.ran.items; ending = ran.ran.ending };
    is = run_is st c ran.choices is ∙ ap (in_stage (later st)) ran.is;
    holds = stage_holds true after ran.ran.cell same ran.disks;
    causes = λ items causes.
        first_causes ran.ran.cell.run.world.sites (items ++ ran.ran.items) (helds g after) others ran.disks.read
        (more_causes 0 items ran.ran.items (helds g running) (helds g after) (causes_before items causes) ran.causes);
  })

  short_line : (after : OpenCell D V g) → length after.sites.items ≡ length running.sites.items
      → AreRises 0 [] (helds g running) (helds g after)
      → ((given : List ℕ) (c : Cell) → IsModelledBy g db.database given running c → IsShort g db.database given (run st c) c running after)
      → StageShort g (only db) given (run_of_line db l st) st before (record before { cell = Some after })
  short_line after same rises short = record {
    causes = λ items causes. kept_causes after [] st.cell same rises near.cell items causes;
    held = short_by after stands.0 stands.1 same (short own stands.0 stands.2);
  }

-- ---- all lines but an ask

-- a line that goes on with a cell in its own words
abbrev pub IsNoAsk : Line → Type 0
IsNoAsk (line.Ask server words) = ⊥
IsNoAsk _ = Unit {0}

run_there : (dbs : Databases) (st : Stage) (choices : Choices) (c : Cell) (l : Line) → IsNoAsk l
    → run_standing dbs st choices c l ≡ in_stage st (run_in (dbs (kind_of_cell c)) c choices l)
run_there dbs st choices c line.Nothing no_ask = refl
run_there dbs st choices c (line.Cell servers clock k) no_ask = refl
run_there dbs st choices c (line.Tick server seconds) no_ask = refl
run_there dbs st choices c (line.TickAll seconds) no_ask = refl
run_there dbs st choices c (line.Beacon server) no_ask = refl
run_there dbs st choices c (line.Recover server) no_ask = refl
run_there dbs st choices c (line.Deliver packet) no_ask = refl
run_there dbs st choices c (line.Drop packet) no_ask = refl
run_there dbs st choices c (line.DropAll server) no_ask = refl
run_there dbs st choices c line.DeliverAll no_ask = refl
run_there dbs st choices c (line.Ask server words) no_ask = absurd no_ask
run_there dbs st choices c (line.Stop server calls f) no_ask = refl
run_there dbs st choices c (line.Crash server) no_ask = refl
run_there dbs st choices c (line.Restart server) no_ask = refl
run_there dbs st choices c (line.Show server) no_ask = refl

pub no_ask_is : (db : ScriptDatabase) (l : Line) → IsNoAsk l → (st : Stage) (c : Cell) (choices : Choices) → st.cell ≡ Some c
    → run_of_line db l st choices ≡ in_stage (next_line st) (run_in db c choices l)
no_ask_is db l no_ask st c choices is =
    ap (λ (o : Option Cell). line_run (only db) (next_line st) choices l o) is ∙ run_there (only db) (next_line st) choices c l no_ask

-- ---- what stays

-- a line that leaves the cell of a run so, with so many asks
pub kept_run : {D V : Type 0} {standing : Standing} (g : Ghosts D) (result : Result (Unit {0}) LineFault) (before : CellRun D V g)
    (running after : OpenCell D V g) (asks : ℕ)
    → before.cell ≡ Some running → IsSoundRun g standing before → before.lines < MAX_LINES → asks ≤ before.lines + 1
    → length after.sites.items ≡ length running.sites.items
    → (result ≡ Ok tt → IsSound g standing.database (bounds_after before.lines before.asks) running
    → IsSound g standing.database (bounds_after (before.lines + 1) asks) after)
    → KeepsRun g standing result before (record before { cell = Some after; asks = asks })
kept_run {D} {V} {standing} g result before running after asks here sound room few same goes =
    let count : sites_in before.cell ≡ length running.sites.items = ap sites_in here in
    record {
      lines = refl;
      disks = omega (arith, sound.disks, count, same);
      spare =
          let none : length after.sites.items - sites_in before.cell ≡ 0 = omega (arith, count, same) in sym
          (ap (λ n. drop n before.spare.items) none);
      sound = λ done. record {
        cell = goes done (subst (CellIsSound g standing (bounds_after before.lines before.asks)) here sound.cell);
        spare = sound.spare;
        settled = sound.settled;
        unarmed = sound.unarmed;
        disks = omega (arith, sound.disks, count, same);
        asks = few;
        few = omega (arith, room);
      };
    }

-- after one line more
next_bound : (lines : ℕ) → clock_bound lines + MAX_TICK ≡ clock_bound (lines + 1)
next_bound lines = omega arith

-- a line that asks nothing
pub kept_line : {D V : Type 0} {standing : Standing} (g : Ghosts D) (result : Result (Unit {0}) LineFault) (before : CellRun D V g)
    (running after : OpenCell D V g)
    → before.cell ≡ Some running → IsSoundRun g standing before → before.lines < MAX_LINES
    → KeepsCell g standing result running after
    → KeepsRun g standing result before (record before { cell = Some after; asks = before.asks })
kept_line {D} {V} {standing} g result before running after here sound room keeps =
    kept_run g result before running after before.asks here sound room (omega (arith, sound.asks)) keeps.same
    (λ done is. subst (λ (clock : ℕ). IsSound g standing.database (record { clock = clock; asks = before.asks }) after)
    (next_bound before.lines)
    (keeps.sound done (bounds_after before.lines before.asks) is))

-- ---- what becomes of a line

-- the cell of a run that goes on
abbrev pub with_cell : {D V : Type 0} {g : Ghosts D} → CellRun D V g → OpenCell D V g → CellRun D V g
with_cell before after = record before { cell = Some after }

pub same_again : {D V : Type 0} {g : Ghosts D} (before : CellRun D V g) (running after : OpenCell D V g) → before.cell ≡ Some running
    → after ≡ running → with_cell before after ≡ before
same_again {D} {V} {g} before running after here same =
    ap (λ (r : OpenCell D V g). record before { cell = Some r }) same
    ∙ ap (λ (o : Option (OpenCell D V g)). record before { cell = o }) (sym here)

-- of a line that is no ask
pub lifted : {D V : Type 0} {standing : Standing} (g : Ghosts D) (db : ScriptDatabase) (l : Line) (before : CellRun D V g)
    (running after : OpenCell D V g)
    (result : Result (Unit {0}) LineFault) (text_before text_after : List ℕ) → IsNoAsk l → before.cell ≡ Some running
    → IsSoundRun g standing before
    → CellDone g db (λ c choices. run_in db c choices l) result running after text_before text_after
    → KeepsCell g standing result running after
    → LineDone g db l result before (with_cell before after) text_before text_after
lifted g db l before running after (Ok done) text_before text_after no_ask here sound cell keeps =
    λ given st near. told_line g db l (λ st c choices. run_in db c choices l) next_line (no_ask_is db l no_ask)
    (λ st c choices. line_stays db c choices l)
    before running here sound given st near before.asks None after text_before text_after cell keeps.same
    (λ _. (omega (arith, near.lines), near.asks))
lifted g db l before running after (Err (Limit which)) text_before text_after no_ask here sound cell keeps =
    λ given st near. told_line g db l (λ st c choices. run_in db c choices l) next_line (no_ask_is db l no_ask)
    (λ st c choices. line_stays db c choices l)
    before running here sound given st near before.asks (Some (ending.Limit which)) after text_before text_after cell keeps.same
    (λ never. absurd (cc))
lifted g db l before running after (Err (Refused why)) text_before text_after no_ask here sound cell keeps = (
  same_again before running after here cell.0,
  cell.1,
  λ given st near.
      refused_line g db l (λ st c choices. run_in db c choices l) next_line (no_ask_is db l no_ask)
      (λ st c choices. line_stays db c choices l)
      before running here sound given st near why cell.2,
)
lifted g db l before running after (Err NoMemory) text_before text_after no_ask here sound cell keeps =
    λ given st near. short_line g db l (λ st c choices. run_in db c choices l) next_line (no_ask_is db l no_ask)
    (λ st c choices. line_stays db c choices l)
    before running here sound given st near after keeps.same keeps.never_falls cell

-- ---- an ask

module _ {D V : Type 0} {standing : Standing} (g : Ghosts D) (db : ScriptDatabase) (words : List (List ℕ)) (call : List ℕ) (number : ℕ)
    (named : db.words.call_of words ≡ Some call)
    (before : CellRun D V g) (running after : OpenCell D V g) (here : before.cell ≡ Some running)
    (sound : IsSoundRun g standing before) where
  abbrev ask : Line
  ask = line.Ask (Some number) words

  abbrev ask_run : Stage → Cell → Choices → Run_or_why
  ask_run st c choices = asked db c (first_choice choices) (st.asks + 1) words (Some number)

  abbrev ask_later : Stage → Stage
  ask_later st = record (next_line st) { asks = st.asks + 1 }

  ask_is : (st : Stage) (c : Cell) (choices : Choices) → st.cell ≡ Some c
      → run_of_line db ask st choices ≡ in_stage (ask_later st) (ask_run st c choices)
  ask_is st c choices is = ap (λ (o : Option Cell). line_run (only db) (next_line st) choices ask o) is

  abbrev asked_so : Cell → Choices → Run_or_why
  asked_so c choices = asked_at db c (first_choice choices) (before.asks + 1) call (Some number)

  same_run : (given : List ℕ) (st : Stage) (c : Cell) → IsNear g (only db) given 0 before st → ask_run st c ≡ asked_so c
  same_run given st c near =
      ap (λ (n : ℕ). λ (choices : Choices). asked db c (first_choice choices) (n + 1) words (Some number)) near.asks
      ∙ ap (λ (o : Option (List ℕ)). λ (choices : Choices). asked_in db c (first_choice choices) (before.asks + 1) words (Some number) o)
      named

  -- what is told of it, where the run counts so many asks
  ask_told : (ended : Option Ending) (text_before text_after : List ℕ) (given : List ℕ) (st : Stage)
      (near : IsNear g (only db) given 0 before st)
      → ((given : List ℕ) (c : Cell) → IsModelledBy g db.database given running c
      → CellTold g db given (asked_so c) ended running after text_before text_after)
      → length after.sites.items ≡ length running.sites.items
      → StageTold g (only db) given (run_of_line db ask st) ended before
      (record before { cell = Some after; asks = before.asks + 1 }) text_before text_after
  ask_told ended text_before text_after given st near told same =
      told_line g db ask ask_run ask_later ask_is (λ st c choices. ask_stays db c (first_choice choices) (st.asks + 1) words (Some number))
      before running here sound given st near (before.asks + 1) ended after text_before text_after
      (λ own c stands. subst (λ (run : Choices → Run_or_why). CellTold g db own run ended running after text_before text_after)
      (sym (same_run given st c near)) (told own c stands))
      same (λ _. (omega (arith, near.lines), ap (λ (n : ℕ). n + 1) near.asks))

  pub asked_ok : (text_before text_after : List ℕ)
      → ((given : List ℕ) (c : Cell) → IsModelledBy g db.database given running c
      → CellTold g db given (asked_so c) None running after text_before text_after)
      → length after.sites.items ≡ length running.sites.items
      → LineDone g db ask (Ok tt) before (record before { cell = Some after; asks = before.asks + 1 }) text_before text_after
  asked_ok text_before text_after told same = λ given st near. ask_told None text_before text_after given st near told same

  -- an ask that is not run to its end: the count of asks stays
  pub asked_err : (text_before text_after : List ℕ) (e : LineFault) → CellDone g db asked_so (Err e) running after text_before text_after
      → length after.sites.items ≡ length running.sites.items → AreRises 0 [] (helds g running) (helds g after)
      → LineDone g db ask (Err e) before (with_cell before after) text_before text_after
  asked_err text_before text_after (Limit which) cell same rises = λ given st near.
      let t = ask_told (Some (ending.Limit which)) text_before text_after given st near cell same in
      record {
        choices = t.choices;
        whole = t.whole;
        ran = t.ran;
        is = t.is;
        ends = t.ends;
        near = λ never. absurd (cc);
        servers = t.servers;
        holds = t.holds;
        kept = t.kept;
        told = t.told;
        causes = t.causes;
        held = t.held;
      }
  asked_err text_before text_after (Refused why) cell same rises = (
    same_again before running after here cell.0,
    cell.1,
    λ given st near.
        refused_line g db ask ask_run ask_later ask_is
        (λ st c choices. ask_stays db c (first_choice choices) (st.asks + 1) words (Some number))
        before running here sound given st near why
        (λ own c stands. subst (λ (run : Choices → Run_or_why). IsRefused why run) (sym (same_run given st c near)) (cell.2 own c stands)),
  )
  asked_err text_before text_after NoMemory cell same rises = λ given st near.
      short_line g db ask ask_run ask_later ask_is (λ st c choices. ask_stays db c (first_choice choices) (st.asks + 1) words (Some number))
      before running here sound given st near after same rises
      (λ own c stands. subst (λ (run : Choices → Run_or_why). IsShort g db.database own run c running after)
      (sym (same_run given st c near)) (cell own c stands))

-- ---- a run that stays

-- where a run stands, its disks hold the stage
pub run_holds : {D V : Type 0} (g : Ghosts D) (dbs : Databases) (given : List ℕ) (cell : Option (OpenCell D V g)) (c : Option Cell)
    (spare : List D)
    → CellStandsFor g dbs given cell c → All (λ disk. g.files disk ≡ Some no_files) spare → counts_of g spare ≡ drop (sites_in cell) given
    → HoldStage dbs given false c (cell_helds g cell ++ all_held g spare)
run_holds g dbs given None None spare at empty counts =
    subst (λ (l : List ℕ). AreUnwritten l (all_held g spare)) counts (unwritten g spare empty)
run_holds g dbs given None (Some c) spare at empty counts = absurd at
run_holds g dbs given (Some running) None spare at empty counts = absurd at
run_holds g dbs given (Some running) (Some c) spare at empty counts =
    hold_cell dbs given false c (length running.sites.items) (helds g running) (all_held g spare)
    (sym (length-helds g running.sites.items)) at.disks
    (subst (λ (l : List ℕ). AreUnwritten l (all_held g spare)) counts (unwritten g spare empty))

pub run_causes : {D V : Type 0} (g : Ghosts D) (dbs : Databases) (given : List ℕ) (cell : Option (OpenCell D V g)) (c : Option Cell)
    (items : List TraceItem) (behind : List Held)
    → CellStandsFor g dbs given cell c → HasCauses g cell items → HeldCauses c items (cell_helds g cell ++ behind)
run_causes g dbs given None None items behind at causes = causes
run_causes g dbs given None (Some c) items behind at causes = absurd at
run_causes g dbs given (Some running) None items behind at causes = absurd at
run_causes g dbs given (Some running) (Some c) items behind at causes =
    first_causes c.run.world.sites items (helds g running) behind at.disks.read causes

-- as many servers as the cell of the stage has
pub servers_match : {D V : Type 0} (standing : Standing) (g : Ghosts D) (dbs : Databases) (given : List ℕ) (bounds : Bounds)
    (cell : Option (OpenCell D V g)) (c : Option Cell)
    → CellIsSound g standing bounds cell → CellStandsFor g dbs given cell c → servers_of c ≡ sites_in cell
servers_match standing g dbs given bounds None None sound at = refl
servers_match standing g dbs given bounds None (Some c) sound at = absurd at
servers_match standing g dbs given bounds (Some running) None sound at = absurd at
servers_match standing g dbs given bounds (Some running) (Some c) sound at =
    ap length (at.hosts ∙ sound.steady.hosts) ∙ hosts_count (length running.sites.items)

-- the disks of a run that stays hold the stage at which it stands
pub near_holds : {D V : Type 0} {standing : Standing} (g : Ghosts D) (dbs : Databases) (given : List ℕ) (ahead : ℕ) (run : CellRun D V g)
    (st : Stage) → IsSoundRun g standing run
    → IsNear g dbs given ahead run st → HoldStage dbs given false st.cell (run_helds g run)
near_holds g dbs given ahead run st sound near = run_holds g dbs given run.cell st.cell run.spare.items near.cell sound.spare near.spare

-- memory ran out before anything was done
pub short_same : {D V : Type 0} {standing : Standing} (g : Ghosts D) (db : ScriptDatabase) (l : Line) (before : CellRun D V g)
    (text_before text_after : List ℕ)
    → IsSoundRun g standing before → LineDone g db l (Err NoMemory) before before text_before text_after
short_same g db l before text_before text_after sound = λ given st near. record {
  causes = λ items causes. run_causes g (only db) given before.cell st.cell items (all_held g before.spare.items) near.cell causes;
  held = inl (stage_short (only db) given st.cell (run_helds g before) (near_holds g (only db) given 0 before st sound near));
}
