-- A line that opens the cell, and one that does nothing.
use Rattle.std.proofs.Common.{true, ◌≡◌, inl, ℕ, zero, suc, ◌+◌, ◌-◌, ◌<◌, ◌≤◌, List, [], ◌∷◌, ◌++◌, length, refl, sym, ap, subst, ◌∙◌, arith}
use Rattle.std.proofs.lemmas.List.{append-nil, length-drop, take-append-drop}
use Rattle.std.proofs.lemmas.List.Elements.{All-drop}
use Rattle.std.specs.Prelude.{Option, Some, None, Result, Ok, Err, All, take, drop}
use Rattle.disk_base.specs.declared.disks.Disk.{Ghosts}
use Rattle.disk_base.specs.Crash.{IsSettled}
use Rattle.disk_base.specs.Files.{Files, no_files}
use Rattle.disk_base.specs.Stops.DiskStop.{Unarmed}
use Rattle.ubik_types.specs.declared.hosts.Host.{Host}
use Rattle.ubik_types.specs.declared.limits.TheConstants.{MAXSERVERS}
use Rattle.cell_script.specs.declared.lines.Kind.{Kind}
use Rattle.cell_script.specs.declared.lines.Line.{Line}
use Rattle.cell_script.specs.declared.lines.Line.TheVariants as line
use Rattle.cell_script.specs.declared.lines.TheConstants.{MAX_CLOCK}
use Rattle.cell_runs.specs.declared.limits.TheConstants.{MAX_LINES, MAX_PACKETS}
use Rattle.cell_runs.specs.Script.{Cell, Choice, Choices, Stage, fails_at, hosts_of, line_run, next_line, opened, opened_cell, sound_choices, text_in}
use Rattle.cell_runs.specs.ScriptDatabase.{ScriptDatabase, Databases}
use Rattle.cell_runs.specs.Trace.{TraceItem, trace}
use Rattle.cell_sites.specs.declared.cells.OpenCell.{OpenCell}
use Rattle.cell_sites.specs.declared.faults.LineFault.{LineFault}
use Rattle.cell_sites.specs.declared.faults.LineFault.TheVariants.{NoMemory}
use Rattle.cell_sites.specs.Disks.{Held, all_held, AreCauses, AreRises}
use Rattle.cell_sites.specs.Opened.{IsOpened, counts_of, opening_items}
use Rattle.cell_sites.specs.Sites.{IsModelledBy, helds}
use Rattle.cell_sites.specs.Sound.{Bounds, IsSound}
use Rattle.ubik_cell.specs.declared.scripts.CellRun.{CellRun}
use Rattle.ubik_cell.specs.LineRuns.{KeepsRun, LineDone, run_of_line}
use Rattle.ubik_cell.specs.Lines.{AreUnwritten, CellIsSound, CellStandsFor, HasCauses, HeldCauses, HoldStage, IsNear, IsSoundRun, bounds_after, cell_helds, clock_bound, only, run_helds, sites_in}
use Rattle.ubik_cell.proofs.CellLines.{raised}
use Rattle.ubik_cell.proofs.LineDisks.{hosts_count, more_causes, unwritten, unwritten-append}
use Rattle.ubik_cell.proofs.Lifting.{near_holds, run_causes, run_holds, servers_match}
use Rattle.db_image.specs.Standing.{Standing}

-- the cell of a stage at which a run stands that has none
none_of : {D V : Type 0} (g : Ghosts D) (dbs : Databases) (given : List ℕ) (cell : Option (OpenCell D V g)) (c : Option Cell) → cell ≡ None
    → CellStandsFor g dbs given cell c → c ≡ None
none_of g dbs given None None is stands = refl
none_of g dbs given None (Some c) is stands = absurd stands
none_of g dbs given (Some running) c is stands = absurd (cc)

-- the counts of the first disks, and of those behind them
counts-take : {D : Type 0} (g : Ghosts D) (n : ℕ) (disks : List D) → counts_of g (take n disks) ≡ take n (counts_of g disks)
counts-take g zero disks = refl
counts-take g (suc n) [] = refl
counts-take g (suc n) (disk ∷ disks) = ap (λ (l : List ℕ). g.steps disk ∷ l) (counts-take g n disks)

counts-drop : {D : Type 0} (g : Ghosts D) (n : ℕ) (disks : List D) → counts_of g (drop n disks) ≡ drop n (counts_of g disks)
counts-drop g zero disks = refl
counts-drop g (suc n) [] = refl
counts-drop g (suc n) (disk ∷ disks) = counts-drop g n disks

no_causes : (k : ℕ) (disks : List Held) → AreCauses k [] disks
no_causes k [] = tt
no_causes k (disk ∷ disks) = (omega arith, no_causes (k + 1) disks)

-- before a cell stands nothing is told
nothing_before : {D V : Type 0} (g : Ghosts D) (cell : Option (OpenCell D V g)) (items : List TraceItem) → cell ≡ None
    → HasCauses g cell items → items ≡ []
nothing_before g None items is none = none
nothing_before g (Some running) items is none = absurd (cc)

-- no call was asked before a cell stands
pub none_asked : {D V : Type 0} (g : Ghosts D) (standing : Standing) (bounds : Bounds) (cell : Option (OpenCell D V g)) → cell ≡ None
    → CellIsSound g standing bounds cell → bounds.asks ≡ 0
none_asked g standing bounds None none is = is
none_asked g standing bounds (Some running) none is = absurd (cc)

module _ {D V : Type 0} (g : Ghosts D) (db : ScriptDatabase) (servers clock : ℕ) (k : Kind) (before : CellRun D V g)
    (running : OpenCell D V g)
    (after : CellRun D V g) (here : after.cell ≡ Some running) (none : before.cell ≡ None) (lines : after.lines ≡ before.lines)
    (asks : after.asks ≡ before.asks) where
  abbrev opens : Line
  opens = line.Cell servers clock k

  opens_is : (st : Stage) → st.cell ≡ None → (choices : Choices)
      → run_of_line db opens st choices ≡ Ok (opened (next_line st) choices servers clock k)
  opens_is st is choices = ap (λ (o : Option Cell). line_run (only db) (next_line st) choices opens o) is

  -- each failed opening is a fault of its disk
  told_causes : {text_before text_after : List ℕ} (given : List D) (items : List TraceItem)
      (is : IsOpened g db clock k given running text_before text_after)
      → length given ≡ servers → HasCauses g before.cell items
      → HasCauses g after.cell (items ++ opening_items (fails_at servers is.choices))
  told_causes given items is count causes =
      let failed = fails_at servers is.choices in
      let told : AreCauses 0 (opening_items failed) (helds g running) =
      more_causes 0 [] (opening_items failed) (all_held g given) (helds g running) (no_causes 0 (all_held g given))
      (subst (λ n. AreRises 0 (opening_items (fails_at n is.choices)) (all_held g given) (helds g running)) count is.causes) in
      subst (λ (o : Option (OpenCell D V g)). HasCauses g o (items ++ opening_items failed)) (sym here)
      (subst (λ (l : List TraceItem). AreCauses 0 (l ++ opening_items failed) (helds g running))
      (sym (nothing_before g before.cell items none causes)) told)

  -- the disks that a run without a cell has are all
  all_given : (given : List ℕ) (st : Stage) → IsNear g (only db) given 0 before st → counts_of g before.spare.items ≡ given
  all_given given st near = near.spare ∙ ap (λ (o : Option (OpenCell D V g)). drop (sites_in o) given) none

  -- all servers were opened
  pub opened_line : (text_before text_after : List ℕ) → length (take servers before.spare.items) ≡ servers
      → IsOpened g db clock k (take servers before.spare.items) running text_before text_after
      → running.hosts.items ≡ hosts_of servers → All (λ disk. g.files disk ≡ Some no_files) after.spare.items
      → after.spare.items ≡ drop servers before.spare.items
      → LineDone g db opens (Ok tt) before after text_before text_after
  opened_line text_before text_after count is hosts empty left = λ given st near.
      let disks : List D = take servers before.spare.items in
      let choices : List Choice = is.choices in
      let whole : Choices = record { each = choices; most = MAX_PACKETS } in
      let failed = fails_at servers choices in
      let opened_c : Cell = opened_cell servers clock k failed in
      let hosts_are : length running.hosts.items ≡ length running.sites.items = ap length is.sound.steady.hosts
      ∙ hosts_count (length running.sites.items) in
      let sites_are : length running.sites.items ≡ servers = sym hosts_are ∙ ap length hosts ∙ hosts_count servers in
      let all : counts_of g before.spare.items ≡ given = all_given given st near in
      let own : counts_of g disks ≡ take (length running.sites.items) given =
      counts-take g servers before.spare.items ∙ ap (take servers) all ∙ ap (λ (n : ℕ). take n given) (sym sites_are) in
      let behind : counts_of g after.spare.items ≡ drop (length running.sites.items) given =
      ap (counts_of g) left ∙ counts-drop g servers before.spare.items ∙ ap (drop servers) all
      ∙ ap (λ (n : ℕ). drop n given) (sym sites_are) in
      let stands : IsModelledBy g db.database (take (length running.sites.items) given) running opened_c =
      subst (λ (l : List ℕ). IsModelledBy g db.database l running opened_c) own
      (subst (λ n. IsModelledBy g db.database (counts_of g disks) running (opened_cell n clock k (fails_at n choices))) count is.stands) in
      let at : CellStandsFor g (only db) given after.cell (Some opened_c) =
      subst (λ (o : Option (OpenCell D V g)). CellStandsFor g (only db) given o (Some opened_c)) (sym here) stands in
      let spare : counts_of g after.spare.items ≡ drop (sites_in after.cell) given =
      behind ∙ ap (λ (o : Option (OpenCell D V g)). drop (sites_in o) given) (sym here) in
      record {
        choices = whole;
        whole = record { most = refl; found = is.heard };
        ran = opened (next_line st) whole servers clock k;
        is = opens_is st (none_of g (only db) given before.cell st.cell none near.cell) whole;
        ends = refl;
        near = λ _. record { lines = omega (arith, near.lines, lines); asks = near.asks ∙ sym asks; cell = at; spare = spare };
        servers = ap sites_in here ∙ sym hosts_are ∙ ap length hosts;
        holds = run_holds g (only db) given after.cell (Some opened_c) after.spare.items at empty spare;
        kept = λ o items was causes.
            let no_cell : o ≡ None = none_of g (only db) given before.cell o none was in
            subst (λ (o : Option Cell). HeldCauses o items (run_helds g after)) (sym no_cell)
            (nothing_before g before.cell items none causes);
        told =
            is.told ∙ ap (λ n. text_before ++ trace db running.hosts.items (opening_items (fails_at n choices))) count
            ∙ ap (λ (l : List Host). text_before ++ trace db l (opening_items failed)) hosts;
        causes = λ items causes. told_causes disks items is count causes;
        held = λ items causes.
            run_causes g (only db) given after.cell (Some opened_c) (items ++ opening_items failed) (all_held g after.spare.items) at
            (told_causes disks items is count causes);
      }

  -- memory ran out in the opening
  pub opened_short : (text_before text_after : List ℕ)
      → AreUnwritten (counts_of g (take (length running.sites.items) before.spare.items)) (helds g running)
      → All (λ disk. g.files disk ≡ Some no_files) after.spare.items
      → after.spare.items ≡ drop (length running.sites.items) before.spare.items
      → LineDone g db opens (Err NoMemory) before after text_before text_after
  opened_short text_before text_after cell empty left = λ given st near.
      let n : ℕ = length running.sites.items in
      let all : counts_of g before.spare.items ≡ given = all_given given st near in
      let split : counts_of g (take n before.spare.items) ++ counts_of g after.spare.items ≡ given =
      ap (λ (l : List ℕ). l ++ counts_of g after.spare.items) (counts-take g n before.spare.items)
      ∙ ap (λ (l : List ℕ). take n (counts_of g before.spare.items) ++ l) (ap (counts_of g) left ∙ counts-drop g n before.spare.items)
      ∙ take-append-drop n (counts_of g before.spare.items) ∙ all in
      let whole : AreUnwritten given (run_helds g after) =
      subst (λ (l : List ℕ). AreUnwritten l (run_helds g after)) split
      (subst (λ (o : Option (OpenCell D V g)). AreUnwritten (counts_of g (take n before.spare.items) ++ counts_of g after.spare.items)
      (cell_helds g o ++ all_held g after.spare.items)) (sym here)
      (unwritten-append (counts_of g (take n before.spare.items)) (counts_of g after.spare.items) (helds g running)
      (all_held g after.spare.items)
      cell (unwritten g after.spare.items empty))) in
      let no_cell : st.cell ≡ None = none_of g (only db) given before.cell st.cell none near.cell in
      record {
        causes = λ items causes. subst (λ (o : Option Cell). HeldCauses o items (run_helds g after)) (sym no_cell)
            (nothing_before g before.cell items none causes);
        held = inl (subst (λ (o : Option Cell). HoldStage (only db) given true o (run_helds g after)) (sym no_cell) whole);
      }

  -- what stays
  pub opened_keeps : {standing : Standing} (result : Result (Unit {0}) LineFault) → IsSoundRun g standing before
      → before.lines < MAX_LINES → length running.sites.items ≤ MAXSERVERS
      → after.spare.items ≡ drop (length running.sites.items) before.spare.items
      → (result ≡ Ok tt → IsSound g standing.database (record { clock = clock; asks = 0 }) running) → clock ≤ MAX_CLOCK
      → KeepsRun g standing result before after
  opened_keeps {standing} result sound room few spare is_sound early =
      let count : sites_in after.cell ≡ length running.sites.items = ap sites_in here in
      let no_sites : sites_in before.cell ≡ 0 = ap sites_in none in
      let left : length after.spare.items ≡ length before.spare.items - length running.sites.items = ap length spare
      ∙ length-drop (length running.sites.items) before.spare.items in
      let whole : sites_in after.cell + length after.spare.items ≡ MAXSERVERS = omega (arith, sound.disks, count, no_sites, left, few) in
      record {
        lines = lines;
        disks = whole;
        spare =
            let all : sites_in after.cell - sites_in before.cell ≡ length running.sites.items = omega (arith, count, no_sites) in
            spare ∙ sym (ap (λ n. drop n before.spare.items) all);
        sound = λ done. record {
          cell = subst (CellIsSound g standing (bounds_after (before.lines + 1) after.asks)) (sym here)
              (subst (λ (n : ℕ). IsSound g standing.database (record { clock = clock_bound (before.lines + 1); asks = n }) running)
              (sym (asks ∙ none_asked g standing (bounds_after before.lines before.asks) before.cell none sound.cell))
              (raised g standing.database (record { clock = clock; asks = 0 }) (clock_bound (before.lines + 1)) running
              (omega (arith, early)) (is_sound done)));
          spare = subst (All (λ disk. g.files disk ≡ Some no_files)) (sym spare)
              (All-drop (λ disk. g.files disk ≡ Some no_files) (length running.sites.items) before.spare.items sound.spare);
          settled = subst (All (λ disk. IsSettled (g.files disk) (g.may_leave disk))) (sym spare)
              (All-drop (λ disk. IsSettled (g.files disk) (g.may_leave disk))
              (length running.sites.items) before.spare.items sound.settled);
          unarmed = subst (All (λ disk. g.stop disk ≡ Unarmed)) (sym spare)
              (All-drop (λ disk. g.stop disk ≡ Unarmed) (length running.sites.items) before.spare.items sound.unarmed);
          disks = whole;
          asks = omega (arith, asks, sound.asks);
          few = omega (arith, room);
        };
      }

-- ---- an empty line

module _ {D V : Type 0} {standing : Standing} (g : Ghosts D) (db : ScriptDatabase) (before : CellRun D V g)
    (sound : IsSoundRun g standing before) where
  nothing_in : (st : Stage) (cell : Option Cell) → st.cell ≡ cell → (choices : Choices)
      → run_of_line db line.Nothing st choices ≡ Ok (record { stage = record (next_line st) { cell = cell }; items = []; ending = None })
  nothing_in st None is choices =
      ap (λ (o : Option Cell). line_run (only db) (next_line st) choices line.Nothing o) is
      ∙ ap (λ (o : Option Cell). Ok (record { stage = record (next_line st) { cell = o }; items = []; ending = None })) is
  nothing_in st (Some c) is choices = ap (λ (o : Option Cell). line_run (only db) (next_line st) choices line.Nothing o) is

  no_text : (cell : Option Cell) → text_in (only db) cell [] ≡ []
  no_text None = refl
  no_text (Some c) = refl

  pub nothing_line : (text : List ℕ) → LineDone g db line.Nothing (Ok tt) before before text text
  nothing_line text = λ given st near. record {
    choices = sound_choices;
    whole = record { most = refl; found = tt };
    ran = record { stage = next_line st; items = []; ending = None };
    is = nothing_in st st.cell refl sound_choices;
    ends = refl;
    near = λ _. record { lines = omega (arith, near.lines); asks = near.asks; cell = near.cell; spare = near.spare };
    servers =
        sym (servers_match standing g (only db) given (bounds_after before.lines before.asks) before.cell st.cell sound.cell near.cell);
    holds = near_holds g (only db) given 0 before st sound near;
    kept = λ o items at causes. run_causes g (only db) given before.cell o items (all_held g before.spare.items) at causes;
    told = sym (ap (λ (l : List ℕ). text ++ l) (no_text st.cell) ∙ append-nil text);
    causes = λ items causes. subst (λ (l : List TraceItem). HasCauses g before.cell l) (sym (append-nil items)) causes;
    held = λ items causes.
        subst (λ (l : List TraceItem). HeldCauses st.cell l (run_helds g before)) (sym (append-nil items))
        (run_causes g (only db) given before.cell st.cell items (all_held g before.spare.items) near.cell causes);
  }

  pub nothing_keeps : before.lines < MAX_LINES → KeepsRun g standing (Ok tt) before before
  nothing_keeps room = record {
    lines = refl;
    disks = sound.disks;
    spare = let none : sites_in before.cell - sites_in before.cell ≡ 0 = omega arith in sym (ap (λ n. drop n before.spare.items) none);
    sound = λ done. record {
      cell = by before.cell sound.cell;
      spare = sound.spare;
      settled = sound.settled;
      unarmed = sound.unarmed;
      disks = sound.disks;
      asks = omega (arith, sound.asks);
      few = omega (arith, room);
    };
  }
    where
      by : (cell : Option (OpenCell D V g)) → CellIsSound g standing (bounds_after before.lines before.asks) cell
          → CellIsSound g standing (bounds_after (before.lines + 1) before.asks) cell
      by None is = is
      by (Some running) is =
          raised g standing.database (bounds_after before.lines before.asks) (clock_bound (before.lines + 1)) running (omega arith) is

-- ---- the disks that are left

pub rest_empty : {D : Type 0} (files : D → Option Files) (spare rest : List D) (n : ℕ) → rest ≡ drop n spare
    → All (λ disk. files disk ≡ Some no_files) spare
    → All (λ disk. files disk ≡ Some no_files) rest
rest_empty files spare rest n is empty =
    subst (All (λ disk. files disk ≡ Some no_files)) (sym is) (All-drop (λ disk. files disk ≡ Some no_files) n spare empty)

pub taken_count : {X : Type 0} (xs : List X) (n : ℕ) → n ≤ length xs → length (take n xs) ≡ n
taken_count [] zero few = refl
taken_count [] (suc n) few = absurd (omega arith)
taken_count (x ∷ xs) zero few = refl
taken_count (x ∷ xs) (suc n) few = ap suc (taken_count xs n (omega arith))
