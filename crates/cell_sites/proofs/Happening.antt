-- What happens in a world where a trigger brings a step, and what a script makes of it.
use Rattle.std.proofs.Common.{if◌then◌else◌, ◌≡◌, ◌+◌, ℕ, Bool, true, false, Option, Some, None, List, [], set, ap, ◌∙◌}
use Rattle.std.specs.Prelude.{slice_get}
use Rattle.db_image.specs.Database.{Database}
use Rattle.cell_model.specs.declared.events.NodeEvent.{NodeEvent}
use Rattle.cell_model.specs.Durable.{Made}
use Rattle.cell_model.specs.Node as model
use Rattle.cell_model.specs.NodeRule.{step_of}
use Rattle.cell_model.specs.Book.{clock_at, clock_in}
use Rattle.cell_model.specs.World.{World, Site, Trigger, Step, Fault, Stop, happens, happens_at, happened_at, triggered, occasion, member, step_at, fault_at}
use Rattle.cell_model.specs.World.{stop_at, step_up, fault_up, stop_up, halted_step, only_marks, lost_at}
use Rattle.cell_runs.specs.ScriptDatabase.{ScriptDatabase}
use Rattle.cell_runs.specs.Script.{Armed, Cell, Choice, sound, DiskOutcome, Serves, Fails_after, Stops_after, armed_at, counted_on, stops_in, calls_on_all}
use Rattle.cell_runs.specs.Script.{or_stops, served_or_stops, outcome_up, outcome_at, outcome_of, node_in, place_in, stepped_so, stepped, with_event}

-- ---- the world

module _ (db : Database) (w : World) (trigger : Trigger) (k : ℕ) (e : NodeEvent) (site : Site) (o : occasion w trigger ≡ Some (k, e))
    (there : slice_get w.sites k ≡ Some site) (short : List Bool) where
  -- a step at its site
  step_happens : happens db w (Step trigger short) ≡ happened_at w k (step_at db (member w k) trigger e short site site.node)
  step_happens =
      ap (triggered w (λ m e site. step_at db m trigger e short site site.node)) o
      ∙ ap (happens_at w k (λ site. step_at db (member w k) trigger e short site site.node)) there

  pub up_happens : (s : model.Server) → site.node ≡ model.Up s
      → happens db w (Step trigger short) ≡ happened_at w k (step_up k site e s.version (step_of db (member w k) s site.clock e short))
  up_happens s is = step_happens ∙ ap (λ (n : model.Node). happened_at w k (step_at db (member w k) trigger e short site n)) is

  pub halted_happens : (h : model.HaltedServer) → site.node ≡ model.Halted h
      → happens db w (Step trigger short) ≡ happened_at w k (halted_step site e)
  halted_happens h is = step_happens ∙ ap (λ (n : model.Node). happened_at w k (step_at db (member w k) trigger e short site n)) is

  pub down_happens : site.node ≡ model.Down → happens db w (Step trigger short) ≡ happened_at w k (only_marks site (lost_at trigger))
  down_happens is = step_happens ∙ ap (λ (n : model.Node). happened_at w k (step_at db (member w k) trigger e short site n)) is

  pub fault_happens : (s : model.Server) (made : ℕ) → site.node ≡ model.Up s
      → happens db w (Fault trigger short made) ≡ happened_at w k (fault_up k site e s (step_of db (member w k) s site.clock e short) made)
  fault_happens s made is =
      ap (triggered w (λ m e site. fault_at db m e short made site site.node)) o
      ∙ ap (happens_at w k (λ site. fault_at db (member w k) e short made site site.node)) there
      ∙ ap (λ (n : model.Node). happened_at w k (fault_at db (member w k) e short made site n)) is

  pub stop_happens : (s : model.Server) (made : ℕ) → site.node ≡ model.Up s
      → happens db w (Stop trigger short made) ≡ happened_at w k
      (stop_up k site s.version (step_of db (member w k) s site.clock e short) made)
  stop_happens s made is =
      ap (triggered w (λ m e site. stop_at db m e short made site site.node)) o
      ∙ ap (happens_at w k (λ site. stop_at db (member w k) e short made site site.node)) there
      ∙ ap (λ (n : model.Node). happened_at w k (stop_at db (member w k) e short made site n)) is

-- ---- a line

-- the cell with other disks armed
abbrev pub with_armed : Cell → List (Option Armed) → Cell
with_armed c armed = record c { armed = armed }

-- the choice of a step in which the disk fails, with these replies for want of memory
abbrev pub fails_after : List Bool → ℕ → Choice
fails_after short made = record { fails = true; made = made; took = false; unheard = short; short = [] }

-- the choice of a step in which the disk may stop
abbrev pub stops_so : List Bool → Bool → Choice
stops_so short took = record { fails = false; made = 0; took = took; unheard = short; short = [] }

-- the choice of a step that the disk serves
abbrev pub serves_so : List Bool → Choice
serves_so short = record { fails = false; made = 0; took = false; unheard = short; short = short }

module _ (script_db : ScriptDatabase) (c : Cell) (trigger : Trigger) (k : ℕ) (e : NodeEvent) (site : Site)
    (o : occasion c.run.world trigger ≡ Some (k, e))
    (there : slice_get c.run.world.sites k ≡ Some site) where
  outcome_is : (choice : Choice)
      → outcome_of script_db.database c.run.world choice c.armed
      (occasion c.run.world trigger) ≡ outcome_at script_db.database c.run.world choice c.armed
      (k, e) site.node
  outcome_is choice =
      ap (outcome_of script_db.database c.run.world choice c.armed) o
      ∙ ap (λ (s : Option Site). outcome_at script_db.database c.run.world choice c.armed (k, e) (node_in s)) there

  as_outcome : (choice : Choice) (outcome : DiskOutcome)
      → outcome_at script_db.database c.run.world choice c.armed (k, e) site.node ≡ outcome
      → stepped script_db c choice trigger ≡ stepped_so script_db c trigger k choice.short outcome
  as_outcome choice outcome is =
      ap (λ (p : ℕ). stepped_so script_db c trigger p choice.short
      (outcome_of script_db.database c.run.world choice c.armed (occasion c.run.world trigger)))
      (ap place_in o)
      ∙ ap (stepped_so script_db c trigger k choice.short) (outcome_is choice ∙ is)

  -- a server that makes no call of its disk
  pub stepped_down : site.node ≡ model.Down
      → stepped script_db c sound trigger ≡ with_event script_db (with_armed c (set c.armed k (counted_on 0 (armed_at c.armed k))))
      (Step trigger [])
  stepped_down is = as_outcome sound (Serves 0) (ap (outcome_at script_db.database c.run.world sound c.armed (k, e)) is)

  pub stepped_halted : (h : model.HaltedServer) → site.node ≡ model.Halted h
      → stepped script_db c sound trigger ≡ with_event script_db (with_armed c (set c.armed k (counted_on 0 (armed_at c.armed k))))
      (Step trigger [])
  stepped_halted h is = as_outcome sound (Serves 0) (ap (outcome_at script_db.database c.run.world sound c.armed (k, e)) is)

  module _ (s : model.Server) (up : site.node ≡ model.Up s) where
    -- the durable calls of the step, by its replies for want of memory
    abbrev pub calls_here : List Bool → List Made
    calls_here short = (step_of script_db.database (member c.run.world k) s site.clock e short).calls

    clock_here : clock_at c.run.world k ≡ site.clock
    clock_here = ap clock_in there

    outcome_here : (choice : Choice)
        → outcome_at script_db.database c.run.world choice c.armed (k, e) site.node ≡ outcome_up choice s.version calls_here
        (armed_at c.armed k)
    outcome_here choice =
        ap (outcome_at script_db.database c.run.world choice c.armed (k, e)) up
        ∙ ap (λ (now : ℕ). outcome_up choice s.version (λ short. (step_of script_db.database (member c.run.world k) s now e short).calls)
        (armed_at c.armed k)) clock_here

    -- a step that the disk serves
    pub stepped_served : (short : List Bool) → stops_in s.version (calls_here short) (armed_at c.armed k) ≡ None
        → stepped script_db c (serves_so short) trigger ≡ with_event script_db (with_armed c
        (set c.armed k (counted_on (calls_on_all s.version (calls_here short)) (armed_at c.armed k)))) (Step trigger short)
    stepped_served short none =
        let n = calls_on_all s.version (calls_here short) in
        as_outcome (serves_so short) (Serves n)
        (outcome_here (serves_so short)
        ∙ ap (or_stops (served_or_stops (serves_so short) s.version calls_here (armed_at c.armed k)) short false) none
        ∙ ap (or_stops (Serves n) short false) none)

    -- one in which the disk fails, after so many durable calls
    pub stepped_fails : (short : List Bool) (made : ℕ)
        → stepped script_db c (fails_after short made) trigger ≡ with_event script_db c (Fault trigger short made)
    stepped_fails short made = as_outcome (fails_after short made) (Fails_after short made) (outcome_here (fails_after short made))

    -- one in which it stops
    pub stepped_stops : (short : List Bool) (took : Bool) (whole : ℕ)
        → stops_in s.version (calls_here short) (armed_at c.armed k) ≡ Some whole
        → stepped script_db c (stops_so short took) trigger ≡ with_event script_db (with_armed c (set c.armed k None))
        (Stop trigger short (if took then whole + 1 else whole))
    stepped_stops short took whole is =
        as_outcome (stops_so short took) (Stops_after short (if took then whole + 1 else whole))
        (outcome_here (stops_so short took)
        ∙ ap (or_stops (served_or_stops (stops_so short took) s.version calls_here (armed_at c.armed k)) short took) is)
