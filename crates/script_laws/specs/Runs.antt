-- What the lines of a script make of a cell is a run of the world, and what they tell is what is seen of that run (own).
use Rattle.std.specs.Prelude.{ℕ, ◌≡◌, Bool, true, false, Option, Some, None, IfSome, IsSome, All, List, [], ◌∷◌, ◌++◌, length}
use Rattle.db_image.specs.Database.{Database}
use Rattle.cell_model.specs.Book.{Run, first_run, run_through}
use Rattle.cell_model.specs.World.{Trigger, Asking, Event, Step, Stop, Fault, Happening, IsFirst, IsRun, first_seen, seen_of}
use Rattle.cell_script.specs.declared.lines.Kind.{Kind}
use Rattle.cell_runs.specs.declared.endings.Ending.{Ending}
use Rattle.cell_runs.specs.declared.endings.Ending.TheVariants.{Limit}
use Rattle.cell_runs.specs.declared.endings.Which.TheVariants.{Packets, PacketBytes}
use Rattle.cell_runs.specs.Script.{AreWhole, LineRead, Cell, ScriptEnd, Told, hosts_of, kind_of_cell, end_text, told}
pub use Rattle.cell_runs.specs.Script.{first_of}
use Rattle.cell_runs.specs.ScriptDatabase.{Databases}
use Rattle.cell_runs.specs.Trace.{TraceItem, Tells, Shows, trace}

-- what the words of a script name is a call, of each kind of database
abbrev pub NamesCalls : Databases → Type 0
NamesCalls dbs =
    (k : Kind) (words : List (List ℕ)) (call : List ℕ) → (dbs k).words.call_of words ≡ Some call → IsSome ((dbs k).database.writes call)

-- the database of a cell
abbrev pub database_of : Databases → Cell → Database
database_of dbs c = (dbs (kind_of_cell c)).database

-- its run through these events, from its opening on
abbrev pub run_of : Database → Cell → List Event → Run
run_of db c events = run_through db (first_run (first_of c)) events

-- of what is told, what was seen
abbrev pub happenings_of : List TraceItem → List Happening
happenings_of [] = []
happenings_of (Tells h ∷ items) = h ∷ happenings_of items
happenings_of (Shows server clock showing ∷ items) = happenings_of items

-- the script ended because packets, or their bytes, passed a limit
abbrev pub is_of_packets : Ending → Bool
is_of_packets (Limit Packets) = true
is_of_packets (Limit PacketBytes) = true
is_of_packets _ = false

abbrev pub passes_packets : Option ScriptEnd → Bool
passes_packets None = false
passes_packets (Some h) = is_of_packets h.ending

-- what the trigger asks, if it asks, is a call
abbrev pub AsksACall : Database → Trigger → Type 0
AsksACall db (Asking server id call) = IsSome (db.writes call)
AsksACall db _ = Unit {0}

-- an event that a script may bring: what it asks is a call
abbrev pub IsScripted : Database → Event → Type 0
IsScripted db (Step trigger short) = AsksACall db trigger
IsScripted db (Stop trigger short made) = AsksACall db trigger
IsScripted db (Fault trigger short made) = AsksACall db trigger
IsScripted db _ = Unit {0}

-- no reply that is seen of it is for want of memory; of a step in which the disk fails or stops none is seen
abbrev pub IsFound : Event → Type 0
IsFound (Step trigger short) = short ≡ []
IsFound _ = Unit {0}

-- so of each event of a cell
abbrev pub FindsMemory : Cell → Type 0
FindsMemory c = All IsFound c.events

-- All that was seen is told, in its order; where packets passed a limit it may be a front of that.
pub record IsTold (ended : Option ScriptEnd) (seen : List Happening) (items : List TraceItem) : Type 0 where
  pub back : List Happening
  pub split : seen ≡ happenings_of items ++ back
  pub whole : passes_packets ended ≡ false → back ≡ []

-- What was told stands for a run of this cell: it was opened as a first world, each event is one of the world that those before it
-- left, and one that a script may bring; what was seen is told, and the text says that.
pub record IsRunOf (dbs : Databases) (t : Told) (c : Cell) : Type 0 where
  pub hosts : c.run.world.hosts ≡ hosts_of (length c.opening.failed)
  pub first : IsFirst c.run.world.hosts c.opening.clock c.opening.failed
  pub run : c.run ≡ run_of (database_of dbs c) c c.events
  pub scripted : All (IsScripted (database_of dbs c)) c.events
  pub legal : IsRun (database_of dbs c) (first_of c) c.events
  pub seen : IsTold t.ended (first_seen 0 c.opening.failed ++ seen_of (database_of dbs c) (first_of c) c.events) t.items
  pub text : t.text ≡ trace (dbs (kind_of_cell c)) c.run.world.hosts t.items ++ end_text t.ended

-- the same where a cell stands; before that nothing is told but why the script ended
abbrev pub IsRunOfCell : Databases → Told → Option Cell → Type 0
IsRunOfCell dbs t None = (t.items ≡ []) × (t.text ≡ end_text t.ended)
IsRunOfCell dbs t (Some c) = IsRunOf dbs t c

abbrev pub IsRunOfTold : Databases → Told → Type 0
IsRunOfTold dbs t = IsRunOfCell dbs t t.stage.cell

-- What any lines tell, whatever the disks do, is what is seen of a run of the world.
abbrev pub ScriptsAreRuns : Type 0
ScriptsAreRuns = (dbs : Databases) → NamesCalls dbs → (readings : List LineRead) → IsRunOfTold dbs (told dbs readings)

-- Lines that are run to their ends, and in which memory is found, bring no event in which it is not.
abbrev pub MemoryIsFound : Type 0
MemoryIsFound = (dbs : Databases) (readings : List LineRead) → AreWhole readings → IfSome (told dbs readings).stage.cell FindsMemory
