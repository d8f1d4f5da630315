-- Where no fault of a disk is told, no choice of what disks do matters (own).
use Rattle.std.specs.Prelude.{◌≡◌, ◌≤◌, ℕ, Option, Some, None, List, ◌++◌, length, map}
use Rattle.cell_runs.specs.Script.{AreWhole, Cell, LineRead, sound_choices, told}
use Rattle.cell_runs.specs.ScriptDatabase.{Databases}
use Rattle.cell_runs.specs.Trace.{TraceItem, fault_count}
use Rattle.script_laws.specs.Runs.{NamesCalls}

-- these lines where every disk is sound
abbrev pub sound_lines : List (List ℕ) → List LineRead
sound_lines lines = map (λ l. record { line = l; choices = sound_choices }) lines

-- the lines that were read, without the choices in them
abbrev pub lines_read : List LineRead → List (List ℕ)
lines_read readings = map (λ (r : LineRead). r.line) readings

-- no server is told to stop, to halt or to stay down
abbrev pub HasNoFault : List TraceItem → Type 0
HasNoFault items = (k : ℕ) → fault_count k items ≡ 0

-- Lines that are run to their ends, and of which no fault is told, leave and tell what they do where every disk is sound.
abbrev pub SoundScripts : Type 0
SoundScripts =
    (dbs : Databases) (readings : List LineRead) → AreWhole readings → HasNoFault (told dbs readings).items
    → told dbs (sound_lines (lines_read readings)) ≡ told dbs readings

-- Where a script does not end where every disk is sound, no front of it ends of which no fault is told.
abbrev pub SoundFronts : Type 0
SoundFronts =
    (dbs : Databases) (readings : List LineRead) (later : List (List ℕ)) → AreWhole readings → HasNoFault (told dbs readings).items
    → (told dbs (sound_lines (lines_read readings ++ later))).ended ≡ None → (told dbs readings).ended ≡ None

-- how many servers the cell has, 0 where none stands
abbrev pub sites_told : Option Cell → ℕ
sites_told None = 0
sites_told (Some c) = length c.run.world.sites

-- Faults are told of servers of the cell alone.
abbrev pub FaultsHaveServers : Type 0
FaultsHaveServers =
    (dbs : Databases) → NamesCalls dbs → (readings : List LineRead) (k : ℕ) → sites_told (told dbs readings).stage.cell ≤ k
    → fault_count k (told dbs readings).items ≡ 0
