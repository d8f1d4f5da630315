-- The headline: what was read and written is the trace of one run of the world, and that run keeps what it promises.
use Rattle.std.specs.Prelude.{◌≡◌, ◌≢◌, ◌⊎◌, ℕ, Bool, Option, Some, None, IfSome, List, [], ◌++◌, drop}
use Rattle.disk_base.specs.declared.disks.Disk.{Ghosts}
use Rattle.cell_runs.specs.Script.{AreWhole, Cell, LineRead, cell_size_of, servers_of, told}
use Rattle.script_laws.specs.Runs.{FindsMemory, IsRunOfTold}
use Rattle.script_promises.specs.Databases.{databases, standing_of}
use Rattle.script_promises.specs.Order.{HasOneOrder}
use Rattle.script_promises.specs.Kept.{IsKept}
use Rattle.script_promises.specs.Replies.{HasSingleReplies}
use Rattle.cell_promises.specs.Promises.{HasMeaning}
use Rattle.cell_sites.specs.Disks.{Held, all_held}
use Rattle.cell_sites.specs.Opened.{counts_of}
use Rattle.ubik_cell.specs.Lines.{HeldCauses, HoldStage}
use Rattle.ubik_cell.specs.OnDisk.{IsOnDisk}
use Rattle.ubik_cell.specs.Runs.{Runs, read_lines}
use Rattle.ubik_cell.specs.Turns.{is_short}
use Rattle.ubik_cell.specs.declared.cells.CellKind.{CellKind}
use Rattle.ubik_cell.specs.declared.cells.CellKind.TheVariants as kind

-- so of the cell of a script, where it has one server
abbrev pub OfOne : (Cell → Type 0) → Option Cell → Type 0
OfOne P None = Unit {0}
OfOne P (Some c) = cell_size_of c ≡ 1 → P c

abbrev pub OfOneAfter : (Cell → Type 0) → List LineRead → Type 0
OfOneAfter P readings = OfOne P (told databases readings).stage.cell

-- The disks hold the run: each reads as the durable state of its server, be it up, halted or down, and got the changing calls of the run's
-- events. Where memory ran out in a line, they hold perhaps what this line left, whose faults are those of the disks and whose run keeps
-- what was acknowledged too. This line may have been run in part: a deliverall to some of the packets that waited.
pub record DisksHold (readings : List LineRead) (untold : List (List ℕ)) (given : List ℕ) (short : Bool) (disks : List Held) : Type 0 where
  pub more : List LineRead
  pub run_or_not : (more ≡ []) ⊎ (read_lines more ≡ untold)
  pub causes : HeldCauses (told databases (readings ++ more)).stage.cell (told databases (readings ++ more)).items disks
  pub holds : HoldStage databases given short (told databases (readings ++ more)).stage.cell disks
  pub every_cell : IfSome (told databases (readings ++ more)).stage.cell (λ c. HasMeaning (standing_of c) c)
  pub kept : OfOneAfter (λ c. IsKept (standing_of c) c) (readings ++ more)

-- the line in which memory ran out, if it did in one
abbrev pub untold_of : (k : CellKind) (readings : List LineRead) (script : List ℕ) (left : Option (List ℕ)) (before : List ℕ)
    (after : Option (List ℕ)) → Runs k databases readings script left before after → List (List ℕ)
untold_of kind.NoMemory readings script left before after run = run.more
untold_of _ readings script left before after run = []

-- The disks behind those of the cell's servers stay as they were. Where memory ran out, more servers may have been reached.
pub record OthersStay {D : Type 0} (k : CellKind) (servers : ℕ) (before after : List D) : Type 0 where
  pub reached : ℕ
  pub stay : drop reached after ≡ drop reached before
  pub exact : k ≢ kind.NoMemory → reached ≡ servers

-- One run: its bytes are those that were written, each line was run to its end, it is a run of the world; in a cell of any size, of either database, its committed transactions have one
-- order, what was acknowledged is kept, and its replies are those of the single copy. In a cell of one server they are those of the order
-- before their event, at its moment, and nothing is seen that such a cell cannot show. Each stop, halt and failed opening that it tells
-- is a fault of that server's disk; the disks hold the run; and all of that is on disk: a crash after the end leaves it.
pub record Headline {D : Type 0} (g : Ghosts D) (k : CellKind) (script : List ℕ) (left : Option (List ℕ))
    (before : List ℕ) (after : Option (List ℕ)) (disks_before disks_after : List D) : Type 0 where
  pub readings : List LineRead
  pub whole : AreWhole readings
  pub run : Runs k databases readings script left before after
  pub world : IsRunOfTold databases (told databases readings)
  pub found : IfSome (told databases readings).stage.cell FindsMemory
  pub every_cell : IfSome (told databases readings).stage.cell (λ c. HasMeaning (standing_of c) c)
  pub one_order : OfOneAfter (λ c. HasOneOrder (standing_of c) c) readings
  pub kept : OfOneAfter (λ c. IsKept (standing_of c) c) readings
  pub single_copy : OfOneAfter (λ c. HasSingleReplies (standing_of c) c) readings
  pub causes : HeldCauses (told databases readings).stage.cell (told databases readings).items (all_held g disks_after)
  pub disks : DisksHold readings (untold_of k readings script left before after run) (counts_of g disks_before) (is_short k)
      (all_held g disks_after)
  pub on_disk : IsOnDisk g (told databases (readings ++ disks.more)).stage.cell disks_after
  pub others : OthersStay k (servers_of (told databases readings).stage.cell) disks_before disks_after
