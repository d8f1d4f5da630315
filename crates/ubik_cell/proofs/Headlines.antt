-- The headline, of a run at its end, by the laws of scripts and of the world.
use Rattle.std.proofs.Common.{◌≡◌, ℕ, List, [], ◌++◌, Option, Some, None, IfSome, refl, subst, ◌⊎◌}
use Rattle.disk_base.specs.declared.disks.Disk.{Ghosts}
use Rattle.cell_runs.specs.Script.{Cell, LineRead, told}
use Rattle.cell_sites.specs.Disks.{AreSettled, all_held}
use Rattle.cell_sites.specs.Opened.{counts_of}
use Rattle.script_laws.specs.Runs.{FindsMemory, MemoryIsFound, NamesCalls, ScriptsAreRuns}
use Rattle.cell_promises.specs.Promises.{CellsKeepPromises}
use Rattle.script_promises.specs.Databases.{databases, standing_of}
use Rattle.script_promises.specs.Kept.{IsKept}
use Rattle.script_promises.specs.Order.{HasOneOrder}
use Rattle.script_promises.specs.Promises.{HasPromises, KeepsPromises, ScriptsKeepPromises}
use Rattle.script_promises.specs.Replies.{HasSingleReplies}
use Rattle.ubik_cell.specs.declared.cells.CellKind.{CellKind}
use Rattle.ubik_cell.specs.declared.cells.CellKind.TheVariants as kind
use Rattle.ubik_cell.specs.Headline.{Headline, OfOne, untold_of}
use Rattle.ubik_cell.specs.Runs.{Runs, read_lines}
use Rattle.ubik_cell.specs.Turns.{RanOver, is_short, more_of}
use Rattle.ubik_cell.proofs.OnDisk.{on_disk}

-- ---- a cell of one server

of_one : (P : Cell → Type 0) → ((c : Cell) → HasPromises (standing_of c) c → P c) → (cell : Option Cell) → IfSome cell KeepsPromises
    → OfOne P cell
of_one P has None keeps = tt
of_one P has (Some c) keeps = λ one. has c (keeps one)

-- its replies are those of the single copy, where memory was found
single : (cell : Option Cell) → IfSome cell KeepsPromises → IfSome cell FindsMemory → OfOne (λ c. HasSingleReplies (standing_of c) c) cell
single None keeps found = tt
single (Some c) keeps found = λ one. (keeps one).replies found

-- ---- the line in which memory ran out

untold_more : (k : CellKind) (readings : List LineRead) (script : List ℕ) (left : Option (List ℕ)) (before : List ℕ)
    (after : Option (List ℕ))
    (run : Runs k databases readings script left before after)
    → more_of k databases readings script left before after run ≡ untold_of k readings script left before after run
untold_more kind.Done readings script left before after run = refl
untold_more (kind.ScriptRefused line why) readings script left before after run = refl
untold_more kind.ReadFault readings script left before after run = refl
untold_more kind.WriteFault readings script left before after run = refl
untold_more (kind.Limit line which) readings script left before after run = refl
untold_more kind.NoMemory readings script left before after run = refl
untold_more (kind.Words place) readings script left before after run = refl

-- ---- the headline

pub headline : ScriptsAreRuns → MemoryIsFound → NamesCalls databases → ScriptsKeepPromises → CellsKeepPromises
    → {D : Type 0} (g : Ghosts D) (k : CellKind) (script : List ℕ) (left : Option (List ℕ)) (before : List ℕ) (after : Option (List ℕ))
    (disks_before disks_after : List D) → RanOver g k databases script left before after disks_before disks_after
    → AreSettled g disks_after → Headline g k script left before after disks_before disks_after
headline runs memory names promises every g k script left before after disks_before disks_after over settled =
    let ran = over.ran in
    let readings : List LineRead = ran.readings in
    let with_more : List LineRead = readings ++ ran.more in
    let keeps = promises readings in
    let cell : Option Cell = (told databases readings).stage.cell in
    record {
      readings = readings;
      whole = ran.whole;
      run = ran.run;
      world = runs databases names readings;
      found = memory databases readings ran.whole;
      every_cell = every readings;
      one_order = of_one (λ c. HasOneOrder (standing_of c) c) (λ c has. has.order) cell keeps;
      kept = of_one (λ c. IsKept (standing_of c) c) (λ c has. has.kept) cell keeps;
      single_copy = single cell keeps (memory databases readings ran.whole);
      causes = ran.causes;
      disks = record {
        more = ran.more;
        run_or_not = subst (λ (l : List (List ℕ)). (ran.more ≡ []) ⊎ (read_lines ran.more ≡ l))
            (untold_more k readings script left before after ran.run) ran.run_or_not;
        causes = ran.held.causes;
        holds = ran.held.holds;
        every_cell = every with_more;
        kept = of_one (λ c. IsKept (standing_of c) c) (λ c has. has.kept) (told databases with_more).stage.cell (promises with_more);
      };
      on_disk =
          on_disk g databases (counts_of g disks_before) (is_short k)
          (told databases with_more).stage.cell disks_after ran.held.holds settled;
      others = record { reached = over.reached; stay = over.stay; exact = ran.servers };
    }
