-- A line that comes to a step, or is refused.
use Rattle.std.proofs.Common.{◌≡◌, inl, inr, ℕ, Option, List, length, ap, ◌∙◌}
use Rattle.db_image.specs.Database.{Database}
use Rattle.disk_base.specs.declared.disks.Disk.{Ghosts}
use Rattle.cell_runs.specs.declared.endings.Ending.{Ending}
use Rattle.cell_runs.specs.ScriptDatabase.{ScriptDatabase}
use Rattle.cell_runs.specs.Script.{Cell, Choices, Run_or_why, cell_size_of}
use Rattle.cell_sites.specs.declared.cells.OpenCell.{OpenCell}
use Rattle.cell_sites.specs.Sites.{IsModelledBy}
use Rattle.cell_sites.specs.Sound.{IsSteady}
use Rattle.cell_sites.specs.Told.{CellTold, IsShort}
use Rattle.cell_sites.proofs.Soundly.{host_count}

-- how many servers the cell has that it stands for
pub size_of : {D V : Type 0} {database : Database} {given : List ℕ} (g : Ghosts D) (bound : ℕ) (running : OpenCell D V g) (c : Cell)
    → IsSteady g bound running → IsModelledBy g database given running c → cell_size_of c ≡ length running.sites.items
size_of g bound running c sound stands = ap length stands.hosts ∙ host_count g bound running sound

module _ {D V : Type 0} (g : Ghosts D) (line run : Choices → Run_or_why) (is : (choices : Choices) → line choices ≡ run choices) where
  pub told_as : {given : List ℕ} (script_db : ScriptDatabase) (ended : Option Ending) (before after : OpenCell D V g) (tb ta : List ℕ)
      → CellTold g script_db given run ended before after tb ta → CellTold g script_db given line ended before after tb ta
  told_as script_db ended before after tb ta told =
      record {
        choices = told.choices;
        whole = told.whole;
        ran = told.ran;
        is = is told.choices ∙ told.is;
        ends = told.ends;
        cell = told.cell;
        told = told.told;
        causes = told.causes;
      }

  pub short_as : {database : Database} {given : List ℕ} (c : Cell) (before after : OpenCell D V g)
      → IsShort g database given run c before after
      → IsShort g database given line c before after
  short_as c before after (inl read) = inl read
  short_as c before after (inr after_it) =
      inr (record {
        choices = after_it.choices;
        ran = after_it.ran;
        is = is after_it.choices
            ∙ after_it.is;
        disks = after_it.disks;
        causes = after_it.causes;
      })
