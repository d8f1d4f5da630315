-- A call that was kept: the cell is as before but for it.
use Rattle.std.proofs.Common.{◌≡◌, inl, inr, ◌+◌, ◌++◌, ℕ, Option, List, [], ◌∷◌, length, refl, ap, ◌∙◌, arith}
use Rattle.disk_base.specs.declared.disks.Disk.{Ghosts}
use Rattle.db_image.specs.Database.{Database}
use Rattle.cell_runs.specs.declared.endings.Ending.{Ending}
use Rattle.cell_runs.specs.Script.{Cell, Choices, Run_or_why}
use Rattle.cell_runs.specs.ScriptDatabase.{ScriptDatabase}
use Rattle.script_laws.proofs.Worlds.{more_fits}
use Rattle.cell_sites.specs.Places.{IsUpAt}
use Rattle.cell_sites.specs.Sites.{IsModelledBy}
use Rattle.cell_sites.specs.Sound.{Bounds, IsSound, IsSteady}
use Rattle.cell_sites.specs.Told.{CellTold, IsShort}
use Rattle.cell_sites.specs.declared.cells.OpenCell.{OpenCell}
use Rattle.cell_sites.proofs.Answering.{length_more}
use Rattle.cell_sites.proofs.Keeping.{keeps_call}

-- the cell with other calls
abbrev pub with_calls : {D V : Type 0} {g : Ghosts D} → OpenCell D V g → List (List ℕ) → OpenCell D V g
with_calls running calls = record running { calls = calls }

module _ {D V : Type 0} (g : Ghosts D) (before : OpenCell D V g) (calls : List (List ℕ)) where
  pub kept_up : (k : ℕ) → IsUpAt before k → IsUpAt (with_calls before calls) k
  kept_up k up = record { clock = up.clock; node = up.node; there = up.there }

  pub kept_steady : (bound : ℕ) → IsSteady g bound before → IsSteady g bound (with_calls before calls)
  kept_steady bound still =
      record { some = still.some; few = still.few; hosts = still.hosts; sites = still.sites; near = still.near; told = still.told }

  pub kept_stands : {database : Database} {given : List ℕ} (c : Cell) → IsModelledBy g database given before c
      → IsModelledBy g database given (with_calls before calls) c
  kept_stands c stands =
      record {
        hosts = stands.hosts;
        sites = stands.sites;
        sent = stands.sent;
        handed = stands.handed;
        armed = stands.armed;
        disks = stands.disks;
      }

  -- what is told of it is told of the cell before
  pub told_from : {given : List ℕ} (script_db : ScriptDatabase) (run : Choices → Run_or_why) (ended : Option Ending)
      (after : OpenCell D V g)
      (tb ta : List ℕ) → CellTold g script_db given run ended (with_calls before calls) after tb ta
      → CellTold g script_db given run ended before after tb ta
  told_from script_db run ended after tb ta told =
      record {
        choices = told.choices;
        whole = told.whole;
        ran = told.ran;
        is = told.is;
        ends = told.ends;
        cell = told.cell;
        told = told.told;
        causes = told.causes;
      }

  pub short_from : {database : Database} {given : List ℕ} (run : Choices → Run_or_why) (c : Cell) (after : OpenCell D V g)
      → IsShort g database given run c (with_calls before calls) after → IsShort g database given run c before after
  short_from run c after (inl hold) = inl hold
  short_from run c after (inr later) =
      inr (record { choices = later.choices; ran = later.ran; is = later.is; disks = later.disks; causes = later.causes })

  -- one call more was asked
  pub kept_sound : (db : Database) (bounds : Bounds) (call : List ℕ) (id : ℕ) → calls ≡ before.calls ++ call ∷ []
      → id ≡ length before.calls + 1 → IsSound g db bounds before → IsSound g db (record bounds { asks = id }) (with_calls before calls)
  kept_sound db bounds call id more next still =
      let c = still.run.cell in
      let is = still.run.run in
      let asked = still.calls in
      let length_is : length calls ≡ length before.calls + 1 = ap length more ∙ length_more before.calls call in
      record {
        steady = kept_steady bounds.clock still.steady;
        keeps = keeps_call db before (with_calls before calls) still.keeps refl call refl more refl;
        calls = omega (arith, next, length_is);
        run = record {
          given = still.run.given;
          cell = c;
          stands = kept_stands c still.run.stands;
          run = record {
            first = is.first;
            run = is.run;
            legal = is.legal;
            fits = more_fits bounds.asks id c.run.world (omega (arith, next, asked)) is.fits;
            handed = is.handed;
          };
        };
        blocks = still.blocks;
      }
