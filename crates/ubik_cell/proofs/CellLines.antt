-- A line in a cell that stands, by what each method of the cell says.
use Rattle.std.proofs.Common.{◌≡◌, ℕ, ◌+◌, ◌≤◌, List, [], ◌∷◌, length, refl, sym, subst, arith}
use Rattle.std.proofs.lemmas.List.{append-nil}
use Rattle.std.specs.Prelude.{Some, None, Result, Ok, Err}
use Rattle.std.specs.Result.{IsErrAnd}
use Rattle.disk_base.specs.declared.disks.Disk.{Ghosts}
use Rattle.ubik_types.specs.declared.hosts.Host.{Host}
use Rattle.cell_script.specs.declared.lines.Line.{Line}
use Rattle.cell_script.specs.declared.lines.Line.TheVariants as line
use Rattle.cell_script.specs.declared.lines.TheConstants.{MAX_TICK}
use Rattle.cell_script.specs.declared.lines.Why.{Why}
use Rattle.cell_runs.specs.declared.endings.Ending.TheVariants as ending
use Rattle.cell_runs.specs.declared.endings.Which.{Which}
use Rattle.cell_runs.specs.Script.{Cell, Choices, Run_or_why, resting, run_in, sound_choices}
use Rattle.cell_runs.specs.ScriptDatabase.{ScriptDatabase}
use Rattle.cell_sites.specs.declared.cells.OpenCell.{OpenCell}
use Rattle.cell_sites.specs.declared.faults.LineFault.{LineFault}
use Rattle.cell_sites.specs.declared.faults.LineFault.TheVariants.{Refused, Limit, NoMemory}
use Rattle.cell_sites.specs.declared.sites.Site.{Site}
use Rattle.cell_sites.specs.Disks.{Held, AreRises}
use Rattle.cell_sites.specs.Sites.{IsModelledBy, helds}
use Rattle.cell_sites.specs.Sound.{AreSound, Bounds, IsSound}
use Rattle.cell_sites.specs.Told.{CellTold, IsRefused, IsShort}
use Rattle.db_image.specs.Database.{Database}
use Rattle.db_image.specs.Standing.{Standing}
use Rattle.ubik_cell.specs.LineRuns.{CellDone, KeepsCell}

-- ---- what stays sound

sites_raised : {D V : Type 0} (g : Ghosts D) (hosts : List Host) (place bound later : ℕ) (sites : List (Site D V g)) → bound ≤ later
    → AreSound g hosts place bound sites → AreSound g hosts place later sites
sites_raised g hosts place bound later [] more sound = tt
sites_raised g hosts place bound later (site ∷ sites) more sound = (
  record { moment = sound.0.moment; within = omega (arith, sound.0.within); server = sound.0.server; disk = sound.0.disk },
  sites_raised g hosts (place + 1) bound later sites more sound.1,
)

-- at a later clock
pub raised : {D V : Type 0} (g : Ghosts D) (db : Database) (bounds : Bounds) (later : ℕ) (running : OpenCell D V g) → bounds.clock ≤ later
    → IsSound g db bounds running → IsSound g db (record bounds { clock = later }) running
raised g db bounds later running more sound = record {
  steady = record {
    some = sound.steady.some;
    few = sound.steady.few;
    hosts = sound.steady.hosts;
    sites = sites_raised g running.hosts.items 0 bounds.clock later running.sites.items more sound.steady.sites;
    near = sound.steady.near;
    told = sound.steady.told;
  };
  keeps = sound.keeps;
  calls = sound.calls;
  run = sound.run;
  blocks = sound.blocks;
}

pub no_rises : (k : ℕ) (disks : List Held) → AreRises k [] disks disks
no_rises k [] = tt
no_rises k (disk ∷ disks) = (omega arith, no_rises (k + 1) disks)

-- ---- what a line does

module _ {D V : Type 0} (g : Ghosts D) (before after : OpenCell D V g) where
  pub kept_of : {standing : Standing} (result : Result (Unit {0}) LineFault) (seconds : ℕ) → seconds ≤ MAX_TICK
      → (result ≡ Ok tt → (bounds : Bounds) → IsSound g standing.database bounds before
      → IsSound g standing.database (record bounds { clock = bounds.clock + seconds }) after)
      → AreRises 0 [] (helds g before) (helds g after) → length after.sites.items ≡ length before.sites.items
      → KeepsCell g standing result before after
  kept_of {standing} result seconds few sound rises same = record {
    sound = λ done bounds is.
        raised g standing.database (record bounds { clock = bounds.clock + seconds }) (bounds.clock + MAX_TICK) after (omega (arith, few))
        (sound done bounds is);
    never_falls = rises;
    same = same;
  }

  -- a line in which no clock goes on
  pub kept_still : {standing : Standing} (result : Result (Unit {0}) LineFault)
      → (result ≡ Ok tt → (bounds : Bounds) → IsSound g standing.database bounds before → IsSound g standing.database bounds after)
      → AreRises 0 [] (helds g before) (helds g after) → length after.sites.items ≡ length before.sites.items
      → KeepsCell g standing result before after
  kept_still {standing} result sound rises same = record {
    sound = λ done bounds is. raised g standing.database bounds (bounds.clock + MAX_TICK) after (omega arith) (sound done bounds is);
    never_falls = rises;
    same = same;
  }

  -- what became of it, by its result
  pub cell_done : (db : ScriptDatabase) (run : Cell → Choices → Run_or_why) (result : Result (Unit {0}) LineFault)
      (text_before text_after : List ℕ)
      → (result ≡ Ok tt → (given : List ℕ) (c : Cell) → IsModelledBy g db.database given before c
      → CellTold g db given (run c) None before after text_before text_after)
      → ((which : Which) → result ≡ Err (Limit which) → (given : List ℕ) (c : Cell) → IsModelledBy g db.database given before c
      → CellTold g db given (run c) (Some (ending.Limit which)) before after text_before text_after)
      → ((why : Why) → result ≡ Err (Refused why) → (after ≡ before)
      × ((given : List ℕ) (c : Cell) → IsModelledBy g db.database given before c → IsRefused why (run c)))
      → ((why : Why) → result ≡ Err (Refused why) → text_after ≡ text_before)
      → (result ≡ Err NoMemory → (given : List ℕ) (c : Cell) → IsModelledBy g db.database given before c
      → IsShort g db.database given (run c) c before after)
      → CellDone g db run result before after text_before text_after
  cell_done db run (Ok done) text_before text_after told limit refused quiet short = told refl
  cell_done db run (Err (Limit which)) text_before text_after told limit refused quiet short = limit which refl
  cell_done db run (Err (Refused why)) text_before text_after told limit refused quiet short =
      ((refused why refl).0, quiet why refl, (refused why refl).1)
  cell_done db run (Err NoMemory) text_before text_after told limit refused quiet short = short refl

  module _ (db : ScriptDatabase) (l k : Line) (is : l ≡ k) where
    -- a line that may refuse alone, and tells nothing
    pub refused_of : (result : Result (Unit {0}) LineFault) (why : Why) (text : List ℕ) → IsErrAnd result (λ e. e ≡ Refused why)
        → (after ≡ before) × ((given : List ℕ) (c : Cell) → IsModelledBy g db.database given before c
        → IsRefused why (λ choices. run_in db c choices k))
        → CellDone g db (λ c choices. run_in db c choices l) result before after text text
    refused_of (Ok done) why text err refused = absurd err
    refused_of (Err e) why text err refused =
        let P : LineFault → Type 0 = λ e. CellDone g db (λ c choices. run_in db c choices l) (Err e) before after text text in
        let Q : Line → Type 0 = λ l. (after ≡ before) × (text ≡ text)
        × ((given : List ℕ) (c : Cell) → IsModelledBy g db.database given before c → IsRefused why (λ choices. run_in db c choices l)) in
        subst P (sym err) (subst Q (sym is) (refused.0, refl, refused.1))

    pub told_of : (text_before text_after : List ℕ)
        → ((given : List ℕ) (c : Cell) → IsModelledBy g db.database given before c
        → CellTold g db given (λ choices. run_in db c choices k) None before after text_before text_after)
        → CellDone g db (λ c choices. run_in db c choices l) (Ok tt) before after text_before text_after
    told_of text_before text_after told =
        let P : Line → Type 0 = λ l. (given : List ℕ) (c : Cell) → IsModelledBy g db.database given before c
        → CellTold g db given (λ choices. run_in db c choices l) None before after text_before text_after in
        subst P (sym is) told

    pub done_of : (result : Result (Unit {0}) LineFault) (text_before text_after : List ℕ)
        → (result ≡ Ok tt → (given : List ℕ) (c : Cell) → IsModelledBy g db.database given before c
        → CellTold g db given (λ choices. run_in db c choices k) None before after text_before text_after)
        → ((which : Which) → result ≡ Err (Limit which) → (given : List ℕ) (c : Cell) → IsModelledBy g db.database given before c
        → CellTold g db given (λ choices. run_in db c choices k) (Some (ending.Limit which)) before after text_before text_after)
        → ((why : Why) → result ≡ Err (Refused why) → (after ≡ before)
        × ((given : List ℕ) (c : Cell) → IsModelledBy g db.database given before c → IsRefused why (λ choices. run_in db c choices k)))
        → ((why : Why) → result ≡ Err (Refused why) → text_after ≡ text_before)
        → (result ≡ Err NoMemory → (given : List ℕ) (c : Cell) → IsModelledBy g db.database given before c
        → IsShort g db.database given (λ choices. run_in db c choices k) c before after)
        → CellDone g db (λ c choices. run_in db c choices l) result before after text_before text_after
    done_of result text_before text_after told limit refused quiet short =
        let P : Line → Type 0 = λ l. CellDone g db (λ c choices. run_in db c choices l) result before after text_before text_after in
        subst P (sym is) (cell_done db (λ c choices. run_in db c choices k) result text_before text_after told limit refused quiet short)

-- a line that does nothing
pub kept_same : {D V : Type 0} {standing : Standing} (g : Ghosts D) (result : Result (Unit {0}) LineFault) (running : OpenCell D V g)
    → KeepsCell g standing result running running
kept_same g result running = kept_still g running running result (λ done bounds is. is) (no_rises 0 (helds g running)) refl

pub nothing_told : {D V : Type 0} (g : Ghosts D) (db : ScriptDatabase) (running : OpenCell D V g) (text : List ℕ) (given : List ℕ)
    (c : Cell)
    → IsModelledBy g db.database given running c
    → CellTold g db given (λ choices. run_in db c choices line.Nothing) None running running text text
nothing_told g db running text given c stands = record {
  choices = sound_choices;
  whole = record { most = refl; found = tt };
  ran = resting c;
  is = refl;
  ends = refl;
  cell = stands;
  told = sym (append-nil text);
  causes = no_rises 0 (helds g running);
}

-- what is handed on by `?`
pub handed_on : (P : Result (Unit {0}) LineFault → Type 0) (result : Result (Unit {0}) LineFault) (e : LineFault)
    → IsErrAnd result (λ x. x ≡ e) → P (Err e) → P result
handed_on P (Ok done) e err holds = absurd err
handed_on P (Err x) e err holds = subst (λ (x : LineFault). P (Err x)) (sym err) holds
