-- The run of a cell stays one of the world in each line.
use Rattle.std.proofs.Common.{◌≡◌, ℕ, ◌≤◌, List, ◌++◌, length, refl, sym, ap, subst, ◌∙◌, arith}
use Rattle.std.specs.Prelude.{Bool, Ok, Err, IfOk}
use Rattle.ubik_types.specs.declared.hosts.Host.{Host}
use Rattle.ubik_types.specs.declared.limits.TheConstants.{MAXSERVERS}
use Rattle.ubik_types.specs.Moment.{IsMoment}
use Rattle.db_image.specs.Database.{Database}
use Rattle.cell_model.specs.Book.{Run, first_run, run_through}
use Rattle.cell_model.specs.World.{World, Event, IsFirst, IsRun, first_world, world_after}
use Rattle.cell_places.specs.Places.{PacketsHavePlaces}
use Rattle.cell_script.specs.declared.lines.Kind.{Kind}
use Rattle.cell_runs.specs.Script.{Opening, Cell, Cell_run, Run_or_why, hosts_of, opened_cell}
use Rattle.cell_runs.specs.ScriptDatabase.{ScriptDatabase}
use Rattle.script_laws.specs.CellRuns.{CellsGoOn, Fits, IsWorldRun}
use Rattle.script_laws.specs.Runs.{first_of}
use Rattle.script_laws.proofs.LineRuns.{at_part, line_part}
use Rattle.script_laws.proofs.Parts.{IsPart, legal-append, run-append, world_of_run}
use Rattle.script_laws.proofs.Telling.{is_cell, length-hosts}
use Rattle.script_laws.proofs.Worlds.{first_fits}

module _ (calls : Type 0) (script_db : ScriptDatabase) (asks later : ℕ) (c : Cell) (r : Cell_run) (is : IsWorldRun script_db.database asks c)
    (part : IsPart calls script_db later c.opening c.events c.run r) where
  abbrev db : Database
  db = script_db.database

  -- the cell after the part
  abbrev after : Cell
  after = record r.cell { opening = c.opening; events = c.events ++ part.events; run = run_through db c.run part.events }

  same_cell : r.cell ≡ after
  same_cell =
      ap (λ (o : Opening). record r.cell { opening = o }) part.opening_is
      ∙ ap (λ (l : List Event). record r.cell { opening = c.opening; events = l }) part.brought
      ∙ ap (λ (x : Run). record r.cell { opening = c.opening; events = c.events ++ part.events; run = x }) part.run_is

  same_hosts : after.run.world.hosts ≡ c.run.world.hosts
  same_hosts = sym (ap (λ (x : Run). x.world.hosts) part.run_is) ∙ part.hosts

  same_first : first_of c ≡ first_of after
  same_first = ap (λ (hosts : List Host). first_world hosts c.opening.clock c.opening.failed) (sym same_hosts)

  world_before : c.run.world ≡ world_after db (first_of c) c.events
  world_before = ap (λ (x : Run). x.world) is.run ∙ world_of_run db (first_run (first_of c)) c.events

  goes_on : IsWorldRun db later r.cell
  goes_on =
      subst (IsWorldRun db later) (sym same_cell) (record {
        first = subst (λ (hosts : List Host). IsFirst hosts c.opening.clock c.opening.failed) (sym same_hosts) is.first;
        run =
            ap (λ (x : Run). run_through db x part.events) is.run
            ∙ ap (λ (w : World). run_through db (run_through db (first_run w) c.events) part.events) same_first
            ∙ sym (run-append db (first_run (first_of after)) c.events part.events);
        legal = subst (λ (w : World). IsRun db w (c.events ++ part.events)) same_first
            (legal-append db (first_of c) c.events part.events is.legal
            (subst (λ (w : World). IsRun db w part.events) world_before part.legal));
        fits = subst (λ (x : Run). Fits later x.world) part.run_is part.fits;
        handed = part.handed ∙ ap (λ (x : Run). length x.world.packets) part.run_is;
      })

-- of a part that is run
part_of : (P : Cell_run → Type 0) (r : Run_or_why) (ran : Cell_run) → r ≡ Ok ran → IfOk r P → P ran
part_of P (Ok x) ran is holds = let same : x ≡ ran = cc in subst P same holds
part_of P (Err why) ran is holds = cc

opened_run : PacketsHavePlaces → (db : Database) (asks servers clock : ℕ) (k : Kind) (failed : List Bool) → 1 ≤ servers → servers ≤ MAXSERVERS
    → IsMoment clock → length failed ≡ servers → IsWorldRun db asks (opened_cell servers clock k failed)
opened_run law db asks servers clock k failed some few moment each =
    let all : length failed ≡ length (hosts_of servers) = each ∙ sym (length-hosts 0 servers) in
    record {
      first = record { cell = is_cell servers some few; moment = moment; each = all };
      run = refl;
      legal = tt;
      fits = first_fits law (hosts_of servers) asks clock failed all;
      handed = refl;
    }

pub cells_go_on : PacketsHavePlaces → CellsGoOn
cells_go_on law = record {
  opened = opened_run law;
  line = λ script_db asks c choices l r on is ran.
      goes_on ⊥ script_db asks asks c r is (part_of (IsPart ⊥ script_db asks c.opening c.events c.run) _ r ran
      (line_part ⊥ law script_db asks c is.fits is.handed choices l on));
  ask = λ script_db asks id c choice call server r new is ran.
      goes_on ⊥ script_db asks id c r is
      (part_of (IsPart ⊥ script_db id c.opening c.events c.run) _ r ran (at_part ⊥ law script_db asks c is.fits is.handed id id new (omega arith) choice call (λ never. absurd never) server));
}
