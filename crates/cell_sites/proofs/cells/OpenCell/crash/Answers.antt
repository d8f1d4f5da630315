use Rattle.std.proofs.Common.{[], ◌≡◌, ◌∙◌, ℕ, None, Err, length, set, refl, ap}
use Rattle.std.proofs.lemmas.List.Elements.{All-nil}
use Rattle.std.proofs.lemmas.Option.{slice_get_within}
use Rattle.std.proofs.lemmas.Result.{err_from_is_err_and}
use Rattle.cell_model.specs.World.{Crash}
use Rattle.cell_runs.specs.ScriptDatabase.{script_database}
use Rattle.cell_runs.specs.Script.{Cell_run, run_in, with_event}
use Rattle.cell_script.specs.declared.lines.Line.TheVariants as line
use Rattle.cell_sites.specs.declared.sites.Server.TheVariants.{Down}
use Rattle.cell_sites.proofs.Behind.{runs_on}
use Rattle.cell_sites.proofs.AtPlace.{rises_same}
use Rattle.cell_sites.proofs.Downtimes.{crash_rises, crash_sound, crash_told, many_at}
use Rattle.cell_sites.proofs.Keeping.{down_keeps, keeps_set}
use Rattle.cell_sites.proofs.Lining.{size_of}
use Rattle.cell_sites.proofs.Soundly.{disk_here, none_sent}
use Rattle.cell_sites.proofs.cells.OpenCell.crash.Goals as goal

pub returns-in_err-k-clause-refused : goal.returns-in_err-k-clause-refused
returns-in_err-k-clause-refused g c = λ why is.
    let db = script_database g.V.DraftService.standing.database g.V.DraftWords.words in
    let p = err_from_is_err_and c.from_residual.result c.from_residual.ensures.1 in
    let same : c.in_err-k.field-0.0 ≡ why = let given = p.2 in let left = p.1 in cc (given, left, is) in (
      refl,
      λ given cell stands choices.
          let does : ℕ → Cell_run = λ k. with_event db (record cell { armed = set cell.armed k None }) (Crash k) in
          c.in_err-k.ensures.up cell does
          (size_of g.D.Disk c.requires.0.clock c.args.self.now cell c.requires.1.steady stands) stands.sites ∙ ap Err same,
    )

pub returns-in_err-k-clause-never_falls : goal.returns-in_err-k-clause-never_falls
returns-in_err-k-clause-never_falls g c = rises_same _ _ refl

pub take_down-requires : goal.take_down-requires
take_down-requires g c = record { place = slice_get_within c.args.self.now.sites.items c.in_ok-k.k _ c.in_ok-k.ensures.place.1.there }

pub returns-clause-told : goal.returns-clause-told
returns-clause-told g c = λ ok given cell text stands.
    let db = script_database g.V.DraftService.standing.database g.V.DraftWords.words in
    let down = c.take_down.ensures in
    let does : ℕ → Cell_run = λ k. with_event db (record cell { armed = set cell.armed k None }) (Crash k) in
    crash_told g.D.Disk c.args.self.now c.take_down.new.self c.in_ok-k.k down
    (disk_here g.D.Disk c.requires.0.clock c.args.self.now c.in_ok-k.k _ c.requires.1.steady down.there) db given cell
    (λ choices. run_in db cell choices (line.Crash c.args.server)) text stands
    (λ choices. c.in_ok-k.ensures.up cell does
    (size_of g.D.Disk c.requires.0.clock c.args.self.now cell c.requires.1.steady stands) stands.sites)

pub returns-clause-sound : goal.returns-clause-sound
returns-clause-sound g c = λ bounds still.
    let down = c.take_down.ensures in
    record {
      steady = crash_sound g.D.Disk c.args.self.now c.take_down.new.self c.in_ok-k.k down
          (disk_here g.D.Disk c.requires.0.clock c.args.self.now c.in_ok-k.k _ c.requires.1.steady down.there) bounds.clock still.steady;
      keeps = keeps_set g.V.DraftService.standing.database c.args.self.now c.take_down.new.self still.keeps down.hosts c.in_ok-k.k
          (record { clock = down.clock; server = Down down.disk }) [] down.sites down.calls
          (down.packets ∙ none_sent c.args.self.now.packets)
          (down_keeps g.V.DraftService.standing.database c.args.self.now.hosts.items c.args.self.now.calls down.disk) (All-nil _);
      calls = ap length down.calls ∙ still.calls;
      run = runs_on g.D.Disk (script_database g.V.DraftService.standing.database g.V.DraftWords.words) bounds.asks c.args.self.now
          c.take_down.new.self (line.Crash c.args.server) [] [] c.law_cells_go_on.ensures tt still.run
          (returns-clause-told g c refl still.run.given still.run.cell [] still.run.stands);
      blocks = still.blocks;
    }

pub returns-clause-never_falls : goal.returns-clause-never_falls
returns-clause-never_falls g c =
    let down = c.take_down.ensures in
    crash_rises g.D.Disk c.args.self.now c.take_down.new.self c.in_ok-k.k down
    (disk_here g.D.Disk c.requires.0.clock c.args.self.now c.in_ok-k.k _ c.requires.1.steady down.there)

pub returns-clause-same : goal.returns-clause-same
returns-clause-same g c =
    many_at g.D.Disk c.args.self.now c.take_down.new.self c.in_ok-k.k _ _ c.take_down.ensures.there c.take_down.ensures.sites
