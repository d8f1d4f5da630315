use Rattle.std.proofs.Common.{[], ◌≡◌, ◌∙◌, ℕ, Err, refl, ap, arith}
use Rattle.std.proofs.lemmas.Result.{err_from_is_err_and}
use Rattle.cell_model.specs.Step.{host_at}
use Rattle.cell_runs.specs.Script.{Cell, Cell_run, dropped_of, resting}
use Rattle.cell_runs.specs.ScriptDatabase.{script_database}
use Rattle.cell_sites.specs.Traffic.{Traffic}
use Rattle.cell_script.specs.declared.lines.Line.TheVariants as line
use Rattle.cell_sites.proofs.Behind.{runs_on}
use Rattle.cell_sites.proofs.Delivering.{keeps_with, sound_with}
use Rattle.cell_sites.proofs.AtPlace.{rises_none, site_there}
use Rattle.cell_sites.proofs.Dropping.{host_handed, host_within, packets_told}
use Rattle.cell_sites.proofs.Lining.{size_of}
use Rattle.cell_sites.proofs.cells.OpenCell.drop_all.Goals as goal

abbrev does : Cell → ℕ → Cell_run
does c k = resting (record c { handed = dropped_of (host_at c.run.world.hosts k) c.run.world.packets c.handed })

pub returns-in_err-k-clause-refused : goal.returns-in_err-k-clause-refused
returns-in_err-k-clause-refused g c = λ why is.
    let p = err_from_is_err_and c.from_residual.result c.from_residual.ensures.1 in
    let same : c.in_err-k.field-0.0 ≡ why = let given = p.2 in let left = p.1 in cc (given, left, is) in (
      refl,
      λ given cell stands choices.
          c.in_err-k.ensures.up cell (does cell)
          (size_of g.D.Disk c.requires.0.clock c.args.self.now cell c.requires.1.steady stands) stands.sites
          ∙ ap Err same,
    )

pub returns-in_err-k-clause-never_falls : goal.returns-in_err-k-clause-never_falls
returns-in_err-k-clause-never_falls g c = rises_none 0 _

pub index-host-requires : goal.index-host-requires
index-host-requires g c =
    let up = c.in_ok-k.ensures.place.1 in
    let within = host_within g.D.Disk c.requires.0.clock c.args.self.now c.in_ok-k.k c.requires.1.steady up in
    let count = c.args.self.now.hosts.ok.0 in
    omega (arith, within, count)

pub returns-clause-told : goal.returns-clause-told
returns-clause-told g c = λ is given cell text stands.
    let k = c.in_ok-k.k in
    let running = c.args.self.now in
    let packets = c.drop_all.new.self in
    let host = c.index-host.result.now in
    let db = script_database g.V.DraftService.standing.database g.V.DraftWords.words in
    let within = host_within g.D.Disk c.requires.0.clock running k c.requires.1.steady c.in_ok-k.ensures.place.1 in
    let there = site_there running.hosts.items k host within c.index-host.ensures in
    packets_told g.D.Disk db running cell packets
    (dropped_of (host_at cell.run.world.hosts k) cell.run.world.packets cell.handed) _ text
    (λ choices. c.in_ok-k.ensures.up cell (does cell)
    (size_of g.D.Disk c.requires.0.clock running cell c.requires.1.steady stands) stands.sites)
    (ap (λ (t : Traffic). t.sent) c.drop_all.ensures)
    (host_handed running cell packets k host c.drop_all.ensures there stands)
    stands

pub returns-clause-never_falls : goal.returns-clause-never_falls
returns-clause-never_falls g c = rises_none 0 _

pub returns-clause-sound : goal.returns-clause-sound
returns-clause-sound g c = λ bounds still. record {
  steady = sound_with g.D.Disk bounds.clock c.args.self.now c.drop_all.new.self still.steady;
  keeps =
      keeps_with g.V.DraftService.standing.database c.args.self.now c.drop_all.new.self still.keeps
      (ap (λ (t : Traffic). t.sent) c.drop_all.ensures);
  calls = still.calls;
  run = runs_on g.D.Disk (script_database g.V.DraftService.standing.database g.V.DraftWords.words) bounds.asks c.args.self.now
      _ (line.DropAll c.args.server) [] [] c.law_cells_go_on.ensures tt still.run
      (returns-clause-told g c refl still.run.given still.run.cell [] still.run.stands);
  blocks = still.blocks;
}
