use Rattle.std.proofs.Common.{[], ◌-◌, ap, length, refl, set, true}
use Rattle.cell_runs.specs.Script.{resting}
use Rattle.cell_runs.specs.ScriptDatabase.{script_database}
use Rattle.cell_sites.specs.Traffic.{Traffic}
use Rattle.cell_script.specs.declared.lines.Line.TheVariants as line
use Rattle.cell_sites.proofs.Behind.{runs_on}
use Rattle.cell_sites.proofs.Delivering.{keeps_with, sound_with}
use Rattle.cell_sites.proofs.AtPlace.{rises_none}
use Rattle.cell_sites.proofs.Dropping.{one_handed, packets_told}
use Rattle.cell_sites.proofs.cells.OpenCell.drop_packet.Goals as goal

pub returns-in_err-number-clause-never_falls : goal.returns-in_err-number-clause-never_falls
returns-in_err-number-clause-never_falls g c = rises_none 0 _

pub returns-clause-told : goal.returns-clause-told
returns-clause-told g c = λ is given c' text stands.
    let handed = set c'.handed (c.args.number - 1) true in
    let running = c.args.self.now in
    let packets = c.hand_over.new.self in
    let db = script_database g.V.DraftService.standing.database g.V.DraftWords.words in
    packets_told g.D.Disk db running c' packets handed _ text
    (λ choices. c.in_ok-number.ensures.there c' (resting (record c' { handed = handed })) (ap length stands.sent))
    (ap (λ (t : Traffic). t.sent) c.hand_over.ensures)
    (one_handed running c' packets c.in_ok-number.number c.args.number c.hand_over.ensures c.in_ok-number.ensures.sent.0 stands)
    stands

pub returns-clause-never_falls : goal.returns-clause-never_falls
returns-clause-never_falls g c = rises_none 0 _

pub returns-clause-sound : goal.returns-clause-sound
returns-clause-sound g c = λ bounds still. record {
  steady = sound_with g.D.Disk bounds.clock c.args.self.now c.hand_over.new.self still.steady;
  keeps =
      keeps_with g.V.DraftService.standing.database c.args.self.now c.hand_over.new.self still.keeps
      (ap (λ (t : Traffic). t.sent) c.hand_over.ensures);
  calls = still.calls;
  run = runs_on g.D.Disk (script_database g.V.DraftService.standing.database g.V.DraftWords.words) bounds.asks c.args.self.now
      _ (line.Drop c.args.number) [] [] c.law_cells_go_on.ensures tt still.run
      (returns-clause-told g c refl still.run.given still.run.cell [] still.run.stands);
  blocks = still.blocks;
}
