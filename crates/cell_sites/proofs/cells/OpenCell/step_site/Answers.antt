use Rattle.std.proofs.Common.{refl}
use Rattle.cell_sites.specs.Causes.{event_at}
use Rattle.cell_sites.proofs.Sited.{goes_down, placed, stays_up}
use Rattle.cell_sites.proofs.cells.OpenCell.step_site.Goals as goal

pub take_down-requires : goal.take_down-requires
take_down-requires g c = record {
  place =
      placed g.D.Disk g.V.DraftService.standing.database c.args.k
      (event_at c.args.self.now c.args.cause) c.step_up-end.result c.args.self.now c.step_up-end.new.self
      c.step_up-end.ensures;
}

pub returns-in-Stops : goal.returns-in-Stops
returns-in-Stops g c =
    let mid = c.step_up-end.new.self in
    goes_down g.D.Disk g.V.DraftService.standing.database c.args.k
    (event_at c.args.self.now c.args.cause) c.step_up-end.result c.args.self.now mid c.step_up-end.ensures c.in-Stops.is
    (record mid { outputs = c.drop_outputs.new.out }) c.take_down.new.self refl refl refl refl c.drop_outputs.ensures c.take_down.ensures

pub returns-in_default : goal.returns-in_default
returns-in_default g c =
    stays_up g.D.Disk g.V.DraftService.standing.database c.args.k
    (event_at c.args.self.now c.args.cause) c.step_up-end.result c.args.self.now c.step_up-end.new.self c.step_up-end.ensures
    c.in_default.not-Stops
