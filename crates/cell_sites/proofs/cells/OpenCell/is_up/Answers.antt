use Rattle.std.proofs.Common.{◌∙◌, Some, ap}
use Rattle.cell_sites.proofs.AtPlace.{site_there}
use Rattle.cell_sites.proofs.cells.OpenCell.is_up.Goals as goal

pub returns-in-Up : goal.returns-in-Up
returns-in-Up g c = record {
  clock = c.index.result.now.clock;
  node = c.in-Up.field-0;
  there = site_there c.args.self.now.sites.items c.args.k c.index.result.now c.requires c.index.ensures
      ∙ ap (λ (s : _). Some (record { clock = c.index.result.now.clock; server = s })) c.in-Up.is;
}
