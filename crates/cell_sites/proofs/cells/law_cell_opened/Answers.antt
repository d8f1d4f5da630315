use Rattle.cell_sites.proofs.Opened.{all_opened}
use Rattle.cell_sites.proofs.cells.law_cell_opened.Goals as goal

pub returns : goal.returns
returns g c = λ db clock k given running before after moment room same opened.
    all_opened g.D.Disk db clock k given running before after c.law_cells_go_on.ensures c.law_writes_spread.ensures moment room same opened
