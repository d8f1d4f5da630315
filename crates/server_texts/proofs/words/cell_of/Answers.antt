use Rattle.server_texts.proofs.Cells.{cell_made, cell_not_made}
use Rattle.server_texts.proofs.words.cell_of.Goals as goal

pub returns-in-Ok : goal.returns-in-Ok
returns-in-Ok c = cell_made c.args.hosts.now c.in-Ok.cell c.in-Ok.ensures.cell c.in-Ok.ensures.same

pub returns-in-Err : goal.returns-in-Err
returns-in-Err c = cell_not_made c.args.hosts.now c.in-Err.why c.fault_of.result c.fault_of.ensures c.in-Err.ensures.refused
