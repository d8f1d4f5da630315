use Rattle.cell_examples.proofs.Running.{told_servers_run}
use Rattle.cell_examples.proofs.runs.told_servers_run.Goals as goal

pub returns : goal.returns
returns c = told_servers_run
