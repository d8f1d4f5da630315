use Rattle.cell_examples.proofs.Running.{servers_run}
use Rattle.cell_examples.proofs.runs.servers_run.Goals as goal

pub returns : goal.returns
returns c = servers_run
