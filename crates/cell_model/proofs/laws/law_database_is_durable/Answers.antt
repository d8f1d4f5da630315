use Rattle.cell_model.proofs.WholeWorld.{database_is_durable}
use Rattle.cell_model.proofs.laws.law_database_is_durable.Goals as goal

pub returns : goal.returns
returns c = database_is_durable
