use Rattle.pt_database.specs.ServiceLaws.{database_is_meant, database_never_shrinks}
use Rattle.pt_database.proofs.Lawful.{leaves_states}
use Rattle.pt_database.proofs.laws.protection_calls_are_meant.Goals as goal

pub returns-clause-meant : goal.returns-clause-meant
returns-clause-meant c = database_is_meant

pub returns-clause-leaves : goal.returns-clause-leaves
returns-clause-leaves c = leaves_states

pub returns-clause-longer : goal.returns-clause-longer
returns-clause-longer c = database_never_shrinks
