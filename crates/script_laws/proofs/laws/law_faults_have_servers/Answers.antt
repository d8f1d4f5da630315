use Rattle.script_laws.proofs.ToldFaults.{faults_have_servers}
use Rattle.script_laws.proofs.laws.law_faults_have_servers.Goals as goal

pub returns : goal.returns
returns c = faults_have_servers c.law_scripts_are_runs.ensures
