use Rattle.script_laws.proofs.Telling.{scripts_are_runs}
use Rattle.script_laws.proofs.laws.law_scripts_are_runs.Goals as goal

pub returns : goal.returns
returns c = scripts_are_runs c.law_packets_have_places.ensures
