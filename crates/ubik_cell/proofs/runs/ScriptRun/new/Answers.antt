use Rattle.cell_script.specs.declared.lines.Kind.TheVariants.{Protection}
use Rattle.script_promises.specs.Databases.{databases}
use Rattle.ubik_cell.specs.Lines.{only}
use Rattle.ubik_cell.proofs.runs.ScriptRun.new.Goals as goal

pub returns-clause-at : goal.returns-clause-at
returns-clause-at g c = record { at = c.in_ok-run.ensures.at (only (databases Protection)); kind = tt }
