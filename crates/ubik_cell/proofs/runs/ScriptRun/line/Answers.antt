use Rattle.std.proofs.Common.{◌-◌}
use Rattle.ubik_cell.proofs.ScriptKinds.{script_short_at}
use Rattle.ubik_cell.proofs.Settling.{script_settled}
use Rattle.ubik_cell.proofs.runs.ScriptRun.line.Goals as goal

pub returns-in-Ok-clause-told : goal.returns-in-Ok-clause-told
returns-in-Ok-clause-told g c = λ goes given t at good. c.own_line.ensures.told goes given t (c.turn_for.ensures.stands given t at) good

pub returns-in-Ok-clause-short : goal.returns-in-Ok-clause-short
returns-in-Ok-clause-short g c = λ short given t at good. c.own_line.ensures.short short given t (c.turn_for.ensures.stands given t at) good

pub returns-in-Err-clause-short : goal.returns-in-Err-clause-short
returns-in-Err-clause-short g c = λ short given t at good.
    script_short_at g.D.Disk given c.turn_for.new.self t c.args.line.now c.turn_for.ensures.sound (c.turn_for.ensures.stands given t at)

pub returns-in-Err-clause-settled : goal.returns-in-Err-clause-settled
returns-in-Err-clause-settled g c = script_settled g.D.Disk c.turn_for.new.self c.turn_for.ensures.sound
