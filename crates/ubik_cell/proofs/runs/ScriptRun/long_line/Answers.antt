use Rattle.std.proofs.Common.{subst, sym}
use Rattle.std.specs.String.{string_bytes}
use Rattle.cell_script.specs.declared.lines.Kind.TheVariants.{Location, Protection}
use Rattle.script_promises.specs.Databases.{databases}
use Rattle.ubik_cell.specs.Lines.{ShortLine}
use Rattle.ubik_cell.specs.ScriptRuns.{ScriptTold, StandsAt, script_helds}
use Rattle.ubik_cell.proofs.ScriptKinds.{location_short, location_told, long_opens, protection_short, protection_told}
use Rattle.ubik_cell.proofs.runs.ScriptRun.long_line.Goals as goal

pub returns-in-Protection-clause-told : goal.returns-in-Protection-clause-told
returns-in-Protection-clause-told g c = λ goes given line t long at good.
    let run = c.in-Protection.run' in
    let here = subst (λ r. StandsAt g.D.Disk given r t) c.in-Protection.is at in
    let next = subst (λ r. ScriptTold g.D.Disk given line t c.long_line.result r (string_bytes c.args.text.now)
    (string_bytes c.long_line.new.text)) (sym c.in-Protection.is) in
    next (protection_told g.D.Disk given line t run run c.long_line.result (string_bytes c.args.text.now)
    (string_bytes c.long_line.new.text) here
    (long_opens g.D.Disk Protection run.cell line long) (c.long_line.ensures.told goes given line t long here.at good))

pub returns-in-Protection-clause-short : goal.returns-in-Protection-clause-short
returns-in-Protection-clause-short g c = λ short given line t long at.
    let run = c.in-Protection.run' in
    let here = subst (λ r. StandsAt g.D.Disk given r t) c.in-Protection.is at in
    subst (λ r. ShortLine databases given line t (script_helds g.D.Disk r)) (sym c.in-Protection.is)
    (protection_short g.D.Disk given line t run run here (long_opens g.D.Disk Protection run.cell line long)
    (c.long_line.ensures.short short given line t here.at))

pub returns-in-Location-clause-told : goal.returns-in-Location-clause-told
returns-in-Location-clause-told g c = λ goes given line t long at good.
    let run = c.in-Location.run' in
    let here = subst (λ r. StandsAt g.D.Disk given r t) c.in-Location.is at in
    let next = subst (λ r. ScriptTold g.D.Disk given line t c.long_line-in-Location.result r (string_bytes c.args.text.now)
    (string_bytes c.long_line-in-Location.new.text)) (sym c.in-Location.is) in
    next (location_told g.D.Disk given line t run run c.long_line-in-Location.result (string_bytes c.args.text.now)
    (string_bytes c.long_line-in-Location.new.text) here
    (long_opens g.D.Disk Location run.cell line long) (c.long_line-in-Location.ensures.told goes given line t long here.at good))

pub returns-in-Location-clause-short : goal.returns-in-Location-clause-short
returns-in-Location-clause-short g c = λ short given line t long at.
    let run = c.in-Location.run' in
    let here = subst (λ r. StandsAt g.D.Disk given r t) c.in-Location.is at in
    subst (λ r. ShortLine databases given line t (script_helds g.D.Disk r)) (sym c.in-Location.is)
    (location_short g.D.Disk given line t run run here (long_opens g.D.Disk Location run.cell line long)
    (c.long_line-in-Location.ensures.short short given line t here.at))
