use Rattle.std.proofs.Common.{subst}
use Rattle.std.specs.String.{string_bytes}
use Rattle.ubik_cell.specs.ScriptRuns.{OpensItsKind, StandsAt}
use Rattle.ubik_cell.proofs.ScriptKinds.{location_short, location_told, protection_short, protection_told}
use Rattle.ubik_cell.proofs.runs.ScriptRun.own_line.Goals as goal

pub returns-in-Protection-clause-told : goal.returns-in-Protection-clause-told
returns-in-Protection-clause-told g c = λ goes given t at good.
    let run = c.in-Protection.run' in
    let line = c.args.line.now in
    let here = subst (λ r. StandsAt g.D.Disk given r t) c.in-Protection.is at in
    let opens = subst (OpensItsKind line) c.in-Protection.is c.requires.opens in
    protection_told g.D.Disk given line t run c.line.new.self c.line.result (string_bytes c.args.text.now)
    (string_bytes c.line.new.text) here opens
    (c.line.ensures.told goes given t here.at good)

pub returns-in-Protection-clause-short : goal.returns-in-Protection-clause-short
returns-in-Protection-clause-short g c = λ short given t at good.
    let run = c.in-Protection.run' in
    let line = c.args.line.now in
    let here = subst (λ r. StandsAt g.D.Disk given r t) c.in-Protection.is at in
    let opens = subst (OpensItsKind line) c.in-Protection.is c.requires.opens in
    protection_short g.D.Disk given line t run c.line.new.self here opens (c.line.ensures.short short given t here.at good)

pub returns-in-Location-clause-told : goal.returns-in-Location-clause-told
returns-in-Location-clause-told g c = λ goes given t at good.
    let run = c.in-Location.run' in
    let line = c.args.line.now in
    let here = subst (λ r. StandsAt g.D.Disk given r t) c.in-Location.is at in
    let opens = subst (OpensItsKind line) c.in-Location.is c.requires.opens in
    location_told g.D.Disk given line t run c.line-in-Location.new.self c.line-in-Location.result (string_bytes c.args.text.now)
    (string_bytes c.line-in-Location.new.text) here opens
    (c.line-in-Location.ensures.told goes given t here.at good)

pub returns-in-Location-clause-short : goal.returns-in-Location-clause-short
returns-in-Location-clause-short g c = λ short given t at good.
    let run = c.in-Location.run' in
    let line = c.args.line.now in
    let here = subst (λ r. StandsAt g.D.Disk given r t) c.in-Location.is at in
    let opens = subst (OpensItsKind line) c.in-Location.is c.requires.opens in
    location_short g.D.Disk given line t run c.line-in-Location.new.self here opens
    (c.line-in-Location.ensures.short short given t here.at good)
