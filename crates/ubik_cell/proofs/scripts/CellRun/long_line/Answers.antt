use Rattle.std.proofs.Common.{sym, subst, arith}
use Rattle.cell_runs.specs.Script.{sound_choices}
use Rattle.cell_runs.specs.ScriptDatabase.{Databases, script_database}
use Rattle.ubik_cell.specs.Lines.{LineTold, only}
use Rattle.ubik_cell.specs.declared.scripts.RunEnd.{RunEnd}
use Rattle.std.specs.Prelude.{Result}
use Rattle.std.specs.String.{string_bytes}
use Rattle.ubik_cell.proofs.Refusing.{end_short, end_told}
use Rattle.ubik_cell.proofs.scripts.CellRun.long_line.Goals as goal

pub returns-clause-told : goal.returns-clause-told
returns-clause-told g c = λ goes given line t long at good.
    let dbs : Databases = only (script_database g.V.DraftService.standing.database g.V.DraftWords.words) in
    let ended = c.end.ensures.told goes in
    let run = c.args.self.now in
    let before = string_bytes c.args.text.now in
    let after = string_bytes c.end.new.text in
    subst (λ (r : Result (Unit {0}) RunEnd). LineTold g.D.Disk dbs given line t r run before after) (sym ended.0)
    (end_told g.D.Disk dbs given run t c.requires.sound at line c.long_ending-ending.result before after
    (c.long_ending-ending.ensures dbs t.stage (record { line = line; choices = sound_choices }) (omega (arith, at.stage.lines)) long)
    ended.1)

pub returns-clause-short : goal.returns-clause-short
returns-clause-short g c = λ none given line t at.
    end_short g.D.Disk (only (script_database g.V.DraftService.standing.database g.V.DraftWords.words)) given c.args.self.now t
    c.requires.sound at line
