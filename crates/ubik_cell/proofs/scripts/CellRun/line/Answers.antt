use Rattle.std.proofs.Common.{inl, inr, ◌+◌, Ok, Err, subst}
use Rattle.std.specs.String.{string_bytes}
use Rattle.cell_runs.specs.declared.endings.Ending.TheVariants.{Limit, Refused}
use Rattle.cell_runs.specs.ScriptDatabase.{script_database}
use Rattle.ubik_cell.specs.LineRuns.{EndTold, LineEnds, ReadDone}
use Rattle.ubik_cell.proofs.LineReads.{end_told_of, ends_short, ends_told, line_ended, line_limited, line_ok}
use Rattle.ubik_cell.proofs.scripts.CellRun.line.Given as given
use Rattle.ubik_cell.proofs.scripts.CellRun.line.Goals as goal

pub returns-in-Ok-clause-told : goal.returns-in-Ok-clause-told
returns-in-Ok-clause-told g c =
    let db = script_database g.V.DraftService.standing.database g.V.DraftWords.words in
    let after = c.read_line.new.self in
    let text = string_bytes c.args.text.now in
    let later = string_bytes c.read_line.new.text in
    ends_told g.D.Disk db c.args.line.now c.args.self.now (record after { lines = after.lines + 1 }) text later (Ok tt)
    (line_ok g.D.Disk db c.args.line.now c.args.self.now after text later c.in-Ok.ensures.done)

-- ---- a line that is refused

refused_ends : (g : given.Over) (c : goal.After-end g)
    → LineEnds g.D.Disk (script_database g.V.DraftService.standing.database g.V.DraftWords.words)
    c.args.line.now c.end.result c.args.self.now c.read_line.new.self (string_bytes c.args.text.now) (string_bytes c.end.new.text)
refused_ends g c =
    let db = script_database g.V.DraftService.standing.database g.V.DraftWords.words in
    let run = c.args.self.now in
    let text = string_bytes c.args.text.now in
    let middle = string_bytes c.read_line.new.text in
    let later = string_bytes c.end.new.text in
    let e = Refused c.in-Err-Refused.why in
    let done = subst (λ f. ReadDone g.D.Disk db c.args.line.now (Err f) run c.read_line.new.self text middle) c.in-Err-Refused.field-0-is
    c.in-Err-Refused.ensures.done in
    line_ended g.D.Disk db c.args.line.now run e c.end.result c.read_line.new.self text middle later c.requires.sound done
    (subst (λ n. EndTold (n + 1) e c.end.result middle later) c.read_line.ensures.kept.lines
    (end_told_of (c.read_line.new.self.lines + 1) e c.end.result middle later c.end.ensures.told c.end.ensures.ends))

pub returns-in-Err-Refused-clause-told : goal.returns-in-Err-Refused-clause-told
returns-in-Err-Refused-clause-told g c =
    ends_told g.D.Disk (script_database g.V.DraftService.standing.database g.V.DraftWords.words) c.args.line.now c.args.self.now
    c.read_line.new.self
    (string_bytes c.args.text.now) (string_bytes c.end.new.text) c.end.result (refused_ends g c)

pub returns-in-Err-Refused-clause-short : goal.returns-in-Err-Refused-clause-short
returns-in-Err-Refused-clause-short g c =
    ends_short g.D.Disk (script_database g.V.DraftService.standing.database g.V.DraftWords.words) c.args.line.now c.args.self.now
    c.read_line.new.self
    (string_bytes c.args.text.now) (string_bytes c.end.new.text) c.end.result (refused_ends g c)

-- ---- a line that passes a limit

limit_ends : (g : given.Over) (c : goal.After-end-in-Err-Limit g)
    → LineEnds g.D.Disk (script_database g.V.DraftService.standing.database g.V.DraftWords.words)
    c.args.line.now c.end-in-Err-Limit.result c.args.self.now c.read_line.new.self (string_bytes c.args.text.now)
    (string_bytes c.end-in-Err-Limit.new.text)
limit_ends g c =
    let db = script_database g.V.DraftService.standing.database g.V.DraftWords.words in
    let run = c.args.self.now in
    let text = string_bytes c.args.text.now in
    let middle = string_bytes c.read_line.new.text in
    let later = string_bytes c.end-in-Err-Limit.new.text in
    let e = Limit c.in-Err-Limit.which in
    let told = subst (λ n. EndTold (n + 1) e c.end-in-Err-Limit.result middle later) c.read_line.ensures.kept.lines
    (end_told_of (c.read_line.new.self.lines + 1) e c.end-in-Err-Limit.result middle later c.end-in-Err-Limit.ensures.told
    c.end-in-Err-Limit.ensures.ends) in
    elim (subst (λ f. ReadDone g.D.Disk db c.args.line.now (Err f) run c.read_line.new.self text middle) c.in-Err-Limit.field-0-is
    c.in-Err-Limit.ensures.done) [
      | inl ended ↦ line_ended g.D.Disk db c.args.line.now run e c.end-in-Err-Limit.result c.read_line.new.self text middle later
          c.requires.sound ended told
      | inr passed ↦ line_limited g.D.Disk db c.args.line.now run e c.end-in-Err-Limit.result c.read_line.new.self text middle later
          passed told
    ]

pub returns-in-Err-Limit-clause-told : goal.returns-in-Err-Limit-clause-told
returns-in-Err-Limit-clause-told g c =
    ends_told g.D.Disk (script_database g.V.DraftService.standing.database g.V.DraftWords.words) c.args.line.now c.args.self.now
    c.read_line.new.self
    (string_bytes c.args.text.now) (string_bytes c.end-in-Err-Limit.new.text) c.end-in-Err-Limit.result (limit_ends g c)

pub returns-in-Err-Limit-clause-short : goal.returns-in-Err-Limit-clause-short
returns-in-Err-Limit-clause-short g c =
    ends_short g.D.Disk (script_database g.V.DraftService.standing.database g.V.DraftWords.words) c.args.line.now c.args.self.now
    c.read_line.new.self
    (string_bytes c.args.text.now) (string_bytes c.end-in-Err-Limit.new.text) c.end-in-Err-Limit.result (limit_ends g c)
