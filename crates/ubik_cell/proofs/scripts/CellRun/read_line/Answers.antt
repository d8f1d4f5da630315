use Rattle.std.proofs.Common.{◌≡◌, Ok, Err, sym, ◌∙◌}
use Rattle.std.specs.String.{string_bytes}
use Rattle.cell_script.specs.Meaning.{line_of}
use Rattle.cell_runs.specs.ScriptDatabase.{script_database}
use Rattle.cell_sites.specs.declared.faults.LineFault.TheVariants.{NoMemory, Refused}
use Rattle.ubik_cell.specs.LineRuns.{ReadDone}
use Rattle.ubik_cell.proofs.CellLines.{handed_on}
use Rattle.ubik_cell.proofs.LineReads.{ended_meaning, read_done, short_read}
use Rattle.ubik_cell.proofs.Settling.{run_settled}
use Rattle.ubik_cell.proofs.scripts.CellRun.read_line.Goals as goal

pub returns-in_err-meaning-clause-done : goal.returns-in_err-meaning-clause-done
returns-in_err-meaning-clause-done g c =
    let db = script_database g.V.DraftService.standing.database g.V.DraftWords.words in
    let run = c.args.self.now in
    let text = string_bytes c.args.text.now in
    handed_on (λ r. ReadDone g.D.Disk db c.args.line.now r run run text text) c.from_residual.result NoMemory c.from_residual.ensures.1
    (short_read g.D.Disk db c.args.line.now run c.requires.sound text)

pub returns-in_err-line-clause-done : goal.returns-in_err-line-clause-done
returns-in_err-line-clause-done g c =
    let db = script_database g.V.DraftService.standing.database g.V.DraftWords.words in
    let run = c.args.self.now in
    let text = string_bytes c.args.text.now in
    let why = c.in_err-line.field-0.0 in
    let is : line_of c.args.line.now ≡ Err why =
    sym c.in_ok-meaning.ensures.meaning ∙ c.in_err-line.was in
    handed_on (λ r. ReadDone g.D.Disk db c.args.line.now r run run text text) c.from_residual-in_err-line.result (Refused why)
    c.from_residual-in_err-line.ensures.1
    (ended_meaning g.D.Disk db c.args.line.now run c.requires.sound why text c.if-self-ge-MAX_LINES.false is)

pub returns-clause-done : goal.returns-clause-done
returns-clause-done g c =
    let db = script_database g.V.DraftService.standing.database g.V.DraftWords.words in
    let run = c.args.self.now in
    let is : line_of c.args.line.now ≡ Ok c.in_ok-line.line =
    sym c.in_ok-meaning.ensures.meaning ∙ c.in_ok-line.was in
    read_done g.D.Disk db c.args.line.now run c.requires.sound c.in_ok-line.line c.if-self-ge-MAX_LINES.false is c.run_line.new.self
    (string_bytes c.args.text.now) (string_bytes c.run_line.new.text) c.run_line.result c.run_line.ensures.done

pub returns-then-self-ge-MAX_LINES-clause-settled : goal.returns-then-self-ge-MAX_LINES-clause-settled
returns-then-self-ge-MAX_LINES-clause-settled g c = run_settled g.D.Disk c.args.self.now c.requires.sound

pub returns-in_err-meaning-clause-settled : goal.returns-in_err-meaning-clause-settled
returns-in_err-meaning-clause-settled g c = run_settled g.D.Disk c.args.self.now c.requires.sound

pub returns-in_err-line-clause-settled : goal.returns-in_err-line-clause-settled
returns-in_err-line-clause-settled g c = run_settled g.D.Disk c.args.self.now c.requires.sound
