use Rattle.std.proofs.Common.{◌≡◌, ◌+◌, Some, Ok, Err, refl, sym, ap, subst, ◌∙◌, arith}
use Rattle.std.specs.Result.{result_ok}
use Rattle.std.specs.String.{string_bytes}
use Rattle.cell_script.specs.declared.lines.Line.TheVariants as line
use Rattle.cell_runs.specs.Script.{Cell, Choices, asked_at, first_choice}
use Rattle.cell_runs.specs.ScriptDatabase.{script_database}
use Rattle.cell_sites.specs.declared.faults.LineFault.TheVariants.{NoMemory}
use Rattle.ubik_cell.specs.LineRuns.{CellDone, LineDone}
use Rattle.ubik_cell.specs.Lines.{CellIsSound, bounds_after, clock_bound}
use Rattle.ubik_cell.proofs.CellLines.{cell_done, handed_on, raised}
use Rattle.ubik_cell.proofs.Lifting.{asked_err, asked_ok, kept_run, same_again, short_same, with_cell}
use Rattle.ubik_cell.proofs.Settling.{here_settled, joined_settled, run_settled}
use Rattle.ubik_cell.proofs.scripts.CellRun.ask.Goals as goal

pub ask-requires-clause-next : goal.ask-requires-clause-next
ask-requires-clause-next g c =
    let run = c.args.self.now in
    let calls = (subst (CellIsSound g.D.Disk g.V.DraftService.standing (bounds_after run.lines run.asks)) c.in-Some.is
    c.requires.sound.cell).calls in
    omega (arith, calls)

pub returns-in_err-call-clause-done : goal.returns-in_err-call-clause-done
returns-in_err-call-clause-done g c =
    let text = string_bytes c.args.text.now in
    let db = script_database g.V.DraftService.standing.database g.V.DraftWords.words in
    let run = c.args.self.now in
    let l = line.Ask c.args.server c.args.words.now in
    let same : with_cell run c.in-Some.cell ≡ run = same_again run c.in-Some.cell c.in-Some.cell c.in-Some.is refl in
    handed_on (λ r. LineDone g.D.Disk db l r run (with_cell run c.in-Some.cell) text text) c.from_residual.result NoMemory
    c.from_residual.ensures.1
    (subst (λ after. LineDone g.D.Disk db l (Err NoMemory) run after text text) (sym same)
    (short_same g.D.Disk db l run text text c.requires.sound))

pub returns-in_err-ask-clause-done : goal.returns-in_err-ask-clause-done
returns-in_err-ask-clause-done g c =
    let text = string_bytes c.args.text.now in
    let later = string_bytes c.ask.new.text in
    let db = script_database g.V.DraftService.standing.database g.V.DraftWords.words in
    let run = c.args.self.now in
    let number : c.args.server ≡ Some c.in_ok-server.server = c.ok_or.ensures.ok_part ∙ ap result_ok c.in_ok-server.was in
    let named : g.V.DraftWords.words.call_of c.args.words.now ≡ Some c.in-Some-2.call =
    ap g.V.DraftWords.words.call_of (sym c.as_slice.ensures) ∙ sym c.in_ok-call.ensures ∙ c.in-Some-2.is in
    let so = λ (cell : Cell) (choices : Choices). asked_at db cell (first_choice choices) (run.asks + 1) c.in-Some-2.call
    (Some c.in_ok-server.server) in
    let cell = cell_done g.D.Disk c.in-Some.cell c.ask.new.self db so c.ask.result text later
    c.ask.ensures.told c.ask.ensures.limit c.ask.ensures.refused c.ask.ensures.quiet c.ask.ensures.short in
    handed_on (λ r. LineDone g.D.Disk db (line.Ask c.args.server c.args.words.now) r run (with_cell run c.ask.new.self) text later)
    c.from_residual-in_err-ask.result c.in_err-ask.field-0.0 c.from_residual-in_err-ask.ensures.1
    (subst (λ server. LineDone g.D.Disk db (line.Ask server c.args.words.now) (Err c.in_err-ask.field-0.0) run
    (with_cell run c.ask.new.self) text later) (sym number)
    (asked_err g.D.Disk db c.args.words.now c.in-Some-2.call c.in_ok-server.server named run c.in-Some.cell c.ask.new.self c.in-Some.is
    c.requires.sound text later
    c.in_err-ask.field-0.0
    (subst (λ r. CellDone g.D.Disk db so r c.in-Some.cell c.ask.new.self text later) c.in_err-ask.was cell) c.ask.ensures.same
    c.ask.ensures.never_falls))

pub returns-clause-done : goal.returns-clause-done
returns-clause-done g c =
    let text = string_bytes c.args.text.now in
    let later = string_bytes c.ask.new.text in
    let db = script_database g.V.DraftService.standing.database g.V.DraftWords.words in
    let run = c.args.self.now in
    let number : c.args.server ≡ Some c.in_ok-server.server = c.ok_or.ensures.ok_part ∙ ap result_ok c.in_ok-server.was in
    let named : g.V.DraftWords.words.call_of c.args.words.now ≡ Some c.in-Some-2.call =
    ap g.V.DraftWords.words.call_of (sym c.as_slice.ensures) ∙ sym c.in_ok-call.ensures ∙ c.in-Some-2.is in
    subst (λ server. LineDone g.D.Disk db (line.Ask server c.args.words.now) (Ok tt) run
    (record run { cell = Some c.ask.new.self; asks = run.asks + 1 }) text later) (sym number)
    (asked_ok g.D.Disk db c.args.words.now c.in-Some-2.call c.in_ok-server.server named run c.in-Some.cell c.ask.new.self c.in-Some.is
    c.requires.sound
    text later (c.in_ok-ask.ensures.told refl) c.ask.ensures.same)

pub returns-clause-kept : goal.returns-clause-kept
returns-clause-kept g c =
    let run = c.args.self.now in
    kept_run g.D.Disk (Ok tt) run c.in-Some.cell c.ask.new.self (run.asks + 1) c.in-Some.is c.requires.sound c.requires.room
    (omega (arith, c.requires.sound.asks)) c.ask.ensures.same
    (λ done is. raised g.D.Disk g.V.DraftService.standing.database (bounds_after run.lines (run.asks + 1))
    (clock_bound (run.lines + 1)) c.ask.new.self
    (omega arith) (c.in_ok-ask.ensures.sound refl (bounds_after run.lines run.asks) (omega arith) is))

-- ---- nothing stays pending

pub returns-in_default-clause-settled : goal.returns-in_default-clause-settled
returns-in_default-clause-settled g c = run_settled g.D.Disk c.args.self.now c.requires.sound

pub returns-in_err-call-clause-settled : goal.returns-in_err-call-clause-settled
returns-in_err-call-clause-settled g c =
    joined_settled g.D.Disk (Some c.in-Some.cell) c.args.self.now.spare.items
    (here_settled g.D.Disk c.args.self.now c.in-Some.cell c.in-Some.is c.requires.sound) c.requires.sound.settled

pub returns-in_default-2-clause-settled : goal.returns-in_default-2-clause-settled
returns-in_default-2-clause-settled g c =
    joined_settled g.D.Disk (Some c.in-Some.cell) c.args.self.now.spare.items
    (here_settled g.D.Disk c.args.self.now c.in-Some.cell c.in-Some.is c.requires.sound) c.requires.sound.settled

pub returns-in_err-server-clause-settled : goal.returns-in_err-server-clause-settled
returns-in_err-server-clause-settled g c =
    joined_settled g.D.Disk (Some c.in-Some.cell) c.args.self.now.spare.items
    (here_settled g.D.Disk c.args.self.now c.in-Some.cell c.in-Some.is c.requires.sound) c.requires.sound.settled

pub returns-in_err-ask-clause-settled : goal.returns-in_err-ask-clause-settled
returns-in_err-ask-clause-settled g c =
    joined_settled g.D.Disk (Some c.ask.new.self) c.args.self.now.spare.items c.ask.ensures.settled c.requires.sound.settled

pub returns-clause-settled : goal.returns-clause-settled
returns-clause-settled g c =
    joined_settled g.D.Disk (Some c.ask.new.self) c.args.self.now.spare.items c.ask.ensures.settled c.requires.sound.settled
