use Rattle.std.proofs.Common.{◌≡◌, inl, inr, Ok, sym, subst, Some}
use Rattle.std.specs.String.{string_bytes}
use Rattle.cell_script.specs.declared.lines.Line.{Line}
use Rattle.cell_runs.specs.ScriptDatabase.{script_database}
use Rattle.ubik_cell.specs.LineRuns.{LineDone}
use Rattle.ubik_cell.proofs.Lifting.{IsNoAsk, kept_line, lifted}
use Rattle.ubik_cell.proofs.Opened.{nothing_keeps, nothing_line}
use Rattle.ubik_cell.proofs.Settling.{joined_settled, run_settled}
use Rattle.ubik_cell.proofs.scripts.CellRun.run_line.Goals as goal

pub returns-in-Nothing-clause-done : goal.returns-in-Nothing-clause-done
returns-in-Nothing-clause-done g c =
    let db = script_database g.V.DraftService.standing.database g.V.DraftWords.words in
    let text = string_bytes c.args.text.now in
    subst (λ l. LineDone g.D.Disk db l (Ok tt) c.args.self.now c.args.self.now text text) (sym c.in-Nothing.is)
    (nothing_line g.D.Disk db c.args.self.now c.requires.sound text)

pub returns-in-Nothing-clause-kept : goal.returns-in-Nothing-clause-kept
returns-in-Nothing-clause-kept g c =
    nothing_keeps g.D.Disk
    (script_database g.V.DraftService.standing.database g.V.DraftWords.words) c.args.self.now c.requires.sound c.requires.room

pub returns-in-Some : goal.returns-in-Some
returns-in-Some g c =
    let run = c.args.self.now in
    let no = λ (k : Line) (is : c.args.line.now ≡ k) (free : IsNoAsk k). subst IsNoAsk (sym is) free in
    let no_ask : IsNoAsk c.args.line.now = elim c.in-Tick.is [
      | inl a ↦ no _ a.2 tt
      | inr (inl a) ↦ no _ a.1 tt
      | inr (inr (inl a)) ↦ no _ a.1 tt
      | inr (inr (inr (inl a))) ↦ no _ a.1 tt
      | inr (inr (inr (inr (inl a)))) ↦ no _ a.1 tt
      | inr (inr (inr (inr (inr (inl a))))) ↦ no _ a.1 tt
      | inr (inr (inr (inr (inr (inr (inl a)))))) ↦ no _ a.1 tt
      | inr (inr (inr (inr (inr (inr (inr (inl a))))))) ↦ no _ a tt
      | inr (inr (inr (inr (inr (inr (inr (inr (inl a)))))))) ↦ no _ a.3 tt
      | inr (inr (inr (inr (inr (inr (inr (inr (inr (inl a))))))))) ↦ no _ a.1 tt
      | inr (inr (inr (inr (inr (inr (inr (inr (inr (inr (inl a)))))))))) ↦ no _ a.1 tt
      | inr (inr (inr (inr (inr (inr (inr (inr (inr (inr (inr a)))))))))) ↦ no _ a.1 tt
    ] in
    record {
      done =
          lifted g.D.Disk (script_database g.V.DraftService.standing.database g.V.DraftWords.words) c.args.line.now run c.in-Some.cell
          c.run_in_cell.new.cell
          c.run_in_cell.result (string_bytes c.args.text.now) (string_bytes c.run_in_cell.new.text) no_ask c.in-Some.is c.requires.sound
          c.run_in_cell.ensures.done c.run_in_cell.ensures.kept;
      kept = kept_line g.D.Disk c.run_in_cell.result run c.in-Some.cell c.run_in_cell.new.cell c.in-Some.is c.requires.sound c.requires.room
          c.run_in_cell.ensures.kept;
      settled =
          joined_settled g.D.Disk (Some c.run_in_cell.new.cell) run.spare.items c.run_in_cell.ensures.settled c.requires.sound.settled;
    }

pub returns-in-Nothing-clause-settled : goal.returns-in-Nothing-clause-settled
returns-in-Nothing-clause-settled g c = run_settled g.D.Disk c.args.self.now c.requires.sound

pub returns-in-None-clause-settled : goal.returns-in-None-clause-settled
returns-in-None-clause-settled g c = run_settled g.D.Disk c.args.self.now c.requires.sound
