use Rattle.std.proofs.Common.{◌∙◌, ℕ, Ok, length, refl, sym, ap}
use Rattle.cell_runs.specs.ScriptDatabase.{script_database}
use Rattle.cell_runs.specs.Script.{delivered, first_choice, run_in}
use Rattle.cell_script.specs.declared.lines.Line.TheVariants as line
use Rattle.cell_sites.proofs.AtPlace.{rises_same}
use Rattle.cell_sites.proofs.Lining.{told_as}
use Rattle.cell_sites.proofs.Settling.{sound_settled}
use Rattle.cell_sites.proofs.cells.OpenCell.deliver.Goals as goal

pub returns-in_err-number-clause-never_falls : goal.returns-in_err-number-clause-never_falls
returns-in_err-number-clause-never_falls g c = rises_same _ _ refl

pub returns-clause-limit : goal.returns-clause-limit
returns-clause-limit g c = λ which is given cell stands.
    let db = script_database g.V.DraftService.standing.database g.V.DraftWords.words in
    told_as g.D.Disk (λ choices. run_in db cell choices (line.Deliver c.args.number))
    (λ choices. Ok (delivered db cell (first_choice choices) c.in_ok-number.number))
    (λ choices. c.in_ok-number.ensures.there cell (delivered db cell (first_choice choices) c.args.number) (ap length stands.sent)
    ∙ ap (λ (n : ℕ). Ok (delivered db cell (first_choice choices) n)) (sym c.in_ok-number.ensures.sent.0))
    db _ _ _ _ _ (c.deliver_sent.ensures.limit which is given cell stands)

pub returns-clause-told : goal.returns-clause-told
returns-clause-told g c = λ ok given cell stands.
    let db = script_database g.V.DraftService.standing.database g.V.DraftWords.words in
    told_as g.D.Disk (λ choices. run_in db cell choices (line.Deliver c.args.number))
    (λ choices. Ok (delivered db cell (first_choice choices) c.in_ok-number.number))
    (λ choices. c.in_ok-number.ensures.there cell (delivered db cell (first_choice choices) c.args.number) (ap length stands.sent)
    ∙ ap (λ (n : ℕ). Ok (delivered db cell (first_choice choices) n)) (sym c.in_ok-number.ensures.sent.0))
    db _ _ _ _ _ (c.deliver_sent.ensures.told ok given cell stands)

pub returns-in_err-number-clause-settled : goal.returns-in_err-number-clause-settled
returns-in_err-number-clause-settled g c = sound_settled g.D.Disk c.requires.0.clock c.args.self.now c.requires.1.steady
