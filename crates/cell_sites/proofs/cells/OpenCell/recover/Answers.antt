use Rattle.std.proofs.Common.{◌≡◌, ◌∙◌, ℕ, length, Ok, Err, refl, ap}
use Rattle.std.proofs.lemmas.Result.{err_from_is_err_and}
use Rattle.cell_model.specs.World.{Recover_turn}
use Rattle.std.specs.String.{string_bytes}
use Rattle.cell_runs.specs.ScriptDatabase.{script_database}
use Rattle.cell_runs.specs.Script.{Cell_run, Choices, first_choice, run_in, stepped}
use Rattle.cell_script.specs.declared.lines.Line.TheVariants as line
use Rattle.cell_sites.proofs.Behind.{runs_on}
use Rattle.cell_sites.proofs.AtPlace.{rises_same}
use Rattle.cell_sites.proofs.Lining.{short_as, size_of, told_as}
use Rattle.cell_sites.proofs.Settling.{sound_settled}
use Rattle.cell_sites.proofs.cells.OpenCell.recover.Goals as goal

pub returns-in_err-k-clause-refused : goal.returns-in_err-k-clause-refused
returns-in_err-k-clause-refused g c = λ why is.
    let db = script_database g.V.DraftService.standing.database g.V.DraftWords.words in
    let p = err_from_is_err_and c.from_residual.result c.from_residual.ensures.1 in
    let same : c.in_err-k.field-0.0 ≡ why = let given = p.2 in let left = p.1 in cc (given, left, is) in (
      refl,
      λ given cell stands choices.
          let does : ℕ → Cell_run = λ k. stepped db cell (first_choice choices) (Recover_turn k) in
          c.in_err-k.ensures.up cell does
          (size_of g.D.Disk c.requires.0.clock c.args.self.now cell c.requires.1.steady stands) stands.sites ∙ ap Err same,
    )

pub returns-in_err-k-clause-never_falls : goal.returns-in_err-k-clause-never_falls
returns-in_err-k-clause-never_falls g c = rises_same _ _ refl

pub returns-clause-told : goal.returns-clause-told
returns-clause-told g c = λ ok given cell stands.
    let db = script_database g.V.DraftService.standing.database g.V.DraftWords.words in
    let does : Choices → ℕ → Cell_run = λ choices k. stepped db cell (first_choice choices) (Recover_turn k) in
    told_as g.D.Disk (λ choices. run_in db cell choices (line.Recover c.args.server)) (λ choices. Ok (does choices c.in_ok-k.k))
    (λ choices. c.in_ok-k.ensures.up cell (does choices)
    (size_of g.D.Disk c.requires.0.clock c.args.self.now cell c.requires.1.steady stands) stands.sites)
    db _ _ _ _ _ (c.step.ensures.told ok given cell (Recover_turn c.in_ok-k.k) stands refl)

pub returns-clause-limit : goal.returns-clause-limit
returns-clause-limit g c = λ which is given cell stands.
    let db = script_database g.V.DraftService.standing.database g.V.DraftWords.words in
    let does : Choices → ℕ → Cell_run = λ choices k. stepped db cell (first_choice choices) (Recover_turn k) in
    told_as g.D.Disk (λ choices. run_in db cell choices (line.Recover c.args.server)) (λ choices. Ok (does choices c.in_ok-k.k))
    (λ choices. c.in_ok-k.ensures.up cell (does choices)
    (size_of g.D.Disk c.requires.0.clock c.args.self.now cell c.requires.1.steady stands) stands.sites)
    db _ _ _ _ _ (c.step.ensures.limit which is given cell (Recover_turn c.in_ok-k.k) stands refl)

pub returns-clause-short : goal.returns-clause-short
returns-clause-short g c = λ is given cell stands.
    let db = script_database g.V.DraftService.standing.database g.V.DraftWords.words in
    let does : Choices → ℕ → Cell_run = λ choices k. stepped db cell (first_choice choices) (Recover_turn k) in
    short_as g.D.Disk (λ choices. run_in db cell choices (line.Recover c.args.server)) (λ choices. Ok (does choices c.in_ok-k.k))
    (λ choices. c.in_ok-k.ensures.up cell (does choices)
    (size_of g.D.Disk c.requires.0.clock c.args.self.now cell c.requires.1.steady stands) stands.sites)
    cell _ _ (c.step.ensures.short is given cell (Recover_turn c.in_ok-k.k) stands refl)

pub step-requires-clause-brought : goal.step-requires-clause-brought
step-requires-clause-brought g c = tt

pub returns-clause-sound : goal.returns-clause-sound
returns-clause-sound g c = λ ok bounds still. record {
  steady = c.step.ensures.steady ok bounds.clock still.steady;
  keeps = c.step.ensures.keeps ok;
  calls = ap length c.step.ensures.calls ∙ still.calls;
  run = runs_on g.D.Disk (script_database g.V.DraftService.standing.database g.V.DraftWords.words) bounds.asks c.args.self.now
      c.step.new.self (line.Recover c.args.server) (string_bytes c.args.text.now)
      (string_bytes c.step.new.text) c.law_cells_go_on.ensures tt still.run
      (returns-clause-told g c ok still.run.given still.run.cell still.run.stands);
  blocks = still.blocks;
}

pub returns-in_err-k-clause-settled : goal.returns-in_err-k-clause-settled
returns-in_err-k-clause-settled g c = sound_settled g.D.Disk c.requires.0.clock c.args.self.now c.requires.1.steady
