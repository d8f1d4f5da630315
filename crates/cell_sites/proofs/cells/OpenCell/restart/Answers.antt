use Rattle.std.proofs.Common.{◌≡◌, ◌∙◌, ℕ, Ok, Err, length, refl, ap}
use Rattle.std.specs.String.{string_bytes}
use Rattle.std.proofs.lemmas.Result.{err_from_is_err_and}
use Rattle.cell_model.specs.World.{Restart}
use Rattle.cell_runs.specs.ScriptDatabase.{script_database}
use Rattle.cell_runs.specs.Script.{Cell_run, Choices, first_choice, run_in, with_event}
use Rattle.cell_script.specs.declared.lines.Line.TheVariants as line
use Rattle.cell_sites.proofs.Behind.{runs_on, some_stands}
use Rattle.cell_sites.proofs.AtPlace.{rises_same}
use Rattle.cell_sites.proofs.Downtimes.{reopen_keeps, reopen_line, reopen_many, reopen_rises, reopen_short, reopen_sound}
use Rattle.cell_sites.proofs.Lining.{short_as, size_of, told_as}
use Rattle.cell_sites.proofs.Settling.{reopened_settled, sound_settled}
use Rattle.cell_sites.proofs.cells.OpenCell.restart.Goals as goal

pub returns-in_err-k-clause-refused : goal.returns-in_err-k-clause-refused
returns-in_err-k-clause-refused g c = λ why is.
    let db = script_database g.V.DraftService.standing.database g.V.DraftWords.words in
    let p = err_from_is_err_and c.from_residual.result c.from_residual.ensures.1 in
    let same : c.in_err-k.field-0.0 ≡ why = let given = p.2 in let left = p.1 in cc (given, left, is) in (
      refl,
      λ given cell stands choices.
          let does : ℕ → Cell_run = λ k. with_event db cell (Restart k (first_choice choices).fails) in
          c.in_err-k.ensures.down cell does
          (size_of g.D.Disk c.requires.0.clock c.args.self.now cell c.requires.1.steady stands) stands.sites ∙ ap Err same,
    )

pub returns-in_err-k-clause-never_falls : goal.returns-in_err-k-clause-never_falls
returns-in_err-k-clause-never_falls g c = rises_same _ _ refl

pub returns-in_err-reopen-clause-short : goal.returns-in_err-reopen-clause-short
returns-in_err-reopen-clause-short g c = λ out given cell stands.
    let db = script_database g.V.DraftService.standing.database g.V.DraftWords.words in
    let does : Choices → ℕ → Cell_run = λ choices k. with_event db cell (Restart k (first_choice choices).fails) in
    short_as g.D.Disk (λ choices. run_in db cell choices (line.Restart c.args.server)) (λ choices. Ok (does choices c.in_ok-k.k))
    (λ choices. c.in_ok-k.ensures.down cell (does choices)
    (size_of g.D.Disk c.requires.0.clock c.args.self.now cell c.requires.1.steady stands) stands.sites)
    cell _ _ (reopen_short g.D.Disk
    (script_database g.V.DraftService.standing.database g.V.DraftWords.words) c.args.self.now c.reopen.new.self c.in_ok-k.k _
    (string_bytes c.args.text.now) (string_bytes c.reopen.new.text) c.requires.0.clock c.requires.1.steady c.in_err-reopen.ensures
    (some_stands g.D.Disk g.V.DraftService.standing.database c.requires.0.asks c.args.self.now c.in_ok-k.k _ c.requires.1.run
    c.in_err-reopen.ensures.there)
    given cell stands)

pub returns-in_err-reopen-clause-never_falls : goal.returns-in_err-reopen-clause-never_falls
returns-in_err-reopen-clause-never_falls g c =
    reopen_rises g.D.Disk
    (script_database g.V.DraftService.standing.database g.V.DraftWords.words) c.args.self.now c.reopen.new.self c.in_ok-k.k _
    (string_bytes c.args.text.now) (string_bytes c.reopen.new.text) c.requires.0.clock c.requires.1.steady c.in_err-reopen.ensures
    (some_stands g.D.Disk g.V.DraftService.standing.database c.requires.0.asks c.args.self.now c.in_ok-k.k _ c.requires.1.run
    c.in_err-reopen.ensures.there)

pub returns-in_err-reopen-clause-same : goal.returns-in_err-reopen-clause-same
returns-in_err-reopen-clause-same g c =
    reopen_many g.D.Disk
    (script_database g.V.DraftService.standing.database g.V.DraftWords.words) c.args.self.now c.reopen.new.self c.in_ok-k.k _
    (string_bytes c.args.text.now) (string_bytes c.reopen.new.text) c.requires.0.clock c.requires.1.steady c.in_err-reopen.ensures
    (some_stands g.D.Disk g.V.DraftService.standing.database c.requires.0.asks c.args.self.now c.in_ok-k.k _ c.requires.1.run
    c.in_err-reopen.ensures.there)

pub returns-clause-told : goal.returns-clause-told
returns-clause-told g c = λ ok given cell stands.
    let db = script_database g.V.DraftService.standing.database g.V.DraftWords.words in
    let does : Choices → ℕ → Cell_run = λ choices k. with_event db cell (Restart k (first_choice choices).fails) in
    told_as g.D.Disk (λ choices. run_in db cell choices (line.Restart c.args.server)) (λ choices. Ok (does choices c.in_ok-k.k))
    (λ choices. c.in_ok-k.ensures.down cell (does choices)
    (size_of g.D.Disk c.requires.0.clock c.args.self.now cell c.requires.1.steady stands) stands.sites)
    db _ _ _ _ _ (reopen_line g.D.Disk
    (script_database g.V.DraftService.standing.database g.V.DraftWords.words) c.args.self.now c.reopen.new.self c.in_ok-k.k
    (Ok tt) (string_bytes c.args.text.now) (string_bytes c.reopen.new.text) c.requires.0.clock c.requires.1.steady c.in_ok-reopen.ensures
    (some_stands g.D.Disk g.V.DraftService.standing.database c.requires.0.asks c.args.self.now c.in_ok-k.k _ c.requires.1.run
    c.in_ok-reopen.ensures.there)
    given cell stands refl)

pub returns-clause-sound : goal.returns-clause-sound
returns-clause-sound g c = λ ok bounds still. record {
  steady = reopen_sound g.D.Disk (script_database g.V.DraftService.standing.database g.V.DraftWords.words) c.args.self.now c.reopen.new.self
      c.in_ok-k.k (Ok tt) (string_bytes c.args.text.now)
      (string_bytes c.reopen.new.text) c.requires.0.clock c.requires.1.steady c.in_ok-reopen.ensures
      (some_stands g.D.Disk g.V.DraftService.standing.database c.requires.0.asks c.args.self.now c.in_ok-k.k _ c.requires.1.run
      c.in_ok-reopen.ensures.there) bounds.clock still.steady;
  keeps = reopen_keeps g.D.Disk (script_database g.V.DraftService.standing.database g.V.DraftWords.words) c.args.self.now c.reopen.new.self
      c.in_ok-k.k (Ok tt) (string_bytes c.args.text.now)
      (string_bytes c.reopen.new.text) c.requires.0.clock c.requires.1.steady c.in_ok-reopen.ensures
      (some_stands g.D.Disk g.V.DraftService.standing.database c.requires.0.asks c.args.self.now c.in_ok-k.k _ c.requires.1.run
      c.in_ok-reopen.ensures.there) c.law_writes_spread.ensures still.keeps;
  calls = ap length c.in_ok-reopen.ensures.calls ∙ still.calls;
  run = runs_on g.D.Disk (script_database g.V.DraftService.standing.database g.V.DraftWords.words) bounds.asks c.args.self.now
      c.reopen.new.self (line.Restart c.args.server) (string_bytes c.args.text.now)
      (string_bytes c.reopen.new.text) c.law_cells_go_on.ensures tt still.run
      (returns-clause-told g c refl still.run.given still.run.cell still.run.stands);
  blocks = still.blocks;
}

pub returns-clause-never_falls : goal.returns-clause-never_falls
returns-clause-never_falls g c =
    reopen_rises g.D.Disk
    (script_database g.V.DraftService.standing.database g.V.DraftWords.words) c.args.self.now c.reopen.new.self c.in_ok-k.k (Ok tt)
    (string_bytes c.args.text.now) (string_bytes c.reopen.new.text) c.requires.0.clock c.requires.1.steady c.in_ok-reopen.ensures
    (some_stands g.D.Disk g.V.DraftService.standing.database c.requires.0.asks c.args.self.now c.in_ok-k.k _ c.requires.1.run
    c.in_ok-reopen.ensures.there)

pub returns-clause-same : goal.returns-clause-same
returns-clause-same g c =
    reopen_many g.D.Disk
    (script_database g.V.DraftService.standing.database g.V.DraftWords.words) c.args.self.now c.reopen.new.self c.in_ok-k.k (Ok tt)
    (string_bytes c.args.text.now) (string_bytes c.reopen.new.text) c.requires.0.clock c.requires.1.steady c.in_ok-reopen.ensures
    (some_stands g.D.Disk g.V.DraftService.standing.database c.requires.0.asks c.args.self.now c.in_ok-k.k _ c.requires.1.run
    c.in_ok-reopen.ensures.there)

pub returns-in_err-k-clause-settled : goal.returns-in_err-k-clause-settled
returns-in_err-k-clause-settled g c = sound_settled g.D.Disk c.requires.0.clock c.args.self.now c.requires.1.steady

pub returns-in_err-reopen-clause-settled : goal.returns-in_err-reopen-clause-settled
returns-in_err-reopen-clause-settled g c =
    reopened_settled g.D.Disk (script_database g.V.DraftService.standing.database g.V.DraftWords.words) c.in_ok-k.k _ c.requires.0.clock
    c.args.self.now c.reopen.new.self (string_bytes c.args.text.now)
    (string_bytes c.reopen.new.text) c.requires.1.steady c.in_err-reopen.ensures
    (some_stands g.D.Disk g.V.DraftService.standing.database c.requires.0.asks c.args.self.now c.in_ok-k.k _ c.requires.1.run
    c.in_err-reopen.ensures.there)

pub returns-clause-settled : goal.returns-clause-settled
returns-clause-settled g c =
    reopened_settled g.D.Disk (script_database g.V.DraftService.standing.database g.V.DraftWords.words) c.in_ok-k.k
    (Ok tt) c.requires.0.clock
    c.args.self.now c.reopen.new.self (string_bytes c.args.text.now)
    (string_bytes c.reopen.new.text) c.requires.1.steady c.in_ok-reopen.ensures
    (some_stands g.D.Disk g.V.DraftService.standing.database c.requires.0.asks c.args.self.now c.in_ok-k.k _ c.requires.1.run
    c.in_ok-reopen.ensures.there)
