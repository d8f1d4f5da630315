use Rattle.std.proofs.Common.{◌≡◌, ◌∙◌, ◌+◌, ℕ, inl, true, List, [], Some, None, Ok, Err, length, refl, sym, ap, subst}
use Rattle.std.proofs.lemmas.Result.{err_from_is_err_and}
use Rattle.cell_model.specs.declared.events.NodeEvent.TheVariants as event
use Rattle.cell_model.specs.World.{Asking}
use Rattle.std.specs.String.{string_bytes}
use Rattle.cell_runs.specs.declared.endings.Ending.TheVariants as ending
use Rattle.cell_runs.specs.ScriptDatabase.{script_database}
use Rattle.cell_runs.specs.Script.{Cell_run, Choices, asked_at, first_choice, stepped}
use Rattle.cell_sites.specs.Causes.{event_at}
use Rattle.cell_sites.specs.declared.causes.Cause.TheVariants as cause
use Rattle.cell_sites.specs.Counts.{HoldRun}
use Rattle.cell_sites.specs.Disks.{AreRises, AreSettled}
use Rattle.cell_sites.specs.Places.{IsUpAt}
use Rattle.cell_sites.specs.Sites.{IsModelledBy, disks_of, helds}
use Rattle.cell_sites.specs.Sound.{IsSound, IsSteady}
use Rattle.cell_sites.specs.Told.{CellTold, IsShort}
use Rattle.cell_sites.specs.declared.cells.OpenCell.{OpenCell}
use Rattle.cell_sites.proofs.Answering.{length_more, stands_kept}
use Rattle.cell_sites.proofs.Asking.{kept_sound, kept_stands, kept_steady, kept_up, short_from, told_from}
use Rattle.cell_sites.proofs.Behind.{asked_on}
use Rattle.cell_sites.proofs.AtPlace.{rises_same}
use Rattle.cell_sites.proofs.Lining.{short_as, size_of, told_as}
use Rattle.cell_sites.proofs.Reading.{nothing_done}
use Rattle.cell_sites.proofs.Settling.{sound_settled}
use Rattle.cell_sites.proofs.cells.OpenCell.ask.Goals as goal

pub returns-in_err-k-clause-refused : goal.returns-in_err-k-clause-refused
returns-in_err-k-clause-refused g c = λ reason is.
    let db = script_database g.V.DraftService.standing.database g.V.DraftWords.words in
    let p = err_from_is_err_and c.from_residual.result c.from_residual.ensures.1 in
    let same : c.in_err-k.field-0.0 ≡ reason = let given = p.2 in let left = p.1 in cc (given, left, is) in (
      refl,
      λ given cell stands choices.
          let does : ℕ → Cell_run = λ k. stepped db cell (first_choice choices) (Asking k c.args.id c.args.call) in
          let size = size_of g.D.Disk c.requires.sound.0.clock c.args.self.now cell c.requires.sound.1.steady stands in
          c.in_err-k.ensures.up cell does size stands.sites ∙ ap Err same,
    )

pub returns-in_err-k-clause-never_falls : goal.returns-in_err-k-clause-never_falls
returns-in_err-k-clause-never_falls g c = rises_same _ _ refl

-- ---- the call is kept

pub returns-in_err-keep-clause-short : goal.returns-in_err-keep-clause-short
returns-in_err-keep-clause-short g c = λ is given cell stands.
    inl (subst (λ (r : OpenCell _ _ _). HoldRun g.V.DraftService.standing.database given true cell (helds g.D.Disk r))
    (sym c.in_err-keep.ensures.same)
    (nothing_done g.D.Disk g.V.DraftService.standing.database given c.args.self.now cell stands))

pub returns-in_err-keep-clause-never_falls : goal.returns-in_err-keep-clause-never_falls
returns-in_err-keep-clause-never_falls g c = rises_same _ _ (ap (λ (r : OpenCell _ _ _). helds g.D.Disk r) c.in_err-keep.ensures.same)

pub returns-in_err-keep-clause-same : goal.returns-in_err-keep-clause-same
returns-in_err-keep-clause-same g c = ap (λ (r : OpenCell _ _ _). length r.sites.items) c.in_err-keep.ensures.same

pub step-requires-clause-sound : goal.step-requires-clause-sound
step-requires-clause-sound g c =
    let b = c.requires.sound.0 in (
      record b { asks = c.args.id },
      subst (λ (r : OpenCell _ _ _). IsSound g.D.Disk g.V.DraftService.standing.database (record b { asks = c.args.id }) r)
          (sym c.in_ok-keep.ensures.same)
          (kept_sound g.D.Disk c.args.self.now c.keep.new.self.calls g.V.DraftService.standing.database b c.args.call c.args.id
          c.in_ok-keep.ensures.kept c.requires.next c.requires.sound.1),
    )

pub step-requires-clause-up : goal.step-requires-clause-up
step-requires-clause-up g c =
    subst (λ (r : OpenCell _ _ _). IsUpAt r c.in_ok-k.k) (sym c.in_ok-keep.ensures.same)
    (kept_up g.D.Disk c.args.self.now c.keep.new.self.calls c.in_ok-k.k c.in_ok-k.ensures.place.1)

pub step-requires-clause-brought : goal.step-requires-clause-brought
step-requires-clause-brought g c = tt

pub step-requires-clause-there : goal.step-requires-clause-there
step-requires-clause-there g c =
    let asked = stands_kept c.args.self.now.calls c.keep.new.self.calls c.args.call c.args.id c.in_ok-keep.ensures.kept c.requires.next in
    (asked.some, asked.within)

pub step-requires-clause-asks : goal.step-requires-clause-asks
step-requires-clause-asks g c =
    let asked = stands_kept c.args.self.now.calls c.keep.new.self.calls c.args.call c.args.id c.in_ok-keep.ensures.kept c.requires.next in
    record { some = asked.some; within = asked.within; is = refl }

-- ---- its step

pub returns-clause-told : goal.returns-clause-told
returns-clause-told g c = λ ok given cell stands.
    let asked = stands_kept c.args.self.now.calls c.keep.new.self.calls c.args.call c.args.id c.in_ok-keep.ensures.kept c.requires.next in
    let o : Some (c.in_ok-k.k, event.Ask c.args.id c.args.call) ≡ Some (c.in_ok-k.k, event_at c.keep.new.self (cause.Call c.args.id)) = ap
    (λ (bytes : List ℕ). Some (c.in_ok-k.k, event.Ask c.args.id bytes)) (sym asked.is) in
    let db = script_database g.V.DraftService.standing.database g.V.DraftWords.words in
    let does : Choices → ℕ → Cell_run = λ choices k. stepped db cell (first_choice choices) (Asking k c.args.id c.args.call) in
    let size = size_of g.D.Disk c.requires.sound.0.clock c.args.self.now cell c.requires.sound.1.steady stands in
    let kept = subst (λ (r : OpenCell _ _ _). IsModelledBy g.D.Disk db.database given r cell) (sym c.in_ok-keep.ensures.same)
    (kept_stands g.D.Disk c.args.self.now c.keep.new.self.calls cell stands) in
    told_as g.D.Disk (λ choices. asked_at db cell (first_choice choices) c.args.id c.args.call (Some c.args.server))
    (λ choices. Ok (does choices c.in_ok-k.k))
    (λ choices. c.in_ok-k.ensures.up cell (does choices) size stands.sites)
    db _ _ _ _ _
    (told_from g.D.Disk c.args.self.now c.keep.new.self.calls db (λ choices. Ok (does choices c.in_ok-k.k)) None _ _ _
    (subst (λ (r : OpenCell _ _ _). CellTold g.D.Disk db given (λ choices. Ok (does choices c.in_ok-k.k)) None r c.step.new.self
    (string_bytes c.args.text.now)
    (string_bytes c.step.new.text)) c.in_ok-keep.ensures.same
    (c.step.ensures.told ok given cell (Asking c.in_ok-k.k c.args.id c.args.call) kept o)))

pub returns-clause-limit : goal.returns-clause-limit
returns-clause-limit g c = λ which is given cell stands.
    let asked = stands_kept c.args.self.now.calls c.keep.new.self.calls c.args.call c.args.id c.in_ok-keep.ensures.kept c.requires.next in
    let o : Some (c.in_ok-k.k, event.Ask c.args.id c.args.call) ≡ Some (c.in_ok-k.k, event_at c.keep.new.self (cause.Call c.args.id)) = ap
    (λ (bytes : List ℕ). Some (c.in_ok-k.k, event.Ask c.args.id bytes)) (sym asked.is) in
    let db = script_database g.V.DraftService.standing.database g.V.DraftWords.words in
    let does : Choices → ℕ → Cell_run = λ choices k. stepped db cell (first_choice choices) (Asking k c.args.id c.args.call) in
    let size = size_of g.D.Disk c.requires.sound.0.clock c.args.self.now cell c.requires.sound.1.steady stands in
    let kept = subst (λ (r : OpenCell _ _ _). IsModelledBy g.D.Disk db.database given r cell) (sym c.in_ok-keep.ensures.same)
    (kept_stands g.D.Disk c.args.self.now c.keep.new.self.calls cell stands) in
    told_as g.D.Disk (λ choices. asked_at db cell (first_choice choices) c.args.id c.args.call (Some c.args.server))
    (λ choices. Ok (does choices c.in_ok-k.k))
    (λ choices. c.in_ok-k.ensures.up cell (does choices) size stands.sites)
    db _ _ _ _ _
    (told_from g.D.Disk c.args.self.now c.keep.new.self.calls db (λ choices. Ok (does choices c.in_ok-k.k))
    (Some (ending.Limit which)) _ _ _
    (subst (λ (r : OpenCell _ _ _). CellTold g.D.Disk db given (λ choices. Ok (does choices c.in_ok-k.k))
    (Some (ending.Limit which)) r c.step.new.self (string_bytes c.args.text.now)
    (string_bytes c.step.new.text)) c.in_ok-keep.ensures.same
    (c.step.ensures.limit which is given cell (Asking c.in_ok-k.k c.args.id c.args.call) kept o)))

pub returns-clause-short : goal.returns-clause-short
returns-clause-short g c = λ is given cell stands.
    let asked = stands_kept c.args.self.now.calls c.keep.new.self.calls c.args.call c.args.id c.in_ok-keep.ensures.kept c.requires.next in
    let o : Some (c.in_ok-k.k, event.Ask c.args.id c.args.call) ≡ Some (c.in_ok-k.k, event_at c.keep.new.self (cause.Call c.args.id)) = ap
    (λ (bytes : List ℕ). Some (c.in_ok-k.k, event.Ask c.args.id bytes)) (sym asked.is) in
    let db = script_database g.V.DraftService.standing.database g.V.DraftWords.words in
    let does : Choices → ℕ → Cell_run = λ choices k. stepped db cell (first_choice choices) (Asking k c.args.id c.args.call) in
    let size = size_of g.D.Disk c.requires.sound.0.clock c.args.self.now cell c.requires.sound.1.steady stands in
    let kept = subst (λ (r : OpenCell _ _ _). IsModelledBy g.D.Disk db.database given r cell) (sym c.in_ok-keep.ensures.same)
    (kept_stands g.D.Disk c.args.self.now c.keep.new.self.calls cell stands) in
    short_as g.D.Disk (λ choices. asked_at db cell (first_choice choices) c.args.id c.args.call (Some c.args.server))
    (λ choices. Ok (does choices c.in_ok-k.k))
    (λ choices. c.in_ok-k.ensures.up cell (does choices) size stands.sites)
    cell _ _
    (short_from g.D.Disk c.args.self.now c.keep.new.self.calls (λ choices. Ok (does choices c.in_ok-k.k)) cell _
    (subst (λ (r : OpenCell _ _ _). IsShort g.D.Disk db.database given (λ choices. Ok (does choices c.in_ok-k.k)) cell r c.step.new.self)
    c.in_ok-keep.ensures.same (c.step.ensures.short is given cell (Asking c.in_ok-k.k c.args.id c.args.call) kept o)))

pub returns-clause-sound : goal.returns-clause-sound
returns-clause-sound g c = λ ok bounds new still.
    let next = c.requires.next in
    let many : length c.keep.new.self.calls ≡ length c.args.self.now.calls + 1 =
    ap length c.in_ok-keep.ensures.kept ∙ length_more c.args.self.now.calls c.args.call in
    record {
      steady = c.step.ensures.steady ok bounds.clock
          (subst (λ (r : OpenCell _ _ _). IsSteady g.D.Disk bounds.clock r) (sym c.in_ok-keep.ensures.same)
          (kept_steady g.D.Disk c.args.self.now c.keep.new.self.calls bounds.clock still.steady));
      keeps = c.step.ensures.keeps ok;
      calls = ap length c.step.ensures.calls ∙ many ∙ sym next;
      run =
          asked_on g.D.Disk (script_database g.V.DraftService.standing.database g.V.DraftWords.words) bounds.asks c.args.id c.args.self.now
          c.step.new.self c.args.call c.args.server (string_bytes c.args.text.now)
          (string_bytes c.step.new.text) c.law_cells_go_on.ensures new still.run
          (returns-clause-told g c ok still.run.given still.run.cell still.run.stands);
      blocks = still.blocks;
    }

pub returns-clause-never_falls : goal.returns-clause-never_falls
returns-clause-never_falls g c =
    subst (λ (r : OpenCell _ _ _). AreRises 0 [] (helds g.D.Disk r) (helds g.D.Disk c.step.new.self)) c.in_ok-keep.ensures.same
    c.step.ensures.never_falls

pub returns-clause-same : goal.returns-clause-same
returns-clause-same g c = c.step.ensures.same ∙ ap (λ (r : OpenCell _ _ _). length r.sites.items) c.in_ok-keep.ensures.same

-- ---- nothing stays pending

pub returns-in_err-k-clause-settled : goal.returns-in_err-k-clause-settled
returns-in_err-k-clause-settled g c = sound_settled g.D.Disk c.requires.sound.0.clock c.args.self.now c.requires.sound.1.steady

pub returns-in_err-keep-clause-settled : goal.returns-in_err-keep-clause-settled
returns-in_err-keep-clause-settled g c =
    subst (λ (r : OpenCell _ _ _). AreSettled g.D.Disk (disks_of r)) (sym c.in_err-keep.ensures.same)
    (sound_settled g.D.Disk c.requires.sound.0.clock c.args.self.now c.requires.sound.1.steady)
