-- Lines of which no fault of a disk is told leave and tell what they do where every disk is sound.
use Rattle.std.proofs.Common.{◌≡◌, ℕ, List, [], ◌∷◌, ◌++◌, refl, sym, ap, ◌∙◌}
use Rattle.std.specs.Prelude.{Option, Some, None, Result, Ok, Err}
use Rattle.cell_runs.specs.declared.endings.Ending.{Ending}
use Rattle.cell_runs.specs.Script.{AreWhole, IsWhole, LineRead, Line_run, ScriptEnd, Told, first_told, line_result, told_with, told_after, told_from}
use Rattle.cell_runs.specs.Script.{sound_choices}
use Rattle.cell_runs.specs.ScriptDatabase.{Databases}
use Rattle.script_laws.specs.Sound.{HasNoFault, SoundScripts, SoundFronts, sound_lines, lines_read}
use Rattle.script_laws.proofs.Sites.{MayHaveSites, line_keeps_sites}
use Rattle.script_laws.proofs.SoundLines.{FreeLine, front_free, back_free, result_same}

module _ (dbs : Databases) where
  -- what was told stays

  with_front : (t : Told) (o : Result Line_run Ending) → HasNoFault (told_with dbs t o).items → HasNoFault t.items
  with_front t (Ok run) free = front_free t.items run.items free
  with_front t (Err ending) free = free

  after_front : (t : Told) (r : LineRead) (ended : Option ScriptEnd) → HasNoFault (told_after dbs t r ended).items → HasNoFault t.items
  after_front t r None free = with_front t (line_result dbs t.stage r) free
  after_front t r (Some h) free = free

  from_front : (t : Told) (readings : List LineRead) → HasNoFault (told_from dbs t readings).items → HasNoFault t.items
  from_front t [] free = free
  from_front t (r ∷ readings) free = after_front t r t.ended (from_front (told_after dbs t r t.ended) readings free)

  -- ---- the same lines where every disk is sound

  with_free : (t : Told) (o : Result Line_run Ending) → HasNoFault (told_with dbs t o).items → FreeLine o
  with_free t (Ok run) free = back_free t.items run.items free
  with_free t (Err ending) free = tt

  after_same : (t : Told) (r : LineRead) (ended : Option ScriptEnd) → MayHaveSites t.stage.cell → HasNoFault (told_after dbs t r ended).items
      → IsWhole r.choices → told_after dbs t (record { line = r.line; choices = sound_choices }) ended ≡ told_after dbs t r ended
  after_same t r None has free whole =
      ap (λ (most : ℕ). told_with dbs t (line_result dbs t.stage (record { line = r.line; choices = record { each = []; most = most } }))) (sym whole.most)
      ∙ ap (told_with dbs t) (result_same dbs t.stage r.line r.choices has whole.found (with_free t (line_result dbs t.stage r) free))
  after_same t r (Some h) has free whole = refl

  from_same : (t : Told) (readings : List LineRead) → AreWhole readings → MayHaveSites t.stage.cell → HasNoFault (told_from dbs t readings).items
      → told_from dbs t (sound_lines (lines_read readings)) ≡ told_from dbs t readings
  from_same t [] whole has free = refl
  from_same t (r ∷ readings) whole has free =
      ap (λ (u : Told). told_from dbs u (sound_lines (lines_read readings)))
      (after_same t r t.ended has (from_front (told_after dbs t r t.ended) readings free) whole.0)
      ∙ from_same (told_after dbs t r t.ended) readings whole.1 (line_keeps_sites dbs t r t.ended has) free

  -- ---- fronts

  -- what goes on had not ended before
  before_goes : (t : Told) (readings : List LineRead) → (told_from dbs t readings).ended ≡ None → t.ended ≡ None
  before_goes t [] goes = goes
  before_goes t (r ∷ readings) goes = by t.ended refl (before_goes (told_after dbs t r t.ended) readings goes)
    where
      by : (ended : Option ScriptEnd) → t.ended ≡ ended → (told_after dbs t r ended).ended ≡ None → t.ended ≡ None
      by None is goes = is
      by (Some h) is goes = goes

  front_goes : (t : Told) (lines later : List (List ℕ)) → (told_from dbs t (sound_lines (lines ++ later))).ended ≡ None
      → (told_from dbs t (sound_lines lines)).ended ≡ None
  front_goes t [] later goes = before_goes t (sound_lines later) goes
  front_goes t (l ∷ lines) later goes = front_goes (told_after dbs t (record { line = l; choices = sound_choices }) t.ended) lines later goes

pub sound_scripts : SoundScripts
sound_scripts dbs readings whole free = from_same dbs first_told readings whole tt free

pub sound_fronts : SoundFronts
sound_fronts dbs readings later whole free goes =
    sym (ap (λ (t : Told). t.ended) (sound_scripts dbs readings whole free)) ∙ front_goes dbs first_told (lines_read readings) later goes
