use Rattle.std.proofs.Common.{[], ◌≡◌, ◌∙◌, refl, ap, map, subst, List, Some}
use Rattle.std.specs.Prelude.{slice_get}
use Rattle.cell_runs.specs.ScriptDatabase.{script_database}
use Rattle.cell_script.specs.declared.lines.Line.TheVariants as line
use Rattle.cell_sites.specs.Places.{ticked_on}
use Rattle.cell_sites.proofs.AtPlace.{rises_same}
use Rattle.cell_sites.proofs.Behind.{ticks_run}
use Rattle.cell_sites.proofs.Ticking.{all_keeps, all_rests, all_sound, all_told, fits_at, helds_all}
use Rattle.cell_sites.proofs.cells.OpenCell.tick_all.Goals as goal

pub tick_sites-requires : goal.tick_sites-requires
tick_sites-requires g c = λ k site there.
    fits_at g.D.Disk c.requires.0.clock c.args.seconds c.args.self.now k site c.requires.1.steady c.requires.2
    (subst (λ (l : List _). slice_get l k ≡ Some site) c.deref_mut.ensures.value there)

pub returns-clause-told : goal.returns-clause-told
returns-clause-told g c = λ given c' text stands.
    let are = c.tick_sites.ensures ∙ ap (map (ticked_on c.args.seconds)) c.deref_mut.ensures.value in
    all_told g.D.Disk (script_database g.V.DraftService.standing.database g.V.DraftWords.words) c.requires.0.clock c.args.self.now
    c.tick_sites.new.sites c'
    c.args.seconds text are c.requires.1.steady c.requires.2 stands

pub returns-clause-sound : goal.returns-clause-sound
returns-clause-sound g c = λ bounds still.
    let are = c.tick_sites.ensures ∙ ap (map (ticked_on c.args.seconds)) c.deref_mut.ensures.value in
    record {
      steady =
          all_sound g.D.Disk c.requires.0.clock bounds.clock c.args.self.now c.tick_sites.new.sites c.args.seconds are
          c.requires.1.steady c.requires.2
          still.steady;
      keeps = all_keeps g.V.DraftService.standing.database c.args.self.now c.tick_sites.new.sites c.args.seconds are still.keeps;
      calls = still.calls;
      run = ticks_run g.D.Disk (script_database g.V.DraftService.standing.database g.V.DraftWords.words) bounds.asks c.args.self.now _
          (line.TickAll c.args.seconds) c.args.seconds [] [] c.law_cells_go_on.ensures (λ some. some)
          (λ none. all_rests c.args.self.now c.tick_sites.new.sites c.args.seconds are none) refl refl still.run
          (returns-clause-told g c still.run.given still.run.cell [] still.run.stands);
      blocks = still.blocks;
    }

pub returns-clause-never_falls : goal.returns-clause-never_falls
returns-clause-never_falls g c =
    let are = c.tick_sites.ensures ∙ ap (map (ticked_on c.args.seconds)) c.deref_mut.ensures.value in
    rises_same _ _ (helds_all g.D.Disk c.args.self.now c.tick_sites.new.sites c.args.seconds are)
