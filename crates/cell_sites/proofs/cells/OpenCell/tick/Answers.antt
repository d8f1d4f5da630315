use Rattle.std.proofs.Common.{◌≡◌, ◌+◌, ◌∙◌, ap, sym, subst, refl, true, List, [], None, arith, Err}
use Rattle.cell_model.specs.World.{Tick, tick_at}
use Rattle.cell_runs.specs.Script.{run_in, unless_skewed}
use Rattle.cell_runs.specs.ScriptDatabase.{script_database}
use Rattle.cell_script.specs.declared.lines.Line.TheVariants as line
use Rattle.cell_script.specs.declared.lines.Why.TheVariants as why
use Rattle.cell_sites.specs.declared.cells.OpenCell.{OpenCell}
use Rattle.cell_sites.specs.Disks.{AreRises}
use Rattle.cell_sites.specs.Places.{IsNearAt}
use Rattle.cell_sites.specs.Sites.{helds}
use Rattle.cell_sites.specs.Sound.{IsSteady, Keeps}
use Rattle.cell_sites.specs.Told.{CellTold}
use Rattle.cell_sites.proofs.AtPlace.{cell_size, rises_none, rises_same, site_there}
use Rattle.cell_sites.proofs.Behind.{ticks_run}
use Rattle.cell_sites.proofs.Ticking.{fits_at, helds_ticked, refused_so, tick_keeps, tick_rests, tick_skews, tick_sound, tick_told, ticked_so}
use Rattle.cell_sites.proofs.cells.OpenCell.tick.Goals as goal

pub returns-in_err-k-clause-refused : goal.returns-in_err-k-clause-refused
returns-in_err-k-clause-refused g c = λ w is. (
  refl,
  λ given c' stands choices.
      c.in_err-k.ensures.there c' (λ k. unless_skewed (script_database g.V.DraftService.standing.database g.V.DraftWords.words) c'
      (tick_at c'.run.world.sites k c.args.seconds) (Tick k c.args.seconds))
      (cell_size g.D.Disk c.requires.0.clock c.args.self.now c' c.requires.1.steady
      stands)
      ∙ ap Err (refused_so c.from_residual.result c.in_err-k.field-0.0 w c.from_residual.ensures.1 is),
)

pub returns-in_err-k-clause-never_falls : goal.returns-in_err-k-clause-never_falls
returns-in_err-k-clause-never_falls g c = rises_none 0 _

pub overflow_add-now : goal.overflow_add-now
overflow_add-now g c =
    let there = site_there c.args.self.now.sites.items c.in_ok-k.k c.index.result.now c.in_ok-k.ensures.place.1 c.index.ensures in
    let fits = fits_at g.D.Disk c.requires.0.clock c.args.seconds c.args.self.now c.in_ok-k.k c.index.result.now c.requires.1.steady
    c.requires.2 there in
    omega (arith, fits)

pub returns-then-not-is_near-clause-refused : goal.returns-then-not-is_near-clause-refused
returns-then-not-is_near-clause-refused g c = λ w is.
    let there = site_there c.args.self.now.sites.items c.in_ok-k.k c.index.result.now c.in_ok-k.ensures.place.1 c.index.ensures in (
      refl,
      λ given c' stands choices.
          c.in_ok-k.ensures.there c' (λ k. unless_skewed (script_database g.V.DraftService.standing.database g.V.DraftWords.words) c'
          (tick_at c'.run.world.sites k c.args.seconds) (Tick k c.args.seconds)) (cell_size g.D.Disk c.requires.0.clock c.args.self.now c'
          c.requires.1.steady stands)
          ∙ tick_skews (script_database g.V.DraftService.standing.database g.V.DraftWords.words) c.args.self.now c' c.in_ok-k.k
          c.args.seconds
          c.index.result.now stands there (λ near. let t = c.is_near.ensures.1
          (subst (λ (l : List _). IsNearAt l c.in_ok-k.k (c.index.result.now.clock + c.args.seconds))
          (sym c.deref.ensures.value) near) in cc)
          ∙ ap Err (let same : why.Skew ≡ w = cc in same),
    )

pub returns-then-not-is_near-clause-never_falls : goal.returns-then-not-is_near-clause-never_falls
returns-then-not-is_near-clause-never_falls g c = rises_none 0 _

pub returns-clause-told : goal.returns-clause-told
returns-clause-told g c = λ is given c' text stands.
    let db = script_database g.V.DraftService.standing.database g.V.DraftWords.words in
    let k = c.in_ok-k.k in
    let there = site_there c.args.self.now.sites.items k c.index.result.now c.in_ok-k.ensures.place.1 c.index.ensures in
    let there' = site_there c.args.self.now.sites.items k c.index_mut.result.now c.in_ok-k.ensures.place.1 c.index_mut.ensures.value in
    let passed : c.is_near.result ≡ true = cc in
    let near = subst (λ (l : List _). IsNearAt l k (c.index.result.now.clock + c.args.seconds)) c.deref.ensures.value
    (c.is_near.ensures.0 passed) in
    let does = c.in_ok-k.ensures.there c' (λ k. unless_skewed db c' (tick_at c'.run.world.sites k c.args.seconds) (Tick k c.args.seconds))
    (cell_size g.D.Disk c.requires.0.clock c.args.self.now c' c.requires.1.steady stands) in
    subst (λ (after : OpenCell _ _ _). CellTold g.D.Disk db given
    (λ choices. run_in db c' choices (line.Tick c.args.server c.args.seconds)) None c.args.self.now
    after text text)
    (ticked_so c.args.self.now k c.args.seconds c.index.result.now c.index_mut.result.now there there')
    (tick_told g.D.Disk db c.requires.0.clock c.args.self.now c' k c.args.seconds c.index.result.now _ text c.requires.1.steady
    c.requires.2 stands there
    near does)

pub returns-clause-sound : goal.returns-clause-sound
returns-clause-sound g c = λ is bounds still.
    let k = c.in_ok-k.k in
    let there = site_there c.args.self.now.sites.items k c.index.result.now c.in_ok-k.ensures.place.1 c.index.ensures in
    let there' = site_there c.args.self.now.sites.items k c.index_mut.result.now c.in_ok-k.ensures.place.1 c.index_mut.ensures.value in
    let passed : c.is_near.result ≡ true = cc in
    let near = subst (λ (l : List _). IsNearAt l k (c.index.result.now.clock + c.args.seconds)) c.deref.ensures.value
    (c.is_near.ensures.0 passed) in
    let fits = fits_at g.D.Disk c.requires.0.clock c.args.seconds c.args.self.now k c.index.result.now c.requires.1.steady c.requires.2
    there in
    let same = ticked_so c.args.self.now k c.args.seconds c.index.result.now c.index_mut.result.now there there' in
    record {
      steady = subst (λ (after : OpenCell _ _ _). IsSteady g.D.Disk (bounds.clock + c.args.seconds) after) same
          (tick_sound g.D.Disk bounds.clock bounds.clock c.args.self.now k c.args.seconds c.index.result.now still.steady fits there near);
      keeps = subst (λ (after : OpenCell _ _ _). Keeps g.V.DraftService.standing.database after) same
          (tick_keeps g.V.DraftService.standing.database c.args.self.now k c.args.seconds c.index.result.now there still.keeps);
      calls = still.calls;
      run = ticks_run g.D.Disk (script_database g.V.DraftService.standing.database g.V.DraftWords.words) bounds.asks c.args.self.now _
          (line.Tick c.args.server c.args.seconds) c.args.seconds [] [] c.law_cells_go_on.ensures (λ some. some)
          (λ none. ap (λ (after : OpenCell _ _ _). after.sites.items) (sym same)
          ∙ tick_rests c.args.self.now k c.args.seconds c.index.result.now there none) refl refl still.run
          (returns-clause-told g c is still.run.given still.run.cell [] still.run.stands);
      blocks = still.blocks;
    }

pub returns-clause-never_falls : goal.returns-clause-never_falls
returns-clause-never_falls g c =
    let k = c.in_ok-k.k in
    let there = site_there c.args.self.now.sites.items k c.index.result.now c.in_ok-k.ensures.place.1 c.index.ensures in
    let there' = site_there c.args.self.now.sites.items k c.index_mut.result.now c.in_ok-k.ensures.place.1 c.index_mut.ensures.value in
    subst (λ (after : OpenCell _ _ _). AreRises 0 [] (helds g.D.Disk c.args.self.now) (helds g.D.Disk after))
    (ticked_so c.args.self.now k c.args.seconds c.index.result.now c.index_mut.result.now there there')
    (rises_same _ _ (helds_ticked g.D.Disk c.args.self.now k c.args.seconds c.index.result.now there))
