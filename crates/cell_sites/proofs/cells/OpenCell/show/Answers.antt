use Rattle.std.proofs.Common.{◌∙◌, ap, inl, None, Ok, Err, arith}
use Rattle.cell_model.specs.World.{site_of}
use Rattle.cell_runs.specs.Script.{cell_size_of, shown_site}
use Rattle.cell_runs.specs.ScriptDatabase.{script_database}
use Rattle.cell_sites.proofs.AtPlace.{cell_size, site_there}
use Rattle.cell_sites.proofs.Reading.{nothing_done}
use Rattle.cell_sites.proofs.Showing.{show_told, showing_down, shown_up, line_refused}
use Rattle.cell_sites.proofs.cells.OpenCell.show.Goals as goal
use Rattle.cell_sites.proofs.cells.OpenCell.show.Goals.{in-Down, in-Up}

pub returns-in_err-k-clause-refused : goal.returns-in_err-k-clause-refused
returns-in_err-k-clause-refused g c = λ w is given c' stands choices.
    c.in_err-k.ensures.there c'
    (λ k. Ok (record { cell = c'; items = shown_site (cell_size_of c') k (site_of c'.run.world k); ending = None }))
    (cell_size g.D.Disk c.requires.0.clock c.args.self.now c' c.requires.1.steady stands)
    ∙ ap Err (line_refused c.from_residual.result c.in_err-k.field-0.0 w c.from_residual.ensures.1 is)

pub returns-in_err-tell_show-clause-short : goal.returns-in_err-tell_show-clause-short
returns-in_err-tell_show-clause-short g c = λ is given c' stands.
    inl (nothing_done g.D.Disk g.V.DraftService.standing.database given c.args.self.now c' stands)

pub returns-clause-told : goal.returns-clause-told
returns-clause-told g c = λ is given c' stands.
    let there = site_there c.args.self.now.sites.items c.in_ok-k.k c.index-site.result.now c.in_ok-k.ensures.place.1 c.index-site.ensures in
    let does = c.in_ok-k.ensures.there c'
    (λ k. Ok (record { cell = c'; items = shown_site (cell_size_of c') k (site_of c'.run.world k); ending = None }))
    (cell_size g.D.Disk c.requires.0.clock c.args.self.now c' c.requires.1.steady stands) in
    show_told g.D.Disk (script_database g.V.DraftService.standing.database g.V.DraftWords.words) c.args.self.now c' c.in_ok-k.k
    c.index-site.result.now
    c.match-site.showing _ c.deref.result.now _ _ stands there c.deref.ensures.value
    (elim c.match-site.branch [
      | in-Down w ↦ showing_down (cell_size_of c') c.index-site.result.now.server _ c.match-site.showing w.in-Down.is w.showing-is
      | in-Up w ↦ shown_up g.D.Disk c.requires.0.clock c.args.self.now c' c.in_ok-k.k c.index-site.result.now _ c.match-site.showing
          c.requires.1.steady
          stands there
          w.in-Up.is (grind (arith, w.showing-is, w.version.ensures, w.phase.ensures, w.lease_until.ensures, w.len.ensures))
    ])
    does c.in_ok-tell_show.ensures
