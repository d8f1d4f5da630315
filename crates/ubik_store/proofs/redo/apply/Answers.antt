use Rattle.std.proofs.Common.{◌≡◌, ◌+◌, length, subst}
use Rattle.ubik_types.specs.declared.images.Change.TheVariants.{Put, Cut}
use Rattle.page_file.specs.Pages.{image_of}
use Rattle.ubik_log.specs.LogGrammar.{IsWithinImage}
use Rattle.ubik_store.specs.Redo.{IsCovered}
use Rattle.disk_base.specs.declared.disks.FileNo.TheVariants.{Database}
use Rattle.disk_base.specs.Crash.{InFile, Torn, CutShort}
use Rattle.disk_base.proofs.Runs.{write_changes, cut_changes}
use Rattle.ubik_store.specs.Moments.{MayRedo}
use Rattle.ubik_store.proofs.Redoing.{step_leaves, redo_written, redo_cut}
use Rattle.ubik_store.proofs.redo.apply.Goals as goal

pub returns-in-Put-clause-redo : goal.returns-in-Put-clause-redo
returns-in-Put-clause-redo g c = λ kept told covered.
    let write = c.write_range.ensures.writes in
    let bytes = c.as_slice.result.now in
    let is : c.args.change.now ≡ Put c.in-Put.at bytes = cc in
    step_leaves g.D.Disk (MayRedo kept told) (InFile Database (Torn (64 + c.in-Put.at) (length bytes))) write.change write.crash
    (λ d files step. redo_written kept told c.in-Put.at bytes d files (subst (IsCovered told (image_of kept.database)) is covered)
    (subst IsWithinImage is c.requires.within) step)

pub returns-in-Cut-clause-redo : goal.returns-in-Cut-clause-redo
returns-in-Cut-clause-redo g c = λ kept told covered.
    let cut = c.cut.ensures.cuts in
    let is : c.args.change.now ≡ Cut c.in-Cut.len = cc in
    step_leaves g.D.Disk (MayRedo kept told) (InFile Database (CutShort (64 + c.in-Cut.len))) cut.change cut.crash
    (λ d files step. redo_cut kept told c.in-Cut.len d files (subst (IsCovered told (image_of kept.database)) is covered) step)

pub returns-in-Put-clause-changes : goal.returns-in-Put-clause-changes
returns-in-Put-clause-changes g c = write_changes c.write_range.ensures.writes

pub returns-in-Cut-clause-changes : goal.returns-in-Cut-clause-changes
returns-in-Cut-clause-changes g c = cut_changes c.cut.ensures.cuts
