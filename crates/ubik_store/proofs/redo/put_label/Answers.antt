use Rattle.std.proofs.Common.{◌∙◌, ap, arith}
use Rattle.std.proofs.lemmas.Bool.{false≢true}
use Rattle.std.specs.Option.{option_map}
use Rattle.std.specs.Result.{is_err}
use Rattle.disk_base.specs.declared.disks.FileNo.TheVariants.{Database}
use Rattle.disk_base.specs.Crash.{InFile, Torn}
use Rattle.disk_base.proofs.Runs.{joined, sync_changes, write_changes, changes_joined, changes_as}
use Rattle.ubik_store.specs.Moments.{MayRedo, with_database, labelled}
use Rattle.ubik_store.proofs.Redoing.{narrowed, step_leaves, sync_leaves, redo_head}
use Rattle.ubik_store.proofs.Telling.{told, of_told, on_ok}
use Rattle.ubik_store.proofs.redo.put_label.Goals as goal

pub returns-in_err-sync-clause-redo : goal.returns-in_err-sync-clause-redo
returns-in_err-sync-clause-redo g c = λ kept told. sync_leaves g.D.Disk (MayRedo kept told) c.sync.ensures.syncs

pub returns-in_err-set_label-clause-redo : goal.returns-in_err-set_label-clause-redo
returns-in_err-set_label-clause-redo g c = λ kept told before.
    let first = sync_leaves g.D.Disk (MayRedo kept told) c.sync.ensures.syncs before in
    let write = c.set_label.ensures.writes in
    joined g.D.Disk.steps g.D.Disk.left_since _ _ _ (MayRedo kept told) first
    (step_leaves g.D.Disk (MayRedo kept told) (InFile Database (Torn 0 64)) write.change write.crash (redo_head kept told)
    (narrowed g.D.Disk first))

pub returns-in_err-set_label-clause-changes : goal.returns-in_err-set_label-clause-changes
returns-in_err-set_label-clause-changes g c =
    changes_as (omega arith) (λ _. cc) (λ _. ap is_err c.in_err-set_label.was)
    (changes_joined (sync_changes c.in_ok-sync.ensures.syncs) false≢true (write_changes c.set_label.ensures.writes))

pub returns-clause-files : goal.returns-clause-files
returns-clause-files g c =
    on_ok c.sync-2.result _
    (λ went. c.sync-2.ensures.syncs.files went ∙ c.in_ok-set_label.ensures.writes.files false≢true
    ∙ ap (option_map (with_database (labelled c.args.v))) (c.in_ok-sync.ensures.syncs.files false≢true))

pub returns-clause-durable : goal.returns-clause-durable
returns-clause-durable g c =
    on_ok c.sync-2.result _ (λ went. told _ _ (λ fs is.
    of_told _ _ _ (c.in_ok-set_label.ensures.writes.files false≢true
    ∙ ap (option_map (with_database (labelled c.args.v))) (c.in_ok-sync.ensures.syncs.files false≢true ∙ is))
    (c.sync-2.ensures.syncs.durable went)))

pub returns-clause-redo : goal.returns-clause-redo
returns-clause-redo g c = λ kept told before.
    let first = sync_leaves g.D.Disk (MayRedo kept told) c.sync.ensures.syncs before in
    let write = c.set_label.ensures.writes in
    let second = step_leaves g.D.Disk (MayRedo kept told) (InFile Database (Torn 0 64)) write.change write.crash (redo_head kept told)
    (narrowed g.D.Disk first) in
    let both = joined g.D.Disk.steps g.D.Disk.left_since _ _ _ (MayRedo kept told) first second in
    joined g.D.Disk.steps g.D.Disk.left_since _ _ _ (MayRedo kept told) both
    (sync_leaves g.D.Disk (MayRedo kept told) c.sync-2.ensures.syncs (narrowed g.D.Disk both))

pub returns-clause-changes : goal.returns-clause-changes
returns-clause-changes g c =
    changes_joined (changes_joined (sync_changes c.in_ok-sync.ensures.syncs) false≢true (write_changes c.in_ok-set_label.ensures.writes))
    false≢true
    (sync_changes c.sync-2.ensures.syncs)
