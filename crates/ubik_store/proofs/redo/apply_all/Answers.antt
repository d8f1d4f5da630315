use Rattle.std.proofs.Common.{◌≡◌, ◌+◌, ◌∷◌, ◌∙◌, inl, ℕ, List, drop, refl, sym, ap, subst, arith}
use Rattle.std.specs.Option.{option_map}
use Rattle.std.specs.Result.{is_err}
use Rattle.std.proofs.lemmas.List.{drop_more}
use Rattle.ubik_types.specs.declared.images.Change.{Change}
use Rattle.disk_base.specs.declared.disks.FileNo.TheVariants.{Database}
use Rattle.disk_base.proofs.Runs.{joined, changes_joined, changes_as}
use Rattle.page_file.specs.Pages.{image_of}
use Rattle.ubik_store.specs.Moments.{MayRedo, with_database, applied}
use Rattle.ubik_store.specs.Redo.{len_after, IsSeamless, IsCovered}
use Rattle.ubik_store.proofs.Applied.{no_changes, applied_more}
use Rattle.ubik_store.proofs.Redoing.{narrowed}
use Rattle.ubik_store.proofs.redo.apply_all.Goals as goal

pub loop-change-init : goal.loop-change-init
loop-change-init g c = record {
  agrees = c.requires.agrees;
  headed = c.requires.headed;
  seamless = c.requires.seamless;
  files = refl;
  len = refl;
  version = refl;
  steps = omega arith;
  redo =
      λ kept told covered before.
      record {
        later = omega arith;
        each = λ x left. before x
            (g.D.Disk.only_now c.args.disk.now x left);
        before = λ t x le left. inl left;
      };
  changes = no_changes Database c.args.disk.now;
}

pub returns-in_err-apply-clause-redo : goal.returns-in_err-apply-clause-redo
returns-in_err-apply-clause-redo g c = λ kept told covered before.
    let run = c.loop-change.invariant.redo kept told covered before in
    joined g.D.Disk.steps g.D.Disk.left_since _ _ _ (MayRedo kept told) run
    (c.apply.ensures.redo kept told
    (subst (IsCovered told (image_of kept.database)) (sym c.change-item.is)
    (covered c.loop-change.change-index c.change-item.result c.loop-change-test.true)) (narrowed g.D.Disk run))

pub returns-in_err-apply-clause-changes : goal.returns-in_err-apply-clause-changes
returns-in_err-apply-clause-changes g c =
    changes_as (omega (arith, c.loop-change-test.true)) (λ _. cc) (λ _. ap is_err c.in_err-apply.was)
    (changes_joined c.loop-change.invariant.changes (λ none. none) c.apply.ensures.changes)

pub loop-change-preserved : goal.loop-change-preserved
loop-change-preserved g c =
    let i = c.loop-change.invariant in
    let made = c.in_ok-apply.ensures in
    let item = c.change-item.result in
    let rest : List Change = drop (c.loop-change.change-index + 1) c.args.changes.now in
    let split : drop c.loop-change.change-index c.args.changes.now ≡ item ∷ rest =
    drop_more c.args.changes.now c.loop-change.change-index item c.loop-change-test.true
    ∙ ap (λ (x : Change). x ∷ rest) (sym c.change-item.is) in
    let seam = subst (IsSeamless c.loop-change.pages.len) split i.seamless in
    record {
      agrees = made.agrees;
      headed = made.headed;
      seamless = subst (λ (n : ℕ). IsSeamless n rest) (sym made.len) seam.1;
      files =
          applied_more rest c.args.changes.now item _ _ _
          (ap (λ (cs : List Change). option_map (with_database (applied cs)) (g.D.Disk.files c.loop-change.disk)) (sym split)
          ∙ i.files) made.files;
      len = ap (λ (n : ℕ). len_after n rest) made.len ∙ ap (len_after c.loop-change.pages.len) (sym split) ∙ i.len;
      version = made.version ∙ i.version;
      steps = omega (arith, made.steps, i.steps);
      redo = λ kept told covered before.
          let run = i.redo kept told covered before in
          joined g.D.Disk.steps g.D.Disk.left_since _ _ _ (MayRedo kept told) run
          (made.redo kept told
          (subst (IsCovered told (image_of kept.database)) (sym c.change-item.is)
          (covered c.loop-change.change-index item c.loop-change-test.true)) (narrowed g.D.Disk run));
      changes = changes_as (omega arith) (λ failed. cc) (λ failed. absurd failed) (changes_joined i.changes (λ none. none) made.changes);
    }
