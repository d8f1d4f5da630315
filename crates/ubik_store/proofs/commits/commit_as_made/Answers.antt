use Rattle.std.proofs.Common.{◌≡◌, ◌∙◌, ℕ, List, sym, ap, subst, rules}
use Rattle.std.specs.List.{All}
use Rattle.std.specs.Prelude.{IsErrOf, OnOk}
use Rattle.ubik_types.specs.declared.images.Change.{Change}
use Rattle.ubik_types.specs.Logged.{logged}
use Rattle.page_file.specs.declared.label.TheConstants.{MAX_DATABASE_LEN}
use Rattle.ubik_log.specs.LogGrammar.{IsWithinImage}
use Rattle.ubik_store.specs.declared.faults.StoreFault.TheVariants as faults
use Rattle.ubik_store.specs.Commit.{RewritesFiles, IsDurableOver}
use Rattle.ubik_store.specs.Redo.{Ends, IsSeamless}
use Rattle.ubik_store.specs.Rewrite.Rewrite.{Changed}
use Rattle.ubik_store.proofs.AsMade.{logged_is_seamless}
use Rattle.ubik_store.proofs.Durable.{durable_unmoved}
use Rattle.ubik_store.proofs.Measured.{fitting_end, fitting_within, seamless_stays}
use Rattle.ubik_store.proofs.commits.commit_as_made.Goals as goal

pub commit_changes-requires-clause-told : goal.commit_changes-requires-clause-told
commit_changes-requires-clause-told g c =
    let changes = c.args.changes.now in
    let within = fitting_within changes 0 c.args.len c.requires.not_long c.requires.fits in
    record {
      within_image = subst (All IsWithinImage) (seamless_stays changes c.args.len (c.requires.seamless c.if-seamless.true)) within;
      is_version = c.requires.version;
    }

pub returns-then-seamless-clause-done : goal.returns-then-seamless-clause-done
returns-then-seamless-clause-done g c =
    let made = c.commit_changes in
    let Done : List Change → Type 0 =
    λ cs. OnOk made.result (RewritesFiles g.D.Disk (Changed cs) c.args.v c.args.disk.now made.new.disk c.args.pages.now made.new.pages) in
    subst Done (sym (seamless_stays c.args.changes.now c.args.len (c.requires.seamless c.if-seamless.true))) made.ensures.done

pub returns-then-seamless-clause-durable : goal.returns-then-seamless-clause-durable
returns-then-seamless-clause-durable g c =
    let made = c.commit_changes in
    let Durable : List Change → Type 0 =
    λ cs. IsDurableOver g.D.Disk (Changed cs) c.args.v c.args.disk.now made.new.disk (IsErrOf made.result faults.DiskFault) in
    subst Durable (sym (seamless_stays c.args.changes.now c.args.len (c.requires.seamless c.if-seamless.true))) made.ensures.durable

pub copy_as_made-requires : goal.copy_as_made-requires
copy_as_made-requires g c = record {
  ends = subst (All (λ change. Ends change MAX_DATABASE_LEN)) (sym c.as_slice.ensures)
      (fitting_end c.args.changes.now 0 c.args.len c.requires.fits);
}

pub returns-in_err-made-clause-durable : goal.returns-in_err-made-clause-durable
returns-in_err-made-clause-durable g c =
    let not : IsErrOf c.from_residual.result faults.DiskFault → ⊥ = search rules in
    durable_unmoved g.D.Disk (Changed (logged c.args.len c.args.changes.now)) c.args.v c.args.disk.now c.requires.empty c.requires.settled
    not

pub commit_changes-requires-2-clause-told : goal.commit_changes-requires-2-clause-told
commit_changes-requires-2-clause-told g c =
    let same : c.in_ok-made.made ≡ logged c.args.len c.args.changes.now =
    c.in_ok-made.ensures ∙ ap (λ (cs : List Change). logged c.args.len cs) c.as_slice.ensures in
    record {
      within_image = subst (All IsWithinImage) (sym same)
          (fitting_within c.args.changes.now 0 c.args.len c.requires.not_long c.requires.fits);
      is_version = c.requires.version;
    }

pub commit_changes-requires-2-clause-seamless : goal.commit_changes-requires-2-clause-seamless
commit_changes-requires-2-clause-seamless g c =
    let same : c.in_ok-made.made ≡ logged c.args.len c.args.changes.now =
    c.in_ok-made.ensures ∙ ap (λ (cs : List Change). logged c.args.len cs) c.as_slice.ensures in
    subst (λ (n : ℕ). IsSeamless n c.in_ok-made.made) (sym c.requires.len_is)
    (subst (λ (cs : List Change). IsSeamless c.args.len cs) (sym same) (logged_is_seamless c.args.changes.now c.args.len))
