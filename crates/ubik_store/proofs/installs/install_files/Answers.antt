use Rattle.std.proofs.Common.{◌≡◌, ◌++◌, ◌∙◌, ℕ, List, drop, ap, sym, subst, rules, arith, length-drop}
use Rattle.std.proofs.lemmas.List.{take-append-drop}
use Rattle.std.specs.Prelude.{IsErrOf, OnOk}
use Rattle.disk_base.specs.declared.disks.FileNo.TheVariants.{Database, Log}
use Rattle.page_file.specs.Label.{label}
use Rattle.ubik_store.specs.declared.faults.StoreFault.TheVariants as faults
use Rattle.ubik_store.specs.Install.{TakesPlace}
use Rattle.ubik_store.specs.Rest.{CanRelabel}
use Rattle.ubik_store.specs.Rewrite.Rewrite.{Replaced}
use Rattle.ubik_store.proofs.Durable.{durable_reserved, durable_first, rewrites_first}
use Rattle.ubik_store.proofs.Taking.{installed}
use Rattle.ubik_store.proofs.Telling.{ok_map}
use Rattle.ubik_store.proofs.installs.install_files.Goals as goal

pub returns-in_err-reserve_install-clause-durable : goal.returns-in_err-reserve_install-clause-durable
returns-in_err-reserve_install-clause-durable g c =
    let not : IsErrOf c.from_residual.result faults.DiskFault → ⊥ = search rules in
    durable_reserved g.D.Disk (Replaced (drop 64 c.args.file.now)) c.args.v c.args.disk.now c.requires.empty c.requires.settled
    c.reserve_install.ensures.reserves not

pub returns-clause-done : goal.returns-clause-done
returns-clause-done g c =
    let file = c.args.file.now in
    let image = drop 64 file in
    let v = c.args.v in
    let is = c.requires.is_text in
    let new = c.keep_and_take.new.disk in
    let kept = c.keep_and_take.ensures in
    let text : file ≡ label v ++ image = sym (take-append-drop 64 file) ∙ ap (λ (head : List ℕ). head ++ image) is.labelled in
    let log = kept.durable.calls.room Log in
    let database = kept.durable.calls.room Database in
    let room : CanRelabel g.D.Disk new =
    (omega (arith, log, c.in_ok-reserve_install.ensures.log), omega (arith, database, c.in_ok-reserve_install.ensures.database)) in
    let Placed : List ℕ → Type 0 =
    λ xs. OnOk c.keep_and_take.result (TakesPlace g.D.Disk xs v 15 c.reserve_install.new.disk new c.keep_and_take.new.pages) in
    ok_map c.keep_and_take.result _ _ (subst Placed text kept.done) (λ place.
    rewrites_first g.D.Disk (Replaced image) v c.args.disk.now c.requires.empty c.requires.settled c.in_ok-reserve_install.ensures.reserves
    c.reserve_install.ensures.pages
    (installed g.D.Disk image v is.is_version (omega (arith, is.fits, length-drop 64 file)) place room))

pub returns-clause-durable : goal.returns-clause-durable
returns-clause-durable g c =
    durable_first g.D.Disk (Replaced (drop 64 c.args.file.now)) c.args.v c.args.disk.now c.requires.empty c.requires.settled
    c.in_ok-reserve_install.ensures.reserves c.keep_and_take.ensures.durable
