use Rattle.std.proofs.Common.{rules, List, subst}
use Rattle.std.specs.Prelude.{IsErrOf, OnOk}
use Rattle.ubik_store.specs.declared.faults.StoreFault.TheVariants as faults
use Rattle.ubik_types.specs.declared.images.Change.{Change}
use Rattle.ubik_store.specs.Commit.{RewritesFiles, IsDurableOver}
use Rattle.ubik_store.specs.Rewrite.Rewrite.{Changed}
use Rattle.ubik_store.proofs.Durable.{durable_unmoved, durable_reserved, durable_first, rewrites_first}
use Rattle.ubik_store.proofs.Telling.{ok_map}
use Rattle.ubik_store.proofs.commits.commit_changes.Goals as goal

pub returns-in_err-log-clause-durable : goal.returns-in_err-log-clause-durable
returns-in_err-log-clause-durable g c =
    let not : IsErrOf c.from_residual.result faults.DiskFault → ⊥ = search rules in
    durable_unmoved g.D.Disk (Changed c.args.changes.now) c.args.v c.args.disk.now c.requires.empty c.requires.settled not

pub returns-in_err-reserve-clause-durable : goal.returns-in_err-reserve-clause-durable
returns-in_err-reserve-clause-durable g c =
    let not : IsErrOf c.from_residual-in_err-reserve.result faults.DiskFault → ⊥ = search rules in
    durable_reserved g.D.Disk
    (Changed c.args.changes.now) c.args.v c.args.disk.now c.requires.empty c.requires.settled c.reserve.ensures.reserves not

pub returns-clause-done : goal.returns-clause-done
returns-clause-done g c =
    let made = c.keep_and_redo in
    let Done : List Change → Type 0 =
    λ cs. OnOk made.result
    (RewritesFiles g.D.Disk (Changed cs) c.args.v c.reserve.new.disk made.new.disk c.reserve.new.self made.new.pages) in
    ok_map made.result _ _ (subst Done c.as_slice-3.ensures made.ensures.done)
    (rewrites_first g.D.Disk
    (Changed c.args.changes.now) c.args.v c.args.disk.now c.requires.empty c.requires.settled c.in_ok-reserve.ensures.reserves
    c.reserve.ensures.pages)

pub returns-clause-durable : goal.returns-clause-durable
returns-clause-durable g c =
    let made = c.keep_and_redo in
    let Durable : List Change → Type 0 =
    λ cs. IsDurableOver g.D.Disk (Changed cs) c.args.v c.reserve.new.disk made.new.disk (IsErrOf made.result faults.DiskFault) in
    durable_first g.D.Disk
    (Changed c.args.changes.now) c.args.v c.args.disk.now c.requires.empty c.requires.settled c.in_ok-reserve.ensures.reserves
    (subst Durable c.as_slice-3.ensures made.ensures.durable)
