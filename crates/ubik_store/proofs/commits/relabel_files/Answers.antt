use Rattle.std.proofs.Common.{rules, []}
use Rattle.std.specs.Prelude.{IsErrOf}
use Rattle.ubik_store.specs.declared.faults.StoreFault.TheVariants as faults
use Rattle.ubik_store.specs.Rewrite.Rewrite.{Changed}
use Rattle.ubik_store.proofs.Durable.{durable_reserved, durable_first, rewrites_first}
use Rattle.ubik_store.proofs.Telling.{ok_map}
use Rattle.ubik_store.proofs.commits.relabel_files.Goals as goal

pub returns-in_err-reserve-clause-durable : goal.returns-in_err-reserve-clause-durable
returns-in_err-reserve-clause-durable g c =
    let not : IsErrOf c.from_residual.result faults.DiskFault → ⊥ = search rules in
    durable_reserved g.D.Disk (Changed []) c.args.v c.args.disk.now c.requires.empty c.requires.settled c.reserve.ensures.reserves not

pub returns-clause-done : goal.returns-clause-done
returns-clause-done g c = ok_map c.keep_and_redo.result _ _ c.keep_and_redo.ensures.done
    (rewrites_first g.D.Disk
    (Changed []) c.args.v c.args.disk.now c.requires.empty c.requires.settled c.in_ok-reserve.ensures.reserves c.reserve.ensures.pages)

pub returns-clause-durable : goal.returns-clause-durable
returns-clause-durable g c =
    durable_first g.D.Disk (Changed []) c.args.v c.args.disk.now c.requires.empty c.requires.settled c.in_ok-reserve.ensures.reserves
    c.keep_and_redo.ensures.durable
