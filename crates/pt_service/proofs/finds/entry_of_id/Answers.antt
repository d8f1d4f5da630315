use Rattle.std.proofs.lemmas.Int.{to_z-of_z}
use Rattle.std.proofs.lemmas.Result.{err_from_is_err_and}
use Rattle.pt_service.proofs.Entries.{unfit_id}
use Rattle.std.proofs.Common.{◌≡◌, Option, sym, subst}
use Rattle.std.specs.Option.{option_map}
use Rattle.prdb_layout.specs.RecordEnds.{seen}
use Rattle.prdb_layout.specs.declared.records.PrEntry.{PrEntry as CodeEntry}
use Rattle.pt_service.specs.Told.{Told}
use Rattle.pt_service.proofs.finds.entry_of_id.Goals as goal

pub returns-in_err-e-clause-fault : goal.returns-in_err-e-clause-fault
returns-in_err-e-clause-fault g c =
    let fits = c.ranges.id in
    let found = c.in_ok-found.ensures.found in
    let p = err_from_is_err_and c.from_residual-in_err-e.result c.from_residual-in_err-e.ensures.1 in
    rw (p.1, p.2) (unfit_id c.args.d.now.bytes c.in_ok-found.found c.args.id c.len.result c.in_err-e.field-0.0 c.in_err-e.ensures.fault
    c.in_err-e.ensures.unfit
    (simp to_z-of_z at found))

pub returns-clause-found : goal.returns-clause-found
returns-clause-found g c =
    let fits = c.ranges.id in
    let found = c.in_ok-found.ensures.found in
    subst (λ (o : Option CodeEntry). Told c.args.d.now.bytes (λ r. option_map seen o ≡ r.entry c.args.id)) (sym c.in_ok-e.ensures.same)
    (simp to_z-of_z at found)
