use Rattle.std.proofs.Common.{arith, rules}
use Rattle.std.specs.Prelude.{FitsSigned}
use Rattle.std.specs.Int.{w32}
use Rattle.std.proofs.lemmas.Int.{to_z-of_z}
use Rattle.prdb_layout.specs.RecordEnds.{seen}
use Rattle.pt_service.proofs.Entries.{record_is}
use Rattle.pt_service.proofs.Refitted.{refit_err}
use Rattle.pt_service.proofs.fields.put.Goals as goal

pub replace-requires-clause-entry : goal.replace-requires-clause-entry
replace-requires-clause-entry g c =
    let id : FitsSigned w32 c.args.e.id = search rules in
    let owner : FitsSigned w32 c.args.e.owner = search rules in
    let creator : FitsSigned w32 c.args.e.creator = search rules in
    let quota : FitsSigned w32 c.args.e.quota = search rules in
    record_is (seen c.args.e) (omega arith) id owner creator quota c.requires.fits

pub returns-clause-fault : goal.returns-clause-fault
returns-clause-fault g c =
    let fits : FitsSigned w32 c.args.e.id = search rules in
    let fault = c.replace.ensures.fault in
    refit_err c.replace.result c.args.d.now.bytes (seen c.args.e) (simp to_z-of_z at fault)

pub returns-clause-frame : goal.returns-clause-frame
returns-clause-frame g c = c.replace.ensures.frame.drafts

pub returns-clause-bytes : goal.returns-clause-bytes
returns-clause-bytes g c =
    let fits : FitsSigned w32 c.args.e.id = search rules in
    let made = c.replace.ensures.bytes in
    simp to_z-of_z at made
