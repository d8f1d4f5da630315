use Rattle.std.proofs.Common.{◌<◌, ◌^◌, sym, ◌∙◌, rules}
use Rattle.std.specs.Prelude.{FitsSigned}
use Rattle.std.specs.Int.{w32}
use Rattle.std.proofs.lemmas.Int.{to_z-of_z}
use Rattle.prdb_layout.specs.RecordEnds.{seen}
use Rattle.pt_service.proofs.Entries.{record_is}
use Rattle.prdb_turns.proofs.Found.{found_one, gone_cause, unfit_cause}
use Rattle.prdb_turns.proofs.entries.entry_there.Goals as goal

pub returns-in_default-clause-fault : goal.returns-in_default-clause-fault
returns-in_default-clause-fault g c =
    let fits = c.ranges.id in
    let found = c.in_ok-e.ensures.found in
    gone_cause c.args.d.now.bytes c.args.id c.in_ok-e.field-0 0 c.in_default.is (simp to_z-of_z at found)

pub returns-then-not-entry_fits-clause-fault : goal.returns-then-not-entry_fits-clause-fault
returns-then-not-entry_fits-clause-fault g c =
    let fits = c.ranges.id in
    let found = c.in_ok-e.ensures.found in
    unfit_cause c.args.d.now.bytes c.args.id c.in_ok-e.field-0 c.in-Some.e 0 c.in-Some.is
    (sym c.entry_fits.ensures ∙ c.if-not-entry_fits.true) (simp to_z-of_z at found)

pub returns-clause-found : goal.returns-clause-found
returns-clause-found g c =
    let fits = c.ranges.id in
    let found = c.in_ok-e.ensures.found in
    found_one c.args.d.now.bytes c.args.id c.in_ok-e.field-0 c.in-Some.e c.in-Some.is (simp to_z-of_z at found)

pub returns-clause-good : goal.returns-clause-good
returns-clause-good g c =
    let flags : c.in-Some.e.flags < 2 ^ 32 = search rules in
    let id : FitsSigned w32 c.in-Some.e.id = search rules in
    let owner : FitsSigned w32 c.in-Some.e.owner = search rules in
    let creator : FitsSigned w32 c.in-Some.e.creator = search rules in
    let quota : FitsSigned w32 c.in-Some.e.quota = search rules in
    record_is (seen c.in-Some.e) flags id owner creator quota (sym c.entry_fits.ensures ∙ c.if-not-entry_fits.false)
