use Rattle.std.proofs.Common.{Some, None, true, false, sym, ◌∙◌, rules}
use Rattle.std.specs.Prelude.{FitsSigned}
use Rattle.std.specs.Int.{w32}
use Rattle.std.specs.Option.{option_map}
use Rattle.std.proofs.lemmas.Int.{to_z-of_z}
use Rattle.std.proofs.lemmas.Result.{err_from_is_err_and}
use Rattle.prdb_layout.specs.RecordEnds.{seen}
use Rattle.db_blocks.proofs.Scanned.{looks_then}
use Rattle.pt_looks.proofs.States.{looked_then}
use Rattle.pt_turns.proofs.Turned.{decided_given, decided_misnamed, decided_named, decided_taken, decided_turns, given_id, name_fault_same, taken_same}
use Rattle.pt_turns.proofs.deciding.decide.Goals as goal

pub returns-in-Some-clause-decided : goal.returns-in-Some-clause-decided
returns-in-Some-clause-decided g c =
    let given_owner : FitsSigned w32 c.args.given.owner = search rules in
    let given_id : FitsSigned w32 c.args.given.id = search rules in
    let own : FitsSigned w32 c.args.e.now.owner = search rules in
    let id : FitsSigned w32 c.args.e.now.id = search rules in
    let chosen = c.given_or-owner.ensures in
    let owner = simp to_z-of_z at chosen in
    let owner_fits : FitsSigned w32 c.given_or-owner.result = search rules in
    let raw = c.in_ok-its_owner.ensures.found in
    let told = simp to_z-of_z at raw in
    let its = rw owner at told in
    let is = c.given_fault-unfit.ensures in
    decided_given c.args.d.now.bytes (seen c.args.e.now) c.args.given.name.now c.args.given.owner c.args.given.id
    (option_map seen c.in_ok-its_owner.its_owner) c.in-Some.rule
    its (sym c.in-Some.is ∙ is)

pub returns-then-is_misnamed-clause-decided : goal.returns-then-is_misnamed-clause-decided
returns-then-is_misnamed-clause-decided g c =
    let given_owner : FitsSigned w32 c.args.given.owner = search rules in
    let given_id : FitsSigned w32 c.args.given.id = search rules in
    let own : FitsSigned w32 c.args.e.now.owner = search rules in
    let id : FitsSigned w32 c.args.e.now.id = search rules in
    let chosen = c.given_or-owner.ensures in
    let owner = simp to_z-of_z at chosen in
    let owner_fits : FitsSigned w32 c.given_or-owner.result = search rules in
    let raw = c.in_ok-its_owner.ensures.found in
    let told = simp to_z-of_z at raw in
    let its = rw owner at told in
    let is = c.given_fault-unfit.ensures in
    let misnamed = c.is_misnamed.ensures in
    decided_misnamed c.args.d.now.bytes (seen c.args.e.now) c.args.given.name.now c.args.given.owner c.args.given.id
    (option_map seen c.in_ok-its_owner.its_owner)
    its (sym c.in_default.is ∙ is) (sym misnamed ∙ c.if-is_misnamed.true)

pub returns-in-Some-fault-clause-decided : goal.returns-in-Some-fault-clause-decided
returns-in-Some-fault-clause-decided g c =
    let given_owner : FitsSigned w32 c.args.given.owner = search rules in
    let given_id : FitsSigned w32 c.args.given.id = search rules in
    let own : FitsSigned w32 c.args.e.now.owner = search rules in
    let id : FitsSigned w32 c.args.e.now.id = search rules in
    let chosen = c.given_or-owner.ensures in
    let owner = simp to_z-of_z at chosen in
    let owner_fits : FitsSigned w32 c.given_or-owner.result = search rules in
    let raw = c.in_ok-its_owner.ensures.found in
    let told = simp to_z-of_z at raw in
    let its = rw owner at told in
    let is = c.given_fault-unfit.ensures in
    let misnamed = c.is_misnamed.ensures in
    let value = c.deref.ensures.value in
    let name = c.in_ok-name.ensures in
    let looked = c.in_ok-fault.ensures.found in
    let rule = rw c.in-Some-fault.is at looked in
    decided_named c.args.d.now.bytes (seen c.args.e.now) c.args.given.name.now c.args.given.owner c.args.given.id
    (option_map seen c.in_ok-its_owner.its_owner)
    c.in_ok-name.name.items c.in-Some-fault.rule its (sym c.in_default.is ∙ is) (sym misnamed ∙ c.if-is_misnamed.false) name
    (name_fault_same c.args.d.now.bytes c.entry_of.new.d.bytes (seen c.args.e.now) c.in_ok-name.name.items
    (Some c.in-Some-fault.rule) c.entry_of.ensures.frame.same.bytes
    (rw value at rule))

pub returns-then-taken-clause-decided : goal.returns-then-taken-clause-decided
returns-then-taken-clause-decided g c =
    let given_owner : FitsSigned w32 c.args.given.owner = search rules in
    let given_id : FitsSigned w32 c.args.given.id = search rules in
    let own : FitsSigned w32 c.args.e.now.owner = search rules in
    let id : FitsSigned w32 c.args.e.now.id = search rules in
    let chosen = c.given_or-owner.ensures in
    let owner = simp to_z-of_z at chosen in
    let chosen_id = c.given_or-id.ensures in
    let next = simp to_z-of_z at chosen_id in
    let owner_fits : FitsSigned w32 c.given_or-owner.result = search rules in
    let raw = c.in_ok-its_owner.ensures.found in
    let told = simp to_z-of_z at raw in
    let its = rw owner at told in
    let is = c.given_fault-unfit.ensures in
    let misnamed = c.is_misnamed.ensures in
    let value = c.deref.ensures.value in
    let name = c.in_ok-name.ensures in
    let looked = c.in_ok-fault.ensures.found in
    let rule = rw c.in_default-fault.is at looked in
    let id_fits : FitsSigned w32 c.given_or-id.result = search rules in
    let raw_taken = c.in_ok-taken.ensures.found in
    let taken = simp to_z-of_z at raw_taken in
    let there = rw (c.if-taken.true, next) at taken in
    decided_taken c.args.d.now.bytes (seen c.args.e.now) c.args.given.name.now c.args.given.owner c.args.given.id
    (option_map seen c.in_ok-its_owner.its_owner)
    c.in_ok-name.name.items its (sym c.in_default.is ∙ is) (sym misnamed ∙ c.if-is_misnamed.false) name
    (name_fault_same c.args.d.now.bytes c.entry_of.new.d.bytes
    (seen c.args.e.now) c.in_ok-name.name.items None c.entry_of.ensures.frame.same.bytes (rw value at rule))
    (taken_same c.args.d.now.bytes c.name_fault.new.d.bytes (seen c.args.e.now) c.args.given.id true
    (c.name_fault.ensures.frame.same.bytes ∙ c.entry_of.ensures.frame.same.bytes) there)

pub returns-clause-id : goal.returns-clause-id
returns-clause-id g c =
    let is = c.given_fault-unfit.ensures in
    given_id (seen c.args.e.now) c.args.given.name.now c.args.given.owner c.args.given.id (option_map seen c.in_ok-its_owner.its_owner)
    (sym c.in_default.is ∙ is)

pub returns-clause-decided : goal.returns-clause-decided
returns-clause-decided g c =
    let given_owner : FitsSigned w32 c.args.given.owner = search rules in
    let given_id : FitsSigned w32 c.args.given.id = search rules in
    let own : FitsSigned w32 c.args.e.now.owner = search rules in
    let id : FitsSigned w32 c.args.e.now.id = search rules in
    let chosen = c.given_or-owner.ensures in
    let owner = simp to_z-of_z at chosen in
    let chosen_id = c.given_or-id.ensures in
    let next = simp to_z-of_z at chosen_id in
    let owner_fits : FitsSigned w32 c.given_or-owner.result = search rules in
    let id_fits : FitsSigned w32 c.given_or-id.result = search rules in
    let raw = c.in_ok-its_owner.ensures.found in
    let told = simp to_z-of_z at raw in
    let its = rw owner at told in
    let is = c.given_fault-unfit.ensures in
    let misnamed = c.is_misnamed.ensures in
    let value = c.deref.ensures.value in
    let name = c.in_ok-name.ensures in
    let looked = c.in_ok-fault.ensures.found in
    let rule = rw c.in_default-fault.is at looked in
    let raw_taken = c.in_ok-taken.ensures.found in
    let taken = simp to_z-of_z at raw_taken in
    let free = rw (c.if-taken.false, next) at taken in
    simp to_z-of_z (decided_turns c.args.d.now.bytes (seen c.args.e.now) c.args.given.name.now c.args.given.owner c.args.given.id
    (option_map seen c.in_ok-its_owner.its_owner)
    (record { name = c.in_ok-name.name; owner = c.given_or-owner.result; id = c.given_or-id.result }) its
    (sym c.in_default.is ∙ is) (sym misnamed ∙ c.if-is_misnamed.false) name
    (name_fault_same c.args.d.now.bytes c.entry_of.new.d.bytes
    (seen c.args.e.now) c.in_ok-name.name.items None c.entry_of.ensures.frame.same.bytes (rw value at rule))
    (taken_same c.args.d.now.bytes c.name_fault.new.d.bytes (seen c.args.e.now) c.args.given.id false
    (c.name_fault.ensures.frame.same.bytes ∙ c.entry_of.ensures.frame.same.bytes) free) owner next)

pub returns-in_err-fault-clause-frame : goal.returns-in_err-fault-clause-frame
returns-in_err-fault-clause-frame g c =
    let p = err_from_is_err_and c.from_residual-in_err-fault.result c.from_residual-in_err-fault.ensures.1 in
    rw (p.1, p.2) (looked_then g.I.ImageRead c.args.d.now c.entry_of.new.d c.name_fault.new.d _ _ _ c.entry_of.ensures.frame
    c.in_err-fault.ensures.frame (λ h. cc))

pub returns-in-Some-fault-clause-frame : goal.returns-in-Some-fault-clause-frame
returns-in-Some-fault-clause-frame g c =
    looked_then g.I.ImageRead c.args.d.now c.entry_of.new.d c.name_fault.new.d _ _ _ c.entry_of.ensures.frame c.in_ok-fault.ensures.frame
    (λ h. absurd cc)

pub returns-in_err-taken-clause-frame : goal.returns-in_err-taken-clause-frame
returns-in_err-taken-clause-frame g c =
    let p = err_from_is_err_and c.from_residual-in_err-taken.result c.from_residual-in_err-taken.ensures.1 in
    rw (p.1, p.2) (looked_then g.I.ImageRead c.args.d.now c.name_fault.new.d c.is_taken.new.d _ _ _
    (looks_then g.I.ImageRead c.args.d.now c.entry_of.new.d c.name_fault.new.d _ _ c.entry_of.ensures.frame c.name_fault.ensures.frame)
    c.in_err-taken.ensures.frame (λ h. cc))

pub returns-then-taken-clause-frame : goal.returns-then-taken-clause-frame
returns-then-taken-clause-frame g c =
    looked_then g.I.ImageRead c.args.d.now c.name_fault.new.d c.is_taken.new.d _ _ _
    (looks_then g.I.ImageRead c.args.d.now c.entry_of.new.d c.name_fault.new.d _ _ c.entry_of.ensures.frame c.name_fault.ensures.frame)
    c.in_ok-taken.ensures.frame (λ h. absurd cc)

pub returns-clause-frame : goal.returns-clause-frame
returns-clause-frame g c =
    looked_then g.I.ImageRead c.args.d.now c.name_fault.new.d c.is_taken.new.d _ _ _
    (looks_then g.I.ImageRead c.args.d.now c.entry_of.new.d c.name_fault.new.d _ _ c.entry_of.ensures.frame c.name_fault.ensures.frame)
    c.in_ok-taken.ensures.frame (λ h. absurd cc)
