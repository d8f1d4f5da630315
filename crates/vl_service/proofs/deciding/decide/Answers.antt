use Rattle.std.proofs.Common.{ap, ◌∙◌}
use Rattle.vldb_entries.specs.Location.{placed}
use Rattle.vl_service.proofs.Decided.{enters, own_refused, shared_refused, size_refused}
use Rattle.vl_service.proofs.deciding.decide.Goals as goal

pub returns-in-Some-clause-decided : goal.returns-in-Some-clause-decided
returns-in-Some-clause-decided g c = own_refused c.args.d.now.bytes c.args.own c.args.e.now c.in-Some.fault c.in-Some.ensures.value

pub returns-in-Some-2-clause-decided : goal.returns-in-Some-2-clause-decided
returns-in-Some-2-clause-decided g c =
    let found = c.in_ok-fault.ensures.found in
    shared_refused c.args.d.now.bytes c.args.own c.args.e.now c.in-Some-2.fault c.in_default.ensures.value (rw c.in-Some-2.is at found)

pub returns-in-Some-placed-clause-decided : goal.returns-in-Some-placed-clause-decided
returns-in-Some-placed-clause-decided g c =
    let found = c.in_ok-fault.ensures.found in
    enters c.args.d.now.bytes c.shared_fault.new.d.bytes c.args.own c.args.e.now
    (record { old = c.in_ok-old.old; new = c.in-Some-placed.new })
    (record {
      same = c.shared_fault.ensures.frame.same.bytes;
      none = c.in_default.ensures.value;
      shared = rw c.in_default-2.is at found;
      places = c.in_ok-old.ensures.found;
    })
    (c.in-Some-placed.ensures ∙ ap (λ sites. placed sites c.in_ok-old.old) c.as_slice.ensures)

pub returns-in-None-clause-decided : goal.returns-in-None-clause-decided
returns-in-None-clause-decided g c =
    let found = c.in_ok-fault.ensures.found in
    size_refused c.args.d.now.bytes c.shared_fault.new.d.bytes c.args.own c.args.e.now c.in_ok-old.old
    (record {
      same = c.shared_fault.ensures.frame.same.bytes;
      none = c.in_default.ensures.value;
      shared = rw c.in_default-2.is at found;
      places = c.in_ok-old.ensures.found;
    })
    (c.in-None.ensures ∙ ap (λ sites. placed sites c.in_ok-old.old) c.as_slice.ensures)
