use Rattle.prdb_layout.specs.RecordEnds.{seen}
use Rattle.pt_service.proofs.Entries.{name_len}
use Rattle.std.proofs.lemmas.Int.{to_z-of_z}
use Rattle.pt_service.proofs.Told.{digits_told, name_told}
use Rattle.pt_service.proofs.looks.name_of.Goals as goal

pub returns-in-Some-clause-len : goal.returns-in-Some-clause-len
returns-in-Some-clause-len g c =
    let good = c.in_ok-entry.ensures.good in
    name_len (seen c.in-Some.entry) (rw c.in-Some.is at good)

pub returns-in-Some-clause-found : goal.returns-in-Some-clause-found
returns-in-Some-clause-found g c =
    let fits = c.ranges.id in
    let first = c.in_ok-entry.ensures.found in
    let found = rw c.in-Some.is at first in
    name_told c.args.d.now.bytes (seen c.in-Some.entry) c.args.id (simp to_z-of_z at found)

pub returns-in_ok-digits_of-in-None-clause-found : goal.returns-in_ok-digits_of-in-None-clause-found
returns-in_ok-digits_of-in-None-clause-found g c =
    let fits = c.ranges.id in
    let first = c.in_ok-entry.ensures.found in
    let none = rw c.in-None.is at first in
    let value = c.in_ok-digits_of-in-None.ensures.value in
    digits_told c.args.d.now.bytes c.in_ok-digits_of-in-None.field-0 c.args.id (simp to_z-of_z at value) (simp to_z-of_z at none)
