use Rattle.std.proofs.Common.{sym, subst}
use Rattle.std.proofs.lemmas.Int.{to_z-of_z}
use Rattle.prdb_layout.specs.RecordEnds.{seen}
use Rattle.pt_service.proofs.Entries.{name_len}
use Rattle.pt_looks.specs.Pages.{HasShortName}
use Rattle.pt_looks.proofs.Linked.{first_told, none_told}
use Rattle.pt_looks.proofs.entries.told_first.Goals as goal

pub returns-in_default-clause-found : goal.returns-in_default-clause-found
returns-in_default-clause-found g c =
    let fits = c.ranges.id in
    let found = c.in_ok-e.ensures.found in
    let none = rw c.in_default.is at found in
    none_told c.args.d.now.bytes c.args.id (simp to_z-of_z at none)

pub returns-clause-found : goal.returns-clause-found
returns-clause-found g c =
    let fits = c.ranges.id in
    let found = c.in_ok-e.ensures.found in
    let some = rw c.in-Some.is at found in
    first_told c.args.d.now.bytes c.args.id (seen c.in-Some.e) c.told_alone.result c.requires.empty (simp to_z-of_z at some)
    c.told_alone.ensures

pub returns-clause-short : goal.returns-clause-short
returns-clause-short g c =
    let good = c.in_ok-e.ensures.good in
    let fits = rw c.in-Some.is at good in
    subst HasShortName (sym c.told_alone.ensures) (name_len (seen c.in-Some.e) fits)
