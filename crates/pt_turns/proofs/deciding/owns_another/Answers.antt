use Rattle.std.proofs.lemmas.Int.{to_z-of_z}
use Rattle.pt_turns.proofs.Others.{owns_none, owns_some}
use Rattle.pt_turns.proofs.deciding.owns_another.Goals as goal

pub returns-in_default-clause-found : goal.returns-in_default-clause-found
returns-in_default-clause-found g c =
    let fits = c.ranges.id in
    let found = c.in_ok-ids.ensures.found in
    let none = rw c.in_default.is at found in
    owns_none c.args.d.now.bytes c.args.id (simp to_z-of_z at none)

pub returns-clause-found : goal.returns-clause-found
returns-clause-found g c =
    let fits = c.ranges.id in
    let found = c.in_ok-ids.ensures.found in
    let some = rw c.in-Some.is at found in
    let value = c.deref.ensures.value in
    let told = c.has_other.ensures in
    let is = rw value at told in
    owns_some c.args.d.now.bytes c.args.id c.in-Some.ids.items c.has_other.result (simp to_z-of_z at some) (simp to_z-of_z at is)
