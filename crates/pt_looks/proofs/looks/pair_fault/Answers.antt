use Rattle.std.proofs.lemmas.Int.{to_z-of_z}
use Rattle.pt_looks.proofs.Ended.{pair_no_user}
use Rattle.pt_looks.proofs.looks.pair_fault.Goals as goal

pub returns-then-branch-clause-found : goal.returns-then-branch-clause-found
returns-then-branch-clause-found g c =
    let fits = c.ranges.member in
    let found = c.in_ok-is_unknown.ensures.found in
    let none = rw c.if-branch.true at found in
    pair_no_user c.args.d.now.bytes c.args.member c.args.group (simp to_z-of_z at none)
