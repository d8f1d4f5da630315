use Rattle.pt_turns.proofs.Shared.{groups_shared, name_shared}
use Rattle.pt_turns.proofs.deciding.has_equal_names.Goals as goal

pub returns-then-taken-clause-found : goal.returns-then-taken-clause-found
returns-then-taken-clause-found g c =
    let found = c.in_ok-taken.ensures.found in
    name_shared c.args.d.now.bytes c.args.new.now c.args.groups.now (rw c.if-taken.true at found)

pub returns-clause-found : goal.returns-clause-found
returns-clause-found g c =
    let found = c.in_ok-taken.ensures.found in
    groups_shared c.shares_any.result c.args.d.now.bytes c.has_name.new.d.bytes c.args.new.now c.args.groups.now
    (rw c.if-taken.false at found) c.has_name.ensures.frame.same.bytes c.shares_any.ensures.found
