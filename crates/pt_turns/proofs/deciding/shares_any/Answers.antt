use Rattle.std.proofs.Common.{arith, rules}
use Rattle.pt_turns.proofs.Shared.{sharing_all, sharing_more, sharing_none, sharing_one}
use Rattle.pt_turns.proofs.deciding.shares_any.Goals as goal

pub loop-g-init : goal.loop-g-init
loop-g-init g c = sharing_none g.I.ImageRead c.args.d.now c.args.new.now c.args.groups.now

pub shares_one-requires : goal.shares_one-requires
shares_one-requires g c = omega (arith, c.loop-g.invariant.frame.same.len, c.requires)

pub loop-g-preserved : goal.loop-g-preserved
loop-g-preserved g c =
    let text = c.as_slice.ensures in
    let found = c.in_ok-shares.ensures.found in
    sharing_more g.I.ImageRead c.args.d.now c.loop-g.d c.shares_one.new.d _ c.args.new.now c.args.groups.now c.loop-g.g-index
    c.g-item.result c.in_ok-shares.shares c.in_ok-shares.ensures.frame (rw text at found) c.if-shares.false
    (first_of (search rules, cc, grind arith)) c.loop-g-test.true c.loop-g.invariant

pub returns-then-shares-clause-found : goal.returns-then-shares-clause-found
returns-then-shares-clause-found g c =
    let text = c.as_slice.ensures in
    let found = c.in_ok-shares.ensures.found in
    sharing_one g.I.ImageRead c.args.d.now c.loop-g.d c.args.new.now c.args.groups.now c.loop-g.g-index
    c.g-item.result c.in_ok-shares.shares (rw text at found) c.if-shares.true (first_of (search rules, cc, grind arith))
    c.loop-g-test.true c.loop-g.invariant

pub returns-clause-found : goal.returns-clause-found
returns-clause-found g c =
    sharing_all g.I.ImageRead c.args.d.now c.loop-g.d c.args.new.now c.args.groups.now c.loop-g.g-index c.loop-g-test.false
    c.loop-g.invariant
