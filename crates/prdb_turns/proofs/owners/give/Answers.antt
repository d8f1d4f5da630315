use Rattle.std.proofs.Common.{arith, rules}
use Rattle.std.proofs.lemmas.Int.{to_z-of_z}
use Rattle.std.proofs.lemmas.Result.{err_from_is_err_and}
use Rattle.db_blocks.proofs.Scanned.{drafts_then}
use Rattle.prdb_lists.proofs.Written.{drafts_so}
use Rattle.pt_service.proofs.Named.{passed_id}
use Rattle.prdb_turns.specs.Owners.{with_owner}
use Rattle.prdb_turns.proofs.Giving.{given_bytes, given_cause, given_holds}
use Rattle.prdb_turns.proofs.Refits.{refitted_all, refitted_cause}
use Rattle.prdb_turns.proofs.Refitting.{refitting_more, refitting_none}
use Rattle.prdb_turns.proofs.owners.give.Goals as goal

pub loop-id-init : goal.loop-id-init
loop-id-init g c =
    let fits = c.ranges.owner in
    simp to_z-of_z (refitting_none g.I.ImageRead (with_owner c.args.owner) c.args.d.now c.args.ids.now)

pub give_one-requires : goal.give_one-requires
give_one-requires g c = omega (arith, c.loop-id.invariant.len, c.requires)

pub loop-id-preserved : goal.loop-id-preserved
loop-id-preserved g c =
    let fits = c.ranges.owner in
    let raw = c.loop-id.invariant in
    let so_far = simp to_z-of_z at raw in
    let leaves = c.in_ok-give_one.ensures.bytes in
    simp to_z-of_z (refitting_more g.I.ImageRead (with_owner c.args.owner) c.args.d.now c.loop-id.d c.give_one.new.d _ _ c.args.ids.now
    c.loop-id.id-index c.in_ok-give_one.ensures.frame c.in_ok-give_one.ensures.len c.give_one.ensures.longer (simp to_z-of_z at leaves)
    (first_of (search (rules, passed_id), grind (arith, to_z-of_z, passed_id))) c.loop-id-test.true so_far)

pub returns-in_err-give_one-clause-fault : goal.returns-in_err-give_one-clause-fault
returns-in_err-give_one-clause-fault g c =
    let fits = c.ranges.owner in
    let raw = c.loop-id.invariant in
    let so_far = simp to_z-of_z at raw in
    let cause = c.in_err-give_one.ensures.fault in
    let p = err_from_is_err_and c.from_residual.result c.from_residual.ensures.1 in
    rw (p.1, p.2) (given_cause c.args.d.now.bytes c.args.owner c.args.ids.now c.in_err-give_one.field-0.0
    (refitted_cause (with_owner c.args.owner) c.args.d.now.bytes c.loop-id.d.bytes _ c.args.ids.now c.loop-id.id-index
    c.in_err-give_one.field-0.0 c.loop-id-test.true (first_of (search (rules, passed_id), grind (arith, to_z-of_z, passed_id)))
    so_far.each (simp to_z-of_z at cause)))

pub returns-in_err-give_one-clause-frame : goal.returns-in_err-give_one-clause-frame
returns-in_err-give_one-clause-frame g c =
    let p = err_from_is_err_and c.from_residual.result c.from_residual.ensures.1 in
    rw (p.1, p.2) (drafts_then g.I.ImageRead c.args.d.now c.loop-id.d c.give_one.new.d _ _ c.loop-id.invariant.frame
    c.in_err-give_one.ensures.frame)

pub returns-clause-bytes : goal.returns-clause-bytes
returns-clause-bytes g c =
    let fits = c.ranges.owner in
    let raw = c.loop-id.invariant in
    let so_far = simp to_z-of_z at raw in
    given_bytes c.args.d.now.bytes c.loop-id.d.bytes c.args.owner c.args.ids.now
    (refitted_all (with_owner c.args.owner) c.args.d.now.bytes c.loop-id.d.bytes c.args.ids.now c.loop-id.id-index c.loop-id-test.false
    so_far.each)

pub returns-clause-holds : goal.returns-clause-holds
returns-clause-holds g c =
    let fits = c.ranges.owner in
    let raw = c.loop-id.invariant in
    let so_far = simp to_z-of_z at raw in
    given_holds c.args.d.now.bytes c.loop-id.d.bytes c.args.owner c.args.ids.now
    (given_bytes c.args.d.now.bytes c.loop-id.d.bytes c.args.owner c.args.ids.now
    (refitted_all (with_owner c.args.owner) c.args.d.now.bytes c.loop-id.d.bytes c.args.ids.now c.loop-id.id-index c.loop-id-test.false
    so_far.each))

pub returns-clause-frame : goal.returns-clause-frame
returns-clause-frame g c = drafts_so g.I.ImageRead c.args.d.now c.loop-id.d _ _ c.loop-id.invariant.frame (λ h. absurd cc)
