use Rattle.std.proofs.Common.{arith, rules}
use Rattle.std.proofs.lemmas.Int.{to_z-of_z}
use Rattle.std.proofs.lemmas.Result.{err_from_is_err_and}
use Rattle.db_blocks.proofs.Scanned.{drafts_then}
use Rattle.prdb_lists.proofs.Written.{drafts_so}
use Rattle.pt_service.proofs.Named.{passed_id}
use Rattle.prdb_turns.specs.Fronts.{fronted}
use Rattle.prdb_turns.proofs.Refits.{leaves_hold, refitted_all, refitted_cause}
use Rattle.prdb_turns.proofs.Refitting.{refitting_more, refitting_none}
use Rattle.prdb_turns.proofs.fronts.give_fronts.Goals as goal

pub loop-id-init : goal.loop-id-init
loop-id-init g c = refitting_none g.I.ImageRead (fronted c.args.front.now) c.args.d.now c.args.ids.now

pub front_one-requires : goal.front_one-requires
front_one-requires g c = omega (arith, c.loop-id.invariant.len, c.requires)

pub loop-id-preserved : goal.loop-id-preserved
loop-id-preserved g c =
    refitting_more g.I.ImageRead (fronted c.args.front.now) c.args.d.now c.loop-id.d c.front_one.new.d _ _ c.args.ids.now
    c.loop-id.id-index c.in_ok-front_one.ensures.frame c.in_ok-front_one.ensures.len c.front_one.ensures.longer
    c.in_ok-front_one.ensures.bytes (first_of (search (rules, passed_id), grind (arith, to_z-of_z, passed_id))) c.loop-id-test.true
    c.loop-id.invariant

pub returns-in_err-front_one-clause-fault : goal.returns-in_err-front_one-clause-fault
returns-in_err-front_one-clause-fault g c =
    let p = err_from_is_err_and c.from_residual.result c.from_residual.ensures.1 in
    rw (p.1, p.2) (refitted_cause (fronted c.args.front.now) c.args.d.now.bytes c.loop-id.d.bytes _ c.args.ids.now c.loop-id.id-index
    c.in_err-front_one.field-0.0 c.loop-id-test.true (first_of (search (rules, passed_id), grind (arith, to_z-of_z, passed_id)))
    c.loop-id.invariant.each c.in_err-front_one.ensures.fault)

pub returns-in_err-front_one-clause-frame : goal.returns-in_err-front_one-clause-frame
returns-in_err-front_one-clause-frame g c =
    let p = err_from_is_err_and c.from_residual.result c.from_residual.ensures.1 in
    rw (p.1, p.2) (drafts_then g.I.ImageRead c.args.d.now c.loop-id.d c.front_one.new.d _ _ c.loop-id.invariant.frame
    c.in_err-front_one.ensures.frame)

pub returns-clause-bytes : goal.returns-clause-bytes
returns-clause-bytes g c =
    refitted_all (fronted c.args.front.now) c.args.d.now.bytes c.loop-id.d.bytes c.args.ids.now c.loop-id.id-index c.loop-id-test.false
    c.loop-id.invariant.each

pub returns-clause-holds : goal.returns-clause-holds
returns-clause-holds g c =
    leaves_hold (fronted c.args.front.now) c.args.d.now.bytes c.loop-id.d.bytes c.args.ids.now
    (refitted_all (fronted c.args.front.now) c.args.d.now.bytes c.loop-id.d.bytes c.args.ids.now c.loop-id.id-index c.loop-id-test.false
    c.loop-id.invariant.each)

pub returns-clause-frame : goal.returns-clause-frame
returns-clause-frame g c = drafts_so g.I.ImageRead c.args.d.now c.loop-id.d _ _ c.loop-id.invariant.frame (λ h. absurd cc)
