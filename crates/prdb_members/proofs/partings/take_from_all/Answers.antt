use Rattle.std.proofs.Common.{ℤ, List, ℕ, pos, get_or, arith, rules, ◌∙◌}
use Rattle.std.specs.Prelude.{FitsSigned}
use Rattle.std.specs.Int.{w32}
use Rattle.std.proofs.lemmas.Int.{to_z-of_z}
use Rattle.std.proofs.lemmas.Result.{err_from_is_err_and}
use Rattle.db_blocks.proofs.Scanned.{drafts_then}
use Rattle.prdb_lists.proofs.Written.{drafts_so}
use Rattle.prdb_members.specs.Changes.{without_id}
use Rattle.prdb_members.specs.Sides.{HasInList}
use Rattle.prdb_members.proofs.MoveEnds.{other_is}
use Rattle.prdb_members.proofs.PartingEnds.{going_done, going_fault, going_more, going_none}
use Rattle.prdb_members.proofs.partings.take_from_all.Goals as goal

abbrev change : ℤ → ℤ → List ℕ → List ℕ
change id entry image = without_id entry id image

pub loop-entry-init : goal.loop-entry-init
loop-entry-init g c =
    let fits = c.ranges.id in
    simp to_z-of_z (going_none g.I.ImageRead c.args.d.now (HasInList c.args.id) (change c.args.id) c.args.entries.now)

pub take_id-requires : goal.take_id-requires
take_id-requires g c = omega (arith, c.requires, c.loop-entry.invariant.len)

pub returns-in_err-take_id-clause-len : goal.returns-in_err-take_id-clause-len
returns-in_err-take_id-clause-len g c = c.take_id.ensures.len ∙ c.loop-entry.invariant.len

pub returns-in_err-take_id-clause-fault : goal.returns-in_err-take_id-clause-fault
returns-in_err-take_id-clause-fault g c =
    let fits_id = c.ranges.id in
    let fits : FitsSigned w32 (get_or c.args.entries.now c.loop-entry.entry-index (pos 0)) = search rules in
    let raw = c.loop-entry.invariant in
    let so_far = simp to_z-of_z at raw in
    let cause_raw = c.in_err-take_id.ensures.fault in
    let p = err_from_is_err_and c.from_residual.result c.from_residual.ensures.1 in
    rw (p.1, p.2)
    (going_fault g.I.ImageRead c.args.d.now c.loop-entry.d (HasInList c.args.id) (change c.args.id) c.args.entries.now
    c.loop-entry.entry-index (get_or c.args.entries.now c.loop-entry.entry-index (pos 0)) c.in_err-take_id.field-0.0
    (simp to_z-of_z at cause_raw) (other_is c.args.entries.now c.loop-entry.entry-index c.loop-entry-test.true) c.loop-entry-test.true
    so_far)

pub returns-in_err-take_id-clause-frame : goal.returns-in_err-take_id-clause-frame
returns-in_err-take_id-clause-frame g c =
    let p = err_from_is_err_and c.from_residual.result c.from_residual.ensures.1 in
    rw (p.1, p.2)
    (drafts_then g.I.ImageRead c.args.d.now c.loop-entry.d c.take_id.new.d _ _ c.loop-entry.invariant.frame
    c.in_err-take_id.ensures.frame)

pub loop-entry-preserved : goal.loop-entry-preserved
loop-entry-preserved g c =
    let fits_id = c.ranges.id in
    let fits : FitsSigned w32 (get_or c.args.entries.now c.loop-entry.entry-index (pos 0)) = search rules in
    let raw = c.loop-entry.invariant in
    let so_far = simp to_z-of_z at raw in
    let bytes_raw = c.in_ok-take_id.ensures.bytes in
    simp to_z-of_z
    (going_more g.I.ImageRead c.args.d.now c.loop-entry.d c.take_id.new.d (HasInList c.args.id) (change c.args.id) c.args.entries.now
    c.loop-entry.entry-index (get_or c.args.entries.now c.loop-entry.entry-index (pos 0)) _ c.in_ok-take_id.ensures.frame
    c.take_id.ensures.len (simp to_z-of_z at bytes_raw) (other_is c.args.entries.now c.loop-entry.entry-index c.loop-entry-test.true)
    c.loop-entry-test.true so_far)

pub returns-clause-bytes : goal.returns-clause-bytes
returns-clause-bytes g c =
    let fits_id = c.ranges.id in
    let raw = c.loop-entry.invariant in
    let so_far = simp to_z-of_z at raw in
    going_done g.I.ImageRead c.args.d.now c.loop-entry.d (HasInList c.args.id) (change c.args.id) c.args.entries.now
    c.loop-entry.entry-index c.loop-entry-test.false so_far

pub returns-clause-len : goal.returns-clause-len
returns-clause-len g c = c.loop-entry.invariant.len

pub returns-clause-frame : goal.returns-clause-frame
returns-clause-frame g c = drafts_so g.I.ImageRead c.args.d.now c.loop-entry.d _ _ c.loop-entry.invariant.frame (λ h. absurd cc)
