use Rattle.std.proofs.Common.{length, ap, ◌∙◌, arith}
use Rattle.std.proofs.lemmas.Result.{err_from_is_err_and}
use Rattle.db_chains.specs.declared.changes.Until.TheVariants.{Above}
use Rattle.db_chains.specs.Changes.{is_until}
use Rattle.db_chains.specs.Ends.{walk_cost}
use Rattle.db_chains.specs.Free.{free_links}
use Rattle.db_chains.proofs.Ended.{bad_cause, bad_count}
use Rattle.db_chains.proofs.FreeClauses.{bytes_freed, freed_frame, is_freed}
use Rattle.db_chains.proofs.Freed.{blank_len}
use Rattle.db_chains.proofs.Results.{ok_so}
use Rattle.db_chains.proofs.free_blocks.free_block.Goals as goal

pub returns-in_err-count-clause-bad : goal.returns-in_err-count-clause-bad
returns-in_err-count-clause-bad g c =
    let p = err_from_is_err_and c.from_residual.result c.from_residual.ensures.1 in
    rw (p.1, p.2) (bad_count c.args.d.now.bytes (free_links c.args.free) (is_until (Above c.args.number)) c.args.free.first c.len.result
    c.in_err-count.field-0.0 c.in_err-count.ensures.fault.0 (rw c.len.ensures.size c.len.ensures.told) c.in_err-count.ensures.fault.1)

pub returns-in_err-count-clause-fault : goal.returns-in_err-count-clause-fault
returns-in_err-count-clause-fault g c =
    let p = err_from_is_err_and c.from_residual.result c.from_residual.ensures.1 in
    rw (p.1, p.2) (bad_cause c.args.d.now.bytes (free_links c.args.free) (is_until (Above c.args.number)) c.args.free.first
    c.in_err-count.field-0.0 c.requires.free.links.step
    (bad_count c.args.d.now.bytes (free_links c.args.free) (is_until (Above c.args.number)) c.args.free.first c.len.result
    c.in_err-count.field-0.0 c.in_err-count.ensures.fault.0 (rw c.len.ensures.size c.len.ensures.told) c.in_err-count.ensures.fault.1))

pub returns-in_err-stop-clause-fault : goal.returns-in_err-stop-clause-fault
returns-in_err-stop-clause-fault g c =
    let p = err_from_is_err_and c.from_residual-in_err-stop.result c.from_residual-in_err-stop.ensures.1 in
    let bad = rw c.free_links-links.ensures at c.in_err-stop.ensures.fault in
    rw (p.1, p.2) (bad_cause c.args.d.now.bytes (free_links c.args.free) (is_until (Above c.args.number)) c.args.free.first
    c.in_err-stop.field-0.0 c.requires.free.links.step bad)

pub returns-clause-bytes : goal.returns-clause-bytes
returns-clause-bytes g c =
    let stands = rw c.free_links-links.ensures at c.in_ok-stop.ensures.stop in
    let made = rw c.free_links-links.ensures at c.put_in.ensures.bytes in
    ok_so c.put_in.result _ _ made
    (bytes_freed c.args.d.now.bytes c.walk.new.d.bytes c.put.new.self.bytes c.put_in.new.d.bytes c.args.free c.args.number
    c.block_place.result c.in_ok-stop.stop c.blank.result stands c.walk.ensures.frame.looks.same.bytes c.block_place.ensures
    c.blank.ensures c.in_ok-put.ensures.bytes)

pub returns-clause-freed : goal.returns-clause-freed
returns-clause-freed g c =
    let stands = rw c.free_links-links.ensures at c.in_ok-stop.ensures.stop in
    let made = rw c.free_links-links.ensures at c.put_in.ensures.bytes in
    ok_so c.put_in.result _ _ made
    (is_freed c.args.d.now.bytes c.walk.new.d.bytes c.put.new.self.bytes c.put_in.new.d.bytes c.args.free c.in_ok-count.count c.len.result
    c.args.number c.block_place.result c.in_ok-stop.stop c.blank.result c.requires.free (rw c.len.ensures.size c.len.ensures.told)
    c.in_ok-count.ensures.count c.requires.block.some
    (omega (arith, c.requires.block.within, c.in_ok-count.ensures.count, c.len.ensures.size)) stands
    c.walk.ensures.frame.looks.same.bytes c.block_place.ensures c.blank.ensures c.in_ok-put.ensures.bytes)

pub returns-clause-frame : goal.returns-clause-frame
returns-clause-frame g c =
    let looks = rw c.free_links-links.ensures at c.walk.ensures.frame in
    freed_frame g.I.ImageRead (walk_cost (free_links c.args.free) c.args.d.now.len) _ _ c.args.d.now c.walk.new.d c.put.new.self
    c.put_in.new.d _ _ _ looks (ap length c.blank.ensures ∙ blank_len c.args.free) c.put.ensures.layout c.put.ensures.reads
    c.put_in.ensures.frame (omega arith)
