use Rattle.std.proofs.Common.{◌+◌, ◌≡◌, ◌<◌, ℕ, List, Some, pos, get_or, length, sym, subst, ◌∙◌, rules, arith}
use Rattle.std.specs.Prelude.{FitsSigned}
use Rattle.std.specs.Int.{w32}
use Rattle.std.proofs.lemmas.Int.{to_z-of_z}
use Rattle.std.proofs.lemmas.Result.{err_from_is_err_and}
use Rattle.prdb_members.proofs.MoveCosts.{costs_end, costs_first, costs_more, costs_put, costs_read, costs_stop}
use Rattle.prdb_members.proofs.MoveEnds.{FindsAll, drafts_err, elements_fault, moved_holds, moved_ok, moving_more, moving_none, other_is, put_done, put_fault, rechain_err, relist_fault}
use Rattle.db_image.specs.declared.faults.RecordFault.TheVariants.{DiskFault}
use Rattle.db_blocks.proofs.Scanned.{drafts_then}
use Rattle.prdb_lists.specs.Changes.{place_in}
use Rattle.prdb_lists.specs.Moves.{after_put_id}
use Rattle.prdb_members.proofs.moves.move_id.Goals as goal

pub returns-in_err-others-clause-fault : goal.returns-in_err-others-clause-fault
returns-in_err-others-clause-fault g c =
    let fits_old = c.ranges.old_id in
    let fits_new = c.ranges.new_id in
    let p = err_from_is_err_and c.from_residual.result c.from_residual.ensures.1 in
    rw (p.1, p.2) (elements_fault c.args.d.now.bytes c.args.old_id c.args.new_id c.in_err-others.field-0.0 c.in_err-others.ensures.fault)

pub loop-other-init : goal.loop-other-init
loop-other-init g c =
    let fits_old = c.ranges.old_id in
    let fits_new = c.ranges.new_id in
    let list_raw = c.in_ok-others.ensures.found in
    let list = simp to_z-of_z at list_raw in
    let items : FindsAll c.args.d.now.bytes c.args.old_id c.as_slice-other-items.result.now =
    subst (FindsAll c.args.d.now.bytes c.args.old_id) (sym c.as_slice-other-items.ensures.value) list in
    let cost_raw = c.elements.ensures.cost in
    record {
      state = simp to_z-of_z
          (moving_none g.I.ImageRead c.args.d.now c.elements.new.d c.args.old_id c.args.new_id c.as_slice-other-items.result.now _
          c.elements.ensures.frame);
      cost = simp to_z-of_z
          (costs_first c.args.d.now.bytes c.args.d.now.layout c.args.old_id c.args.new_id c.as_slice-other-items.result.now
          (g.I.ImageRead.asked c.args.d.now.image) (g.I.ImageRead.asked c.elements.new.d.image) items (simp to_z-of_z at cost_raw));
    }

pub returns-in_err-relist-clause-fault : goal.returns-in_err-relist-clause-fault
returns-in_err-relist-clause-fault g c =
    let fits_old = c.ranges.old_id in
    let fits_new = c.ranges.new_id in
    let fits : FitsSigned w32 (get_or c.as_slice-other-items.result.now c.loop-other.other-index (pos 0)) = search rules in
    let raw = c.loop-other.invariant.state in
    let so_far = simp to_z-of_z at raw in
    let list_raw = c.in_ok-others.ensures.found in
    let list = simp to_z-of_z at list_raw in
    let items : FindsAll c.args.d.now.bytes c.args.old_id c.as_slice-other-items.result.now =
    subst (FindsAll c.args.d.now.bytes c.args.old_id) (sym c.as_slice-other-items.ensures.value) list in
    let cause_raw = c.in_err-relist.ensures.fault in
    let cause = simp to_z-of_z at cause_raw in
    let p = err_from_is_err_and c.from_residual-in_err-relist.result c.from_residual-in_err-relist.ensures.1 in
    rw (p.1, p.2)
    (relist_fault c.args.d.now.bytes c.loop-other.d.bytes c.args.old_id c.args.new_id c.as_slice-other-items.result.now
    c.loop-other.other-index (get_or c.as_slice-other-items.result.now c.loop-other.other-index (pos 0))
    c.in_err-relist.field-0.0 items c.loop-other-test.true
    (other_is c.as_slice-other-items.result.now c.loop-other.other-index c.loop-other-test.true) so_far.bytes cause)

pub returns-in_err-relist-clause-frame : goal.returns-in_err-relist-clause-frame
returns-in_err-relist-clause-frame g c =
    let p = err_from_is_err_and c.from_residual-in_err-relist.result c.from_residual-in_err-relist.ensures.1 in
    rw (p.1, p.2)
    (drafts_then g.I.ImageRead c.args.d.now c.loop-other.d c.relist.new.d _ _ c.loop-other.invariant.state.frame
    c.in_err-relist.ensures.frame)

pub loop-other-preserved : goal.loop-other-preserved
loop-other-preserved g c =
    let fits_old = c.ranges.old_id in
    let fits_new = c.ranges.new_id in
    let fits : FitsSigned w32 (get_or c.as_slice-other-items.result.now c.loop-other.other-index (pos 0)) = search rules in
    let raw = c.loop-other.invariant.state in
    let so_far = simp to_z-of_z at raw in
    let list_raw = c.in_ok-others.ensures.found in
    let list = simp to_z-of_z at list_raw in
    let items : FindsAll c.args.d.now.bytes c.args.old_id c.as_slice-other-items.result.now =
    subst (FindsAll c.args.d.now.bytes c.args.old_id) (sym c.as_slice-other-items.ensures.value) list in
    let bytes_raw = c.in_ok-relist.ensures.bytes in
    let bytes = simp to_z-of_z at bytes_raw in
    let paid_raw = c.loop-other.invariant.cost in
    let paid = simp to_z-of_z at paid_raw in
    let cost_raw = c.relist.ensures.cost in
    let cost = simp to_z-of_z at cost_raw in
    record {
      state = simp to_z-of_z
          (moving_more g.I.ImageRead c.args.d.now c.loop-other.d c.relist.new.d c.args.old_id c.args.new_id
          c.as_slice-other-items.result.now c.loop-other.other-index
          (get_or c.as_slice-other-items.result.now c.loop-other.other-index (pos 0)) _ so_far items c.loop-other-test.true
          (other_is c.as_slice-other-items.result.now c.loop-other.other-index c.loop-other-test.true) bytes c.relist.ensures.len
          c.relist.ensures.frame);
      cost = simp to_z-of_z
          (costs_more c.args.d.now.bytes c.loop-other.d.bytes c.args.d.now.layout c.loop-other.d.layout c.args.old_id c.args.new_id
          c.as_slice-other-items.result.now c.loop-other.other-index
          (get_or c.as_slice-other-items.result.now c.loop-other.other-index (pos 0)) (g.I.ImageRead.asked c.args.d.now.image)
          (g.I.ImageRead.asked c.loop-other.d.image) (g.I.ImageRead.asked c.relist.new.d.image) items c.loop-other-test.true
          (other_is c.as_slice-other-items.result.now c.loop-other.other-index c.loop-other-test.true) so_far.frame.layout so_far.bytes
          paid cost);
    }

pub returns-in_err-number-clause-fault : goal.returns-in_err-number-clause-fault
returns-in_err-number-clause-fault g c =
    let fits_old = c.ranges.old_id in
    let fits_new = c.ranges.new_id in
    let raw = c.loop-other.invariant.state in
    let so_far = simp to_z-of_z at raw in
    let list_raw = c.in_ok-others.ensures.found in
    let list = simp to_z-of_z at list_raw in
    let items : FindsAll c.args.d.now.bytes c.args.old_id c.as_slice-other-items.result.now =
    subst (FindsAll c.args.d.now.bytes c.args.old_id) (sym c.as_slice-other-items.ensures.value) list in
    let cause_raw = c.in_err-number.ensures.fault in
    let p = err_from_is_err_and c.from_residual-in_err-number.result c.from_residual-in_err-number.ensures.1 in
    rw (p.1, p.2)
    (put_fault c.args.d.now.bytes c.loop-other.d.bytes c.args.old_id c.args.new_id c.as_slice-other-items.result.now
    c.loop-other.other-index c.in_err-number.field-0.0 items so_far.bytes (simp to_z-of_z at cause_raw))

pub returns-in_err-number-clause-frame : goal.returns-in_err-number-clause-frame
returns-in_err-number-clause-frame g c =
    let p = err_from_is_err_and c.from_residual-in_err-number.result c.from_residual-in_err-number.ensures.1 in
    rw (p.1, p.2)
    (drafts_then g.I.ImageRead c.args.d.now c.loop-other.d c.put_id.new.d _ _ c.loop-other.invariant.state.frame
    (drafts_err g.I.ImageRead c.loop-other.d c.put_id.new.d c.in_err-number.field-0.0 DiskFault c.in_err-number.ensures.frame))

pub returns-clause-bytes : goal.returns-clause-bytes
returns-clause-bytes g c =
    let fits_old = c.ranges.old_id in
    let fits_new = c.ranges.new_id in
    let raw = c.loop-other.invariant.state in
    let so_far = simp to_z-of_z at raw in
    let list_raw = c.in_ok-others.ensures.found in
    let list = simp to_z-of_z at list_raw in
    let items : FindsAll c.args.d.now.bytes c.args.old_id c.as_slice-other-items.result.now =
    subst (FindsAll c.args.d.now.bytes c.args.old_id) (sym c.as_slice-other-items.ensures.value) list in
    let put_raw = c.in_ok-number.ensures.bytes in
    let put = put_done
    (λ (j : List ℕ). c.put_id.new.d.bytes ≡ Some (after_put_id c.args.old_id c.args.new_id j)) c.args.d.now.bytes c.loop-other.d.bytes
    c.args.old_id c.args.new_id c.as_slice-other-items.result.now c.loop-other.other-index items so_far.bytes (simp to_z-of_z at put_raw) in
    let number_raw = c.in_ok-number.ensures.number in
    let number = put_done (λ (j : List ℕ). c.in_ok-number.number ≡ place_in j c.args.old_id + 1) c.args.d.now.bytes c.loop-other.d.bytes
    c.args.old_id c.args.new_id c.as_slice-other-items.result.now c.loop-other.other-index items so_far.bytes (simp to_z-of_z at number_raw) in
    let bytes_raw = c.rechain.ensures.bytes in
    moved_ok c.rechain.result c.args.d.now.bytes c.put_id.new.d.bytes c.rechain.new.d.bytes c.args.old_id c.args.new_id
    c.as_slice-other-items.result.now c.loop-other.other-index c.in_ok-number.number items (omega arith) put number
    (simp to_z-of_z at bytes_raw)

pub returns-clause-holds : goal.returns-clause-holds
returns-clause-holds g c =
    let fits_old = c.ranges.old_id in
    let fits_new = c.ranges.new_id in
    let raw = c.loop-other.invariant.state in
    let so_far = simp to_z-of_z at raw in
    let list_raw = c.in_ok-others.ensures.found in
    let list = simp to_z-of_z at list_raw in
    let items : FindsAll c.args.d.now.bytes c.args.old_id c.as_slice-other-items.result.now =
    subst (FindsAll c.args.d.now.bytes c.args.old_id) (sym c.as_slice-other-items.ensures.value) list in
    let put_raw = c.in_ok-number.ensures.bytes in
    let put = put_done
    (λ (j : List ℕ). c.put_id.new.d.bytes ≡ Some (after_put_id c.args.old_id c.args.new_id j)) c.args.d.now.bytes c.loop-other.d.bytes
    c.args.old_id c.args.new_id c.as_slice-other-items.result.now c.loop-other.other-index items so_far.bytes (simp to_z-of_z at put_raw) in
    let number_raw = c.in_ok-number.ensures.number in
    let number = put_done (λ (j : List ℕ). c.in_ok-number.number ≡ place_in j c.args.old_id + 1) c.args.d.now.bytes c.loop-other.d.bytes
    c.args.old_id c.args.new_id c.as_slice-other-items.result.now c.loop-other.other-index items so_far.bytes (simp to_z-of_z at number_raw) in
    let bytes_raw = c.rechain.ensures.bytes in
    moved_holds c.rechain.result c.args.d.now.bytes c.rechain.new.d.bytes c.args.old_id c.args.new_id c.as_slice-other-items.result.now items
    (moved_ok c.rechain.result c.args.d.now.bytes c.put_id.new.d.bytes c.rechain.new.d.bytes c.args.old_id c.args.new_id
    c.as_slice-other-items.result.now c.loop-other.other-index c.in_ok-number.number items (omega arith) put number
    (simp to_z-of_z at bytes_raw))

pub returns-clause-fault : goal.returns-clause-fault
returns-clause-fault g c =
    let fits_old = c.ranges.old_id in
    let fits_new = c.ranges.new_id in
    let raw = c.loop-other.invariant.state in
    let so_far = simp to_z-of_z at raw in
    let list_raw = c.in_ok-others.ensures.found in
    let list = simp to_z-of_z at list_raw in
    let items : FindsAll c.args.d.now.bytes c.args.old_id c.as_slice-other-items.result.now =
    subst (FindsAll c.args.d.now.bytes c.args.old_id) (sym c.as_slice-other-items.ensures.value) list in
    let put_raw = c.in_ok-number.ensures.bytes in
    let put = put_done
    (λ (j : List ℕ). c.put_id.new.d.bytes ≡ Some (after_put_id c.args.old_id c.args.new_id j)) c.args.d.now.bytes c.loop-other.d.bytes
    c.args.old_id c.args.new_id c.as_slice-other-items.result.now c.loop-other.other-index items so_far.bytes (simp to_z-of_z at put_raw) in
    let number_raw = c.in_ok-number.ensures.number in
    let number = put_done (λ (j : List ℕ). c.in_ok-number.number ≡ place_in j c.args.old_id + 1) c.args.d.now.bytes c.loop-other.d.bytes
    c.args.old_id c.args.new_id c.as_slice-other-items.result.now c.loop-other.other-index items so_far.bytes (simp to_z-of_z at number_raw) in
    let cause_raw = c.rechain.ensures.fault in
    rechain_err c.rechain.result c.args.d.now.bytes c.put_id.new.d.bytes c.args.old_id c.args.new_id c.as_slice-other-items.result.now
    c.loop-other.other-index c.in_ok-number.number items put number (simp to_z-of_z at cause_raw)

pub returns-clause-frame : goal.returns-clause-frame
returns-clause-frame g c =
    drafts_then g.I.ImageRead c.args.d.now c.loop-other.d c.rechain.new.d _ _ c.loop-other.invariant.state.frame
    (drafts_then g.I.ImageRead c.loop-other.d c.put_id.new.d c.rechain.new.d _ _ c.in_ok-number.ensures.frame c.rechain.ensures.frame)

-- ---- costs

pub returns-in_err-others-clause-cost : goal.returns-in_err-others-clause-cost
returns-in_err-others-clause-cost g c =
    let fits_old = c.ranges.old_id in
    let fits_new = c.ranges.new_id in
    let raw = c.elements.ensures.cost in
    costs_read c.args.d.now.bytes c.args.d.now.layout c.args.d.now.len c.args.old_id c.args.new_id (g.I.ImageRead.asked c.args.d.now.image)
    (g.I.ImageRead.asked c.elements.new.d.image) (simp to_z-of_z at raw)

pub returns-in_err-relist-clause-cost : goal.returns-in_err-relist-clause-cost
returns-in_err-relist-clause-cost g c =
    let fits_old = c.ranges.old_id in
    let fits_new = c.ranges.new_id in
    let fits : FitsSigned w32 (get_or c.as_slice-other-items.result.now c.loop-other.other-index (pos 0)) = search rules in
    let raw = c.loop-other.invariant.state in
    let so_far = simp to_z-of_z at raw in
    let list_raw = c.in_ok-others.ensures.found in
    let list = simp to_z-of_z at list_raw in
    let items : FindsAll c.args.d.now.bytes c.args.old_id c.as_slice-other-items.result.now =
    subst (FindsAll c.args.d.now.bytes c.args.old_id) (sym c.as_slice-other-items.ensures.value) list in
    let paid_raw = c.loop-other.invariant.cost in
    let paid = simp to_z-of_z at paid_raw in
    let cost_raw = c.relist.ensures.cost in
    let cost = simp to_z-of_z at cost_raw in
    let others = c.as_slice-other-items.result.now in
    let i = c.loop-other.other-index in
    let a = g.I.ImageRead.asked c.args.d.now.image in
    let e = g.I.ImageRead.asked c.relist.new.d.image in
    let below : i < length others = c.loop-other-test.true in
    costs_stop c.args.d.now.bytes c.args.d.now.layout c.args.d.now.len c.args.old_id c.args.new_id others (i + 1) a e items
    (omega (arith, below))
    (costs_more c.args.d.now.bytes c.loop-other.d.bytes c.args.d.now.layout c.loop-other.d.layout c.args.old_id c.args.new_id others i
    (get_or others i (pos 0)) a (g.I.ImageRead.asked c.loop-other.d.image) e items below (other_is others i below) so_far.frame.layout
    so_far.bytes paid cost)

pub returns-in_err-number-clause-cost : goal.returns-in_err-number-clause-cost
returns-in_err-number-clause-cost g c =
    let fits_old = c.ranges.old_id in
    let fits_new = c.ranges.new_id in
    let raw = c.loop-other.invariant.state in
    let so_far = simp to_z-of_z at raw in
    let list_raw = c.in_ok-others.ensures.found in
    let list = simp to_z-of_z at list_raw in
    let items : FindsAll c.args.d.now.bytes c.args.old_id c.as_slice-other-items.result.now =
    subst (FindsAll c.args.d.now.bytes c.args.old_id) (sym c.as_slice-other-items.ensures.value) list in
    let paid_raw = c.loop-other.invariant.cost in
    let paid = simp to_z-of_z at paid_raw in
    let cost_raw = c.put_id.ensures.cost in
    let cost = simp to_z-of_z at cost_raw in
    let others = c.as_slice-other-items.result.now in
    let i = c.loop-other.other-index in
    let a = g.I.ImageRead.asked c.args.d.now.image in
    let e = g.I.ImageRead.asked c.put_id.new.d.image in
    costs_stop c.args.d.now.bytes c.args.d.now.layout c.args.d.now.len c.args.old_id c.args.new_id others (i + 1) a e items
    (omega arith)
    (costs_put c.args.d.now.bytes c.loop-other.d.bytes c.args.d.now.layout c.loop-other.d.layout c.args.old_id c.args.new_id others i
    a (g.I.ImageRead.asked c.loop-other.d.image) e items so_far.frame.layout so_far.bytes paid cost)

pub returns-clause-cost : goal.returns-clause-cost
returns-clause-cost g c =
    let fits_old = c.ranges.old_id in
    let fits_new = c.ranges.new_id in
    let raw = c.loop-other.invariant.state in
    let so_far = simp to_z-of_z at raw in
    let list_raw = c.in_ok-others.ensures.found in
    let list = simp to_z-of_z at list_raw in
    let items : FindsAll c.args.d.now.bytes c.args.old_id c.as_slice-other-items.result.now =
    subst (FindsAll c.args.d.now.bytes c.args.old_id) (sym c.as_slice-other-items.ensures.value) list in
    let paid_raw = c.loop-other.invariant.cost in
    let paid = simp to_z-of_z at paid_raw in
    let cost_raw = c.put_id.ensures.cost in
    let cost = simp to_z-of_z at cost_raw in
    let others = c.as_slice-other-items.result.now in
    let i = c.loop-other.other-index in
    let a = g.I.ImageRead.asked c.args.d.now.image in
    let e = g.I.ImageRead.asked c.put_id.new.d.image in
    costs_end c.args.d.now.bytes c.args.d.now.layout c.put_id.new.d.layout c.args.d.now.len c.put_id.new.d.len c.args.old_id
    c.args.new_id others (i + 1) a e (g.I.ImageRead.asked c.rechain.new.d.image) items (omega arith)
    (c.put_id.ensures.frame.layout ∙ so_far.frame.layout) (c.put_id.ensures.len ∙ so_far.len)
    (costs_put c.args.d.now.bytes c.loop-other.d.bytes c.args.d.now.layout c.loop-other.d.layout c.args.old_id c.args.new_id others i
    a (g.I.ImageRead.asked c.loop-other.d.image) e items so_far.frame.layout so_far.bytes paid cost)
    c.rechain.ensures.cost
