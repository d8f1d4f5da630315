use Rattle.std.proofs.Common.{ℕ, ℤ, ◌-◌, List, ◌++◌, refl, ap, subst, ◌∙◌, arith}
use Rattle.std.proofs.lemmas.Int.{to_z-of_z}
use Rattle.std.proofs.lemmas.Result.{err_from_is_err_and}
use Rattle.db_blocks.specs.Blocks.{IsWhole}
use Rattle.db_blocks.proofs.Scanned.{bad_size, looks_then, looks_so}
use Rattle.entry_scans.specs.Lists.{IsAscending}
use Rattle.prdb_lists.specs.Blocks.{ids_in}
use Rattle.prdb_lists.proofs.ListRead.{Lists, cause_so, first_falls, lists_whole, more_falls, no_more, none_costs, one_costs, read_costs, read_first, read_more, read_whole}
use Rattle.prdb_lists.proofs.listed.read_list.Goals as goal

pub returns-in_err-count-clause-fault : goal.returns-in_err-count-clause-fault
returns-in_err-count-clause-fault g c =
    let p = err_from_is_err_and c.from_residual.result c.from_residual.ensures.1 in
    rw (p.1, p.2) (cause_so c.args.d.now.bytes (IsWhole 2112) (Lists c.args.entry c.args.found.now.block) c.in_err-count.field-0.0
    (bad_size 2112 c.args.d.now.bytes c.len.result c.len.result c.in_err-count.field-0.0 c.in_err-count.ensures.fault.0
    (rw c.len.ensures.size c.len.ensures.told) c.in_err-count.ensures.fault.1)
    (lists_whole c.args.d.now.bytes c.args.entry c.args.found.now.block))

pub returns-then-not-branch-clause-fault : goal.returns-then-not-branch-clause-fault
returns-then-not-branch-clause-fault g c =
    first_falls c.args.d.now.bytes c.args.entry c.args.found.now.block c.min-first.result
    (omega (arith, c.min-first.ensures, c.pair_count_in-left.ensures))
    (subst (λ (l : List ℤ). ¬ IsAscending (l ++ ids_in c.args.found.now.block 112 c.min-first.result)) c.new-ids.ensures
    (c.in_ok-read_ids.ensures.not c.if-not-branch.true))

pub loop-left-init : goal.loop-left-init
loop-left-init g c =
    let fits = c.ranges.entry in
    simp to_z-of_z
    (read_first g.I.ImageRead c.args.d.now c.args.entry c.args.found.now.block c.read_ids.new.ids c.new-more.result.items c.min-first.result
    c.in_ok-count.count
    (c.pair_count_in-left.result - c.min-first.result) c.word_at-link.result
    (rw (← c.in_ok-count.ensures.count, c.len.ensures.size) c.len.ensures.told)
    (omega (arith, c.in_ok-count.ensures.count, c.len.ensures.size, c.requires.len))
    (omega (arith, c.in_ok-count.ensures.count, c.len.ensures.size))
    (omega (arith, c.min-first.ensures, c.pair_count_in-left.ensures))
    (c.in_ok-read_ids.ensures.read c.if-not-branch.false
    ∙ ap (λ (l : List ℤ). l ++ ids_in c.args.found.now.block 112 c.min-first.result) c.new-ids.ensures)
    c.new-more.ensures.items
    (ap (λ (n : ℕ). n - c.min-first.result) c.pair_count_in-left.ensures)
    c.word_at-link.ensures)

pub returns-in_err-block-clause-fault : goal.returns-in_err-block-clause-fault
returns-in_err-block-clause-fault g c =
    let fits = c.ranges.entry in
    let raw = c.loop-left.invariant in
    let so_far = simp to_z-of_z at raw in
    let cause_raw = c.in_err-block.ensures.fault in
    let cause = simp to_z-of_z at cause_raw in
    let p = err_from_is_err_and c.from_residual-in_err-block.result c.from_residual-in_err-block.ensures.1 in
    rw (p.1, p.2)
    (no_more g.I.ImageRead c.args.d.now c.loop-left.d c.args.entry c.args.found.now.block c.loop-left.ids c.loop-left.more.items
    c.in_ok-count.count
    c.loop-left.left c.loop-left.link c.in_err-block.field-0.0 so_far fits c.loop-left-test.true cause)

pub returns-in_err-read_ids-2-clause-frame : goal.returns-in_err-read_ids-2-clause-frame
returns-in_err-read_ids-2-clause-frame g c =
    let p = err_from_is_err_and c.from_residual-in_err-read_ids-2.result c.from_residual-in_err-read_ids-2.ensures.1 in
    let made = p.1 in
    let from = p.2 in
    looks_then g.I.ImageRead c.args.d.now c.loop-left.d c.read_more.new.d ⊥ _ c.loop-left.invariant.frame
    (looks_so g.I.ImageRead c.loop-left.d c.read_more.new.d _ _ c.read_more.ensures.frame (λ h. absurd cc))

pub returns-then-not-branch-2-clause-fault : goal.returns-then-not-branch-2-clause-fault
returns-then-not-branch-2-clause-fault g c =
    let fits = c.ranges.entry in
    let raw = c.loop-left.invariant in
    let so_far = simp to_z-of_z at raw in
    more_falls g.I.ImageRead c.args.d.now c.loop-left.d c.args.entry c.args.found.now.block c.in_ok-block.block c.loop-left.ids
    c.loop-left.more.items c.in_ok-count.count
    c.loop-left.left c.loop-left.link c.min-here.result so_far c.loop-left-test.true c.in_ok-block.ensures.block c.min-here.ensures
    (c.in_ok-read_ids-2.ensures.not c.if-not-branch-2.true)

pub returns-then-not-branch-2-clause-frame : goal.returns-then-not-branch-2-clause-frame
returns-then-not-branch-2-clause-frame g c =
    looks_then g.I.ImageRead c.args.d.now c.loop-left.d c.read_more.new.d ⊥ _ c.loop-left.invariant.frame
    (looks_so g.I.ImageRead c.loop-left.d c.read_more.new.d _ _ c.read_more.ensures.frame (λ h. absurd cc))

pub loop-left-preserved : goal.loop-left-preserved
loop-left-preserved g c =
    let fits = c.ranges.entry in
    let raw = c.loop-left.invariant in
    let so_far = simp to_z-of_z at raw in
    simp to_z-of_z
    (read_more g.I.ImageRead c.args.d.now c.loop-left.d c.read_more.new.d c.args.entry c.args.found.now.block c.in_ok-block.block
    c.loop-left.ids c.read_ids-in-loop-left.new.ids c.loop-left.more.items c.push.new.self.items c.in_ok-count.count
    c.loop-left.left c.loop-left.link c.min-here.result (c.loop-left.left - c.min-here.result) c.word_at-next.result _
    so_far c.read_more.ensures.frame c.read_more.ensures.cost c.in_ok-block.ensures.block c.loop-left-test.true c.in_ok-block.ensures.some
    c.in_ok-block.ensures.within c.min-here.ensures
    (c.in_ok-read_ids-2.ensures.read c.if-not-branch-2.false) c.in_ok-push.ensures.items refl c.word_at-next.ensures)

pub returns-clause-found : goal.returns-clause-found
returns-clause-found g c =
    let fits = c.ranges.entry in
    let raw = c.loop-left.invariant in
    let so_far = simp to_z-of_z at raw in
    read_whole g.I.ImageRead c.args.d.now c.loop-left.d c.args.entry c.args.found.now.block c.loop-left.ids c.loop-left.more.items
    c.in_ok-count.count
    c.loop-left.left c.loop-left.link so_far (omega arith)

pub returns-clause-within : goal.returns-clause-within
returns-clause-within g c = c.loop-left.invariant.within

pub returns-in_err-count-clause-cost : goal.returns-in_err-count-clause-cost
returns-in_err-count-clause-cost g c =
    none_costs c.args.d.now.bytes c.args.entry c.args.found.now.block (g.I.ImageRead.asked c.args.d.now.image)

pub returns-in_err-read_ids-clause-cost : goal.returns-in_err-read_ids-clause-cost
returns-in_err-read_ids-clause-cost g c =
    none_costs c.args.d.now.bytes c.args.entry c.args.found.now.block (g.I.ImageRead.asked c.args.d.now.image)

pub returns-then-not-branch-clause-cost : goal.returns-then-not-branch-clause-cost
returns-then-not-branch-clause-cost g c =
    none_costs c.args.d.now.bytes c.args.entry c.args.found.now.block (g.I.ImageRead.asked c.args.d.now.image)

pub returns-in_err-block-clause-cost : goal.returns-in_err-block-clause-cost
returns-in_err-block-clause-cost g c =
    let fits = c.ranges.entry in
    let raw = c.loop-left.invariant in
    let so_far = simp to_z-of_z at raw in
    one_costs g.I.ImageRead c.args.d.now c.loop-left.d c.read_more.new.d c.args.entry c.args.found.now.block c.loop-left.ids
    c.loop-left.more.items c.in_ok-count.count c.loop-left.left c.loop-left.link so_far c.loop-left-test.true c.read_more.ensures.cost

pub returns-in_err-push-clause-cost : goal.returns-in_err-push-clause-cost
returns-in_err-push-clause-cost g c =
    let fits = c.ranges.entry in
    let raw = c.loop-left.invariant in
    let so_far = simp to_z-of_z at raw in
    one_costs g.I.ImageRead c.args.d.now c.loop-left.d c.read_more.new.d c.args.entry c.args.found.now.block c.loop-left.ids
    c.loop-left.more.items c.in_ok-count.count c.loop-left.left c.loop-left.link so_far c.loop-left-test.true c.read_more.ensures.cost

pub returns-in_err-read_ids-2-clause-cost : goal.returns-in_err-read_ids-2-clause-cost
returns-in_err-read_ids-2-clause-cost g c =
    let fits = c.ranges.entry in
    let raw = c.loop-left.invariant in
    let so_far = simp to_z-of_z at raw in
    one_costs g.I.ImageRead c.args.d.now c.loop-left.d c.read_more.new.d c.args.entry c.args.found.now.block c.loop-left.ids
    c.loop-left.more.items c.in_ok-count.count c.loop-left.left c.loop-left.link so_far c.loop-left-test.true c.read_more.ensures.cost

pub returns-then-not-branch-2-clause-cost : goal.returns-then-not-branch-2-clause-cost
returns-then-not-branch-2-clause-cost g c =
    let fits = c.ranges.entry in
    let raw = c.loop-left.invariant in
    let so_far = simp to_z-of_z at raw in
    one_costs g.I.ImageRead c.args.d.now c.loop-left.d c.read_more.new.d c.args.entry c.args.found.now.block c.loop-left.ids
    c.loop-left.more.items c.in_ok-count.count c.loop-left.left c.loop-left.link so_far c.loop-left-test.true c.read_more.ensures.cost

pub returns-clause-cost : goal.returns-clause-cost
returns-clause-cost g c =
    let fits = c.ranges.entry in
    let raw = c.loop-left.invariant in
    let so_far = simp to_z-of_z at raw in
    read_costs g.I.ImageRead c.args.d.now c.loop-left.d c.args.entry c.args.found.now.block c.loop-left.ids c.loop-left.more.items
    c.in_ok-count.count c.loop-left.left c.loop-left.link so_far
