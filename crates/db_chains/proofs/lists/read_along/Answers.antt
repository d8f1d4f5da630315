use Rattle.std.proofs.Common.{ap, ◌∙◌, arith}
use Rattle.std.proofs.lemmas.Result.{err_from_is_err_and}
use Rattle.db_blocks.specs.Blocks.{word_at}
use Rattle.db_chains.specs.declared.changes.Until.TheVariants.{End}
use Rattle.db_chains.specs.Changes.{is_until}
use Rattle.db_chains.specs.Walks.{IsBad}
use Rattle.db_chains.proofs.Ended.{bad_cause, bad_count, broken_all, broken_link}
use Rattle.db_chains.proofs.Listed.{listed_all, listed_more, listed_none}
use Rattle.db_image.specs.declared.faults.RecordFault.TheVariants.{BadRecord}
use Rattle.db_chains.proofs.Results.{err_same, no_memory, of_image, ok_no_err}
use Rattle.db_chains.proofs.Walked.{looks_within, walked_cost, walked_cost_here, walked_frame, walked_here}
use Rattle.db_chains.proofs.lists.read_along.Goals as goal

pub returns-in_err-count-clause-bad : goal.returns-in_err-count-clause-bad
returns-in_err-count-clause-bad g c =
    let p = err_from_is_err_and c.from_residual.result c.from_residual.ensures.1 in
    rw (p.1, p.2) (bad_count c.args.d.now.bytes c.args.links (is_until End) c.args.at c.len.result c.in_err-count.field-0.0
    c.in_err-count.ensures.fault.0 (rw c.len.ensures.size c.len.ensures.told) c.in_err-count.ensures.fault.1)

pub returns-in_err-word-clause-bad : goal.returns-in_err-word-clause-bad
returns-in_err-word-clause-bad g c =
    let p = err_from_is_err_and c.from_residual-in_err-word.result c.from_residual-in_err-word.ensures.1 in
    rw (p.1, p.2) (of_image c.args.d.now.bytes (IsBad c.args.links (is_until End) c.args.at) c.in_err-word.field-0.0
    c.in_err-word.ensures.fault)

pub returns-then-left-eq0-clause-bad : goal.returns-then-left-eq0-clause-bad
returns-then-left-eq0-clause-bad g c =
    let w = c.loop-word.invariant.walked in
    broken_all c.args.d.now.bytes c.args.links (is_until End) c.args.at c.in_ok-count.count c.loop-word.left c.loop-word.place
    c.loop-word.word w.told w.way c.if-left-eq0.true c.loop-word-test.true

pub returns-then-left-eq0-clause-frame : goal.returns-then-left-eq0-clause-frame
returns-then-left-eq0-clause-frame g c =
    walked_here g.I.ImageRead c.args.d.now c.loop-word.d c.args.links (is_until End) c.args.at c.in_ok-count.count c.loop-word.left
    c.loop-word.place c.loop-word.word _ c.loop-word.invariant.walked (omega (arith, c.in_ok-count.ensures.count, c.len.ensures.size))
    (λ h. absurd cc)

pub returns-then-left-eq0-clause-cost : goal.returns-then-left-eq0-clause-cost
returns-then-left-eq0-clause-cost g c =
    walked_cost_here g.I.ImageRead c.args.d.now c.loop-word.d c.args.links (is_until End) c.args.at c.in_ok-count.count
    c.loop-word.left c.loop-word.place c.loop-word.word c.requires.links.step c.loop-word.invariant.walked

pub returns-in_err-link-clause-bad : goal.returns-in_err-link-clause-bad
returns-in_err-link-clause-bad g c =
    let w = c.loop-word.invariant.walked in
    let p = err_from_is_err_and c.from_residual-in_err-link.result c.from_residual-in_err-link.ensures.1 in
    rw (p.1, p.2) (broken_link c.args.d.now.bytes c.loop-word.d.bytes c.args.links (is_until End) c.args.at c.in_ok-count.count
    c.loop-word.left c.loop-word.place c.loop-word.word c.in_err-link.field-0.0 w.frame.looks.same.bytes w.told w.way c.loop-word-test.true
    c.in_err-link.ensures.fault)

pub returns-in_err-link-clause-frame : goal.returns-in_err-link-clause-frame
returns-in_err-link-clause-frame g c =
    let p = err_from_is_err_and c.from_residual-in_err-link.result c.from_residual-in_err-link.ensures.1 in
    let made = p.1 in
    let from = p.2 in
    walked_frame g.I.ImageRead c.args.d.now c.loop-word.d c.read_link.new.d c.args.links (is_until End) c.args.at
    c.in_ok-count.count c.loop-word.left c.loop-word.place c.loop-word.word _ c.loop-word.invariant.walked
    (omega (arith, c.in_ok-count.ensures.count, c.len.ensures.size)) (omega (arith, c.if-left-eq0.false))
    (looks_within g.I.ImageRead 192 192 c.loop-word.d c.read_link.new.d _ _ c.read_link.ensures.frame (omega arith)
    (λ h. err_same c.read_link.result c.from_residual-in_err-link.result c.in_err-link.field-0.0 _ _ c.in_err-link.was made from h))

pub returns-in_err-link-clause-cost : goal.returns-in_err-link-clause-cost
returns-in_err-link-clause-cost g c =
    walked_cost g.I.ImageRead c.args.d.now c.loop-word.d c.read_link.new.d c.args.links (is_until End) c.args.at
    c.in_ok-count.count c.loop-word.left c.loop-word.place c.loop-word.word _ c.requires.links.step c.loop-word.invariant.walked
    c.loop-word-test.true
    c.read_link.ensures.frame

pub returns-clause-frame : goal.returns-clause-frame
returns-clause-frame g c =
    walked_here g.I.ImageRead c.args.d.now c.loop-word.d c.args.links (is_until End) c.args.at c.in_ok-count.count c.loop-word.left
    c.loop-word.place c.loop-word.word _ c.loop-word.invariant.walked (omega (arith, c.in_ok-count.ensures.count, c.len.ensures.size))
    (λ h. absurd cc)

pub returns-clause-cost : goal.returns-clause-cost
returns-clause-cost g c =
    walked_cost_here g.I.ImageRead c.args.d.now c.loop-word.d c.args.links (is_until End) c.args.at c.in_ok-count.count
    c.loop-word.left c.loop-word.place c.loop-word.word c.requires.links.step c.loop-word.invariant.walked

pub loop-word-init : goal.loop-word-init
loop-word-init g c =
    listed_none g.I.ImageRead c.args.d.now c.read_word.new.d c.args.links c.args.at c.in_ok-count.count _ c.in_ok-word.word
    c.args.offset c.new-found.result.items _
    c.read_word.ensures.frame (rw (← c.in_ok-count.ensures.count, c.len.ensures.size) c.len.ensures.told) (omega arith)
    c.requires.at c.in_ok-word.ensures.word c.new-found.ensures.items

pub loop-word-preserved : goal.loop-word-preserved
loop-word-preserved g c =
    listed_more g.I.ImageRead c.args.d.now c.loop-word.d c.read_link.new.d c.args.links c.args.at c.in_ok-count.count c.loop-word.left
    c.loop-word.place c.loop-word.word c.next_place-place.result c.word_at-word.result c.args.offset c.word_at-value.result
    c.loop-word.found.items c.push.new.self.items c.in_ok-link.link _ c.requires.links c.loop-word.invariant c.read_link.ensures.frame
    (λ h. ok_no_err c.read_link.result c.in_ok-link.link _ c.in_ok-link.was h) c.if-left-eq0.false
    (omega (arith, c.in_ok-count.ensures.count, c.len.ensures.size)) c.in_ok-link.ensures.link c.in_ok-link.ensures.names.word
    c.in_ok-link.ensures.names.names c.next_place-place.ensures
    (c.word_at-word.ensures ∙ ap (word_at c.in_ok-link.link.block) c.next_in.ensures) c.word_at-value.ensures c.in_ok-push.ensures.items

pub returns-clause-found : goal.returns-clause-found
returns-clause-found g c =
    listed_all c.args.d.now.bytes c.args.links c.args.at c.loop-word.place c.loop-word.word c.args.offset c.loop-word.found.items
    c.loop-word.invariant.read
    c.loop-word-test.false

pub returns-in_err-count-clause-fault : goal.returns-in_err-count-clause-fault
returns-in_err-count-clause-fault g c =
    let p = err_from_is_err_and c.from_residual.result c.from_residual.ensures.1 in
    rw (p.1, p.2) (bad_cause c.args.d.now.bytes c.args.links (is_until End) c.args.at c.in_err-count.field-0.0 c.requires.links.step
    (bad_count c.args.d.now.bytes c.args.links (is_until End) c.args.at c.len.result c.in_err-count.field-0.0
    c.in_err-count.ensures.fault.0 (rw c.len.ensures.size c.len.ensures.told) c.in_err-count.ensures.fault.1))

pub returns-then-left-eq0-clause-fault : goal.returns-then-left-eq0-clause-fault
returns-then-left-eq0-clause-fault g c =
    let w = c.loop-word.invariant.walked in
    bad_cause c.args.d.now.bytes c.args.links (is_until End) c.args.at (BadRecord c.loop-word.place) c.requires.links.step
    (broken_all c.args.d.now.bytes c.args.links (is_until End) c.args.at c.in_ok-count.count c.loop-word.left c.loop-word.place
    c.loop-word.word w.told w.way c.if-left-eq0.true c.loop-word-test.true)

pub returns-in_err-link-clause-fault : goal.returns-in_err-link-clause-fault
returns-in_err-link-clause-fault g c =
    let w = c.loop-word.invariant.walked in
    let p = err_from_is_err_and c.from_residual-in_err-link.result c.from_residual-in_err-link.ensures.1 in
    rw (p.1, p.2) (bad_cause c.args.d.now.bytes c.args.links (is_until End) c.args.at c.in_err-link.field-0.0 c.requires.links.step
    (broken_link c.args.d.now.bytes c.loop-word.d.bytes c.args.links (is_until End) c.args.at c.in_ok-count.count
    c.loop-word.left c.loop-word.place c.loop-word.word c.in_err-link.field-0.0 w.frame.looks.same.bytes w.told w.way c.loop-word-test.true
    c.in_err-link.ensures.fault))

pub returns-in_err-push-clause-frame : goal.returns-in_err-push-clause-frame
returns-in_err-push-clause-frame g c =
    let p = err_from_is_err_and c.from_residual-in_err-push.result c.from_residual-in_err-push.ensures.1 in
    walked_frame g.I.ImageRead c.args.d.now c.loop-word.d c.read_link.new.d c.args.links (is_until End) c.args.at
    c.in_ok-count.count c.loop-word.left c.loop-word.place c.loop-word.word _ c.loop-word.invariant.walked
    (omega (arith, c.in_ok-count.ensures.count, c.len.ensures.size)) (omega (arith, c.if-left-eq0.false))
    (looks_within g.I.ImageRead 192 192 c.loop-word.d c.read_link.new.d _ _ c.read_link.ensures.frame (omega arith)
    (λ h. absurd (no_memory c.from_residual-in_err-push.result _ p.1 p.2 h)))

pub returns-in_err-push-clause-cost : goal.returns-in_err-push-clause-cost
returns-in_err-push-clause-cost g c =
    walked_cost g.I.ImageRead c.args.d.now c.loop-word.d c.read_link.new.d c.args.links (is_until End) c.args.at
    c.in_ok-count.count c.loop-word.left c.loop-word.place c.loop-word.word _ c.requires.links.step c.loop-word.invariant.walked
    c.loop-word-test.true
    c.read_link.ensures.frame
