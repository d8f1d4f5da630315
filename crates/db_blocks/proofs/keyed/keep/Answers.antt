use Rattle.std.proofs.Common.{take, sym, ap, subst, ◌∙◌, arith}
use Rattle.std.specs.List.Sorted.{IsNonDecreasingBy}
use Rattle.db_blocks.specs.declared.keyed.Kept.{Kept}
use Rattle.db_blocks.proofs.Ascending.{kept_full, kept_put, order_put}
use Rattle.db_blocks.proofs.keyed.keep.Goals as goal

pub returns-in_ok-insert-clause-kept : goal.returns-in_ok-insert-clause-kept
returns-in_ok-insert-clause-kept c =
    let before = c.place_for-at.ensures.before in
    let behind = c.place_for-at.ensures.behind in
    let placed = kept_put (λ (k : Kept). k.key) c.args.new c.args.kept.now.items c.args.most c.place_for-at.result (omega arith)
    (rw c.as_slice.ensures.value at before) (rw c.as_slice.ensures.value at behind) in
    c.truncate.ensures.items ∙ ap (take c.args.most) c.in_ok-insert.ensures.items ∙ placed

pub returns-in_ok-insert-clause-order : goal.returns-in_ok-insert-clause-order
returns-in_ok-insert-clause-order c =
    let before = c.place_for-at.ensures.before in
    let behind = c.place_for-at.ensures.behind in
    let placed = order_put (λ (k : Kept). k.key) c.args.new c.args.kept.now.items c.args.most c.place_for-at.result c.requires.order
    (omega arith)
    (rw c.as_slice.ensures.value at before) (rw c.as_slice.ensures.value at behind) in
    subst (IsNonDecreasingBy (λ (k : Kept). k.key)) (sym (c.truncate.ensures.items
    ∙ ap (take c.args.most) c.in_ok-insert.ensures.items)) placed

pub returns-else-at-most-clause-kept : goal.returns-else-at-most-clause-kept
returns-else-at-most-clause-kept c =
    let before = c.place_for-at.ensures.before in
    let behind = c.place_for-at.ensures.behind in
    kept_full (λ (k : Kept). k.key) c.args.new c.args.kept.now.items c.args.most c.place_for-at.result
    (omega arith) c.requires.few c.if-at-most.false
    (rw c.as_slice.ensures.value at before) (rw c.as_slice.ensures.value at behind)
