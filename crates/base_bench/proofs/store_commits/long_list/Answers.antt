use Rattle.std.proofs.Common.{sym, ap, ◌∙◌, arith}
use Rattle.base_bench.specs.Blocks.{blocks}
use Rattle.base_bench.proofs.Blocks.{blocks-none, block_pushed}
use Rattle.base_bench.proofs.store_commits.long_list.Goals as goal

pub loop-place-init : goal.loop-place-init
loop-place-init c = c.changes_new-changes.ensures ∙ sym blocks-none

pub loop-place-preserved : goal.loop-place-preserved
loop-place-preserved c = block_pushed _ _ _ _ _ c.loop-place.invariant c.in_ok-changes_push.ensures.ok (omega arith) c.in_ok-bytes.ensures

pub returns : goal.returns
returns c = c.loop-place.invariant ∙ ap blocks (omega (arith, c.loop-place.auto.place-end, c.loop-place-test.false))
