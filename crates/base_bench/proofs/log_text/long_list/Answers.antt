use Rattle.std.proofs.Common.{sym, ap, ◌∙◌, arith}
use Rattle.base_bench.specs.Puts.{puts}
use Rattle.base_bench.proofs.Puts.{puts-none, put_pushed}
use Rattle.base_bench.proofs.log_text.long_list.Goals as goal

pub loop-at-init : goal.loop-at-init
loop-at-init c = c.changes_new-changes.ensures ∙ sym puts-none

pub loop-at-preserved : goal.loop-at-preserved
loop-at-preserved c = put_pushed _ _ _ _ c.loop-at.invariant c.in_ok-changes_push.ensures.ok c.in_ok-bytes.ensures

pub returns : goal.returns
returns c = c.loop-at.invariant ∙ ap puts (omega (arith, c.loop-at.auto.at-end, c.loop-at-test.false))
