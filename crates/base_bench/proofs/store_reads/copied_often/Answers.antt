use Rattle.std.proofs.Common.{◌∙◌, ap, length, ℕ}
use Rattle.std.proofs.lemmas.List.{length-replicate}
use Rattle.base_bench.specs.declared.store_reads.TheConstants.{LEN}
use Rattle.base_bench.proofs.store_reads.copied_often.Goals as goal

pub loop-turn-init : goal.loop-turn-init
loop-turn-init c = record {
  from = ap length c.in_ok-from.ensures ∙ length-replicate {A = ℕ} LEN 0;
  to = ap length c.in_ok-to.ensures ∙ length-replicate {A = ℕ} LEN 0;
}

pub loop-turn-preserved : goal.loop-turn-preserved
loop-turn-preserved c = record {
  from = rw c.swap.ensures.x_after (ap length c.copy_from_slice.ensures.items ∙ ap length c.deref.ensures.value ∙ c.loop-turn.invariant.from);
  to = rw c.swap.ensures.y_after c.loop-turn.invariant.from;
}
