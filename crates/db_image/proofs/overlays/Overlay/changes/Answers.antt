use Rattle.std.proofs.Common.{◌+◌, ◌∙◌, arith}
use Rattle.db_image.specs.Draft.{bytes_over}
use Rattle.db_image.proofs.Found.{lead_some}
use Rattle.db_image.proofs.Walked.{all_below, pushed_below}
use Rattle.db_image.proofs.overlays.Overlay.changes.Goals as goal

pub loop-number-init : goal.loop-number-init
loop-number-init c = record {
  done = λ beneath laid. c.in_ok-changes.ensures.changes beneath laid;
  puts = c.in_ok-changes.ensures.puts;
}

pub push_change-requires-clause-begins : goal.push_change-requires-clause-begins
push_change-requires-clause-begins c = omega (arith, c.blocks_before-count.ensures.these c.loop-number.number (omega arith))

pub loop-number-preserved : goal.loop-number-preserved
loop-number-preserved c =
    let o = c.args.self.now in
    record {
      done = λ beneath laid.
          pushed_below o.layout beneath (bytes_over o beneath) c.loop-number.number (c.loop-number.number + 1) _ _ (c.loop-number.invariant.done beneath laid)
          (c.in_ok-push_change.ensures.change beneath laid) (omega arith);
      puts = c.in_ok-push_change.ensures.puts c.loop-number.invariant.puts;
    }

pub returns-clause-changes : goal.returns-clause-changes
returns-clause-changes c = λ beneath laid.
    c.loop-number.invariant.done beneath laid
    ∙ all_below c.args.self.now c.args.size c.loop-number.number beneath laid
    (λ k past. c.blocks_before-count.ensures.others laid.block k (omega (arith, past)))

pub returns-clause-lead : goal.returns-clause-lead
returns-clause-lead c = λ held laid. lead_some c.args.self.now c.args.size held c.loop-number.changes laid (returns-clause-changes c)
