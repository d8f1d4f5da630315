use Rattle.std.proofs.Common.{arith}
use Rattle.base_bench.specs.declared.store_commits.TheConstants.{VERSION}
use Rattle.base_bench.proofs.Steps.{labelled_since, told_since, told_first}
use Rattle.base_bench.proofs.store_commits.opened_often.Goals as goal

pub loop-turn-init : goal.loop-turn-init
loop-turn-init g c = record {
  empty = c.requires.empty;
  settled = c.requires.settled;
  there = told_first (g.D.Disk.files c.args.disk);
  label = λ some. absurd (omega (arith, some));
}

pub loop-turn-preserved : goal.loop-turn-preserved
loop-turn-preserved g c =
    let label = labelled_since _ _ _ VERSION c.loop-turn.invariant.there c.in_ok-opened.ensures.label in
    record {
      empty = c.in_ok-opened.ensures.empty;
      settled = c.in_ok-opened.ensures.settled;
      there = told_since _ _ VERSION label;
      label = λ some. label;
    }
