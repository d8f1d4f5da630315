use Rattle.std.proofs.Common.{rules, ◌≡◌, ◌∙◌, length, arith}
use Rattle.ubik_types.specs.Lease.{quorum_start}
use Rattle.ubik_votes.proofs.Supported.{search-step, search-end, quorum_start-moment}
use Rattle.ubik_votes.proofs.counts.quorum_start.Goals as goal

pub loop-start-preserved : goal.loop-start-preserved
loop-start-preserved c =
    c.loop-start.invariant ∙ search-step (length c.args.starts.now) c.args.starts.now c.loop-start.best c.better-best.result c.loop-start.start-index (omega arith) (search rules)

pub returns-clause-greatest : goal.returns-clause-greatest
returns-clause-greatest c =
    search-end (length c.args.starts.now) c.args.starts.now c.loop-start.best c.loop-start.start-index (omega arith) c.loop-start.invariant

pub returns-clause-moment : goal.returns-clause-moment
returns-clause-moment c =
    let is : c.loop-start.best ≡ quorum_start (length c.args.starts.now) c.args.starts.now c.args.starts.now = search-end (length c.args.starts.now) c.args.starts.now c.loop-start.best c.loop-start.start-index (omega arith) c.loop-start.invariant in
    omega (arith, is, quorum_start-moment (length c.args.starts.now) c.args.starts.now c.args.starts.now c.requires.starts)
