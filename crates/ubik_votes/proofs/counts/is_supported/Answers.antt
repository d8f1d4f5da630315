use Rattle.std.proofs.Common.{rules, ◌∙◌, arith}
use Rattle.std.proofs.lemmas.List.{length-set}
use Rattle.ubik_votes.proofs.Supported.{marks-step, marks-end}
use Rattle.ubik_votes.proofs.counts.is_supported.Goals as goal

pub loop-i-preserved : goal.loop-i-preserved
loop-i-preserved c =
    (length-set c.loop-i.set c.loop-i.i c.is_from.result ∙ c.loop-i.invariant.0, marks-step c.args.least c.args.starts.now c.loop-i.set c.loop-i.i c.is_from.result (omega arith) (omega arith) (search rules) c.loop-i.invariant.1)

pub returns : goal.returns
returns c =
    marks-end c.votes_suffice.result c.args.least c.args.starts.now c.loop-i.set c.loop-i.i (omega arith) (omega arith) c.loop-i.invariant.1 c.votes_suffice.ensures
