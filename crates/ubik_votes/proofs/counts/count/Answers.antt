use Rattle.std.proofs.Common.{◌∙◌, ℕ, Option, set, ap}
use Rattle.ubik_votes.proofs.Starts.{set-counted}
use Rattle.ubik_votes.proofs.counts.count.Goals as goal

pub returns : goal.returns
returns c =
    ap (λ (start : Option ℕ). set c.args.starts.now c.args.server start) c.greater.ensures ∙ set-counted c.args.starts.now c.args.server c.args.start c.requires
