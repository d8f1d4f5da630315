use Rattle.afs_words.proofs.Inside.{truncated}
use Rattle.afs_words.proofs.judged.Judged.truncate.Goals as goal

pub invariant_of-self : goal.invariant_of-self
invariant_of-self c =
    rw (c.truncate.ensures, c.truncate-2.ensures.items)
    (truncated c.self.inside.switches c.self.inside.read.items c.args.count c.self.invariant)
