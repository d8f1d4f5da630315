use Rattle.std.proofs.Common.{refl}
use Rattle.db_image.proofs.Covering.{over_none}
use Rattle.db_image.proofs.drafts.Draft.over.Goals as goal

pub returns-clause-bytes : goal.returns-clause-bytes
returns-clause-bytes g c =
    over_none (g.I.ImageRead.held c.args.image) _ (λ k. rw c.new.ensures.empty refl) (rw c.len.ensures.size c.len.ensures.told)
