use Rattle.std.proofs.Common.{◌≡◌, IfSome, length, subst}
use Rattle.db_image.specs.Draft.{Drafted}
use Rattle.db_image.proofs.Covering.{over_told}
use Rattle.db_image.proofs.drafts.DraftImageRead.len.Goals as goal

pub returns-clause-told : goal.returns-clause-told
returns-clause-told g c =
    subst (λ (d : Drafted g.row.I.Denot). IfSome d.bytes (λ bytes. length bytes ≡ d.len)) c.self.view_is
    (over_told (g.I.ImageRead.held c.self.inside.image) c.self.inside.over)
