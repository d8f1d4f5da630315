use Rattle.std.proofs.Common.{◌≡◌, ℕ, IfOk, IfSome, IsSomeAnd, Option, List, length, subst, sym}
use Rattle.db_image.specs.Blocks.{LeadSome}
use Rattle.db_image.specs.Draft.{Drafted, IsLaid}
use Rattle.db_image.proofs.Covering.{told_over}
use Rattle.db_image.proofs.Differing.{map_ok}
use Rattle.db_image.proofs.drafts.Draft.finish.Goals as goal

pub returns-clause-told : goal.returns-clause-told
returns-clause-told g c =
    subst (λ (d : Drafted g.row.I.Denot). IfSome (g.I.ImageRead.held d.image) (λ old. IsSomeAnd d.bytes (λ new. length new ≡ d.len))) c.self.view_is
    (told_over (g.I.ImageRead.held c.self.inside.image) c.self.inside.over)

pub returns-clause-lead : goal.returns-clause-lead
returns-clause-lead g c =
    let over = c.self.inside.over in
    let held : Option (List ℕ) = g.I.ImageRead.held c.self.inside.image in
    let laid : IsLaid over c.len.result held = subst (λ (n : ℕ). IsLaid over n held) (sym c.len.ensures.size) c.self.invariant in
    subst (λ (d : Drafted g.row.I.Denot). IfOk c.changes-changes.result (LeadSome d.layout.head d.layout.block (g.I.ImageRead.size d.image) d.len)) c.self.view_is
    (map_ok c.changes-changes.result _ _ (λ changes leads. subst (λ (n : ℕ). LeadSome over.layout.head over.layout.block n over.len changes) c.len.ensures.size (leads held laid))
    c.changes-changes.ensures.lead)
