use Rattle.std.proofs.Common.{◌++◌, ℕ, Option, List, subst, ap, ◌∙◌}
use Rattle.db_image.specs.Blocks.{block_at, block_change}
use Rattle.db_image.specs.Places.{block_size}
use Rattle.db_image.specs.Draft.{bytes_over, IsChangeOf}
use Rattle.db_image.proofs.Differing.{push_none, push_some, map_on_ok}
use Rattle.db_image.proofs.overlays.Overlay.push_change.Goals as goal

pub returns-in_default-clause-change : goal.returns-in_default-clause-change
returns-in_default-clause-change c = λ beneath laid.
    let o = c.args.self.now in
    let at : ℕ = c.start_of-at.result in
    let size : ℕ = block_size o.layout c.args.number in
    push_none beneath (bytes_over o beneath) at size c.args.changes.now
    (subst (λ (f : Option (List ℕ)). IsChangeOf (block_at beneath at size) (block_at (bytes_over o beneath) at size) f) c.in_default.is
    (c.in_ok-bytes.ensures.change beneath laid))
    ∙ ap (λ (n : ℕ). c.args.changes.now ++ block_change beneath (bytes_over o beneath) n size) c.start_of-at.ensures

pub returns-clause-change : goal.returns-clause-change
returns-clause-change c = map_on_ok c.changes_push.result _ _ (λ pushed beneath laid.
    let o = c.args.self.now in
    let at : ℕ = c.start_of-at.result in
    let size : ℕ = block_size o.layout c.args.number in
    let change = subst (λ (f : Option (List ℕ)). IsChangeOf (block_at beneath at size) (block_at (bytes_over o beneath) at size) f) c.in-Some.is
    (c.in_ok-bytes.ensures.change beneath laid) in
    pushed ∙ push_some beneath (bytes_over o beneath) at size c.args.changes.now c.in-Some.bytes change.0 change.1
    ∙ ap (λ (n : ℕ). c.args.changes.now ++ block_change beneath (bytes_over o beneath) n size) c.start_of-at.ensures) c.changes_push.ensures.ok
