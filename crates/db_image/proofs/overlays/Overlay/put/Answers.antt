use Rattle.std.proofs.Common.{refl, arith}
use Rattle.db_image.specs.Draft.{IsLaid}
use Rattle.db_image.proofs.Putting.{on_err, put_laid, put_shows, same_bytes}
use Rattle.db_image.proofs.overlays.Overlay.put.Goals as goal

pub returns-in_err-prepare-clause-same : goal.returns-in_err-prepare-clause-same
returns-in_err-prepare-clause-same g c =
    on_err _ _ (same_bytes (g.I.ImageRead.held c.args.image.now) c.args.self.now c.prepare.new.self (g.I.ImageRead.size c.args.image.now)
    c.requires.laid c.prepare.ensures.laid c.prepare.ensures.same)

pub returns-clause-laid : goal.returns-clause-laid
returns-clause-laid g c =
    put_laid c.prepare.new.self _ c.lay.new.self c.args.at (g.I.ImageRead.size c.args.image.now)
    c.args.bytes.now (g.I.ImageRead.held c.args.image.now)
    c.lay.ensures.lays c.lay.ensures.full c.prepare.ensures.laid
    (λ longer. c.in_ok-prepare.ensures.grown (omega (arith, longer, c.prepare.ensures.same.len)))
    (λ k. refl) refl (omega arith)

pub returns-clause-bytes : goal.returns-clause-bytes
returns-clause-bytes g c =
    let after : IsLaid c.lay.new.self (g.I.ImageRead.size c.args.image.now) (g.I.ImageRead.held c.args.image.now) =
    put_laid c.prepare.new.self _ c.lay.new.self c.args.at (g.I.ImageRead.size c.args.image.now)
    c.args.bytes.now (g.I.ImageRead.held c.args.image.now)
    c.lay.ensures.lays c.lay.ensures.full c.prepare.ensures.laid
    (λ longer. c.in_ok-prepare.ensures.grown (omega (arith, longer, c.prepare.ensures.same.len)))
    (λ k. refl) refl (omega arith) in
    put_shows c.args.self.now c.prepare.new.self _ c.lay.new.self c.args.at (g.I.ImageRead.size c.args.image.now)
    c.args.bytes.now (g.I.ImageRead.held c.args.image.now)
    c.lay.ensures.lays after c.requires.laid c.prepare.ensures.same (λ k. refl) refl (omega arith)
