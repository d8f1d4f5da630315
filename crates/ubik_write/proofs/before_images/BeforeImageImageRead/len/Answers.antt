use Rattle.ubik_write.proofs.BeforeImages.{told-before}
use Rattle.ubik_write.proofs.before_images.BeforeImageImageRead.len.Goals as goal

pub returns-clause-told : goal.returns-clause-told
returns-clause-told g c =
    told-before c.args.self.now.flight.now.undo c.args.self.now.flight.now.old_len (g.I.ImageRead.held c.args.self.now.image)
