use Rattle.std.proofs.Common.{rules}
use Rattle.ubik_store.specs.Rewrite.Rewrite.{Replaced}
use Rattle.ubik_store.proofs.Ended.{durable_itself, image_not_at_disk, image_refused}
use Rattle.ubik_store.proofs.stores.Store.install.Goals as goal

pub returns-in_err-allow_image-clause-ended : goal.returns-in_err-allow_image-clause-ended
returns-in_err-allow_image-clause-ended g c =
    image_refused g.D.Disk c.args.image.now c.args.v c.args.self.now c.from_residual.result c.in_err-allow_image.field-0.0
    c.from_residual.ensures.1 c.in_err-allow_image.ensures.fault

pub returns-in_err-allow_image-clause-durable : goal.returns-in_err-allow_image-clause-durable
returns-in_err-allow_image-clause-durable g c = λ went.
    durable_itself g.D.Disk (Replaced c.args.image.now) c.args.v c.args.self.now _ (c.requires.sound.ready went)
    (λ failed. image_not_at_disk g.D.Disk c.args.image.now c.args.v c.args.self.now c.in_err-allow_image.field-0.0 went
    c.in_err-allow_image.ensures.fault (search rules))

pub returns-in_err-text-clause-durable : goal.returns-in_err-text-clause-durable
returns-in_err-text-clause-durable g c = λ went.
    durable_itself g.D.Disk (Replaced c.args.image.now) c.args.v c.args.self.now _ (c.requires.sound.ready went) (search rules)
