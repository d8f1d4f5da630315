use Rattle.std.proofs.Common.{arith}
use Rattle.db_image.proofs.Covering.{padded_front}
use Rattle.ubik_write.proofs.before_images.read_padded.Goals as goal

pub returns-then-count-gt0-clause-bytes : goal.returns-then-count-gt0-clause-bytes
returns-then-count-gt0-clause-bytes g c = λ done.
    padded_front (g.I.ImageRead.held c.args.image.now)
    (g.I.ImageRead.size c.args.image.now) c.args.at c.min-count.result c.clear.new.buf c.read_front.new.buf
    c.len.ensures.told (omega arith) c.clear.ensures c.read_front.ensures.behind (c.read_front.ensures.front done)
