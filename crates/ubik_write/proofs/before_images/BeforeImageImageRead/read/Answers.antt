use Rattle.std.proofs.Common.{◌≡◌, length, arith}
use Rattle.ubik_write.proofs.BeforeImages.{read-before}
use Rattle.ubik_write.proofs.before_images.BeforeImageImageRead.read.Goals as goal

pub returns-then-eq-clause-bytes : goal.returns-then-eq-clause-bytes
returns-then-eq-clause-bytes g c = λ done.
    (let flight = c.args.self.now.flight.now in
    let size : length c.read_padded-end.new.buf ≡ length c.args.buf.now = c.read_padded-end.auto.buf in
    rw (← size)
    (read-before flight.undo flight.old_len (g.I.ImageRead.held c.args.self.now.image) c.args.at c.read_padded-end.new.buf c.undone.new.buf
    (omega (arith, c.requires)) c.undone.auto.buf (c.read_padded-end.ensures.bytes done) c.undone.ensures.bytes))
