use Rattle.std.proofs.Common.{length, arith}
use Rattle.db_image.proofs.Covering.{full_of, read_is}
use Rattle.db_image.proofs.overlays.Overlay.read.Goals as goal

pub cover-requires-clause-full : goal.cover-requires-clause-full
cover-requires-clause-full g c = full_of c.args.self.now _ _ c.requires.laid

pub returns-in-Done-clause-bytes : goal.returns-in-Done-clause-bytes
returns-in-Done-clause-bytes g c = λ done.
    read_is (g.I.ImageRead.held c.args.image.now) c.args.self.now c.args.at (length c.args.buf.now) c.read_padded.new.buf c.cover.new.buf
    c.requires.within (omega arith) (omega arith) (c.read_padded.ensures.bytes c.in-Done.is) c.cover.ensures
