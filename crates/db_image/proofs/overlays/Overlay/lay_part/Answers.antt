use Rattle.std.proofs.Common.{take, arith}
use Rattle.std.proofs.lemmas.List.{length-take-le}
use Rattle.db_image.proofs.Laying.{lays_from}
use Rattle.db_image.proofs.overlays.Overlay.lay_part.Goals as goal

pub returns-clause-lays : goal.returns-clause-lays
returns-clause-lays c =
    let write = c.lay_in_block.ensures in
    lays_from c.args.self.now c.lay_in_block.new.self c.args.at c.place_of-place.result (take c.min-count.result c.args.bytes.now)
    c.requires.loaded write.here write.others write.len write.layout c.requires.block c.place_of-place.ensures c.requires.full
    (omega (arith, length-take-le c.min-count.result c.args.bytes.now (omega arith)))
