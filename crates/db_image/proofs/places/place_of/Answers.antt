use Rattle.std.proofs.Common.{arith, sym, refl}
use Rattle.db_image.proofs.BlockNumbers.{number_in_head, place_behind}
use Rattle.db_image.proofs.places.place_of.Goals as goal

pub returns-then-at-head : goal.returns-then-at-head
returns-then-at-head c = record {
  number = sym (number_in_head c.args.layout c.args.at (omega arith));
  offset = omega arith;
  size = c.from-head.ensures;
  within = omega arith;
}

pub returns : goal.returns
returns c =
    rw (c.from-head.ensures, c.from-block.ensures)
    (place_behind c.args.layout c.args.at _ c.requires.block (omega arith) refl refl refl)
