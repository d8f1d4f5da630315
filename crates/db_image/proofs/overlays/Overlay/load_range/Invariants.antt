use Rattle.std.proofs.Common.{◌-◌}
use Rattle.db_image.specs.Images.{ReadsAtMost}
use Rattle.db_image.specs.Draft.{IsLaid, IsLoaded, SameBytes}
use Rattle.db_image.proofs.Ranges.{Reached, begin_of}
use Rattle.db_image.proofs.overlays.Overlay.load_range.Given as goal

abbrev pub invariant-loop-from : goal.invariant-loop-from
invariant-loop-from g l = record {
  laid : IsLaid l.self (g.I.ImageRead.size l.image) (g.I.ImageRead.held l.image);
  same : SameBytes (g.I.ImageRead.held l.initial.image) l.initial.self l.self;
  loaded : IsLoaded l.self l.at l.from;
  reads : ReadsAtMost g.I.ImageRead (begin_of l.initial.self.layout l.from - begin_of l.initial.self.layout l.at) l.initial.image l.image ⊥;
  reached : Reached l.initial.self.layout l.at l.end l.from;
}

abbrev pub decreases-loop-from : goal.decreases-loop-from
decreases-loop-from g l = l.end - l.from
