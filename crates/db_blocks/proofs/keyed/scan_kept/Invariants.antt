use Rattle.db_blocks.proofs.Keeping.{Keeping}
use Rattle.db_blocks.proofs.keyed.scan_kept.Given as goal

abbrev pub invariant-loop-number : goal.invariant-loop-number
invariant-loop-number g l =
    Keeping g.I.ImageRead l.initial.d l.d
    record { head = l.head; test = g.W.Keyed.test l.wanted; key = g.W.Keyed.key l.wanted; most = l.most } l.kept.items l.count l.number
