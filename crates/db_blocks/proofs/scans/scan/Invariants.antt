use Rattle.db_blocks.proofs.Scanned.{Scanned}
use Rattle.db_blocks.proofs.scans.scan.Given as goal

abbrev pub invariant-loop-number : goal.invariant-loop-number
invariant-loop-number g l = Scanned g.I.ImageRead l.initial.d l.d l.head (g.W.Wanted.test l.wanted) l.count l.number
