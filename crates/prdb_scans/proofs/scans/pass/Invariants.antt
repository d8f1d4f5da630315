use Rattle.std.proofs.Common.{[]}
use Rattle.prdb_scans.proofs.Ids.{Taking}
use Rattle.prdb_scans.proofs.scans.pass.Given as goal

abbrev pub invariant-loop-number : goal.invariant-loop-number
invariant-loop-number g l = Taking g.I.ImageRead l.initial.d l.d (g.S.Sought.test l.sought) [] l.count l.number
