use Rattle.prdb_turns.proofs.Passed.{Passing}
use Rattle.prdb_turns.proofs.blocks.pass.Given as goal

abbrev pub invariant-loop-number : goal.invariant-loop-number
invariant-loop-number g l = Passing g.I.ImageRead l.initial.d l.d (g.S.Sought.test l.sought) l.ids.items l.count l.number
