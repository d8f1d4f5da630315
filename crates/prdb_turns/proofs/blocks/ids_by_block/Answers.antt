use Rattle.std.proofs.Common.{arith}
use Rattle.prdb_scans.proofs.Whole.{err_whole}
use Rattle.prdb_turns.proofs.Passed.{empty_none}
use Rattle.prdb_turns.proofs.blocks.ids_by_block.Goals as goal

pub returns-then-len-eq0-clause-found : goal.returns-then-len-eq0-clause-found
returns-then-len-eq0-clause-found g c =
    empty_none c.args.d.now.bytes c.len.result (g.S.Sought.test c.args.sought.now) _ (rw c.len.ensures.size c.len.ensures.told)
    c.if-len-eq0.true c.new.ensures.items

pub returns-clause-fault : goal.returns-clause-fault
returns-clause-fault g c =
    err_whole c.pass.result c.args.d.now.bytes c.len.result (rw c.len.ensures.size c.len.ensures.told) (omega arith)
    c.pass.ensures.fault
