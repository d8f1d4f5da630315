use Rattle.std.proofs.Common.{arith}
use Rattle.prdb_scans.proofs.Ids.{ok_list}
use Rattle.prdb_finds.proofs.Told.{ok_first, ok_whole}
use Rattle.prdb_scans.proofs.Whole.{err_first, err_whole}
use Rattle.prdb_scans.proofs.scans.ids_where.Goals as goal

pub returns-then-len-gt0-clause-found : goal.returns-then-len-gt0-clause-found
returns-then-len-gt0-clause-found g c =
    ok_list c.pass_ids.result (λ ids. ids.items) c.args.d.now.bytes (g.S.Sought.test c.args.sought.now) c.pass_ids.ensures.ascending
    (ok_whole c.pass_ids.result c.args.d.now.bytes c.len.result _ (rw c.len.ensures.size c.len.ensures.told) (omega arith)
    c.pass_ids.ensures.found)

pub returns-then-len-gt0-clause-fault : goal.returns-then-len-gt0-clause-fault
returns-then-len-gt0-clause-fault g c =
    err_whole c.pass_ids.result c.args.d.now.bytes c.len.result (rw c.len.ensures.size c.len.ensures.told) (omega arith)
    c.pass_ids.ensures.fault

pub returns-clause-found : goal.returns-clause-found
returns-clause-found g c =
    ok_list c.pass_ids-2.result (λ ids. ids.items) c.args.d.now.bytes (g.S.Sought.test c.args.sought.now) c.pass_ids-2.ensures.ascending
    (ok_first c.pass_ids-2.result c.args.d.now.bytes _ c.len.result _ (rw c.len.ensures.size c.len.ensures.told) (omega arith)
    c.in_ok-first_draft.ensures.bytes c.pass_ids-2.ensures.found)

pub returns-clause-fault : goal.returns-clause-fault
returns-clause-fault g c =
    err_first c.pass_ids-2.result c.args.d.now.bytes _ c.len.result (rw c.len.ensures.size c.len.ensures.told) (omega arith)
    c.in_ok-first_draft.ensures.bytes c.pass_ids-2.ensures.fault
