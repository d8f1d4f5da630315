use Rattle.std.proofs.Common.{arith}
use Rattle.prdb_finds.proofs.Told.{ok_first, ok_whole}
use Rattle.prdb_scans.proofs.Whole.{err_first, err_whole}
use Rattle.prdb_scans.proofs.pages.find_first.Goals as goal

pub returns-then-len-gt0-clause-found : goal.returns-then-len-gt0-clause-found
returns-then-len-gt0-clause-found g c =
    ok_whole c.scan_first.result c.args.d.now.bytes c.len.result _ (rw c.len.ensures.size c.len.ensures.told) (omega arith)
    c.scan_first.ensures.found

pub returns-then-len-gt0-clause-fault : goal.returns-then-len-gt0-clause-fault
returns-then-len-gt0-clause-fault g c =
    err_whole c.scan_first.result c.args.d.now.bytes c.len.result (rw c.len.ensures.size c.len.ensures.told) (omega arith)
    c.scan_first.ensures.fault

pub returns-clause-found : goal.returns-clause-found
returns-clause-found g c =
    ok_first c.scan_first-2.result c.args.d.now.bytes _ c.len.result _ (rw c.len.ensures.size c.len.ensures.told) (omega arith)
    c.in_ok-first_draft.ensures.bytes c.scan_first-2.ensures.found

pub returns-clause-fault : goal.returns-clause-fault
returns-clause-fault g c =
    err_first c.scan_first-2.result c.args.d.now.bytes _ c.len.result (rw c.len.ensures.size c.len.ensures.told) (omega arith)
    c.in_ok-first_draft.ensures.bytes c.scan_first-2.ensures.fault
