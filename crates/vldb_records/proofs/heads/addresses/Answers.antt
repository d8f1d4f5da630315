use Rattle.std.proofs.Common.{arith}
use Rattle.std.proofs.lemmas.Result.{err_from_is_err_and}
use Rattle.db_blocks.proofs.Scanned.{bad_size}
use Rattle.vldb_entries.proofs.HeadRead.{addresses_empty}
use Rattle.vldb_records.proofs.HeadTold.{addresses_found, fault_whole, ok_addresses}
use Rattle.vldb_records.proofs.heads.addresses.Goals as goal

pub returns-then-len-eq0-clause-exact : goal.returns-then-len-eq0-clause-exact
returns-then-len-eq0-clause-exact g c = addresses_empty c.args.d.now.bytes c.len.result
    (rw c.len.ensures.size c.len.ensures.told) c.if-len-eq0.true

pub returns-then-len-eq0-clause-found : goal.returns-then-len-eq0-clause-found
returns-then-len-eq0-clause-found g c =
    addresses_found c.args.d.now.bytes _ (addresses_empty c.args.d.now.bytes c.len.result
    (rw c.len.ensures.size c.len.ensures.told) c.if-len-eq0.true)

pub returns-in_err-block_count-clause-fault : goal.returns-in_err-block_count-clause-fault
returns-in_err-block_count-clause-fault g c =
    let p = err_from_is_err_and c.from_residual.result c.from_residual.ensures.1 in
    rw (p.1, p.2) (fault_whole c.args.d.now.bytes c.len-2.result c.in_err-block_count.field-0.0
    (rw c.len-2.ensures.size c.len-2.ensures.told) (omega arith)
    (bad_size 3132 c.args.d.now.bytes c.len-2.result c.len-2.result c.in_err-block_count.field-0.0 c.in_err-block_count.ensures.fault.0
    (rw c.len-2.ensures.size c.len-2.ensures.told) c.in_err-block_count.ensures.fault.1))

pub returns-clause-found : goal.returns-clause-found
returns-clause-found g c = ok_addresses c.places.result c.args.d.now.bytes c.places.ensures.exact
