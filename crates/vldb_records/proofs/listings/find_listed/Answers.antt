use Rattle.std.proofs.Common.{arith}
use Rattle.vldb_records.specs.Listing.{is_listed_in, rw_in}
use Rattle.vldb_records.proofs.HeadTold.{err_whole, ok_whole}
use Rattle.vldb_records.proofs.Listed.{empty_blocks, err_listed}
use Rattle.vldb_records.proofs.listings.find_listed.Goals as goal

pub returns-then-len-eq0-clause-found : goal.returns-then-len-eq0-clause-found
returns-then-len-eq0-clause-found g c =
    let wanted = c.args.wanted.now in
    empty_blocks c.args.d.now.bytes c.len.result c.args.most (is_listed_in wanted.listing wanted.after wanted.addresses.now) rw_in
    c.new.result.items c.new.ensures.items (rw c.len.ensures.size c.len.ensures.told) c.if-len-eq0.true

pub returns-clause-found : goal.returns-clause-found
returns-clause-found g c =
    ok_whole c.scan_first.result c.args.d.now.bytes _ _ c.len.ensures.told (omega arith) c.scan_first.ensures.found

pub returns-clause-fault : goal.returns-clause-fault
returns-clause-fault g c =
    err_whole c.scan_first.result c.args.d.now.bytes _ c.len.ensures.told (omega arith)
    (err_listed c.scan_first.result c.args.d.now.bytes c.scan_first.ensures.fault)
