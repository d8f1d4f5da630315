use Rattle.std.proofs.lemmas.Result.{err_from_is_err_and}
use Rattle.db_chains.proofs.First.{bad_count, first_cause}
use Rattle.db_chains.proofs.FreeClauses.{bytes_taken_first, bytes_taken_new, is_taken_first, is_taken_new}
use Rattle.db_chains.specs.Free.{free_links}
use Rattle.db_chains.proofs.free_blocks.take_block.Goals as goal

pub returns-in_err-count-clause-bad : goal.returns-in_err-count-clause-bad
returns-in_err-count-clause-bad g c =
    let p = err_from_is_err_and c.from_residual.result c.from_residual.ensures.1 in
    rw (p.1, p.2) (bad_count c.args.d.now.bytes (free_links c.args.free) c.args.free.first c.len.result c.in_err-count.field-0.0
    c.in_err-count.ensures.fault.0 (rw c.len.ensures.size c.len.ensures.told) c.in_err-count.ensures.fault.1)

pub returns-in_err-count-clause-fault : goal.returns-in_err-count-clause-fault
returns-in_err-count-clause-fault g c =
    let p = err_from_is_err_and c.from_residual.result c.from_residual.ensures.1 in
    rw (p.1, p.2) (first_cause c.args.d.now.bytes (free_links c.args.free) c.args.free.first c.in_err-count.field-0.0
    (bad_count c.args.d.now.bytes (free_links c.args.free) c.args.free.first c.len.result c.in_err-count.field-0.0
    c.in_err-count.ensures.fault.0 (rw c.len.ensures.size c.len.ensures.told) c.in_err-count.ensures.fault.1))

pub returns-in_default-clause-bytes : goal.returns-in_default-clause-bytes
returns-in_default-clause-bytes g c =
    let first = rw c.in_default.is at c.in_ok-number.ensures.word in
    let out = rw c.free_links.ensures at c.in_ok-number.ensures.bytes in
    bytes_taken_new c.args.d.now.bytes c.take_first.new.d.bytes c.add_block.new.d.bytes c.args.free c.args.block.now c.in_ok-count.count
    c.len.result (rw c.len.ensures.size c.len.ensures.told) c.in_ok-count.ensures.count first out c.in_ok-add_block.ensures.bytes

pub returns-in_default-clause-taken : goal.returns-in_default-clause-taken
returns-in_default-clause-taken g c =
    let first = rw c.in_default.is at c.in_ok-number.ensures.word in
    let out = rw c.free_links.ensures at c.in_ok-number.ensures.bytes in
    is_taken_new c.args.d.now.bytes c.take_first.new.d.bytes c.add_block.new.d.bytes c.args.free c.args.block.now c.in_ok-count.count
    c.len.result c.requires.free (rw c.len.ensures.size c.len.ensures.told) c.in_ok-count.ensures.count c.told-block
    first out c.in_ok-add_block.ensures.bytes

pub returns-clause-bytes : goal.returns-clause-bytes
returns-clause-bytes g c =
    let first = rw c.in-Some.is at c.in_ok-number.ensures.word in
    let out = rw c.free_links.ensures at c.in_ok-number.ensures.bytes in
    bytes_taken_first c.args.d.now.bytes c.take_first.new.d.bytes c.put.new.self.bytes c.args.free c.args.block.now c.in-Some.number
    c.block_place.result c.block_place.ensures first out c.in_ok-put.ensures.bytes

pub returns-clause-taken : goal.returns-clause-taken
returns-clause-taken g c =
    let first = rw c.in-Some.is at c.in_ok-number.ensures.word in
    let out = rw c.free_links.ensures at c.in_ok-number.ensures.bytes in
    let placed = rw c.free_links.ensures at (rw c.in-Some.is at c.in_ok-number.ensures.placed) in
    let chains = rw c.free_links.ensures at (rw c.in-Some.is at c.in_ok-number.ensures.chain) in
    is_taken_first c.args.d.now.bytes c.take_first.new.d.bytes c.put.new.self.bytes c.args.free c.args.block.now c.in_ok-count.count
    c.len.result c.in-Some.number c.block_place.result c.requires.free (rw c.len.ensures.size c.len.ensures.told)
    c.in_ok-count.ensures.count c.told-block (rw c.len.ensures.size placed) c.block_place.ensures first out chains c.in_ok-put.ensures.bytes
