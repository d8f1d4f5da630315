use Rattle.std.proofs.Common.{◌≡◌, IfSome, length, arith}
use Rattle.std.specs.Int.{w32}
use Rattle.std.proofs.lemmas.Int.{to_z-of_z}
use Rattle.std.proofs.lemmas.Result.{err_from_is_err_and}
use Rattle.db_chains.proofs.Ended.{bad_cause, bad_count}
use Rattle.prdb_layout.specs.Records.{has_id}
use Rattle.prdb_finds.specs.Keys.{id_chain}
use Rattle.prdb_finds.specs.Places.{id_links}
use Rattle.prdb_finds.proofs.Ended.{link_within}
use Rattle.prdb_finds.proofs.finds.find_link.Goals as goal

pub returns-in_err-block_count-clause-fault : goal.returns-in_err-block_count-clause-fault
returns-in_err-block_count-clause-fault g c =
    let p = err_from_is_err_and c.from_residual.result c.from_residual.ensures.1 in
    let told : IfSome c.args.d.now.bytes (λ image. length image ≡ c.len.result) = rw c.len.ensures.size c.len.ensures.told in
    rw (p.1, p.2) (bad_cause c.args.d.now.bytes id_links (λ w block. has_id c.args.id block) (id_chain c.args.id)
    c.in_err-block_count.field-0.0 (omega arith) (bad_count c.args.d.now.bytes id_links (λ w block. has_id c.args.id block)
    (id_chain c.args.id) c.len.result c.in_err-block_count.field-0.0 c.in_err-block_count.ensures.fault.0 told
    c.in_err-block_count.ensures.fault.1))

pub returns-in_err-block_count-clause-bad : goal.returns-in_err-block_count-clause-bad
returns-in_err-block_count-clause-bad g c =
    let p = err_from_is_err_and c.from_residual.result c.from_residual.ensures.1 in
    let told : IfSome c.args.d.now.bytes (λ image. length image ≡ c.len.result) = rw c.len.ensures.size c.len.ensures.told in
    rw (p.1, p.2) (bad_count c.args.d.now.bytes id_links (λ w block. has_id c.args.id block) (id_chain c.args.id) c.len.result
    c.in_err-block_count.field-0.0 c.in_err-block_count.ensures.fault.0 told c.in_err-block_count.ensures.fault.1)

pub returns-clause-bad : goal.returns-clause-bad
returns-clause-bad g c =
    rw (c.id_links.ensures.is, c.id_chain.ensures.place, to_z-of_z w32 c.args.id c.ranges.id) at c.find.ensures.bad

pub returns-clause-exact : goal.returns-clause-exact
returns-clause-exact g c =
    rw (c.id_links.ensures.is, c.id_chain.ensures.place, to_z-of_z w32 c.args.id c.ranges.id) at c.find.ensures.exact

pub returns-clause-found : goal.returns-clause-found
returns-clause-found g c =
    rw (c.id_links.ensures.is, c.id_chain.ensures.place, to_z-of_z w32 c.args.id c.ranges.id) at c.find.ensures.found

pub returns-clause-within : goal.returns-clause-within
returns-clause-within g c =
    link_within c.find.result c.args.d.now.len c.in_ok-block_count.field-0 (omega (arith, c.in_ok-block_count.ensures.count, c.len.ensures.size))
    (rw (c.id_links.ensures.is) at c.find.ensures.placed)

pub returns-clause-fault : goal.returns-clause-fault
returns-clause-fault g c =
    rw (c.id_links.ensures.is, c.id_chain.ensures.place, to_z-of_z w32 c.args.id c.ranges.id) at c.find.ensures.fault

pub returns-clause-frame : goal.returns-clause-frame
returns-clause-frame g c = rw (c.id_links.ensures.is) at c.find.ensures.frame

pub returns-clause-cost : goal.returns-clause-cost
returns-clause-cost g c =
    rw (c.id_links.ensures.is, c.id_chain.ensures.place, to_z-of_z w32 c.args.id c.ranges.id) at c.find.ensures.cost
