use Rattle.std.proofs.Common.{◌≡◌, ℕ, List, Option, IfSome, subst, arith}
use Rattle.std.proofs.lemmas.Int.{to_z-of_z}
use Rattle.std.proofs.lemmas.Result.{err_from_is_err_and}
use Rattle.db_blocks.specs.Ends.{HasCause}
use Rattle.prdb_lists.specs.Layout.{IsListed, PairList}
use Rattle.prdb_lists.proofs.ListRead.{Lists, ListCosts as PairCosts}
use Rattle.prdb_finds.proofs.Lookups.{id_fault}
use Rattle.prdb_members.proofs.Found.{chain_costs, found_empty, found_none, found_some, free_costs, list_costs, list_fault}
use Rattle.prdb_members.proofs.finds.find_list.Goals as goal

pub returns-then-len-eq0-clause-found : goal.returns-then-len-eq0-clause-found
returns-then-len-eq0-clause-found g c =
    found_empty c.args.d.now.bytes c.len.result c.args.id (rw c.len.ensures.size c.len.ensures.told) c.if-len-eq0.true

pub returns-then-len-eq0-clause-cost : goal.returns-then-len-eq0-clause-cost
returns-then-len-eq0-clause-cost g c = free_costs c.args.d.now.bytes c.args.id (g.I.ImageRead.asked c.args.d.now.image)

pub returns-in_err-found-clause-fault : goal.returns-in_err-found-clause-fault
returns-in_err-found-clause-fault g c =
    let fits = c.ranges.id in
    let raw = c.in_err-found.ensures.fault in
    let p = err_from_is_err_and c.from_residual.result c.from_residual.ensures.1 in
    rw (p.1, p.2)
    (id_fault c.args.d.now.bytes c.len.result c.args.id c.in_err-found.field-0.0 (rw c.len.ensures.size c.len.ensures.told)
    (omega arith) (simp to_z-of_z at raw))

pub returns-in_err-found-clause-cost : goal.returns-in_err-found-clause-cost
returns-in_err-found-clause-cost g c =
    let fits = c.ranges.id in
    let raw = c.find_block.ensures.cost in
    chain_costs c.args.d.now.bytes c.args.id (g.I.ImageRead.asked c.args.d.now.image) (g.I.ImageRead.asked c.find_block.new.d.image)
    (simp to_z-of_z at raw)

pub returns-in_default-clause-found : goal.returns-in_default-clause-found
returns-in_default-clause-found g c =
    let fits = c.ranges.id in
    let first = c.in_ok-found.ensures.found in
    let found = rw c.in_default.is at first in
    found_none c.args.d.now.bytes c.len.result c.args.id (rw c.len.ensures.size c.len.ensures.told) (omega arith) (simp to_z-of_z at found)

pub returns-in_default-clause-cost : goal.returns-in_default-clause-cost
returns-in_default-clause-cost g c =
    let fits = c.ranges.id in
    let raw = c.find_block.ensures.cost in
    chain_costs c.args.d.now.bytes c.args.id (g.I.ImageRead.asked c.args.d.now.image) (g.I.ImageRead.asked c.find_block.new.d.image)
    (simp to_z-of_z at raw)

pub returns-in_err-listed-clause-fault : goal.returns-in_err-listed-clause-fault
returns-in_err-listed-clause-fault g c =
    let fits = c.ranges.id in
    let first = c.in_ok-found.ensures.found in
    let found = rw c.in-Some.is at first in
    let raw = c.in_err-listed.ensures.fault in
    let cause : HasCause c.find_block.new.d.bytes (Lists c.args.id c.in-Some.found.block) c.in_err-listed.field-0.0 =
    simp to_z-of_z at raw in
    let p = err_from_is_err_and c.from_residual-in_err-listed.result c.from_residual-in_err-listed.ensures.1 in
    rw (p.1, p.2)
    (list_fault c.args.d.now.bytes c.len.result c.args.id c.in-Some.found c.in_err-listed.field-0.0
    (rw c.len.ensures.size c.len.ensures.told) (omega arith)
    (simp to_z-of_z at found)
    (subst (λ (b : Option (List ℕ)). HasCause b (Lists c.args.id c.in-Some.found.block) c.in_err-listed.field-0.0)
    c.find_block.ensures.frame.same.bytes cause))

pub returns-in_err-listed-clause-cost : goal.returns-in_err-listed-clause-cost
returns-in_err-listed-clause-cost g c =
    let fits = c.ranges.id in
    let first = c.in_ok-found.ensures.found in
    let found = rw c.in-Some.is at first in
    let walk_raw = c.find_block.ensures.cost in
    let raw = c.read_list.ensures.cost in
    let read : PairCosts c.find_block.new.d.bytes c.args.id c.in-Some.found.block (g.I.ImageRead.asked c.find_block.new.d.image)
    (g.I.ImageRead.asked c.read_list.new.d.image) = simp to_z-of_z at raw in
    list_costs c.args.d.now.bytes c.len.result c.args.id c.in-Some.found (g.I.ImageRead.asked c.args.d.now.image)
    (g.I.ImageRead.asked c.find_block.new.d.image) (g.I.ImageRead.asked c.read_list.new.d.image)
    (rw c.len.ensures.size c.len.ensures.told) (omega arith) (simp to_z-of_z at found) (simp to_z-of_z at walk_raw)
    (subst (λ (b : Option (List ℕ)). PairCosts b c.args.id c.in-Some.found.block (g.I.ImageRead.asked c.find_block.new.d.image)
    (g.I.ImageRead.asked c.read_list.new.d.image)) c.find_block.ensures.frame.same.bytes read)

pub returns-clause-found : goal.returns-clause-found
returns-clause-found g c =
    let fits = c.ranges.id in
    let first = c.in_ok-found.ensures.found in
    let found = rw c.in-Some.is at first in
    let raw = c.in_ok-listed.ensures.found in
    let read = simp to_z-of_z at raw in
    found_some c.args.d.now.bytes c.len.result c.args.id c.in-Some.found c.in_ok-listed.listed (rw c.len.ensures.size c.len.ensures.told)
    (omega arith)
    (simp to_z-of_z at found)
    (subst (λ (b : Option (List ℕ)). IfSome b (λ image. (p : PairList) → IsListed image c.args.id c.in-Some.found.block p
    → (c.in_ok-listed.listed.ids ≡ p.ids) × (c.in_ok-listed.listed.more.items ≡ p.more))) c.find_block.ensures.frame.same.bytes read)

pub returns-clause-cost : goal.returns-clause-cost
returns-clause-cost g c =
    let fits = c.ranges.id in
    let first = c.in_ok-found.ensures.found in
    let found = rw c.in-Some.is at first in
    let walk_raw = c.find_block.ensures.cost in
    let raw = c.read_list.ensures.cost in
    let read : PairCosts c.find_block.new.d.bytes c.args.id c.in-Some.found.block (g.I.ImageRead.asked c.find_block.new.d.image)
    (g.I.ImageRead.asked c.read_list.new.d.image) = simp to_z-of_z at raw in
    list_costs c.args.d.now.bytes c.len.result c.args.id c.in-Some.found (g.I.ImageRead.asked c.args.d.now.image)
    (g.I.ImageRead.asked c.find_block.new.d.image) (g.I.ImageRead.asked c.read_list.new.d.image)
    (rw c.len.ensures.size c.len.ensures.told) (omega arith) (simp to_z-of_z at found) (simp to_z-of_z at walk_raw)
    (subst (λ (b : Option (List ℕ)). PairCosts b c.args.id c.in-Some.found.block (g.I.ImageRead.asked c.find_block.new.d.image)
    (g.I.ImageRead.asked c.read_list.new.d.image)) c.find_block.ensures.frame.same.bytes read)
