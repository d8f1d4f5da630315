use Rattle.std.proofs.Common.{◌≡◌, ℕ, List, Option, IfSome, subst}
use Rattle.std.proofs.lemmas.Int.{to_z-of_z}
use Rattle.std.proofs.lemmas.Result.{err_from_is_err_and}
use Rattle.db_blocks.specs.Ends.{HasCause}
use Rattle.prdb_lists.specs.Layout.{IsListed, PairList}
use Rattle.prdb_lists.proofs.ListRead.{ListCosts as PairCosts, Lists}
use Rattle.prdb_members.proofs.Costs.{place_read, place_walk}
use Rattle.prdb_members.proofs.Places.{absent_fault, found_fault, listed_fault, place_found}
use Rattle.prdb_members.proofs.sides.find_place.Goals as goal

pub returns-in_err-found-clause-fault : goal.returns-in_err-found-clause-fault
returns-in_err-found-clause-fault g c =
    let fits = c.ranges.entry in
    let raw = c.in_err-found.ensures.fault in
    let p = err_from_is_err_and c.from_residual.result c.from_residual.ensures.1 in
    rw (p.1, p.2) (found_fault c.args.d.now.bytes c.args.entry c.in_err-found.field-0.0 (simp to_z-of_z at raw))

pub returns-in_default-clause-fault : goal.returns-in_default-clause-fault
returns-in_default-clause-fault g c =
    let fits = c.ranges.entry in
    let first = c.in_ok-found.ensures.found in
    let found = rw c.in_default.is at first in
    absent_fault c.args.d.now.bytes c.args.entry c.len-end.result (simp to_z-of_z at found)

pub returns-in_err-listed-clause-fault : goal.returns-in_err-listed-clause-fault
returns-in_err-listed-clause-fault g c =
    let fits = c.ranges.entry in
    let first = c.in_ok-found.ensures.found in
    let found = rw c.in-Some.is at first in
    let raw = c.in_err-listed.ensures.fault in
    let cause : HasCause c.find_block.new.d.bytes (Lists c.args.entry c.in-Some.found.block) c.in_err-listed.field-0.0 =
    simp to_z-of_z at raw in
    let p = err_from_is_err_and c.from_residual-in_err-listed.result c.from_residual-in_err-listed.ensures.1 in
    rw (p.1, p.2) (listed_fault c.args.d.now.bytes c.args.entry c.in-Some.found c.in_err-listed.field-0.0 (simp to_z-of_z at found)
    (subst (λ (b : Option (List ℕ)). HasCause b (Lists c.args.entry c.in-Some.found.block) c.in_err-listed.field-0.0)
    c.find_block.ensures.frame.same.bytes cause))

pub returns-clause-found : goal.returns-clause-found
returns-clause-found g c =
    let fits = c.ranges.entry in
    let first = c.in_ok-found.ensures.found in
    let found = rw c.in-Some.is at first in
    let raw = c.in_ok-listed.ensures.found in
    let read = simp to_z-of_z at raw in
    simp to_z-of_z
    (place_found c.args.d.now.bytes (record { entry = c.args.entry; found = c.in-Some.found; listed = c.in_ok-listed.listed })
    (simp to_z-of_z at found)
    (subst (λ (b : Option (List ℕ)). IfSome b (λ image. (l : PairList) → IsListed image c.args.entry c.in-Some.found.block l
    → (c.in_ok-listed.listed.ids ≡ l.ids) × (c.in_ok-listed.listed.more.items ≡ l.more))) c.find_block.ensures.frame.same.bytes read))

pub returns-in_err-found-clause-cost : goal.returns-in_err-found-clause-cost
returns-in_err-found-clause-cost g c =
    let fits = c.ranges.entry in
    let raw = c.find_block.ensures.cost in
    place_walk c.args.d.now.bytes c.args.entry (g.I.ImageRead.asked c.args.d.now.image) (g.I.ImageRead.asked c.find_block.new.d.image)
    (simp to_z-of_z at raw)

pub returns-in_default-clause-cost : goal.returns-in_default-clause-cost
returns-in_default-clause-cost g c =
    let fits = c.ranges.entry in
    let raw = c.find_block.ensures.cost in
    place_walk c.args.d.now.bytes c.args.entry (g.I.ImageRead.asked c.args.d.now.image) (g.I.ImageRead.asked c.find_block.new.d.image)
    (simp to_z-of_z at raw)

pub returns-in_err-listed-clause-cost : goal.returns-in_err-listed-clause-cost
returns-in_err-listed-clause-cost g c =
    let fits = c.ranges.entry in
    let first = c.in_ok-found.ensures.found in
    let found = rw c.in-Some.is at first in
    let walk_raw = c.find_block.ensures.cost in
    let raw = c.read_list.ensures.cost in
    let read : PairCosts c.find_block.new.d.bytes c.args.entry c.in-Some.found.block (g.I.ImageRead.asked c.find_block.new.d.image)
    (g.I.ImageRead.asked c.read_list.new.d.image) = simp to_z-of_z at raw in
    place_read c.args.d.now.bytes c.args.entry c.in-Some.found (g.I.ImageRead.asked c.args.d.now.image)
    (g.I.ImageRead.asked c.find_block.new.d.image) (g.I.ImageRead.asked c.read_list.new.d.image) (simp to_z-of_z at found)
    (simp to_z-of_z at walk_raw)
    (subst (λ (b : Option (List ℕ)). PairCosts b c.args.entry c.in-Some.found.block (g.I.ImageRead.asked c.find_block.new.d.image)
    (g.I.ImageRead.asked c.read_list.new.d.image)) c.find_block.ensures.frame.same.bytes read)

pub returns-clause-cost : goal.returns-clause-cost
returns-clause-cost g c =
    let fits = c.ranges.entry in
    let first = c.in_ok-found.ensures.found in
    let found = rw c.in-Some.is at first in
    let walk_raw = c.find_block.ensures.cost in
    let raw = c.read_list.ensures.cost in
    let read : PairCosts c.find_block.new.d.bytes c.args.entry c.in-Some.found.block (g.I.ImageRead.asked c.find_block.new.d.image)
    (g.I.ImageRead.asked c.read_list.new.d.image) = simp to_z-of_z at raw in
    place_read c.args.d.now.bytes c.args.entry c.in-Some.found (g.I.ImageRead.asked c.args.d.now.image)
    (g.I.ImageRead.asked c.find_block.new.d.image) (g.I.ImageRead.asked c.read_list.new.d.image) (simp to_z-of_z at found)
    (simp to_z-of_z at walk_raw)
    (subst (λ (b : Option (List ℕ)). PairCosts b c.args.entry c.in-Some.found.block (g.I.ImageRead.asked c.find_block.new.d.image)
    (g.I.ImageRead.asked c.read_list.new.d.image)) c.find_block.ensures.frame.same.bytes read)
