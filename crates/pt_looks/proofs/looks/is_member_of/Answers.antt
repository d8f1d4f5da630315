use Rattle.std.proofs.lemmas.Int.{to_z-of_z}
use Rattle.pt_looks.proofs.Costs.{list_alone, list_then}
use Rattle.pt_looks.proofs.looks.is_member_of.Goals as goal

pub returns-in_err-rule-clause-cost : goal.returns-in_err-rule-clause-cost
returns-in_err-rule-clause-cost g c =
    let one = c.ranges.member in
    let two = c.ranges.group in
    let chains = c.pair_fault.ensures.cost in
    list_alone g.I.ImageRead c.args.member c.args.group c.args.d.now c.pair_fault.new.d (simp to_z-of_z at chains)

pub returns-in-Some-clause-cost : goal.returns-in-Some-clause-cost
returns-in-Some-clause-cost g c =
    let one = c.ranges.member in
    let two = c.ranges.group in
    let chains = c.pair_fault.ensures.cost in
    list_alone g.I.ImageRead c.args.member c.args.group c.args.d.now c.pair_fault.new.d (simp to_z-of_z at chains)

pub returns-in_err-is-clause-cost : goal.returns-in_err-is-clause-cost
returns-in_err-is-clause-cost g c =
    let one = c.ranges.member in
    let two = c.ranges.group in
    let chains = c.pair_fault.ensures.cost in
    let list = c.is_in.ensures.cost in
    list_then g.I.ImageRead c.args.member c.args.group c.args.d.now c.pair_fault.new.d c.is_in.new.d (simp to_z-of_z at chains)
    c.pair_fault.ensures.frame.same.bytes (simp to_z-of_z at list)

pub returns-in_err-end-clause-cost : goal.returns-in_err-end-clause-cost
returns-in_err-end-clause-cost g c =
    let one = c.ranges.member in
    let two = c.ranges.group in
    let chains = c.pair_fault.ensures.cost in
    let list = c.is_in.ensures.cost in
    list_then g.I.ImageRead c.args.member c.args.group c.args.d.now c.pair_fault.new.d c.is_in.new.d (simp to_z-of_z at chains)
    c.pair_fault.ensures.frame.same.bytes (simp to_z-of_z at list)

pub returns-clause-cost : goal.returns-clause-cost
returns-clause-cost g c =
    let one = c.ranges.member in
    let two = c.ranges.group in
    let chains = c.pair_fault.ensures.cost in
    let list = c.is_in.ensures.cost in
    list_then g.I.ImageRead c.args.member c.args.group c.args.d.now c.pair_fault.new.d c.is_in.new.d (simp to_z-of_z at chains)
    c.pair_fault.ensures.frame.same.bytes (simp to_z-of_z at list)
