use Rattle.std.proofs.Common.{rules, arith}
use Rattle.ubik_types.specs.Hosts.{IsLowestRepeated}
use Rattle.ubik_types.proofs.HostOrder.{lowest_repeated-permutation}
use Rattle.ubik_types.proofs.hosts.Cell.new.Goals as goal

pub returns-in-Some-clause-refused : goal.returns-in-Some-clause-refused
returns-in-Some-clause-refused c =
    let lowest : IsLowestRepeated c.in_ok-sorted.sorted.items c.in-Some.host = rw c.deref.ensures.value at c.in-Some.ensures in
    ((search rules, omega arith), lowest_repeated-permutation _ _ _ c.in_ok-sorted.ensures.same lowest)
