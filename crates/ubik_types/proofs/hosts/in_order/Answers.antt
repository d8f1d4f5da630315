use Rattle.std.proofs.Common.{rules}
use Rattle.std.specs.List.Sorted.{IsSortedByKey}
use Rattle.std.specs.Ordering.{nat_cmp}
use Rattle.ubik_types.specs.declared.hosts.Host.{Host}
use Rattle.ubik_types.proofs.HostOrder.{rising-from_sorted}
use Rattle.ubik_types.proofs.hosts.in_order.Goals as goal

pub returns-clause-rising : goal.returns-clause-rising
returns-clause-rising c =
    let sorted : IsSortedByKey (λ (host : Host). host.0) nat_cmp c.sort_unstable.new.self.items = search rules in
    rising-from_sorted _ sorted
