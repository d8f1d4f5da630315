use Rattle.std.proofs.lemmas.List.Filters.{dedup_is}
use Rattle.entry_scans.proofs.InOrder.{ascending_once, same_once}
use Rattle.entry_scans.proofs.lists.put_in_order.Goals as goal

pub returns-clause-ascending : goal.returns-clause-ascending
returns-clause-ascending c = rw (dedup_is _ _ _ c.dedup.ensures.filtered) (ascending_once _ c.sort_unstable.ensures.sorted)

pub returns-clause-same : goal.returns-clause-same
returns-clause-same c id = rw (dedup_is _ _ _ c.dedup.ensures.filtered) (same_once _ _ c.sort_unstable.ensures.permutation id)
