use Rattle.std.proofs.Common.{leb, leb-true, arith, rules}
use Rattle.std.proofs.lemmas.Bool.{leb-false}
use Rattle.std.proofs.lemmas.List.Sorted.{IsPartitionPoint-from_clause, IsPartitionedBy-leb}
use Rattle.db_blocks.specs.declared.keyed.Kept.{Kept}
use Rattle.db_blocks.proofs.keyed.place_for.Goals as goal

pub returns-clause-before : goal.returns-clause-before
returns-clause-before c =
    let parted = IsPartitionedBy-leb (λ (k : Kept). k.key) _ c.args.key c.requires in
    let point = IsPartitionPoint-from_clause (λ (k : Kept). leb k.key c.args.key) _ _ c.partition_point.ensures.partitioned parted
    (λ a r q k. search rules) in
    λ k d below. leb-true _ _ (point.0 k d (omega arith) below)

pub returns-clause-behind : goal.returns-clause-behind
returns-clause-behind c =
    let parted = IsPartitionedBy-leb (λ (k : Kept). k.key) _ c.args.key c.requires in
    let point = IsPartitionPoint-from_clause (λ (k : Kept). leb k.key c.args.key) _ _ c.partition_point.ensures.partitioned parted
    (λ a r q k. search rules) in
    λ k d from below. leb-false _ _ (point.1 k d from below)
