use Rattle.std.proofs.Common.{leb, leb-true, ltb, arith, rules}
use Rattle.std.proofs.lemmas.Bool.{ltb-false}
use Rattle.std.proofs.lemmas.List.Sorted.{IsPartitionPoint-from_clause, IsPartitionedBy-leb, IsPartitionedBy-ltb}
use Rattle.ubik_write.specs.declared.undo.Patch.{Patch}
use Rattle.ubik_write.specs.Undo.{patch_end}
use Rattle.ubik_write.proofs.Searched.{searched}
use Rattle.ubik_write.proofs.searches.between.Goals as goal

pub returns : goal.returns
returns c =
    let undo = c.args.undo.now in
    let ends = IsPartitionPoint-from_clause (λ (patch : Patch). leb (patch_end patch) c.args.start) _ _ c.partition_point-first.ensures.partitioned
    (IsPartitionedBy-leb patch_end _ c.args.start c.requires.ascending.end) (λ a r q k. search rules) in
    let begins = IsPartitionPoint-from_clause (λ (patch : Patch). ltb patch.at c.args.end) _ _ c.partition_point-behind.ensures.partitioned
    (IsPartitionedBy-ltb (λ (patch : Patch). patch.at) _ c.args.end c.requires.ascending.at) (λ a r q k. search rules) in
    λ at byte low high. searched undo c.partition_point-first.result c.max.result at byte (omega (arith, c.max.ensures)) (omega (arith, c.max.ensures, c.partition_point-first.ensures.bound, c.partition_point-behind.ensures.bound))
    (λ k d below. omega (arith, low, leb-true _ _ (ends.0 k d (omega arith) below)))
    (λ k d behind inside. omega (arith, high, ltb-false _ _ (begins.1 k d (omega (arith, c.max.ensures, behind)) inside)))
