use Rattle.std.proofs.Common.{rules}
use Rattle.std.proofs.lemmas.Cmp.{nat_list_cmp_total}
use Rattle.std.proofs.lemmas.List.Sorted.{answers_always, ranks_by}
use Rattle.vldb_entries.specs.declared.entries.VlEntry.{VlEntry}
use Rattle.vos_tool.specs.Ordering.{comes_before}
use Rattle.vos_tool.proofs.Sorting.{sorted_by-from_sort}
use Rattle.vos_tool.proofs.ordering.by_name.Goals as goal

pub returns : goal.returns
returns c =
    let order = ranks_by nat_list_cmp_total (λ (e : VlEntry). e.name) in
    let compares = answers_always _ _ _ (λ f a r next called. search rules) in
    sorted_by-from_sort comes_before order _ _
    (c.in_ok-sort_by.ensures.sorted comes_before order compares)
    (c.in_ok-sort_by.ensures.stable comes_before order compares)
