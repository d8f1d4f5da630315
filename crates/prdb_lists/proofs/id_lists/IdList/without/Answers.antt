use Rattle.std.proofs.Common.{◌≡◌, sym, ap, subst, ◌∙◌}
use Rattle.std.proofs.lemmas.Int.{to_z-of_z}
use Rattle.entry_scans.specs.Lists.{IsAscending}
use Rattle.prdb_lists.specs.Lists.{ids_without}
use Rattle.prdb_lists.proofs.Ids.{ids_without-ascending}
use Rattle.prdb_lists.proofs.id_lists.IdList.without.Goals as goal

pub invariant_of-result : goal.invariant_of-result
invariant_of-result c =
    let fits = c.ranges.id in
    let raw = c.in_ok-ids.ensures in
    let is : c.in_ok-ids.ids.items ≡ ids_without c.args.id c.as_slice.result.now = simp to_z-of_z at raw in
    let same : c.as_slice.result.now ≡ c.args.self.now = c.as_slice.ensures.value ∙ c.self.view_is in
    let rises : IsAscending c.args.self.now = subst IsAscending c.self.view_is c.self.invariant in
    subst IsAscending (sym (is ∙ ap (ids_without c.args.id) same)) (ids_without-ascending c.args.id c.args.self.now rises)
