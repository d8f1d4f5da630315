use Rattle.std.proofs.Common.{pos, ◌-◌, ◌∙◌, length, get_or, w32, SFits, refl, sym, subst, rules}
use Rattle.std.proofs.lemmas.Int.{to_z-of_z}
use Rattle.entry_scans.specs.Lists.{IsAscending}
use Rattle.prdb_lists.proofs.Ascending.{below_answer}
use Rattle.prdb_lists.proofs.id_lists.IdList.is_below.Goals as goal

pub returns-in-len1-up : goal.returns-in-len1-up
returns-in-len1-up c =
    let fits = c.ranges.id in
    let last : SFits w32 (get_or c.as_slice.result.now (length c.as_slice.result.now - 1) (pos 0)) = search rules in
    simp to_z-of_z
    (below_answer c.args.self.now c.as_slice.result.now c.args.id (get_or c.as_slice.result.now (length c.as_slice.result.now - 1) (pos 0))
    (c.as_slice.ensures.value ∙ c.self.view_is)
    (subst IsAscending (sym c.as_slice.ensures.value) c.self.invariant) c.in-len1-up.len_at_least refl)
