use Rattle.std.proofs.Common.{◌≡◌, ℤ, Bool, true, List, [], ◌∷◌, ◌++◌, take, drop, sym, ap, subst, ◌∙◌}
use Rattle.std.proofs.lemmas.Int.{to_z-of_z}
use Rattle.entry_scans.specs.Lists.{IsAscending}
use Rattle.prdb_lists.specs.Lists.{IsRank}
use Rattle.prdb_lists.proofs.Ascending.{IsWith, is_ascending_with, is_ascending_same, members_with, members_same}
use Rattle.prdb_lists.proofs.Ids.{placed}
use Rattle.prdb_lists.proofs.id_lists.IdList.with.Goals as goal
use Rattle.prdb_lists.proofs.id_lists.IdList.with.Goals.{then-not-there+in_ok-push, else-not-there}

pub invariant_of-result : goal.invariant_of-result
invariant_of-result c =
    let fits = c.ranges.id in
    let same : c.as_slice.result.now ≡ c.args.self.now = c.as_slice.ensures.value ∙ c.self.view_is in
    let rises : IsAscending c.args.self.now = subst IsAscending c.self.view_is c.self.invariant in
    let rank_raw = c.rank.ensures in
    let rank : IsRank c.args.self.now c.args.id c.rank.result = simp to_z-of_z at rank_raw in
    let front : c.split_at.result.0.now ≡ take c.rank.result c.args.self.now = c.split_at.ensures.front ∙ ap (take c.rank.result) same in
    let back : c.split_at.result.1.now ≡ drop c.rank.result c.args.self.now = c.split_at.ensures.back ∙ ap (drop c.rank.result) same in
    let first : c.extend_from_slice.new.self.items ≡ c.split_at.result.0.now =
    c.in_ok-extend_from_slice.ensures.items ∙ ap (λ (l : List ℤ). l ++ c.split_at.result.0.now) c.new-ids.ensures.items in
    let has_raw = c.contains-there.ensures in
    let has = simp to_z-of_z at has_raw in
    subst IsAscending (sym c.in_ok-extend_from_slice-2.ensures.items) (elim c.if-not-there.branch [
      | then-not-there+in_ok-push w ↦
          let pushed_raw = w.in_ok-push.ensures.items in
          let pushed : w.push.new.self.items ≡ c.extend_from_slice.new.self.items ++ c.args.id ∷ [] = simp to_z-of_z at pushed_raw in
          rw w.ids-is
          (is_ascending_with c.args.self.now c.split_at.result.0.now c.split_at.result.1.now w.push.new.self.items c.args.id c.rank.result
          rises rank front back
          (λ yes. let there : ◌≡◌ {A = Bool} c.contains-there.result true = has.1 yes in let not = w.if-not-there.true in absurd cc)
          (pushed ∙ ap (λ (l : List ℤ). l ++ c.args.id ∷ []) first))
      | else-not-there w ↦
          rw w.ids-is (subst (λ (l : List ℤ). IsAscending (l ++ c.split_at.result.1.now)) (sym first)
          (is_ascending_same c.args.self.now c.split_at.result.0.now c.split_at.result.1.now c.rank.result rises front back))
    ])

pub returns-clause-ascending : goal.returns-clause-ascending
returns-clause-ascending c = invariant_of-result c

pub returns-clause-members : goal.returns-clause-members
unfolding IsWith
returns-clause-members c =
    let fits = c.ranges.id in
    let same : c.as_slice.result.now ≡ c.args.self.now = c.as_slice.ensures.value ∙ c.self.view_is in
    let front : c.split_at.result.0.now ≡ take c.rank.result c.args.self.now = c.split_at.ensures.front ∙ ap (take c.rank.result) same in
    let back : c.split_at.result.1.now ≡ drop c.rank.result c.args.self.now = c.split_at.ensures.back ∙ ap (drop c.rank.result) same in
    let first : c.extend_from_slice.new.self.items ≡ c.split_at.result.0.now =
    c.in_ok-extend_from_slice.ensures.items ∙ ap (λ (l : List ℤ). l ++ c.split_at.result.0.now) c.new-ids.ensures.items in
    let has_raw = c.contains-there.ensures in
    let has = simp to_z-of_z at has_raw in
    subst (IsWith c.args.self.now c.args.id) (sym c.in_ok-extend_from_slice-2.ensures.items) (elim c.if-not-there.branch [
      | then-not-there+in_ok-push w ↦
          let pushed_raw = w.in_ok-push.ensures.items in
          let pushed : w.push.new.self.items ≡ c.extend_from_slice.new.self.items ++ c.args.id ∷ [] = simp to_z-of_z at pushed_raw in
          rw w.ids-is
          (members_with c.args.self.now c.split_at.result.0.now c.split_at.result.1.now w.push.new.self.items c.args.id c.rank.result front
          back
          (pushed ∙ ap (λ (l : List ℤ). l ++ c.args.id ∷ []) first))
      | else-not-there w ↦
          rw w.ids-is (subst (λ (l : List ℤ). IsWith c.args.self.now c.args.id (l ++ c.split_at.result.1.now)) (sym first)
          (members_same c.args.self.now c.split_at.result.0.now c.split_at.result.1.now c.args.id c.rank.result front back
          (has.0 w.if-not-there.false)))
    ])

pub returns-clause-placed : goal.returns-clause-placed
returns-clause-placed c = λ fresh.
    let fits = c.ranges.id in
    let same : c.as_slice.result.now ≡ c.args.self.now = c.as_slice.ensures.value ∙ c.self.view_is in
    let rank_raw = c.rank.ensures in
    let rank : IsRank c.args.self.now c.args.id c.rank.result = simp to_z-of_z at rank_raw in
    let front : c.split_at.result.0.now ≡ take c.rank.result c.args.self.now = c.split_at.ensures.front ∙ ap (take c.rank.result) same in
    let back : c.split_at.result.1.now ≡ drop c.rank.result c.args.self.now = c.split_at.ensures.back ∙ ap (drop c.rank.result) same in
    let first : c.extend_from_slice.new.self.items ≡ c.split_at.result.0.now =
    c.in_ok-extend_from_slice.ensures.items ∙ ap (λ (l : List ℤ). l ++ c.split_at.result.0.now) c.new-ids.ensures.items in
    let has_raw = c.contains-there.ensures in
    let has = simp to_z-of_z at has_raw in
    c.in_ok-extend_from_slice-2.ensures.items ∙ (elim c.if-not-there.branch [
      | then-not-there+in_ok-push w ↦
          let pushed_raw = w.in_ok-push.ensures.items in
          let pushed : w.push.new.self.items ≡ c.extend_from_slice.new.self.items ++ c.args.id ∷ [] = simp to_z-of_z at pushed_raw in
          rw w.ids-is
          (placed c.args.self.now c.split_at.result.0.now c.split_at.result.1.now w.push.new.self.items c.args.id c.rank.result rank front
          back
          (pushed ∙ ap (λ (l : List ℤ). l ++ c.args.id ∷ []) first))
      | else-not-there w ↦ absurd (fresh (has.0 w.if-not-there.false))
    ])
