-- What an entry is paired with, as an image tells it.
use Rattle.std.proofs.Common.{◌≡◌, ℤ, ℕ, true, List, IsSome, ap, subst, ◌∙◌}
use Rattle.prdb_layout.specs.State.{PrEntry}
use Rattle.entry_scans.specs.Lists.{IsAscending, IsListOf}
use Rattle.prdb_lists.specs.Members.{are_paired}
use Rattle.pt_service.specs.State.{State, elements}
use Rattle.pt_looks.specs.States.{HoldsRecords, members_of}
use Rattle.pt_looks.proofs.Pairs.{elements_are, some_is}

lists_ascend : (image : List ℕ) (s : State) (id : ℤ) → (holds : HoldsRecords image s) → IsSome (s.registry.entry id)
    → IsAscending (holds.pairs.lists id).ids
lists_ascend image s id holds there =
    let e = some_is (s.registry.entry id) there in
    let k = holds.pairs.holds.laid.only id e.0 e.1 in
    subst (λ (z : ℤ). IsAscending (holds.pairs.lists z).ids) (ap (λ (x : PrEntry). x.id) k.3 ∙ holds.pairs.holds.valid.ids id e.0 e.1)
    (holds.pairs.are.listed k.0 k.1 k.2).ascending

ids_are : (image : List ℕ) (s : State) (id : ℤ) → (holds : HoldsRecords image s) → IsSome (s.registry.entry id)
    → IsListOf (λ other. are_paired (members_of s) id other ≡ true) (holds.pairs.lists id).ids
ids_are image s id holds there =
    record { ascending = lists_ascend image s id holds there; each = holds.pairs.each id there; all = holds.pairs.all id there }

-- the groups in which a user is, or the users in a group
pub list_of : (image : List ℕ) (s : State) (id : ℤ) → HoldsRecords image s → IsSome (s.registry.entry id)
    → IsListOf (λ other. are_paired (members_of s) id other ≡ true) (elements s id)
list_of image s id holds there =
    let list = ids_are image s id holds there in
    subst (IsListOf (λ other. are_paired (members_of s) id other ≡ true)) (elements_are image s id (holds.pairs.lists id).ids holds list)
    list
