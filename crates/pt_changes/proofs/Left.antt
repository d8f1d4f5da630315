-- What is left once an entry has left.
use Rattle.std.proofs.Common.{◌≡◌, ℕ, ℤ, pos, negsuc, Bool, true, false, cond, List, [], ◌∷◌, Option, Some, None, IsSome, refl, ap, subst, ◌∙◌}
use Rattle.std.specs.Prelude.{option_map}
use Rattle.std.specs.Ordering.{int_eq}
use mathlib.Core.Path.{fun_ext}
use Rattle.prdb_layout.specs.Registry.{Registry, MayBeRemoved, without_entry}
use Rattle.prdb_layout.specs.State.{PrEntry}
use Rattle.prdb_lists.specs.Members.{Members}
use Rattle.prdb_entries.specs.Changes.{after_remove}
use Rattle.prdb_entries.proofs.Removed.{holds_removed}
use Rattle.prdb_members.specs.Changes.{after_parts}
use Rattle.prdb_members.proofs.PartedAll.{parts_hold as members_parts_hold}
use Rattle.pt_service.specs.Meaning.{disowned, without}
use Rattle.pt_service.specs.State.{State, elements}
use Rattle.pt_service.specs.Turning.{is_fixed}
use Rattle.prdb_turns.specs.Owners.{after_gives, with_owner}
use Rattle.prdb_turns.proofs.Left.{all_left, disowned as without_owner, left, left_holds as given_holds, left_is as left_all, owns_nothing, still_there}
use Rattle.prdb_turns.proofs.Owned.{HasItsOwn}
use Rattle.pt_looks.specs.States.{HoldsRecords, members_of}
use Rattle.pt_changes.specs.Ends.{over_registry}
use Rattle.pt_changes.specs.Leaving.{after_leave, without_pairs}
use Rattle.pt_changes.specs.Turning.{its_in}
use Rattle.pt_changes.proofs.Listed.{no_fixed}
use Rattle.pt_changes.proofs.Owned.{has_its}
use Rattle.pt_changes.proofs.Parted.{elements_list, none_paired}

-- ---- it may be removed

pub may_remove : (image : List ℕ) (r : Registry) (m : Members) (id : ℤ) (its : List ℤ) → HasItsOwn image r m id its → is_fixed id ≡ false
    → MayBeRemoved id (left r its)
may_remove image r m id its own free = record {
  there = still_there image r m id its own;
  not_fixed = no_fixed id free;
  owns_nothing = λ other f at. owns_nothing image r m id its other f own at;
}

-- ---- the registry without it

same_by : (f : PrEntry) (b : Bool) → cond b (with_owner (pos 0) f) f ≡ record f { owner = cond b (pos 0) f.owner }
same_by f true = refl
same_by f false = refl

same_disowned : (id : ℤ) (o : Option PrEntry) → option_map (without_owner id) o ≡ option_map (disowned id) o
same_disowned id None = refl
same_disowned id (Some f) = ap Some (same_by f (int_eq f.owner id))

left_registry : (image : List ℕ) (r : Registry) (m : Members) (id : ℤ) (its : List ℤ) → HasItsOwn image r m id its
    → without_entry id (left r its) ≡ record r { entry = λ x. cond (int_eq x id) None (option_map (disowned id) (r.entry x)) }
left_registry image r m id its own =
    ap (without_entry id) (left_all image r m id its own)
    ∙ ap (λ (f : ℤ → Option PrEntry). record r { entry = f })
    (fun_ext (λ (x : ℤ). ap (λ (o : Option PrEntry). cond (int_eq x id) None o)
    (all_left image r m id its x own ∙ same_disowned id (r.entry x))))

-- ---- the image

removed_holds : (image : List ℕ) (s : State) (id : ℤ) (its : List ℤ)
    → HasItsOwn image s.registry (members_of (without_pairs id s)) id its → is_fixed id ≡ false
    → HoldsRecords (after_remove id (after_gives (pos 0) its s.registry image)) (without id s)
removed_holds image s id its own free =
    let r = s.registry in
    let m = members_of (without_pairs id s) in
    let given = after_gives (pos 0) its r image in
    let kept : HoldsRecords (after_remove id given) (over_registry (λ r. without_entry id (left r its)) (without_pairs id s)) =
    holds_removed given (left r its) m id (given_holds image r m id its own) (may_remove image r m id its own free, none_paired s id) in
    subst (λ (q : Registry). HoldsRecords (after_remove id given) (record (without_pairs id s) { registry = q }))
    (left_registry image r m id its own) kept

pub parts_hold : (image : List ℕ) (s : State) (id : ℤ) → HoldsRecords image s
    → HoldsRecords (after_parts id (elements s id) image) (without_pairs id s)
parts_hold image s id holds =
    members_parts_hold (elements s id) image s.registry (members_of s) id holds (elements_list s id image holds)

pub left_holds : (image : List ℕ) (s : State) (id : ℤ) → HoldsRecords image s → IsSome (s.registry.entry id) → is_fixed id ≡ false
    → HoldsRecords (after_leave id s image) (without id s)
unfolding after_leave
left_holds image s id holds there free =
    let parted = after_parts id (elements s id) image in
    removed_holds parted s id (its_in parted s.registry id)
    (has_its parted s.registry (members_of (without_pairs id s)) id (parts_hold image s id holds) there free) free
