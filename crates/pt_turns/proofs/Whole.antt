-- The image after an entry got another name, owner and id holds the state after it.
use Rattle.std.proofs.Common.{◌≡◌, ℕ, ℤ, Bool, true, false, cond, List, ◌∷◌, [], Option, Some, None, refl, sym, ap, subst, ◌∙◌}
use Rattle.std.specs.Ordering.{int_eq}
use Rattle.std.proofs.Math.Path.{fun_ext}
use Rattle.prdb_layout.specs.Registry.{Registry}
use Rattle.prdb_layout.specs.State.{PrEntry, front_of}
use Rattle.prdb_lists.specs.Members.{Members}
use Rattle.prdb_lists.specs.Moves.{both_have, moved_members, before}
use Rattle.prdb_finds.specs.Records.{Holds, whole}
use Rattle.pt_service.specs.State.{State, elements}
use Rattle.pt_service.specs.Turning.{both_in, moved, with_turned}
use Rattle.prdb_turns.specs.Fronts.{fronted, ids_by_block}
use Rattle.prdb_turns.specs.Owners.{after_gives}
use Rattle.prdb_turns.specs.Refits.{after_refit}
use Rattle.prdb_turns.specs.Turning.{MayTurn as MaySteps, IsTurned, after_id, after_turn as after_steps, first, is_under as is_named_under, named, second, third, with_pairs, with_turn}
use Rattle.prdb_turns.proofs.Refits.{refits_hold}
use Rattle.pt_looks.specs.States.{HoldsRecords, members_of}
use Rattle.pt_looks.proofs.Pairs.{is_there}
use Rattle.pt_changes.specs.Turning.{MayTurn, after_turn, its_in}
use Rattle.pt_turns.proofs.Grouped.{groups_are, not_empty}
use Rattle.pt_turns.proofs.Moved.{before_same}
use Rattle.pt_turns.proofs.Named.{id_of}
use Rattle.pt_turns.proofs.Owned.{list_of}
use Rattle.pt_turns.proofs.Steps.{HasBoth, its_are, may_steps, third_holds}
use Rattle.pt_turns.proofs.Turnable.{IsTurnable, turned_is, turned_registry}

-- ---- pairs

abbrev moved_pairs : (old new : ℤ) → State → Members
moved_pairs old new s = record { has = λ user group. both_in s (before old new user) (before old new group) }

abbrev as_members : (ℤ → ℤ → Bool) → Members
as_members has = record { has = has }

both_same : (s : State) (a b : Option ℤ) → both_have (members_of s) a b ≡ both_in s a b
both_same s None b = refl
both_same s (Some a) None = refl
both_same s (Some a) (Some b) = refl

both_stay : (s : State) (user group : ℤ) (a b : Option ℤ) → a ≡ Some user → b ≡ Some group → s.is_in user group ≡ both_in s a b
both_stay s user group a b one two = sym (ap (λ (x : Option ℤ). both_in s x b) one ∙ ap (both_in s (Some user)) two)

-- an id that stays
stays_at : (id : ℤ) (s : State) (user group : ℤ) → s.is_in user group ≡ both_in s (before id id user) (before id id group)
stays_at id s user group =
    both_stay s user group (before id id user) (before id id group) (before_same id user) (before_same id group)

pairs_by : (old new : ℤ) (s : State) (b : Bool) → int_eq new old ≡ b
    → cond b (members_of s) (moved_members old new (members_of s)) ≡ moved_pairs old new s
pairs_by old new s true is =
    subst (λ (id : ℤ). members_of s ≡ moved_pairs old id s) (sym (id_of new old is))
    (ap as_members (fun_ext (λ user. fun_ext (λ group. stays_at old s user group))))
pairs_by old new s false is =
    ap as_members (fun_ext (λ user. fun_ext (λ group. both_same s (before old new user) (before old new group))))

pairs_are : (old new : ℤ) (s : State) → with_pairs old new (members_of s) ≡ moved_pairs old new s
pairs_are old new s = pairs_by old new s (int_eq new old) refl

-- ---- the image

turnable : (image : List ℕ) (s : State) (e : PrEntry) (name : List ℕ) (owner id : ℤ) → HoldsRecords image s
    → MayTurn e name owner id s.registry → IsTurnable s.registry e name owner id
turnable image s e name owner id holds may = record { valid = holds.pairs.holds.valid; may = may }

-- what the entry owns once it has its name
abbrev its_of : List ℕ → State → PrEntry → (name : List ℕ) → List ℤ
its_of image s e name = its_in (whole (after_refit (named name) (s.registry.entry e.id) image)) (first e name s.registry) e.id

both_told : (image : List ℕ) (s : State) (e : PrEntry) (name : List ℕ) (owner id : ℤ) → HoldsRecords image s
    → MayTurn e name owner id s.registry → HasBoth image s.registry (members_of s) e name (its_of image s e name) (elements s e.id)
both_told image s e name owner id holds may = record {
  own = its_are image s.registry (members_of s) e name owner id holds (turnable image s e name owner id holds may);
  list = list_of image s e.id holds (is_there (s.registry.entry e.id) e may.0.there);
}

-- each step may be made
pub steps_may : (image : List ℕ) (s : State) (e : PrEntry) (name : List ℕ) (owner id : ℤ) → HoldsRecords image s
    → MayTurn e name owner id s.registry
    → MaySteps e name owner id (ids_by_block (is_named_under e.name) image) s.registry
steps_may image s e name owner id holds may =
    may_steps image s.registry (members_of s) e name owner id (its_of image s e name) (elements s e.id) holds
    (turnable image s e name owner id holds may) (both_told image s e name owner id holds may)

-- and the bytes that they leave are these
pub turned_at : (image : List ℕ) (s : State) (e : PrEntry) (name : List ℕ) (owner id : ℤ) (after : Option (List ℕ)) → HoldsRecords image s
    → MayTurn e name owner id s.registry → IsTurned e name owner id s.registry (members_of s) image after
    → after ≡ Some (after_turn e name owner id s image)
unfolding after_turn
turned_at image s e name owner id after holds may told =
    let both = both_told image s e name owner id holds may in
    told (its_of image s e name) (elements s e.id) both.own both.list

steps_hold : (image : List ℕ) (r : Registry) (m : Members) (e : PrEntry) (name : List ℕ) (owner id : ℤ) (its others : List ℤ)
    → Holds image r m → IsTurnable r e name owner id → HasBoth image r m e name its others
    → Holds (after_steps e name owner id its others r image) (with_turn e name owner id (ids_by_block (is_named_under e.name) image) r)
    (with_pairs e.id id m)
unfolding after_steps
steps_hold image r m e name owner id its others h t both =
    let here = after_gives (moved e.id id owner) (id ∷ []) (second e name id r)
    (after_id e.id id its others (first e name r) (after_refit (named name) (r.entry e.id) image)) in
    refits_hold (fronted (front_of name)) (ids_by_block (is_named_under e.name) image) here (third e name owner id r) (with_pairs e.id id m)
    (third_holds image r m e name owner id its others h t both)
    (may_steps image r m e name owner id its others h t both).fronts_may

pub turned_holds : (image : List ℕ) (s : State) (e : PrEntry) (name : List ℕ) (owner id : ℤ) → HoldsRecords image s
    → MayTurn e name owner id s.registry
    → HoldsRecords (after_turn e name owner id s image) (with_turned e name owner id s)
unfolding after_turn
turned_holds image s e name owner id holds may =
    let r = s.registry in
    let m = members_of s in
    let t = turnable image s e name owner id holds may in
    let both = both_told image s e name owner id holds may in
    let its = its_of image s e name in
    let others = elements s e.id in
    let groups = ids_by_block (is_named_under e.name) image in
    let some = not_empty image r m e holds may.0.there may.0.not_fixed in
    let valid = (third_holds image r m e name owner id its others holds t both).pairs.holds.valid in
    let bytes = after_steps e name owner id its others r image in
    let one : Holds bytes (turned_registry e name owner id r) (with_pairs e.id id m) =
    subst (λ (q : Registry). Holds bytes q (with_pairs e.id id m))
    (turned_is r e name owner id groups t valid (λ z. groups_are image r m e.name z some holds))
    (steps_hold image r m e name owner id its others holds t both) in
    subst (λ (n : Members). Holds bytes (turned_registry e name owner id r) n) (pairs_are e.id id s) one
