-- A turn that the rules admit may be made step by step.
use Rattle.std.proofs.Common.{◌≡◌, ◌≢◌, ℕ, ℤ, pos, ◌<◌, Bool, true, false, List, [], ◌∷◌, ◌++◌, get_or, length, Option, Some, None, IsSome, refl, sym, ap, subst, ◌∙◌, ⊎_elim, inl, inr, arith}
use Rattle.std.specs.Prelude.{IsSomeAnd, option_map}
use Rattle.std.specs.Ordering.{int_eq}
use Rattle.std.proofs.lemmas.List.Folds.{list_any_at}
use Rattle.prdb_layout.specs.Registry.{Registry, IsOwner, IsRegistry, behind_colon, with_entry}
use Rattle.prdb_layout.specs.State.{PrEntry, fixed_entries, front_of}
use Rattle.prdb_layout.proofs.Changed.{by_id}
use Rattle.entry_scans.specs.Lists.{IsListOf}
use Rattle.prdb_lists.specs.Members.{Members, are_paired}
use Rattle.prdb_finds.specs.Records.{Holds, whole}
use Rattle.pt_service.specs.Turning.{is_fixed, moved, name_after}
use Rattle.pt_service.proofs.Refitted.{some_with}
use Rattle.prdb_turns.specs.Fronts.{MayFronts, ids_by_block}
use Rattle.prdb_turns.specs.Owners.{AreItsOwn, MayGive, after_gives, with_owner}
use Rattle.prdb_turns.specs.Refits.{MayRefit, MayRefits, after_refit}
use Rattle.prdb_turns.specs.Renumbering.{with_new_id}
use Rattle.prdb_turns.specs.Turning.{MayId, MayTurn as MaySteps, after_id, first, is_under as is_named_under, named, second, third, with_pairs}
use Rattle.prdb_turns.proofs.Given.{gives_may}
use Rattle.prdb_turns.proofs.Refits.{refit_holds, refits_hold}
use Rattle.prdb_turns.proofs.Steps.{whole_holds}
use Rattle.prdb_turns.proofs.Turned.{id_law}
use Rattle.pt_looks.proofs.Pairs.{is_there}
use Rattle.pt_changes.specs.Turning.{MayRenumber, its_in}
use Rattle.pt_changes.proofs.Owned.{its_told}
use Rattle.pt_turns.specs.Under.{is_one_under, is_under}
use Rattle.pt_turns.proofs.Between.{first_other, first_own, moved_entry, second_other, second_own}
use Rattle.pt_turns.proofs.Fronted.{may_fronts}
use Rattle.pt_turns.proofs.Fronts.{parts_of}
use Rattle.pt_turns.proofs.Grouped.{groups_under, not_empty}
use Rattle.pt_turns.proofs.Moved.{below_is, is_other, moved_other, moved_own, not_zero}
use Rattle.pt_turns.proofs.Named.{IsTurning, after_by, after_own, clash, names_apart, own_at, record_with, to_id, under_parts}
use Rattle.pt_turns.proofs.Turnable.{IsTurnable, fronting, new_apart, not_fixed, turning}

-- ---- its name

-- an entry that has the name keeps it, also where it is named after the one that gets it
keeps_by : (e : PrEntry) (name : List ℕ) (g : PrEntry) (b : Bool) → int_eq g.id e.id ≡ false → is_under e.name g.name ≡ b → g.name ≡ name
    → name_after e name g ≡ name
keeps_by e name g true other is same =
    after_by e name g false true other is ∙ ap (λ (n : List ℕ). front_of n ++ 58 ∷ behind_colon g.name) (sym same)
    ∙ sym (parts_of g.name (under_parts e.name g.name is).0) ∙ same
keeps_by e name g false other is same = after_by e name g false false other is ∙ same

-- so no other one has it
own_name : (r : Registry) (e : PrEntry) (name : List ℕ) (owner z : ℤ) (g : PrEntry) → IsTurning r e name owner → r.entry z ≡ Some g
    → g.name ≡ name → z ≡ e.id
own_name r e name owner z g t at same =
    by_id z e.id (λ own. own)
    (λ other.
    let id_of_g = t.valid.ids z g at in
    let apart = is_other g.id e.id (λ is. other (sym id_of_g ∙ is)) in
    sym id_of_g ∙ names_apart r e name owner g e t (own_at r z g t.valid at) t.may.there
    (keeps_by e name g (is_under e.name g.name) apart refl same ∙ sym (after_own e name)))

owner_with : (r : Registry) (e : PrEntry) (owner : ℤ) → IsOwner r.entry owner → IsOwner (with_entry e r).entry owner
owner_with r e owner there = ⊎_elim (λ none. inl none) (λ some. inr (some_with r e owner some)) there

may_name : (r : Registry) (e : PrEntry) (name : List ℕ) (owner : ℤ) → IsTurning r e name owner → MayRefit (named name) r e
may_name r e name owner t = (
  record_with e name (t.valid.records e.id e t.may.there) t.may.good,
  record {
    there = is_there (r.entry e.id) e t.may.there;
    same_id = refl;
    name = λ other g at same. own_name r e name owner other g t at same;
    fixed = λ k d below same.
        absurd (clash (is_fixed e.id)
        (list_any_at (λ (h : PrEntry). int_eq h.id e.id) fixed_entries k d below (to_id (get_or fixed_entries k d).id e.id same))
        t.may.not_fixed);
    among = record {
      owner = owner_with r (named name e) e.owner (t.valid.among e.id e t.may.there).owner;
      creator = (t.valid.among e.id e t.may.there).creator;
    };
  },
)

-- ---- its id

may_id : (r : Registry) (e : PrEntry) (name : List ℕ) (owner id : ℤ) → IsTurnable r e name owner id → MayId e.id id (first e name r)
may_id r e name owner id t =
    let own = t.may.0.there in
    ⊎_elim (λ (same : id ≡ e.id). inl same)
    (λ (new : MayRenumber e.id id r). inr (record {
      there = is_there ((first e name r).entry e.id) (named name e) (first_own r e name own);
      not_fixed = not_fixed e.id new.not_fixed;
      good = new.good;
      kind = below_is id ∙ new.kind ∙ sym (below_is e.id);
      new_id = first_other r e name id own (new_apart r e.id id new) ∙ new.new_id;
    }))
    t.may.1

-- ---- its owner

map_there : {X Y : Type 0} (f : X → Y) (o : Option X) → IsSome o → IsSome (option_map f o)
map_there f None is = absurd cc
map_there f (Some x) is = refl

none_there : (o : Option PrEntry) → o ≡ None → IsSome o → ⊥
none_there None none some = absurd cc
none_there (Some f) none some = absurd cc

-- no entry has the new id but this one
not_new : (r : Registry) (e : PrEntry) (name : List ℕ) (owner id z : ℤ) → IsTurnable r e name owner id → IsSome (r.entry z) → z ≢ e.id
    → z ≢ id
not_new r e name owner id z t some other same =
    ⊎_elim (λ (kept : id ≡ e.id). other (same ∙ kept))
    (λ (new : MayRenumber e.id id r). none_there (r.entry z) (ap r.entry same ∙ new.new_id) some) t.may.1

owner_some : (r : Registry) (e : PrEntry) (name : List ℕ) (owner id : ℤ) → IsTurnable r e name owner id → IsSome (r.entry owner)
    → IsSome ((second e name id r).entry (moved e.id id owner))
owner_some r e name owner id t some =
    let own = t.may.0.there in
    let q = second e name id r in
    by_id owner e.id
    (λ same. is_there (q.entry (moved e.id id owner)) (moved_entry e name id)
    (ap q.entry (moved_own e.id id owner same) ∙ second_own r e name id own))
    (λ other.
    let at = ap q.entry (moved_other e.id id owner other)
    ∙ second_other r e name id owner own (not_new r e name owner id owner t some other) other in
    subst (λ (o : Option PrEntry). IsSome o) (sym at) (map_there (with_new_id e.id id) (r.entry owner) some))

may_owner : (r : Registry) (e : PrEntry) (name : List ℕ) (owner id : ℤ) → IsTurnable r e name owner id
    → MayGive (id ∷ []) (moved e.id id owner) (second e name id r)
may_owner r e name owner id t =
    let own = t.may.0.there in
    let zero = not_zero e.id (t.valid.records e.id e own).fields.id in
    record {
      there = (is_there ((second e name id r).entry id) (moved_entry e name id) (second_own r e name id own), tt);
      owner_there =
          ⊎_elim
          (λ (none : owner ≡ pos 0). inl (moved_other e.id id owner (λ same. zero (sym same ∙ none)) ∙ none))
          (λ (some : IsSome (r.entry owner)). inr (owner_some r e name owner id t some)) t.may.0.owner_there;
    }

-- ---- the image that holds it with its name, its id and its owner

pub with_name : (r : Registry) (e : PrEntry) (name : List ℕ) (owner id : ℤ) → IsTurnable r e name owner id
    → MayRefits (named name) (e.id ∷ []) r
with_name r e name owner id t = (
  subst (λ (o : Option PrEntry). IsSomeAnd o (MayRefit (named name) r)) (sym t.may.0.there)
      (may_name r e name owner (turning r e name owner id t)),
  tt,
)

-- what the entry owns once it has its name, and what it is paired with
pub record HasBoth (image : List ℕ) (r : Registry) (m : Members) (e : PrEntry) (name : List ℕ) (its others : List ℤ) : Type 0 where
  pub own : AreItsOwn (whole (after_refit (named name) (r.entry e.id) image)) (first e name r) e.id its
  pub list : IsListOf (λ other. are_paired m e.id other ≡ true) others

pub first_holds : (image : List ℕ) (r : Registry) (m : Members) (e : PrEntry) (name : List ℕ) (owner id : ℤ) → Holds image r m
    → IsTurnable r e name owner id → Holds (after_refit (named name) (r.entry e.id) image) (first e name r) m
first_holds image r m e name owner id h t = refit_holds (named name) e.id image r m h (with_name r e name owner id t).0

pub third_holds : (image : List ℕ) (r : Registry) (m : Members) (e : PrEntry) (name : List ℕ) (owner id : ℤ) (its others : List ℤ)
    → Holds image r m → IsTurnable r e name owner id → HasBoth image r m e name its others
    → Holds
    (after_gives (moved e.id id owner) (id ∷ []) (second e name id r)
    (after_id e.id id its others (first e name r) (after_refit (named name) (r.entry e.id) image)))
    (third e name owner id r) (with_pairs e.id id m)
third_holds image r m e name owner id its others h t both =
    let one = after_refit (named name) (r.entry e.id) image in
    let here = after_id e.id id its others (first e name r) one in
    let two = id_law one (first e name r) m e.id id its others (first_holds image r m e name owner id h t)
    (may_id r e name owner id t) both.own both.list in
    refits_hold (with_owner (moved e.id id owner)) (id ∷ []) here (second e name id r) (with_pairs e.id id m) two
    (gives_may (moved e.id id owner) (id ∷ []) (second e name id r)
    (record { valid = two.pairs.holds.valid; may = may_owner r e name owner id t }))

whole_some : (image : List ℕ) (r : Registry) (m : Members) → Holds image r m → 0 < length (whole image)
whole_some image r m h = omega (arith, h.size)

-- what it owns is told by the image
pub its_are : (image : List ℕ) (r : Registry) (m : Members) (e : PrEntry) (name : List ℕ) (owner id : ℤ) → Holds image r m
    → IsTurnable r e name owner id
    → AreItsOwn (whole (after_refit (named name) (r.entry e.id) image)) (first e name r) e.id
    (its_in (whole (after_refit (named name) (r.entry e.id) image)) (first e name r) e.id)
its_are image r m e name owner id h t =
    let one = after_refit (named name) (r.entry e.id) image in
    let held = first_holds image r m e name owner id h t in
    its_told (whole one) (first e name r) m e.id (whole_holds one (first e name r) m held)
    (is_there ((first e name r).entry e.id) (named name e) (first_own r e name t.may.0.there)) (whole_some one (first e name r) m held)

-- ---- all steps

may_groups : (image : List ℕ) (r : Registry) (m : Members) (e : PrEntry) (name : List ℕ) (owner id : ℤ) → Holds image r m
    → IsTurnable r e name owner id → IsRegistry (third e name owner id r)
    → MayFronts (front_of name) (ids_by_block (is_named_under e.name) image) (third e name owner id r)
may_groups image r m e name owner id h t valid =
    let q = third e name owner id r in
    may_fronts q q e.name (front_of name) (λ z. is_one_under e.name (r.entry z)) (ids_by_block (is_named_under e.name) image)
    (fronting r e name owner id t valid) (λ z. inl refl)
    (groups_under image r m e.name (not_empty image r m e h t.may.0.there t.may.0.not_fixed) h)

pub may_steps : (image : List ℕ) (r : Registry) (m : Members) (e : PrEntry) (name : List ℕ) (owner id : ℤ) (its others : List ℤ)
    → Holds image r m → IsTurnable r e name owner id → HasBoth image r m e name its others
    → MaySteps e name owner id (ids_by_block (is_named_under e.name) image) r
may_steps image r m e name owner id its others h t both = record {
  there = t.may.0.there;
  name_may = may_name r e name owner (turning r e name owner id t);
  id_may = may_id r e name owner id t;
  owner_may = may_owner r e name owner id t;
  fronts_may = may_groups image r m e name owner id h t (third_holds image r m e name owner id its others h t both).pairs.holds.valid;
}
