-- The image after an entry has another id holds the registry in which owners follow it, and the pairs with it.
use Rattle.std.proofs.Common.{◌≡◌, ◌≢◌, ℕ, ℤ, pos, Bool, true, false, ◌||◌, cond, List, [], ◌∷◌, map, reverse, Option, Some, None, IsSome, refl, sym, ap, subst, ◌∙◌, inl, inr}
use Rattle.std.specs.Prelude.{◌⊎◌, option_map, option_and_then}
use Rattle.std.specs.List.{AllByRecursion, list_any}
use Rattle.std.specs.Ordering.{int_eq}
use Rattle.std.proofs.lemmas.Bool.{false_from_ne_true}
use mathlib.Core.List.{reverse_aux}
use mathlib.Core.Path.{fun_ext}
use Rattle.prdb_layout.specs.Registry.{IsRegistry, Registry}
use Rattle.prdb_layout.specs.State.{PrEntry}
use Rattle.prdb_layout.proofs.Changed.{by_id}
use Rattle.entry_scans.specs.Lists.{IsListOf}
use Rattle.prdb_lists.specs.Members.{Members, are_paired}
use Rattle.prdb_lists.specs.Moves.{MayMove, before, moved_members, moved_registry, with_moved_id}
use Rattle.pt_service.specs.Turning.{moved}
use Rattle.prdb_finds.specs.Records.{Holds, whole}
use Rattle.prdb_members.specs.Moves.{after_move}
use Rattle.prdb_members.proofs.MoveEnds.{move_held}
use Rattle.prdb_turns.specs.Owners.{MayGive, after_gives, is_property, with_owner, with_owners}
use Rattle.prdb_turns.specs.Renumbering.{MayRenumber, after_renumber, moved_back, renumbered, with_new_id}
use Rattle.prdb_turns.proofs.Given.{all_given, gives_may, is_there, owners_are}
use Rattle.prdb_turns.proofs.Left.{disowned, its_there, left, left_at, left_holds, left_is, map_there, owns_nothing, still_there}
use Rattle.prdb_turns.proofs.Owned.{HasItsOwn, id_of, its_all, its_by, to_id}
use Rattle.prdb_turns.proofs.Refits.{refits_hold}

-- ---- ids that move

pub is_other : (a b : ℤ) → a ≢ b → int_eq a b ≡ false
is_other a b other = false_from_ne_true (int_eq a b) (λ same. other (id_of a b same))

pub moved_own : (old new x : ℤ) → x ≡ old → moved old new x ≡ new
moved_own old new x same = ap (λ (b : Bool). cond b new x) (to_id x old same)

pub moved_other : (old new x : ℤ) → x ≢ old → moved old new x ≡ x
moved_other old new x other = ap (λ (b : Bool). cond b new x) (is_other x old other)

pub before_new : (old new z : ℤ) → z ≡ new → before old new z ≡ Some old
before_new old new z same = ap (λ (b : Bool). cond b (Some old) (cond (int_eq z old) None (Some z))) (to_id z new same)

before_old : (old new z : ℤ) → z ≢ new → z ≡ old → before old new z ≡ None
before_old old new z other same =
    ap (λ (b : Bool). cond b (Some old) (cond (int_eq z old) None (Some z))) (is_other z new other)
    ∙ ap (λ (b : Bool). cond b None (Some z)) (to_id z old same)

before_other : (old new z : ℤ) → z ≢ new → z ≢ old → before old new z ≡ Some z
before_other old new z one two =
    ap (λ (b : Bool). cond b (Some old) (cond (int_eq z old) None (Some z))) (is_other z new one)
    ∙ ap (λ (b : Bool). cond b None (Some z)) (is_other z old two)

-- where an id came from
pub record CameFrom (old new z y : ℤ) : Type 0 where
  pub before_is : before old new z ≡ Some y
  pub place : ((z ≡ new) × (y ≡ old)) ⊎ ((z ≢ new) × (z ≢ old) × (y ≡ z))

abbrev pub Origin : (old new z : ℤ) → Type 0
Origin old new z = (before old new z ≡ None) ⊎ ((y : ℤ) × CameFrom old new z y)

pub origin : (old new z : ℤ) → Origin old new z
origin old new z =
    by_id z new
    (λ same. inr (old, record { before_is = before_new old new z same; place = inl (same, refl) }))
    (λ other.
    by_id z old
    (λ was. inl (before_old old new z other was))
    (λ apart. inr (z, record { before_is = before_other old new z other apart; place = inr (other, apart, refl) })))

-- an id that moved is in a list of moved ids where it was in the list
same_test : (old new z y x : ℤ) → CameFrom old new z y → x ≢ new → int_eq z (moved old new x) ≡ int_eq y x
same_test old new z y x came not_new =
    by_id x old
    (λ is.
    elim came.place [
      | inl own ↦ to_id z (moved old new x) (own.0 ∙ sym (moved_own old new x is)) ∙ sym (to_id y x (own.1 ∙ sym is))
      | inr other ↦ is_other z (moved old new x) (λ same. other.0 (same ∙ moved_own old new x is))
          ∙ sym (is_other y x (λ same. other.1 (sym other.2 ∙ same ∙ is)))
    ])
    (λ apart.
    elim came.place [
      | inl own ↦
          is_other z (moved old new x) (λ same. not_new (sym (moved_other old new x apart) ∙ sym same ∙ own.0))
          ∙ sym (is_other y x (λ same. apart (sym same ∙ own.1)))
      | inr other ↦ ap (int_eq z) (moved_other old new x apart) ∙ ap (λ (v : ℤ). int_eq v x) (sym other.2)
    ])

moved_in : (old new z y : ℤ) (xs : List ℤ) → CameFrom old new z y → AllByRecursion (λ x. x ≢ new) xs
    → list_any (int_eq z) (map (moved old new) xs) ≡ list_any (int_eq y) xs
moved_in old new z y [] came all = refl
moved_in old new z y (x ∷ xs) came all =
    ap (λ (b : Bool). b || list_any (int_eq z) (map (moved old new) xs)) (same_test old new z y x came all.0)
    ∙ ap (λ (b : Bool). int_eq y x || b) (moved_in old new z y xs came all.1)

-- ---- last to first

swap_three : (a b c : Bool) → (a || (b || c)) ≡ ((b || a) || c)
swap_three true true c = refl
swap_three true false c = refl
swap_three false true c = refl
swap_three false false c = refl

or_none : (b : Bool) → (b || false) ≡ b
or_none true = refl
or_none false = refl

any_onto : (z : ℤ) (xs ys : List ℤ) → list_any (int_eq z) (reverse_aux xs ys) ≡ (list_any (int_eq z) xs || list_any (int_eq z) ys)
any_onto z [] ys = refl
any_onto z (x ∷ xs) ys = any_onto z xs (x ∷ ys) ∙ swap_three (list_any (int_eq z) xs) (int_eq z x) (list_any (int_eq z) ys)

any_back : (z : ℤ) (xs : List ℤ) → list_any (int_eq z) (reverse xs) ≡ list_any (int_eq z) xs
any_back z xs = any_onto z xs [] ∙ or_none (list_any (int_eq z) xs)

all_onto : (P : ℤ → Type 0) (xs ys : List ℤ) → AllByRecursion P xs → AllByRecursion P ys → AllByRecursion P (reverse_aux xs ys)
all_onto P [] ys all also = also
all_onto P (x ∷ xs) ys all also = all_onto P xs (x ∷ ys) all.1 (all.0, also)

-- ---- while it moves

-- an image holds an entry that owns these and may have another id
pub record IsMoving (image : List ℕ) (r : Registry) (m : Members) (old new : ℤ) (its : List ℤ) : Type 0 where
  pub own : HasItsOwn image r m old its
  pub may : MayRenumber old new r

none_there : (o : Option PrEntry) → o ≡ None → IsSome o → ⊥
none_there None none some = absurd cc
none_there (Some f) none some = absurd cc

pub its_not_new : (image : List ℕ) (r : Registry) (m : Members) (old new : ℤ) (its : List ℤ) → IsMoving image r m old new its
    → AllByRecursion (λ x. x ≢ new) its
its_not_new image r m old new its t =
    its_all (λ x. x ≢ new) image r m old its t.own
    (λ x e at same. none_there (r.entry x) (ap r.entry same ∙ t.may.new_id) (is_there (r.entry x) e at))

pub may_move : (image : List ℕ) (r : Registry) (m : Members) (old new : ℤ) (its : List ℤ) → IsMoving image r m old new its
    → MayMove old new (left r its)
may_move image r m old new its t = record {
  there = still_there image r m old its t.own;
  new_id = left_at image r m old its new t.own ∙ ap (option_map (disowned old)) t.may.new_id;
  good = t.may.good;
  kind = t.may.kind;
  not_fixed = t.may.not_fixed;
  owns_nothing = λ other f at. owns_nothing image r m old its other f t.own at;
}

-- ---- the registry in the end

abbrev pub there : Registry → (old new : ℤ) → List ℤ → Registry
there r old new its = moved_registry old new (left r its)

pub there_at : (image : List ℕ) (r : Registry) (m : Members) (old new : ℤ) (its : List ℤ) (z y : ℤ) → IsMoving image r m old new its
    → before old new z ≡ Some y
    → (there r old new its).entry z ≡ option_map (with_moved_id old new) (option_map (disowned old) (r.entry y))
there_at image r m old new its z y t is =
    ap (λ (o : Option ℤ). option_map (with_moved_id old new) (option_and_then (left r its).entry o)) is
    ∙ ap (option_map (with_moved_id old new)) (left_at image r m old its y t.own)

pub there_none : (r : Registry) (old new : ℤ) (its : List ℤ) (z : ℤ) → before old new z ≡ None → (there r old new its).entry z ≡ None
there_none r old new its z is = ap (λ (o : Option ℤ). option_map (with_moved_id old new) (option_and_then (left r its).entry o)) is

given_none : (b : Bool) (owner : ℤ) → cond b (option_map (with_owner owner) None) None ≡ None
given_none true owner = refl
given_none false owner = refl

own_by : (old new : ℤ) (f : PrEntry) (b : Bool) → int_eq f.owner old ≡ b
    → cond b (Some (with_owner new (with_moved_id old new (disowned old f)))) (Some (with_moved_id old new (disowned old f)))
    ≡ Some (with_new_id old new f)
own_by old new f true is =
    ap (λ (t : Bool). Some (with_owner new (with_moved_id old new (cond t (with_owner (pos 0) f) f)))) is
    ∙ ap (λ (t : Bool). Some (record f { id = moved old new f.id; owner = cond t new f.owner })) (sym is)
own_by old new f false is =
    ap (λ (t : Bool). Some (with_moved_id old new (cond t (with_owner (pos 0) f) f))) is
    ∙ ap (λ (t : Bool). Some (record f { id = moved old new f.id; owner = cond t new f.owner })) (sym is)

given_some : (old new : ℤ) (f : PrEntry) (b : Bool) → int_eq f.owner old ≡ b
    → cond b (option_map (with_owner new) (Some (with_moved_id old new (disowned old f))))
    (Some (with_moved_id old new (disowned old f))) ≡ Some (with_new_id old new f)
given_some old new f true is = own_by old new f true is
given_some old new f false is = own_by old new f false is

given_by : (old new : ℤ) (o : Option PrEntry) (b : Bool) → is_property old o ≡ b
    → cond b (option_map (with_owner new) (option_map (with_moved_id old new) (option_map (disowned old) o)))
    (option_map (with_moved_id old new) (option_map (disowned old) o)) ≡ option_map (with_new_id old new) o
given_by old new None b is = given_none b new
given_by old new (Some f) b is = given_some old new f b is

-- what is given last to first is given to the same ones
in_back : (image : List ℕ) (r : Registry) (m : Members) (old new : ℤ) (its : List ℤ) (z y : ℤ) → IsMoving image r m old new its
    → CameFrom old new z y → list_any (int_eq z) (moved_back old new its) ≡ is_property old (r.entry y)
in_back image r m old new its z y t came =
    any_back z (map (moved old new) its) ∙ moved_in old new z y its came (its_not_new image r m old new its t)
    ∙ its_by image r m old its y (is_property old (r.entry y)) t.own refl

end_each : (image : List ℕ) (r : Registry) (m : Members) (old new : ℤ) (its : List ℤ) (z : ℤ) → IsMoving image r m old new its
    → (all_given new (moved_back old new its) (there r old new its)).entry z ≡ (renumbered old new r).entry z
end_each image r m old new its z t =
    elim (origin old new z) [
      | inl none ↦
          ap (λ (o : Option PrEntry). cond (list_any (int_eq z) (moved_back old new its)) (option_map (with_owner new) o) o)
          (there_none r old new its z none)
          ∙ given_none (list_any (int_eq z) (moved_back old new its)) new
          ∙ sym (ap (λ (o : Option ℤ). option_map (with_new_id old new) (option_and_then r.entry o)) none)
      | inr some ↦
          let y = some.0 in
          let came = some.1 in
          ap (λ (b : Bool). cond b (option_map (with_owner new) ((there r old new its).entry z)) ((there r old new its).entry z))
          (in_back image r m old new its z y t came)
          ∙ ap (λ (o : Option PrEntry). cond (is_property old (r.entry y)) (option_map (with_owner new) o) o)
          (there_at image r m old new its z y t came.before_is)
          ∙ given_by old new (r.entry y) (is_property old (r.entry y)) refl
          ∙ sym (ap (λ (o : Option ℤ). option_map (with_new_id old new) (option_and_then r.entry o)) came.before_is)
    ]

same_maxima : (image : List ℕ) (r : Registry) (m : Members) (old new : ℤ) (its : List ℤ) → IsMoving image r m old new its
    → there r old new its ≡ record (moved_registry old new r) { entry = (there r old new its).entry }
same_maxima image r m old new its t =
    ap (λ (q : Registry). record q { entry = (there r old new its).entry })
    (ap (moved_registry old new) (left_is image r m old its t.own))

-- ---- the last step may be made

pub there_some : (image : List ℕ) (r : Registry) (m : Members) (old new : ℤ) (its : List ℤ) (z y : ℤ) → IsMoving image r m old new its
    → before old new z ≡ Some y → IsSome (r.entry y) → IsSome ((there r old new its).entry z)
there_some image r m old new its z y t is some =
    subst (λ (o : Option PrEntry). IsSome o) (sym (there_at image r m old new its z y t is))
    (map_there (with_moved_id old new) (option_map (disowned old) (r.entry y)) (map_there (disowned old) (r.entry y) some))

-- where an id went
pub went : (old new x : ℤ) → x ≢ new → before old new (moved old new x) ≡ Some x
went old new x not_new =
    by_id x old
    (λ is. before_new old new (moved old new x) (moved_own old new x is) ∙ ap Some (sym is))
    (λ apart. ap (before old new) (moved_other old new x apart) ∙ before_other old new x not_new apart)

moved_there : (image : List ℕ) (r : Registry) (m : Members) (old new : ℤ) (its xs : List ℤ) → IsMoving image r m old new its
    → AllByRecursion (λ x. x ≢ new) xs → AllByRecursion (λ x. IsSome (r.entry x)) xs
    → AllByRecursion (λ x. IsSome ((there r old new its).entry x)) (map (moved old new) xs)
moved_there image r m old new its [] t apart some = tt
moved_there image r m old new its (x ∷ xs) t apart some = (
  there_some image r m old new its (moved old new x) x t (went old new x apart.0) some.0,
  moved_there image r m old new its xs t apart.1 some.1,
)

pub may_come : (image : List ℕ) (r : Registry) (m : Members) (old new : ℤ) (its : List ℤ) → IsMoving image r m old new its
    → MayGive (moved_back old new its) new (there r old new its)
may_come image r m old new its t = record {
  there = all_onto (λ x. IsSome ((there r old new its).entry x)) (map (moved old new) its) []
      (moved_there image r m old new its its t (its_not_new image r m old new its t) (its_there image r m old its t.own)) tt;
  owner_there = inr (there_some image r m old new its new old t (before_new old new new refl) t.may.there);
}

-- ---- the image

-- what is left by the first step, and by the second
pub record IsBetween (image : List ℕ) (r : Registry) (m : Members) (old new : ℤ) (its others : List ℤ) : Type 0 where
  pub left_holds : Holds (after_gives (pos 0) its r image) (left r its) m
  pub gone_holds : Holds (after_move old new others (after_gives (pos 0) its r image)) (there r old new its) (moved_members old new m)

pub between : (image : List ℕ) (r : Registry) (m : Members) (old new : ℤ) (its others : List ℤ) → IsMoving image r m old new its
    → IsListOf (λ other. are_paired m old other ≡ true) others → IsBetween image r m old new its others
between image r m old new its others t list =
    let given = after_gives (pos 0) its r image in
    let one = left_holds image r m old its t.own in
    record {
      left_holds = one;
      gone_holds = move_held given (left r its) m old new others one (may_move image r m old new its t) list;
    }

pub end_is : (image : List ℕ) (r : Registry) (m : Members) (old new : ℤ) (its : List ℤ) → IsMoving image r m old new its
    → IsRegistry (there r old new its) → with_owners new (moved_back old new its) (there r old new its) ≡ renumbered old new r
end_is image r m old new its t valid =
    owners_are new (moved_back old new its) (there r old new its) (record { valid = valid; may = may_come image r m old new its t })
    ∙ ap (λ (f : ℤ → Option PrEntry). record (there r old new its) { entry = f }) (fun_ext (λ (z : ℤ). end_each image r m old new its z t))
    ∙ ap (λ (q : Registry). record q { entry = (renumbered old new r).entry }) (same_maxima image r m old new its t)

pub renumber_keeps : (image : List ℕ) (r : Registry) (m : Members) (old new : ℤ) (its others : List ℤ)
    → IsMoving (whole image) r m old new its → IsListOf (λ other. are_paired m old other ≡ true) others
    → Holds (after_renumber old new its others r image) (renumbered old new r) (moved_members old new m)
unfolding after_renumber
renumber_keeps image r m old new its others t list =
    let w = whole image in
    let b = between w r m old new its others t list in
    let valid = b.gone_holds.pairs.holds.valid in
    let here = after_move old new others (after_gives (pos 0) its r w) in
    let held = refits_hold (with_owner new) (moved_back old new its) here (there r old new its) (moved_members old new m) b.gone_holds
    (gives_may new (moved_back old new its) (there r old new its) (record { valid = valid; may = may_come w r m old new its t })) in
    subst (λ (q : Registry). Holds (after_gives new (moved_back old new its) (there r old new its) here) q (moved_members old new m))
    (end_is w r m old new its t valid) held
