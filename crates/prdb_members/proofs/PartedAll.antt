-- All pairs of an entry less: its own list is empty, and then its id goes out of the lists of the others.
use Rattle.std.proofs.Common.{◌≡◌, ◌≢◌, true, false, Bool, not, ◌&&◌, ℕ, ℤ, zero, suc, List, [], ◌∷◌, IsSome, refl, sym, ap, subst, ◌∙◌, inl, inr, arith}
use Rattle.std.specs.List.{Contains}
use Rattle.std.specs.Ordering.{int_eq}
use Rattle.std.proofs.lemmas.Bool.Decides.{Decides-int_eq}
use Rattle.db_blocks.specs.Blocks.{IsWhole}
use Rattle.prdb_layout.specs.Records.{block_in}
use Rattle.prdb_layout.specs.Registry.{Registry}
use Rattle.prdb_layout.proofs.Changed.{by_id}
use Rattle.entry_scans.specs.Lists.{IsAscending, IsListOf}
use Rattle.prdb_lists.specs.Changes.{lost as plain_lost}
use Rattle.prdb_lists.specs.Layout.{HoldsPairs, PairList}
use Rattle.prdb_lists.specs.Lists.{ids_without}
use Rattle.prdb_lists.specs.Members.{ArePairs, Members, are_paired}
use Rattle.prdb_lists.specs.Sides.{HoldsLists as HoldsPlain, IsRelisted, set_list}
use Rattle.prdb_lists.proofs.Ascending.{ascending_right}
use Rattle.prdb_lists.proofs.Both.{either, not_both, other_there, pairs_of, turned}
use Rattle.prdb_lists.proofs.Gains.{lose as plain_lose}
use Rattle.prdb_lists.proofs.Ids.{IsWithout, ids_without-members}
use Rattle.prdb_lists.proofs.MovedIds.{in_tail, not_again}
use Rattle.prdb_lists.proofs.RecordsKeep.{int_other, or_left, or_right}
use Rattle.prdb_lists.proofs.Side.{set_other, set_same}
use Rattle.prdb_finds.specs.Records.{AreChains, Holds, whole}
use Rattle.prdb_finds.specs.Unchained.{unchained}
use Rattle.prdb_finds.proofs.Told.{whole_same}
use Rattle.prdb_members.specs.Changes.{after_parts, lost, no_ids, without_id, without_id_in, without_ids}
use Rattle.prdb_members.specs.Ends.{without_pairs_of}
use Rattle.prdb_members.specs.Sides.{CanLose, HasEntry, HasLists, HoldsLists}
use Rattle.prdb_members.proofs.Costs.{whole_pair}
use Rattle.prdb_members.proofs.Emptied.{empty}
use Rattle.prdb_members.proofs.Gains.{IsSide}
use Rattle.prdb_members.proofs.Joined.{lists_then}
use Rattle.prdb_members.proofs.Listed.{lists_of, place_of, stands_plain}
use Rattle.prdb_members.proofs.Losses.{lose, lost_is}

-- ---- the id goes out of one list

record IsTaken (new : List ℕ) (r : Registry) (lists : ℤ → PairList) (x id : ℤ) : Type 0 where
  list : PairList
  ids : list.ids ≡ ids_without id (lists x).ids
  holds : HoldsLists new r (set_list x list lists)

take_one : (image : List ℕ) (r : Registry) (lists : ℤ → PairList) (x id : ℤ) → HoldsLists image r lists → IsSome (r.entry x)
    → Contains (lists x).ids id → IsTaken (without_id x id image) r lists x id
take_one image r lists x id h there has =
    let p = place_of image r lists x h.has there in
    let u = unchained image in
    let ids = ids_without id (lists x).ids in
    let plain : HoldsPlain u r lists = record { has = h.has.without; members = h.members } in
    let new = lost p.k x (block_in image p.k) (lists x) id image in
    let plain_new = plain_lost p.k x (block_in u p.k) (lists x) id u in
    let s : IsRelisted u plain_new 0 r lists p.k x ids =
    plain_lose u r lists x id p.k plain (stands_plain image x p.k h.has.size p.at) there has in
    let side : IsSide image new plain_new p.k = lose image r lists x id p.k h.has p.at there has in
    let made : IsTaken new r lists x id = record {
      list = s.list;
      ids = s.has;
      holds = record { has = lists_then image new plain_new r lists p.k 0 x ids side s; members = s.holds.members };
    } in
    subst (λ (i : List ℕ). IsTaken i r lists x id) (sym (lost_is image r lists x id p.k h.has p.at)) made

-- ---- and out of the lists of these entries

record AreTaken (new : List ℕ) (r : Registry) (lists : ℤ → PairList) (xs : List ℤ) (id : ℤ) : Type 0 where
  now : ℤ → PairList
  holds : HoldsLists new r now
  was : (y z : ℤ) → Contains (now y).ids z → Contains (lists y).ids z × (Contains xs y → z ≢ id)
  stays : (y z : ℤ) → Contains (lists y).ids z → z ≢ id → Contains (now y).ids z

past : (x : ℤ) (xs : List ℤ) (y : ℤ) → x ≢ y → Contains (x ∷ xs) y → Contains xs y
past x xs y other (zero, below, is) = absurd (other is)
past x xs y other (suc k, below, is) = (k, omega arith, is)

taken_was : (lists : ℤ → PairList) (l : PairList) (x id : ℤ) (xs : List ℤ) (y z : ℤ) → l.ids ≡ ids_without id (lists x).ids
    → Contains (set_list x l lists y).ids z → (Contains xs y → z ≢ id)
    → Contains (lists y).ids z × (Contains (x ∷ xs) y → z ≢ id)
unfolding IsWithout
taken_was lists l x id xs y z is has apart =
    by_id y x
    (λ same.
    let in_x : Contains (ids_without id (lists x).ids) z =
    subst (λ (ids : List ℤ). Contains ids z) (ap (λ (m : PairList). m.ids) (set_same x y l lists same) ∙ is) has in
    let both = (ids_without-members id (lists x).ids z).0 in_x in
    (subst (λ (v : ℤ). Contains (lists v).ids z) (sym same) both.1, λ among. both.0))
    (λ differs. (
      subst (λ (m : PairList). Contains m.ids z) (set_other x y l lists differs) has,
      λ among. apart (past x xs y (λ same. differs (sym same)) among),
    ))

taken_stays : (lists : ℤ → PairList) (l : PairList) (x id y z : ℤ) → l.ids ≡ ids_without id (lists x).ids
    → Contains (lists y).ids z → z ≢ id → Contains (set_list x l lists y).ids z
unfolding IsWithout
taken_stays lists l x id y z is has other =
    by_id y x
    (λ same.
    subst (λ (ids : List ℤ). Contains ids z) (sym (ap (λ (m : PairList). m.ids) (set_same x y l lists same) ∙ is))
    ((ids_without-members id (lists x).ids z).1 other (subst (λ (v : ℤ). Contains (lists v).ids z) same has)))
    (λ differs. subst (λ (m : PairList). Contains m.ids z) (sym (set_other x y l lists differs)) has)

take_each : (xs : List ℤ) (image : List ℕ) (r : Registry) (lists : ℤ → PairList) (id : ℤ) → HoldsLists image r lists
    → IsSome (r.entry id) → IsAscending xs → ((x : ℤ) → Contains xs x → IsSome (r.entry x) × Contains (lists x).ids id)
    → AreTaken (without_id_in xs id image) r lists xs id × CanLose id xs image
take_each [] image r lists id h there rises are = (
  record {
    now = lists;
    holds = h;
    was = λ y z has. (has, λ among. absurd (omega (arith, among.1)));
    stays = λ y z has other. has;
  },
  tt,
)
take_each (x ∷ xs) image r lists id h there rises are =
    let here = are x (0, omega arith, refl) in
    let one : IsTaken (without_id x id image) r lists x id = take_one image r lists x id h here.0 here.1 in
    let next = set_list x one.list lists in
    let rest = take_each xs (without_id x id image) r next id one.holds there (ascending_right (x ∷ []) xs rises)
    (λ y has.
    let other : y ≢ x = λ same. not_again x xs rises (subst (λ (z : ℤ). Contains xs z) same has) in
    let stood : next y ≡ lists y = set_other x y one.list lists other in
    let was = are y (in_tail x xs y has) in
    (was.0, subst (λ (l : PairList). Contains l.ids id) (sym stood) was.1)) in (
      record {
        now = rest.0.now;
        holds = rest.0.holds;
        was = λ y z has.
            let m = rest.0.was y z has in
            taken_was lists one.list x id xs y z one.ids m.0 m.1;
        stays = λ y z has other. rest.0.stays y z (taken_stays lists one.list x id y z one.ids has other) other;
      },
      ((r, lists, h, here.0, there, here.1), rest.1),
    )

-- ---- what pairs are left

parts_three : (a b h : Bool) → (not a && not b && h) ≡ true → (a ≡ false) × (b ≡ false) × (h ≡ true)
parts_three true b h is = absurd cc
parts_three false true h is = absurd cc
parts_three false false h is = (refl, refl, is)

from_three : (a b h : Bool) → a ≡ false → b ≡ false → h ≡ true → (not a && not b && h) ≡ true
from_three true b h one two is = absurd cc
from_three false true h one two is = absurd cc
from_three false false h one two is = is

not_same : (a b : ℤ) → int_eq a b ≡ false → a ≢ b
not_same a b is same = let yes = (Decides-int_eq a b).1 same in cc

left_was : (m : Members) (id a b : ℤ) → (without_pairs_of id m).has a b ≡ true → (a ≢ id) × (b ≢ id) × (m.has a b ≡ true)
left_was m id a b is =
    let p = parts_three (int_eq a id) (int_eq b id) (m.has a b) is in (not_same a id p.0, not_same b id p.1, p.2)

left_still : (m : Members) (id a b : ℤ) → a ≢ id → b ≢ id → m.has a b ≡ true → (without_pairs_of id m).has a b ≡ true
left_still m id a b one two is = from_three (int_eq a id) (int_eq b id) (m.has a b) (int_other a id one) (int_other b id two) is

paired_was : (m : Members) (id y z : ℤ) → are_paired (without_pairs_of id m) y z ≡ true
    → (y ≢ id) × (z ≢ id) × (are_paired m y z ≡ true)
paired_was m id y z is = elim (either ((without_pairs_of id m).has y z) ((without_pairs_of id m).has z y) is) [
  | inl one ↦ let p = left_was m id y z one in (p.0, p.1, or_left (m.has y z) (m.has z y) p.2)
  | inr other ↦ let p = left_was m id z y other in (p.1, p.0, or_right (m.has y z) (m.has z y) p.2)
]

paired_still : (m : Members) (id y z : ℤ) → y ≢ id → z ≢ id → are_paired m y z ≡ true → are_paired (without_pairs_of id m) y z ≡ true
paired_still m id y z first second is = elim (either (m.has y z) (m.has z y) is) [
  | inl one ↦
      or_left ((without_pairs_of id m).has y z) ((without_pairs_of id m).has z y) (left_still m id y z first second one)
  | inr other ↦
      or_right ((without_pairs_of id m).has y z) ((without_pairs_of id m).has z y) (left_still m id z y second first other)
]

left_valid : (r : Registry) (m : Members) (id : ℤ) → ArePairs r m → ArePairs r (without_pairs_of id m)
left_valid r m id valid a b is = valid a b (left_was m id a b is).2

-- no id is paired with itself
not_own : (r : Registry) (m : Members) (id : ℤ) → ArePairs r m → are_paired m id id ≡ true → ⊥
not_own r m id valid is = elim (either (m.has id id) (m.has id id) is) [
  | inl one ↦ let v = valid id id one in not_both id v.0 v.1
  | inr other ↦ let v = valid id id other in not_both id v.0 v.1
]

-- ---- an entry that is in pairs

-- what the image is before its pairs go, and what holds of the steps
record HasParts (image : List ℕ) (r : Registry) (m : Members) (id : ℤ) (others : List ℤ) : Type 0 where
  lists : ℤ → PairList
  holds : HoldsLists image r lists
  each : (y : ℤ) → IsSome (r.entry y) → (z : ℤ) → Contains (lists y).ids z → are_paired m y z ≡ true
  all : (y : ℤ) → IsSome (r.entry y) → (z : ℤ) → are_paired m y z ≡ true → Contains (lists y).ids z
  there : IsSome (r.entry id)
  apart : (y : ℤ) → Contains others y → y ≢ id

whole_paired : (image : List ℕ) (r : Registry) (m : Members) (x y : ℤ) → Holds image r m → are_paired m x y ≡ true → whole image ≡ image
whole_paired image r m x y h is = elim (either (m.has x y) (m.has y x) is) [
  | inl one ↦ whole_pair image r m x y h one
  | inr other ↦ whole_pair image r m y x h other
]

has_parts : (image : List ℕ) (r : Registry) (m : Members) (id x : ℤ) (xs : List ℤ) → Holds image r m
    → IsListOf (λ other. are_paired m id other ≡ true) (x ∷ xs) → HasParts image r m id (x ∷ xs)
has_parts image r m id x xs h list =
    let paired : are_paired m id x ≡ true = list.each x (0, omega arith, refl) in
    let is : whole image ≡ image = whole_paired image r m id x h paired in
    let valid = h.pairs.valid in record {
      lists = h.pairs.lists;
      holds = record {
        has = subst (λ (i : List ℕ). HasLists i r h.pairs.lists) is (lists_of image r m h);
        members = λ y there z has. other_there r m valid y z (h.pairs.each y there z has);
      };
      each = h.pairs.each;
      all = h.pairs.all;
      there = other_there r m valid x id (turned m id x paired);
      apart = λ y has same. not_own r m id valid (subst (λ (z : ℤ). are_paired m id z ≡ true) same (list.each y has));
    }

pub entry_of : (image : List ℕ) (r : Registry) (m : Members) (id x : ℤ) (xs : List ℤ) → Holds image r m
    → IsListOf (λ other. are_paired m id other ≡ true) (x ∷ xs) → HasEntry id image
entry_of image r m id x xs h list =
    let p = has_parts image r m id x xs h list in (r, p.lists, p.holds.has, p.there)

-- after both steps
taken : (image : List ℕ) (r : Registry) (m : Members) (id : ℤ) (others : List ℤ) (p : HasParts image r m id others) → ArePairs r m
    → IsListOf (λ other. are_paired m id other ≡ true) others
    → AreTaken (without_id_in others id (without_ids id image)) r (set_list id no_ids p.lists) others id
    × CanLose id others (without_ids id image)
taken image r m id others p valid list =
    let at = place_of image r p.lists id p.holds.has p.there in
    let lists = set_list id no_ids p.lists in
    let empty_now : HoldsLists (without_ids id image) r lists = empty image r p.lists id at.k p.holds at.at p.there in
    take_each others (without_ids id image) r lists id empty_now p.there list.ascending
    (λ y has.
    let paired = list.each y has in
    let there : IsSome (r.entry y) = other_there r m valid id y paired in (
      there,
      subst (λ (l : PairList). Contains l.ids id) (sym (set_other id y no_ids p.lists (p.apart y has)))
          (p.all y there id (turned m id y paired)),
    ))

pub can_lose : (image : List ℕ) (r : Registry) (m : Members) (id x : ℤ) (xs : List ℤ) → Holds image r m
    → IsListOf (λ other. are_paired m id other ≡ true) (x ∷ xs) → CanLose id (x ∷ xs) (without_ids id image)
can_lose image r m id x xs h list =
    (taken image r m id (x ∷ xs) (has_parts image r m id x xs h list) h.pairs.valid list).1

-- the lists of the others have its id no more, and its own has none
left_each : (r : Registry) (m : Members) (id : ℤ) (others : List ℤ) (image after : List ℕ) (p : HasParts image r m id others)
    → IsListOf (λ other. are_paired m id other ≡ true) others
    → (t : AreTaken after r (set_list id no_ids p.lists) others id) → (y : ℤ) → IsSome (r.entry y) → (z : ℤ) → Contains (t.now y).ids z
    → are_paired (without_pairs_of id m) y z ≡ true
left_each r m id others image after p list t y there z has =
    let w = t.was y z has in
    by_id y id
    (λ same. absurd (omega (arith, (subst (λ (l : PairList). Contains l.ids z) (set_same id y no_ids p.lists same) w.0).1)))
    (λ differs.
    let paired = p.each y there z (subst (λ (l : PairList). Contains l.ids z) (set_other id y no_ids p.lists differs) w.0) in
    paired_still m id y z differs
    (λ same. w.1 (list.all y (turned m y id (subst (λ (v : ℤ). are_paired m y v ≡ true) same paired))) same) paired)

left_all : (r : Registry) (m : Members) (id : ℤ) (others : List ℤ) (image after : List ℕ) (p : HasParts image r m id others)
    → (t : AreTaken after r (set_list id no_ids p.lists) others id) → (y : ℤ) → IsSome (r.entry y) → (z : ℤ)
    → are_paired (without_pairs_of id m) y z ≡ true → Contains (t.now y).ids z
left_all r m id others image after p t y there z is =
    let w = paired_was m id y z is in
    t.stays y z (subst (λ (l : PairList). Contains l.ids z) (sym (set_other id y no_ids p.lists w.0)) (p.all y there z w.2)) w.1

-- an image with lists holds the pairs that they tell
held : (after : List ℕ) (r : Registry) (m : Members) (now : ℤ → PairList) → HasLists after r now → HoldsPairs (unchained after) r m
    → Holds after r m
held after r m now has pairs =
    let size = has.size in
    let same : whole after ≡ after = whole_same after (omega (arith, size)) in record {
      size = subst (IsWhole 2112) (sym same) size;
      pairs = subst (λ (i : List ℕ). HoldsPairs (unchained i) r m) (sym same) pairs;
      chains = subst AreChains (sym same) has.chains;
    }

-- an id that is in no pair
none_hold : (image : List ℕ) (r : Registry) (m : Members) (id : ℤ) → Holds image r m
    → IsListOf (λ other. are_paired m id other ≡ true) [] → Holds image r (without_pairs_of id m)
none_hold image r m id h list =
    let none : (z : ℤ) → are_paired m id z ≡ true → ⊥ = λ z is. omega (arith, (list.all z is).1) in
    let p = h.pairs in record {
      size = h.size;
      pairs = record {
        holds = p.holds;
        valid = left_valid r m id p.valid;
        lists = p.lists;
        are = p.are;
        each = λ y there z has.
            let paired = p.each y there z has in
            paired_still m id y z (λ same. none z (subst (λ (v : ℤ). are_paired m v z ≡ true) same paired))
            (λ same. none y (turned m y id (subst (λ (v : ℤ). are_paired m y v ≡ true) same paired))) paired;
        all = λ y there z is. p.all y there z (paired_was m id y z is).2;
      };
      chains = h.chains;
    }

pub parts_hold : (others : List ℤ) (image : List ℕ) (r : Registry) (m : Members) (id : ℤ) → Holds image r m
    → IsListOf (λ other. are_paired m id other ≡ true) others → Holds (after_parts id others image) r (without_pairs_of id m)
unfolding after_parts
parts_hold [] image r m id h list = none_hold image r m id h list
parts_hold (x ∷ xs) image r m id h list =
    let p = has_parts image r m id x xs h list in
    let after = without_id_in (x ∷ xs) id (without_ids id image) in
    let t = (taken image r m id (x ∷ xs) p h.pairs.valid list).0 in
    held after r (without_pairs_of id m) t.now t.holds.has
    (pairs_of (unchained after) r (without_pairs_of id m) t.now t.holds.has.without (left_valid r m id h.pairs.valid)
    (left_each r m id (x ∷ xs) image after p list t) (left_all r m id (x ∷ xs) image after p t))
