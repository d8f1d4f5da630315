-- Both sides of a pair: an image with a pair more, and with a pair less.
use Rattle.std.proofs.Common.{◌≡◌, ◌≢◌, ℕ, ℤ, pos, true, false, Bool, cond, ◌&&◌, List, IsSome, refl, sym, ap, subst, ◌∙◌, ⊎_elim, inl, inr, arith}
use Rattle.std.specs.Prelude.{◌⊎◌, ◌||◌, ◌<ℤ◌}
use Rattle.std.specs.List.{Contains}
use Rattle.std.specs.Ordering.{int_eq}
use Rattle.std.proofs.lemmas.Bool.{and_from, and_parts, cases_Bool}
use Rattle.std.proofs.lemmas.Bool.Decides.{Decides-int_eq}
use Rattle.std.proofs.lemmas.Int.{ints}
use Rattle.prdb_layout.specs.Records.{IsLaidOut, block_in, entry_in, whole}
use Rattle.prdb_layout.specs.Registry.{Registry}
use Rattle.prdb_layout.proofs.Changed.{by_id}
use Rattle.prdb_layout.proofs.LaidOut.{whole_same}
use Rattle.prdb_lists.specs.Changes.{after_join, after_part, gained, lost, with_id, without_id}
use Rattle.prdb_lists.specs.Layout.{AreLists, HoldsPairs, PairList}
use Rattle.prdb_lists.specs.Lists.{ids_with, ids_without}
use Rattle.prdb_lists.specs.Members.{ArePairs, MayJoin, MayLeave, Members, are_paired, with_pair, without_pair}
use Rattle.prdb_lists.specs.Sides.{HasLists, HoldsLists, IsRelisted, set_list}
use Rattle.prdb_lists.proofs.Ascending.{IsWith}
use Rattle.prdb_lists.proofs.Gains.{gain, gained_is, lose, lost_is, stands_on}
use Rattle.prdb_lists.proofs.Ids.{IsWithout, ids_with-members, ids_without-members}
use Rattle.prdb_lists.proofs.RecordsKeep.{or_left, or_right, true_false}
use Rattle.prdb_lists.proofs.Relist.{StandsAt}
use Rattle.prdb_lists.proofs.Side.{set_other, set_same}

-- ---- pairs

pub either : (a b : Bool) → (a || b) ≡ true → (a ≡ true) ⊎ (b ≡ true)
either true b e = inl refl
either false b e = inr e

pub has_with : (a b : ℤ) (m : Members) (x y : ℤ) → (with_pair a b m).has x y ≡ true → ((x ≡ a) × (y ≡ b)) ⊎ (m.has x y ≡ true)
has_with a b m x y has =
    ⊎_elim
    (λ (t : (int_eq x a && int_eq y b) ≡ true). let p = and_parts (int_eq x a) (int_eq y b) t in
    inl ((Decides-int_eq x a).0 p.0, (Decides-int_eq y b).0 p.1))
    (λ (f : (int_eq x a && int_eq y b) ≡ false). inr (subst (λ (c : Bool). cond c true (m.has x y) ≡ true) f has))
    (cases_Bool (int_eq x a && int_eq y b))

same_pair : (a b : ℤ) → (int_eq a a && int_eq b b) ≡ true
same_pair a b = and_from (int_eq a a) (int_eq b b) ((Decides-int_eq a a).1 refl) ((Decides-int_eq b b).1 refl)

with_here : (a b : ℤ) (m : Members) → (with_pair a b m).has a b ≡ true
with_here a b m = ap (λ (c : Bool). cond c true (m.has a b)) (same_pair a b)

still : (c h : Bool) → h ≡ true → cond c true h ≡ true
still true h e = refl
still false h e = e

with_still : (a b : ℤ) (m : Members) (x y : ℤ) → m.has x y ≡ true → (with_pair a b m).has x y ≡ true
with_still a b m x y has = still (int_eq x a && int_eq y b) (m.has x y) has

paired_still : (a b : ℤ) (m : Members) (x y : ℤ) → are_paired m x y ≡ true → are_paired (with_pair a b m) x y ≡ true
paired_still a b m x y paired = elim (either (m.has x y) (m.has y x) paired) [
  | inl one ↦ or_left ((with_pair a b m).has x y) ((with_pair a b m).has y x) (with_still a b m x y one)
  | inr other ↦ or_right ((with_pair a b m).has x y) ((with_pair a b m).has y x) (with_still a b m y x other)
]

-- a pair of two ids, in one order or the other
abbrev pub IsPairOf : (a b x y : ℤ) → Type 0
IsPairOf a b x y = ((x ≡ a) × (y ≡ b)) ⊎ ((x ≡ b) × (y ≡ a))

paired_with : (a b : ℤ) (m : Members) (x y : ℤ) → are_paired (with_pair a b m) x y ≡ true → IsPairOf a b x y ⊎ (are_paired m x y ≡ true)
paired_with a b m x y paired = elim (either ((with_pair a b m).has x y) ((with_pair a b m).has y x) paired) [
  | inl one ↦ elim (has_with a b m x y one) [ inl new ↦ inl (inl new) | inr old ↦ inr (or_left (m.has x y) (m.has y x) old) ]
  | inr other ↦
      elim (has_with a b m y x other) [ inl new ↦ inl (inr (new.1, new.0)) | inr old ↦ inr (or_right (m.has x y) (m.has y x) old) ]
]

paired_new : (a b : ℤ) (m : Members) (x y : ℤ) → IsPairOf a b x y → are_paired (with_pair a b m) x y ≡ true
paired_new a b m x y is = elim is [
  | inl same ↦
      or_left ((with_pair a b m).has x y) ((with_pair a b m).has y x)
      (subst (λ (z : ℤ). (with_pair a b m).has z y ≡ true) (sym same.0)
      (subst (λ (z : ℤ). (with_pair a b m).has a z ≡ true) (sym same.1) (with_here a b m)))
  | inr other ↦
      or_right ((with_pair a b m).has x y) ((with_pair a b m).has y x)
      (subst (λ (z : ℤ). (with_pair a b m).has z x ≡ true) (sym other.1)
      (subst (λ (z : ℤ). (with_pair a b m).has a z ≡ true) (sym other.0) (with_here a b m)))
]

gone_cases : (c h : Bool) → cond c false h ≡ true → (c ≡ false) × (h ≡ true)
gone_cases true h e = absurd cc
gone_cases false h e = (refl, e)

stays_cases : (c h : Bool) → c ≡ false → h ≡ true → cond c false h ≡ true
stays_cases true h e k = absurd cc
stays_cases false h e k = k

pub has_without : (a b : ℤ) (m : Members) (x y : ℤ) → (without_pair a b m).has x y ≡ true → (((x ≡ a) × (y ≡ b)) → ⊥) × (m.has x y ≡ true)
has_without a b m x y has =
    let p = gone_cases (int_eq x a && int_eq y b) (m.has x y) has in (
      λ same. let t = and_from (int_eq x a) (int_eq y b) ((Decides-int_eq x a).1 same.0) ((Decides-int_eq y b).1 same.1) in
          true_false (int_eq x a && int_eq y b) t p.0,
      p.1,
    )

pub without_still : (a b : ℤ) (m : Members) (x y : ℤ) → (((x ≡ a) × (y ≡ b)) → ⊥) → m.has x y ≡ true → (without_pair a b m).has x y ≡ true
without_still a b m x y other has =
    stays_cases (int_eq x a && int_eq y b) (m.has x y)
    (⊎_elim (λ (t : (int_eq x a && int_eq y b) ≡ true). let p = and_parts (int_eq x a) (int_eq y b) t in
    absurd (other ((Decides-int_eq x a).0 p.0, (Decides-int_eq y b).0 p.1)))
    (λ (f : (int_eq x a && int_eq y b) ≡ false). f) (cases_Bool (int_eq x a && int_eq y b))) has

-- ---- ids that are paired

pub up_down : (a b : ℤ) → pos 0 <ℤ a → b <ℤ pos 0 → a ≢ b
up_down a b up down same = let both : a <ℤ pos 0 = subst (λ (z : ℤ). z <ℤ pos 0) (sym same) down in omega (arith, ints)

pub not_both : (a : ℤ) → pos 0 <ℤ a → a <ℤ pos 0 → ⊥
not_both a up down = omega (arith, ints)

pub other_there : (r : Registry) (m : Members) → ArePairs r m → (x y : ℤ) → are_paired m x y ≡ true → IsSome (r.entry y)
other_there r m valid x y paired =
    elim (either (m.has x y) (m.has y x) paired) [ inl one ↦ (valid x y one).3 | inr other ↦ (valid y x other).2 ]

pub lists_of : (image : List ℕ) (r : Registry) (m : Members) (h : HoldsPairs image r m) → HoldsLists (whole image) r h.lists
lists_of image r m h = record {
  has = record { valid = h.holds.valid; laid = h.holds.laid; are = h.are };
  members = λ id there other has. other_there r m h.valid id other (h.each id there other has);
}

not_empty : (image : List ℕ) (r : Registry) (lists : ℤ → PairList) → HasLists image r lists → whole image ≡ image
not_empty image r lists h = let size = h.laid.size in whole_same image (omega arith)

pub pairs_of : (image : List ℕ) (r : Registry) (m : Members) (lists : ℤ → PairList) → HasLists image r lists → ArePairs r m
    → ((id : ℤ) → IsSome (r.entry id) → (other : ℤ) → Contains (lists id).ids other → are_paired m id other ≡ true)
    → ((id : ℤ) → IsSome (r.entry id) → (other : ℤ) → are_paired m id other ≡ true → Contains (lists id).ids other) → HoldsPairs image r m
pairs_of image r m lists h valid each all =
    let same : whole image ≡ image = not_empty image r lists h in
    record {
      holds = record { valid = h.valid; laid = subst (λ (i : List ℕ). IsLaidOut i r) (sym same) h.laid };
      valid = valid;
      lists = lists;
      are = subst (λ (i : List ℕ). AreLists i r lists) (sym same) h.are;
      each = each;
      all = all;
    }

-- the places of two entries differ
pub apart : (image : List ℕ) (a b : ℤ) (j k : ℕ) → a ≢ b → StandsAt image a j → StandsAt image b k → k ≢ j
apart image a b j k other at_a at_b same = other (sym at_a.id ∙ ap (λ (i : ℕ). (entry_in (block_in image i)).id) (sym same) ∙ at_b.id)

-- ---- a pair more

-- the two lists after it
record IsJoined (lists made : ℤ → PairList) (a b : ℤ) : Type 0 where
  from : (id other : ℤ) → Contains (made id).ids other → IsPairOf a b id other ⊎ Contains (lists id).ids other
  new : (id other : ℤ) → IsPairOf a b id other → Contains (made id).ids other
  old : (id other : ℤ) → Contains (lists id).ids other → Contains (made id).ids other

joined_lists : (lists : ℤ → PairList) (a b : ℤ) (la lb : PairList) → a ≢ b → la.ids ≡ ids_with b (lists a).ids
    → lb.ids ≡ ids_with a (lists b).ids
    → IsJoined lists (set_list b lb (set_list a la lists)) a b
unfolding IsWith
joined_lists lists a b la lb other is_a is_b =
    let at_b : (id : ℤ) → id ≡ b → (set_list b lb (set_list a la lists) id).ids ≡ ids_with a (lists id).ids =
    λ id same. ap (λ (l : PairList). l.ids) (set_same b id lb (set_list a la lists) same) ∙ is_b
    ∙ ap (λ (z : ℤ). ids_with a (lists z).ids) (sym same) in
    let at_a : (id : ℤ) → id ≢ b → id ≡ a → (set_list b lb (set_list a la lists) id).ids ≡ ids_with b (lists id).ids =
    λ id apart_b same. ap (λ (l : PairList). l.ids) (set_other b id lb (set_list a la lists) apart_b ∙ set_same a id la lists same) ∙ is_a
    ∙ ap (λ (z : ℤ). ids_with b (lists z).ids) (sym same) in
    let at_none : (id : ℤ) → id ≢ b → id ≢ a → (set_list b lb (set_list a la lists) id).ids ≡ (lists id).ids =
    λ id apart_b apart_a.
    ap (λ (l : PairList). l.ids) (set_other b id lb (set_list a la lists) apart_b ∙ set_other a id la lists apart_a) in
    record {
      from = λ id y has. by_id id b
          (λ same. elim ((ids_with-members a (lists id).ids y).0 (subst (λ (l : List ℤ). Contains l y) (at_b id same) has))
          [ inl is ↦ inl (inr (same, is)) | inr was ↦ inr was ])
          (λ apart_b. by_id id a
          (λ same. elim ((ids_with-members b (lists id).ids y).0 (subst (λ (l : List ℤ). Contains l y) (at_a id apart_b same) has))
          [ inl is ↦ inl (inl (same, is)) | inr was ↦ inr was ])
          (λ apart_a. inr (subst (λ (l : List ℤ). Contains l y) (at_none id apart_b apart_a) has)));
      new = λ id y is. elim is [
        | inl p ↦
            subst (λ (l : List ℤ). Contains l y) (sym (at_a id (λ same. other (sym p.0 ∙ same)) p.0))
            ((ids_with-members b (lists id).ids y).1 (inl p.1))
        | inr p ↦ subst (λ (l : List ℤ). Contains l y) (sym (at_b id p.0)) ((ids_with-members a (lists id).ids y).1 (inl p.1))
      ];
      old = λ id y has. by_id id b
          (λ same. subst (λ (l : List ℤ). Contains l y) (sym (at_b id same)) ((ids_with-members a (lists id).ids y).1 (inr has)))
          (λ apart_b. by_id id a
          (λ same. subst (λ (l : List ℤ). Contains l y) (sym (at_a id apart_b same)) ((ids_with-members b (lists id).ids y).1 (inr has)))
          (λ apart_a. subst (λ (l : List ℤ). Contains l y) (sym (at_none id apart_b apart_a)) has));
    }

-- the pair is in neither list
pub no_pair : (r : Registry) (m : Members) (a b : ℤ) → ArePairs r m → MayJoin a b r m → are_paired m a b ≡ true → ⊥
no_pair r m a b valid may paired = elim (either (m.has a b) (m.has b a) paired) [
  | inl one ↦ true_false (m.has a b) one may.new
  | inr back ↦ not_both b (valid b a back).0 may.group_id
]

pub turned : (m : Members) (x y : ℤ) → are_paired m x y ≡ true → are_paired m y x ≡ true
turned m x y paired =
    elim (either (m.has x y) (m.has y x) paired)
    [ inl one ↦ or_right (m.has y x) (m.has x y) one | inr other ↦ or_left (m.has y x) (m.has x y) other ]

pub join : (image : List ℕ) (r : Registry) (m : Members) (a b : ℤ) (ka kb : ℕ) (h : HoldsPairs image r m) → MayJoin a b r m
    → StandsAt (whole image) a ka → StandsAt (whole image) b kb
    → (gained kb b (block_in (whole image) kb) (h.lists b) a (gained ka a (block_in (whole image) ka) (h.lists a) b (whole image))
    ≡ after_join a b image)
    × HoldsPairs
    (gained kb b (block_in (whole image) kb) (h.lists b) a (gained ka a (block_in (whole image) ka) (h.lists a) b (whole image))) r
    (with_pair a b m)
unfolding after_join
join image r m a b ka kb h may at_a at_b =
    let w = whole image in
    let hl : HoldsLists w r h.lists = lists_of image r m h in
    let other : a ≢ b = up_down a b may.user may.group_id in
    let one = gained ka a (block_in w ka) (h.lists a) b w in
    let s : IsRelisted w one 192 r h.lists ka a (ids_with b (h.lists a).ids) =
    gain w r h.lists a b ka hl at_a may.member_there may.group_there
    (λ has. no_pair r m a b h.valid may (h.each a may.member_there b has)) in
    let stood = s.others kb at_b.below (apart w a b ka kb other at_a at_b) at_b.kind in
    let at_b1 : StandsAt one b kb = stands_on w one b kb at_b stood in
    let same_b : set_list a s.list h.lists b ≡ h.lists b = set_other a b s.list h.lists (λ same. other (sym same)) in
    let fresh : ¬ Contains (set_list a s.list h.lists b).ids a =
    λ has. no_pair r m a b h.valid may
    (turned m b a (h.each b may.group_there a (subst (λ (l : PairList). Contains l.ids a) same_b has))) in
    let two = gained kb b (block_in one kb) (set_list a s.list h.lists b) a one in
    let t : IsRelisted one two 192 r (set_list a s.list h.lists) kb b (ids_with a (set_list a s.list h.lists b).ids) =
    gain one r (set_list a s.list h.lists) b a kb s.holds at_b1 may.group_there may.member_there fresh in
    let is_two : two ≡ gained kb b (block_in w kb) (h.lists b) a one =
    ap (λ (c : List ℕ). gained kb b c (set_list a s.list h.lists b) a one) stood.1
    ∙ ap (λ (l : PairList). gained kb b (block_in w kb) l a one) same_b in
    let joined : IsJoined h.lists (set_list b t.list (set_list a s.list h.lists)) a b =
    joined_lists h.lists a b s.list t.list other s.has (t.has ∙ ap (λ (l : PairList). ids_with a l.ids) same_b) in
    let holds : HoldsPairs two r (with_pair a b m) =
    pairs_of two r (with_pair a b m) (set_list b t.list (set_list a s.list h.lists)) t.holds.has
    (λ x y has. elim (has_with a b m x y has) [
      | inl same ↦ (
        subst (λ (z : ℤ). pos 0 <ℤ z) (sym same.0) may.user,
        subst (λ (z : ℤ). z <ℤ pos 0) (sym same.1) may.group_id,
        subst (λ (z : ℤ). IsSome (r.entry z)) (sym same.0) may.member_there,
        subst (λ (z : ℤ). IsSome (r.entry z)) (sym same.1) may.group_there,
      )
      | inr old ↦ h.valid x y old
    ])
    (λ id there y has.
    elim (joined.from id y has) [ inl new ↦ paired_new a b m id y new | inr old ↦ paired_still a b m id y (h.each id there y old) ])
    (λ id there y paired.
    elim (paired_with a b m id y paired) [ inl new ↦ joined.new id y new | inr old ↦ joined.old id y (h.all id there y old) ]) in
    let exact_one : with_id a b w ≡ one = gained_is w r h.lists a b ka hl.has at_a in
    let exact_two : with_id b a one ≡ two = gained_is one r (set_list a s.list h.lists) b a kb s.holds.has at_b1 in (
      sym is_two ∙ sym exact_two ∙ ap (λ (i : List ℕ). with_id b a i) (sym exact_one),
      subst (λ (i : List ℕ). HoldsPairs i r (with_pair a b m)) is_two holds,
    )

-- ---- a pair less

record IsParted (lists made : ℤ → PairList) (a b : ℤ) : Type 0 where
  from : (id other : ℤ) → Contains (made id).ids other → (IsPairOf a b id other → ⊥) × Contains (lists id).ids other
  old : (id other : ℤ) → (IsPairOf a b id other → ⊥) → Contains (lists id).ids other → Contains (made id).ids other

parted_lists : (lists : ℤ → PairList) (a b : ℤ) (la lb : PairList) → a ≢ b → la.ids ≡ ids_without b (lists a).ids
    → lb.ids ≡ ids_without a (lists b).ids
    → IsParted lists (set_list b lb (set_list a la lists)) a b
unfolding IsWithout
parted_lists lists a b la lb other is_a is_b =
    let at_b : (id : ℤ) → id ≡ b → (set_list b lb (set_list a la lists) id).ids ≡ ids_without a (lists id).ids =
    λ id same. ap (λ (l : PairList). l.ids) (set_same b id lb (set_list a la lists) same) ∙ is_b
    ∙ ap (λ (z : ℤ). ids_without a (lists z).ids) (sym same) in
    let at_a : (id : ℤ) → id ≢ b → id ≡ a → (set_list b lb (set_list a la lists) id).ids ≡ ids_without b (lists id).ids =
    λ id apart_b same. ap (λ (l : PairList). l.ids) (set_other b id lb (set_list a la lists) apart_b ∙ set_same a id la lists same) ∙ is_a
    ∙ ap (λ (z : ℤ). ids_without b (lists z).ids) (sym same) in
    let at_none : (id : ℤ) → id ≢ b → id ≢ a → (set_list b lb (set_list a la lists) id).ids ≡ (lists id).ids =
    λ id apart_b apart_a.
    ap (λ (l : PairList). l.ids) (set_other b id lb (set_list a la lists) apart_b ∙ set_other a id la lists apart_a) in
    record {
      from = λ id y has. by_id id b
          (λ same.
          let w = (ids_without-members a (lists id).ids y).0 (subst (λ (l : List ℤ). Contains l y) (at_b id same) has) in
          (λ is. elim is [ inl p ↦ other (sym p.0 ∙ same) | inr p ↦ w.0 p.1 ], w.1))
          (λ apart_b. by_id id a
          (λ same.
          let w = (ids_without-members b (lists id).ids y).0 (subst (λ (l : List ℤ). Contains l y) (at_a id apart_b same) has) in
          (λ is. elim is [ inl p ↦ w.0 p.1 | inr p ↦ apart_b p.0 ], w.1))
          (λ apart_a. (
            λ is. elim is [ inl p ↦ apart_a p.0 | inr p ↦ apart_b p.0 ],
            subst (λ (l : List ℤ). Contains l y) (at_none id apart_b apart_a) has,
          )));
      old = λ id y not has. by_id id b
          (λ same. subst (λ (l : List ℤ). Contains l y) (sym (at_b id same))
          ((ids_without-members a (lists id).ids y).1 (λ is. not (inr (same, is))) has))
          (λ apart_b. by_id id a
          (λ same. subst (λ (l : List ℤ). Contains l y) (sym (at_a id apart_b same))
          ((ids_without-members b (lists id).ids y).1 (λ is. not (inl (same, is))) has))
          (λ apart_a. subst (λ (l : List ℤ). Contains l y) (sym (at_none id apart_b apart_a)) has));
    }

pub paired_without : (a b : ℤ) (m : Members) (x y : ℤ) → (m.has b a ≡ true → ⊥) → are_paired (without_pair a b m) x y ≡ true
    → (IsPairOf a b x y → ⊥) × (are_paired m x y ≡ true)
paired_without a b m x y back paired = elim (either ((without_pair a b m).has x y) ((without_pair a b m).has y x) paired) [
  | inl one ↦
      let w = has_without a b m x y one in (
        λ is. elim is
            [ inl p ↦ w.0 p | inr p ↦ back (subst (λ (z : ℤ). m.has b z ≡ true) p.1 (subst (λ (z : ℤ). m.has z y ≡ true) p.0 w.1)) ],
        or_left (m.has x y) (m.has y x) w.1,
      )
  | inr other ↦
      let w = has_without a b m y x other in (
        λ is. elim is [
          | inl p ↦ back (subst (λ (z : ℤ). m.has b z ≡ true) p.0 (subst (λ (z : ℤ). m.has z x ≡ true) p.1 w.1))
          | inr p ↦
              w.0 (p.1, p.0)
        ],
        or_right (m.has x y) (m.has y x) w.1,
      )
]

pub paired_left : (a b : ℤ) (m : Members) (x y : ℤ) → (IsPairOf a b x y → ⊥) → are_paired m x y ≡ true
    → are_paired (without_pair a b m) x y ≡ true
paired_left a b m x y not paired = elim (either (m.has x y) (m.has y x) paired) [
  | inl one ↦ or_left ((without_pair a b m).has x y) ((without_pair a b m).has y x) (without_still a b m x y (λ p. not (inl p)) one)
  | inr other ↦
      or_right ((without_pair a b m).has x y) ((without_pair a b m).has y x) (without_still a b m y x (λ p. not (inr (p.1, p.0))) other)
]

pub part : (image : List ℕ) (r : Registry) (m : Members) (a b : ℤ) (ka kb : ℕ) (h : HoldsPairs image r m) → MayLeave a b m
    → StandsAt (whole image) a ka → StandsAt (whole image) b kb
    → (lost kb b (block_in (whole image) kb) (h.lists b) a (lost ka a (block_in (whole image) ka) (h.lists a) b (whole image))
    ≡ after_part a b image)
    × HoldsPairs (lost kb b (block_in (whole image) kb) (h.lists b) a (lost ka a (block_in (whole image) ka) (h.lists a) b (whole image))) r
    (without_pair a b m)
unfolding after_part
part image r m a b ka kb h may at_a at_b =
    let w = whole image in
    let hl : HoldsLists w r h.lists = lists_of image r m h in
    let v = h.valid a b may in
    let other : a ≢ b = up_down a b v.0 v.1 in
    let back : m.has b a ≡ true → ⊥ = λ yes. not_both b (h.valid b a yes).0 v.1 in
    let paired : are_paired m a b ≡ true = or_left (m.has a b) (m.has b a) may in
    let one = lost ka a (block_in w ka) (h.lists a) b w in
    let s : IsRelisted w one 0 r h.lists ka a (ids_without b (h.lists a).ids) = lose w r h.lists a b ka hl at_a v.2
    (h.all a v.2 b paired) in
    let stood = s.others kb at_b.below (apart w a b ka kb other at_a at_b) at_b.kind in
    let at_b1 : StandsAt one b kb = stands_on w one b kb at_b stood in
    let same_b : set_list a s.list h.lists b ≡ h.lists b = set_other a b s.list h.lists (λ same. other (sym same)) in
    let has : Contains (set_list a s.list h.lists b).ids a = subst (λ (l : PairList). Contains l.ids a) (sym same_b)
    (h.all b v.3 a (turned m a b paired)) in
    let two = lost kb b (block_in one kb) (set_list a s.list h.lists b) a one in
    let t : IsRelisted one two 0 r (set_list a s.list h.lists) kb b (ids_without a (set_list a s.list h.lists b).ids) =
    lose one r (set_list a s.list h.lists) b a kb s.holds at_b1 v.3 has in
    let is_two : two ≡ lost kb b (block_in w kb) (h.lists b) a one =
    ap (λ (c : List ℕ). lost kb b c (set_list a s.list h.lists b) a one) stood.1
    ∙ ap (λ (l : PairList). lost kb b (block_in w kb) l a one) same_b in
    let parted : IsParted h.lists (set_list b t.list (set_list a s.list h.lists)) a b =
    parted_lists h.lists a b s.list t.list other s.has (t.has ∙ ap (λ (l : PairList). ids_without a l.ids) same_b) in
    let holds : HoldsPairs two r (without_pair a b m) =
    pairs_of two r (without_pair a b m) (set_list b t.list (set_list a s.list h.lists)) t.holds.has
    (λ x y yes. h.valid x y (has_without a b m x y yes).1)
    (λ id there y yes. let w = parted.from id y yes in paired_left a b m id y w.0 (h.each id there y w.1))
    (λ id there y yes. let w = paired_without a b m id y back yes in parted.old id y w.0 (h.all id there y w.1)) in
    let exact_one : without_id a b w ≡ one = lost_is w r h.lists a b ka hl.has at_a in
    let exact_two : without_id b a one ≡ two = lost_is one r (set_list a s.list h.lists) b a kb s.holds.has at_b1 in (
      sym is_two ∙ sym exact_two ∙ ap (λ (i : List ℕ). without_id b a i) (sym exact_one),
      subst (λ (i : List ℕ). HoldsPairs i r (without_pair a b m)) is_two holds,
    )
