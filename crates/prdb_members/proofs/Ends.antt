-- What a change of a pair makes of a draft, and why it is not made.
use Rattle.std.proofs.Common.{◌≡◌, ◌≢◌, ℕ, ℤ, List, Option, Some, None, IfSome, IsSome, Result, Ok, Err, OnOk, IfErr, sym, ap, subst, ◌∙◌}
use Rattle.std.specs.Prelude.{IsSomeAnd}
use Rattle.std.specs.List.{Contains}
use Rattle.std.specs.Option.{option_map}
use Rattle.db_image.specs.declared.faults.RecordFault.{RecordFault}
use Rattle.db_image.specs.declared.faults.RecordFault.TheVariants.{DiskFault, BadRecord, NoMemory}
use Rattle.db_blocks.specs.Ends.{HasCause}
use Rattle.db_chains.proofs.Results.{err_so}
use Rattle.prdb_layout.specs.Records.{block_in}
use Rattle.prdb_layout.specs.Registry.{Registry}
use Rattle.prdb_lists.specs.Layout.{PairList}
use Rattle.prdb_lists.specs.Members.{MayJoin, MayLeave, Members, with_pair, without_pair}
use Rattle.prdb_lists.specs.Sides.{IsPlace, set_list}
use Rattle.prdb_lists.specs.declared.sides.Place.{Place}
use Rattle.prdb_lists.proofs.Both.{no_pair, other_there, turned, up_down}
use Rattle.prdb_lists.proofs.ListRead.{cause_so}
use Rattle.prdb_lists.proofs.Places.{list_at, list_is, stands}
use Rattle.prdb_lists.proofs.Side.{set_other}
use Rattle.prdb_lists.proofs.Written.{fault_before}
use Rattle.prdb_finds.specs.Ends.{HasCauseWhere}
use Rattle.prdb_finds.specs.Records.{Holds, whole}
use Rattle.prdb_members.specs.Changes.{after_join, after_part, gained, lost}
use Rattle.prdb_members.specs.Sides.{HasEntry, HasLists, HoldsLists, HoldsPlace}
use Rattle.prdb_members.proofs.Joined.{HasHalf, apart, half_joined, join, stands_on}
use Rattle.prdb_members.proofs.Costs.{whole_pair}
use Rattle.prdb_members.proofs.Listed.{lists_of, place_of}
use Rattle.prdb_members.proofs.Parted.{half_parted, part}

-- ---- places

-- a place over bytes, where they are told
abbrev pub Stands : Option (List ℕ) → Place → Type 0
Stands bytes p = IfSome bytes (λ image. (r : Registry) (lists : ℤ → PairList) → HasLists image r lists → IsPlace image r lists p)

pub stands_so : (b c : Option (List ℕ)) (p : Place) → c ≡ b → Stands c p → Stands b p
stands_so b c p same is = subst (λ (o : Option (List ℕ)). Stands o p) same is

abbrev pub gains : Place → ℤ → List ℕ → List ℕ
gains p id image = gained p.found.number p.entry p.found.block (list_at p) id image

-- what one side makes of an image is what it makes of the lists that it holds
gains_at : (image now : List ℕ) (r : Registry) (lists : ℤ → PairList) (p : Place) (x id : ℤ) → p.entry ≡ x → IsPlace image r lists p
    → gains p id now ≡ gained p.found.number x (block_in image p.found.number) (lists x) id now
gains_at image now r lists p x id same is =
    ap (λ (z : ℤ). gained p.found.number z p.found.block (list_at p) id now) same
    ∙ ap (λ (b : List ℕ). gained p.found.number x b (list_at p) id now) is.block
    ∙ ap (λ (l : PairList). gained p.found.number x (block_in image p.found.number) l id now) (list_is image r lists p x same is)

-- the new bytes are these, and hold these pairs
abbrev pub IsMade : Option (List ℕ) → List ℕ → Registry → Members → Type 0
IsMade now after r m = (now ≡ Some after) × IsSomeAnd now (λ bytes. Holds bytes r m)

pub made_from : (now : Option (List ℕ)) (made after : List ℕ) (r : Registry) (m : Members) → now ≡ Some made → made ≡ after
    → Holds made r m → IsMade now after r m
made_from now made after r m is same holds =
    (is ∙ ap Some same, subst (λ (o : Option (List ℕ)). IsSomeAnd o (λ bytes. Holds bytes r m)) (sym is) holds)

-- ---- a pair more

abbrev pub Joins : Option (List ℕ) → Option (List ℕ) → (x y : ℤ) → Type 0
Joins a e x y =
    IfSome a (λ image. (r : Registry) (m : Members) → Holds image r m → MayJoin x y r m → IsMade e (after_join x y image) r (with_pair x y m))

fresh_in : (image : List ℕ) (r : Registry) (m : Members) (p : Place) (x y : ℤ) (h : Holds image r m) → MayJoin x y r m → p.entry ≡ x
    → IsPlace (whole image) r h.pairs.lists p → ¬ Contains p.listed.ids y
fresh_in image r m p x y h may own at = λ has.
    no_pair r m x y h.pairs.valid may
    (h.pairs.each x may.member_there y
    (subst (λ (l : PairList). Contains l.ids y) (list_is (whole image) r h.pairs.lists p x own at) has))

joined_some : (image : List ℕ) (b c d e : Option (List ℕ)) (p q : Place) (x y : ℤ) → b ≡ Some (whole image) → c ≡ b
    → p.entry ≡ x → q.entry ≡ y → Stands b p → Stands b q
    → (¬ Contains p.listed.ids y → d ≡ option_map (gains p y) c) → (¬ Contains q.listed.ids x → e ≡ option_map (gains q x) d)
    → (r : Registry) (m : Members) → Holds image r m → MayJoin x y r m → IsMade e (after_join x y image) r (with_pair x y m)
joined_some image b c d e p q x y is same first second at_p at_q one two r m h may =
    let w = whole image in
    let hl = lists_of image r m h in
    let w_p = subst (λ (o : Option (List ℕ)). Stands o p) is at_p r h.pairs.lists hl in
    let w_q = subst (λ (o : Option (List ℕ)). Stands o q) is at_q r h.pairs.lists hl in
    let fresh_q : ¬ Contains q.listed.ids x = λ has.
    no_pair r m x y h.pairs.valid may
    (turned m y x
    (h.pairs.each y may.group_there x (subst (λ (l : PairList). Contains l.ids x) (list_is w r h.pairs.lists q y second w_q) has))) in
    let made = join image r m x y p.found.number q.found.number h may (stands w r h.pairs.lists p x first w_p)
    (stands w r h.pairs.lists q y second w_q) in
    let a : d ≡ Some (gained p.found.number x (block_in w p.found.number) (h.pairs.lists x) y w) =
    one (fresh_in image r m p x y h may first w_p) ∙ ap (option_map (gains p y)) (same ∙ is)
    ∙ ap Some (gains_at w w r h.pairs.lists p x y first w_p) in
    let b : e
    ≡ Some (gained q.found.number y (block_in w q.found.number) (h.pairs.lists y) x
    (gained p.found.number x (block_in w p.found.number) (h.pairs.lists x) y w)) =
    two fresh_q ∙ ap (option_map (gains q x)) a
    ∙ ap Some (gains_at w (gained p.found.number x (block_in w p.found.number) (h.pairs.lists x) y w) r h.pairs.lists q y x second w_q) in
    made_from e _ (after_join x y image) r (with_pair x y m) b made.0 made.1

pub joined_ok : {T E : Type 0} (r : Result T E) (a b c d e : Option (List ℕ)) (p q : Place) (x y : ℤ)
    → b ≡ option_map whole a → c ≡ b
    → p.entry ≡ x → q.entry ≡ y
    → Stands b p → Stands b q → (¬ Contains p.listed.ids y → d ≡ option_map (gains p y) c)
    → OnOk r (¬ Contains q.listed.ids x → e ≡ option_map (gains q x) d) → OnOk r (Joins a e x y)
joined_ok (Err f) a b c d e p q x y is same first second at_p at_q one two = tt
joined_ok (Ok v) None b c d e p q x y is same first second at_p at_q one two = tt
joined_ok (Ok v) (Some image) b c d e p q x y is same first second at_p at_q one two =
    joined_some image b c d e p q x y is same first second at_p at_q one two

pub joined_bytes : {T E : Type 0} (r : Result T E) (a e : Option (List ℕ)) (x y : ℤ) → OnOk r (Joins a e x y)
    → OnOk r (IfSome a (λ image. (s : Registry) (m : Members) → Holds image s m → MayJoin x y s m → e ≡ Some (after_join x y image)))
joined_bytes (Err f) a e x y is = tt
joined_bytes (Ok v) None e x y is = tt
joined_bytes (Ok v) (Some image) e x y is = λ s m h may. (is s m h may).0

pub joined_holds : {T E : Type 0} (r : Result T E) (a e : Option (List ℕ)) (x y : ℤ) → OnOk r (Joins a e x y)
    → OnOk r
    (IfSome a
    (λ image. (s : Registry) (m : Members) → Holds image s m → MayJoin x y s m → IsSomeAnd e (λ after. Holds after s (with_pair x y m))))
joined_holds (Err f) a e x y is = tt
joined_holds (Ok v) None e x y is = tt
joined_holds (Ok v) (Some image) e x y is = λ s m h may. (is s m h may).1

-- the image alone
pub join_holds : (image : List ℕ) (r : Registry) (m : Members) (a b : ℤ) → Holds image r m → MayJoin a b r m
    → Holds (after_join a b image) r (with_pair a b m)
join_holds image r m a b h may =
    let hl = lists_of image r m h in
    let p = place_of (whole image) r h.pairs.lists a hl may.member_there in
    let q = place_of (whole image) r h.pairs.lists b hl may.group_there in
    let j = join image r m a b p.k q.k h may p.at q.at in
    subst (λ (i : List ℕ). Holds i r (with_pair a b m)) j.0 j.1

pub part_holds : (image : List ℕ) (r : Registry) (m : Members) (a b : ℤ) → Holds image r m → MayLeave a b m
    → Holds (after_part a b image) r (without_pair a b m)
part_holds image r m a b h may =
    let v = h.pairs.valid a b may in
    let hl = lists_of image r m h in
    let p = place_of (whole image) r h.pairs.lists a hl v.2 in
    let q = place_of (whole image) r h.pairs.lists b hl v.3 in
    let j = part image r m a b p.k q.k h may p.at q.at in
    subst (λ (i : List ℕ). Holds i r (without_pair a b m)) j.0 j.1

-- ---- faults of a pair more

abbrev HoldsJoin : (x y : ℤ) → List ℕ → Type 0
HoldsJoin x y image = (r : Registry) × (m : Members) × Holds image r m × MayJoin x y r m

member_so : (a : Option (List ℕ)) (x y : ℤ) → IfSome a (λ image. HoldsJoin x y image → HasEntry x (whole image))
member_so None x y = tt
member_so (Some image) x y = λ q. (q.0, q.2.pairs.lists, lists_of image q.0 q.1 q.2, q.3.member_there)

group_so : (a : Option (List ℕ)) (x y : ℤ) → IfSome a (λ image. HoldsJoin x y image → HasEntry y (whole image))
group_so None x y = tt
group_so (Some image) x y = λ q. (q.0, q.2.pairs.lists, lists_of image q.0 q.1 q.2, q.3.group_there)

pub join_member_fault : (a b : Option (List ℕ)) (x y : ℤ) (fault : RecordFault) → b ≡ option_map whole a → HasCause b (HasEntry x) fault
    → HasCauseWhere (MayJoin x y) a fault
join_member_fault a b x y fault is cause = fault_before whole a b (HasEntry x) (HoldsJoin x y) fault is cause (member_so a x y)

pub join_group_fault : (a b : Option (List ℕ)) (x y : ℤ) (fault : RecordFault) → b ≡ option_map whole a → HasCause b (HasEntry y) fault
    → HasCauseWhere (MayJoin x y) a fault
join_group_fault a b x y fault is cause = fault_before whole a b (HasEntry y) (HoldsJoin x y) fault is cause (group_so a x y)

-- an image that holds pairs holds lists of entries
pub holds_lists : (image : List ℕ) (r : Registry) (m : Members) (h : Holds image r m) → HoldsLists (whole image) r h.pairs.lists
holds_lists image r m h = record {
  has = lists_of image r m h;
  members = λ id there other has. other_there r m h.pairs.valid id other (h.pairs.each id there other has);
}

one_so : (a b : Option (List ℕ)) (p : Place) (x y : ℤ) → b ≡ option_map whole a → Stands b p
    → IfSome a (λ image. HoldsJoin x y image → HoldsPlace p y (whole image))
one_so None b p x y is at = tt
one_so (Some image) b p x y is at = λ q.
    let w = subst (λ (o : Option (List ℕ)). Stands o p) is at in
    let hl = holds_lists image q.0 q.1 q.2 in
    (q.0, q.2.pairs.lists, hl, w q.0 q.2.pairs.lists hl.has, q.3.group_there)

pub join_one_fault : (a b c : Option (List ℕ)) (p : Place) (x y : ℤ) (fault : RecordFault) → b ≡ option_map whole a → c ≡ b → Stands b p
    → HasCause c (HoldsPlace p y) fault
    → HasCauseWhere (MayJoin x y) a fault
join_one_fault a b c p x y fault is same at cause =
    fault_before whole a c (HoldsPlace p y) (HoldsJoin x y) fault (same ∙ is) cause (one_so a b p x y is at)

-- the place of the group after the member's side
then_place : (old one : List ℕ) (r : Registry) (lists : ℤ → PairList) (p q : Place) (x y : ℤ) → x ≢ y → p.entry ≡ x → q.entry ≡ y
    → IsPlace old r lists p → IsPlace old r lists q → HasHalf old one r lists x p.found.number → IsSome (r.entry x) → HoldsPlace q x one
then_place old one r lists p q x y other first second at_p at_q s there =
    let s_p = stands old r lists p x first at_p in
    let s_q = stands old r lists q y second at_q in
    let differ = apart old x y p.found.number q.found.number other s_p s_q in
    let stood : block_in one q.found.number ≡ block_in old q.found.number = s.others q.found.number at_q.below differ at_q.kind in
    let same : set_list x s.list lists q.entry ≡ lists q.entry = set_other x q.entry s.list lists (λ at. other (sym at ∙ second)) in
    let at_one = stands_on old one y q.found.number s.keeps s_q in (
      r,
      set_list x s.list lists,
      s.holds,
      record {
        there = at_q.there;
        below = at_one.below;
        kind = at_one.kind;
        id = at_one.id ∙ sym second;
        block = at_q.block ∙ sym stood;
        ids = at_q.ids ∙ ap (λ (l : PairList). l.ids) (sym same);
        more = at_q.more ∙ ap (λ (l : PairList). l.more) (sym same);
      },
      there,
    )

half_place : (image : List ℕ) (r : Registry) (m : Members) (p q : Place) (x y : ℤ) (h : Holds image r m) → MayJoin x y r m
    → p.entry ≡ x → q.entry ≡ y
    → IsPlace (whole image) r h.pairs.lists p → IsPlace (whole image) r h.pairs.lists q → HoldsPlace q x (gains p y (whole image))
half_place image r m p q x y h may first second at_p at_q =
    let w = whole image in
    let lists = h.pairs.lists in
    let s_p = stands w r lists p x first at_p in
    let s : HasHalf w (gained p.found.number x (block_in w p.found.number) (lists x) y w) r lists x p.found.number =
    half_joined image r m x y p.found.number h may s_p in
    subst (λ (i : List ℕ). HoldsPlace q x i) (sym (gains_at w w r lists p x y first at_p))
    (then_place w (gained p.found.number x (block_in w p.found.number) (lists x) y w) r lists p q x y
    (up_down x y may.user may.group_id) first second at_p at_q s may.member_there)

two_some : (image : List ℕ) (b c d : Option (List ℕ)) (p q : Place) (x y : ℤ) (at : ℕ) → b ≡ Some (whole image)
    → c ≡ b → p.entry ≡ x → q.entry ≡ y → Stands b p → Stands b q
    → (¬ Contains p.listed.ids y → d ≡ option_map (gains p y) c) → HasCause d (HoldsPlace q x) (BadRecord at) → HoldsJoin x y image → ⊥
two_some image b c d p q x y at is same first second at_p at_q one cause j =
    let hl = lists_of image j.0 j.1 j.2 in
    let w_p = subst (λ (o : Option (List ℕ)). Stands o p) is at_p j.0 j.2.pairs.lists hl in
    let w_q = subst (λ (o : Option (List ℕ)). Stands o q) is at_q j.0 j.2.pairs.lists hl in
    let d_is : d ≡ Some (gains p y (whole image)) =
    one (fresh_in image j.0 j.1 p x y j.2 j.3 first w_p) ∙ ap (option_map (gains p y)) (same ∙ is) in
    let none = subst (λ (o : Option (List ℕ)). HasCause o (HoldsPlace q x) (BadRecord at)) d_is cause in
    none (half_place image j.0 j.1 p q x y j.2 j.3 first second w_p w_q)

join_two_fault : (a b c d : Option (List ℕ)) (p q : Place) (x y : ℤ) (fault : RecordFault)
    → b ≡ option_map whole a → c ≡ b
    → p.entry ≡ x → q.entry ≡ y → Stands b p → Stands b q
    → (¬ Contains p.listed.ids y → d ≡ option_map (gains p y) c) → HasCause d (HoldsPlace q x) fault → HasCauseWhere (MayJoin x y) a fault
join_two_fault a b c d p q x y DiskFault is same first second at_p at_q one cause = tt
join_two_fault a b c d p q x y NoMemory is same first second at_p at_q one cause = tt
join_two_fault None b c d p q x y (BadRecord at) is same first second at_p at_q one cause = tt
join_two_fault (Some image) b c d p q x y (BadRecord at) is same first second at_p at_q one cause =
    two_some image b c d p q x y at is same first second at_p at_q one cause

pub join_two_err : {T : Type 0} (r : Result T RecordFault) (a b c d : Option (List ℕ)) (p q : Place) (x y : ℤ)
    → b ≡ option_map whole a
    → c ≡ b → p.entry ≡ x → q.entry ≡ y → Stands b p → Stands b q
    → (¬ Contains p.listed.ids y → d ≡ option_map (gains p y) c) → IfErr r (HasCause d (HoldsPlace q x))
    → IfErr r (HasCauseWhere (MayJoin x y) a)
join_two_err r a b c d p q x y is same first second at_p at_q one err =
    err_so r (HasCause d (HoldsPlace q x)) (HasCauseWhere (MayJoin x y) a) err
    (λ fault cause. join_two_fault a b c d p q x y fault is same first second at_p at_q one cause)

-- ---- a pair less

abbrev pub loses : Place → ℤ → List ℕ → List ℕ
loses p id image = lost p.found.number p.entry p.found.block (list_at p) id image

loses_at : (image now : List ℕ) (r : Registry) (lists : ℤ → PairList) (p : Place) (x id : ℤ) → p.entry ≡ x → IsPlace image r lists p
    → loses p id now ≡ lost p.found.number x (block_in image p.found.number) (lists x) id now
loses_at image now r lists p x id same is =
    ap (λ (z : ℤ). lost p.found.number z p.found.block (list_at p) id now) same
    ∙ ap (λ (b : List ℕ). lost p.found.number x b (list_at p) id now) is.block
    ∙ ap (λ (l : PairList). lost p.found.number x (block_in image p.found.number) l id now) (list_is image r lists p x same is)

abbrev pub Parts : Option (List ℕ) → Option (List ℕ) → (x y : ℤ) → Type 0
Parts a e x y =
    IfSome a
    (λ image. (r : Registry) (m : Members) → Holds image r m → MayLeave x y m → IsMade e (after_part x y image) r (without_pair x y m))

-- a place of an image that is not empty is one of the image that is read whole
place_whole : (image : List ℕ) (r : Registry) (m : Members) (p : Place) (x y : ℤ) (h : Holds image r m) → MayLeave x y m
    → Stands (Some image) p → IsPlace (whole image) r h.pairs.lists p
place_whole image r m p x y h may at =
    let same = whole_pair image r m x y h may in
    let w = subst (λ (i : List ℕ). Stands (Some i) p) (sym same) at in
    w r h.pairs.lists (lists_of image r m h)

parted_some : (image : List ℕ) (c d e : Option (List ℕ)) (p q : Place) (x y : ℤ) → c ≡ Some image → p.entry ≡ x → q.entry ≡ y
    → Stands (Some image) p → Stands (Some image) q
    → d ≡ option_map (loses p y) c → e ≡ option_map (loses q x) d
    → (r : Registry) (m : Members) → Holds image r m → MayLeave x y m → IsMade e (after_part x y image) r (without_pair x y m)
parted_some image c d e p q x y same first second at_p at_q one two r m h may =
    let w = whole image in
    let w_p = place_whole image r m p x y h may at_p in
    let w_q = place_whole image r m q x y h may at_q in
    let made = part image r m x y p.found.number q.found.number h may (stands w r h.pairs.lists p x first w_p)
    (stands w r h.pairs.lists q y second w_q) in
    let a : d ≡ Some (lost p.found.number x (block_in w p.found.number) (h.pairs.lists x) y w) =
    one ∙ ap (option_map (loses p y)) (same ∙ ap Some (sym (whole_pair image r m x y h may)))
    ∙ ap Some (loses_at w w r h.pairs.lists p x y first w_p) in
    let b : e
    ≡ Some (lost q.found.number y (block_in w q.found.number) (h.pairs.lists y) x
    (lost p.found.number x (block_in w p.found.number) (h.pairs.lists x) y w)) =
    two ∙ ap (option_map (loses q x)) a
    ∙ ap Some (loses_at w (lost p.found.number x (block_in w p.found.number) (h.pairs.lists x) y w) r h.pairs.lists q y x second w_q) in
    made_from e _ (after_part x y image) r (without_pair x y m) b made.0 made.1

pub parted_ok : {T E : Type 0} (r : Result T E) (a c d e : Option (List ℕ)) (p q : Place) (x y : ℤ) → c ≡ a → p.entry ≡ x → q.entry ≡ y
    → Stands a p → Stands a q → d ≡ option_map (loses p y) c → OnOk r (e ≡ option_map (loses q x) d) → OnOk r (Parts a e x y)
parted_ok (Err f) a c d e p q x y same first second at_p at_q one two = tt
parted_ok (Ok v) None c d e p q x y same first second at_p at_q one two = tt
parted_ok (Ok v) (Some image) c d e p q x y same first second at_p at_q one two =
    parted_some image c d e p q x y same first second at_p at_q one two

pub parted_bytes : {T E : Type 0} (r : Result T E) (a e : Option (List ℕ)) (x y : ℤ) → OnOk r (Parts a e x y)
    → OnOk r (IfSome a (λ image. (s : Registry) (m : Members) → Holds image s m → MayLeave x y m → e ≡ Some (after_part x y image)))
parted_bytes (Err f) a e x y is = tt
parted_bytes (Ok v) None e x y is = tt
parted_bytes (Ok v) (Some image) e x y is = λ s m h may. (is s m h may).0

pub parted_holds : {T E : Type 0} (r : Result T E) (a e : Option (List ℕ)) (x y : ℤ) → OnOk r (Parts a e x y)
    → OnOk r
    (IfSome a
    (λ image. (s : Registry) (m : Members) → Holds image s m → MayLeave x y m → IsSomeAnd e (λ after. Holds after s (without_pair x y m))))
parted_holds (Err f) a e x y is = tt
parted_holds (Ok v) None e x y is = tt
parted_holds (Ok v) (Some image) e x y is = λ s m h may. (is s m h may).1

-- ---- faults of a pair less

abbrev HoldsPart : (x y : ℤ) → List ℕ → Type 0
HoldsPart x y image = (r : Registry) × (m : Members) × Holds image r m × MayLeave x y m

pair_lists : (image : List ℕ) (r : Registry) (m : Members) (x y : ℤ) (h : Holds image r m) → MayLeave x y m
    → HoldsLists image r h.pairs.lists
pair_lists image r m x y h may =
    subst (λ (i : List ℕ). HoldsLists i r h.pairs.lists) (whole_pair image r m x y h may) (holds_lists image r m h)

leaver_so : (a : Option (List ℕ)) (x y : ℤ) → IfSome a (λ image. HoldsPart x y image → HasEntry x image)
leaver_so None x y = tt
leaver_so (Some image) x y = λ q. (q.0, q.2.pairs.lists, (pair_lists image q.0 q.1 x y q.2 q.3).has, (q.2.pairs.valid x y q.3).2)

left_so : (a : Option (List ℕ)) (x y : ℤ) → IfSome a (λ image. HoldsPart x y image → HasEntry y image)
left_so None x y = tt
left_so (Some image) x y = λ q. (q.0, q.2.pairs.lists, (pair_lists image q.0 q.1 x y q.2 q.3).has, (q.2.pairs.valid x y q.3).3)

pub part_member_fault : (a : Option (List ℕ)) (x y : ℤ) (fault : RecordFault) → HasCause a (HasEntry x) fault
    → HasCauseWhere (λ r. MayLeave x y) a fault
part_member_fault a x y fault cause = cause_so a (HasEntry x) (HoldsPart x y) fault cause (leaver_so a x y)

pub part_group_fault : (a b : Option (List ℕ)) (x y : ℤ) (fault : RecordFault) → b ≡ a → HasCause b (HasEntry y) fault
    → HasCauseWhere (λ r. MayLeave x y) a fault
part_group_fault a b x y fault same cause =
    cause_so a (HasEntry y) (HoldsPart x y) fault (subst (λ (o : Option (List ℕ)). HasCause o (HasEntry y) fault) same cause)
    (left_so a x y)

part_one_so : (a : Option (List ℕ)) (p : Place) (x y : ℤ) → Stands a p → IfSome a (λ image. HoldsPart x y image → HoldsPlace p y image)
part_one_so None p x y at = tt
part_one_so (Some image) p x y at = λ q.
    let hl = pair_lists image q.0 q.1 x y q.2 q.3 in
    (q.0, q.2.pairs.lists, hl, at q.0 q.2.pairs.lists hl.has, (q.2.pairs.valid x y q.3).3)

pub part_one_fault : (a c : Option (List ℕ)) (p : Place) (x y : ℤ) (fault : RecordFault) → c ≡ a → Stands a p
    → HasCause c (HoldsPlace p y) fault → HasCauseWhere (λ r. MayLeave x y) a fault
part_one_fault a c p x y fault same at cause =
    cause_so a (HoldsPlace p y) (HoldsPart x y) fault (subst (λ (o : Option (List ℕ)). HasCause o (HoldsPlace p y) fault) same cause)
    (part_one_so a p x y at)

half_left : (image : List ℕ) (r : Registry) (m : Members) (p q : Place) (x y : ℤ) (h : Holds image r m) → MayLeave x y m → p.entry ≡ x
    → q.entry ≡ y → IsPlace (whole image) r h.pairs.lists p → IsPlace (whole image) r h.pairs.lists q
    → HoldsPlace q x (loses p y (whole image))
half_left image r m p q x y h may first second at_p at_q =
    let w = whole image in
    let lists = h.pairs.lists in
    let v = h.pairs.valid x y may in
    let s_p = stands w r lists p x first at_p in
    let s : HasHalf w (lost p.found.number x (block_in w p.found.number) (lists x) y w) r lists x p.found.number =
    half_parted image r m x y p.found.number h may s_p in
    subst (λ (i : List ℕ). HoldsPlace q x i) (sym (loses_at w w r lists p x y first at_p))
    (then_place w (lost p.found.number x (block_in w p.found.number) (lists x) y w) r lists p q x y (up_down x y v.0 v.1) first second at_p
    at_q s v.2)

part_two_so : (a : Option (List ℕ)) (p q : Place) (x y : ℤ) → p.entry ≡ x → q.entry ≡ y → Stands a p → Stands a q
    → IfSome a (λ image. HoldsPart x y image → HoldsPlace q x (loses p y image))
part_two_so None p q x y first second at_p at_q = tt
part_two_so (Some image) p q x y first second at_p at_q = λ j.
    let same = whole_pair image j.0 j.1 x y j.2 j.3 in
    subst (λ (i : List ℕ). HoldsPlace q x (loses p y i)) same
    (half_left image j.0 j.1 p q x y j.2 j.3 first second (place_whole image j.0 j.1 p x y j.2 j.3 at_p)
    (place_whole image j.0 j.1 q x y j.2 j.3 at_q))

pub part_two_err : {T : Type 0} (r : Result T RecordFault) (a c d : Option (List ℕ)) (p q : Place) (x y : ℤ) → c ≡ a → p.entry ≡ x
    → q.entry ≡ y → Stands a p → Stands a q
    → d ≡ option_map (loses p y) c → IfErr r (HasCause d (HoldsPlace q x)) → IfErr r (HasCauseWhere (λ s. MayLeave x y) a)
part_two_err r a c d p q x y same first second at_p at_q one err =
    err_so r (HasCause d (HoldsPlace q x)) (HasCauseWhere (λ s. MayLeave x y) a) err
    (λ fault cause.
    fault_before (loses p y) a d (HoldsPlace q x) (HoldsPart x y) fault (one ∙ ap (option_map (loses p y)) same) cause
    (part_two_so a p q x y first second at_p at_q))
