-- Both sides of a pair less.
use Rattle.std.proofs.Common.{◌≡◌, ◌≢◌, true, ℕ, ℤ, List, sym, ap, subst, ◌∙◌}
use Rattle.std.specs.List.{Contains}
use Rattle.prdb_layout.specs.Records.{block_in, whole as entries_whole}
use Rattle.prdb_layout.specs.Registry.{Registry}
use Rattle.prdb_lists.specs.Changes.{lost as plain_lost}
use Rattle.prdb_lists.specs.Layout.{HoldsPairs, PairList}
use Rattle.prdb_lists.specs.Lists.{ids_without}
use Rattle.prdb_lists.specs.Members.{MayLeave, Members, are_paired, without_pair}
use Rattle.prdb_lists.specs.Sides.{IsRelisted, set_list}
use Rattle.prdb_lists.proofs.Both.{part as plain_part, turned, up_down}
use Rattle.prdb_lists.proofs.Gains.{lose as plain_lose}
use Rattle.prdb_lists.proofs.RecordsKeep.{or_left}
use Rattle.prdb_lists.proofs.Relist.{StandsAt}
use Rattle.prdb_lists.proofs.Side.{set_other}
use Rattle.prdb_finds.specs.Records.{Holds, whole}
use Rattle.prdb_finds.specs.Unchained.{unchained}
use Rattle.prdb_members.specs.Changes.{after_part, lost, without_id}
use Rattle.prdb_members.specs.Sides.{HasLists}
use Rattle.prdb_members.proofs.Gains.{IsSide}
use Rattle.prdb_members.proofs.Joined.{HasHalf, apart, half_of, holds_of, lists_then, plain_holds, plain_whole, stands_on}
use Rattle.prdb_members.proofs.Listed.{lists_of, stands_plain}
use Rattle.prdb_members.proofs.Losses.{lose, lost_is}

-- a pair that is there
pub paired : (m : Members) (a b : ℤ) → MayLeave a b m → are_paired m a b ≡ true
paired m a b may = or_left (m.has a b) (m.has b a) may

-- the list of the member before it, without the words of chains
plain_first : (image : List ℕ) (r : Registry) (m : Members) (a b : ℤ) (ka : ℕ) (h : Holds image r m) → MayLeave a b m
    → StandsAt (whole image) a ka
    → IsRelisted (unchained (whole image))
    (plain_lost ka a (block_in (unchained (whole image)) ka) (h.pairs.lists a) b (unchained (whole image))) 0 r h.pairs.lists ka a
    (ids_without b (h.pairs.lists a).ids)
plain_first image r m a b ka h may at_a =
    let v = h.pairs.valid a b may in
    plain_lose (unchained (whole image)) r h.pairs.lists a b ka (plain_holds image r m h) (stands_plain (whole image) a ka h.size at_a) v.2
    (h.pairs.all a v.2 b (paired m a b may))

first_side : (image : List ℕ) (r : Registry) (m : Members) (a b : ℤ) (ka : ℕ) (h : Holds image r m) → MayLeave a b m
    → StandsAt (whole image) a ka
    → IsSide (whole image) (lost ka a (block_in (whole image) ka) (h.pairs.lists a) b (whole image))
    (plain_lost ka a (block_in (unchained (whole image)) ka) (h.pairs.lists a) b (unchained (whole image))) ka
first_side image r m a b ka h may at_a =
    let v = h.pairs.valid a b may in
    lose (whole image) r h.pairs.lists a b ka (lists_of image r m h) at_a v.2 (h.pairs.all a v.2 b (paired m a b may))

pub half_parted : (image : List ℕ) (r : Registry) (m : Members) (a b : ℤ) (ka : ℕ) (h : Holds image r m) → MayLeave a b m
    → StandsAt (whole image) a ka
    → HasHalf (whole image) (lost ka a (block_in (whole image) ka) (h.pairs.lists a) b (whole image)) r h.pairs.lists a ka
half_parted image r m a b ka h may at_a =
    let w = whole image in
    let lists = h.pairs.lists in
    half_of w (lost ka a (block_in w ka) (lists a) b w) (plain_lost ka a (block_in (unchained w) ka) (lists a) b (unchained w)) r lists
    ka 0 a (ids_without b (lists a).ids) (first_side image r m a b ka h may at_a) (plain_first image r m a b ka h may at_a)

pub part : (image : List ℕ) (r : Registry) (m : Members) (a b : ℤ) (ka kb : ℕ) (h : Holds image r m) → MayLeave a b m
    → StandsAt (whole image) a ka → StandsAt (whole image) b kb
    → (lost kb b (block_in (whole image) kb) (h.pairs.lists b) a
    (lost ka a (block_in (whole image) ka) (h.pairs.lists a) b (whole image))
    ≡ after_part a b image)
    × Holds
    (lost kb b (block_in (whole image) kb) (h.pairs.lists b) a
    (lost ka a (block_in (whole image) ka) (h.pairs.lists a) b (whole image))) r (without_pair a b m)
unfolding after_part
part image r m a b ka kb h may at_a at_b =
    let w = whole image in
    let u = unchained w in
    let lists = h.pairs.lists in
    let v = h.pairs.valid a b may in
    let pu : entries_whole u ≡ u = plain_whole w h.size in
    let other : a ≢ b = up_down a b v.0 v.1 in
    let one = lost ka a (block_in w ka) (lists a) b w in
    let plain_one = plain_lost ka a (block_in u ka) (lists a) b u in
    let side_one : IsSide w one plain_one ka = first_side image r m a b ka h may at_a in
    let plain_a = stands_plain w a ka h.size at_a in
    let plain_b = stands_plain w b kb h.size at_b in
    let s : IsRelisted u plain_one 0 r lists ka a (ids_without b (lists a).ids) = plain_first image r m a b ka h may at_a in
    let lists_one = set_list a s.list lists in
    let hl_one : HasLists one r lists_one = lists_then w one plain_one r lists ka 0 a (ids_without b (lists a).ids) side_one s in
    let differ = apart w a b ka kb other at_a at_b in
    let at_b1 : StandsAt one b kb = stands_on w one b kb side_one.keeps at_b in
    let same_b : lists_one b ≡ lists b = set_other a b s.list lists (λ same. other (sym same)) in
    let has : Contains (lists_one b).ids a =
    subst (λ (l : PairList). Contains l.ids a) (sym same_b) (h.pairs.all b v.3 a (turned m a b (paired m a b may))) in
    let two = lost kb b (block_in one kb) (lists_one b) a one in
    let plain_two = plain_lost kb b (block_in (unchained one) kb) (lists_one b) a (unchained one) in
    let side_two : IsSide one two plain_two kb = lose one r lists_one b a kb hl_one at_b1 v.3 has in
    let stood : block_in one kb ≡ block_in w kb = side_one.others kb at_b.below differ at_b.kind in
    let is_two : two ≡ lost kb b (block_in w kb) (lists b) a one =
    ap (λ (c : List ℕ). lost kb b c (lists_one b) a one) stood ∙ ap (λ (l : PairList). lost kb b (block_in w kb) l a one) same_b in
    let plain_stood : block_in plain_one kb ≡ block_in u kb = (s.others kb plain_b.below differ plain_b.kind).1 in
    let plain_is : plain_two ≡ plain_lost kb b (block_in u kb) (lists b) a plain_one =
    ap (λ (i : List ℕ). plain_lost kb b (block_in i kb) (lists_one b) a i) side_one.same
    ∙ ap (λ (c : List ℕ). plain_lost kb b c (lists_one b) a plain_one) plain_stood
    ∙ ap (λ (l : PairList). plain_lost kb b (block_in u kb) l a plain_one) same_b in
    let made = plain_part u r m a b ka kb h.pairs may (subst (λ (i : List ℕ). StandsAt i a ka) (sym pu) plain_a)
    (subst (λ (i : List ℕ). StandsAt i b kb) (sym pu) plain_b) in
    let plain_made : plain_lost kb b (block_in (entries_whole u) kb) (lists b) a
    (plain_lost ka a (block_in (entries_whole u) ka) (lists a) b (entries_whole u)) ≡ plain_two =
    ap (λ (i : List ℕ). plain_lost kb b (block_in i kb) (lists b) a (plain_lost ka a (block_in i ka) (lists a) b i)) pu ∙ sym plain_is in
    let holds : Holds two r (without_pair a b m) =
    holds_of one two plain_two kb r (without_pair a b m) side_two
    (subst (λ (i : List ℕ). HoldsPairs i r (without_pair a b m)) plain_made made.1) in
    let exact_one : without_id a b w ≡ one = lost_is w r lists a b ka (lists_of image r m h) at_a in
    let exact_two : without_id b a one ≡ two = lost_is one r lists_one b a kb hl_one at_b1 in (
      sym is_two ∙ sym exact_two ∙ ap (λ (i : List ℕ). without_id b a i) (sym exact_one),
      subst (λ (i : List ℕ). Holds i r (without_pair a b m)) is_two holds,
    )
