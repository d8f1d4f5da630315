-- Both sides of a pair more.
use Rattle.std.proofs.Common.{◌≡◌, ◌≢◌, ℕ, ℤ, ◌<◌, List, sym, ap, subst, ◌∙◌, arith}
use Rattle.db_blocks.specs.Blocks.{IsWhole, kind_of}
use Rattle.prdb_layout.specs.Blocks.{block_count}
use Rattle.prdb_layout.specs.Records.{block_in, entry_in, whole as entries_whole}
use Rattle.prdb_layout.specs.Registry.{Registry}
use Rattle.prdb_layout.specs.State.{PrEntry}
use Rattle.prdb_layout.proofs.LaidOut.{whole_same as entries_same}
use Rattle.prdb_lists.specs.Changes.{gained as plain_gained}
use Rattle.prdb_lists.specs.Layout.{HoldsPairs, PairList}
use Rattle.prdb_lists.specs.Lists.{ids_with}
use Rattle.prdb_lists.specs.Members.{MayJoin, Members, with_pair}
use Rattle.prdb_lists.specs.Sides.{HasLists as HasPlainLists, HoldsLists as HoldsPlain, IsRelisted, set_list}
use Rattle.prdb_lists.proofs.Both.{join as plain_join, lists_of as plain_lists, no_pair, up_down}
use Rattle.prdb_lists.proofs.Gains.{gain as plain_gain}
use Rattle.prdb_lists.proofs.Relist.{StandsAt}
use Rattle.prdb_lists.proofs.Side.{set_other}
use Rattle.prdb_finds.specs.Records.{AreChains, Holds, whole}
use Rattle.prdb_finds.specs.Unchained.{unchained}
use Rattle.prdb_finds.proofs.Told.{whole_same}
use Rattle.prdb_finds.proofs.Without.{unchained_len}
use Rattle.prdb_members.specs.Changes.{after_join, gained, with_id}
use Rattle.prdb_members.specs.Sides.{HasLists, HoldsLists}
use Rattle.prdb_members.proofs.Gains.{IsSide, gain, gained_is}
use Rattle.prdb_members.proofs.Kept.{KeepsEntries}
use Rattle.prdb_members.proofs.Listed.{lists_of, stands_plain}

-- an entry's block stands where it stood
pub stands_on : (old new : List ℕ) (x : ℤ) (k : ℕ) → KeepsEntries old new → StandsAt old x k → StandsAt new x k
stands_on old new x k keeps at = record {
  below = omega (arith, at.below, keeps.longer);
  kind = keeps.kind k at.below at.kind;
  id = ap (λ (e : PrEntry). e.id) (keeps.entry k at.below at.kind) ∙ at.id;
}

-- the places of two entries differ
pub apart : (image : List ℕ) (a b : ℤ) (j k : ℕ) → a ≢ b → StandsAt image a j → StandsAt image b k → k ≢ j
apart image a b j k other at_a at_b same = other (sym at_a.id ∙ ap (λ (i : ℕ). (entry_in (block_in image i)).id) (sym same) ∙ at_b.id)

-- an image that holds pairs without the words of chains, and has its chains, holds them
pub holds_of : (image new plain : List ℕ) (k : ℕ) (r : Registry) (m : Members) → IsSide image new plain k → HoldsPairs plain r m
    → Holds new r m
holds_of image new plain k r m side pairs =
    let size : IsWhole 2112 new = side.keeps.size in
    let same : whole new ≡ new = whole_same new (omega (arith, size)) in record {
      size = subst (λ (i : List ℕ). IsWhole 2112 i) (sym same) size;
      pairs = subst (λ (i : List ℕ). HoldsPairs i r m) (sym side.same ∙ ap unchained (sym same)) pairs;
      chains = subst AreChains (sym same) side.chains;
    }

-- without the words of chains it is not empty
pub plain_whole : (image : List ℕ) → IsWhole 2112 image → entries_whole (unchained image) ≡ unchained image
plain_whole image size = entries_same (unchained image) (omega (arith, unchained_len image size))

-- what it has behind the first side
pub lists_then : (image new plain : List ℕ) (r : Registry) (lists : ℤ → PairList) (k n : ℕ) (x : ℤ) (ids : List ℤ)
    → IsSide image new plain k → (s : IsRelisted (unchained image) plain n r lists k x ids) → HasLists new r (set_list x s.list lists)
lists_then image new plain r lists k n x ids side s = record {
  size = side.keeps.size;
  without = subst (λ (i : List ℕ). HasPlainLists i r (set_list x s.list lists)) (sym side.same) s.holds.has;
  chains = side.chains;
}

-- what holds between the two sides
pub record HasHalf (old new : List ℕ) (r : Registry) (lists : ℤ → PairList) (x : ℤ) (k : ℕ) : Type 0 where
  pub list : PairList
  pub holds : HoldsLists new r (set_list x list lists)
  pub keeps : KeepsEntries old new
  pub others : (j : ℕ) → j < block_count old → j ≢ k → kind_of (block_in old j) ≡ 1 → block_in new j ≡ block_in old j

pub half_of : (image new plain : List ℕ) (r : Registry) (lists : ℤ → PairList) (k n : ℕ) (x : ℤ) (ids : List ℤ)
    → IsSide image new plain k → IsRelisted (unchained image) plain n r lists k x ids → HasHalf image new r lists x k
half_of image new plain r lists k n x ids side s = record {
  list = s.list;
  holds = record { has = lists_then image new plain r lists k n x ids side s; members = s.holds.members };
  keeps = side.keeps;
  others = side.others;
}

-- the lists without the words of chains
pub plain_holds : (image : List ℕ) (r : Registry) (m : Members) (h : Holds image r m) → HoldsPlain (unchained (whole image)) r h.pairs.lists
plain_holds image r m h =
    subst (λ (i : List ℕ). HoldsPlain i r h.pairs.lists) (plain_whole (whole image) h.size)
    (plain_lists (unchained (whole image)) r m h.pairs)

-- a list before a change of a pair, without the words of chains
plain_first : (image : List ℕ) (r : Registry) (m : Members) (a b : ℤ) (ka : ℕ) (h : Holds image r m) → MayJoin a b r m
    → StandsAt (whole image) a ka
    → IsRelisted (unchained (whole image))
    (plain_gained ka a (block_in (unchained (whole image)) ka) (h.pairs.lists a) b (unchained (whole image))) 192 r h.pairs.lists ka a
    (ids_with b (h.pairs.lists a).ids)
plain_first image r m a b ka h may at_a =
    plain_gain (unchained (whole image)) r h.pairs.lists a b ka (plain_holds image r m h) (stands_plain (whole image) a ka h.size at_a)
    may.member_there may.group_there
    (λ has. no_pair r m a b h.pairs.valid may (h.pairs.each a may.member_there b has))

pub half_joined : (image : List ℕ) (r : Registry) (m : Members) (a b : ℤ) (ka : ℕ) (h : Holds image r m) → MayJoin a b r m
    → StandsAt (whole image) a ka
    → HasHalf (whole image) (gained ka a (block_in (whole image) ka) (h.pairs.lists a) b (whole image)) r h.pairs.lists a ka
half_joined image r m a b ka h may at_a =
    let w = whole image in
    let lists = h.pairs.lists in
    half_of w (gained ka a (block_in w ka) (lists a) b w) (plain_gained ka a (block_in (unchained w) ka) (lists a) b (unchained w)) r lists
    ka 192 a (ids_with b (lists a).ids) (gain w r lists a b ka (lists_of image r m h) at_a may.member_there)
    (plain_first image r m a b ka h may at_a)

pub join : (image : List ℕ) (r : Registry) (m : Members) (a b : ℤ) (ka kb : ℕ) (h : Holds image r m) → MayJoin a b r m
    → StandsAt (whole image) a ka → StandsAt (whole image) b kb
    → (gained kb b (block_in (whole image) kb) (h.pairs.lists b) a
    (gained ka a (block_in (whole image) ka) (h.pairs.lists a) b (whole image))
    ≡ after_join a b image)
    × Holds
    (gained kb b (block_in (whole image) kb) (h.pairs.lists b) a
    (gained ka a (block_in (whole image) ka) (h.pairs.lists a) b (whole image))) r (with_pair a b m)
unfolding after_join
join image r m a b ka kb h may at_a at_b =
    let w = whole image in
    let u = unchained w in
    let lists = h.pairs.lists in
    let pu : entries_whole u ≡ u = plain_whole w h.size in
    let hl : HasLists w r lists = lists_of image r m h in
    let other : a ≢ b = up_down a b may.user may.group_id in
    let one = gained ka a (block_in w ka) (lists a) b w in
    let plain_one = plain_gained ka a (block_in u ka) (lists a) b u in
    let side_one : IsSide w one plain_one ka = gain w r lists a b ka hl at_a may.member_there in
    let plain_a = stands_plain w a ka h.size at_a in
    let plain_b = stands_plain w b kb h.size at_b in
    let s : IsRelisted u plain_one 192 r lists ka a (ids_with b (lists a).ids) =
    plain_first image r m a b ka h may at_a in
    let lists_one = set_list a s.list lists in
    let hl_one : HasLists one r lists_one = lists_then w one plain_one r lists ka 192 a (ids_with b (lists a).ids) side_one s in
    let differ : kb ≢ ka = apart w a b ka kb other at_a at_b in
    let at_b1 : StandsAt one b kb = stands_on w one b kb side_one.keeps at_b in
    let same_b : lists_one b ≡ lists b = set_other a b s.list lists (λ same. other (sym same)) in
    let two = gained kb b (block_in one kb) (lists_one b) a one in
    let plain_two = plain_gained kb b (block_in (unchained one) kb) (lists_one b) a (unchained one) in
    let side_two : IsSide one two plain_two kb =
    gain one r lists_one b a kb hl_one at_b1 may.group_there in
    let stood : block_in one kb ≡ block_in w kb = side_one.others kb at_b.below differ at_b.kind in
    let is_two : two ≡ gained kb b (block_in w kb) (lists b) a one =
    ap (λ (c : List ℕ). gained kb b c (lists_one b) a one) stood ∙ ap (λ (l : PairList). gained kb b (block_in w kb) l a one) same_b in
    let plain_stood : block_in plain_one kb ≡ block_in u kb = (s.others kb plain_b.below differ plain_b.kind).1 in
    let plain_is : plain_two ≡ plain_gained kb b (block_in u kb) (lists b) a plain_one =
    ap (λ (i : List ℕ). plain_gained kb b (block_in i kb) (lists_one b) a i) side_one.same
    ∙ ap (λ (c : List ℕ). plain_gained kb b c (lists_one b) a plain_one) plain_stood
    ∙ ap (λ (l : PairList). plain_gained kb b (block_in u kb) l a plain_one) same_b in
    let made = plain_join u r m a b ka kb h.pairs may (subst (λ (i : List ℕ). StandsAt i a ka) (sym pu) plain_a)
    (subst (λ (i : List ℕ). StandsAt i b kb) (sym pu) plain_b) in
    let plain_made : plain_gained kb b (block_in (entries_whole u) kb) (lists b) a
    (plain_gained ka a (block_in (entries_whole u) ka) (lists a) b (entries_whole u)) ≡ plain_two =
    ap (λ (i : List ℕ). plain_gained kb b (block_in i kb) (lists b) a (plain_gained ka a (block_in i ka) (lists a) b i)) pu ∙ sym plain_is in
    let holds : Holds two r (with_pair a b m) =
    holds_of one two plain_two kb r (with_pair a b m) side_two
    (subst (λ (i : List ℕ). HoldsPairs i r (with_pair a b m)) plain_made made.1) in
    let exact_one : with_id a b w ≡ one = gained_is w r lists a b ka hl at_a in
    let exact_two : with_id b a one ≡ two = gained_is one r lists_one b a kb hl_one at_b1 in (
      sym is_two ∙ sym exact_two ∙ ap (λ (i : List ℕ). with_id b a i) (sym exact_one),
      subst (λ (i : List ℕ). Holds i r (with_pair a b m)) is_two holds,
    )
