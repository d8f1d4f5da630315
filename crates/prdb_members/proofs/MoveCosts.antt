-- How many bytes another id of an entry asks for.
use Rattle.std.proofs.Common.{◌≡◌, true, ℕ, ℤ, ◌+◌, ◌*◌, ◌<◌, ◌≤◌, inl, inr, List, [], ◌∷◌, length, get_or, take, Option, Some, None, IfSome, IsSome, refl, sym, ap, subst, ◌∙◌, arith}
use Rattle.std.proofs.Math.Nat.{mul-le-mul_left}
use Rattle.db_image.specs.Asked.{AsksAtMost}
use Rattle.db_image.specs.Draft.{put_cost}
use Rattle.db_image.specs.declared.services.Layout.{Layout}
use Rattle.db_image.proofs.ReadSteps.{asks_none, asks_then}
use Rattle.db_chains.specs.Chains.{HasChain}
use Rattle.db_chains.specs.Ends.{walk_cost}
use Rattle.db_chains.specs.declared.links.Links.{Links}
use Rattle.prdb_layout.specs.Registry.{Registry}
use Rattle.prdb_layout.proofs.Changed.{by_id}
use Rattle.entry_scans.specs.Lists.{IsListOf}
use Rattle.prdb_lists.specs.Changes.{blocks_for}
use Rattle.prdb_lists.specs.Layout.{PairList}
use Rattle.prdb_lists.specs.Members.{Members, are_paired}
use Rattle.prdb_lists.specs.Moves.{MayMove}
use Rattle.prdb_lists.specs.Sides.{IsPlace, set_list}
use Rattle.prdb_lists.specs.declared.sides.Place.{Place}
use Rattle.prdb_lists.proofs.MoveEnds.{one_list}
use Rattle.prdb_lists.proofs.Moved.{AreAll}
use Rattle.prdb_lists.proofs.MovedIds.{moved_list, moved_lists}
use Rattle.prdb_lists.proofs.Side.{set_other, set_same}
use Rattle.prdb_finds.specs.Keys.{id_chain, id_key}
use Rattle.prdb_finds.specs.Places.{id_links}
use Rattle.prdb_finds.specs.Records.{Holds, whole}
use Rattle.prdb_members.specs.Costs.{AreAtMost, IsOneOf, list_cost, move_cost, rechain_cost, relist_cost}
use Rattle.prdb_members.specs.Sides.{HasLists}
use Rattle.prdb_members.proofs.Costs.{PlaceCostsOf, costs_within}
use Rattle.prdb_members.proofs.Ends.{Stands}
use Rattle.prdb_members.proofs.Found.{Costs}
use Rattle.prdb_members.proofs.Kept.{chain_kept, words_kept}
use Rattle.prdb_members.proofs.Listed.{listed_at, lists_of, more_length, place_of}
use Rattle.prdb_members.proofs.MoveEnds.{FindsAll, InMoves, midst, midst_has, whole_is}

-- ---- one list

abbrev pub RelistCostsOf : Option (List ℕ) → Layout → (id : ℤ) → (before after : Option ℕ) → Type 0
RelistCostsOf bytes layout id before after =
    IfSome bytes
    (λ image. (r : Registry) (lists : ℤ → PairList) (ws : List ℕ) (blocks : ℕ) → HasLists image r lists
    → HasChain id_links image (id_chain id) ws → (IsSome (r.entry id) → length (lists id).more ≤ blocks)
    → AsksAtMost (relist_cost layout (length ws) blocks) before after)

read_fits : (a b : ℕ) → a ≤ a + b
read_fits a b = omega arith

pub relist_read : (bytes : Option (List ℕ)) (layout : Layout) (id : ℤ) (a b : Option ℕ) → PlaceCostsOf bytes id a b
    → RelistCostsOf bytes layout id a b
relist_read None layout id a b cost = tt
relist_read (Some image) layout id a b cost = λ r lists ws blocks h chain few.
    costs_within (list_cost (length ws) blocks) (relist_cost layout (length ws) blocks) a b
    (read_fits (list_cost (length ws) blocks) (put_cost layout 192 * (blocks + 1))) (cost r lists ws blocks h chain few)

written_fits : (a p n blocks : ℕ) → p * (n + 1) ≤ p * (blocks + 1) → a + p * (n + 1) ≤ a + p * (blocks + 1)
written_fits a p n blocks fits = omega arith

pub relist_written : (bytes : Option (List ℕ)) (p : Place) (layout other : Layout) (id : ℤ) (n : ℕ) (a b c : Option ℕ) → p.entry ≡ id
    → Stands bytes p → n ≡ length p.listed.more.items → other ≡ layout → PlaceCostsOf bytes id a b
    → AsksAtMost (put_cost other 192 * (n + 1)) b c → RelistCostsOf bytes layout id a c
relist_written None p layout other id n a b c same at count is read written = tt
relist_written (Some image) p layout other id n a b c same at count is read written = λ r lists ws blocks h chain few.
    let place : IsPlace image r lists p = at r lists h in
    let there : IsSome (r.entry id) = subst (λ (x : ℤ). IsSome (r.entry x)) same place.there in
    let long : n ≡ length (lists id).more = count ∙ ap length place.more ∙ ap (λ (x : ℤ). length (lists x).more) same in
    let within : n ≤ blocks = omega (arith, long, few there) in
    asks_then (list_cost (length ws) blocks) (put_cost layout 192 * (n + 1)) (relist_cost layout (length ws) blocks) a b c
    (read r lists ws blocks h chain few) (subst (λ (l : Layout). AsksAtMost (put_cost l 192 * (n + 1)) b c) is written)
    (written_fits (list_cost (length ws) blocks) (put_cost layout 192) n blocks
    (mul-le-mul_left (put_cost layout 192) (omega arith)))

-- ---- an entry and those that it is paired with

-- a list of the image before
list_before : (image : List ℕ) (r : Registry) (m : Members) (old : ℤ) (others : List ℤ) (words blocks : ℕ) (x : ℤ) (h : Holds image r m)
    → AreAtMost image m old others words blocks → IsOneOf old others x → IsSome (r.entry x) → length (h.pairs.lists x).more ≤ blocks
list_before image r m old others words blocks x h most one there =
    let lists = h.pairs.lists in
    let hl = lists_of image r m h in
    let p = place_of (whole image) r lists x hl there in
    let listed = listed_at (whole image) r lists x p.k hl p.at in
    let count = more_length (whole image) r lists x p.k hl p.at in
    let few = most.lists x one (lists x).ids
    record { ascending = listed.ascending; each = h.pairs.each x there; all = h.pairs.all x there } in
    omega (arith, count, few)

-- another id in a list leaves its blocks
more_stays : (old new : ℤ) (entries : List ℤ) (lists : ℤ → PairList) (x : ℤ) → (moved_lists old new entries lists x).more ≡ (lists x).more
more_stays old new [] lists x = refl
more_stays old new (y ∷ entries) lists x =
    let l = moved_list old new (lists y) in
    more_stays old new entries (set_list y l lists) x
    ∙ by_id x y
    (λ same. ap (λ (k : PairList). k.more) (set_same y x l lists same) ∙ ap (λ (z : ℤ). (lists z).more) (sym same))
    (λ other. ap (λ (k : PairList). k.more) (set_other y x l lists other))

steps_fit : (w words blocks rest : ℕ) → w ≤ words → 4 + 192 * (w + blocks) + rest ≤ 4 + 192 * (words + blocks) + rest
steps_fit w words blocks rest few = omega arith

step_cost : (image : List ℕ) (r : Registry) (m : Members) (layout : Layout) (old new : ℤ) (others : List ℤ) (i words blocks : ℕ) (x : ℤ)
    (a b : Option ℕ) (h : Holds image r m) → MayMove old new r → AreAll m old others → AreAtMost image m old others words blocks
    → IsOneOf old others x
    → RelistCostsOf (Some (midst old new others i image)) layout x a b → AsksAtMost (relist_cost layout words blocks) a b
step_cost image r m layout old new others i words blocks x a b h may list most one cost =
    let w = whole image in
    let mid = midst old new others i image in
    let lists = moved_lists old new (take i others) h.pairs.lists in
    let these = midst_has image r m old new others i h may list in
    let v = h.chains.ids (id_key x) (omega arith) in
    let first : HasChain id_links image (id_chain x) v.words =
    subst (λ (j : List ℕ). HasChain id_links j (id_chain x) v.words) (whole_is image r m old new h may) v.chain in
    let chain : HasChain id_links mid (id_chain x) v.words =
    chain_kept 100 w mid (id_chain x) v.words (omega arith) (omega arith) (words_kept w mid these.keeps)
    (these.keeps.head (id_chain x) (omega arith) (omega arith)) v.chain in
    costs_within (relist_cost layout (length v.words) blocks) (relist_cost layout words blocks) a b
    (steps_fit (length v.words) words blocks (put_cost layout 192 * (blocks + 1)) (most.chains x one v.words first))
    (cost r lists v.words blocks these.has chain
    (λ there.
    let few = list_before image r m old others words blocks x h most one there in
    omega (arith, few, ap length (more_stays old new (take i others) h.pairs.lists x))))

-- ---- after some of the others

abbrev pub MovingCosts : Option (List ℕ) → Layout → (old new : ℤ) → (others : List ℤ) → (done : ℕ) → (before after : Option ℕ) → Type 0
MovingCosts bytes layout old new others done before after =
    InMoves bytes old new
    (λ image r m. (words blocks : ℕ) → AreAtMost image m old others words blocks
    → AsksAtMost (list_cost words blocks + relist_cost layout words blocks * done) before after)

first_fits : (w n words blocks : ℕ) → w ≤ words → n ≤ blocks → 4 + 192 * (w + n) ≤ 4 + 192 * (words + blocks)
first_fits w n words blocks few fewer = omega arith

first_cost : (image : List ℕ) (r : Registry) (m : Members) (old new : ℤ) (others : List ℤ) (words blocks : ℕ) (a b : Option ℕ)
    → Holds image r m → MayMove old new r → AreAll m old others → AreAtMost image m old others words blocks
    → Costs (Some image) old a b → AsksAtMost (list_cost words blocks) a b
first_cost image r m old new others words blocks a b h may list most cost =
    let v = h.chains.ids (id_key old) (omega arith) in
    let chain : HasChain id_links image (id_chain old) v.words =
    subst (λ (j : List ℕ). HasChain id_links j (id_chain old) v.words) (whole_is image r m old new h may) v.chain in
    costs_within (list_cost (length v.words) (blocks_for (length others))) (list_cost words blocks) a b
    (first_fits (length v.words) (blocks_for (length others)) words blocks (most.chains old (inl refl) v.words chain)
    (most.lists old (inl refl) others list))
    (cost r m v.words others h chain list)

pub costs_first : (bytes : Option (List ℕ)) (layout : Layout) (old new : ℤ) (others : List ℤ) (a b : Option ℕ) → FindsAll bytes old others
    → Costs bytes old a b → MovingCosts bytes layout old new others 0 a b
costs_first None layout old new others a b list cost = tt
costs_first (Some image) layout old new others a b list cost = λ r m h may words blocks most.
    costs_within (list_cost words blocks) (list_cost words blocks + relist_cost layout words blocks * 0) a b
    (read_fits (list_cost words blocks) (relist_cost layout words blocks * 0))
    (first_cost image r m old new others words blocks a b h may (list r m h) most cost)

next_fits : (l c i : ℕ) → l + c * i + c ≤ l + c * (i + 1)
next_fits l c i = omega arith

next_cost : (bytes now : Option (List ℕ)) (layout other : Layout) (old new : ℤ) (others : List ℤ) (i : ℕ) (x : ℤ) (a b c : Option ℕ)
    → FindsAll bytes old others → IsOneOf old others x → other ≡ layout
    → InMoves bytes old new (λ image r m. now ≡ Some (midst old new others i image))
    → MovingCosts bytes layout old new others i a b → RelistCostsOf now other x b c → MovingCosts bytes layout old new others (i + 1) a c
next_cost None now layout other old new others i x a b c list one same is before cost = tt
next_cost (Some image) now layout other old new others i x a b c list one same is before cost = λ r m h may words blocks most.
    let here : RelistCostsOf (Some (midst old new others i image)) layout x b c =
    subst (λ (o : Option (List ℕ)). RelistCostsOf o layout x b c) (is r m h may)
    (subst (λ (l : Layout). RelistCostsOf now l x b c) same cost) in
    asks_then (list_cost words blocks + relist_cost layout words blocks * i) (relist_cost layout words blocks)
    (list_cost words blocks + relist_cost layout words blocks * (i + 1)) a b c (before r m h may words blocks most)
    (step_cost image r m layout old new others i words blocks x b c h may (list r m h) most one here)
    (next_fits (list_cost words blocks) (relist_cost layout words blocks) i)

pub costs_more : (bytes now : Option (List ℕ)) (layout other : Layout) (old new : ℤ) (others : List ℤ) (i : ℕ) (x : ℤ) (a b c : Option ℕ)
    → FindsAll bytes old others → i < length others → x ≡ get_or others i x → other ≡ layout
    → InMoves bytes old new (λ image r m. now ≡ Some (midst old new others i image))
    → MovingCosts bytes layout old new others i a b → RelistCostsOf now other x b c → MovingCosts bytes layout old new others (i + 1) a c
costs_more bytes now layout other old new others i x a b c list below is =
    next_cost bytes now layout other old new others i x a b c list (inr (i, below, sym is))

pub costs_put : (bytes now : Option (List ℕ)) (layout other : Layout) (old new : ℤ) (others : List ℤ) (i : ℕ) (a b c : Option ℕ)
    → FindsAll bytes old others → other ≡ layout
    → InMoves bytes old new (λ image r m. now ≡ Some (midst old new others i image))
    → MovingCosts bytes layout old new others i a b → RelistCostsOf now other old b c → MovingCosts bytes layout old new others (i + 1) a c
costs_put bytes now layout other old new others i a b c list =
    next_cost bytes now layout other old new others i old a b c list (inl refl)

-- ---- all of it

abbrev pub MoveCostsOf : Option (List ℕ) → Layout → (len : ℕ) → (old new : ℤ) → (before after : Option ℕ) → Type 0
MoveCostsOf bytes layout len old new before after =
    IfSome bytes
    (λ image. (r : Registry) (m : Members) (others : List ℤ) (words blocks : ℕ) → Holds image r m → MayMove old new r
    → IsListOf (λ other. are_paired m old other ≡ true) others → AreAtMost image m old others words blocks
    → AsksAtMost (move_cost layout len (length others) words blocks) before after)

first_of_three : (a b c : ℕ) → a ≤ a + b + c
first_of_three a b c = omega arith

pub costs_read : (bytes : Option (List ℕ)) (layout : Layout) (len : ℕ) (old new : ℤ) (a b : Option ℕ) → Costs bytes old a b
    → MoveCostsOf bytes layout len old new a b
costs_read None layout len old new a b cost = tt
costs_read (Some image) layout len old new a b cost = λ r m others words blocks h may list most.
    let rest = relist_cost layout words blocks * (length others + 1) in
    costs_within (list_cost words blocks) (list_cost words blocks + rest + rechain_cost layout len) a b
    (first_of_three (list_cost words blocks) rest (rechain_cost layout len))
    (first_cost image r m old new others words blocks a b h may list most cost)

all_fit : (l c n count rest more : ℕ) → n ≤ count + 1 → c * n ≤ c * (count + 1) → more ≤ rest
    → l + c * n + more ≤ l + c * (count + 1) + rest
all_fit l c n count rest more few fits fewer = omega arith

-- the steps so far, and so many bytes more
all_costs : (bytes : Option (List ℕ)) (layout : Layout) (len : ℕ) (old new : ℤ) (others : List ℤ) (n more : ℕ) (a b c : Option ℕ)
    → FindsAll bytes old others → n ≤ length others + 1 → more ≤ rechain_cost layout len
    → MovingCosts bytes layout old new others n a b → AsksAtMost more b c → MoveCostsOf bytes layout len old new a c
all_costs None layout len old new others n more a b c list few fits before cost = tt
all_costs (Some image) layout len old new others n more a b c list few fits before cost = λ r m all words blocks h may is_all most.
    let same : all ≡ others = one_list m old all others is_all (list r m h) in
    let here : AreAtMost image m old others words blocks = subst (λ (l : List ℤ). AreAtMost image m old l words blocks) same most in
    let one = relist_cost layout words blocks in
    let count : length all ≡ length others = ap length same in
    asks_then (list_cost words blocks + one * n) more (list_cost words blocks + one * (length all + 1) + rechain_cost layout len) a b c
    (before r m h may words blocks here) cost
    (all_fit (list_cost words blocks) one n (length all) (rechain_cost layout len) more (omega (arith, few, count))
    (mul-le-mul_left one (omega (arith, few, count))) fits)

pub costs_stop : (bytes : Option (List ℕ)) (layout : Layout) (len : ℕ) (old new : ℤ) (others : List ℤ) (n : ℕ) (a b : Option ℕ)
    → FindsAll bytes old others → n ≤ length others + 1 → MovingCosts bytes layout old new others n a b
    → MoveCostsOf bytes layout len old new a b
costs_stop bytes layout len old new others n a b list few before =
    all_costs bytes layout len old new others n 0 a b b list few (omega arith) before (asks_none 0 b)

pub costs_end : (bytes : Option (List ℕ)) (layout other : Layout) (len size : ℕ) (old new : ℤ) (others : List ℤ) (n : ℕ) (a b c : Option ℕ)
    → FindsAll bytes old others → n ≤ length others + 1 → other ≡ layout → size ≡ len
    → MovingCosts bytes layout old new others n a b → AsksAtMost (rechain_cost other size) b c
    → MoveCostsOf bytes layout len old new a c
costs_end bytes layout other len size old new others n a b c list few same long before cost =
    all_costs bytes layout len old new others n (rechain_cost layout len) a b c list few (omega arith) before
    (subst (λ (l : Layout). AsksAtMost (rechain_cost l len) b c) same
    (subst (λ (s : ℕ). AsksAtMost (rechain_cost other s) b c) long cost))

-- ---- from one chain to the other

out_fits : (w p : ℕ) → w + 4 + 2 * p ≤ w + 2 * (4 + 2 * p)
out_fits w p = omega arith

out_cost : (layout : Layout) (len : ℕ) (l : Links) (a b : Option ℕ) → l ≡ id_links
    → AsksAtMost (walk_cost l len + 4 + 2 * put_cost layout 4) a b
    → AsksAtMost (walk_cost id_links len + 4 + 2 * put_cost layout 4) a b
out_cost layout len l a b is cost = subst (λ (k : Links). AsksAtMost (walk_cost k len + 4 + 2 * put_cost layout 4) a b) is cost

pub rechain_out : (layout : Layout) (len : ℕ) (l : Links) (a b : Option ℕ) → l ≡ id_links
    → AsksAtMost (walk_cost l len + 4 + 2 * put_cost layout 4) a b → AsksAtMost (rechain_cost layout len) a b
rechain_out layout len l a b is cost =
    costs_within (walk_cost id_links len + 4 + 2 * put_cost layout 4) (rechain_cost layout len) a b
    (out_fits (walk_cost id_links len) (put_cost layout 4)) (out_cost layout len l a b is cost)

both_fit : (w p : ℕ) → w + 4 + 2 * p + (4 + 2 * p) ≤ w + 2 * (4 + 2 * p)
both_fit w p = omega arith

pub rechain_both : (layout other : Layout) (len : ℕ) (l : Links) (a b c : Option ℕ) → l ≡ id_links → other ≡ layout
    → AsksAtMost (walk_cost l len + 4 + 2 * put_cost layout 4) a b → AsksAtMost (4 + 2 * put_cost other 4) b c
    → AsksAtMost (rechain_cost layout len) a c
rechain_both layout other len l a b c is same out into =
    asks_then (walk_cost id_links len + 4 + 2 * put_cost layout 4) (4 + 2 * put_cost layout 4) (rechain_cost layout len) a b c
    (out_cost layout len l a b is out) (subst (λ (m : Layout). AsksAtMost (4 + 2 * put_cost m 4) b c) same into)
    (both_fit (walk_cost id_links len) (put_cost layout 4))
