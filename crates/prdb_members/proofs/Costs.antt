-- How many bytes the steps of a change ask for together.
use Rattle.std.proofs.Common.{◌≡◌, true, ℕ, ℤ, ◌+◌, ◌*◌, ◌≤◌, List, [], ◌∷◌, length, Option, Some, None, IfSome, IsSome, ap, subst, ◌∙◌, arith}
use Rattle.std.specs.Option.{option_map}
use Rattle.std.proofs.Math.Nat.{mul-le-mul_left}
use Rattle.db_image.specs.Asked.{AsksAtMost}
use Rattle.db_image.specs.Draft.{put_cost}
use Rattle.db_image.specs.declared.services.Layout.{Layout}
use Rattle.db_image.proofs.ReadSteps.{asks_none, asks_then}
use Rattle.db_blocks.specs.declared.scans.Found.{Found}
use Rattle.db_chains.specs.Chains.{HasChain}
use Rattle.db_chains.specs.Free.{free_cost, take_cost}
use Rattle.prdb_layout.specs.Registry.{Registry}
use Rattle.entry_scans.specs.Lists.{IsListOf}
use Rattle.prdb_lists.specs.Changes.{blocks_for}
use Rattle.prdb_lists.specs.Layout.{PairList}
use Rattle.prdb_lists.specs.Members.{MayLeave, Members, are_paired}
use Rattle.prdb_lists.specs.Sides.{IsPlace}
use Rattle.prdb_lists.specs.declared.sides.Place.{Place}
use Rattle.prdb_lists.proofs.ListFound.{first_has_none}
use Rattle.prdb_lists.proofs.ListRead.{ListCosts as PairCosts}
use Rattle.prdb_lists.proofs.RecordsKeep.{true_false}
use Rattle.prdb_finds.specs.Keys.{id_chain}
use Rattle.prdb_finds.specs.Places.{free_blocks, id_links}
use Rattle.prdb_finds.specs.Records.{Holds, whole}
use Rattle.prdb_finds.proofs.Told.{whole_same}
use Rattle.prdb_members.specs.Costs.{gain_cost, join_cost, list_cost, lose_cost, part_cost}
use Rattle.prdb_members.specs.Found.{IsBlockOf}
use Rattle.prdb_members.specs.Sides.{HasLists}
use Rattle.prdb_members.proofs.Found.{ChainCosts, first_pairs}
use Rattle.prdb_members.proofs.Listed.{blocks_of, found_listed, found_stands, lists_of, stands_there}

pub costs_within : (m most : ℕ) (a b : Option ℕ) → m ≤ most → AsksAtMost m a b → AsksAtMost most a b
costs_within m most a b fits cost = asks_then m 0 most a b b cost (asks_none 0 b) (omega arith)

-- ---- the place of an entry

abbrev pub PlaceCostsOf : Option (List ℕ) → (id : ℤ) → (before after : Option ℕ) → Type 0
PlaceCostsOf bytes id before after =
    IfSome bytes
    (λ image. (r : Registry) (lists : ℤ → PairList) (ws : List ℕ) (blocks : ℕ) → HasLists image r lists
    → HasChain id_links image (id_chain id) ws → (IsSome (r.entry id) → length (lists id).more ≤ blocks)
    → AsksAtMost (list_cost (length ws) blocks) before after)

walk_fits : (w n : ℕ) → 4 + 192 * w ≤ 4 + 192 * (w + n)
walk_fits w n = omega arith

pub place_walk : (bytes : Option (List ℕ)) (id : ℤ) (a b : Option ℕ) → ChainCosts bytes id a b → PlaceCostsOf bytes id a b
place_walk None id a b walk = tt
place_walk (Some image) id a b walk = λ r lists ws blocks h chain few.
    costs_within (4 + 192 * length ws) (list_cost (length ws) blocks) a b (walk_fits (length ws) blocks) (walk ws chain)

list_fits : (w m n : ℕ) → m ≤ n → 4 + 192 * w + 192 * m ≤ 4 + 192 * (w + n)
list_fits w m n few = omega arith

pub place_read : (bytes : Option (List ℕ)) (id : ℤ) (f : Found) (a b c : Option ℕ) → IfSome bytes (λ image. IsBlockOf id image (Some f))
    → ChainCosts bytes id a b → PairCosts bytes id f.block b c → PlaceCostsOf bytes id a c
place_read None id f a b c is walk read = tt
place_read (Some image) id f a b c is walk read = λ r lists ws blocks h chain few.
    let there = stands_there image r lists id f.number h (found_stands image id f is) in
    asks_then (4 + 192 * length ws) (192 * length (lists id).more) (list_cost (length ws) blocks) a b c (walk ws chain)
    (read (lists id) (found_listed image r lists id f h is)) (list_fits (length ws) (length (lists id).more) blocks (few there))

-- ---- one side

write_fits : (t p n m blocks : ℕ) → n ≤ m → m ≤ blocks + 1 → p * (n + 1) ≤ p * (blocks + 2) → t + p * (n + 1) ≤ t + p * (blocks + 2)
write_fits t p n m blocks same few fits = omega arith

pub gain_written : (layout now : Layout) (n more blocks : ℕ) (a b c : Option ℕ) → now ≡ layout → n ≡ more → more ≤ blocks + 1
    → AsksAtMost (take_cost layout) a b → AsksAtMost (put_cost now 192 * (n + 1)) b c → AsksAtMost (gain_cost layout blocks) a c
gain_written layout now n more blocks a b c same count few first second =
    asks_then (take_cost layout) (put_cost layout 192 * (n + 1)) (gain_cost layout blocks) a b c first
    (subst (λ (l : Layout). AsksAtMost (put_cost l 192 * (n + 1)) b c) same second)
    (write_fits (take_cost layout) (put_cost layout 192) n more blocks (omega arith) few
    (mul-le-mul_left (put_cost layout 192) (omega arith)))

taken_fits : (t p blocks : ℕ) → t ≤ t + p * (blocks + 2)
taken_fits t p blocks = omega arith

pub gain_taken : (layout : Layout) (blocks : ℕ) (a b : Option ℕ) → AsksAtMost (take_cost layout) a b
    → AsksAtMost (gain_cost layout blocks) a b
gain_taken layout blocks a b first =
    costs_within (take_cost layout) (gain_cost layout blocks) a b (taken_fits (take_cost layout) (put_cost layout 192) blocks) first

-- ---- both sides

-- what one list costs, of an image that is read whole
abbrev pub PartCosts : Option (List ℕ) → (id : ℤ) → (before after : Option ℕ) → Type 0
PartCosts bytes id before after =
    IfSome bytes
    (λ image. (r : Registry) (m : Members) (ws : List ℕ) (ids : List ℤ) → Holds image r m
    → HasChain id_links (whole image) (id_chain id) ws → IsListOf (λ other. are_paired m id other ≡ true) ids
    → AsksAtMost (list_cost (length ws) (blocks_for (length ids))) before after)

pub free_part : (bytes : Option (List ℕ)) (id : ℤ) (asked : Option ℕ) → PartCosts bytes id asked asked
free_part None id asked = tt
free_part (Some image) id asked = λ r m ws ids h chain list. asks_none (list_cost (length ws) (blocks_for (length ids))) asked

pub place_part : (bytes now : Option (List ℕ)) (id : ℤ) (a b : Option ℕ) → now ≡ option_map whole bytes → PlaceCostsOf now id a b
    → PartCosts bytes id a b
place_part None now id a b is cost = tt
place_part (Some image) now id a b is cost = λ r m ws ids h chain list.
    let here = subst (λ (o : Option (List ℕ)). PlaceCostsOf o id a b) is cost in
    here r h.pairs.lists ws (blocks_for (length ids)) (lists_of image r m h) chain
    (λ there. omega (arith, blocks_of image r m id ids h list there))

-- and what is asked for where it is written
abbrev pub SideCosts : Option (List ℕ) → (id : ℤ) → (cost : ℕ → ℕ) → (before after : Option ℕ) → Type 0
SideCosts bytes id cost before after =
    IfSome bytes
    (λ image. (r : Registry) (m : Members) (ids : List ℤ) → Holds image r m → IsListOf (λ other. are_paired m id other ≡ true) ids
    → AsksAtMost (cost (blocks_for (length ids))) before after)

pub free_side : (bytes : Option (List ℕ)) (id : ℤ) (cost : ℕ → ℕ) (asked : Option ℕ) → SideCosts bytes id cost asked asked
free_side None id cost asked = tt
free_side (Some image) id cost asked = λ r m ids h list. asks_none (cost (blocks_for (length ids))) asked

pub side_part : (bytes now : Option (List ℕ)) (p : Place) (id : ℤ) (cost : ℕ → ℕ) (a b : Option ℕ) → now ≡ option_map whole bytes
    → p.entry ≡ id
    → IfSome now (λ image. (r : Registry) (lists : ℤ → PairList) → HasLists image r lists → IsPlace image r lists p)
    → AsksAtMost (cost (length p.listed.more.items)) a b → SideCosts bytes id cost a b
side_part None now p id cost a b is own stands asks = tt
side_part (Some image) now p id cost a b is own stands asks = λ r m ids h list.
    let here = subst (λ (o : Option (List ℕ)). IfSome o (λ i. (r : Registry) (lists : ℤ → PairList) → HasLists i r lists
    → IsPlace i r lists p)) is stands in
    let place = here r h.pairs.lists (lists_of image r m h) in
    let there : IsSome (r.entry id) = subst (λ (x : ℤ). IsSome (r.entry x)) own place.there in
    let count : length p.listed.more.items ≡ blocks_for (length ids) =
    ap length place.more ∙ ap (λ (x : ℤ). length (h.pairs.lists x).more) own ∙ blocks_of image r m id ids h list there in
    subst (λ (n : ℕ). AsksAtMost (cost n) a b) count asks

pub gain_side : (bytes now : Option (List ℕ)) (p : Place) (id : ℤ) (layout other : Layout) (a b : Option ℕ) → now ≡ option_map whole bytes
    → p.entry ≡ id
    → IfSome now (λ image. (r : Registry) (lists : ℤ → PairList) → HasLists image r lists → IsPlace image r lists p) → other ≡ layout
    → AsksAtMost (gain_cost other (length p.listed.more.items)) a b → SideCosts bytes id (gain_cost layout) a b
gain_side bytes now p id layout other a b is own stands same asks =
    side_part bytes now p id (gain_cost layout) a b is own stands
    (subst (λ (l : Layout). AsksAtMost (gain_cost l (length p.listed.more.items)) a b) same asks)

abbrev pub JoinCostsOf : Option (List ℕ) → Layout → (member group : ℤ) → (before after : Option ℕ) → Type 0
JoinCostsOf bytes layout member group before after =
    IfSome bytes
    (λ image. (r : Registry) (m : Members) (ws vs : List ℕ) (groups members : List ℤ) → Holds image r m
    → HasChain id_links (whole image) (id_chain member) ws → HasChain id_links (whole image) (id_chain group) vs
    → IsListOf (λ other. are_paired m member other ≡ true) groups → IsListOf (λ other. are_paired m group other ≡ true) members
    → AsksAtMost (join_cost layout (length ws) (length vs) (blocks_for (length groups)) (blocks_for (length members))) before after)

five_steps : (n p q s t : ℕ) (a b c d e f : Option ℕ) → AsksAtMost n a b → AsksAtMost p b c → AsksAtMost q c d → AsksAtMost s d e
    → AsksAtMost t e f → AsksAtMost (n + p + q + s + t) a f
five_steps n p q s t a b c d e f one two three four five =
    asks_then (n + p + q + s) t (n + p + q + s + t) a e f
    (asks_then (n + p + q) s (n + p + q + s) a d e
    (asks_then (n + p) q (n + p + q) a c d (asks_then n p (n + p) a b c one two (omega arith)) three (omega arith)) four (omega arith))
    five (omega arith)

pub join_costs : (bytes : Option (List ℕ)) (layout : Layout) (member group : ℤ) (a b c d e f : Option ℕ)
    → AsksAtMost (put_cost layout 3264) a b → PartCosts bytes member b c → PartCosts bytes group c d
    → SideCosts bytes member (gain_cost layout) d e → SideCosts bytes group (gain_cost layout) e f
    → JoinCostsOf bytes layout member group a f
join_costs None layout member group a b c d e f first one two three four = tt
join_costs (Some image) layout member group a b c d e f first one two three four =
    λ r m ws vs groups members h chain_ws chain_vs list_groups list_members.
    five_steps (put_cost layout 3264) (list_cost (length ws) (blocks_for (length groups)))
    (list_cost (length vs) (blocks_for (length members))) (gain_cost layout (blocks_for (length groups)))
    (gain_cost layout (blocks_for (length members))) a b c d e f first (one r m ws groups h chain_ws list_groups)
    (two r m vs members h chain_vs list_members) (three r m groups h list_groups) (four r m members h list_members)

-- ---- a pair less

lost_fits : (w p kept blocks : ℕ) → kept ≤ blocks → p * (kept + 1) ≤ p * (blocks + 1) → w + p * (kept + 1) ≤ w + p * (blocks + 1)
lost_fits w p kept blocks few fits = omega arith

pub lose_written : (layout now : Layout) (len kept blocks : ℕ) (a b c : Option ℕ) → now ≡ layout → kept ≤ blocks
    → AsksAtMost (free_cost free_blocks layout len) a b → AsksAtMost (put_cost now 192 * (kept + 1)) b c
    → AsksAtMost (lose_cost layout len blocks) a c
lose_written layout now len kept blocks a b c same few first second =
    asks_then (free_cost free_blocks layout len) (put_cost layout 192 * (kept + 1)) (lose_cost layout len blocks) a b c first
    (subst (λ (l : Layout). AsksAtMost (put_cost l 192 * (kept + 1)) b c) same second)
    (lost_fits (free_cost free_blocks layout len) (put_cost layout 192) kept blocks few
    (mul-le-mul_left (put_cost layout 192) (omega arith)))

freed_fits : (t p blocks : ℕ) → t ≤ t + p * (blocks + 1)
freed_fits t p blocks = omega arith

pub lose_freed : (layout : Layout) (len blocks : ℕ) (a b : Option ℕ) → AsksAtMost (free_cost free_blocks layout len) a b
    → AsksAtMost (lose_cost layout len blocks) a b
lose_freed layout len blocks a b first =
    costs_within (free_cost free_blocks layout len) (lose_cost layout len blocks) a b
    (freed_fits (free_cost free_blocks layout len) (put_cost layout 192) blocks) first

-- bytes with a pair are those of an image that is not empty
pub whole_pair : (image : List ℕ) (r : Registry) (m : Members) (x y : ℤ) → Holds image r m → MayLeave x y m → whole image ≡ image
whole_pair [] r m x y h may = absurd (true_false (m.has x y) may (first_has_none r m (first_pairs r m h) x y))
whole_pair (byte ∷ bytes) r m x y h may = whole_same (byte ∷ bytes) (omega arith)

-- what a step costs where a pair is there
abbrev pub LeaveCosts : Option (List ℕ) → (x y id : ℤ) → (cost : ℕ → ℕ → ℕ) → (before after : Option ℕ) → Type 0
LeaveCosts bytes x y id cost before after =
    IfSome bytes
    (λ image. (r : Registry) (m : Members) (ws : List ℕ) (ids : List ℤ) → Holds image r m → MayLeave x y m
    → HasChain id_links image (id_chain id) ws → IsListOf (λ other. are_paired m id other ≡ true) ids
    → AsksAtMost (cost (length ws) (blocks_for (length ids))) before after)

pub leave_none : (bytes : Option (List ℕ)) (x y id : ℤ) (cost : ℕ → ℕ → ℕ) (asked : Option ℕ) → LeaveCosts bytes x y id cost asked asked
leave_none None x y id cost asked = tt
leave_none (Some image) x y id cost asked = λ r m ws ids h may chain list. asks_none (cost (length ws) (blocks_for (length ids))) asked

lists_pair : (image : List ℕ) (r : Registry) (m : Members) (x y : ℤ) (h : Holds image r m) → MayLeave x y m
    → HasLists image r h.pairs.lists
lists_pair image r m x y h may =
    subst (λ (i : List ℕ). HasLists i r h.pairs.lists) (whole_pair image r m x y h may) (lists_of image r m h)

pub leave_read : (bytes now : Option (List ℕ)) (x y id : ℤ) (a b : Option ℕ) → now ≡ bytes → PlaceCostsOf now id a b
    → LeaveCosts bytes x y id list_cost a b
leave_read None now x y id a b is cost = tt
leave_read (Some image) now x y id a b is cost = λ r m ws ids h may chain list.
    let here = subst (λ (o : Option (List ℕ)). PlaceCostsOf o id a b) is cost in
    here r h.pairs.lists ws (blocks_for (length ids)) (lists_pair image r m x y h may) chain
    (λ there. omega (arith, blocks_of image r m id ids h list there))

pub leave_side : (bytes now : Option (List ℕ)) (p : Place) (x y id : ℤ) (layout other : Layout) (len size : ℕ) (a b : Option ℕ)
    → now ≡ bytes → p.entry ≡ id
    → IfSome now (λ image. (r : Registry) (lists : ℤ → PairList) → HasLists image r lists → IsPlace image r lists p)
    → other ≡ layout → size ≡ len → AsksAtMost (lose_cost other size (length p.listed.more.items)) a b
    → LeaveCosts bytes x y id (λ words. lose_cost layout len) a b
leave_side None now p x y id layout other len size a b is own stands same long asks = tt
leave_side (Some image) now p x y id layout other len size a b is own stands same long asks = λ r m ws ids h may chain list.
    let here = subst (λ (o : Option (List ℕ)). IfSome o (λ i. (r : Registry) (lists : ℤ → PairList) → HasLists i r lists
    → IsPlace i r lists p)) is stands in
    let place = here r h.pairs.lists (lists_pair image r m x y h may) in
    let there : IsSome (r.entry id) = subst (λ (z : ℤ). IsSome (r.entry z)) own place.there in
    let count : length p.listed.more.items ≡ blocks_for (length ids) =
    ap length place.more ∙ ap (λ (z : ℤ). length (h.pairs.lists z).more) own ∙ blocks_of image r m id ids h list there in
    subst (λ (n : ℕ). AsksAtMost (lose_cost layout len n) a b) count
    (subst (λ (l : Layout). AsksAtMost (lose_cost l len (length p.listed.more.items)) a b) same
    (subst (λ (n : ℕ). AsksAtMost (lose_cost other n (length p.listed.more.items)) a b) long asks))

abbrev pub PartCostsOf : Option (List ℕ) → Layout → (len : ℕ) → (member group : ℤ) → (before after : Option ℕ) → Type 0
PartCostsOf bytes layout len member group before after =
    IfSome bytes
    (λ image. (r : Registry) (m : Members) (ws vs : List ℕ) (groups members : List ℤ) → Holds image r m → MayLeave member group m
    → HasChain id_links image (id_chain member) ws → HasChain id_links image (id_chain group) vs
    → IsListOf (λ other. are_paired m member other ≡ true) groups → IsListOf (λ other. are_paired m group other ≡ true) members
    → AsksAtMost (part_cost layout len (length ws) (length vs) (blocks_for (length groups)) (blocks_for (length members))) before after)

four_steps : (p q s t : ℕ) (b c d e f : Option ℕ) → AsksAtMost p b c → AsksAtMost q c d → AsksAtMost s d e → AsksAtMost t e f
    → AsksAtMost (p + q + s + t) b f
four_steps p q s t b c d e f two three four five =
    asks_then (p + q + s) t (p + q + s + t) b e f
    (asks_then (p + q) s (p + q + s) b d e (asks_then p q (p + q) b c d two three (omega arith)) four (omega arith)) five (omega arith)

pub part_costs : (bytes : Option (List ℕ)) (layout : Layout) (len : ℕ) (member group : ℤ) (a b c d e : Option ℕ)
    → LeaveCosts bytes member group member list_cost a b → LeaveCosts bytes member group group list_cost b c
    → LeaveCosts bytes member group member (λ words. lose_cost layout len) c d
    → LeaveCosts bytes member group group (λ words. lose_cost layout len) d e
    → PartCostsOf bytes layout len member group a e
part_costs None layout len member group a b c d e one two three four = tt
part_costs (Some image) layout len member group a b c d e one two three four =
    λ r m ws vs groups members h may chain_ws chain_vs list_groups list_members.
    four_steps (list_cost (length ws) (blocks_for (length groups))) (list_cost (length vs) (blocks_for (length members)))
    (lose_cost layout len (blocks_for (length groups))) (lose_cost layout len (blocks_for (length members))) a b c d e
    (one r m ws groups h may chain_ws list_groups) (two r m vs members h may chain_vs list_members)
    (three r m ws groups h may chain_ws list_groups) (four r m vs members h may chain_vs list_members)
