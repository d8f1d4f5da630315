-- The lists of an image are those of the image without words of chains.
use Rattle.std.proofs.Common.{◌≡◌, true, ℕ, ℤ, ◌+◌, ◌-◌, ◌<◌, eqb, cond, List, [], ◌∷◌, length, take, drop, Option, Some, None, IsSome, refl, sym, ap, subst, ◌∙◌, arith}
use Rattle.std.proofs.lemmas.Grind.{same_number_lists}
use Rattle.std.proofs.lemmas.List.{get_or-drop, length-drop}
use Rattle.db_blocks.specs.Blocks.{IsWhole, kind_of, blanked}
use Rattle.db_blocks.specs.declared.scans.Found.{Found}
use Rattle.db_chains.proofs.Bytes.{blanked_len, blanked_stays}
use Rattle.prdb_layout.specs.Blocks.{block_count}
use Rattle.prdb_layout.specs.Records.{IsLaidOut, block_in, entry_in, has_id, whole as entries_whole}
use Rattle.prdb_layout.specs.Registry.{Registry}
use Rattle.prdb_layout.specs.State.{PrEntry}
use Rattle.prdb_layout.proofs.BlockPlaces.{block_len}
use Rattle.prdb_layout.proofs.LaidOut.{whole_same as entries_same}
use Rattle.prdb_layout.proofs.Lookups.{id_parts}
use Rattle.entry_scans.specs.Lists.{IsListOf}
use Rattle.prdb_lists.specs.Changes.{blocks_for}
use Rattle.prdb_lists.specs.Layout.{AreLists, IsChain, IsListed, PairList, link_to}
use Rattle.prdb_lists.specs.Members.{Members, are_paired}
use Rattle.prdb_lists.proofs.BlockIds.{kind_of_more}
use Rattle.prdb_lists.proofs.Gains.{HasPlace, listed_at as plain_listed, more_length as plain_length, some_entry}
use Rattle.prdb_lists.proofs.MoveEnds.{one_list}
use Rattle.prdb_lists.proofs.Relist.{StandsAt}
use Rattle.prdb_finds.specs.Keys.{id_chain, id_key}
use Rattle.prdb_finds.specs.Places.{id_links}
use Rattle.prdb_finds.specs.Records.{Holds, whole}
use Rattle.prdb_finds.specs.Unchained.{unchained, unlinked}
use Rattle.prdb_finds.proofs.Fields.{blanked_front, entry_unlinked, part_same}
use Rattle.prdb_layout.proofs.Lookups.{id_from as id_has}
use Rattle.prdb_finds.proofs.Lookups.{is_false, not_met, same_block}
use Rattle.prdb_finds.proofs.Told.{whole_same}
use Rattle.prdb_finds.proofs.Without.{unchained_block, unchained_count, unchained_entry, unchained_kind, unchained_len}
use Rattle.prdb_members.specs.Found.{IsBlockOf}
use Rattle.prdb_members.specs.Sides.{HasLists}

-- ---- a continuation block

-- it stands in no chain of names, ids, owners or free blocks
pub more_unlinked : (block : List ℕ) → kind_of block ≡ 2 → unlinked block ≡ block
unfolding unlinked
more_unlinked block kind =
    ap (λ (n : ℕ). cond (eqb n 1) (blanked 96 16 block) (cond (eqb n 0) (blanked 4 4 block) block)) kind

pub chain_back : (image : List ℕ) (entry : ℤ) (more : List ℕ) (ids : List ℤ) → IsWhole 2112 image → IsChain (unchained image) entry more ids
    → IsChain image entry more ids
chain_back image entry [] ids size chain = chain
chain_back image entry (k ∷ more) ids size chain =
    let below : k < block_count image = omega (arith, chain.0, unchained_count image size) in
    let kind : kind_of (block_in image k) ≡ 2 =
    sym (unchained_kind image k size below) ∙ ap kind_of chain.2 ∙ kind_of_more entry (link_to more) (take 44 ids) in (
      below,
      chain.1,
      sym (unchained_block image k size below ∙ more_unlinked (block_in image k) kind) ∙ chain.2,
      chain_back image entry more (drop 44 ids) size chain.3,
    )

-- ---- an entry's block

front_same : (block : List ℕ) → length block ≡ 192 → take 8 (drop 24 (blanked 96 16 block)) ≡ take 8 (drop 24 block)
front_same block size =
    part_same (blanked 96 16 block) block 24 8 72 refl (omega arith) (blanked_front 96 16 96 block (omega arith) (omega arith))

pub behind_same : (block : List ℕ) → length block ≡ 192 → drop 112 (blanked 96 16 block) ≡ drop 112 block
behind_same block size =
    let other = blanked 96 16 block in
    let long : length other ≡ length block = blanked_len 96 16 block (omega arith) in
    let stays = blanked_stays 96 16 block (omega arith) in
    same_number_lists (drop 112 other) (drop 112 block) (omega (arith, length-drop 112 other, length-drop 112 block, long))
    (λ i below.
    let less : 112 + i < length block = omega (arith, below, length-drop 112 other, long) in
    get_or-drop 112 other i 0 ∙ stays.behind (112 + i) (omega arith) less ∙ sym (get_or-drop 112 block i 0))

pub listed_back : (image : List ℕ) (entry : ℤ) (k : ℕ) (l : PairList) → IsWhole 2112 image → k < block_count image
    → kind_of (block_in image k) ≡ 1 → IsListed (unchained image) entry (block_in (unchained image) k) l
    → IsListed image entry (block_in image k) l
listed_back image entry k l size below kind is =
    let block = block_in image k in
    let len : length block ≡ 192 = block_len image k (block_count image) size below in
    let here : block_in (unchained image) k ≡ blanked 96 16 block = unchained_block image k size below ∙ entry_unlinked block kind in
    record {
      ascending = is.ascending;
      fits = is.fits;
      few = is.few;
      front = sym (front_same block len) ∙ ap (λ (b : List ℕ). take 8 (drop 24 b)) (sym here) ∙ is.front;
      first = sym (behind_same block len) ∙ ap (drop 112) (sym here) ∙ is.first;
      chain = chain_back image entry l.more (drop 19 l.ids) size is.chain;
    }

-- ---- an image with lists

-- without the words of chains the lists are laid out
pub lists_of : (image : List ℕ) (r : Registry) (m : Members) (h : Holds image r m) → HasLists (whole image) r h.pairs.lists
lists_of image r m h =
    let u = unchained (whole image) in
    let same : entries_whole u ≡ u = entries_same u (omega (arith, unchained_len (whole image) h.size)) in record {
      size = h.size;
      without = record {
        valid = h.pairs.holds.valid;
        laid = subst (λ (i : List ℕ). IsLaidOut i r) same h.pairs.holds.laid;
        are = subst (λ (i : List ℕ). AreLists i r h.pairs.lists) same h.pairs.are;
      };
      chains = h.chains;
    }

pub lists_here : (image : List ℕ) (r : Registry) (m : Members) (h : Holds image r m) → 0 < length image → HasLists image r h.pairs.lists
lists_here image r m h some =
    subst (λ (i : List ℕ). HasLists i r h.pairs.lists) (whole_same image some) (lists_of image r m h)

-- an entry's block stands where it stands without the words of chains
pub stands_plain : (image : List ℕ) (x : ℤ) (k : ℕ) → IsWhole 2112 image → StandsAt image x k → StandsAt (unchained image) x k
stands_plain image x k size at = record {
  below = omega (arith, at.below, unchained_count image size);
  kind = unchained_kind image k size at.below ∙ at.kind;
  id = ap (λ (e : PrEntry). e.id) (unchained_entry image k size at.below at.kind) ∙ at.id;
}

pub found_stands : (image : List ℕ) (id : ℤ) (f : Found) → IsBlockOf id image (Some f) → StandsAt image id f.number
found_stands image id f is =
    let parts = id_parts id f.block is.2 in
    record { below = is.0; kind = ap kind_of (sym is.1) ∙ parts.0; id = ap (λ (b : List ℕ). (entry_in b).id) (sym is.1) ∙ parts.1 }

-- the list of an entry, by its block
pub listed_at : (image : List ℕ) (r : Registry) (lists : ℤ → PairList) (x : ℤ) (k : ℕ) → HasLists image r lists → StandsAt image x k
    → IsListed image x (block_in image k) (lists x)
listed_at image r lists x k h at =
    listed_back image x k (lists x) h.size at.below at.kind
    (plain_listed (unchained image) r lists x k h.without (stands_plain image x k h.size at))

pub found_listed : (image : List ℕ) (r : Registry) (lists : ℤ → PairList) (id : ℤ) (f : Found) → HasLists image r lists
    → IsBlockOf id image (Some f) → IsListed image id f.block (lists id)
found_listed image r lists id f h is =
    subst (λ (b : List ℕ). IsListed image id b (lists id)) (sym is.1)
    (listed_at image r lists id f.number h (found_stands image id f is))

some_there : (o : Option PrEntry) (e : PrEntry) → o ≡ Some e → IsSome o
some_there o e at = subst (λ (v : Option PrEntry). IsSome v) (sym at) refl

pub stands_there : (image : List ℕ) (r : Registry) (lists : ℤ → PairList) (id : ℤ) (k : ℕ) → HasLists image r lists → StandsAt image id k
    → IsSome (r.entry id)
stands_there image r lists id k h at =
    let u = unchained image in
    let plain = stands_plain image id k h.size at in
    some_there (r.entry id) (entry_in (block_in u k)) (ap r.entry (sym plain.id) ∙ h.without.laid.there k plain.below plain.kind)

-- an id whose chain has no block of it is no entry's
pub absent : (image : List ℕ) (r : Registry) (lists : ℤ → PairList) (id : ℤ) → HasLists image r lists → IsBlockOf id image None
    → IsSome (r.entry id) → ⊥
absent image r lists id h none there = some_entry (r.entry id) there (λ e at.
    let o = h.without.laid.only id e at in
    let k = o.0 in
    let below : k < block_count image = omega (arith, o.1, unchained_count image h.size) in
    let kind : kind_of (block_in image k) ≡ 1 = sym (unchained_kind image k h.size below) ∙ o.2 in
    let entry : entry_in (block_in image k) ≡ e = sym (unchained_entry image k h.size below kind) ∙ o.3 in
    let own : e.id ≡ id = h.without.valid.ids id e at in
    let v = h.chains.ids (id_key id) (omega arith) in
    let back : k + 1 - 1 ≡ k = omega arith in
    let has = v.each (k + 1) (record {
      some = omega arith;
      within = omega (arith, below);
      kind = ap (λ (j : ℕ). kind_of (block_in image j)) back ∙ kind;
      belongs = ap (λ (j : ℕ). id_key (entry_in (block_in image j)).id) back ∙ ap (λ (x : PrEntry). id_key x.id) entry ∙ ap id_key own;
    }) in
    let fails = not_met id_links (λ w block. has_id id block) image (id_chain id) (k + 1) k v.words none v.chain has (omega arith) in
    is_false (has_id id (block_in image k)) (id_has id (block_in image k) kind (ap (λ (x : PrEntry). x.id) entry ∙ own))
    (ap (has_id id) (sym (same_block image k)) ∙ fails))

-- how many blocks a list has
pub more_length : (image : List ℕ) (r : Registry) (lists : ℤ → PairList) (x : ℤ) (k : ℕ) → HasLists image r lists → StandsAt image x k
    → length (lists x).more ≡ blocks_for (length (lists x).ids)
more_length image r lists x k h at =
    plain_length (unchained image) r lists x k h.without (stands_plain image x k h.size at)

pub own_list : (x image : List ℕ) (r : Registry) (m : Members) (id : ℤ) (k : ℕ) (ids : List ℤ) (h : Holds image r m)
    → HasLists x r h.pairs.lists → StandsAt x id k → IsListOf (λ other. are_paired m id other ≡ true) ids
    → (h.pairs.lists id).ids ≡ ids
own_list x image r m id k ids h lists at list =
    let there = stands_there x r h.pairs.lists id k lists at in
    let listed = listed_at x r h.pairs.lists id k lists at in
    one_list m id (h.pairs.lists id).ids ids
    record { ascending = listed.ascending; each = h.pairs.each id there; all = h.pairs.all id there } list

-- an entry that is there stands somewhere
pub place_of : (image : List ℕ) (r : Registry) (lists : ℤ → PairList) (x : ℤ) → HasLists image r lists → IsSome (r.entry x)
    → HasPlace image x
place_of image r lists x h there = some_entry (r.entry x) there (λ e at.
    let o = h.without.laid.only x e at in
    let below : o.0 < block_count image = omega (arith, o.1, unchained_count image h.size) in
    let kind : kind_of (block_in image o.0) ≡ 1 = sym (unchained_kind image o.0 h.size below) ∙ o.2 in
    let entry : entry_in (block_in image o.0) ≡ e = sym (unchained_entry image o.0 h.size below kind) ∙ o.3 in
    record {
      k = o.0;
      at = record { below = below; kind = kind; id = ap (λ (y : PrEntry). y.id) entry ∙ h.without.valid.ids x e at };
    })

-- how many continuation blocks an entry has that is there
pub blocks_of : (image : List ℕ) (r : Registry) (m : Members) (id : ℤ) (ids : List ℤ) (h : Holds image r m)
    → IsListOf (λ other. are_paired m id other ≡ true) ids → IsSome (r.entry id)
    → length (h.pairs.lists id).more ≡ blocks_for (length ids)
blocks_of image r m id ids h list there =
    let lists = lists_of image r m h in
    let p = place_of (whole image) r h.pairs.lists id lists there in
    more_length (whole image) r h.pairs.lists id p.k lists p.at
    ∙ ap (λ (l : List ℤ). blocks_for (length l)) (own_list (whole image) image r m id p.k ids h lists p.at list)
