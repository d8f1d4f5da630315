-- An image in which an entry has another list holds that list, and all others.
use Rattle.std.proofs.Common.{◌≡◌, ◌≢◌, ℕ, ℤ, ◌^◌, ◌<◌, List, length, take, drop, IsSome, refl, sym, ap, subst, ◌∙◌, inl, inr, arith}
use Rattle.std.specs.Prelude.{◌⊎◌, FitsSigned}
use Rattle.std.specs.Int.{w32, div_ceil}
use Rattle.std.specs.List.{All, Contains}
use Rattle.std.proofs.lemmas.List.Elements.{All-contains_itself}
use Rattle.prdb_layout.specs.Blocks.{block_count}
use Rattle.db_blocks.specs.Bytes.{zeros}
use Rattle.db_blocks.specs.Blocks.{kind_of}
use Rattle.prdb_layout.specs.Records.{IsEntryBlock, block_in, block_place, entry_in, with_block}
use Rattle.prdb_layout.specs.Registry.{Registry, IsRegistry}
use Rattle.prdb_layout.proofs.BlockPlaces.{block_len}
use Rattle.prdb_layout.proofs.Changed.{by_id}
use Rattle.prdb_layout.proofs.LaidOut.{zero_kind}
use Rattle.entry_scans.specs.Lists.{IsAscending}
use Rattle.prdb_lists.specs.Changes.{relisted, with_list, with_more}
use Rattle.prdb_lists.specs.Layout.{IsDistinct, IsListed, PairList}
use Rattle.prdb_lists.specs.Sides.{HasLists, HoldsLists, IsRelisted, set_list}
use Rattle.prdb_lists.proofs.Chains.{chain_over, full_by-length}
use Rattle.prdb_lists.proofs.Ids.{entry_fits, few_ids}
use Rattle.prdb_lists.proofs.Side.{IsMoreBlock, IsSide, IsWritten, chain_block, set_other, set_same, side_laid, side_lists, stays, written}
use Rattle.prdb_lists.proofs.WithList.{entry_block, entry_kept, first_of, front_told, length-with_list, spelled_kept}
use Rattle.db_blocks.proofs.Scanned.{count_is}
use Rattle.db_blocks.proofs.BlockPlaces.{IsPut, put_block}

-- an entry's block
pub record StandsAt (image : List ℕ) (x : ℤ) (k : ℕ) : Type 0 where
  pub below : k < block_count image
  pub kind : kind_of (block_in image k) ≡ 1
  pub id : (entry_in (block_in image k)).id ≡ x

-- one block is zero, if there is such a block, and all others stay
pub record IsSpared (old mid : List ℕ) (f : ℕ) : Type 0 where
  pub size : length mid ≡ length old
  pub front : take 2112 mid ≡ take 2112 old
  pub zero : f < block_count old → block_in mid f ≡ zeros 192
  pub others : (j : ℕ) → j < block_count old → j ≢ f → block_in mid j ≡ block_in old j

-- ids that may stand in a list
pub record MayBeListed (ids : List ℤ) : Type 0 where
  pub ascending : IsAscending ids
  pub fits : All (λ id. FitsSigned w32 id) ids
  pub few : length ids < 2 ^ 32

-- a list that may stand in place of an entry's: its blocks are those that the old one had, but for one
pub record MayStand (old : List ℕ) (was l : PairList) (f : ℕ) : Type 0 where
  pub enough : length l.more ≡ div_ceil (length (drop 19 l.ids)) 44
  pub within : (j : ℕ) → Contains l.more j → j < block_count old
  pub distinct : IsDistinct l.more
  pub new_more : (j : ℕ) → Contains l.more j → Contains was.more j ⊎ (j ≡ f)
  pub old_more : (j : ℕ) → Contains was.more j → Contains l.more j ⊎ (j ≡ f)
  pub spare_was : f < block_count old → (kind_of (block_in old f) ≡ 0) ⊎ Contains was.more f

pub all_of : (xs : List ℕ) (n : ℕ) → ((j : ℕ) → Contains xs j → j < n) → All (λ j. j < n) xs
all_of xs n within i d below = within _ (All-contains_itself xs i d below)

all_fit : (r : Registry) (ids : List ℤ) → IsRegistry r → ((id : ℤ) → Contains ids id → IsSome (r.entry id))
    → All (λ id. FitsSigned w32 id) ids
all_fit r ids valid there i d below = entry_fits r _ valid (there _ (All-contains_itself ids i d below))

-- the continuation blocks of the entry's old list
pub old_blocks : (old : List ℕ) (r : Registry) (lists : ℤ → PairList) (x : ℤ) (k : ℕ) → HasLists old r lists → StandsAt old x k
    → IsSome (r.entry x)
    → (j : ℕ) → Contains (lists x).more j → IsMoreBlock old x j
old_blocks old r lists x k h at there j has =
    let listed : IsListed old x (block_in old k) (lists x) =
    subst (λ (y : ℤ). IsListed old y (block_in old k) (lists y)) at.id (h.are.listed k at.below at.kind) in
    chain_block old x (lists x).more (drop 19 (lists x).ids) (entry_fits r x h.valid there) listed.chain j has

-- the entry's block is none of those of the list, nor the spare one
not_entry : (old : List ℕ) (r : Registry) (lists : ℤ → PairList) (x : ℤ) (k f : ℕ) (l : PairList) → HasLists old r lists → StandsAt old x k
    → IsSome (r.entry x)
    → MayStand old (lists x) l f → Contains l.more k ⊎ ((k ≡ f) × (f < block_count old)) → ⊥
not_entry old r lists x k f l h at there may is =
    let kind = at.kind in
    let at_f : k ≡ f → f < block_count old → ⊥ = λ same below. elim (may.spare_was below) [
      | inl free ↦ let zero = ap (λ (i : ℕ). kind_of (block_in old i)) same ∙ free in omega arith
      | inr has ↦ let two = ap (λ (i : ℕ). kind_of (block_in old i)) same ∙ (old_blocks old r lists x k h at there f has).kind in
          omega arith
    ] in
    elim is [
      | inl has ↦ elim (may.new_more k has) [
        | inl old_has ↦ let two = (old_blocks old r lists x k h at there k old_has).kind in omega arith
        | inr same ↦ at_f same (subst (λ (i : ℕ). i < block_count old) same at.below)
      ]
      | inr same ↦ at_f same.0 same.1
    ]

relist_side : (old mid : List ℕ) (r : Registry) (lists : ℤ → PairList) (x : ℤ) (k f n : ℕ) (l : PairList) → HasLists old r lists
    → StandsAt old x k → IsSome (r.entry x)
    → block_count old ≡ n → IsSpared old mid f → MayBeListed l.ids → MayStand old (lists x) l f
    → IsSide old (relisted k x (block_in old k) l mid) lists x k f n (with_list (block_in old k) l) l
relist_side old mid r lists x k f n l h at there count spared ids may =
    let block = with_list (block_in old k) l in
    let was : length old ≡ block_place n = h.laid.size ∙ ap block_place count in
    let below = at.below in
    let in_n : k < n = omega arith in
    let len : length (block_in old k) ≡ 192 = block_len old k n was in_n in
    let mid_size : length mid ≡ block_place n = spared.size ∙ was in
    let w : IsWritten x l.more (drop 19 l.ids) mid (with_more x l.more (drop 19 l.ids) mid) n =
    written x l.more (drop 19 l.ids) mid n mid_size (all_of l.more n (λ j has. let less = may.within j has in omega arith)) may.distinct
    (full_by-length l.more (drop 19 l.ids) may.enough) in
    let full = with_more x l.more (drop 19 l.ids) mid in
    let full_count : block_count full ≡ n = count_is 2112 full n w.size in
    let put : IsPut 2112 k block full (with_block k block full) n = put_block 2112 full block k n w.size
    (length-with_list (block_in old k) l len) in_n in
    let new = with_block k block full in
    let new_count : block_count new ≡ n = count_is 2112 new n put.size in
    let entry : IsEntryBlock (block_in old k) = elim (h.laid.blocks k below) [
      | inl free ↦ let kind = at.kind in let zero = ap kind_of free ∙ zero_kind in absurd (omega arith)
      | inr other ↦ elim other [ inl two ↦ let kind = at.kind in absurd (omega arith) | inr is ↦ is ]
    ] in
    record {
      was = was;
      size = put.size;
      front = put.front ∙ w.front ∙ spared.front;
      within = in_n;
      kind = at.kind;
      id = at.id;
      here = put.here;
      same_entry = entry_kept (block_in old k) l len;
      is_entry = entry_block (block_in old k) l len entry;
      is_spelled = spelled_kept (block_in old k) l len (h.are.spelled k below at.kind);
      listed = record {
        ascending = ids.ascending;
        fits = ids.fits;
        few = ids.few;
        front = front_told (block_in old k) l len;
        first = first_of (block_in old k) l len;
        chain = chain_over full new x l.more (drop 19 l.ids)
            (λ j has less. (
              omega arith,
              put.others j less (λ same. not_entry old r lists x k f l h at there may (inl (subst (Contains l.more) same has))),
            )) w.chain;
      };
      others = λ j less other not apart.
          put.others j (omega arith) other ∙ w.others j less not ∙ spared.others j (omega arith) apart;
      spare = λ less not.
          put.others f (omega arith) (λ same. not_entry old r lists x k f l h at there may (inr (sym same, omega arith)))
          ∙ w.others f less not ∙ spared.zero (omega arith);
      new_more = may.new_more;
      old_more = may.old_more;
      spare_was = λ less. may.spare_was (omega arith);
      distinct = may.distinct;
    }

-- The list of the entry in a block is this one now. All other lists are as they were, and so are the blocks of the other entries.
pub record IsRewritten (old new : List ℕ) (r : Registry) (lists : ℤ → PairList) (k : ℕ) (x : ℤ) (l : PairList) : Type 0 where
  pub has : HasLists new r (set_list x l lists)
  pub size : length new ≡ length old
  pub others : (j : ℕ) → j < block_count old → j ≢ k → kind_of (block_in old j) ≡ 1
      → (j < block_count new) × (block_in new j ≡ block_in old j)

pub rewritten : (old mid : List ℕ) (r : Registry) (lists : ℤ → PairList) (x : ℤ) (k f : ℕ) (l : PairList) → HasLists old r lists
    → StandsAt old x k → IsSome (r.entry x)
    → IsSpared old mid f → MayBeListed l.ids → MayStand old (lists x) l f
    → IsRewritten old (relisted k x (block_in old k) l mid) r lists k x l
rewritten old mid r lists x k f l h at there spared ids may =
    let n = block_count old in
    let block = with_list (block_in old k) l in
    let new = relisted k x (block_in old k) l mid in
    let s : IsSide old new lists x k f n block l = relist_side old mid r lists x k f n l h at there refl spared ids may in
    let more : (j : ℕ) → Contains (lists x).more j → IsMoreBlock old x j = old_blocks old r lists x k h at there in
    let new_more : (j : ℕ) → Contains l.more j
    → IsMoreBlock new x j = chain_block new x l.more (drop 19 l.ids) (entry_fits r x h.valid there) s.listed.chain in
    let size : length new ≡ block_place n = s.size in
    let was = h.laid.size in
    let new_count : block_count new ≡ n = count_is 2112 new n size in
    record {
      has = record {
        valid = h.valid;
        laid = side_laid old new r lists x k f n block l h.laid s more new_more;
        are = side_lists old new r lists x k f n block l h.laid h.are s there (λ id is. entry_fits r id h.valid is) more new_more;
      };
      size = size ∙ sym was;
      others = λ j less other kind. (
        omega arith,
        stays old new lists x k f n block l s more j less other (λ free. omega arith) (λ mine. let two = mine.kind in omega arith),
      );
    }

pub relist : (old mid : List ℕ) (r : Registry) (lists : ℤ → PairList) (x : ℤ) (k f : ℕ) (l : PairList) → HoldsLists old r lists
    → StandsAt old x k → IsSome (r.entry x)
    → IsSpared old mid f → IsAscending l.ids → ((id : ℤ) → Contains l.ids id → IsSome (r.entry id)) → MayStand old (lists x) l f
    → IsRelisted old (relisted k x (block_in old k) l mid) 0 r lists k x l.ids
relist old mid r lists x k f l h at there spared rises members may =
    let ids : MayBeListed
    l.ids = record { ascending = rises; fits = all_fit r l.ids h.has.valid members; few = few_ids r l.ids h.has.valid rises members } in
    let made = rewritten old mid r lists x k f l h.has at there spared ids may in
    let size = made.size in
    record {
      list = l;
      has = refl;
      holds = record {
        has = made.has;
        members = λ id is other has. by_id id x
            (λ same. members other (subst (λ (m : PairList). Contains m.ids other) (set_same x id l lists same) has))
            (λ apart. h.members id is other (subst (λ (m : PairList). Contains m.ids other) (set_other x id l lists apart) has));
      };
      size = omega arith;
      others = made.others;
    }
