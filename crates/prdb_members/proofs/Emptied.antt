-- An entry whose list is empty, and the blocks of its list free.
use Rattle.std.proofs.Common.{◌≡◌, ◌≢◌, ℕ, ℤ, suc, ◌+◌, ◌-◌, ◌<◌, List, [], ◌∷◌, length, take, drop, Option, Some, IsSome, refl, sym, ap, subst, ◌∙◌, ⊎_elim, inl, inr, arith}
use Rattle.std.specs.Prelude.{FitsSigned}
use Rattle.std.specs.Int.{w32}
use Rattle.std.specs.List.{AllByRecursion, Contains}
use Rattle.std.proofs.lemmas.Bool.{cases_eq}
use Rattle.db_blocks.specs.Blocks.{IsWhole, kind_of}
use Rattle.db_blocks.specs.Bytes.{zeros}
use Rattle.db_chains.specs.Free.{with_freed as with_free_block}
use Rattle.prdb_layout.specs.Blocks.{block_count}
use Rattle.prdb_layout.specs.Records.{IsBlock, IsEntryBlock, IsLaidOut, block_in, block_place, entry_in, head_with, with_block}
use Rattle.prdb_layout.specs.Registry.{Registry}
use Rattle.prdb_layout.specs.State.{PrEntry}
use Rattle.prdb_layout.proofs.BlockPlaces.{block_len}
use Rattle.prdb_layout.proofs.Changed.{by_id}
use Rattle.prdb_layout.proofs.LaidOut.{zero_kind}
use Rattle.prdb_lists.specs.Changes.{list_in, relisted, with_list}
use Rattle.prdb_lists.specs.Layout.{AreLists, IsDistinct, IsListed, IsSpelled, PairList}
use Rattle.prdb_lists.specs.Sides.{HasLists as HasPlainLists, set_list}
use Rattle.prdb_lists.proofs.Ids.{entry_fits}
use Rattle.prdb_lists.proofs.RecordsKeep.{zeros_len}
use Rattle.prdb_lists.proofs.Relist.{StandsAt, old_blocks}
use Rattle.prdb_lists.proofs.Side.{IsMoreBlock, behind, chain_stays, contains_or, set_other, set_same}
use Rattle.prdb_lists.proofs.WithList.{entry_block, entry_kept, first_of, front_told, spelled_kept}
use Rattle.prdb_finds.specs.Places.{free_blocks}
use Rattle.prdb_finds.specs.Records.{HasFree}
use Rattle.prdb_finds.specs.Unchained.{unchained}
use Rattle.prdb_members.specs.Changes.{emptied, no_ids, with_all_freed, without_ids}
use Rattle.prdb_members.specs.Sides.{CanFree, HasLists, HoldsLists}
use Rattle.prdb_members.proofs.Free.{free_none}
use Rattle.prdb_members.proofs.Freed.{IsOneFreed, freed_zero, keeps_freed, one_freed}
use Rattle.prdb_members.proofs.Gains.{IsSide, list_blocks, place_is, side_over, told_at}
use Rattle.prdb_members.proofs.Kept.{KeepsEntries, keeps_none, keeps_then}
use Rattle.prdb_members.proofs.Listed.{stands_plain}
use Rattle.prdb_members.proofs.Losses.{all_from}
use Rattle.prdb_members.proofs.Rewritten.{IsRelisted, first_in, later_in, relisted_is}
use Rattle.prdb_members.proofs.Taken.{chain_names}
use Rattle.db_blocks.proofs.Scanned.{count_is}
use Rattle.db_blocks.proofs.BlockPlaces.{IsPut, put_block}

-- ---- without the words of chains: the blocks of the list are zero

abbrev pub all_zero : List ℕ → List ℕ → List ℕ
all_zero [] image = image
all_zero (k ∷ more) image = all_zero more (with_block k (zeros 192) image)

record IsZeroed (more old new : List ℕ) (n : ℕ) : Type 0 where
  size : length new ≡ block_place n
  front : take 2112 new ≡ take 2112 old
  zero : (j : ℕ) → j < n → Contains more j → block_in new j ≡ zeros 192
  others : (j : ℕ) → j < n → (Contains more j → ⊥) → block_in new j ≡ block_in old j

none_in : (j : ℕ) → Contains no_ids.more j → ⊥
none_in j has = omega (arith, has.1)

zeroed : (more image : List ℕ) (n : ℕ) → length image ≡ block_place n → ((j : ℕ) → Contains more j → j < n)
    → IsZeroed more image (all_zero more image) n
zeroed [] image n size within = record {
  size = size;
  front = refl;
  zero = λ j less has. absurd (none_in j has);
  others = λ j less not. refl;
}
zeroed (f ∷ more) image n size within =
    let mid = with_block f (zeros 192) image in
    let below : f < n = within f (first_in f more) in
    let put : IsPut 2112 f (zeros 192) image mid n = put_block 2112 image (zeros 192) f n size zeros_len below in
    let count : block_count image ≡ n = count_is 2112 image n size in
    let rest : IsZeroed more mid (all_zero more mid) n = zeroed more mid n put.size (λ j has. within j (later_in f more j has)) in
    record {
      size = rest.size;
      front = rest.front ∙ put.front;
      zero = λ j less has. elim (contains_or more j) [
        | inl among ↦ rest.zero j less among
        | inr not ↦
            ⊎_elim
            (λ (same : f ≡ j). rest.others j less not ∙ ap (block_in mid) (sym same) ∙ put.here)
            (λ (other : f ≢ j). absurd (not (behind f more j other has)))
            (cases_eq f j)
      ];
      others = λ j less not.
          rest.others j less (λ has. not (later_in f more j has))
          ∙ put.others j (omega (arith, less, count)) (λ same. not (subst (Contains (f ∷ more)) (sym same) (first_in f more)));
    }

-- the entry's block has no ids, the blocks of its list are zero, and all others stay
record IsEmptied (old new : List ℕ) (more : List ℕ) (x : ℤ) (k n : ℕ) (block : List ℕ) : Type 0 where
  was : length old ≡ block_place n
  size : length new ≡ block_place n
  front : take 2112 new ≡ take 2112 old
  within : k < n
  kind : kind_of (block_in old k) ≡ 1
  id : (entry_in (block_in old k)).id ≡ x
  here : block_in new k ≡ block
  same_entry : entry_in block ≡ entry_in (block_in old k)
  is_entry : IsEntryBlock block
  is_spelled : IsSpelled block
  listed : IsListed new x block no_ids
  mine : (j : ℕ) → Contains more j → IsMoreBlock old x j
  zero : (j : ℕ) → j < n → Contains more j → block_in new j ≡ zeros 192
  others : (j : ℕ) → j < n → j ≢ k → (Contains more j → ⊥) → block_in new j ≡ block_in old j

emptied_side : (old : List ℕ) (r : Registry) (lists : ℤ → PairList) (x : ℤ) (k n : ℕ) → HasPlainLists old r lists → StandsAt old x k
    → IsSome (r.entry x) → block_count old ≡ n
    → IsEmptied old (relisted k x (block_in old k) no_ids (all_zero (lists x).more old)) (lists x).more x k n
    (with_list (block_in old k) no_ids)
emptied_side old r lists x k n h at there count =
    let more = (lists x).more in
    let block = block_in old k in
    let mid = all_zero more old in
    let new = relisted k x block no_ids mid in
    let was : length old ≡ block_place n = h.laid.size ∙ ap block_place count in
    let below = at.below in
    let kind = at.kind in
    let in_n : k < n = omega (arith, below, count) in
    let len : length block ≡ 192 = block_len old k n was in_n in
    let mine : (j : ℕ) → Contains more j → IsMoreBlock old x j = old_blocks old r lists x k h at there in
    let z : IsZeroed more old mid n = zeroed more old n was (λ j has. omega (arith, (mine j has).below, count)) in
    let mid_count : block_count mid ≡ n = count_is 2112 mid n z.size in
    let is : IsRelisted k block no_ids mid new =
    relisted_is x k block no_ids mid (omega (arith, z.size, mid_count)) (omega (arith, in_n, mid_count)) len
    (λ j has. absurd (none_in j has)) in
    let entry : IsEntryBlock block = elim (h.laid.blocks k below) [
      | inl free ↦ let zero = ap kind_of free ∙ zero_kind in absurd (omega (arith, zero, kind))
      | inr other ↦ elim other [ inl two ↦ absurd (omega (arith, two, kind)) | inr is ↦ is ]
    ] in
    record {
      was = was;
      size = is.size ∙ z.size;
      front = is.front ∙ z.front;
      within = in_n;
      kind = kind;
      id = at.id;
      here = is.here;
      same_entry = entry_kept block no_ids len;
      is_entry = entry_block block no_ids len entry;
      is_spelled = spelled_kept block no_ids len (h.are.spelled k below kind);
      listed = record {
        ascending = λ i j d less past. absurd (omega (arith, past));
        fits = λ i d past. absurd (omega (arith, past));
        few = omega arith;
        front = front_told block no_ids len;
        first = first_of block no_ids len;
        chain = refl;
      };
      mine = mine;
      zero = λ j less has.
          let two = (mine j has).kind in
          is.others j (omega (arith, less, mid_count))
          (λ same. omega (arith, two, kind, ap (λ (i : ℕ). kind_of (block_in old i)) same)) (none_in j)
          ∙ z.zero j less has;
      others = λ j less other not. is.others j (omega (arith, less, mid_count)) other (none_in j) ∙ z.others j less not;
    }

-- what a block of the new image is
data Place (old new : List ℕ) (k : ℕ) (more : List ℕ) (j : ℕ) : Type 0 where
  the_entry : j ≡ k → Place old new k more j
  freed : block_in new j ≡ zeros 192 → Place old new k more j
  untouched : j ≢ k → (Contains more j → ⊥) → block_in new j ≡ block_in old j → Place old new k more j

place : (old new more : List ℕ) (x : ℤ) (k n : ℕ) (block : List ℕ) → IsEmptied old new more x k n block → (j : ℕ) → j < n
    → Place old new k more j
place old new more x k n block s j below =
    ⊎_elim (λ (same : j ≡ k). the_entry same)
    (λ (other : j ≢ k). elim (contains_or more j) [
      | inl has ↦ freed (s.zero j below has)
      | inr not ↦ untouched other not (s.others j below other not)
    ])
    (cases_eq j k)

-- the block of another entry, or a continuation of one, stays
stays : (old new more : List ℕ) (x : ℤ) (k n : ℕ) (block : List ℕ) → IsEmptied old new more x k n block → (j : ℕ) → j < n → j ≢ k
    → (IsMoreBlock old x j → ⊥) → block_in new j ≡ block_in old j
stays old new more x k n block s j below other apart = s.others j below other (λ has. apart (s.mine j has))

emptied_laid : (old new : List ℕ) (r : Registry) (more : List ℕ) (x : ℤ) (k n : ℕ) (block : List ℕ) → IsLaidOut old r
    → IsEmptied old new more x k n block → IsLaidOut new r
emptied_laid old new r more x k n block laid s =
    let count : block_count old ≡ n = count_is 2112 old n s.was in
    let new_count : block_count new ≡ n = count_is 2112 new n s.size in
    let kind_one : (j : ℕ) → j < n → kind_of (block_in new j) ≡ 1
    → (kind_of (block_in old j) ≡ 1) × (entry_in (block_in new j) ≡ entry_in (block_in old j)) =
    λ j below kind. elim (place old new more x k n block s j below) [
      | the_entry same ↦ (
        ap (λ (i : ℕ). kind_of (block_in old i)) same ∙ s.kind,
        ap (λ (i : ℕ). entry_in (block_in new i)) same ∙ ap entry_in s.here ∙ s.same_entry
            ∙ ap (λ (i : ℕ). entry_in (block_in old i)) (sym same),
      )
      | freed free ↦ absurd (omega (arith, kind, ap kind_of free, zero_kind))
      | untouched other not same ↦ (ap kind_of (sym same) ∙ kind, ap entry_in same)
    ] in
    record {
      size = s.size ∙ ap block_place (sym new_count);
      head = s.front ∙ laid.head ∙ ap (head_with r.max_user r.max_group) (count ∙ sym new_count);
      blocks = λ j below. elim (place old new more x k n block s j (omega (arith, below, new_count))) [
        | the_entry same ↦ inr (inr (subst IsEntryBlock (sym (ap (block_in new) same ∙ s.here)) s.is_entry))
        | freed free ↦ inl free
        | untouched other not same ↦ subst IsBlock (sym same) (laid.blocks j (omega (arith, below, count, new_count)))
      ];
      there = λ j below kind.
          let in_n : j < n = omega (arith, below, new_count) in
          let o = kind_one j in_n kind in
          subst (λ (e : PrEntry). r.entry e.id ≡ Some e) (sym o.1) (laid.there j (omega (arith, in_n, count)) o.0);
      only = λ id e at.
          let o = laid.only id e at in
          let in_n : o.0 < n = omega (arith, o.1, count) in
          ⊎_elim
          (λ (same : o.0 ≡ k).
          let b : block_in new o.0 ≡ block = ap (block_in new) same ∙ s.here in (
            o.0,
            omega (arith, in_n, new_count),
            ap kind_of b ∙ s.is_entry.kind,
            ap entry_in b ∙ s.same_entry ∙ ap (λ (i : ℕ). entry_in (block_in old i)) (sym same) ∙ o.3,
          ))
          (λ (other : o.0 ≢ k).
          let b = stays old new more x k n block s o.0 in_n other (λ mine. omega (arith, o.2, mine.kind)) in
          (o.0, omega (arith, in_n, new_count), ap kind_of b ∙ o.2, ap entry_in b ∙ o.3))
          (cases_eq o.0 k);
      one = λ i j in_i in_j kind_i kind_j same.
          let a : i < n = omega (arith, in_i, new_count) in
          let b : j < n = omega (arith, in_j, new_count) in
          let o = kind_one i a kind_i in
          let p = kind_one j b kind_j in
          laid.one i j (omega (arith, a, count)) (omega (arith, b, count)) o.0 p.0
          (ap (λ (e : PrEntry). e.id) (sym o.1) ∙ same ∙ ap (λ (e : PrEntry). e.id) p.1);
    }

-- the list of another entry
other_listed : (old new : List ℕ) (r : Registry) (lists : ℤ → PairList) (x : ℤ) (k n : ℕ) (block : List ℕ) (j : ℕ) → IsLaidOut old r
    → AreLists old r lists → IsEmptied old new (lists x).more x k n block → ((id : ℤ) → IsSome (r.entry id) → FitsSigned w32 id)
    → j < n → j ≢ k → block_in new j ≡ block_in old j → kind_of (block_in new j) ≡ 1
    → IsListed new (entry_in (block_in new j)).id (block_in new j) (set_list x no_ids lists (entry_in (block_in new j)).id)
other_listed old new r lists x k n block j laid are s fits in_n other same kind =
    let count : block_count old ≡ n = count_is 2112 old n s.was in
    let new_count : block_count new ≡ n = count_is 2112 new n s.size in
    let old_kind : kind_of (block_in old j) ≡ 1 = ap kind_of (sym same) ∙ kind in
    let in_old : j < block_count old = omega (arith, in_n, count) in
    let differs : (entry_in (block_in old j)).id ≢ x =
    λ is. other (laid.one j k in_old (omega (arith, s.within, count)) old_kind s.kind (is ∙ sym s.id)) in
    let fit = fits (entry_in (block_in old j)).id
    (subst (λ (o : Option PrEntry). IsSome o) (sym (laid.there j in_old old_kind)) refl) in
    let was = are.listed j in_old old_kind in
    let chain = chain_stays old new (entry_in (block_in old j)).id (lists (entry_in (block_in old j)).id).more
    (drop 19 (lists (entry_in (block_in old j)).id).ids) fit
    (λ i mine.
    let in_i : i < n = omega (arith, mine.below, count) in (
      omega (arith, in_i, new_count),
      stays old new (lists x).more x k n block s i in_i
          (λ is_k. let one = ap (λ (h : ℕ). kind_of (block_in old h)) is_k ∙ s.kind in omega (arith, one, mine.kind))
          (λ of_x. differs (sym mine.owner ∙ of_x.owner)),
    )) was.chain in
    let now : IsListed new (entry_in (block_in old j)).id (block_in old j) (lists (entry_in (block_in old j)).id) =
    record { ascending = was.ascending; fits = was.fits; few = was.few; front = was.front; first = was.first; chain = chain } in
    subst (λ (c : List ℕ). IsListed new (entry_in c).id c (set_list x no_ids lists (entry_in c).id)) (sym same)
    (subst (λ (m : PairList). IsListed new (entry_in (block_in old j)).id (block_in old j) m)
    (sym (set_other x (entry_in (block_in old j)).id no_ids lists differs)) now)

emptied_lists : (old new : List ℕ) (r : Registry) (lists : ℤ → PairList) (x : ℤ) (k n : ℕ) (block : List ℕ) → IsLaidOut old r
    → AreLists old r lists → IsEmptied old new (lists x).more x k n block → ((id : ℤ) → IsSome (r.entry id) → FitsSigned w32 id)
    → AreLists new r (set_list x no_ids lists)
emptied_lists old new r lists x k n block laid are s fits =
    let count : block_count old ≡ n = count_is 2112 old n s.was in
    let new_count : block_count new ≡ n = count_is 2112 new n s.size in
    record {
      listed = λ j below kind.
          let in_n : j < n = omega (arith, below, new_count) in
          elim (place old new (lists x).more x k n block s j in_n) [
            | the_entry same ↦
                let b : block_in new j ≡ block = ap (block_in new) same ∙ s.here in
                let id : (entry_in block).id ≡ x = ap (λ (e : PrEntry). e.id) s.same_entry ∙ s.id in
                subst (λ (c : List ℕ). IsListed new (entry_in c).id c (set_list x no_ids lists (entry_in c).id)) (sym b)
                (subst (λ (y : ℤ). IsListed new y block (set_list x no_ids lists y)) (sym id)
                (subst (λ (m : PairList). IsListed new x block m) (sym (set_same x x no_ids lists refl)) s.listed))
            | freed free ↦ absurd (omega (arith, kind, ap kind_of free, zero_kind))
            | untouched other not same ↦ other_listed old new r lists x k n block j laid are s fits in_n other same kind
          ];
      used = λ j below kind.
          let in_n : j < n = omega (arith, below, new_count) in
          elim (place old new (lists x).more x k n block s j in_n) [
            | the_entry same ↦
                let one : kind_of (block_in new j) ≡ 1 =
                ap (λ (i : ℕ). kind_of (block_in new i)) same ∙ ap kind_of s.here ∙ s.is_entry.kind in
                absurd (omega (arith, one, kind))
            | freed free ↦ absurd (omega (arith, kind, ap kind_of free, zero_kind))
            | untouched other not same ↦
                let u = are.used j (omega (arith, in_n, count)) (ap kind_of (sym same) ∙ kind) in (
                  u.0,
                  u.1,
                  by_id u.0 x
                      (λ is. absurd (not (subst (λ (y : ℤ). Contains (lists y).more j) is u.2)))
                      (λ differs. subst (λ (m : PairList). Contains m.more j) (sym (set_other x u.0 no_ids lists differs)) u.2),
                )
          ];
      once = λ id is_there.
          by_id id x
          (λ is. subst (λ (m : PairList). IsDistinct m.more) (sym (set_same x id no_ids lists is))
          (λ i j d less past. absurd (omega (arith, past))))
          (λ differs. subst (λ (m : PairList). IsDistinct m.more) (sym (set_other x id no_ids lists differs)) (are.once id is_there));
      spelled = λ j below kind.
          let in_n : j < n = omega (arith, below, new_count) in
          elim (place old new (lists x).more x k n block s j in_n) [
            | the_entry same ↦ subst IsSpelled (sym (ap (block_in new) same ∙ s.here)) s.is_spelled
            | freed free ↦ absurd (omega (arith, kind, ap kind_of free, zero_kind))
            | untouched other not same ↦
                subst IsSpelled (sym same) (are.spelled j (omega (arith, in_n, count)) (ap kind_of (sym same) ∙ kind))
          ];
    }

emptied_plain : (old : List ℕ) (r : Registry) (lists : ℤ → PairList) (x : ℤ) (k : ℕ) → HasPlainLists old r lists → StandsAt old x k
    → IsSome (r.entry x)
    → HasPlainLists (relisted k x (block_in old k) no_ids (all_zero (lists x).more old)) r (set_list x no_ids lists)
emptied_plain old r lists x k h at there =
    let n = block_count old in
    let block = with_list (block_in old k) no_ids in
    let new = relisted k x (block_in old k) no_ids (all_zero (lists x).more old) in
    let s : IsEmptied old new (lists x).more x k n block = emptied_side old r lists x k n h at there refl in
    record {
      valid = h.valid;
      laid = emptied_laid old new r (lists x).more x k n block h.laid s;
      are = emptied_lists old new r lists x k n block h.laid h.are s (λ id is. entry_fits r id h.valid is);
    }

-- ---- with them: the blocks of the list stand in the free chain

-- These blocks are free, and without the words of chains zero. Entries and their words of chains stay.
record AreFreed (more image new : List ℕ) : Type 0 where
  keeps : KeepsEntries image new
  same : unchained new ≡ all_zero more (unchained image)
  stays : (j : ℕ) → j < block_count image → kind_of (block_in image j) ≡ 1 → block_in new j ≡ block_in image j
  free : HasFree new
  size : length new ≡ length image
  can : CanFree more image

head_not : (f : ℕ) (more : List ℕ) → IsDistinct (f ∷ more) → Contains more f → ⊥
head_not f more distinct has = distinct 0 (suc has.0) f (omega arith) (omega (arith, has.1)) (sym has.2)

distinct_tail : (f : ℕ) (more : List ℕ) → IsDistinct (f ∷ more) → IsDistinct more
distinct_tail f more distinct i j d less below = distinct (suc i) (suc j) d (omega (arith, less)) (omega (arith, below))

are_freed : (more image : List ℕ) → IsWhole 2112 image → HasFree image
    → ((j : ℕ) → Contains more j → (j < block_count image) × (kind_of (block_in image j) ≡ 2)) → IsDistinct more
    → AreFreed more image (with_all_freed more image)
are_freed [] image size free blocks distinct = record {
  keeps = keeps_none image size;
  same = refl;
  stays = λ j below is. refl;
  free = free;
  size = refl;
  can = tt;
}
are_freed (f ∷ more) image size free blocks distinct =
    let here = blocks f (first_in f more) in
    let others : AllByRecursion (λ v. v ≢ f + 1) free.words =
    all_from (λ v. v ≢ f + 1) free.words
    (λ w has is.
    let back : w - 1 ≡ f = omega (arith, is) in
    omega (arith, here.1, (chain_names image 20 free.words w free.chain has).kind, ap (λ (i : ℕ). kind_of (block_in image i)) back)) in
    let mid = with_free_block free_blocks (f + 1) image in
    let one : IsOneFreed image mid f = one_freed image f size here.0 free (λ none. omega (arith, none, here.1)) others in
    let count : block_count mid ≡ block_count image = omega (arith, one.size) in
    let rest : AreFreed more mid (with_all_freed more mid) =
    are_freed more mid (omega (arith, one.size, size)) one.free
    (λ j has.
    let b = blocks j (later_in f more j has) in
    let other : j ≢ f = λ same. head_not f more distinct (subst (Contains more) same has) in
    (omega (arith, b.0, count), one.kinds j b.0 other ∙ b.1)) (distinct_tail f more distinct) in
    record {
      keeps = keeps_then image mid (with_all_freed more mid) (keeps_freed image mid f size (λ is. omega (arith, is, here.1)) one)
          rest.keeps;
      same = rest.same ∙ ap (all_zero more) (freed_zero image free.words f size here.0 free.chain free.ascending others);
      stays = λ j below is.
          let stood : block_in mid j ≡ block_in image j =
          one.others j below (λ same. omega (arith, is, here.1, ap (λ (i : ℕ). kind_of (block_in image i)) same))
          (λ none. omega (arith, is, none)) in
          rest.stays j (omega (arith, below, count)) (ap kind_of stood ∙ is) ∙ stood;
      free = rest.free;
      size = rest.size ∙ one.size;
      can = ((size, (free.words, free.chain)), rest.can);
    }

list_freed : (image : List ℕ) (r : Registry) (lists : ℤ → PairList) (x : ℤ) (k : ℕ) → HasLists image r lists → StandsAt image x k
    → IsSome (r.entry x) → AreFreed (lists x).more image (with_all_freed (lists x).more image)
list_freed image r lists x k h at there =
    let blocks = list_blocks image r lists x k h at there in
    are_freed (lists x).more image h.size h.chains.free (λ j has. ((blocks j has).below, (blocks j has).kind)) (h.without.are.once x there)

pub can_free : (image : List ℕ) (r : Registry) (lists : ℤ → PairList) (x : ℤ) (k : ℕ) → HasLists image r lists → StandsAt image x k
    → IsSome (r.entry x) → CanFree (lists x).more image
can_free image r lists x k h at there = (list_freed image r lists x k h at there).can

empty_side : (image : List ℕ) (r : Registry) (lists : ℤ → PairList) (x : ℤ) (k : ℕ) → HasLists image r lists → StandsAt image x k
    → IsSome (r.entry x)
    → IsSide image (emptied k x (block_in image k) (lists x) image)
    (relisted k x (block_in (unchained image) k) no_ids (all_zero (lists x).more (unchained image))) k
empty_side image r lists x k h at there =
    let a = list_freed image r lists x k h at there in
    side_over image (with_all_freed (lists x).more image) (all_zero (lists x).more (unchained image)) r lists x k no_ids h at record {
      keeps = a.keeps;
      same = a.same;
      stays = a.stays;
      free = free_none (with_all_freed (lists x).more image) [] a.free (λ j has. absurd (none_in j has));
      below = λ j has. absurd (none_in j has);
      kinds = λ j has. absurd (none_in j has);
      most = omega (arith, a.size);
    }

-- the image is a function of the bytes
pub emptied_is : (image : List ℕ) (r : Registry) (lists : ℤ → PairList) (x : ℤ) (k : ℕ) → HasLists image r lists → StandsAt image x k
    → without_ids x image ≡ emptied k x (block_in image k) (lists x) image
emptied_is image r lists x k h at =
    ap (λ (j : ℕ). emptied j x (block_in image j) (list_in image (block_in image j)) image) (place_is image r lists x k h at)
    ∙ ap (λ (l : PairList). emptied k x (block_in image k) l image) (told_at image r lists x k h at)

-- it holds all other lists
pub empty : (image : List ℕ) (r : Registry) (lists : ℤ → PairList) (x : ℤ) (k : ℕ) → HoldsLists image r lists → StandsAt image x k
    → IsSome (r.entry x) → HoldsLists (without_ids x image) r (set_list x no_ids lists)
empty image r lists x k h at there =
    let u = unchained image in
    let new = emptied k x (block_in image k) (lists x) image in
    let side = empty_side image r lists x k h.has at there in
    let plain = emptied_plain u r lists x k h.has.without (stands_plain image x k h.has.size at) there in
    let has : HasLists new r (set_list x no_ids lists) = record {
      size = side.keeps.size;
      without = subst (λ (i : List ℕ). HasPlainLists i r (set_list x no_ids lists)) (sym side.same) plain;
      chains = side.chains;
    } in
    subst (λ (i : List ℕ). HoldsLists i r (set_list x no_ids lists)) (sym (emptied_is image r lists x k h.has at)) record {
      has = has;
      members = λ id is other has_other. by_id id x
          (λ same. absurd (omega (arith, (subst (λ (m : PairList). Contains m.ids other) (set_same x id no_ids lists same) has_other).1)))
          (λ differs.
          h.members id is other (subst (λ (m : PairList). Contains m.ids other) (set_other x id no_ids lists differs) has_other));
    }
