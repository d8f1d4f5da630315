-- An image in which the list of one entry is another one.
use Rattle.std.proofs.Common.{◌≡◌, ◌≢◌, ℕ, ℤ, zero, suc, ◌<◌, Bool, cond, List, [], ◌∷◌, length, take, drop, Option, Some, IsSome, refl, sym, ap, subst, ◌∙◌, ⊎_elim, inl, inr, arith}
use Rattle.std.specs.Prelude.{◌⊎◌, FitsSigned}
use Rattle.std.specs.Int.{w32}
use Rattle.std.specs.List.{All, Contains}
use Rattle.std.proofs.lemmas.Bool.{cases_eq}
use Rattle.std.proofs.lemmas.Bool.Decides.{Decides-int_eq}
use Rattle.std.proofs.lemmas.List.Elements.{All-tail}
use Rattle.prdb_layout.specs.Blocks.{block_count}
use Rattle.db_blocks.specs.Bytes.{zeros}
use Rattle.db_blocks.specs.Blocks.{kind_of}
use Rattle.prdb_layout.specs.Records.{IsBlock, IsEntryBlock, IsLaidOut, block_in, block_place, entry_in, head_with, signed_at, with_block}
use Rattle.prdb_layout.specs.Registry.{Registry}
use Rattle.prdb_layout.specs.State.{PrEntry}
use Rattle.prdb_layout.proofs.Changed.{by_id}
use Rattle.prdb_layout.proofs.LaidOut.{zero_kind}
use Rattle.prdb_lists.specs.Layout.{AreLists, IsChain, IsDistinct, IsListed, PairList, link_to, more_block, IsSpelled}
use Rattle.prdb_lists.specs.Changes.{with_more}
use Rattle.prdb_lists.specs.Sides.{set_list}
use Rattle.prdb_lists.proofs.BlockIds.{kind_of_more, entry_of_more}
use Rattle.prdb_lists.proofs.RecordsKeep.{int_other}
use Rattle.prdb_lists.proofs.WithList.{length-more, take_few}
use Rattle.db_blocks.proofs.Scanned.{count_is}
use Rattle.db_blocks.proofs.BlockPlaces.{IsPut, put_block}

-- ---- blocks of a list

pub behind : (x : ℕ) (xs : List ℕ) (j : ℕ) → x ≢ j → Contains (x ∷ xs) j → Contains xs j
behind x xs j other (zero, below, is) = absurd (other is)
behind x xs j other (suc k, below, is) = (k, omega arith, is)

pub contains_or : (xs : List ℕ) (j : ℕ) → Contains xs j ⊎ (Contains xs j → ⊥)
contains_or [] j = inr (λ c. omega (arith, c.1))
contains_or (x ∷ xs) j =
    ⊎_elim
    (λ (same : x ≡ j). inl (0, omega arith, same))
    (λ (other : x ≢ j). elim (contains_or xs j) [
      | inl has ↦ inl (suc has.0, omega (arith, has.1), has.2)
      | inr not ↦ inr (λ c. not (behind x xs j other c))
    ])
    (cases_eq x j)

-- enough ids for each block, and no more
abbrev pub IsFull : List ℕ → List ℤ → Type 0
IsFull [] ids = ids ≡ []
IsFull (k ∷ more) ids = (ids ≢ []) × IsFull more (drop 44 ids)

pub record IsWritten (entry : ℤ) (more : List ℕ) (ids : List ℤ) (old new : List ℕ) (n : ℕ) : Type 0 where
  pub size : length new ≡ block_place n
  pub front : take 2112 new ≡ take 2112 old
  pub chain : IsChain new entry more ids
  pub others : (j : ℕ) → j < n → (Contains more j → ⊥) → block_in new j ≡ block_in old j

tail_not : (k : ℕ) (more : List ℕ) (j : ℕ) → (Contains (k ∷ more) j → ⊥) → Contains more j → ⊥
tail_not k more j not has = not (suc has.0, omega (arith, has.1), has.2)

head_not : (k : ℕ) (more : List ℕ) → IsDistinct (k ∷ more) → Contains more k → ⊥
head_not k more distinct has = distinct 0 (suc has.0) k (omega arith) (omega (arith, has.1)) (sym has.2)

distinct_tail : (k : ℕ) (more : List ℕ) → IsDistinct (k ∷ more) → IsDistinct more
distinct_tail k more distinct i j d less below = distinct (suc i) (suc j) d (omega arith) (omega arith)

pub written : (entry : ℤ) (more : List ℕ) (ids : List ℤ) (image : List ℕ) (n : ℕ) → length image ≡ block_place n → All (λ k. k < n) more
    → IsDistinct more → IsFull more ids
    → IsWritten entry more ids image (with_more entry more ids image) n
unfolding with_more
written entry [] ids image n size below distinct full = record { size = size; front = refl; chain = full; others = λ j less not. refl }
written entry (k ∷ more) ids image n size below distinct full =
    let block = more_block entry (link_to more) (take 44 ids) in
    let here : k < n = below 0 0 (omega arith) in
    let put : IsPut 2112 k block image (with_block k block image) n = put_block 2112 image block k n size
    (length-more entry (link_to more) (take 44 ids) (take_few 44 ids)) here in
    let count : block_count image ≡ n = count_is 2112 image n size in
    let rest = written entry more (drop 44 ids) (with_block k block image) n put.size (All-tail (λ j. j < n) k more below)
    (distinct_tail k more distinct) full.1 in
    let last : block_count (with_more entry more (drop 44 ids) (with_block k block image))
    ≡ n = count_is 2112 (with_more entry more (drop 44 ids) (with_block k block image)) n rest.size in
    record {
      size = rest.size;
      front = rest.front ∙ put.front;
      chain = (omega (arith, here, last), full.0, rest.others k here (head_not k more distinct) ∙ put.here, rest.chain);
      others = λ j less not.
          let other : j ≢ k = λ same. not (0, omega arith, sym same) in
          rest.others j less (tail_not k more j not) ∙ put.others j (omega (arith, less, count)) other;
    }

-- ---- what stands in a list's blocks

pub record IsMoreBlock (image : List ℕ) (entry : ℤ) (j : ℕ) : Type 0 where
  pub below : j < block_count image
  pub kind : kind_of (block_in image j) ≡ 2
  pub owner : signed_at (block_in image j) 4 ≡ entry

pub chain_block : (image : List ℕ) (entry : ℤ) (more : List ℕ) (ids : List ℤ) → FitsSigned w32 entry → IsChain image entry more ids
    → (j : ℕ) → Contains more j
    → IsMoreBlock image entry j
chain_block image entry [] ids fits chain j has = absurd (omega (arith, has.1))
chain_block image entry (k ∷ more) ids fits chain j has =
    ⊎_elim
    (λ (same : k ≡ j). subst (IsMoreBlock image entry) same record {
      below = chain.0;
      kind = ap kind_of chain.2 ∙ kind_of_more entry (link_to more) (take 44 ids);
      owner = ap (λ (b : List ℕ). signed_at b 4) chain.2 ∙ entry_of_more entry (link_to more) (take 44 ids) fits;
    })
    (λ (other : k ≢ j). chain_block image entry more (drop 44 ids) fits chain.3 j (behind k more j other has))
    (cases_eq k j)

-- a list whose blocks stay
pub chain_stays : (old new : List ℕ) (entry : ℤ) (more : List ℕ) (ids : List ℤ) → FitsSigned w32 entry
    → ((j : ℕ) → IsMoreBlock old entry j → (j < block_count new) × (block_in new j ≡ block_in old j)) → IsChain old entry more ids
    → IsChain new entry more ids
chain_stays old new entry [] ids fits same chain = chain
chain_stays old new entry (k ∷ more) ids fits same chain =
    let s = same k (chain_block old entry (k ∷ more) ids fits chain k (0, omega arith, refl)) in
    (s.0, chain.1, s.1 ∙ chain.2, chain_stays old new entry more (drop 44 ids) fits same chain.3)

-- ---- one list is another one

-- Block k is the entry's, with the new list; the new list's blocks are written; block f, which was free or of the old list, is of the
-- new list or free. All others stay.
pub record IsSide (old new : List ℕ) (lists : ℤ → PairList) (x : ℤ) (k f n : ℕ) (block : List ℕ) (l : PairList) : Type 0 where
  pub was : length old ≡ block_place n
  pub size : length new ≡ block_place n
  pub front : take 2112 new ≡ take 2112 old
  pub within : k < n
  pub kind : kind_of (block_in old k) ≡ 1
  pub id : (entry_in (block_in old k)).id ≡ x
  pub here : block_in new k ≡ block
  pub same_entry : entry_in block ≡ entry_in (block_in old k)
  pub is_entry : IsEntryBlock block
  pub is_spelled : IsSpelled block
  pub listed : IsListed new x block l
  pub others : (j : ℕ) → j < n → j ≢ k → (Contains l.more j → ⊥) → j ≢ f → block_in new j ≡ block_in old j
  pub spare : f < n → (Contains l.more f → ⊥) → block_in new f ≡ zeros 192
  pub new_more : (j : ℕ) → Contains l.more j → Contains (lists x).more j ⊎ (j ≡ f)
  pub old_more : (j : ℕ) → Contains (lists x).more j → Contains l.more j ⊎ (j ≡ f)
  pub spare_was : f < n → (kind_of (block_in old f) ≡ 0) ⊎ Contains (lists x).more f
  pub distinct : IsDistinct l.more

-- what a block of the new image is
data Place (old new : List ℕ) (k f : ℕ) (more : List ℕ) (j : ℕ) : Type 0 where
  the_entry : j ≡ k → Place old new k f more j
  of_list : Contains more j → Place old new k f more j
  freed : block_in new j ≡ zeros 192 → Place old new k f more j
  untouched : j ≢ k → (Contains more j → ⊥) → j ≢ f → block_in new j ≡ block_in old j → Place old new k f more j

place : (old new : List ℕ) (lists : ℤ → PairList) (x : ℤ) (k f n : ℕ) (block : List ℕ) (l : PairList) → IsSide old new lists x k f n block l
    → (j : ℕ) → j < n
    → Place old new k f l.more j
place old new lists x k f n block l s j below =
    ⊎_elim (λ (same : j ≡ k). the_entry same)
    (λ (other : j ≢ k). elim (contains_or l.more j) [
      | inl has ↦ of_list has
      | inr not ↦
          ⊎_elim
          (λ (same : j ≡ f).
          freed (ap (block_in new) same
          ∙ s.spare (subst (λ (i : ℕ). i < n) same below) (λ has. not (subst (Contains l.more) (sym same) has))))
          (λ (apart : j ≢ f). untouched other not apart (s.others j below other not apart))
          (cases_eq j f)
    ])
    (cases_eq j k)

-- a block that is touched was free, or a continuation of the entry
touched : (old new : List ℕ) (lists : ℤ → PairList) (x : ℤ) (k f n : ℕ) (block : List ℕ) (l : PairList)
    → IsSide old new lists x k f n block l
    → ((j : ℕ) → Contains (lists x).more j → IsMoreBlock old x j) → (j : ℕ) → j < n → Contains l.more j ⊎ (j ≡ f)
    → (kind_of (block_in old j) ≡ 0) ⊎ IsMoreBlock old x j
touched old new lists x k f n block l s more j below is =
    let at_f : j ≡ f → (kind_of (block_in old j) ≡ 0) ⊎ IsMoreBlock old x j =
    λ same. subst (λ (i : ℕ). (kind_of (block_in old i) ≡ 0) ⊎ IsMoreBlock old x i) (sym same)
    (elim (s.spare_was (subst (λ (i : ℕ). i < n) same below)) [
      | inl free ↦ inl free
      | inr has ↦ inr (more f has)
    ]) in
    elim is [
      | inl has ↦ elim (s.new_more j has) [ inl old_has ↦ inr (more j old_has) | inr same ↦ at_f same ]
      | inr same ↦ at_f same
    ]

-- the block of another entry, or a continuation of one, stays
pub stays : (old new : List ℕ) (lists : ℤ → PairList) (x : ℤ) (k f n : ℕ) (block : List ℕ) (l : PairList)
    → IsSide old new lists x k f n block l
    → ((j : ℕ) → Contains (lists x).more j → IsMoreBlock old x j) → (j : ℕ) → j < n → j ≢ k → kind_of (block_in old j) ≢ 0
    → (IsMoreBlock old x j → ⊥)
    → block_in new j ≡ block_in old j
stays old new lists x k f n block l s more j below other used apart =
    let not : Contains l.more j ⊎ (j ≡ f)
    → ⊥ = λ is. elim (touched old new lists x k f n block l s more j below is) [ inl free ↦ used free | inr mine ↦ apart mine ] in
    s.others j below other (λ has. not (inl has)) (λ same. not (inr same))

-- the image is laid out for the same registry
pub side_laid : (old new : List ℕ) (r : Registry) (lists : ℤ → PairList) (x : ℤ) (k f n : ℕ) (block : List ℕ) (l : PairList)
    → IsLaidOut old r
    → IsSide old new lists x k f n block l → ((j : ℕ) → Contains (lists x).more j → IsMoreBlock old x j)
    → ((j : ℕ) → Contains l.more j → IsMoreBlock new x j)
    → IsLaidOut new r
side_laid old new r lists x k f n block l laid s more new_more =
    let count : block_count old ≡ n = count_is 2112 old n s.was in
    let new_count : block_count new ≡ n = count_is 2112 new n s.size in
    let kind_one : (j : ℕ) → j < n → kind_of (block_in new j) ≡ 1
    → (kind_of (block_in old j) ≡ 1) × (entry_in (block_in new j) ≡ entry_in (block_in old j)) =
    λ j below kind. elim (place old new lists x k f n block l s j below) [
      | the_entry same ↦ (
        ap (λ (i : ℕ). kind_of (block_in old i)) same ∙ s.kind,
        ap (λ (i : ℕ). entry_in (block_in new i)) same ∙ ap entry_in s.here ∙ s.same_entry
            ∙ ap (λ (i : ℕ). entry_in (block_in old i)) (sym same),
      )
      | of_list has ↦ absurd (omega (arith, kind, (new_more j has).kind))
      | freed free ↦ absurd (omega (arith, kind, ap kind_of free, zero_kind))
      | untouched other not apart same ↦ (ap kind_of (sym same) ∙ kind, ap entry_in same)
    ] in
    record {
      size = s.size ∙ ap block_place (sym new_count);
      head = s.front ∙ laid.head ∙ ap (head_with r.max_user r.max_group) (count ∙ sym new_count);
      blocks = λ j below. elim (place old new lists x k f n block l s j (omega (arith, below, new_count))) [
        | the_entry same ↦ inr (inr (subst IsEntryBlock (sym (ap (block_in new) same ∙ s.here)) s.is_entry))
        | of_list has ↦ inr (inl (new_more j has).kind)
        | freed free ↦ inl free
        | untouched other not apart same ↦ subst IsBlock (sym same) (laid.blocks j (omega (arith, below, count, new_count)))
      ];
      there = λ j below kind.
          let in_n : j < n = omega (arith, below, new_count) in
          let o = kind_one j in_n kind in
          subst (λ (e : PrEntry). r.entry e.id ≡ Some e) (sym o.1) (laid.there j (omega (arith, in_n, count)) o.0);
      only = λ id e at.
          let o = laid.only id e at in
          let in_n : o.0 < n = omega (arith, o.1, count) in
          ⊎_elim
          (λ (same : o.0 ≡ k).
          let b : block_in new o.0 ≡ block = ap (block_in new) same ∙ s.here in (
            o.0,
            omega (arith, in_n, new_count),
            ap kind_of b ∙ s.is_entry.kind,
            ap entry_in b ∙ s.same_entry ∙ ap (λ (i : ℕ). entry_in (block_in old i)) (sym same) ∙ o.3,
          ))
          (λ (other : o.0 ≢ k).
          let b = stays old new lists x k f n block l s more o.0 in_n other (λ free. omega (arith, o.2))
          (λ mine. omega (arith, o.2, mine.kind)) in
          (o.0, omega (arith, in_n, new_count), ap kind_of b ∙ o.2, ap entry_in b ∙ o.3))
          (cases_eq o.0 k);
      one = λ i j in_i in_j kind_i kind_j same.
          let a : i < n = omega (arith, in_i, new_count) in
          let b : j < n = omega (arith, in_j, new_count) in
          let o = kind_one i a kind_i in
          let p = kind_one j b kind_j in
          laid.one i j (omega (arith, a, count)) (omega (arith, b, count)) o.0 p.0
          (ap (λ (e : PrEntry). e.id) (sym o.1) ∙ same ∙ ap (λ (e : PrEntry). e.id) p.1);
    }

pub set_same : (x id : ℤ) (l : PairList) (lists : ℤ → PairList) → id ≡ x → set_list x l lists id ≡ l
set_same x id l lists same = ap (λ (b : Bool). cond b l (lists id)) ((Decides-int_eq id x).1 same)

pub set_other : (x id : ℤ) (l : PairList) (lists : ℤ → PairList) → id ≢ x → set_list x l lists id ≡ lists id
set_other x id l lists other = ap (λ (b : Bool). cond b l (lists id)) (int_other id x other)

-- and the lists are those with the new one
pub side_lists : (old new : List ℕ) (r : Registry) (lists : ℤ → PairList) (x : ℤ) (k f n : ℕ) (block : List ℕ) (l : PairList)
    → IsLaidOut old r
    → AreLists old r lists → IsSide old new lists x k f n block l → IsSome (r.entry x)
    → ((id : ℤ) → IsSome (r.entry id) → FitsSigned w32 id)
    → ((j : ℕ) → Contains (lists x).more j → IsMoreBlock old x j) → ((j : ℕ) → Contains l.more j → IsMoreBlock new x j)
    → AreLists new r (set_list x l lists)
side_lists old new r lists x k f n block l laid are s there fits more new_more =
    let count : block_count old ≡ n = count_is 2112 old n s.was in
    let new_count : block_count new ≡ n = count_is 2112 new n s.size in
    record {
      listed = λ j below kind.
          let in_n : j < n = omega (arith, below, new_count) in
          elim (place old new lists x k f n block l s j in_n) [
            | the_entry same ↦
                let b : block_in new j ≡ block = ap (block_in new) same ∙ s.here in
                let id : (entry_in block).id ≡ x = ap (λ (e : PrEntry). e.id) s.same_entry ∙ s.id in
                subst (λ (c : List ℕ). IsListed new (entry_in c).id c (set_list x l lists (entry_in c).id)) (sym b)
                (subst (λ (y : ℤ). IsListed new y block (set_list x l lists y)) (sym id)
                (subst (λ (m : PairList). IsListed new x block m) (sym (set_same x x l lists refl)) s.listed))
            | of_list has ↦ absurd (omega (arith, kind, (new_more j has).kind))
            | freed free ↦ absurd (omega (arith, kind, ap kind_of free, zero_kind))
            | untouched other not apart same ↦
                let old_kind : kind_of (block_in old j) ≡ 1 = ap kind_of (sym same) ∙ kind in
                let in_old : j < block_count old = omega (arith, in_n, count) in
                let y = (entry_in (block_in old j)).id in
                let differs : (entry_in (block_in old j)).id ≢ x = λ is.
                other (laid.one j k in_old (omega (arith, s.within, count)) old_kind s.kind (is ∙ sym s.id)) in
                let fit = fits (entry_in (block_in old j)).id
                (subst (λ (o : Option PrEntry). IsSome o) (sym (laid.there j in_old old_kind)) refl) in
                let was = are.listed j in_old old_kind in
                let chain = chain_stays old new (entry_in (block_in old j)).id (lists (entry_in (block_in old j)).id).more
                (drop 19 (lists (entry_in (block_in old j)).id).ids) fit
                (λ i mine.
                let in_i : i < n = omega (arith, mine.below, count) in (
                  omega (arith, in_i, new_count),
                  stays old new lists x k f n block l s more i in_i
                      (λ is_k. let one = ap (λ (h : ℕ). kind_of (block_in old h)) is_k ∙ s.kind in omega (arith, one, mine.kind))
                      (λ free. omega (arith, free, mine.kind))
                      (λ of_x. differs (sym mine.owner ∙ of_x.owner)),
                )) was.chain in
                let now : IsListed new (entry_in (block_in old j)).id (block_in old j) (lists (entry_in (block_in old j)).id) =
                record { ascending = was.ascending; fits = was.fits; few = was.few; front = was.front; first = was.first; chain = chain } in
                subst (λ (c : List ℕ). IsListed new (entry_in c).id c (set_list x l lists (entry_in c).id)) (sym same)
                (subst (λ (m : PairList). IsListed new (entry_in (block_in old j)).id (block_in old j) m)
                (sym (set_other x (entry_in (block_in old j)).id l lists differs)) now)
          ];
      used = λ j below kind.
          let in_n : j < n = omega (arith, below, new_count) in
          elim (place old new lists x k f n block l s j in_n) [
            | the_entry same ↦
                let one : kind_of (block_in new j) ≡ 1 = ap (λ (i : ℕ). kind_of (block_in new i)) same ∙ ap kind_of s.here
                ∙ s.is_entry.kind in
                absurd (omega (arith, one, kind))
            | of_list has ↦ (x, there, subst (λ (m : PairList). Contains m.more j) (sym (set_same x x l lists refl)) has)
            | freed free ↦ absurd (omega (arith, kind, ap kind_of free, zero_kind))
            | untouched other not apart same ↦
                let u = are.used j (omega (arith, in_n, count)) (ap kind_of (sym same) ∙ kind) in (
                  u.0,
                  u.1,
                  by_id u.0 x
                      (λ is. elim (s.old_more j (subst (λ (y : ℤ). Contains (lists y).more j) is u.2))
                      [ inl has ↦ absurd (not has) | inr at_f ↦ absurd (apart at_f) ])
                      (λ differs. subst (λ (m : PairList). Contains m.more j) (sym (set_other x u.0 l lists differs)) u.2),
                )
          ];
      once = λ id is_there.
          by_id id x
          (λ is. subst (λ (m : PairList). IsDistinct m.more) (sym (set_same x id l lists is)) s.distinct)
          (λ differs. subst (λ (m : PairList). IsDistinct m.more) (sym (set_other x id l lists differs)) (are.once id is_there));
      spelled = λ j below kind.
          let in_n : j < n = omega (arith, below, new_count) in
          elim (place old new lists x k f n block l s j in_n) [
            | the_entry same ↦ subst IsSpelled (sym (ap (block_in new) same ∙ s.here)) s.is_spelled
            | of_list has ↦ absurd (omega (arith, kind, (new_more j has).kind))
            | freed free ↦ absurd (omega (arith, kind, ap kind_of free, zero_kind))
            | untouched other not apart same ↦
                subst IsSpelled (sym same) (are.spelled j (omega (arith, in_n, count)) (ap kind_of (sym same) ∙ kind))
          ];
    }
