-- An id that comes into the list of an entry, or goes out of it.
use Rattle.std.proofs.Common.{◌≡◌, ℕ, ℤ, zero, suc, ◌+◌, ◌-◌, ◌<◌, ◌≤◌, true, false, List, [], ◌∷◌, ◌++◌, length, get_or, take, drop, Option, Some, None, IsSome, refl, sym, ap, subst, ◌∙◌, ⊎_elim, inl, inr, arith}
use Rattle.std.specs.Int.{div_ceil}
use Rattle.std.specs.List.{Contains}
use Rattle.std.proofs.lemmas.Bool.{cases_lt, lt-ltb, le-ltb, and_from, eq-eqb, cases_Bool}
use Rattle.std.proofs.lemmas.Bool.Decides.{Decides-int_eq}
use Rattle.std.proofs.lemmas.List.{append-nil, get_or_default, take-append-drop, length-append, length-take-le, length-drop, get_or_append_left, get_or-append_right}
use Rattle.std.proofs.lemmas.List.Elements.{Contains-append_left, Contains-append_right, Contains-append_cases}
use Rattle.prdb_layout.specs.Blocks.{block_count}
use Rattle.db_blocks.specs.Bytes.{zeros}
use Rattle.db_blocks.specs.Blocks.{kind_of}
use Rattle.db_blocks.proofs.FirstBlocks.{first_at}
use Rattle.prdb_layout.specs.Records.{block_in, block_place, entry_in, has_id, next_block, with_block}
use Rattle.prdb_layout.specs.Registry.{Registry}
use Rattle.prdb_layout.specs.State.{PrEntry}
use Rattle.prdb_layout.proofs.LaidOut.{zero_kind}
use Rattle.prdb_layout.proofs.Lookups.{id_parts}
use Rattle.prdb_lists.specs.Changes.{blocks_for, gained, list_in, lost, place_in, relisted, with_free, with_freed, with_id, without_id}
use Rattle.prdb_lists.specs.Layout.{IsDistinct, IsListed, PairList}
use Rattle.prdb_lists.specs.Lists.{ids_with, ids_without}
use Rattle.prdb_lists.specs.Sides.{HasLists, HoldsLists, IsRelisted}
use Rattle.prdb_lists.proofs.Ascending.{IsWith}
use Rattle.prdb_lists.proofs.Chains.{chain-length, chain-within, list_told}
use Rattle.prdb_lists.proofs.FreeBlock.{HasFree, free_taken}
use Rattle.prdb_lists.proofs.Ids.{IsWithout, entry_fits, ids_with-ascending, ids_with-members, ids_without-ascending, ids_without-members, length-ids_with, length-ids_without}
use Rattle.prdb_lists.proofs.RecordsKeep.{zeros_len}
use Rattle.prdb_lists.proofs.Relist.{IsSpared, StandsAt, relist}
use Rattle.prdb_lists.proofs.Side.{IsMoreBlock, chain_block}
use Rattle.db_blocks.proofs.Scanned.{count_is}
use Rattle.db_blocks.proofs.BlockPlaces.{IsPut, put_block}

pub listed_at : (image : List ℕ) (r : Registry) (lists : ℤ → PairList) (x : ℤ) (k : ℕ) → HasLists image r lists → StandsAt image x k
    → IsListed image x (block_in image k) (lists x)
listed_at image r lists x k h at = subst (λ (y : ℤ). IsListed image y (block_in image k) (lists y)) at.id (h.are.listed k at.below at.kind)

pub more_length : (image : List ℕ) (r : Registry) (lists : ℤ → PairList) (x : ℤ) (k : ℕ) → HasLists image r lists → StandsAt image x k
    → length (lists x).more ≡ blocks_for (length (lists x).ids)
more_length image r lists x k h at =
    chain-length image x (lists x).more (drop 19 (lists x).ids) (listed_at image r lists x k h at).chain
    ∙ ap (λ (n : ℕ). div_ceil n 44) (length-drop 19 (lists x).ids)

pub more_within : (image : List ℕ) (r : Registry) (lists : ℤ → PairList) (x : ℤ) (k : ℕ) → HasLists image r lists → StandsAt image x k
    → (j : ℕ) → Contains (lists x).more j → j < block_count image
more_within image r lists x k h at j has =
    chain-within image x (lists x).more (drop 19 (lists x).ids) (listed_at image r lists x k h at).chain j has

-- an entry that is there stands somewhere
pub record HasPlace (image : List ℕ) (x : ℤ) : Type 0 where
  pub k : ℕ
  pub at : StandsAt image x k

pub some_entry : {P : Type 0} (o : Option PrEntry) → IsSome o → ((e : PrEntry) → o ≡ Some e → P) → P
some_entry None there goes = absurd cc
some_entry (Some e) there goes = goes e refl

pub place_of : (image : List ℕ) (r : Registry) (lists : ℤ → PairList) (x : ℤ) → HasLists image r lists → IsSome (r.entry x)
    → HasPlace image x
place_of image r lists x h there = some_entry (r.entry x) there (λ e at.
    let o = h.laid.only x e at in
    record { k = o.0; at = record { below = o.1; kind = o.2; id = ap (λ (y : PrEntry). y.id) o.3 ∙ h.valid.ids x e at } })

-- ---- the image is a function of the bytes

has_here : (image : List ℕ) (x : ℤ) (k : ℕ) → StandsAt image x k → has_id x (block_in image k) ≡ true
has_here image x k at =
    and_from _ _ (eq-eqb (kind_of (block_in image k)) 1 at.kind) ((Decides-int_eq (entry_in (block_in image k)).id x).1 at.id)

pub place_is : (image : List ℕ) (r : Registry) (lists : ℤ → PairList) (x : ℤ) (k : ℕ) → HasLists image r lists → StandsAt image x k
    → place_in image x ≡ k
place_is image r lists x k h at =
    let below = at.below in
    first_at (λ j. has_id x (block_in image j)) 0 (block_count image) k (omega arith) (omega arith)
    (λ j from less. ⊎_elim
    (λ (t : has_id x (block_in image j) ≡ true).
    let parts = id_parts x (block_in image j) t in
    let same : j ≡ k = h.laid.one j k (omega arith) below parts.0 at.kind (parts.1 ∙ sym at.id) in
    absurd (omega arith))
    (λ (f : has_id x (block_in image j) ≡ false). f)
    (cases_Bool (has_id x (block_in image j))))
    (has_here image x k at)

pub told_at : (image : List ℕ) (r : Registry) (lists : ℤ → PairList) (x : ℤ) (k : ℕ) → HasLists image r lists → StandsAt image x k
    → list_in image (block_in image k) ≡ lists x
told_at image r lists x k h at = list_told image x (block_in image k) (lists x) (listed_at image r lists x k h at)

pub gained_is : (image : List ℕ) (r : Registry) (lists : ℤ → PairList) (x id : ℤ) (k : ℕ) → HasLists image r lists → StandsAt image x k
    → with_id x id image ≡ gained k x (block_in image k) (lists x) id image
gained_is image r lists x id k h at =
    ap (λ (j : ℕ). gained j x (block_in image j) (list_in image (block_in image j)) id image) (place_is image r lists x k h at)
    ∙ ap (λ (l : PairList). gained k x (block_in image k) l id image) (told_at image r lists x k h at)

pub lost_is : (image : List ℕ) (r : Registry) (lists : ℤ → PairList) (x id : ℤ) (k : ℕ) → HasLists image r lists → StandsAt image x k
    → without_id x id image ≡ lost k x (block_in image k) (lists x) id image
lost_is image r lists x id k h at =
    ap (λ (j : ℕ). lost j x (block_in image j) (list_in image (block_in image j)) id image) (place_is image r lists x k h at)
    ∙ ap (λ (l : PairList). lost k x (block_in image k) l id image) (told_at image r lists x k h at)

-- ---- one id more

-- as many blocks as there are
still_enough : (l d m : ℕ) → m ≡ blocks_for l → d ≡ l + 1 - 19 → blocks_for (l + 1) ≤ m → m ≡ div_ceil d 44
still_enough l d m was rest most = omega arith

-- or one more
one_more : (l d m : ℕ) → m ≡ blocks_for l → d ≡ l + 1 - 19 → m < blocks_for (l + 1) → m + 1 ≡ div_ceil d 44
one_more l d m was rest less = omega arith

with_members : (r : Registry) (ids : List ℤ) (id : ℤ) → ((y : ℤ) → Contains ids y → IsSome (r.entry y)) → IsSome (r.entry id) → (y : ℤ)
    → Contains (ids_with id ids) y → IsSome (r.entry y)
unfolding IsWith
with_members r ids id there is y has =
    elim ((ids_with-members id ids y).0 has) [ inl same ↦ subst (λ (z : ℤ). IsSome (r.entry z)) (sym same) is | inr old ↦ there y old ]

rest-length : (id : ℤ) (ids : List ℤ) → length (drop 19 (ids_with id ids)) ≡ length ids + 1 - 19
rest-length id ids = length-drop 19 (ids_with id ids) ∙ ap (λ (n : ℕ). n - 19) (length-ids_with id ids)

gain_same : (image : List ℕ) (r : Registry) (lists : ℤ → PairList) (x id : ℤ) (k : ℕ) → HoldsLists image r lists → StandsAt image x k
    → IsSome (r.entry x) → IsSome (r.entry id)
    → ¬ Contains (lists x).ids id → blocks_for (length (lists x).ids + 1) ≤ length (lists x).more
    → IsRelisted image
    (relisted k x (block_in image k) (record { ids = ids_with id (lists x).ids; more = (lists x).more }) image) 0 r lists k x
    (ids_with id (lists x).ids)
gain_same image r lists x id k h at there other fresh enough =
    relist image image r lists x k (block_count image) (record { ids = ids_with id (lists x).ids; more = (lists x).more }) h at there
    (record { size = refl; front = refl; zero = λ less. absurd (omega arith); others = λ j less apart. refl })
    (ids_with-ascending id (lists x).ids (listed_at image r lists x k h.has at).ascending fresh)
    (with_members r (lists x).ids id (h.members x there) other)
    (record {
      enough = still_enough (length (lists x).ids) (length (drop 19 (ids_with id (lists x).ids))) (length (lists x).more)
          (more_length image r lists x k h.has at) (rest-length id (lists x).ids) enough;
      within = more_within image r lists x k h.has at;
      distinct = h.has.are.once x there;
      new_more = λ j has. inl has;
      old_more = λ j has. inl has;
      spare_was = λ less. absurd (omega arith);
    })

pub one_of : (f j : ℕ) → Contains (f ∷ []) j → j ≡ f
one_of f j (zero, below, is) = sym is
one_of f j (suc i, below, is) = absurd (omega arith)

distinct_push : (more : List ℕ) (f : ℕ) → IsDistinct more → (Contains more f → ⊥) → IsDistinct (more ++ f ∷ [])
distinct_push more f is apart i j d less below same =
    let len = length-append more (f ∷ []) in
    let in_i : i < length more = omega (arith, len) in
    let at_i = get_or_append_left more (f ∷ []) d i in_i in
    ⊎_elim
    (λ (in_j : j < length more). is i j d less in_j (sym at_i ∙ same ∙ get_or_append_left more (f ∷ []) d j in_j))
    (λ (last : length more ≤ j).
    let end : j ≡ length more = omega (arith, len) in
    let none : j - length more ≡ 0 = omega arith in
    let at_j : get_or (more ++ f ∷ []) j d ≡ f = get_or-append_right more (f ∷ []) (length more) j d refl last
    ∙ ap (λ (n : ℕ). get_or (f ∷ []) n d) none in
    apart (i, in_i, get_or_default more i f d in_i ∙ sym at_i ∙ same ∙ at_j))
    (cases_lt j (length more))

pub stands_on : (old new : List ℕ) (x : ℤ) (k : ℕ) → StandsAt old x k → (k < block_count new) × (block_in new k ≡ block_in old k)
    → StandsAt new x k
stands_on old new x k at s = record { below = s.0; kind = ap kind_of s.1 ∙ at.kind; id = ap (λ (b : List ℕ). (entry_in b).id) s.1 ∙ at.id }

gain_one : (image : List ℕ) (r : Registry) (lists : ℤ → PairList) (x id : ℤ) (k : ℕ) → HoldsLists image r lists → StandsAt image x k
    → IsSome (r.entry x) → IsSome (r.entry id)
    → ¬ Contains (lists x).ids id → length (lists x).more < blocks_for (length (lists x).ids + 1)
    → IsRelisted image
    (relisted k x (block_in image k) (record { ids = ids_with id (lists x).ids; more = (lists x).more ++ next_block image ∷ [] })
    (with_free image)) 192 r lists k x (ids_with id (lists x).ids)
gain_one image r lists x id k h at there other fresh wanted =
    let f = next_block image in
    let old = with_free image in
    let free : HasFree image old r lists f = free_taken image r lists h in
    let l : PairList = record { ids = ids_with id (lists x).ids; more = (lists x).more ++ next_block image ∷ [] } in
    let stood = free.stood k at.below in
    let at_old : StandsAt old x k = stands_on image old x k at stood in
    let kind : kind_of (block_in old f) ≡ 0 = ap kind_of free.zero ∙ zero_kind in
    let blocks : (j : ℕ) → Contains (lists x).more j → IsMoreBlock old x j =
    chain_block old x (lists x).more (drop 19 (lists x).ids) (entry_fits r x h.has.valid there)
    (listed_at old r lists x k free.holds.has at_old).chain in
    let apart : Contains (lists x).more f → ⊥ = λ has. let two = (blocks f has).kind in omega arith in
    let is : IsRelisted old (relisted k x (block_in old k) l old) 0 r lists k x (ids_with id (lists x).ids) =
    relist old old r lists x k f l free.holds at_old there
    (record { size = refl; front = refl; zero = λ less. free.zero; others = λ j less other_j. refl })
    (ids_with-ascending id (lists x).ids (listed_at image r lists x k h.has at).ascending fresh)
    (with_members r (lists x).ids id (h.members x there) other)
    (record {
      enough = length-append (lists x).more (f ∷ [])
          ∙ one_more (length (lists x).ids) (length (drop 19 (ids_with id (lists x).ids))) (length (lists x).more)
          (more_length image r lists x k h.has at) (rest-length id (lists x).ids) wanted;
      within = λ j has. elim (Contains-append_cases (lists x).more (f ∷ []) j has) [
        | inl old_has ↦ (blocks j old_has).below
        | inr last ↦ subst (λ (i : ℕ). i < block_count old) (sym (one_of f j last)) free.below
      ];
      distinct = distinct_push (lists x).more f (h.has.are.once x there) apart;
      new_more = λ j has.
          elim (Contains-append_cases (lists x).more (f ∷ []) j has) [ inl old_has ↦ inl old_has | inr last ↦ inr (one_of f j last) ];
      old_more = λ j has. inl (Contains-append_left (lists x).more (f ∷ []) j has);
      spare_was = λ less. inl kind;
    }) in
    let made : IsRelisted old (relisted k x (block_in image k) l old) 0 r lists k x (ids_with id (lists x).ids) =
    subst (λ (b : List ℕ). IsRelisted old (relisted k x b l old) 0 r lists k x (ids_with id (lists x).ids)) stood.1 is in
    record {
      list = made.list;
      has = made.has;
      holds = made.holds;
      size = omega (arith, made.size, free.size);
      others = λ j less other_j one.
          let s = free.stood j less in
          let t = made.others j s.0 other_j (ap kind_of s.1 ∙ one) in
          (t.0, t.1 ∙ s.1);
    }

relisted_most : (old new : List ℕ) (a b : ℕ) (r : Registry) (lists : ℤ → PairList) (k : ℕ) (x : ℤ) (ids : List ℤ) → a ≤ b
    → IsRelisted old new a r lists k x ids → IsRelisted old new b r lists k x ids
relisted_most old new a b r lists k x ids more is =
    record { list = is.list; has = is.has; holds = is.holds; size = omega (arith, is.size); others = is.others }

pub gain : (image : List ℕ) (r : Registry) (lists : ℤ → PairList) (x id : ℤ) (k : ℕ) → HoldsLists image r lists → StandsAt image x k
    → IsSome (r.entry x) → IsSome (r.entry id)
    → ¬ Contains (lists x).ids id
    → IsRelisted image (gained k x (block_in image k) (lists x) id image) 192 r lists k x (ids_with id (lists x).ids)
gain image r lists x id k h at there other fresh =
    let count : length (ids_with id (lists x).ids) ≡ length (lists x).ids + 1 = length-ids_with id (lists x).ids in
    ⊎_elim
    (λ (wanted : length (lists x).more < blocks_for (length (ids_with id (lists x).ids))).
    rw (lt-ltb (length (lists x).more) (blocks_for (length (ids_with id (lists x).ids))) wanted)
    (gain_one image r lists x id k h at there other fresh (subst (λ (n : ℕ). length (lists x).more < blocks_for n) count wanted)))
    (λ (enough : blocks_for (length (ids_with id (lists x).ids)) ≤ length (lists x).more).
    rw (le-ltb (length (lists x).more) (blocks_for (length (ids_with id (lists x).ids))) enough)
    (relisted_most image _ 0 192 r lists k x (ids_with id (lists x).ids) (omega arith)
    (gain_same image r lists x id k h at there other fresh (subst (λ (n : ℕ). blocks_for n ≤ length (lists x).more) count enough))))
    (cases_lt (length (lists x).more) (blocks_for (length (ids_with id (lists x).ids))))

-- ---- one id less

-- the blocks that are not needed any more: none or the last
cut_most : (l m n : ℕ) → m ≡ blocks_for (l + 1) → n ≡ blocks_for l → (n ≤ m) × (m ≤ n + 1)
cut_most l m n was is = (omega arith, omega arith)

without_members : (r : Registry) (ids : List ℤ) (id : ℤ) → ((y : ℤ) → Contains ids y → IsSome (r.entry y)) → (y : ℤ)
    → Contains (ids_without id ids) y → IsSome (r.entry y)
unfolding IsWithout
without_members r ids id there y has = there y ((ids_without-members id ids y).0 has).1

lose_same : (image : List ℕ) (r : Registry) (lists : ℤ → PairList) (x id : ℤ) (k : ℕ) → HoldsLists image r lists → StandsAt image x k
    → IsSome (r.entry x) → Contains (lists x).ids id
    → (more : List ℕ) → more ≡ (lists x).more → length more ≡ blocks_for (length (ids_without id (lists x).ids))
    → IsRelisted image (relisted k x (block_in image k) (record { ids = ids_without id (lists x).ids; more = more }) image) 0 r lists k x
    (ids_without id (lists x).ids)
lose_same image r lists x id k h at there has more same enough =
    relist image image r lists x k (block_count image) (record { ids = ids_without id (lists x).ids; more = more }) h at there
    (record { size = refl; front = refl; zero = λ less. absurd (omega arith); others = λ j less apart. refl })
    (ids_without-ascending id (lists x).ids (listed_at image r lists x k h.has at).ascending)
    (without_members r (lists x).ids id (h.members x there))
    (record {
      enough = enough ∙ ap (λ (n : ℕ). div_ceil n 44) (sym (length-drop 19 (ids_without id (lists x).ids)));
      within = λ j in_more. more_within image r lists x k h.has at j (subst (λ (m : List ℕ). Contains m j) same in_more);
      distinct = subst IsDistinct (sym same) (h.has.are.once x there);
      new_more = λ j in_more. inl (subst (λ (m : List ℕ). Contains m j) same in_more);
      old_more = λ j in_more. inl (subst (λ (m : List ℕ). Contains m j) (sym same) in_more);
      spare_was = λ less. absurd (omega arith);
    })

distinct_front : (more behind : List ℕ) → IsDistinct (more ++ behind) → IsDistinct more
distinct_front more behind is i j d less below same =
    let len = length-append more behind in
    is i j d less (omega (arith, len))
    (get_or_append_left more behind d i (omega arith) ∙ same ∙ sym (get_or_append_left more behind d j below))

spare_block : (image : List ℕ) (f n : ℕ) → length image ≡ block_place n → f < n → IsSpared image (with_block f (zeros 192) image) f
spare_block image f n size below =
    let count : block_count image ≡ n = count_is 2112 image n size in
    let put : IsPut 2112 f (zeros 192) image (with_block f (zeros 192) image) n = put_block 2112 image (zeros 192) f n size zeros_len below in
    record { size = put.size ∙ sym size; front = put.front; zero = λ less. put.here; others = put.others }

lose_one : (image : List ℕ) (r : Registry) (lists : ℤ → PairList) (x id : ℤ) (k : ℕ) → HoldsLists image r lists → StandsAt image x k
    → IsSome (r.entry x) → Contains (lists x).ids id
    → (more : List ℕ) (f : ℕ) → (lists x).more ≡ more ++ f ∷ [] → length more ≡ blocks_for (length (ids_without id (lists x).ids))
    → IsRelisted image
    (relisted k x (block_in image k) (record { ids = ids_without id (lists x).ids; more = more }) (with_block f (zeros 192) image)) 0 r
    lists k x (ids_without id (lists x).ids)
lose_one image r lists x id k h at there has more f parts enough =
    let here : Contains (lists x).more f = subst (λ (m : List ℕ). Contains m f) (sym parts)
    (Contains-append_right more (f ∷ []) f (0, omega arith, refl)) in
    let below : f < block_count image = more_within image r lists x k h.has at f here in
    relist image (with_block f (zeros 192) image) r lists x k f (record { ids = ids_without id (lists x).ids; more = more }) h at there
    (spare_block image f (block_count image) h.has.laid.size below)
    (ids_without-ascending id (lists x).ids (listed_at image r lists x k h.has at).ascending)
    (without_members r (lists x).ids id (h.members x there))
    (record {
      enough = enough ∙ ap (λ (n : ℕ). div_ceil n 44) (sym (length-drop 19 (ids_without id (lists x).ids)));
      within = λ j in_more.
          more_within image r lists x k h.has at j
          (subst (λ (m : List ℕ). Contains m j) (sym parts) (Contains-append_left more (f ∷ []) j in_more));
      distinct = distinct_front more (f ∷ []) (subst IsDistinct parts (h.has.are.once x there));
      new_more = λ j in_more. inl (subst (λ (m : List ℕ). Contains m j) (sym parts) (Contains-append_left more (f ∷ []) j in_more));
      old_more = λ j in_old.
          elim (Contains-append_cases more (f ∷ []) j (subst (λ (m : List ℕ). Contains m j) parts in_old))
          [ inl in_more ↦ inl in_more | inr last ↦ inr (one_of f j last) ];
      spare_was = λ less. inr here;
    })

at_most_one : (m n left : ℕ) → left ≡ m - n → m ≤ n + 1 → left ≤ 1
at_most_one m n left is most = omega arith

-- what is left of the blocks, and what is freed
lose_cut : (image : List ℕ) (r : Registry) (lists : ℤ → PairList) (x id : ℤ) (k : ℕ) → HoldsLists image r lists → StandsAt image x k
    → IsSome (r.entry x) → Contains (lists x).ids id
    → (kept freed : List ℕ) → (lists x).more ≡ kept ++ freed → length kept ≡ blocks_for (length (ids_without id (lists x).ids))
    → length freed ≤ 1
    → IsRelisted image
    (relisted k x (block_in image k) (record { ids = ids_without id (lists x).ids; more = kept }) (with_freed freed image)) 0 r lists k x
    (ids_without id (lists x).ids)
lose_cut image r lists x id k h at there has kept [] parts enough one =
    lose_same image r lists x id k h at there has kept (sym (parts ∙ append-nil kept)) enough
lose_cut image r lists x id k h at there has kept (f ∷ []) parts enough one =
    lose_one image r lists x id k h at there has kept f parts enough
lose_cut image r lists x id k h at there has kept (f ∷ g ∷ freed) parts enough one = absurd (omega arith)

pub lose : (image : List ℕ) (r : Registry) (lists : ℤ → PairList) (x id : ℤ) (k : ℕ) → HoldsLists image r lists → StandsAt image x k
    → IsSome (r.entry x) → Contains (lists x).ids id
    → IsRelisted image (lost k x (block_in image k) (lists x) id image) 0 r lists k x (ids_without id (lists x).ids)
lose image r lists x id k h at there has =
    let less : length (ids_without id (lists x).ids) + 1
    ≡ length (lists x).ids = length-ids_without id (lists x).ids (listed_at image r lists x k h.has at).ascending has in
    let was : length (lists x).more ≡ blocks_for (length (ids_without id (lists x).ids) + 1) = more_length image r lists x k h.has at
    ∙ ap blocks_for (sym less) in
    let most = cut_most (length (ids_without id (lists x).ids)) (length (lists x).more)
    (blocks_for (length (ids_without id (lists x).ids))) was refl in
    let in_most : blocks_for (length (ids_without id (lists x).ids)) ≤ length (lists x).more = most.0 in
    let at_most : length (lists x).more ≤ blocks_for (length (ids_without id (lists x).ids)) + 1 = most.1 in
    let left : length (drop (blocks_for (length (ids_without id (lists x).ids))) (lists x).more)
    ≡ length (lists x).more - blocks_for (length (ids_without id (lists x).ids)) =
    length-drop (blocks_for (length (ids_without id (lists x).ids))) (lists x).more in
    lose_cut image r lists x id k h at there has
    (take (blocks_for (length (ids_without id (lists x).ids))) (lists x).more)
    (drop (blocks_for (length (ids_without id (lists x).ids))) (lists x).more)
    (sym (take-append-drop (blocks_for (length (ids_without id (lists x).ids))) (lists x).more))
    (length-take-le (blocks_for (length (ids_without id (lists x).ids))) (lists x).more in_most)
    (at_most_one (length (lists x).more) (blocks_for (length (ids_without id (lists x).ids)))
    (length (drop (blocks_for (length (ids_without id (lists x).ids))) (lists x).more)) left at_most)
