-- An id that comes into the list of an entry.
use Rattle.std.proofs.Common.{◌≡◌, ◌≢◌, ℕ, ℤ, ◌+◌, ◌-◌, ◌<◌, ◌≤◌, true, false, inl, inr, List, [], ◌∷◌, ◌++◌, length, drop, max, IsSome, refl, sym, ap, subst, ◌∙◌, ⊎_elim, arith}
use Rattle.std.specs.List.{Contains}
use Rattle.std.proofs.lemmas.Bool.{and_from, cases_Bool, cases_lt, eq-eqb, le-ltb, lt-ltb}
use Rattle.std.proofs.lemmas.Bool.Decides.{Decides-int_eq}
use Rattle.std.proofs.lemmas.List.Elements.{Contains-append_cases}
use Rattle.db_chains.specs.Free.{IsTaken, next_number, with_taken}
use Rattle.prdb_layout.specs.Blocks.{block_count}
use Rattle.db_blocks.specs.Bytes.{zeros}
use Rattle.db_blocks.specs.Blocks.{kind_of}
use Rattle.db_blocks.proofs.FirstBlocks.{first_at}
use Rattle.prdb_layout.specs.Records.{block_in, entry_in, has_id, next_block}
use Rattle.prdb_layout.specs.Registry.{Registry}
use Rattle.prdb_layout.proofs.BlockPlaces.{block_len}
use Rattle.prdb_layout.proofs.LaidOut.{zero_kind}
use Rattle.prdb_layout.proofs.Lookups.{id_parts}
use Rattle.prdb_lists.specs.Changes.{blocks_for, gained as plain_gained, list_in, place_in, relisted, with_free}
use Rattle.prdb_lists.specs.Layout.{PairList}
use Rattle.prdb_lists.specs.Lists.{ids_with}
use Rattle.prdb_lists.proofs.Chains.{list_told}
use Rattle.prdb_lists.proofs.Gains.{one_of}
use Rattle.prdb_lists.proofs.Ids.{entry_fits}
use Rattle.prdb_lists.proofs.RecordsKeep.{zeros_len}
use Rattle.prdb_lists.proofs.Relist.{StandsAt}
use Rattle.prdb_lists.proofs.Side.{IsMoreBlock, chain_block}
use Rattle.prdb_finds.specs.Places.{free_blocks}
use Rattle.prdb_finds.specs.Records.{AreChains}
use Rattle.prdb_finds.specs.Unchained.{unchained}
use Rattle.prdb_finds.proofs.Lookups.{same_block}
use Rattle.prdb_finds.proofs.Without.{unchained_block}
use Rattle.prdb_members.specs.Changes.{gained, with_id}
use Rattle.prdb_members.specs.Sides.{HasLists}
use Rattle.prdb_members.proofs.Free.{HasFreeBut, free_none, free_relisted, free_taken}
use Rattle.prdb_members.proofs.Kept.{KeepsEntries, chains_kept, keeps_none, keeps_then}
use Rattle.prdb_members.proofs.Listed.{listed_at, stands_plain}
use Rattle.prdb_members.proofs.Rewritten.{AreBelow, IsRelisted, keeps_relisted, relisted_is, unchained_relisted}
use Rattle.prdb_members.proofs.Taken.{IsSpare, is_spare, is_taken, keeps_taken, next_same, taken_zero}

-- what one side of a change makes: without the words of chains it is this image, and the chains stay
pub record IsSide (image new plain : List ℕ) (k : ℕ) : Type 0 where
  pub same : unchained new ≡ plain
  pub keeps : KeepsEntries image new
  pub chains : AreChains new
  pub others : (j : ℕ) → j < block_count image → j ≢ k → kind_of (block_in image j) ≡ 1 → block_in new j ≡ block_in image j
  pub most : block_count new ≤ block_count image + 1

-- ---- an entry and its list

pub list_blocks : (image : List ℕ) (r : Registry) (lists : ℤ → PairList) (x : ℤ) (k : ℕ) → HasLists image r lists → StandsAt image x k
    → IsSome (r.entry x) → (j : ℕ) → Contains (lists x).more j → IsMoreBlock image x j
list_blocks image r lists x k h at there =
    chain_block image x (lists x).more (drop 19 (lists x).ids) (entry_fits r x h.without.valid there)
    (listed_at image r lists x k h at).chain

-- the image after is a function of the bytes
has_here : (image : List ℕ) (x : ℤ) (k : ℕ) → StandsAt image x k → has_id x (block_in image k) ≡ true
has_here image x k at =
    and_from _ _ (eq-eqb (kind_of (block_in image k)) 1 at.kind) ((Decides-int_eq (entry_in (block_in image k)).id x).1 at.id)

pub place_is : (image : List ℕ) (r : Registry) (lists : ℤ → PairList) (x : ℤ) (k : ℕ) → HasLists image r lists → StandsAt image x k
    → place_in image x ≡ k
place_is image r lists x k h at =
    let below = at.below in
    first_at (λ j. has_id x (block_in image j)) 0 (block_count image) k (omega arith) (omega arith)
    (λ j from less. ⊎_elim
    (λ (t : has_id x (block_in image j) ≡ true).
    let parts = id_parts x (block_in image j) t in
    let a = stands_plain image x j h.size record { below = omega arith; kind = parts.0; id = parts.1 } in
    let b = stands_plain image x k h.size at in
    let same : j ≡ k = h.without.laid.one j k a.below b.below a.kind b.kind (a.id ∙ sym b.id) in
    absurd (omega arith))
    (λ (f : has_id x (block_in image j) ≡ false). f)
    (cases_Bool (has_id x (block_in image j))))
    (has_here image x k at)

pub told_at : (image : List ℕ) (r : Registry) (lists : ℤ → PairList) (x : ℤ) (k : ℕ) → HasLists image r lists → StandsAt image x k
    → list_in image (block_in image k) ≡ lists x
told_at image r lists x k h at = list_told image x (block_in image k) (lists x) (listed_at image r lists x k h at)

pub gained_is : (image : List ℕ) (r : Registry) (lists : ℤ → PairList) (x id : ℤ) (k : ℕ) → HasLists image r lists → StandsAt image x k
    → with_id x id image ≡ gained k x (block_in image k) (lists x) id image
gained_is image r lists x id k h at =
    ap (λ (j : ℕ). gained j x (block_in image j) (list_in image (block_in image j)) id image) (place_is image r lists x k h at)
    ∙ ap (λ (l : PairList). gained k x (block_in image k) l id image) (told_at image r lists x k h at)

-- ---- a list over other bytes

-- bytes in which these blocks are free for a list: entries and their words stay, and the free blocks but for these stand in their chain
pub record IsMid (image mid plain more : List ℕ) : Type 0 where
  pub keeps : KeepsEntries image mid
  pub same : unchained mid ≡ plain
  pub stays : (j : ℕ) → j < block_count image → kind_of (block_in image j) ≡ 1 → block_in mid j ≡ block_in image j
  pub free : HasFreeBut mid more
  pub below : AreBelow more (block_count mid)
  pub kinds : (j : ℕ) → Contains more j → kind_of (block_in mid j) ≢ 1
  pub most : block_count mid ≤ block_count image + 1

pub side_over : (image mid plain : List ℕ) (r : Registry) (lists : ℤ → PairList) (x : ℤ) (k : ℕ) (l : PairList) → HasLists image r lists
    → StandsAt image x k → IsMid image mid plain l.more
    → IsSide image (relisted k x (block_in image k) l mid) (relisted k x (block_in (unchained image) k) l plain) k
side_over image mid plain r lists x k l h at m =
    let block = block_in image k in
    let len : length block ≡ 192 = block_len image k (block_count image) h.size at.below in
    let here : block_in mid k ≡ block = m.stays k at.below at.kind in
    let below : k < block_count mid = omega (arith, at.below, m.keeps.longer) in
    let new = relisted k x block l mid in
    let is : IsRelisted k block l mid new = relisted_is x k block l mid m.keeps.size below len m.below in
    let is_mid : IsRelisted k (block_in mid k) l mid new = subst (λ (b : List ℕ). IsRelisted k b l mid new) (sym here) is in
    let kind_mid : kind_of (block_in mid k) ≡ 1 = ap kind_of here ∙ at.kind in
    let keeps = keeps_then image mid new m.keeps (keeps_relisted k l mid new m.keeps.size below kind_mid m.kinds is_mid) in
    record {
      same = unchained_relisted x k block l mid m.keeps.size below len at.kind m.below
          ∙ ap (λ (b : List ℕ). relisted k x b l (unchained mid)) (sym (unchained_block image k h.size at.below))
          ∙ ap (relisted k x (block_in (unchained image) k) l) m.same;
      keeps = keeps;
      chains = chains_kept image new keeps h.chains (free_relisted k l mid new m.keeps.size below kind_mid is_mid m.free);
      others = λ j less other one.
          let same : block_in mid j ≡ block_in image j = m.stays j less one in
          is.others j (omega (arith, less, m.keeps.longer)) other (λ has. m.kinds j has (ap kind_of same ∙ one)) ∙ same;
      most = omega (arith, is.size, m.most);
    }

pub side_same : (image : List ℕ) (r : Registry) (lists : ℤ → PairList) (x : ℤ) (k : ℕ) (l : PairList) → HasLists image r lists
    → StandsAt image x k → ((j : ℕ) → Contains l.more j → IsMoreBlock image x j)
    → IsSide image (relisted k x (block_in image k) l image) (relisted k x (block_in (unchained image) k) l (unchained image)) k
side_same image r lists x k l h at blocks =
    side_over image image (unchained image) r lists x k l h at record {
      keeps = keeps_none image h.size;
      same = refl;
      stays = λ j below one. refl;
      free = free_none image l.more h.chains.free (λ j has none. omega (arith, none, (blocks j has).kind));
      below = λ j has. (blocks j has).below;
      kinds = λ j has one. omega (arith, one, (blocks j has).kind);
      most = omega arith;
    }

-- ---- a block more

mid_taken : (image : List ℕ) (r : Registry) (lists : ℤ → PairList) (x : ℤ) (k : ℕ) → HasLists image r lists
    → StandsAt image x k → IsSome (r.entry x)
    → IsMid image (with_taken free_blocks (zeros 192) image) (with_free (unchained image))
    ((lists x).more ++ (next_number free_blocks image - 1) ∷ [])
mid_taken image r lists x k h at there =
    let c = block_count image in
    let n = next_number free_blocks image in
    let free = h.chains.free in
    let old = (lists x).more in
    let mid = with_taken free_blocks (zeros 192) image in
    let taken : IsTaken free_blocks (zeros 192) image n mid = is_taken image (zeros 192) free.words h.size zeros_len free.chain in
    let spare : IsSpare image n = is_spare image free.words free.chain in
    let count : block_count mid ≡ max c n = omega (arith, taken.size, h.size, spare.some) in
    let blocks = list_blocks image r lists x k h at there in
    let used : (j : ℕ) → Contains old j → kind_of (block_in image j) ≢ 0 = λ j has none. omega (arith, none, (blocks j has).kind) in
    let stays : (j : ℕ) → j < c → kind_of (block_in image j) ≢ 0 → block_in mid j ≡ block_in image j =
    λ j below some.
    sym (same_block mid j)
    ∙ taken.others j below
    (λ is. some (ap (λ (i : ℕ). kind_of (block_in image i)) is ∙ spare.free (subst (λ (i : ℕ). i < c) is below)))
    ∙ same_block image j in
    record {
      keeps = keeps_taken image (zeros 192) mid n h.size taken (λ one. omega (arith, one, zero_kind)) spare;
      same = taken_zero image free.words r h.size h.without.laid free.chain free.ascending free.each;
      stays = λ j below one. stays j below (λ none. omega (arith, none, one));
      free = free_taken image (zeros 192) mid old n h.size free taken spare used;
      below = λ j has. elim (Contains-append_cases old ((n - 1) ∷ []) j has) [
        | inl among ↦ omega (arith, (blocks j among).below, count)
        | inr last ↦ omega (arith, one_of (n - 1) j last, count, spare.some)
      ];
      kinds = λ j has one. elim (Contains-append_cases old ((n - 1) ∷ []) j has) [
        | inl among ↦
            let two = (blocks j among).kind in
            omega (arith, one, two, ap kind_of (stays j (blocks j among).below (used j among)))
        | inr last ↦
            let is : j ≡ n - 1 = one_of (n - 1) j last in
            let zero_there : kind_of (block_in mid j) ≡ 0 =
            ap (λ (i : ℕ). kind_of (block_in mid i)) is ∙ ap kind_of (sym (same_block mid (n - 1)) ∙ taken.here) ∙ zero_kind in
            omega (arith, one, zero_there)
      ];
      most = omega (arith, count, spare.within);
    }

gain_one : (image : List ℕ) (r : Registry) (lists : ℤ → PairList) (x : ℤ) (k : ℕ) (ids : List ℤ) → HasLists image r lists
    → StandsAt image x k → IsSome (r.entry x)
    → IsSide image
    (relisted k x (block_in image k) (record { ids = ids; more = (lists x).more ++ (next_number free_blocks image - 1) ∷ [] })
    (with_taken free_blocks (zeros 192) image))
    (relisted k x (block_in (unchained image) k) (record { ids = ids; more = (lists x).more ++ next_block (unchained image) ∷ [] })
    (with_free (unchained image))) k
gain_one image r lists x k ids h at there =
    let u = unchained image in
    let n = next_number free_blocks image in
    let free = h.chains.free in
    let old = (lists x).more in
    let number : n - 1 ≡ next_block u = next_same image free.words h.size free.chain free.ascending free.each in
    let new = relisted k x (block_in image k) (record { ids = ids; more = old ++ (n - 1) ∷ [] }) (with_taken free_blocks (zeros 192) image) in
    subst
    (λ (m : ℕ). IsSide image new (relisted k x (block_in u k) (record { ids = ids; more = old ++ m ∷ [] }) (with_free u)) k) number
    (side_over image (with_taken free_blocks (zeros 192) image) (with_free u) r lists x k (record { ids = ids; more = old ++ (n - 1) ∷ [] }) h
    at (mid_taken image r lists x k h at there))

-- ---- one id more

pub gain : (image : List ℕ) (r : Registry) (lists : ℤ → PairList) (x id : ℤ) (k : ℕ) → HasLists image r lists → StandsAt image x k
    → IsSome (r.entry x)
    → IsSide image (gained k x (block_in image k) (lists x) id image)
    (plain_gained k x (block_in (unchained image) k) (lists x) id (unchained image)) k
gain image r lists x id k h at there =
    let ids = ids_with id (lists x).ids in
    ⊎_elim
    (λ (wanted : length (lists x).more < blocks_for (length (ids_with id (lists x).ids))).
    rw (lt-ltb (length (lists x).more) (blocks_for (length (ids_with id (lists x).ids))) wanted)
    (gain_one image r lists x k ids h at there))
    (λ (enough : blocks_for (length (ids_with id (lists x).ids)) ≤ length (lists x).more).
    rw (le-ltb (length (lists x).more) (blocks_for (length (ids_with id (lists x).ids))) enough)
    (side_same image r lists x k (record { ids = ids; more = (lists x).more }) h at (list_blocks image r lists x k h at there)))
    (cases_lt (length (lists x).more) (blocks_for (length (ids_with id (lists x).ids))))
