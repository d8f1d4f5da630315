-- The chains that an image must have, told by the image without the words of chains.
use Rattle.std.proofs.Common.{◌≡◌, ◌≢◌, ℕ, ℤ, ◌+◌, ◌-◌, ◌<◌, ◌≤◌, ◌⊎◌, inl, inr, ⊎_elim, List, refl, sym, ap, subst, ◌∙◌, arith}
use Rattle.std.specs.List.{Contains}
use Rattle.std.proofs.lemmas.Bool.{cases_eq}
use Rattle.db_blocks.specs.Blocks.{IsWhole, word_at, word_at as any_word, kind_of}
use Rattle.db_chains.specs.Free.{IsAscending}
use Rattle.db_chains.proofs.Words.{in_block}
use Rattle.prdb_layout.specs.Blocks.{block_count}
use Rattle.prdb_layout.specs.Records.{block_in, block_place, entry_in}
use Rattle.prdb_layout.specs.State.{PrEntry}
use Rattle.prdb_finds.specs.Records.{AreChains, HasIdKey, HasNameKey, IsEntryAt, IsGroupOf, IsOwned}
use Rattle.db_chains.specs.Visits.{Visits}
use Rattle.db_chains.proofs.Entered.{visits_as}
use Rattle.prdb_finds.specs.Unchained.{unchained}
use Rattle.prdb_finds.proofs.Without.{unchained_count, unchained_entry, unchained_kind}
use Rattle.prdb_entries.proofs.Linked.{ById, ByName, Chain, IsChain, IsEntry, IsLinked, Owned, links_of, place_of}

-- the words that a chain is to visit
abbrev pub Belongs : List ℕ → Chain → ℕ → Type 0
Belongs u (ByName key) w = IsEntryAt u (HasNameKey key) w
Belongs u (ById key) w = IsEntryAt u (HasIdKey key) w
Belongs u (Owned k) w = IsEntry u k × IsEntryAt u (IsGroupOf (entry_in (block_in u k)).id) w

-- an entry that is no group with an owner
abbrev pub IsUnowned : List ℕ → ℕ → Type 0
IsUnowned u k = IsEntry u k × ¬ IsOwned (entry_in (block_in u k))

-- ---- an image with its chains, and without them

at_there : (image : List ℕ) (P : PrEntry → Type 0) (w : ℕ) → IsWhole 2112 image → IsEntryAt image P w → IsEntryAt (unchained image) P w
at_there image P w whole is =
    let below : w - 1 < block_count image = omega (arith, is.some, is.within) in record {
      some = is.some;
      within = omega (arith, is.within, unchained_count image whole);
      kind = unchained_kind image (w - 1) whole below ∙ is.kind;
      belongs = subst P (sym (unchained_entry image (w - 1) whole below is.kind)) is.belongs;
    }

at_back : (image : List ℕ) (P : PrEntry → Type 0) (w : ℕ) → IsWhole 2112 image → IsEntryAt (unchained image) P w → IsEntryAt image P w
at_back image P w whole is =
    let below : w - 1 < block_count image = omega (arith, is.some, is.within, unchained_count image whole) in
    let kind : kind_of (block_in image (w - 1)) ≡ 1 = sym (unchained_kind image (w - 1) whole below) ∙ is.kind in record {
      some = is.some;
      within = omega (arith, is.within, unchained_count image whole);
      kind = kind;
      belongs = subst P (unchained_entry image (w - 1) whole below kind) is.belongs;
    }

entry_there : (image : List ℕ) (k : ℕ) → IsWhole 2112 image → k < block_count image → kind_of (block_in image k) ≡ 1
    → IsEntry (unchained image) k
entry_there image k whole below kind =
    record { below = omega (arith, below, unchained_count image whole); kind = unchained_kind image k whole below ∙ kind }

entry_back : (image : List ℕ) (k : ℕ) → IsWhole 2112 image → IsEntry (unchained image) k → IsEntry image k
entry_back image k whole is =
    let below : k < block_count image = omega (arith, is.below, unchained_count image whole) in
    record { below = below; kind = sym (unchained_kind image k whole below) ∙ is.kind }

owned_id : (image : List ℕ) (k : ℕ) → IsWhole 2112 image → IsEntry image k
    → (entry_in (block_in (unchained image) k)).id ≡ (entry_in (block_in image k)).id
owned_id image k whole is = ap (λ (e : PrEntry). e.id) (unchained_entry image k whole is.below is.kind)

chains_there : (image : List ℕ) (c : Chain) → IsWhole 2112 image → AreChains image → IsChain (unchained image) c
    → Visits (links_of c) image (place_of c) (Belongs (unchained image) c)
chains_there image (ByName key) whole are is =
    visits_as (links_of (ByName key)) image (place_of (ByName key)) (IsEntryAt image (HasNameKey key))
    (IsEntryAt (unchained image) (HasNameKey key)) (λ w at. at_there image (HasNameKey key) w whole at)
    (λ w at. at_back image (HasNameKey key) w whole at) (are.names key is)
chains_there image (ById key) whole are is =
    visits_as (links_of (ById key)) image (place_of (ById key)) (IsEntryAt image (HasIdKey key))
    (IsEntryAt (unchained image) (HasIdKey key)) (λ w at. at_there image (HasIdKey key) w whole at)
    (λ w at. at_back image (HasIdKey key) w whole at) (are.ids key is)
chains_there image (Owned k) whole are is =
    let e = entry_back image k whole is in
    let id = owned_id image k whole e in
    visits_as (links_of (Owned k)) image (place_of (Owned k)) (IsEntryAt image (IsGroupOf (entry_in (block_in image k)).id))
    (Belongs (unchained image) (Owned k))
    (λ w at. (
      is,
      subst (λ (z : ℤ). IsEntryAt (unchained image) (IsGroupOf z) w) (sym id)
          (at_there image (IsGroupOf (entry_in (block_in image k)).id) w whole at),
    ))
    (λ w at. at_back image (IsGroupOf (entry_in (block_in image k)).id) w whole
    (subst (λ (z : ℤ). IsEntryAt (unchained image) (IsGroupOf z) w) id at.1))
    (are.owned k e.below e.kind)

next_word : (image : List ℕ) (k : ℕ) → any_word image (block_place k + 104) ≡ word_at (block_in image k) 104
next_word image k = sym (in_block 2112 image k 104 88 refl (omega arith))

-- an image that has its chains
pub linked_from : (image : List ℕ) → IsWhole 2112 image → (are : AreChains image)
    → IsLinked image (unchained image) (Belongs (unchained image)) (IsUnowned (unchained image)) are.free.words
linked_from image whole are = record {
  whole = whole;
  same = refl;
  chains = λ c is. chains_there image c whole are is;
  unused = λ k below is.
      let e = entry_back image k whole is.0 in
      next_word image k
      ∙ are.unused k e.below e.kind
      (λ owned. is.1 (subst IsOwned (sym (unchained_entry image k whole e.below e.kind)) owned));
  free = are.free.chain;
}

pub each_free : (image : List ℕ) → IsWhole 2112 image → (are : AreChains image) → (k : ℕ) → k < block_count (unchained image)
    → kind_of (block_in (unchained image) k) ≡ 0 → Contains are.free.words (k + 1)
each_free image whole are k below kind =
    let less : k < block_count image = omega (arith, below, unchained_count image whole) in
    are.free.each k less (sym (unchained_kind image k whole less) ∙ kind)

chains_back : (image : List ℕ) (fs : List ℕ) → IsLinked image (unchained image) (Belongs (unchained image)) (IsUnowned (unchained image)) fs
    → IsAscending fs → ((k : ℕ) → k < block_count (unchained image) → kind_of (block_in (unchained image) k) ≡ 0 → Contains fs (k + 1))
    → AreChains image
chains_back image fs l up each = record {
  names = λ key low.
      visits_as (links_of (ByName key)) image (place_of (ByName key)) (IsEntryAt (unchained image) (HasNameKey key))
      (IsEntryAt image (HasNameKey key)) (λ w at. at_back image (HasNameKey key) w l.whole at)
      (λ w at. at_there image (HasNameKey key) w l.whole at) (l.chains (ByName key) low);
  ids = λ key low.
      visits_as (links_of (ById key)) image (place_of (ById key)) (IsEntryAt (unchained image) (HasIdKey key))
      (IsEntryAt image (HasIdKey key)) (λ w at. at_back image (HasIdKey key) w l.whole at)
      (λ w at. at_there image (HasIdKey key) w l.whole at) (l.chains (ById key) low);
  owned = λ k below kind.
      let e = entry_there image k l.whole below kind in
      let id = owned_id image k l.whole record { below = below; kind = kind } in
      visits_as (links_of (Owned k)) image (place_of (Owned k)) (Belongs (unchained image) (Owned k))
      (IsEntryAt image (IsGroupOf (entry_in (block_in image k)).id))
      (λ w at. at_back image (IsGroupOf (entry_in (block_in image k)).id) w l.whole
      (subst (λ (z : ℤ). IsEntryAt (unchained image) (IsGroupOf z) w) id at.1))
      (λ w at. (
        e,
        subst (λ (z : ℤ). IsEntryAt (unchained image) (IsGroupOf z) w) (sym id)
            (at_there image (IsGroupOf (entry_in (block_in image k)).id) w l.whole at),
      ))
      (l.chains (Owned k) e);
  unused = λ k below kind not.
      let e = entry_there image k l.whole below kind in
      sym (next_word image k)
      ∙ l.unused k e.below (e, λ owned. not (subst IsOwned (unchained_entry image k l.whole below kind) owned));
  free = record {
    words = fs;
    chain = l.free;
    ascending = up;
    each = λ k below kind. each k (omega (arith, below, unchained_count image l.whole)) (unchained_kind image k l.whole below ∙ kind);
  };
}

pub chains_from : (image u : List ℕ) (fs : List ℕ) → IsLinked image u (Belongs u) (IsUnowned u) fs → IsAscending fs
    → ((k : ℕ) → k < block_count u → kind_of (block_in u k) ≡ 0 → Contains fs (k + 1)) → AreChains image
chains_from image u fs l up each =
    chains_back image fs (subst (λ (v : List ℕ). IsLinked image v (Belongs v) (IsUnowned v) fs) (sym l.same) l) up
    (subst (λ (v : List ℕ). (k : ℕ) → k < block_count v → kind_of (block_in v k) ≡ 0 → Contains fs (k + 1)) (sym l.same) each)

-- ---- an entry in a block, in place of what stood there

-- the block of a number holds this entry, and all others are as they were
pub record IsWith (u v : List ℕ) (k : ℕ) (e : PrEntry) : Type 0 where
  pub within : k < block_count v
  pub kind : kind_of (block_in v k) ≡ 1
  pub entry : entry_in (block_in v k) ≡ e
  pub more : block_count u ≤ block_count v
  pub only : (j : ℕ) → j < block_count v → j ≢ k → j < block_count u
  pub others : (j : ℕ) → j < block_count u → j ≢ k → block_in v j ≡ block_in u j

pub own_entry : (u v : List ℕ) (k : ℕ) (e : PrEntry) → IsWith u v k e → IsEntry v k
own_entry u v k e is = record { below = is.within; kind = is.kind }

pub entry_on : (u v : List ℕ) (k j : ℕ) (e : PrEntry) → IsWith u v k e → IsEntry u j → j ≢ k → IsEntry v j
entry_on u v k j e is was other =
    record { below = omega (arith, was.below, is.more); kind = ap kind_of (is.others j was.below other) ∙ was.kind }

pub entry_was : (u v : List ℕ) (k j : ℕ) (e : PrEntry) → IsWith u v k e → IsEntry v j → j ≢ k → IsEntry u j
entry_was u v k j e is now other =
    let less = is.only j now.below other in record { below = less; kind = sym (ap kind_of (is.others j less other)) ∙ now.kind }

pub at_on : (u v : List ℕ) (k w : ℕ) (e : PrEntry) (P : PrEntry → Type 0) → IsWith u v k e → IsEntryAt u P w → w - 1 ≢ k
    → IsEntryAt v P w
at_on u v k w e P is at other =
    let below : w - 1 < block_count u = omega (arith, at.some, at.within) in
    let same = is.others (w - 1) below other in record {
      some = at.some;
      within = omega (arith, at.within, is.more);
      kind = ap kind_of same ∙ at.kind;
      belongs = subst (λ (b : List ℕ). P (entry_in b)) (sym same) at.belongs;
    }

pub at_own : (u v : List ℕ) (k : ℕ) (e : PrEntry) (P : PrEntry → Type 0) → IsWith u v k e → P e → IsEntryAt v P (k + 1)
at_own u v k e P is own =
    let back : k ≡ k + 1 - 1 = omega arith in record {
      some = omega arith;
      within = omega (arith, is.within);
      kind = ap (λ (j : ℕ). kind_of (block_in v j)) (sym back) ∙ is.kind;
      belongs = subst (λ (j : ℕ). P (entry_in (block_in v j))) back (subst P (sym is.entry) own);
    }

pub at_was : (u v : List ℕ) (k w : ℕ) (e : PrEntry) (P : PrEntry → Type 0) → IsWith u v k e → IsEntryAt v P w
    → ((w ≡ k + 1) × P e) ⊎ ((w - 1 ≢ k) × IsEntryAt u P w)
at_was u v k w e P is at =
    let below : w - 1 < block_count v = omega (arith, at.some, at.within) in
    ⊎_elim
    (λ (same : w - 1 ≡ k).
    let number : w ≡ k + 1 = omega (arith, at.some) in
    inl (number, subst P is.entry (subst (λ (j : ℕ). P (entry_in (block_in v j))) same at.belongs)))
    (λ (other : w - 1 ≢ k).
    let less = is.only (w - 1) below other in
    let same = is.others (w - 1) less other in
    let was : IsEntryAt u P w = record {
      some = at.some;
      within = omega (arith, less, at.some);
      kind = sym (ap kind_of same) ∙ at.kind;
      belongs = subst (λ (b : List ℕ). P (entry_in b)) same at.belongs;
    } in
    inr (other, was))
    (cases_eq (w - 1) k)
