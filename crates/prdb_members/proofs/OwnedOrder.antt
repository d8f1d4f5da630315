-- The groups of an owner in the order of its owned chain.
use Rattle.std.proofs.Common.{◌≡◌, ℕ, ℤ, pos, ◌+◌, ◌-◌, ◌<◌, List, [], ◌∷◌, Option, Some, None, IfSome, length, map, refl, sym, ap, subst, ◌∙◌, arith}
use Rattle.std.specs.Prelude.{◌<ℤ◌, ◌↔◌, IsSome, IsSomeAnd}
use Rattle.std.specs.Int.{w32, cast_signed}
use Rattle.std.specs.List.{Contains}
use Rattle.db_blocks.specs.Blocks.{block_in as any_block, word_at, kind_of}
use Rattle.db_chains.specs.declared.walks.Link.{Link}
use Rattle.db_chains.specs.Along.{StandAlong}
use Rattle.db_chains.specs.Chains.{HasChain}
use Rattle.db_chains.specs.Links.{block_of}
use Rattle.db_chains.specs.Visits.{Visits}
use Rattle.db_chains.specs.Walks.{first_met, meets}
use Rattle.db_chains.proofs.Counted.{chain_unique}
use Rattle.std.specs.Option.{option_map}
use Rattle.prdb_layout.specs.Blocks.{block_count}
use Rattle.prdb_layout.specs.Records.{block_in, entry_in, has_id}
use Rattle.prdb_layout.specs.Registry.{Registry}
use Rattle.prdb_layout.specs.State.{PrEntry}
use Rattle.prdb_layout.proofs.Lookups.{id_parts}
use Rattle.prdb_lists.specs.Changes.{place_in}
use Rattle.prdb_lists.specs.Members.{IsOwned, Members}
use Rattle.prdb_lists.proofs.Relist.{StandsAt}
use Rattle.prdb_finds.specs.Keys.{id_chain}
use Rattle.prdb_finds.specs.Owned.{AreInOwned}
use Rattle.prdb_finds.specs.Places.{id_links, owned_links, owned_place}
use Rattle.prdb_finds.specs.Records.{AreChains, Holds, IsEntryAt, IsGroupOf}
use Rattle.prdb_finds.proofs.Lookups.{same_block}
use Rattle.prdb_finds.proofs.OwnedLists.{IsBlockOf, IsMet, owned_none, told_ids}
use Rattle.prdb_finds.proofs.Told.{told_only, told_there, whole_same}
use Rattle.prdb_members.specs.Owned.{AreInOrder, ids_along}
use Rattle.prdb_members.proofs.Gains.{place_is}
use Rattle.prdb_members.proofs.Listed.{lists_here}

-- ---- the ids

id_here : (image : List ℕ) (w : ℕ)
    → cast_signed w32 (word_at (any_block 2112 image (block_of owned_links w)) 8) ≡ (entry_in (block_in image (w - 1))).id
id_here image w =
    let here : any_block 2112 image (block_of owned_links w) ≡ block_in image (w - 1) =
    ap (any_block 2112 image) (omega arith) ∙ same_block image (w - 1) in
    ap (λ (b : List ℕ). cast_signed w32 (word_at b 8)) here

ids_here : (image words : List ℕ)
    → map (cast_signed w32) (map (λ w. word_at (any_block 2112 image (block_of owned_links w)) 8) words) ≡ ids_along image words
ids_here image [] = refl
ids_here image (w ∷ words) =
    ap (λ (x : ℤ). x ∷ map (cast_signed w32) (map (λ v. word_at (any_block 2112 image (block_of owned_links v)) 8) words)) (id_here image w)
    ∙ ap (λ (l : List ℤ). (entry_in (block_in image (w - 1))).id ∷ l) (ids_here image words)

-- what is read of a draft
pub record IsAlong (bytes : Option (List ℕ)) (at : ℕ) (ids : List ℤ) : Type 0 where
  pub found : List ℕ
  pub stand : IfSome bytes (λ image. StandAlong owned_links image at 8 found)
  pub read : ids ≡ map (cast_signed w32) found

along_on : (now bytes : Option (List ℕ)) (at : ℕ) (ids : List ℤ) → now ≡ bytes → IsAlong now at ids → IsAlong bytes at ids
along_on now bytes at ids same is = subst (λ (b : Option (List ℕ)). IsAlong b at ids) same is

-- ---- in order

pub in_order : (bytes now : Option (List ℕ)) (k at : ℕ) (owner : ℤ) (ids : List ℤ) → now ≡ bytes → IsMet bytes owner k at
    → IsAlong now at ids
    → IfSome bytes
    (λ image. (r : Registry) (m : Members) → Holds image r m → IsSome (r.entry owner) → 0 < length image → AreInOrder image owner ids)
in_order None now k at owner ids same is read = tt
in_order (Some image) now k at owner ids same is read = λ r m h there some.
    let a = along_on now (Some image) at ids same read in
    let p = id_parts owner (block_in image k) is.block.has in
    let stands : StandsAt image owner k = record { below = is.block.below; kind = p.0; id = p.1 } in
    let here : place_in image owner ≡ k = place_is image r h.pairs.lists owner k (lists_here image r m h some) stands in
    let place : at ≡ owned_place (place_in image owner) = is.place ∙ ap owned_place (sym here) in (
      a.stand.0,
      subst (λ (q : ℕ). HasChain owned_links image q a.stand.0) place a.stand.1,
      a.read ∙ ap (map (cast_signed w32)) a.stand.2 ∙ ids_here image a.stand.0,
    )

-- ---- which they are

some_of : (o : Option PrEntry) (P : PrEntry → Type 0) → IsSomeAnd o P → (e : PrEntry) × (o ≡ Some e) × P e
some_of None P is = absurd is
some_of (Some e) P is = (e, refl, is)

owned_there : (image : List ℕ) (r : Registry) (m : Members) (owner : ℤ) (w : ℕ) → Holds image r m → 0 < length image
    → IsEntryAt image (IsGroupOf owner) w → IsOwned r owner (entry_in (block_in image (w - 1))).id
owned_there image r m owner w h some at =
    let here = whole_same image some in
    let there = subst (λ (i : List ℕ). w - 1 < block_count i → kind_of (block_in i (w - 1)) ≡ 1
    → r.entry (entry_in (block_in i (w - 1))).id ≡ Some (entry_in (block_in i (w - 1)))) here (told_there image r m (w - 1) h) in (
      at.belongs.0,
      subst (λ (o : Option PrEntry). IsSomeAnd o (λ e. e.owner ≡ owner)) (sym (there (omega (arith, at.some, at.within)) at.kind))
          at.belongs.1,
    )

owned_block : (image : List ℕ) (r : Registry) (m : Members) (owner id : ℤ) → Holds image r m → 0 < length image → IsOwned r owner id
    → (w : ℕ) × IsEntryAt image (IsGroupOf owner) w × ((entry_in (block_in image (w - 1))).id ≡ id)
owned_block image r m owner id h some is =
    let here = whole_same image some in
    let e = some_of (r.entry id) (λ e. e.owner ≡ owner) is.1 in
    let t = subst (λ (i : List ℕ). (k : ℕ) × (k < block_count i) × (kind_of (block_in i k) ≡ 1) × (entry_in (block_in i k) ≡ e.0)) here
    (told_only image r m id e.0 h e.1) in
    let own : e.0.id ≡ id = h.pairs.holds.valid.ids id e.0 e.1 in
    let back : t.0 + 1 - 1 ≡ t.0 = omega arith in
    let entry : entry_in (block_in image (t.0 + 1 - 1)) ≡ e.0 = ap (λ (j : ℕ). entry_in (block_in image j)) back ∙ t.3 in
    let below : e.0.id <ℤ pos 0 = subst (λ (x : ℤ). x <ℤ pos 0) (sym own) is.0 in (
      t.0 + 1,
      record {
        some = omega arith;
        within = omega (arith, t.1);
        kind = ap (λ (j : ℕ). kind_of (block_in image j)) back ∙ t.2;
        belongs = subst (λ (x : PrEntry). IsGroupOf owner x) (sym entry) (below, e.2);
      },
      ap (λ (x : PrEntry). x.id) entry ∙ own,
    )

owned_visits : (image : List ℕ) (r : Registry) (m : Members) (owner : ℤ) (k : ℕ) → Holds image r m → 0 < length image
    → IsBlockOf image owner k → Visits owned_links image (owned_place k) (IsEntryAt image (IsGroupOf owner))
owned_visits image r m owner k h some b =
    let p = id_parts owner (block_in image k) b.has in
    let chains = subst (λ (i : List ℕ). AreChains i) (whole_same image some) h.chains in
    subst (λ (x : ℤ). Visits owned_links image (owned_place k) (IsEntryAt image (IsGroupOf x))) p.1 (chains.owned k b.below p.0)

pub all_owned : (bytes now : Option (List ℕ)) (k at : ℕ) (owner : ℤ) (ids : List ℤ) → now ≡ bytes → IsMet bytes owner k at
    → IsAlong now at ids
    → IfSome bytes
    (λ image. (r : Registry) (m : Members) → Holds image r m → IsSome (r.entry owner) → 0 < length image
    → (id : ℤ) → Contains ids id ↔ IsOwned r owner id)
all_owned None now k at owner ids same is read = tt
all_owned (Some image) now k at owner ids same is read = λ r m h there some id.
    let a = along_on now (Some image) at ids same read in
    let told : AreInOwned image at ids =
    told_ids (Some image) at a.found ids ids a.stand a.read (λ x. (λ has. has, λ has. has)) in
    let v = owned_visits image r m owner k h some is.block in
    let chain : HasChain owned_links image (owned_place k) told.0 =
    subst (λ (q : ℕ). HasChain owned_links image q told.0) is.place told.1 in
    let one : told.0 ≡ v.words = chain_unique owned_links image (owned_place k) told.0 v.words (omega arith) chain v.chain in (
      λ has.
          let o = (told.2 id).0 has in
          let at_w = v.only o.0 (subst (λ (ws : List ℕ). Contains ws o.0) one o.1) in
          subst (λ (x : ℤ). IsOwned r owner x) o.2 (owned_there image r m owner o.0 h some at_w),
      λ owned.
          let b = owned_block image r m owner id h some owned in
          (told.2 id).1 (b.0, subst (λ (ws : List ℕ). Contains ws b.0) (sym one) (v.each b.0 b.1), b.2),
    )

-- ---- where there is none

pub empty_none : (bytes : Option (List ℕ)) (ids : List ℤ) → ids ≡ [] → IfSome bytes (λ image. length image ≡ 0 → ids ≡ [])
empty_none None ids none = tt
empty_none (Some image) ids none = λ size. none

pub unknown_none : (bytes : Option (List ℕ)) (owner : ℤ) (ids : List ℤ) → ids ≡ []
    → IfSome bytes (λ image. (r : Registry) (m : Members) → Holds image r m → r.entry owner ≡ None → ids ≡ [])
unknown_none None owner ids none = tt
unknown_none (Some image) owner ids none = λ r m h gone. none

pub never_empty : (bytes : Option (List ℕ)) (len : ℕ) (ids : List ℤ) → IfSome bytes (λ image. length image ≡ len) → 0 < len
    → IfSome bytes (λ image. length image ≡ 0 → ids ≡ [])
never_empty None len ids told some = tt
never_empty (Some image) len ids told some = λ size. absurd (omega arith)

both : (o : Option PrEntry) (e : PrEntry) → o ≡ Some e → o ≡ None → ⊥
both None e there gone = absurd cc
both (Some f) e there gone = absurd cc

-- an entry has the id
pub never_unknown : (bytes : Option (List ℕ)) (len k at : ℕ) (owner : ℤ) (ids : List ℤ) → IfSome bytes (λ image. length image ≡ len)
    → 0 < len → IsMet bytes owner k at
    → IfSome bytes (λ image. (r : Registry) (m : Members) → Holds image r m → r.entry owner ≡ None → ids ≡ [])
never_unknown None len k at owner ids told some is = tt
never_unknown (Some image) len k at owner ids told some is = λ r m h gone.
    let p = id_parts owner (block_in image k) is.block.has in
    let there = subst (λ (i : List ℕ). k < block_count i → kind_of (block_in i k) ≡ 1
    → r.entry (entry_in (block_in i k)).id ≡ Some (entry_in (block_in i k))) (whole_same image (omega arith)) (told_there image r m k h) in
    absurd (both (r.entry owner) (entry_in (block_in image k)) (ap r.entry (sym p.1) ∙ there is.block.below p.0) gone)

empty_never : (image : List ℕ) (len : ℕ) → length image ≡ len → len ≡ 0 → 0 < length image → ⊥
empty_never image len told none some = omega arith

pub empty_order : (bytes : Option (List ℕ)) (len : ℕ) (owner : ℤ) (ids : List ℤ) → IfSome bytes (λ image. length image ≡ len) → len ≡ 0
    → IfSome bytes
    (λ image. (r : Registry) (m : Members) → Holds image r m → IsSome (r.entry owner) → 0 < length image → AreInOrder image owner ids)
empty_order None len owner ids told none = tt
empty_order (Some image) len owner ids told none = λ r m h there some. absurd (empty_never image len told none some)

pub empty_all : (bytes : Option (List ℕ)) (len : ℕ) (owner : ℤ) (ids : List ℤ) → IfSome bytes (λ image. length image ≡ len) → len ≡ 0
    → IfSome bytes
    (λ image. (r : Registry) (m : Members) → Holds image r m → IsSome (r.entry owner) → 0 < length image
    → (id : ℤ) → Contains ids id ↔ IsOwned r owner id)
empty_all None len owner ids told none = tt
empty_all (Some image) len owner ids told none = λ r m h there some. absurd (empty_never image len told none some)

not_there : (o : Option PrEntry) → o ≡ None → IsSome o → ⊥
not_there None none there = absurd cc
not_there (Some e) none there = absurd cc

-- no entry has the id
pub no_owner : (bytes : Option (List ℕ)) (len : ℕ) (owner : ℤ) (link : Option Link) → IfSome bytes (λ image. length image ≡ len) → 0 < len
    → link ≡ None
    → IfSome bytes (λ image. (ws : List ℕ) → HasChain id_links image (id_chain owner) ws
    → option_map (λ f. f.word) link ≡ first_met (meets id_links (λ w block. has_id owner block) image) ws)
    → IfSome bytes (λ image. (r : Registry) (m : Members) → Holds image r m → IsSome (r.entry owner) → ⊥)
no_owner None len owner link told some none found = tt
no_owner (Some image) len owner link told some none found = λ r m h there.
    not_there (r.entry owner) (owned_none (Some image) len owner link told some none found r m h) there

pub none_order : (bytes : Option (List ℕ)) (owner : ℤ) (ids : List ℤ)
    → IfSome bytes (λ image. (r : Registry) (m : Members) → Holds image r m → IsSome (r.entry owner) → ⊥)
    → IfSome bytes
    (λ image. (r : Registry) (m : Members) → Holds image r m → IsSome (r.entry owner) → 0 < length image → AreInOrder image owner ids)
none_order None owner ids never = tt
none_order (Some image) owner ids never = λ r m h there some. absurd (never r m h there)

pub none_all : (bytes : Option (List ℕ)) (owner : ℤ) (ids : List ℤ)
    → IfSome bytes (λ image. (r : Registry) (m : Members) → Holds image r m → IsSome (r.entry owner) → ⊥)
    → IfSome bytes
    (λ image. (r : Registry) (m : Members) → Holds image r m → IsSome (r.entry owner) → 0 < length image
    → (id : ℤ) → Contains ids id ↔ IsOwned r owner id)
none_all None owner ids never = tt
none_all (Some image) owner ids never = λ r m h there some. absurd (never r m h there)
