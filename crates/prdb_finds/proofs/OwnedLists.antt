-- The groups of an owner are those of the blocks of its own chain.
use Rattle.std.proofs.Common.{◌≡◌, ℕ, ℤ, pos, zero, suc, ◌+◌, ◌-◌, ◌*◌, ◌<◌, true, inl, inr, List, [], ◌∷◌, Option, Some, None, IfSome, Result, Ok, Err, IfOk, length, get_or, map, refl, sym, ap, subst, ◌∙◌, arith}
use Rattle.std.specs.Prelude.{◌<ℤ◌, ◌↔◌, IsSome, IsSomeAnd}
use Rattle.std.specs.Int.{w32, cast_signed}
use Rattle.std.specs.List.{Contains}
use Rattle.std.specs.Option.{option_map}
use Rattle.db_image.specs.Draft.{Drafted}
use Rattle.db_image.specs.declared.faults.RecordFault.{RecordFault}
use Rattle.db_image.specs.declared.faults.RecordFault.TheVariants.{DiskFault, BadRecord, NoMemory}
use Rattle.db_image.specs.declared.images.ImageRead.{Ghosts}
use Rattle.db_image.specs.Asked.{AsksAtMost}
use Rattle.db_image.proofs.ReadSteps.{asks_none, asks_then}
use Rattle.db_blocks.specs.Blocks.{block_in as any_block, word_at, kind_of}
use Rattle.db_blocks.specs.Ends.{HasCause}
use Rattle.db_chains.specs.declared.walks.Link.{Link}
use Rattle.db_chains.specs.Along.{StandAlong, to_end}
use Rattle.db_chains.specs.Chains.{HasChain}
use Rattle.db_chains.specs.Ends.{CostsAtMost, HasSome, IsBadWhere}
use Rattle.db_chains.specs.Links.{block_of}
use Rattle.db_chains.specs.Visits.{Visits}
use Rattle.db_chains.specs.Walks.{IsBad, IsFound, first_met, meets, stop_place}
use Rattle.db_chains.proofs.Counted.{chain_unique}
use Rattle.db_chains.proofs.Words.{right_names}
use Rattle.prdb_layout.specs.Blocks.{block_count}
use Rattle.prdb_layout.specs.Records.{block_in, entry_in, has_id}
use Rattle.prdb_layout.specs.Registry.{Registry}
use Rattle.prdb_layout.specs.State.{PrEntry}
use Rattle.prdb_layout.proofs.Lookups.{id_parts}
use Rattle.entry_scans.specs.Lists.{IsAscending}
use Rattle.prdb_lists.specs.Members.{Members}
use Rattle.prdb_finds.specs.Ends.{HoldsSome}
use Rattle.prdb_finds.specs.Keys.{id_chain}
use Rattle.prdb_finds.specs.Owned.{AreIdsOf, AreInOwned, AreOwned, AreWalked, HasOwned, IsBadOwned}
use Rattle.prdb_finds.specs.Places.{id_links, owned_links, owned_place}
use Rattle.prdb_finds.specs.Sought.{IsRead}
use Rattle.prdb_finds.specs.Records.{Holds, IsEntryAt, IsGroupOf, whole}
use Rattle.prdb_finds.proofs.FirstChains.{first_len}
use Rattle.prdb_finds.proofs.FirstHolds.{first_held}
use Rattle.prdb_finds.proofs.Ended.{read_none}
use Rattle.prdb_finds.proofs.Lookups.{of_id, whole_now}
use Rattle.prdb_finds.proofs.Told.{told_only, told_there, whole_same}

-- ---- the ids in the blocks of a chain

map_has : {Y : Type 0} (f : ℕ → Y) (ws : List ℕ) (y : Y) (i : ℕ) → i < length (map f ws) → get_or (map f ws) i y ≡ y
    → (w : ℕ) × Contains ws w × (f w ≡ y)
map_has f [] y i below at = absurd (omega (arith, below))
map_has f (w ∷ ws) y zero below at = (w, (0, omega arith, refl), at)
map_has f (w ∷ ws) y (suc i) below at =
    let more = map_has f ws y i (omega (arith, below)) at in
    (more.0, (suc more.1.0, omega (arith, more.1.1), more.1.2), more.2)

has_map : {Y : Type 0} (f : ℕ → Y) (ws : List ℕ) (w : ℕ) (y : Y) (i : ℕ) → i < length ws → get_or ws i w ≡ w → f w ≡ y
    → Contains (map f ws) y
has_map f [] w y i below at same = absurd (omega (arith, below))
has_map f (v ∷ ws) w y zero below at same = (0, omega arith, ap f at ∙ same)
has_map f (v ∷ ws) w y (suc i) below at same =
    let more = has_map f ws w y i (omega (arith, below)) at same in
    (suc more.0, omega (arith, more.1), more.2)

-- the word at an offset of a word's block
at_word : List ℕ → ℕ → ℕ
at_word image w = word_at (any_block 2112 image (block_of owned_links w)) 8

id_of : (image : List ℕ) (w : ℕ) → cast_signed w32 (at_word image w) ≡ (entry_in (block_in image (w - 1))).id
unfolding at_word
id_of image w =
    let here : any_block 2112 image (block_of owned_links w) ≡ block_in image (w - 1) =
    ap (any_block 2112 image) (omega arith) in
    ap (λ (b : List ℕ). cast_signed w32 (word_at b 8)) here

ids_of : (image words : List ℕ) → AreIdsOf image words (map (cast_signed w32) (map (at_word image) words))
ids_of image words id = (
  λ has.
      let n = map_has (cast_signed w32) (map (at_word image) words) id has.0 has.1 has.2 in
      let w = map_has (at_word image) words n.0 n.1.0 n.1.1 n.1.2 in
      (w.0, w.1, sym (id_of image w.0) ∙ ap (cast_signed w32) w.2 ∙ n.2),
  λ is.
      let n = has_map (at_word image) words is.0 (at_word image is.0) is.1.0 is.1.1 is.1.2 refl in
      has_map (cast_signed w32) (map (at_word image) words) (at_word image is.0) id n.0 n.1 n.2 (id_of image is.0 ∙ is.2),
)

told_so : (image : List ℕ) (at : ℕ) (found : List ℕ) (ids after : List ℤ) → StandAlong owned_links image at 8 found
    → ids ≡ map (cast_signed w32) found → ((id : ℤ) → Contains after id ↔ Contains ids id) → AreInOwned image at after
unfolding at_word
told_so image at found ids after stand read same =
    let all : ids ≡ map (cast_signed w32) (map (at_word image) stand.0) = read ∙ ap (map (cast_signed w32)) stand.2 in
    let are : AreIdsOf image stand.0 ids = subst (AreIdsOf image stand.0) (sym all) (ids_of image stand.0) in
    (stand.0, stand.1, λ id. (λ has. (are id).0 ((same id).0 has), λ is. (same id).1 ((are id).1 is)))

pub told_ids : (bytes : Option (List ℕ)) (at : ℕ) (found : List ℕ) (ids after : List ℤ)
    → IfSome bytes (λ image. StandAlong owned_links image at 8 found) → ids ≡ map (cast_signed w32) found
    → ((id : ℤ) → Contains after id ↔ Contains ids id) → IfSome bytes (λ image. AreInOwned image at after)
told_ids None at found ids after stand read same = tt
told_ids (Some image) at found ids after stand read same = told_so image at found ids after stand read same

-- ---- the block of the owner

pub record IsBlockOf (image : List ℕ) (owner : ℤ) (k : ℕ) : Type 0 where
  pub below : k < block_count image
  pub has : has_id owner (block_in image k) ≡ true

-- what a walk to it found
pub record IsMet (bytes : Option (List ℕ)) (owner : ℤ) (k at : ℕ) : Type 0 where
  pub block : IfSome bytes (λ image. IsBlockOf image owner k)
  pub place : at ≡ owned_place k

block_met : (image : List ℕ) (owner : ℤ) (at k : ℕ) (f : Link) → IsFound id_links (λ w block. has_id owner block) image at (Some f)
    → k ≡ f.word - 1 → IsBlockOf image owner k
block_met image owner at k f found is =
    let n = right_names id_links image f.word found.0.right in
    let here : f.block ≡ block_in image k =
    found.0.block ∙ ap (any_block 2112 image) (omega (arith, is)) in record {
      below = omega (arith, n.some, n.block, is);
      has = ap (has_id owner) (sym here) ∙ found.1;
    }

some_met : (bytes : Option (List ℕ)) (owner : ℤ) (link : Option Link) (f : Link) (k : ℕ) → link ≡ Some f
    → IfSome bytes (λ image. IsFound id_links (λ w block. has_id owner block) image
    (stop_place id_links (λ w block. has_id owner block) image (id_chain owner)) link)
    → k ≡ f.word - 1 → IfSome bytes (λ image. IsBlockOf image owner k)
some_met None owner link f k some found is = tt
some_met (Some image) owner link f k some found is =
    let at = stop_place id_links (λ w block. has_id owner block) image (id_chain owner) in
    block_met image owner at k f (subst (IsFound id_links (λ w block. has_id owner block) image at) some found) is

pub met : (bytes : Option (List ℕ)) (owner : ℤ) (link : Option Link) (f : Link) (k at : ℕ) → link ≡ Some f
    → IfSome bytes (λ image. IsFound id_links (λ w block. has_id owner block) image
    (stop_place id_links (λ w block. has_id owner block) image (id_chain owner)) link)
    → k ≡ f.word - 1 → at ≡ owned_place k → IsMet bytes owner k at
met bytes owner link f k at some found is place = record { block = some_met bytes owner link f k some found is; place = place }

-- ---- the list

visits_of : (image : List ℕ) (r : Registry) (m : Members) (owner : ℤ) (k : ℕ) → Holds image r m → IsBlockOf (whole image) owner k
    → Visits owned_links (whole image) (owned_place k) (IsEntryAt (whole image) (IsGroupOf owner))
visits_of image r m owner k holds b =
    let old = whole image in
    let p = id_parts owner (block_in old k) b.has in
    subst (λ (x : ℤ). Visits owned_links old (owned_place k) (IsEntryAt old (IsGroupOf x))) p.1 (holds.chains.owned k b.below p.0)

some_of : (o : Option PrEntry) (P : PrEntry → Type 0) → IsSomeAnd o P → (e : PrEntry) × (o ≡ Some e) × P e
some_of None P is = absurd is
some_of (Some e) P is = (e, refl, is)

owned_list : (image : List ℕ) (r : Registry) (m : Members) (owner : ℤ) (k : ℕ) (words : List ℕ) (ids : List ℤ) → Holds image r m
    → IsBlockOf (whole image) owner k → HasChain owned_links (whole image) (owned_place k) words → AreIdsOf (whole image) words ids
    → IsAscending ids → AreOwned r owner (Some ids)
owned_list image r m owner k words ids holds b chain are ascending =
    let old = whole image in
    let p = id_parts owner (block_in old k) b.has in
    let v = visits_of image r m owner k holds b in
    let same : words ≡ v.words = chain_unique owned_links old (owned_place k) words v.words (omega arith) chain v.chain in (
      subst (λ (x : ℤ). IsSome (r.entry x)) p.1
          (subst (λ (o : Option PrEntry). IsSome o) (sym (told_there image r m k holds b.below p.0)) refl),
      record {
        ascending = ascending;
        each = λ id has.
            let o = (are id).0 has in
            let a = v.only o.0 (subst (λ (ws : List ℕ). Contains ws o.0) same o.1) in
            let at = told_there image r m (o.0 - 1) holds (omega (arith, a.some, a.within)) a.kind in (
              subst (λ (x : ℤ). x <ℤ pos 0) o.2 a.belongs.0,
              subst (λ (x : ℤ). IsSomeAnd (r.entry x) (λ e. e.owner ≡ owner)) o.2
                  (subst (λ (q : Option PrEntry). IsSomeAnd q (λ e. e.owner ≡ owner)) (sym at) a.belongs.1),
            );
        all = λ id is.
            let e = some_of (r.entry id) (λ e. e.owner ≡ owner) is.1 in
            let t = told_only image r m id e.0 holds e.1 in
            let own : e.0.id ≡ id = holds.pairs.holds.valid.ids id e.0 e.1 in
            let back : t.0 + 1 - 1 ≡ t.0 = omega arith in
            let here : entry_in (block_in old (t.0 + 1 - 1)) ≡ e.0 = ap (λ (j : ℕ). entry_in (block_in old j)) back ∙ t.3 in
            let below : e.0.id <ℤ pos 0 = subst (λ (x : ℤ). x <ℤ pos 0) (sym own) is.0 in
            let has = v.each (t.0 + 1) (record {
              some = omega arith;
              within = omega (arith, t.1);
              kind = ap (λ (j : ℕ). kind_of (block_in old j)) back ∙ t.2;
              belongs = subst (λ (x : PrEntry). IsGroupOf owner x) (sym here) (below, e.2);
            }) in
            (are id).1 (t.0 + 1, subst (λ (ws : List ℕ). Contains ws (t.0 + 1)) (sym same) has, ap (λ (x : PrEntry). x.id) here ∙ own);
      },
    )

pub owned_found : (bytes now : Option (List ℕ)) (len k at : ℕ) (owner : ℤ) (ids : List ℤ) → IfSome bytes (λ image. length image ≡ len)
    → 0 < len → now ≡ bytes → IsMet bytes owner k at → IfSome now (λ image. AreInOwned image at ids) → IsAscending ids
    → IfSome bytes (λ image. (r : Registry) (m : Members) → Holds image r m → AreOwned r owner (Some ids))
owned_found None now len k at owner ids told some same is read ascending = tt
owned_found (Some image) now len k at owner ids told some same is read ascending = λ r m holds.
    let here : whole image ≡ image = whole_same image (omega arith) in
    let in_now : AreInOwned image at ids = subst (λ (b : Option (List ℕ)). IfSome b (λ image. AreInOwned image at ids)) same read in
    let in_old : AreInOwned (whole image) (owned_place k) ids =
    subst (λ (i : List ℕ). AreInOwned i (owned_place k) ids) (sym here) (subst (λ (p : ℕ). AreInOwned image p ids) is.place in_now) in
    owned_list image r m owner k in_old.0 ids holds (subst (λ (i : List ℕ). IsBlockOf i owner k) (sym here) is.block) in_old.1 in_old.2
    ascending

pub owned_walked : (bytes now : Option (List ℕ)) (k at : ℕ) (owner : ℤ) (ids : List ℤ) → now ≡ bytes → IsMet bytes owner k at
    → IfSome now (λ image. AreInOwned image at ids) → IfSome bytes (AreWalked owner ids)
owned_walked None now k at owner ids same is read = tt
owned_walked (Some image) now k at owner ids same is read =
    let here : AreInOwned image at ids = subst (λ (b : Option (List ℕ)). IfSome b (λ image. AreInOwned image at ids)) same read in
    (k, is.block.below, is.block.has, subst (λ (p : ℕ). AreInOwned image p ids) is.place here)

pub owned_none : (bytes : Option (List ℕ)) (len : ℕ) (owner : ℤ) (link : Option Link) → IfSome bytes (λ image. length image ≡ len)
    → 0 < len → link ≡ None
    → IfSome bytes (λ image. (ws : List ℕ) → HasChain id_links image (id_chain owner) ws
    → option_map (λ f. f.word) link ≡ first_met (meets id_links (λ w block. has_id owner block) image) ws)
    → IfSome bytes (λ image. (r : Registry) (m : Members) → Holds image r m → AreOwned r owner None)
owned_none None len owner link told some none found = tt
owned_none (Some image) len owner link told some none found = λ r m holds.
    sym (of_id (Some image) owner None
    (subst (λ (i : List ℕ). IsRead id_links (λ w block. has_id owner block) (id_chain owner) i None) (sym (whole_same image (omega arith)))
    (read_none (Some image) id_links (λ w block. has_id owner block) (id_chain owner) link none found)) r m holds)

-- ---- the empty image

pub first_told : (first : Option (List ℕ)) (len : ℕ) → first ≡ Some (whole []) → len ≡ 3264 → IfSome first (λ image. length image ≡ len)
first_told first len here long =
    subst (λ (b : Option (List ℕ)). IfSome b (λ image. length image ≡ len)) (sym here) (first_len ∙ sym long)

pub empty_owned : {X : Type 0} (P : Registry → X → Type 0) (res : Result X RecordFault) (bytes first : Option (List ℕ)) (len : ℕ)
    → IfSome bytes (λ image. length image ≡ len) → len ≡ 0 → first ≡ Some (whole [])
    → IfOk res (λ x. IfSome first (λ image. (r : Registry) (m : Members) → Holds image r m → P r x))
    → IfOk res (λ x. IfSome bytes (λ image. (r : Registry) (m : Members) → Holds image r m → P r x))
empty_owned P (Err fault) bytes first len told none here is = tt
empty_owned P (Ok x) None first len told none here is = tt
empty_owned P (Ok x) (Some image) first len told none here is = λ r m holds.
    (subst (λ (b : Option (List ℕ)). IfSome b (λ image. (r : Registry) (m : Members) → Holds image r m → P r x)) here is) r m
    (first_held image r m (told ∙ none) holds)

none_walked : {T : Type 0} (P : T → List ℕ → Type 0) (found : Option T) (bytes : Option (List ℕ)) (len : ℕ)
    → IfSome bytes (λ image. length image ≡ len) → len ≡ 0 → IfSome found (λ x. IfSome bytes (λ image. 0 < length image → P x image))
none_walked P None bytes len told none = tt
none_walked P (Some x) None len told none = tt
none_walked P (Some x) (Some image) len told none = λ some. absurd (omega arith)

pub empty_walked : {T : Type 0} (P : T → List ℕ → Type 0) (res : Result (Option T) RecordFault) (bytes : Option (List ℕ)) (len : ℕ)
    → IfSome bytes (λ image. length image ≡ len) → len ≡ 0
    → IfOk res (λ found. IfSome found (λ x. IfSome bytes (λ image. 0 < length image → P x image)))
empty_walked P (Err fault) bytes len told none = tt
empty_walked P (Ok found) bytes len told none = none_walked P found bytes len told none

walked_so : {T : Type 0} (P : T → List ℕ → Type 0) (found : Option T) (bytes : Option (List ℕ))
    → IfSome found (λ x. IfSome bytes (P x)) → IfSome found (λ x. IfSome bytes (λ image. 0 < length image → P x image))
walked_so P None bytes is = tt
walked_so P (Some x) None is = tt
walked_so P (Some x) (Some image) is = λ some. is

pub ok_walked : {T : Type 0} (P : T → List ℕ → Type 0) (res : Result (Option T) RecordFault) (bytes : Option (List ℕ))
    → IfOk res (λ found. IfSome found (λ x. IfSome bytes (P x)))
    → IfOk res (λ found. IfSome found (λ x. IfSome bytes (λ image. 0 < length image → P x image)))
ok_walked P (Err fault) bytes is = tt
ok_walked P (Ok found) bytes is = walked_so P found bytes is

-- ---- a fault

pub bad_first : (bytes : Option (List ℕ)) (owner : ℤ) (fault : RecordFault)
    → IsBadWhere bytes (IsBad id_links (λ w block. has_id owner block) (id_chain owner)) fault → IsBadWhere bytes (IsBadOwned owner) fault
bad_first bytes owner DiskFault bad = tt
bad_first bytes owner NoMemory bad = tt
bad_first None owner (BadRecord at) bad = tt
bad_first (Some image) owner (BadRecord at) bad = inl bad

pub bad_second : (bytes now : Option (List ℕ)) (k at : ℕ) (owner : ℤ) (fault : RecordFault) → now ≡ bytes → IsMet bytes owner k at
    → IsBadWhere now (IsBad owned_links to_end at) fault → IsBadWhere bytes (IsBadOwned owner) fault
bad_second bytes now k at owner DiskFault same is bad = tt
bad_second bytes now k at owner NoMemory same is bad = tt
bad_second None now k at owner (BadRecord place) same is bad = tt
bad_second (Some image) now k at owner (BadRecord place) same is bad =
    let here : IsBad owned_links to_end at image place =
    subst (λ (b : Option (List ℕ)). IfSome b (λ image. IsBad owned_links to_end at image place)) same bad in
    inr (k, is.block.below, is.block.has, subst (λ (p : ℕ). IsBad owned_links to_end p image place) is.place here)

pub fault_second : (bytes now : Option (List ℕ)) (len k at : ℕ) (owner : ℤ) (fault : RecordFault)
    → IfSome bytes (λ image. length image ≡ len) → 0 < len → now ≡ bytes → IsMet bytes owner k at
    → HasCause now (HasSome owned_links at) fault → HasCause bytes HoldsSome fault
fault_second bytes now len k at owner DiskFault told some same is cause = tt
fault_second bytes now len k at owner NoMemory told some same is cause = tt
fault_second None now len k at owner (BadRecord place) told some same is cause = tt
fault_second (Some image) now len k at owner (BadRecord place) told some same is cause = λ held.
    let more : 0 < length image = omega arith in
    let here : whole image ≡ image = whole_same image more in
    let b = subst (λ (i : List ℕ). IsBlockOf i owner k) (sym here) is.block in
    let v = visits_of image held.0 held.1 owner k held.2 b in
    let chain : HasChain owned_links image at v.words =
    subst (λ (p : ℕ). HasChain owned_links image p v.words) (sym is.place)
    (subst (λ (i : List ℕ). HasChain owned_links i (owned_place k) v.words) here v.chain) in
    let never : HasSome owned_links at image → ⊥ =
    subst (λ (b : Option (List ℕ)). IfSome b (λ image. HasSome owned_links at image → ⊥)) same cause in
    never (whole_now image held.0 held.1 held.2 more, (v.words, chain))

-- ---- what it costs

pub costs_both : {I : Type 0} (g : Ghosts I) (bytes now : Option (List ℕ)) (k at : ℕ) (owner : ℤ) (a b c : Drafted I) → now ≡ bytes
    → IsMet bytes owner k at
    → IfSome bytes (λ image. (ws : List ℕ) → HasChain id_links image (id_chain owner) ws → CostsAtMost g (4 + 192 * length ws) a b)
    → IfSome now (λ image. (ws : List ℕ) → HasChain owned_links image at ws → CostsAtMost g (4 + 192 * length ws) b c)
    → IfSome bytes (λ image. (ws vs : List ℕ) → HasChain id_links image (id_chain owner) ws → HasOwned image owner vs
    → CostsAtMost g (8 + 192 * (length ws + length vs)) a c)
costs_both g None now k at owner a b c same is one two = tt
costs_both g (Some image) now k at owner a b c same is one two = λ ws vs chain owned.
    let there : HasChain owned_links image at vs =
    subst (λ (p : ℕ). HasChain owned_links image p vs) (sym is.place) (owned k is.block.below is.block.has) in
    let first : CostsAtMost g (4 + 192 * length ws) a b = one ws chain in
    let second : CostsAtMost g (4 + 192 * length vs) b c =
    subst (λ (b1 : Option (List ℕ)). IfSome b1 (λ image. (us : List ℕ) → HasChain owned_links image at us
    → CostsAtMost g (4 + 192 * length us) b c)) same two vs there in
    asks_then (4 + 192 * length ws) (4 + 192 * length vs) (8 + 192 * (length ws + length vs)) (g.asked a.image) (g.asked b.image)
    (g.asked c.image) first second (omega arith)

pub costs_none : {I : Type 0} (g : Ghosts I) (bytes : Option (List ℕ)) (owner : ℤ) (a b : Drafted I) → b.image ≡ a.image
    → IfSome bytes (λ image. (ws vs : List ℕ) → HasChain id_links image (id_chain owner) ws → HasOwned image owner vs
    → CostsAtMost g (8 + 192 * (length ws + length vs)) a b)
costs_none g None owner a b same = tt
costs_none g (Some image) owner a b same = λ ws vs chain owned.
    subst (λ i. AsksAtMost (8 + 192 * (length ws + length vs)) (g.asked a.image) (g.asked i)) (sym same)
    (asks_none (8 + 192 * (length ws + length vs)) (g.asked a.image))
