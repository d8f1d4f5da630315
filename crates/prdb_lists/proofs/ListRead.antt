-- How far a list of pairs was read.
use Rattle.std.proofs.Common.{◌≡◌, ℕ, ℤ, ◌+◌, ◌-◌, ◌*◌, ◌^◌, ◌<◌, ◌≤◌, min, true, false, List, [], ◌∷◌, ◌++◌, length, take, drop, map, Option, Some, None, IfSome, refl, sym, ap, subst, ◌∙◌, append_assoc, arith}
use Rattle.std.specs.Prelude.{FitsSigned, ◌<ℤ◌}
use Rattle.std.specs.Int.{w32}
use Rattle.std.specs.List.{All}
use Rattle.std.proofs.lemmas.List.{take-append-drop, length-append, length-take, length-drop, append-nil, drop_at}
use Rattle.std.proofs.lemmas.List.Elements.{All-append, All-cons, All-take, All-drop, All-same}
use Rattle.std.proofs.lemmas.List.FromFn.{take-map-range_with_len}
use Rattle.db_image.specs.Asked.{AsksAtMost}
use Rattle.db_image.specs.Draft.{Drafted}
use Rattle.db_image.specs.declared.images.ImageRead.{Ghosts}
use Rattle.db_image.specs.declared.faults.RecordFault.{RecordFault}
use Rattle.db_image.specs.declared.faults.RecordFault.TheVariants.{DiskFault, BadRecord, NoMemory}
use Rattle.db_image.proofs.ReadSteps.{asks_none, asks_then}
use Rattle.db_blocks.specs.Blocks.{IsWhole, block_place, word_at}
use Rattle.db_blocks.specs.Ends.{HasCause, OnlyLooks}
use Rattle.db_blocks.proofs.Scanned.{looks_none, looks_then, looks_so}
use Rattle.prdb_layout.specs.Blocks.{block_count}
use Rattle.db_blocks.specs.Bytes.{words, zeros}
use Rattle.prdb_layout.specs.Bytes.{bits}
use Rattle.prdb_layout.specs.Records.{block_in, signed_at}
use Rattle.entry_scans.specs.Lists.{IsAscending}
use Rattle.prdb_lists.specs.Blocks.{AreWithin, IsMore, ids_in, is_more_of}
use Rattle.prdb_lists.specs.Layout.{IsChain, IsListed, PairList, link_to, more_block}
use Rattle.prdb_lists.proofs.Ascending.{ascending_left, ascending_apart, one_apart}
use Rattle.prdb_lists.proofs.BlockIds.{count_of, link_of, ids_read, ids_more, ids_of_more, is_more, next_of_more}

-- ---- ids that do not ascend

-- an id that is read behind a list is above it, if all that is read ascends
pub not_ascending : (block : List ℕ) (ids : List ℤ) (at i count : ℕ) → i < count → IsAscending (ids ++ ids_in block at count)
    → All (λ x. x <ℤ signed_at block (at + 4 * i)) (ids ++ ids_in block at i)
not_ascending block ids at i count below is =
    let xs = ids_in block at count in
    let x = signed_at block (at + 4 * i) in
    let front : take (i + 1) xs
    ≡ ids_in block at i ++ x ∷ [] = take-map-range_with_len (λ j. signed_at block (at + 4 * j)) 0 count (i + 1) (omega arith)
    ∙ ids_more block at i in
    let parts : ids ++ xs ≡ ((ids ++ ids_in block at i) ++ x ∷ []) ++ drop (i + 1) xs =
    ap (λ (l : List ℤ). ids ++ l) (sym (take-append-drop (i + 1) xs)) ∙ sym (append_assoc ids (take (i + 1) xs) (drop (i + 1) xs))
    ∙ ap (λ (l : List ℤ). (ids ++ l) ++ drop (i + 1) xs) front
    ∙ ap (λ (l : List ℤ). l ++ drop (i + 1) xs) (sym (append_assoc ids (ids_in block at i) (x ∷ []))) in
    let whole : IsAscending (((ids ++ ids_in block at i) ++ x ∷ []) ++ drop (i + 1) xs) = subst IsAscending parts is in
    one_apart (ids ++ ids_in block at i) x (ascending_apart (ids ++ ids_in block at i) (x ∷ []) (ascending_left _ _ whole))

-- ---- a chain

pub record IsNext (image : List ℕ) (entry : ℤ) (more : List ℕ) (ids : List ℤ) : Type 0 where
  pub k : ℕ
  pub behind : List ℕ
  pub is : more ≡ k ∷ behind
  pub below : k < block_count image
  pub block : block_in image k ≡ more_block entry (link_to behind) (take 44 ids)
  pub chain : IsChain image entry behind (drop 44 ids)

pub chain_next : (image : List ℕ) (entry : ℤ) (more : List ℕ) (ids : List ℤ) → IsChain image entry more ids → 0 < length ids
    → IsNext image entry more ids
chain_next image entry [] ids chain some = absurd (omega (arith, ap length chain))
chain_next image entry (k ∷ behind) ids chain some =
    record { k = k; behind = behind; is = refl; below = chain.0; block = chain.2; chain = chain.3 }

pub chain_end : (image : List ℕ) (entry : ℤ) (more : List ℕ) (ids : List ℤ) → IsChain image entry more ids → ids ≡ [] → more ≡ []
chain_end image entry [] ids chain none = refl
chain_end image entry (k ∷ behind) ids chain none = absurd (chain.1 none)

-- ---- what was read of a list, and what is left of it

pub record IsRest (image : List ℕ) (entry : ℤ) (l : PairList) (ids : List ℤ) (more : List ℕ) (left link : ℕ) : Type 0 where
  pub rest : PairList
  pub ids_are : l.ids ≡ ids ++ rest.ids
  pub more_are : l.more ≡ more ++ rest.more
  pub chain : IsChain image entry rest.more rest.ids
  pub left_is : left ≡ length rest.ids
  pub link_is : link ≡ link_to rest.more

pub none_left : (ids : List ℤ) → length ids ≡ 0 → ids ≡ []
none_left [] none = refl
none_left (x ∷ ids) none = absurd (omega arith)

drop_front : (front back whole : List ℤ) → whole ≡ front ++ back → drop (length front) whole ≡ back
drop_front front back whole is = ap (drop (length front)) is ∙ drop_at front back (length front) refl

take_short : (n : ℕ) (ids : List ℤ) → min (length ids) n ≡ length (take n ids)
take_short n ids = omega (arith, length-take n ids)

pub first_ids : (image block : List ℕ) (entry : ℤ) (l : PairList) (first : ℕ) → IsListed image entry block l
    → first ≡ min (word_at block 24) 19
    → ids_in block 112 first ≡ take 19 l.ids
first_ids image block entry l first is here =
    let count : word_at block 24 ≡ length l.ids = count_of block l is.front is.few in
    ids_read (take 19 l.ids) (zeros (80 - length (words (map bits (take 19 l.ids))))) block 112 first
    (All-take (λ id. FitsSigned w32 id) 19 l.ids is.fits) is.first
    (here ∙ ap (λ (n : ℕ). min n 19) count ∙ take_short 19 l.ids)

pub rest_first : (image block : List ℕ) (entry : ℤ) (l : PairList) (ids : List ℤ) (more : List ℕ) (first left link : ℕ)
    → IsListed image entry block l
    → first ≡ min (word_at block 24) 19 → ids ≡ ids_in block 112 first → more ≡ []
    → left ≡ word_at block 24 - first → link ≡ word_at block 28 → IsRest image entry l ids more left link
rest_first image block entry l ids more first left link is here ids_is none left_is link_is =
    let len : word_at block 24 ≡ length l.ids = count_of block l is.front is.few in
    let read : ids ≡ take 19 l.ids = ids_is ∙ first_ids image block entry l first is here in
    record {
      rest = record { ids = drop 19 l.ids; more = l.more };
      ids_are = sym (take-append-drop 19 l.ids) ∙ ap (λ (x : List ℤ). x ++ drop 19 l.ids) (sym read);
      more_are = ap (λ (x : List ℕ). x ++ l.more) (sym none);
      chain = is.chain;
      left_is = omega (arith, left_is, here, len, length-drop 19 l.ids);
      link_is = link_is ∙ link_of block l is.front;
    }

-- the ids of the next continuation block
pub record IsNextRead (image block : List ℕ) (entry : ℤ) (l : PairList) (ids : List ℤ) (more : List ℕ) (left link here : ℕ) : Type 0 where
  pub ascending : IsAscending (ids ++ ids_in block 12 here)
  pub rest : IsRest image entry l (ids ++ ids_in block 12 here) (more ++ (link - 1) ∷ []) (left - here) (word_at block 8)

pub more_there : (image : List ℕ) (entry : ℤ) (l : PairList) (ids : List ℤ) (more : List ℕ) (left link count : ℕ)
    → IsRest image entry l ids more left link
    → FitsSigned w32 entry → 0 < left → length image ≡ block_place 2112 count → IsMore image entry link count
more_there image entry l ids more left link count r fits some size =
    let n = chain_next image entry r.rest.more r.rest.ids r.chain (omega (arith, r.left_is)) in
    let link_at : link ≡ n.k + 1 = r.link_is ∙ ap link_to n.is in
    let below : n.k < block_count image = n.below in
    record {
      some = omega arith;
      within = omega (arith, size, below, link_at);
      kind = ap (λ (j : ℕ). is_more_of entry (block_in image (j - 1))) link_at
          ∙ ap (λ (j : ℕ). is_more_of entry (block_in image j)) (omega arith) ∙ ap (is_more_of entry) n.block
          ∙ is_more entry (link_to n.behind) (take 44 r.rest.ids) fits;
    }

pub next_read : (image block : List ℕ) (entry : ℤ) (l : PairList) (ids : List ℤ) (more : List ℕ) (left link here : ℕ)
    → IsRest image entry l ids more left link
    → IsAscending l.ids → All (λ id. FitsSigned w32 id) l.ids → 0 < left
    → block ≡ block_in image (link - 1) → here ≡ min left 44 → IsNextRead image block entry l ids more left link here
next_read image block entry l ids more left link here r rises fits some at len =
    let n = chain_next image entry r.rest.more r.rest.ids r.chain (omega (arith, r.left_is)) in
    let link_at : link ≡ n.k + 1 = r.link_is ∙ ap link_to n.is in
    let k_is : link - 1 ≡ n.k = omega (arith, link_at) in
    let block_is : block ≡ more_block entry (link_to n.behind) (take 44 r.rest.ids) = at
    ∙ ap (block_in image) k_is ∙ n.block in
    let fits_rest : All (λ id. FitsSigned w32 id) r.rest.ids = All-same (λ id. FitsSigned w32 id) r.rest.ids (drop (length ids) l.ids)
    (sym (drop_front ids r.rest.ids l.ids r.ids_are)) (All-drop (λ id. FitsSigned w32 id) (length ids) l.ids fits) in
    let read : ids_in block 12 here ≡ take 44 r.rest.ids =
    ids_read (take 44 r.rest.ids) (zeros (180 - length (words (map bits (take 44 r.rest.ids))))) block 12 here
    (All-take (λ id. FitsSigned w32 id) 44 r.rest.ids fits_rest)
    (ap (drop 12) block_is ∙ ids_of_more entry (link_to n.behind) (take 44 r.rest.ids))
    (len ∙ ap (λ (m : ℕ). min m 44) r.left_is ∙ take_short 44 r.rest.ids) in
    let parts : l.ids ≡ (ids ++ take 44 r.rest.ids) ++ drop 44 r.rest.ids =
    r.ids_are ∙ ap (λ (x : List ℤ). ids ++ x) (sym (take-append-drop 44 r.rest.ids))
    ∙ sym (append_assoc ids (take 44 r.rest.ids) (drop 44 r.rest.ids)) in
    let parts_read : l.ids ≡ (ids ++ ids_in block 12 here) ++ drop 44 r.rest.ids = parts
    ∙ ap (λ (x : List ℤ). (ids ++ x) ++ drop 44 r.rest.ids) (sym read) in
    record {
      ascending = ascending_left (ids ++ ids_in block 12 here) (drop 44 r.rest.ids) (subst IsAscending parts_read rises);
      rest = record {
        rest = record { ids = drop 44 r.rest.ids; more = n.behind };
        ids_are = parts_read;
        more_are = r.more_are ∙ ap (λ (x : List ℕ). more ++ x) (n.is ∙ ap (λ (j : ℕ). j ∷ n.behind) (sym k_is))
            ∙ sym (append_assoc more ((link - 1) ∷ []) n.behind);
        chain = n.chain;
        left_is = omega (arith, r.left_is, len, length-drop 44 r.rest.ids);
        link_is = ap (λ (b : List ℕ). word_at b 8) block_is
            ∙ next_of_more entry (link_to n.behind) (take 44 r.rest.ids);
      };
    }

-- one block more lies within
pub within_more : (len : ℕ) (more : List ℕ) (k : ℕ) → AreWithin len more → block_place 2112 k + 192 ≤ len → AreWithin len (more ++ k ∷ [])
within_more len more k all here =
    All-append (λ j. block_place 2112 j + 192 ≤ len) more (k ∷ []) all
    (All-cons (λ j. block_place 2112 j + 192 ≤ len) k [] here (λ i d below. absurd (omega arith)))

-- ---- over a draft

pub record ReadSoFar {I : Type 0} (g : Ghosts I) (first now : Drafted I) (entry : ℤ) (block : List ℕ) (ids : List ℤ) (more : List ℕ)
    (count left link : ℕ) : Type 0 where
  pub frame : OnlyLooks g first now ⊥
  pub told : IfSome first.bytes (λ image. length image ≡ block_place 2112 count)
  pub size : block_place 2112 count < 2 ^ 31
  pub len : first.len ≡ block_place 2112 count
  pub within : AreWithin first.len more
  pub cost : AsksAtMost (192 * length more) (g.asked first.image) (g.asked now.image)
  pub rest : IfSome first.bytes (λ image. (l : PairList) → IsListed image entry block l → IsRest image entry l ids more left link)

first_so : (bytes : Option (List ℕ)) (block : List ℕ) (entry : ℤ) (ids : List ℤ) (more : List ℕ) (first left link : ℕ)
    → first ≡ min (word_at block 24) 19 → ids ≡ ids_in block 112 first → more ≡ []
    → left ≡ word_at block 24 - first → link ≡ word_at block 28
    → IfSome bytes (λ image. (l : PairList) → IsListed image entry block l → IsRest image entry l ids more left link)
first_so None block entry ids more first left link here ids_is none left_is link_is = tt
first_so (Some image) block entry ids more first left link here ids_is none left_is link_is =
    λ l is. rest_first image block entry l ids more first left link is here ids_is none left_is link_is

pub read_first : {I : Type 0} (g : Ghosts I) (d : Drafted I) (entry : ℤ) (block : List ℕ) (ids : List ℤ) (more : List ℕ)
    (first count left link : ℕ)
    → IfSome d.bytes (λ image. length image ≡ block_place 2112 count) → block_place 2112 count < 2 ^ 31 → d.len ≡ block_place 2112 count
    → first ≡ min (word_at block 24) 19
    → ids ≡ ids_in block 112 first → more ≡ [] → left ≡ word_at block 24 - first → link ≡ word_at block 28
    → ReadSoFar g d d entry block ids more count left link
read_first g d entry block ids more first count left link told short len here ids_is none left_is link_is = record {
  frame = looks_none g d ⊥ (λ h. h);
  told = told;
  size = short;
  len = len;
  within = subst (λ (l : List ℕ). AreWithin d.len l) (sym none) (λ i e below. absurd (omega arith));
  cost = asks_none (192 * length more) (g.asked d.image);
  rest = first_so d.bytes block entry ids more first left link here ids_is none left_is link_is;
}

more_so : (bytes : Option (List ℕ)) (block read : List ℕ) (entry : ℤ) (ids new_ids : List ℤ) (more new_more : List ℕ)
    (left link here new_left new_link : ℕ)
    → IfSome bytes (λ image. (l : PairList) → IsListed image entry block l → IsRest image entry l ids more left link)
    → IfSome bytes (λ image. read ≡ block_in image (link - 1)) → 0 < left → here ≡ min left 44
    → new_ids ≡ ids ++ ids_in read 12 here → new_more ≡ more ++ (link - 1) ∷ [] → new_left ≡ left - here → new_link ≡ word_at read 8
    → IfSome bytes (λ image. (l : PairList) → IsListed image entry block l → IsRest image entry l new_ids new_more new_left new_link)
more_so None block read entry ids new_ids more new_more left link here new_left new_link rest at some len i m n k = tt
more_so (Some image) block read entry ids new_ids more new_more left link here new_left new_link rest at some len i m n k =
    λ l is.
    let next = next_read image read entry l ids more left link here (rest l is) is.ascending is.fits some at len in
    rw (i, m, n, k) next.rest

pub read_more : {I : Type 0} (g : Ghosts I) (first now next : Drafted I) (entry : ℤ) (block read : List ℕ) (ids new_ids : List ℤ)
    (more new_more : List ℕ)
    (count left link here new_left new_link : ℕ) (failed : Type 0) → ReadSoFar g first now entry block ids more count left link
    → OnlyLooks g now next failed → AsksAtMost 192 (g.asked now.image) (g.asked next.image)
    → IfSome now.bytes (λ image. read ≡ block_in image (link - 1)) → 0 < left → 0 < link → link ≤ count → here ≡ min left 44
    → new_ids ≡ ids ++ ids_in read 12 here → new_more ≡ more ++ (link - 1) ∷ [] → new_left ≡ left - here → new_link ≡ word_at read 8
    → ReadSoFar g first next entry block new_ids new_more count new_left new_link
read_more g first now next entry block read ids new_ids more new_more count left link here new_left new_link failed s looks asks at some linked
    within len i m n k = record {
      frame = looks_then g first now next ⊥ ⊥ s.frame (looks_so g now next failed ⊥ looks (λ h. absurd h));
      told = s.told;
      size = s.size;
      len = s.len;
      within = subst (λ (l : List ℕ). AreWithin first.len l) (sym m)
          (within_more first.len more (link - 1) s.within (omega (arith, s.len)));
      cost = asks_then (192 * length more) 192 (192 * length new_more) (g.asked first.image) (g.asked now.image) (g.asked next.image) s.cost
          asks (omega (arith, ap length m, length-append more ((link - 1) ∷ [])));
      rest = more_so first.bytes block read entry ids new_ids more new_more left link here new_left new_link s.rest
          (subst (λ (b : Option (List ℕ)). IfSome b (λ image. read ≡ block_in image (link - 1))) s.frame.same.bytes at) some len i m n
          k;
    }

-- ---- what is no list

abbrev pub Lists : ℤ → List ℕ → List ℕ → Type 0
Lists entry block image = IsWhole 2112 image × ((l : PairList) × IsListed image entry block l)

pub cause_so : (bytes : Option (List ℕ)) (P Q : List ℕ → Type 0) (fault : RecordFault) → HasCause bytes P fault
    → IfSome bytes (λ image. Q image → P image) → HasCause bytes Q fault
cause_so bytes P Q DiskFault cause so = tt
cause_so bytes P Q NoMemory cause so = tt
cause_so None P Q (BadRecord at) cause so = tt
cause_so (Some image) P Q (BadRecord at) cause so = λ q. cause (so q)

pub lists_whole : (bytes : Option (List ℕ)) (entry : ℤ) (block : List ℕ)
    → IfSome bytes (λ image. Lists entry block image → IsWhole 2112 image)
lists_whole None entry block = tt
lists_whole (Some image) entry block = λ lists. lists.0

-- a block is no continuation of the entry
pub not_more : (bytes : Option (List ℕ)) (entry : ℤ) (link count : ℕ) (block : List ℕ)
    → IfSome bytes (λ image. block ≡ block_in image (link - 1))
    → is_more_of entry block ≡ false → IfSome bytes (λ image. IsMore image entry link count → ⊥)
not_more None entry link count block at fails = tt
not_more (Some image) entry link count block at fails = λ more.
    let meets : is_more_of entry block ≡ true = ap (is_more_of entry) at ∙ more.kind in
    absurd cc

-- the ids of the entry's block do not ascend
pub first_falls : (bytes : Option (List ℕ)) (entry : ℤ) (block : List ℕ) (first : ℕ) → first ≡ min (word_at block 24) 19
    → ¬ IsAscending ([] ++ ids_in block 112 first)
    → IfSome bytes (λ image. Lists entry block image → ⊥)
first_falls None entry block first here not = tt
first_falls (Some image) entry block first here not = λ lists.
    let l = lists.1.0 in
    let is = lists.1.1 in
    not (subst IsAscending (sym (first_ids image block entry l first is here))
    (ascending_left (take 19 l.ids) (drop 19 l.ids) (subst IsAscending (sym (take-append-drop 19 l.ids)) is.ascending)))

-- no continuation is named where one must be
more_wanted : (bytes : Option (List ℕ)) (entry : ℤ) (block : List ℕ) (ids : List ℤ) (more : List ℕ) (left link count : ℕ)
    → FitsSigned w32 entry → 0 < left
    → IfSome bytes (λ image. length image ≡ block_place 2112 count)
    → IfSome bytes (λ image. (l : PairList) → IsListed image entry block l → IsRest image entry l ids more left link)
    → IfSome bytes (λ image. Lists entry block image → IsMore image entry link count)
more_wanted None entry block ids more left link count fits some told rest = tt
more_wanted (Some image) entry block ids more left link count fits some told rest = λ lists.
    more_there image entry lists.1.0 ids more left link count (rest lists.1.0 lists.1.1) fits some told

pub no_more : {I : Type 0} (g : Ghosts I) (first now : Drafted I) (entry : ℤ) (block : List ℕ) (ids : List ℤ) (more : List ℕ)
    (count left link : ℕ) (fault : RecordFault)
    → ReadSoFar g first now entry block ids more count left link → FitsSigned w32 entry → 0 < left
    → HasCause now.bytes (λ image. IsMore image entry link count) fault → HasCause first.bytes (Lists entry block) fault
no_more g first now entry block ids more count left link fault s fits some cause =
    cause_so first.bytes (λ image. IsMore image entry link count) (Lists entry block) fault
    (subst (λ (b : Option (List ℕ)). HasCause b (λ image. IsMore image entry link count) fault) s.frame.same.bytes cause)
    (more_wanted first.bytes entry block ids more left link count fits some s.told s.rest)

falls_so : (bytes : Option (List ℕ)) (entry : ℤ) (block read : List ℕ) (ids : List ℤ) (more : List ℕ) (left link here : ℕ) → 0 < left
    → IfSome bytes (λ image. (l : PairList) → IsListed image entry block l → IsRest image entry l ids more left link)
    → IfSome bytes (λ image. read ≡ block_in image (link - 1)) → here ≡ min left 44 → ¬ IsAscending (ids ++ ids_in read 12 here)
    → IfSome bytes (λ image. Lists entry block image → ⊥)
falls_so None entry block read ids more left link here some rest at len not = tt
falls_so (Some image) entry block read ids more left link here some rest at len not = λ lists.
    let is = lists.1.1 in
    let next = next_read image read entry lists.1.0 ids more left link here (rest lists.1.0 is) is.ascending is.fits some at len in
    not next.ascending

pub more_falls : {I : Type 0} (g : Ghosts I) (first now : Drafted I) (entry : ℤ) (block read : List ℕ) (ids : List ℤ) (more : List ℕ)
    (count left link here : ℕ)
    → ReadSoFar g first now entry block ids more count left link → 0 < left
    → IfSome now.bytes (λ image. read ≡ block_in image (link - 1)) → here ≡ min left 44
    → ¬ IsAscending (ids ++ ids_in read 12 here) → IfSome first.bytes (λ image. Lists entry block image → ⊥)
more_falls g first now entry block read ids more count left link here s some at len not =
    falls_so first.bytes entry block read ids more left link here some s.rest
    (subst (λ (b : Option (List ℕ)). IfSome b (λ image. read ≡ block_in image (link - 1))) s.frame.same.bytes at) len not

-- ---- the whole list

whole_so : (bytes : Option (List ℕ)) (entry : ℤ) (block : List ℕ) (ids : List ℤ) (more : List ℕ) (left link : ℕ) → left ≡ 0
    → IfSome bytes (λ image. (l : PairList) → IsListed image entry block l → IsRest image entry l ids more left link)
    → IfSome bytes (λ image. (l : PairList) → IsListed image entry block l → (ids ≡ l.ids) × (more ≡ l.more))
whole_so None entry block ids more left link none rest = tt
whole_so (Some image) entry block ids more left link none rest = λ l is.
    let r = rest l is in
    let no_ids : r.rest.ids ≡ [] = none_left r.rest.ids (omega (arith, none, r.left_is)) in
    let no_more : r.rest.more ≡ [] = chain_end image entry r.rest.more r.rest.ids r.chain no_ids in (
      sym (r.ids_are ∙ ap (λ (x : List ℤ). ids ++ x) no_ids ∙ append-nil ids),
      sym (r.more_are ∙ ap (λ (x : List ℕ). more ++ x) no_more ∙ append-nil more),
    )

pub read_whole : {I : Type 0} (g : Ghosts I) (first now : Drafted I) (entry : ℤ) (block : List ℕ) (ids : List ℤ) (more : List ℕ)
    (count left link : ℕ)
    → ReadSoFar g first now entry block ids more count left link → left ≡ 0
    → IfSome first.bytes (λ image. (l : PairList) → IsListed image entry block l → (ids ≡ l.ids) × (more ≡ l.more))
read_whole g first now entry block ids more count left link s none = whole_so first.bytes entry block ids more left link none s.rest

-- ---- what a list costs

-- how many bytes are asked for at most where a list is read: its continuation blocks
abbrev pub ListCosts : Option (List ℕ) → ℤ → List ℕ → (before after : Option ℕ) → Type 0
ListCosts bytes entry block before after =
    IfSome bytes (λ image. (l : PairList) → IsListed image entry block l → AsksAtMost (192 * length l.more) before after)

pub none_costs : (bytes : Option (List ℕ)) (entry : ℤ) (block : List ℕ) (asked : Option ℕ) → ListCosts bytes entry block asked asked
none_costs None entry block asked = tt
none_costs (Some image) entry block asked = λ l is. asks_none (192 * length l.more) asked

rest_costs : (bytes : Option (List ℕ)) (entry : ℤ) (block : List ℕ) (ids : List ℤ) (more : List ℕ) (left link : ℕ) (a b : Option ℕ)
    → AsksAtMost (192 * length more) a b
    → IfSome bytes (λ image. (l : PairList) → IsListed image entry block l → IsRest image entry l ids more left link)
    → ListCosts bytes entry block a b
rest_costs None entry block ids more left link a b cost rest = tt
rest_costs (Some image) entry block ids more left link a b cost rest = λ l is.
    let r = rest l is in
    asks_then (192 * length more) 0 (192 * length l.more) a b b cost (asks_none 0 b)
    (omega (arith, ap length r.more_are, length-append more r.rest.more))

next_costs : (bytes : Option (List ℕ)) (entry : ℤ) (block : List ℕ) (ids : List ℤ) (more : List ℕ) (left link : ℕ) (a b c : Option ℕ)
    → AsksAtMost (192 * length more) a b → AsksAtMost 192 b c → 0 < left
    → IfSome bytes (λ image. (l : PairList) → IsListed image entry block l → IsRest image entry l ids more left link)
    → ListCosts bytes entry block a c
next_costs None entry block ids more left link a b c cost asks some rest = tt
next_costs (Some image) entry block ids more left link a b c cost asks some rest = λ l is.
    let r = rest l is in
    let n = chain_next image entry r.rest.more r.rest.ids r.chain (omega (arith, r.left_is)) in
    asks_then (192 * length more) 192 (192 * length l.more) a b c cost asks
    (omega (arith, ap length r.more_are, length-append more r.rest.more, ap length n.is))

-- no more was read than the list has
pub read_costs : {I : Type 0} (g : Ghosts I) (first now : Drafted I) (entry : ℤ) (block : List ℕ) (ids : List ℤ) (more : List ℕ)
    (count left link : ℕ)
    → ReadSoFar g first now entry block ids more count left link
    → ListCosts first.bytes entry block (g.asked first.image) (g.asked now.image)
read_costs g first now entry block ids more count left link s =
    rest_costs first.bytes entry block ids more left link (g.asked first.image) (g.asked now.image) s.cost s.rest

-- nor where one block more was read, while ids are left
pub one_costs : {I : Type 0} (g : Ghosts I) (first now next : Drafted I) (entry : ℤ) (block : List ℕ) (ids : List ℤ) (more : List ℕ)
    (count left link : ℕ)
    → ReadSoFar g first now entry block ids more count left link → 0 < left → AsksAtMost 192 (g.asked now.image) (g.asked next.image)
    → ListCosts first.bytes entry block (g.asked first.image) (g.asked next.image)
one_costs g first now next entry block ids more count left link s some asks =
    next_costs first.bytes entry block ids more left link (g.asked first.image) (g.asked now.image) (g.asked next.image) s.cost asks some
    s.rest
