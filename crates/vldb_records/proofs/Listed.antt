-- What a scan for listed entries found is what the database has.
use Rattle.std.proofs.Common.{◌≡◌, ℕ, zero, suc, ◌+◌, ◌^◌, ◌<◌, ◌≤◌, Bool, true, eqb, ltb, List, [], ◌∷◌, Option, Some, None, IfSome, Result, Ok, Err, IfErr, length, map, take, refl, sym, ap, subst, ◌∙◌, inl, arith}
use Rattle.std.specs.List.{AllByRecursion}
use Rattle.std.proofs.lemmas.Bool.{and_from, and_parts, eqb-true, false_from_ne_true, lt-ltb, ltb-true}
use Rattle.db_blocks.specs.Ascending.{AreGood, ascending, first_blocks, numbers_met}
use Rattle.db_image.specs.declared.faults.RecordFault.{RecordFault}
use Rattle.db_image.specs.declared.faults.RecordFault.TheVariants.{DiskFault, BadRecord, NoMemory}
use Rattle.db_blocks.specs.Blocks.{IsWhole, kind_of}
use Rattle.db_blocks.specs.Ends.{HasCause}
use Rattle.db_blocks.proofs.Order.{AreApart, IsOrder, order_behind, order_least, order_of}
use Rattle.vldb_entries.specs.declared.entries.VlEntry.{VlEntry}
use Rattle.vldb_records.specs.declared.listings.Listing.{Listing}
use Rattle.vldb_records.specs.Listing.{AreListed, IsNextListed, is_listed, is_listed_above, is_listed_in, rw_in}
use Rattle.vldb_entries.specs.Location.{Location, IsSmall, first_location}
use Rattle.vldb_entries.specs.Forms.{block_at, block_of, blocks_in, entry_in, whole}
use Rattle.vldb_records.specs.Records.{Holds, unlinked}
use Rattle.vldb_entries.proofs.EntryAgain.{entry_again, entry_small, kind_again, rw_again}
use Rattle.vldb_entries.proofs.HeadRead.{length-head, whole_empty}
use Rattle.vldb_records.proofs.Fields.{block_len, entry_stays, number_stays}
use Rattle.vldb_records.proofs.Lookups.{block_entry}

-- a block is listed as it is without its words of chains
listed_stays : (l : Listing) (after : ℕ) (addresses block : List ℕ) → length block ≡ 192
    → is_listed_in l after addresses block ≡ is_listed_in l after addresses (unlinked block)
listed_stays l after addresses block size =
    rw (number_stays block 0 size (omega arith), entry_stays addresses block size) refl

-- an entry's block is listed as the entry is
listed_again : (s : Location) (l : Listing) (after rw_id k : ℕ) (e : VlEntry) (image : List ℕ) → Holds image s → s.entry rw_id ≡ Some e
    → k < blocks_in (whole image) → unlinked (block_at (whole image) k) ≡ block_of s.addresses e
    → is_listed_in l after s.addresses (block_at (whole image) k) ≡ is_listed_above l after e
listed_again s l after rw_id k e image holds at below is =
    listed_stays l after s.addresses (block_at (whole image) k) (block_len (whole image) k holds.laid.size below)
    ∙ ap (is_listed_in l after s.addresses) is
    ∙ rw (kind_again s.addresses e, entry_again s.addresses e (holds.valid.records rw_id e at) (holds.valid.hosts rw_id e at)) refl

-- the read-write id in an entry's block
rw_there : (s : Location) (k : ℕ) (e : VlEntry) (image : List ℕ) → Holds image s → e.rw < 2 ^ 32
    → k < blocks_in (whole image) → unlinked (block_at (whole image) k) ≡ block_of s.addresses e
    → rw_in (block_at (whole image) k) ≡ e.rw
rw_there s k e image holds low below is =
    number_stays (block_at (whole image) k) 8 (block_len (whole image) k holds.laid.size below) (omega arith)
    ∙ ap rw_in is ∙ rw_again s.addresses e low

-- the scan's test and key of a block
abbrev test_of : Location → Listing → (after : ℕ) → List ℕ → ℕ → Bool
test_of s l after image k = is_listed_in l after s.addresses (block_at (whole image) k)

abbrev key_of : List ℕ → ℕ → ℕ
key_of image k = rw_in (block_at (whole image) k)

-- the block of a listed entry
record IsAt (s : Location) (l : Listing) (after : ℕ) (image : List ℕ) (rw_id k : ℕ) : Type 0 where
  below : k < blocks_in (whole image)
  meets : test_of s l after image k ≡ true
  key : key_of image k ≡ rw_id

block_found : (image : List ℕ) (s : Location) (l : Listing) (after rw_id : ℕ) (f : VlEntry) → Holds image s → s.entry rw_id ≡ Some f
    → after < rw_id
    → is_listed l f ≡ true → (k : ℕ) × IsAt s l after image rw_id k
block_found image s l after rw_id f holds at more listed =
    let o = holds.laid.only rw_id f at in
    let valid = holds.valid.records rw_id f at in
    let own = holds.valid.ids rw_id f at in (
      o.0,
      record {
        below = o.1;
        meets = listed_again s l after rw_id o.0 f image holds at o.1 o.2.1
            ∙ and_from (ltb after f.rw) (is_listed l f) (lt-ltb after f.rw (omega (arith, own, more))) listed;
        key = rw_there s o.0 f image holds (omega (arith, valid.rw)) o.1 o.2.1 ∙ own;
      },
    )

-- the entry that is read of a block is the database's
record IsRead (s : Location) (l : Listing) (after : ℕ) (image : List ℕ) (k : ℕ) (e : VlEntry) : Type 0 where
  there : s.entry e.rw ≡ Some e
  block : unlinked (block_at (whole image) k) ≡ block_of s.addresses e
  key : key_of image k ≡ e.rw
  above : after < e.rw
  listed : is_listed l e ≡ true

read_at : (image : List ℕ) (s : Location) (l : Listing) (after k : ℕ) → Holds image s → k < blocks_in (whole image)
    → test_of s l after image k ≡ true
    → IsRead s l after image k (entry_in s.addresses (block_at (whole image) k))
read_at image s l after k holds below met =
    let block = block_at (whole image) k in
    let kind = eqb-true (kind_of block) 1 (and_parts (eqb (kind_of block) 1) (is_listed_above l after
    (entry_in s.addresses block)) met).0 in
    let o = block_entry (whole image) s k holds.laid below kind in
    let valid = holds.valid.records o.0.rw o.0 o.1.0 in
    let size = block_len (whole image) k holds.laid.size below in
    let same : entry_in s.addresses block ≡ o.0 =
    entry_stays s.addresses block size ∙ ap (entry_in s.addresses) o.1.1
    ∙ entry_again s.addresses o.0 valid (holds.valid.hosts o.0.rw o.0 o.1.0) in
    let is = sym (listed_again s l after o.0.rw k o.0 image holds o.1.0 below o.1.1) ∙ met in
    let parts = and_parts (ltb after o.0.rw) (is_listed l o.0) is in
    subst (λ (x : VlEntry). IsRead s l after image k x) (sym same) (record {
      there = o.1.0;
      block = o.1.1;
      key = rw_there s k o.0 image holds (omega (arith, valid.rw)) below o.1.1;
      above = ltb-true after o.0.rw parts.0;
      listed = parts.1;
    })

-- no two such blocks have one id
apart_keys : (image : List ℕ) (s : Location) (l : Listing) (after : ℕ) → Holds image s
    → AreApart (test_of s l after image) (key_of image) (blocks_in (whole image))
apart_keys image s l after holds = λ j k below_j below_k met_j met_k same.
    let addresses = s.addresses in
    let one = entry_in addresses (block_at (whole image) j) in
    let two = entry_in addresses (block_at (whole image) k) in
    let a = read_at image s l after j holds below_j met_j in
    let b = read_at image s l after k holds below_k met_k in
    let ids : one.rw ≡ two.rw = sym a.key ∙ same ∙ b.key in
    let some : Some one ≡ Some two = sym a.there ∙ ap s.entry ids ∙ b.there in
    let entries : one ≡ two = cc in
    holds.laid.one j k one below_j below_k (a.there, a.block) (a.there, b.block ∙ ap (block_of addresses) (sym entries))

-- the numbers behind one that was listed
record IsBehind (s : Location) (l : Listing) (image : List ℕ) (first low after : ℕ) : Type 0 where
  less : first ≤ after
  up : (k : ℕ) → k < blocks_in (whole image) → test_of s l first image k ≡ true → after < key_of image k → low ≤ key_of image k

next_of : (image : List ℕ) (s : Location) (l : Listing) (first low after k : ℕ) (ks : List ℕ) → Holds image s
    → IsOrder (test_of s l first image) (key_of image) (blocks_in (whole image)) low (k ∷ ks) → IsBehind s l image first low after
    → after < key_of image k → IsNextListed s l after (Some (entry_in s.addresses (block_at (whole image) k)))
next_of image s l first low after k ks holds o behind more =
    let here = o.each k (inl refl) in
    let r = read_at image s l first k holds here.0 here.1 in (
      r.there,
      omega (arith, more, r.key),
      r.listed,
      λ rw_id f above at listed.
          let a = block_found image s l first rw_id f holds at (omega (arith, above, behind.less)) listed in
          let far = behind.up a.0 a.1.below a.1.meets (omega (arith, above, a.1.key)) in
          omega (
            arith,
            order_least (test_of s l first image) (key_of image) (blocks_in
                (whole image)) low k a.0 ks o a.1.below a.1.meets far,
            r.key,
            a.1.key,
          ),
    )

listed_from : (image : List ℕ) (s : Location) (l : Listing) (first : ℕ) (n low after : ℕ) (ks : List ℕ) → Holds image s
    → IsOrder (test_of s l first image) (key_of image) (blocks_in (whole image)) low ks → IsBehind s l image first low after
    → ((k : ℕ) → k < blocks_in (whole image) → test_of s l first image k ≡ true → low ≤ key_of image k → after < key_of image k)
    → AreListed s l after n (map (entry_in s.addresses) (map (block_at (whole image)) (take n ks)))
listed_from image s l first zero low after ks holds o behind more = refl
listed_from image s l first (suc n) low after [] holds o behind more = λ rw_id e above at.
    false_from_ne_true (is_listed l e) (λ listed.
    let a = block_found image s l first rw_id e holds at (omega (arith, above, behind.less)) listed in
    o.all a.0 a.1.below a.1.meets (behind.up a.0 a.1.below a.1.meets (omega (arith, above, a.1.key))))
listed_from image s l first (suc n) low after (k ∷ ks) holds o behind more =
    let here = o.each k (inl refl) in
    let r = read_at image s l first k holds here.0 here.1 in
    let next = (entry_in s.addresses (block_at (whole image) k)).rw in (
      next_of image s l first low after k ks holds o behind (more k here.0 here.1 o.rises.0),
      listed_from image s l first n (key_of image k + 1) next ks holds
          (order_behind (test_of s l first image) (key_of image) (blocks_in (whole image)) low k ks o)
          (record { less = omega (arith, r.above); up = λ j below met above. omega (arith, above, r.key) })
          (λ j below met above. omega (arith, above, r.key)),
    )

listed_at : (image addresses : List ℕ) (s : Location) (l : Listing) (after most : ℕ) (blocks : List (List ℕ)) → Holds image s
    → addresses ≡ s.addresses
    → blocks ≡ first_blocks 3132 (is_listed_in l after addresses) rw_in most (whole image)
    → AreListed s l after most (map (entry_in addresses) blocks)
listed_at image addresses s l after most blocks holds places is =
    subst (λ (bs : List (List ℕ)). AreListed s l after most (map (entry_in addresses) bs)) (sym is)
    (subst (λ (a : List ℕ). AreListed s l after most (map (entry_in a) (first_blocks 3132 (is_listed_in l after a) rw_in most
    (whole image)))) (sym places)
    (listed_from image s l after most 0 after (numbers_met 3132 (is_listed_in l after s.addresses) rw_in (whole image)) holds
    (order_of (test_of s l after image) (key_of image) (blocks_in (whole image)) (apart_keys image s l after holds))
    (record { less = omega arith; up = λ k below met above. omega arith })
    (λ k below met above. let r = read_at image s l after k holds below met in omega (arith, r.above, r.key))))

pub are_listed : (bytes : Option (List ℕ)) (addresses : List ℕ) (l : Listing) (after most : ℕ) (blocks : List (List ℕ)) (es : List VlEntry)
    → IfSome bytes (λ image. blocks ≡ first_blocks 3132 (is_listed_in l after addresses) rw_in most (whole image))
    → IfSome bytes (λ image. (s : Location) → Holds image s → addresses ≡ s.addresses) → es ≡ map (entry_in addresses) blocks
    → IfSome bytes (λ image. (s : Location) → Holds image s → AreListed s l after most es)
are_listed None addresses l after most blocks es is places read = tt
are_listed (Some image) addresses l after most blocks es is places read = λ s holds.
    subst (AreListed s l after most) (sym read) (listed_at image addresses s l after most blocks holds (places s holds) is)

all_small : (addresses : List ℕ) (blocks : List (List ℕ)) → AllByRecursion IsSmall (map (entry_in addresses) blocks)
all_small addresses [] = tt
all_small addresses (b ∷ blocks) = (entry_small addresses b (entry_in addresses b) refl, all_small addresses blocks)

pub are_small : (addresses : List ℕ) (blocks : List (List ℕ)) (es : List VlEntry) → es ≡ map (entry_in addresses) blocks
    → AllByRecursion IsSmall es
are_small addresses blocks es read = subst (AllByRecursion IsSmall) (sym read) (all_small addresses blocks)

-- the empty image has no block
none_first : (n : ℕ) → [] ≡ take {A = ℕ} n []
none_first zero = refl
none_first (suc n) = refl

pub empty_blocks : (bytes : Option (List ℕ)) (len most : ℕ) (test : List ℕ → Bool) (key : List ℕ → ℕ) (blocks : List (List ℕ)) → blocks ≡ []
    → IfSome bytes (λ image. length image ≡ len) → len ≡ 0 → IfSome bytes (λ image. blocks ≡ first_blocks 3132 test key most (whole image))
empty_blocks None len most test key blocks is told none = tt
empty_blocks (Some image) len most test key blocks is told none =
    let count : blocks_in (whole image) ≡ 0 = ap blocks_in (whole_empty image (told ∙ none))
    ∙ omega (arith, length-head first_location 0 refl) in
    is ∙ ap (map (block_at (whole image))) (none_first most)
    ∙ ap (λ (n : ℕ). map (block_at (whole image)) (take most (ascending (λ k. test (block_at (whole image) k)) (λ k. key (block_at
    (whole image) k)) n))) (sym count)

-- any block may stand in an image
whole_fault : (bytes : Option (List ℕ)) (fault : RecordFault) → HasCause bytes (AreGood 3132 (λ block. true)) fault
    → HasCause bytes (IsWhole 3132) fault
whole_fault bytes DiskFault cause = tt
whole_fault None (BadRecord at) cause = tt
whole_fault (Some image) (BadRecord at) cause = λ whole. cause (record { whole = whole; each = λ k below. refl })
whole_fault bytes NoMemory cause = tt

pub err_listed : {X : Type 0} (r : Result X RecordFault) (bytes : Option (List ℕ))
    → IfErr r (HasCause bytes (AreGood 3132 (λ block. true))) → IfErr r (HasCause bytes (IsWhole 3132))
err_listed (Ok x) bytes cause = tt
err_listed (Err fault) bytes cause = whole_fault bytes fault cause
