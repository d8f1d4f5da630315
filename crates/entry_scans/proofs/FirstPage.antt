-- The blocks that one pass gives are those of the first entries.
use Rattle.std.proofs.Common.{◌≡◌, ℕ, ℤ, pos, negsuc, zero, suc, ◌+◌, ◌<◌, ◌≤◌, ◌+ℤ◌, Bool, true, List, [], ◌∷◌, Option, Some, None, IfSome, Result, Ok, Err, IfOk, map, take, refl, sym, ap, subst, ◌∙◌, inl, arith}
use Rattle.std.specs.Prelude.{◌≤ℤ◌}
use Rattle.std.proofs.lemmas.Bool.{false_from_ne_true}
use Rattle.db_image.specs.declared.faults.RecordFault.{RecordFault}
use Rattle.db_blocks.specs.Ascending.{first_blocks, numbers_met}
use Rattle.db_blocks.specs.Blocks.{kind_of}
use Rattle.db_blocks.proofs.Order.{AreApart, IsOrder, order_behind, order_least, order_of}
use Rattle.prdb_layout.specs.Blocks.{block_count}
use Rattle.prdb_layout.specs.Records.{Holds, IsLaidOut, block_in, entry_in, whole}
use Rattle.prdb_layout.specs.Registry.{Registry, IsRegistry}
use Rattle.prdb_layout.specs.State.{PrEntry, IsId}
use Rattle.entry_scans.specs.Pages.{AreFirst, rank_in}
use Rattle.entry_scans.specs.Sought.{is_sought}
use Rattle.entry_scans.proofs.Ranks.{id_low, low_next, rank_back, rank_next, rank_same, rank_up}
use Rattle.entry_scans.proofs.Told.{sought_from, sought_parts}

-- ---- blocks

-- the scan's test and key of a block, and the id in it
abbrev test_of : (PrEntry → Bool) → List ℕ → ℕ → Bool
test_of test image k = is_sought test (block_in image k)

abbrev key_of : List ℕ → ℕ → ℕ
key_of image k = rank_in (block_in image k)

abbrev id_of : List ℕ → ℕ → ℤ
id_of image k = (entry_in (block_in image k)).id

-- a block of an entry that meets the test
record IsMet (test : PrEntry → Bool) (r : Registry) (block : List ℕ) : Type 0 where
  kind : kind_of block ≡ 1
  there : r.entry (entry_in block).id ≡ Some (entry_in block)
  met : test (entry_in block) ≡ true
  id : IsId (entry_in block).id

met_at : (test : PrEntry → Bool) (r : Registry) (image : List ℕ) (k : ℕ) → IsRegistry r → IsLaidOut image r → k < block_count image
    → test_of test image k ≡ true → IsMet test r (block_in image k)
met_at test r image k valid laid below is =
    let block = block_in image k in
    let p = sought_parts test block is in
    let at = laid.there k below p.0 in
    record { kind = p.0; there = at; met = p.1; id = (valid.records (entry_in block).id (entry_in block) at).fields.id }

-- an entry that meets the test has one
record IsAt (test : PrEntry → Bool) (image : List ℕ) (id : ℤ) (k : ℕ) : Type 0 where
  below : k < block_count image
  met : test_of test image k ≡ true
  own : id_of image k ≡ id

found_at : (test : PrEntry → Bool) (r : Registry) (image : List ℕ) (id : ℤ) (f : PrEntry) → IsRegistry r → IsLaidOut image r
    → r.entry id ≡ Some f → test f ≡ true → (k : ℕ) × IsAt test image id k
found_at test r image id f valid laid at met =
    let o = laid.only id f at in (
      o.0,
      record {
        below = o.1;
        met = sought_from test (block_in image o.0) o.2 (ap test o.3 ∙ met);
        own = ap (λ (e : PrEntry). e.id) o.3 ∙ valid.ids id f at;
      },
    )

apart_keys : (test : PrEntry → Bool) (r : Registry) (image : List ℕ) → IsRegistry r → IsLaidOut image r
    → AreApart (test_of test image) (key_of image) (block_count image)
apart_keys test r image valid laid = λ j k below_j below_k met_j met_k same.
    let a = met_at test r image j valid laid below_j met_j in
    let b = met_at test r image k valid laid below_k met_k in
    laid.one j k below_j below_k a.kind b.kind
    (rank_same (entry_in (block_in image j)).id (entry_in (block_in image k)).id a.id b.id same)

-- ---- one entry after the other

-- an id from which on entries are listed, and its rank
record IsFrom (test : PrEntry → Bool) (image : List ℕ) (low : ℕ) (from : ℤ) : Type 0 where
  up : (k : ℕ) → k < block_count image → test_of test image k ≡ true → from ≤ℤ id_of image k → low ≤ key_of image k
  down : (k : ℕ) → k < block_count image → test_of test image k ≡ true → low ≤ key_of image k → from ≤ℤ id_of image k

from_least : (test : PrEntry → Bool) (r : Registry) (image : List ℕ) → IsRegistry r → IsLaidOut image r
    → IsFrom test image 0 (negsuc 2147483646)
from_least test r image valid laid = record {
  up = λ k below met from. omega arith;
  down = λ k below met least. let m = met_at test r image k valid laid below met in id_low (id_of image k) m.id;
}

from_next : (test : PrEntry → Bool) (image : List ℕ) (k : ℕ) → IsId (id_of image k)
    → IsFrom test image (key_of image k + 1) (id_of image k +ℤ pos 1)
from_next test image k id = record {
  up = λ j below met from.
      omega (arith, rank_next (id_of image k) id, rank_up (id_of image k +ℤ pos 1) (id_of image j) from);
  down = λ j below met least.
      rank_back (id_of image k +ℤ pos 1) (id_of image j) (low_next (id_of image k) (id_low (id_of image k) id))
      (omega (arith, rank_next (id_of image k) id, least));
}

at_most : (a b c : ℤ) → a ≤ℤ b → c ≡ b → a ≤ℤ c
at_most a b c most same = subst (λ (z : ℤ). a ≤ℤ z) (sym same) most

firsts : (test : PrEntry → Bool) (r : Registry) (image : List ℕ) → IsRegistry r → IsLaidOut image r → (n low : ℕ) (from : ℤ) (ks : List ℕ)
    → IsOrder (test_of test image) (key_of image) (block_count image) low ks → IsFrom test image low from
    → AreFirst test r from n (map entry_in (map (block_in image) (take n ks)))
firsts test r image valid laid zero low from ks o start = refl
firsts test r image valid laid (suc n) low from [] o start = λ id e above at.
    false_from_ne_true (test e) (λ met.
    let f = found_at test r image id e valid laid at met in
    o.all f.0 f.1.below f.1.met (start.up f.0 f.1.below f.1.met (at_most from id (id_of image f.0) above f.1.own)))
firsts test r image valid laid (suc n) low from (k ∷ ks) o start =
    let here = o.each k (inl refl) in
    let m = met_at test r image k valid laid here.0 here.1 in (
      record {
        there = m.there;
        above = start.down k here.0 here.1 o.rises.0;
        met = m.met;
        least = λ id f above at met.
            let j = found_at test r image id f valid laid at met in
            let far = start.up j.0 j.1.below j.1.met (at_most from id (id_of image j.0) above j.1.own) in
            subst (λ (z : ℤ). id_of image k ≤ℤ z) j.1.own
            (rank_back (id_of image k) (id_of image j.0) (id_low (id_of image k) m.id)
            (order_least (test_of test image) (key_of image) (block_count image) low k j.0 ks o j.1.below j.1.met far));
      },
      firsts test r image valid laid n (key_of image k + 1) (id_of image k +ℤ pos 1) ks
          (order_behind (test_of test image) (key_of image) (block_count image) low k ks o) (from_next test image k m.id),
    )

-- ---- of what the bytes hold

order_at : (test : PrEntry → Bool) (r : Registry) (image : List ℕ) → IsRegistry r → IsLaidOut image r
    → IsOrder (test_of test image) (key_of image) (block_count image) 0 (numbers_met 2112 (is_sought test) rank_in image)
order_at test r image valid laid =
    order_of (test_of test image) (key_of image) (block_count image) (apart_keys test r image valid laid)

page_found : (bytes : Option (List ℕ)) (test : PrEntry → Bool) (most : ℕ) (blocks : List (List ℕ))
    → IfSome bytes (λ image. blocks ≡ first_blocks 2112 (is_sought test) rank_in most (whole image))
    → IfSome bytes (λ image. (r : Registry) → Holds image r → AreFirst test r (negsuc 2147483646) most (map entry_in blocks))
page_found None test most blocks is = tt
page_found (Some image) test most blocks is = λ r holds.
    subst (λ (bs : List (List ℕ)). AreFirst test r (negsuc 2147483646) most (map entry_in bs)) (sym is)
    (firsts test r (whole image) holds.valid holds.laid most 0 (negsuc 2147483646) (numbers_met 2112 (is_sought test) rank_in (whole image))
    (order_at test r (whole image) holds.valid holds.laid) (from_least test r (whole image) holds.valid holds.laid))

pub ok_found : {X : Type 0} (res : Result X RecordFault) (items : X → List (List ℕ)) (bytes : Option (List ℕ))
    (test : PrEntry → Bool) (most : ℕ)
    → IfOk res (λ x. IfSome bytes (λ image. items x ≡ first_blocks 2112 (is_sought test) rank_in most (whole image)))
    → IfOk res (λ x. IfSome bytes (λ image. (r : Registry) → Holds image r
    → AreFirst test r (negsuc 2147483646) most (map entry_in (items x))))
ok_found (Err fault) items bytes test most is = tt
ok_found (Ok x) items bytes test most is = page_found bytes test most (items x) is
