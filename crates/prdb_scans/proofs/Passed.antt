-- Whether a pass found an entry that is looked for, and whether the registry has one.
use Rattle.std.proofs.Common.{◌≡◌, ℕ, ℤ, ◌<◌, Bool, true, false, List, [], length, Option, Some, None, IfSome, Result, Ok, Err, IfOk, refl, ap, subst, ◌∙◌, inl, inr, arith}
use Rattle.std.proofs.lemmas.Bool.{cases_Bool, false_from_ne_true}
use Rattle.db_image.specs.Draft.{Drafted}
use Rattle.db_image.specs.declared.faults.RecordFault.{RecordFault}
use Rattle.db_image.specs.declared.images.ImageRead.{Ghosts}
use Rattle.db_blocks.specs.Blocks.{block_in as any_block, block_place}
use Rattle.db_blocks.proofs.Scanned.{count_is}
use Rattle.prdb_layout.specs.Blocks.{block_count}
use Rattle.prdb_layout.specs.Records.{block_in, entry_in}
use Rattle.prdb_layout.specs.Registry.{Registry}
use Rattle.prdb_layout.specs.State.{PrEntry}
use Rattle.prdb_lists.specs.Members.{Members}
use Rattle.entry_scans.specs.Found.{TellsWhether}
use Rattle.entry_scans.specs.Sought.{is_sought}
use Rattle.entry_scans.proofs.Told.{sought_from, sought_parts}
use Rattle.prdb_finds.specs.Records.{Holds, whole}
use Rattle.prdb_finds.proofs.Lookups.{is_false, same_block}
use Rattle.prdb_finds.proofs.Told.{told_only, told_there}
use Rattle.prdb_scans.specs.Passes.{AreIds, HasSought}
use Rattle.prdb_scans.proofs.Ids.{Taking}

-- ---- the blocks

-- where the ids of all that meet the test are none, none meets it
none_there : (test : PrEntry → Bool) (image : List ℕ) (k : ℕ) → AreIds test [] image → k < block_count image
    → is_sought test (block_in image k) ≡ false
none_there test image k are below =
    let block = block_in image k in
    false_from_ne_true (is_sought test block)
    (λ met. let has = (are (entry_in block).id).1 (k, below, (met, refl)) in absurd (omega (arith, has.1)))

pub none_sought : (bytes : Option (List ℕ)) (test : PrEntry → Bool) → IfSome bytes (AreIds test []) → IfSome bytes (HasSought test false)
none_sought None test are = tt
none_sought (Some image) test are = λ k below. none_there test image k are below

some_so : (bytes now : Option (List ℕ)) (test : PrEntry → Bool) (count done : ℕ) (block : List ℕ) → now ≡ bytes
    → IfSome bytes (λ image. length image ≡ block_place 2112 count) → done < count
    → IfSome now (λ image. block ≡ any_block 2112 image done) → is_sought test block ≡ true → IfSome bytes (HasSought test true)
some_so None now test count done block stays told below is met = tt
some_so (Some image) now test count done block stays told below is met =
    let here : block ≡ any_block 2112 image done =
    subst (λ (o : Option (List ℕ)). IfSome o (λ i. block ≡ any_block 2112 i done)) stays is in
    let n = count_is 2112 image count told in
    (done, omega (arith, n, below), subst (λ (b : List ℕ). is_sought test b ≡ true) (here ∙ same_block image done) met)

pub some_sought : {I : Type 0} (g : Ghosts I) (first now : Drafted I) (test : PrEntry → Bool) (ids : List ℤ) (count done : ℕ)
    (block : List ℕ) → Taking g first now test ids count done → done < count
    → IfSome now.bytes (λ image. block ≡ any_block 2112 image done) → is_sought test block ≡ true
    → IfSome first.bytes (HasSought test true)
some_sought g first now test ids count done block t below is met =
    some_so first.bytes now.bytes test count done block t.frame.same.bytes t.told below is met

-- ---- the registry

tells : (image : List ℕ) (r : Registry) (m : Members) (test : PrEntry → Bool) (there : Bool) → Holds image r m
    → HasSought test there (whole image) → TellsWhether test r there
tells image r m test true holds is =
    let block = block_in (whole image) is.0 in
    let p = sought_parts test block is.2 in
    ((entry_in block).id, (entry_in block, told_there image r m is.0 holds is.1 p.0, p.1))
tells image r m test false holds is = λ id e at.
    let o = told_only image r m id e holds at in
    elim (cases_Bool (test e)) [
      | inl met ↦
          let block = block_in (whole image) o.0 in
          absurd (is_false (is_sought test block) (sought_from test block o.2 (ap test o.3 ∙ met)) (is o.0 o.1))
      | inr not ↦ not
    ]

pub ok_tells : (res : Result Bool RecordFault) (bytes : Option (List ℕ)) (test : PrEntry → Bool)
    → IfOk res (λ there. IfSome bytes (λ image. HasSought test there (whole image)))
    → IfOk res (λ there. IfSome bytes (λ image. (r : Registry) (m : Members) → Holds image r m → TellsWhether test r there))
ok_tells (Err fault) bytes test is = tt
ok_tells (Ok there) None test is = tt
ok_tells (Ok there) (Some image) test is = λ r m holds. tells image r m test there holds is
