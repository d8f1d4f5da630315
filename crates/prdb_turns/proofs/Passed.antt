-- How far a pass has come that takes the ids of the entries which meet a test, in the order of their blocks.
use Rattle.std.proofs.Common.{◌≡◌, ℕ, ℤ, ◌+◌, ◌*◌, ◌<◌, Bool, true, false, cond, List, [], ◌∷◌, ◌++◌, Option, Some, None, IfSome, length, add-one, refl, sym, ap, subst, ◌∙◌, arith}
use Rattle.std.proofs.lemmas.Bool.{leb-true}
use Rattle.std.proofs.lemmas.List.{append-nil}
use Rattle.db_image.specs.Asked.{AsksAtMost}
use Rattle.db_image.specs.Draft.{Drafted}
use Rattle.db_image.specs.declared.faults.RecordFault.TheVariants.{BadRecord}
use Rattle.db_image.specs.declared.images.ImageRead.{Ghosts}
use Rattle.db_image.proofs.ReadSteps.{asks_none, asks_then}
use Rattle.db_blocks.specs.Ascending.{AreGood}
use Rattle.db_blocks.specs.Blocks.{block_in as any_block, block_place, kind_of}
use Rattle.db_blocks.specs.Ends.{HasCause, OnlyLooks}
use Rattle.db_blocks.proofs.Scanned.{count_is, looks_none, looks_so, looks_then}
use Rattle.prdb_layout.specs.Records.{entry_in}
use Rattle.prdb_layout.specs.State.{PrEntry}
use Rattle.entry_scans.specs.Pages.{is_kind}
use Rattle.entry_scans.specs.Sought.{is_sought}
use Rattle.prdb_finds.proofs.Lookups.{same_block}
use Rattle.prdb_finds.proofs.Told.{empty_is}
use Rattle.prdb_turns.specs.Fronts.{id_if, ids_before, ids_by_block}

-- so many blocks were passed, and these ids taken
pub record Passing {I : Type 0} (g : Ghosts I) (first now : Drafted I) (test : PrEntry → Bool) (ids : List ℤ)
    (count done : ℕ) : Type 0 where
  pub frame : OnlyLooks g first now ⊥
  pub cost : AsksAtMost (192 * done) (g.asked first.image) (g.asked now.image)
  pub told : IfSome first.bytes (λ image. length image ≡ block_place 2112 count)
  pub are : IfSome first.bytes (λ image. ids ≡ ids_before test done image)

none_so : (bytes : Option (List ℕ)) (test : PrEntry → Bool) → IfSome bytes (λ image. [] ≡ ids_before test 0 image)
none_so None test = tt
none_so (Some image) test = refl

pub passing_none : {I : Type 0} (g : Ghosts I) (d : Drafted I) (test : PrEntry → Bool) (count : ℕ)
    → IfSome d.bytes (λ image. length image ≡ block_place 2112 count) → Passing g d d test [] count 0
passing_none g d test count told = record {
  frame = looks_none g d ⊥ (λ h. h);
  cost = asks_none 0 (g.asked d.image);
  told = told;
  are = none_so d.bytes test;
}

-- what one block more brings
abbrev pub IsNext : (test : PrEntry → Bool) → (block : List ℕ) → (ids after : List ℤ) → Bool → Type 0
IsNext test block ids after false = (is_sought test block ≡ false) × (after ≡ ids)
IsNext test block ids after true = (is_sought test block ≡ true) × (after ≡ ids ++ (entry_in block).id ∷ [])

next_is : (test : PrEntry → Bool) (block : List ℕ) (ids after : List ℤ) (b : Bool) → IsNext test block ids after b
    → after ≡ ids ++ id_if test block
next_is test block ids after false next =
    next.1 ∙ sym (append-nil ids) ∙ ap (λ (t : Bool). ids ++ cond t ((entry_in block).id ∷ []) []) (sym next.0)
next_is test block ids after true next =
    next.1 ∙ ap (λ (t : Bool). ids ++ cond t ((entry_in block).id ∷ []) []) (sym next.0)

next_so : (bytes now : Option (List ℕ)) (test : PrEntry → Bool) (done : ℕ) (ids after : List ℤ) (block : List ℕ) (b : Bool) → now ≡ bytes
    → IfSome now (λ image. block ≡ any_block 2112 image done) → IsNext test block ids after b
    → IfSome bytes (λ image. ids ≡ ids_before test done image) → IfSome bytes (λ image. after ≡ ids_before test (done + 1) image)
next_so None now test done ids after block b stays is next are = tt
next_so (Some image) now test done ids after block b stays is next are =
    let here : block ≡ any_block 2112 image done =
    subst (λ (o : Option (List ℕ)). IfSome o (λ i. block ≡ any_block 2112 i done)) stays is in
    rw add-one (next_is test block ids after b next ∙ ap (λ (l : List ℤ). l ++ id_if test block) are
    ∙ ap (λ (x : List ℕ). ids_before test done image ++ id_if test x) (here ∙ same_block image done))

pub passing_next : {I : Type 0} (g : Ghosts I) (first now next : Drafted I) (test : PrEntry → Bool) (ids after : List ℤ) (count done : ℕ)
    (block : List ℕ) (b : Bool) (failed : Type 0)
    → Passing g first now test ids count done → OnlyLooks g now next failed → AsksAtMost 192 (g.asked now.image) (g.asked next.image)
    → IfSome now.bytes (λ image. block ≡ any_block 2112 image done) → IsNext test block ids after b
    → Passing g first next test after count (done + 1)
passing_next g first now next test ids after count done block b failed t looks cost is taken = record {
  frame = looks_then g first now next ⊥ ⊥ t.frame (looks_so g now next failed ⊥ looks (λ h. absurd h));
  cost = asks_then (192 * done) 192 (192 * (done + 1)) (g.asked first.image) (g.asked now.image) (g.asked next.image) t.cost cost
      (omega arith);
  told = t.told;
  are = next_so first.bytes now.bytes test done ids after block b t.frame.same.bytes is taken t.are;
}

-- a block of no kind stands in no image that is good
bad_so : (bytes now : Option (List ℕ)) (count done at : ℕ) (block : List ℕ) → now ≡ bytes
    → IfSome bytes (λ image. length image ≡ block_place 2112 count) → done < count
    → IfSome now (λ image. block ≡ any_block 2112 image done) → 2 < kind_of block → HasCause bytes (AreGood 2112 is_kind) (BadRecord at)
bad_so None now count done at block stays told below is high = tt
bad_so (Some image) now count done at block stays told below is high = λ good.
    let here : block ≡ any_block 2112 image done =
    subst (λ (o : Option (List ℕ)). IfSome o (λ i. block ≡ any_block 2112 i done)) stays is in
    let n = count_is 2112 image count told in
    let small = leb-true (kind_of block) 2 (ap is_kind here ∙ good.each done (omega arith)) in
    omega (arith, small, high)

pub passing_bad : {I : Type 0} (g : Ghosts I) (first now : Drafted I) (test : PrEntry → Bool) (ids : List ℤ) (count done at : ℕ)
    (block : List ℕ)
    → Passing g first now test ids count done → done < count → IfSome now.bytes (λ image. block ≡ any_block 2112 image done)
    → 2 < kind_of block → HasCause first.bytes (AreGood 2112 is_kind) (BadRecord at)
passing_bad g first now test ids count done at block t below is high =
    bad_so first.bytes now.bytes count done at block t.frame.same.bytes t.told below is high

all_so : (bytes : Option (List ℕ)) (test : PrEntry → Bool) (ids : List ℤ) (count : ℕ)
    → IfSome bytes (λ image. length image ≡ block_place 2112 count) → IfSome bytes (λ image. ids ≡ ids_before test count image)
    → IfSome bytes (λ image. ids ≡ ids_by_block test image)
all_so None test ids count told are = tt
all_so (Some image) test ids count told are = are ∙ ap (λ (n : ℕ). ids_before test n image) (sym (count_is 2112 image count told))

pub passing_all : {I : Type 0} (g : Ghosts I) (first now : Drafted I) (test : PrEntry → Bool) (ids : List ℤ) (count done : ℕ)
    → done ≡ count → Passing g first now test ids count done → IfSome first.bytes (λ image. ids ≡ ids_by_block test image)
passing_all g first now test ids count done last t =
    all_so first.bytes test ids count t.told (subst (λ (n : ℕ). IfSome first.bytes (λ image. ids ≡ ids_before test n image)) last t.are)

-- the empty image has no block
pub empty_none : (bytes : Option (List ℕ)) (len : ℕ) (test : PrEntry → Bool) (ids : List ℤ) → IfSome bytes (λ image. length image ≡ len)
    → len ≡ 0 → ids ≡ [] → IfSome bytes (λ image. ids ≡ ids_by_block test image)
empty_none None len test ids told none is = tt
empty_none (Some image) len test ids told none is =
    is ∙ ap (λ (i : List ℕ). ids_by_block test i) (sym (empty_is image (told ∙ none)))
