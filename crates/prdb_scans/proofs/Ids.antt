-- How far a pass has come that takes the ids of the entries which meet a test, and which of the registry's they are.
use Rattle.std.proofs.Common.{◌≡◌, ℕ, ℤ, ◌+◌, ◌*◌, ◌<◌, Bool, true, false, List, [], ◌∷◌, ◌++◌, Option, Some, None, IfSome, Result, Ok, Err, IfOk, length, sym, ap, subst, ◌∙◌, ⊎_elim, arith}
use Rattle.std.specs.Prelude.{◌↔◌}
use Rattle.std.specs.List.{Contains}
use Rattle.std.proofs.lemmas.Bool.{cases_eq}
use Rattle.std.proofs.lemmas.List.Elements.{Contains-append_left, Contains-push, Contains-push_cases}
use Rattle.db_image.specs.Asked.{AsksAtMost}
use Rattle.db_image.specs.Draft.{Drafted}
use Rattle.db_image.specs.declared.faults.RecordFault.{RecordFault}
use Rattle.db_image.specs.declared.faults.RecordFault.TheVariants.{DiskFault, BadRecord, NoMemory}
use Rattle.db_image.specs.declared.images.ImageRead.{Ghosts}
use Rattle.db_image.proofs.ReadSteps.{asks_none, asks_then}
use Rattle.db_blocks.specs.Ascending.{AreGood}
use Rattle.db_blocks.specs.Blocks.{block_in as any_block, block_place}
use Rattle.db_blocks.specs.Ends.{HasCause, OnlyLooks}
use Rattle.db_blocks.proofs.Scanned.{count_is, looks_none, looks_so, looks_then}
use Rattle.prdb_layout.specs.Records.{block_in, entry_in}
use Rattle.prdb_layout.specs.Registry.{Registry}
use Rattle.prdb_layout.specs.State.{PrEntry}
use Rattle.prdb_lists.specs.Members.{Members}
use Rattle.entry_scans.specs.Found.{IsMetAt}
use Rattle.entry_scans.specs.Lists.{IsAscending, IsListOf}
use Rattle.entry_scans.specs.Pages.{is_kind}
use Rattle.entry_scans.specs.Sought.{is_sought}
use Rattle.entry_scans.proofs.Told.{sought_from, sought_parts}
use Rattle.prdb_finds.specs.Records.{Holds, whole}
use Rattle.prdb_finds.proofs.Lookups.{is_false, same_block}
use Rattle.prdb_finds.proofs.Told.{told_only, told_there}
use Rattle.prdb_scans.specs.Passes.{AreIds, AreIdsOf}

-- ---- the ids of so many blocks

none : (test : PrEntry → Bool) (image : List ℕ) → AreIdsOf test 0 [] image
none test image = λ id. (λ has. absurd (omega (arith, has.1)), λ is. absurd (omega (arith, is.1)))

past : (test : PrEntry → Bool) (image : List ℕ) (n : ℕ) (ids : List ℤ) → is_sought test (block_in image n) ≡ false
    → AreIdsOf test n ids image → AreIdsOf test (n + 1) ids image
past test image n ids fails are = λ id. (
  λ has. let o = (are id).0 has in (o.0, omega (arith, o.1), o.2),
  λ is.
      ⊎_elim
      (λ (same : is.0 ≡ n).
      absurd (is_false (is_sought test (block_in image n)) (subst (λ (j : ℕ). is_sought test (block_in image j) ≡ true) same is.2.0) fails))
      (λ (other : is.0 ≡ n → ⊥). let below = is.1 in (are id).1 (is.0, omega arith, is.2))
      (cases_eq is.0 n),
)

met : (test : PrEntry → Bool) (image : List ℕ) (n : ℕ) (ids : List ℤ) → is_sought test (block_in image n) ≡ true
    → AreIdsOf test n ids image → AreIdsOf test (n + 1) (ids ++ (entry_in (block_in image n)).id ∷ []) image
met test image n ids sought are = λ id.
    let last = (entry_in (block_in image n)).id in (
      λ has.
          ⊎_elim
          (λ (before : Contains ids id). let o = (are id).0 before in (o.0, omega (arith, o.1), o.2))
          (λ (is : last ≡ id). (n, omega arith, (sought, is)))
          (Contains-push_cases ids last id has),
      λ is.
          ⊎_elim
          (λ (same : is.0 ≡ n).
          let here : last ≡ id = ap (λ (j : ℕ). (entry_in (block_in image j)).id) (sym same) ∙ is.2.1 in
          subst (Contains (ids ++ last ∷ [])) here (Contains-push ids last))
          (λ (other : is.0 ≡ n → ⊥). let below = is.1 in
          Contains-append_left ids (last ∷ []) id ((are id).1 (is.0, omega arith, is.2)))
          (cases_eq is.0 n),
    )

-- ---- over a draft

-- so many blocks were passed, and these ids taken
pub record Taking {I : Type 0} (g : Ghosts I) (first now : Drafted I) (test : PrEntry → Bool) (ids : List ℤ) (count done : ℕ) : Type 0 where
  pub frame : OnlyLooks g first now ⊥
  pub cost : AsksAtMost (192 * done) (g.asked first.image) (g.asked now.image)
  pub told : IfSome first.bytes (λ image. length image ≡ block_place 2112 count)
  pub are : IfSome first.bytes (AreIdsOf test done ids)

none_so : (bytes : Option (List ℕ)) (test : PrEntry → Bool) → IfSome bytes (AreIdsOf test 0 [])
none_so None test = tt
none_so (Some image) test = none test image

pub taking_none : {I : Type 0} (g : Ghosts I) (d : Drafted I) (test : PrEntry → Bool) (count : ℕ)
    → IfSome d.bytes (λ image. length image ≡ block_place 2112 count) → Taking g d d test [] count 0
taking_none g d test count told = record {
  frame = looks_none g d ⊥ (λ h. h);
  cost = asks_none 0 (g.asked d.image);
  told = told;
  are = none_so d.bytes test;
}

-- what one block more brings
abbrev pub IsNext : (test : PrEntry → Bool) → (block : List ℕ) → (ids after : List ℤ) → Bool → Type 0
IsNext test block ids after false = (is_sought test block ≡ false) × (after ≡ ids)
IsNext test block ids after true = (is_sought test block ≡ true) × (after ≡ ids ++ (entry_in block).id ∷ [])

next_so : (bytes now : Option (List ℕ)) (test : PrEntry → Bool) (done : ℕ) (ids after : List ℤ) (block : List ℕ) (b : Bool) → now ≡ bytes
    → IfSome now (λ image. block ≡ any_block 2112 image done) → IsNext test block ids after b → IfSome bytes (AreIdsOf test done ids)
    → IfSome bytes (AreIdsOf test (done + 1) after)
next_so None now test done ids after block b stays is next are = tt
next_so (Some image) now test done ids after block false stays is next are =
    let here : block ≡ any_block 2112 image done =
    subst (λ (o : Option (List ℕ)). IfSome o (λ i. block ≡ any_block 2112 i done)) stays is in
    subst (λ (xs : List ℤ). AreIdsOf test (done + 1) xs image) (sym next.1)
    (past test image done ids (sym (ap (is_sought test) (here ∙ same_block image done)) ∙ next.0) are)
next_so (Some image) now test done ids after block true stays is next are =
    let here : block ≡ any_block 2112 image done =
    subst (λ (o : Option (List ℕ)). IfSome o (λ i. block ≡ any_block 2112 i done)) stays is in
    let at = here ∙ same_block image done in
    subst (λ (xs : List ℤ). AreIdsOf test (done + 1) xs image) (sym (next.1 ∙ ap (λ (x : List ℕ). ids ++ (entry_in x).id ∷ []) at))
    (met test image done ids (sym (ap (is_sought test) at) ∙ next.0) are)

pub taking_next : {I : Type 0} (g : Ghosts I) (first now next : Drafted I) (test : PrEntry → Bool) (ids after : List ℤ) (count done : ℕ)
    (block : List ℕ) (b : Bool) (failed : Type 0)
    → Taking g first now test ids count done → OnlyLooks g now next failed → AsksAtMost 192 (g.asked now.image) (g.asked next.image)
    → IfSome now.bytes (λ image. block ≡ any_block 2112 image done) → IsNext test block ids after b
    → Taking g first next test after count (done + 1)
taking_next g first now next test ids after count done block b failed t looks cost is taken = record {
  frame = looks_then g first now next ⊥ ⊥ t.frame (looks_so g now next failed ⊥ looks (λ h. absurd h));
  cost = asks_then (192 * done) 192 (192 * (done + 1)) (g.asked first.image) (g.asked now.image) (g.asked next.image) t.cost cost
      (omega arith);
  told = t.told;
  are = next_so first.bytes now.bytes test done ids after block b t.frame.same.bytes is taken t.are;
}

-- a block of no kind stands in no image that is good
bad_so : (bytes now : Option (List ℕ)) (count done : ℕ) (fault : RecordFault) → now ≡ bytes
    → IfSome bytes (λ image. length image ≡ block_place 2112 count) → done < count
    → HasCause now (λ image. is_kind (any_block 2112 image done) ≡ true) fault → HasCause bytes (AreGood 2112 is_kind) fault
bad_so bytes now count done DiskFault stays told below cause = tt
bad_so bytes now count done NoMemory stays told below cause = tt
bad_so None now count done (BadRecord at) stays told below cause = tt
bad_so (Some image) now count done (BadRecord at) stays told below cause = λ good.
    let here = subst (λ (o : Option (List ℕ)). HasCause o (λ i. is_kind (any_block 2112 i done) ≡ true) (BadRecord at)) stays cause in
    let n = count_is 2112 image count told in
    here (good.each done (omega (arith, n, below)))

pub taking_bad : {I : Type 0} (g : Ghosts I) (first now : Drafted I) (test : PrEntry → Bool) (ids : List ℤ) (count done : ℕ)
    (fault : RecordFault) → Taking g first now test ids count done → done < count
    → HasCause now.bytes (λ image. is_kind (any_block 2112 image done) ≡ true) fault → HasCause first.bytes (AreGood 2112 is_kind) fault
taking_bad g first now test ids count done fault t below cause =
    bad_so first.bytes now.bytes count done fault t.frame.same.bytes t.told below cause

-- all blocks were passed, and the ids put into their order
all_so : (bytes : Option (List ℕ)) (test : PrEntry → Bool) (ids after : List ℤ) (count : ℕ)
    → IfSome bytes (λ image. length image ≡ block_place 2112 count) → IfSome bytes (AreIdsOf test count ids)
    → ((id : ℤ) → Contains after id ↔ Contains ids id) → IfSome bytes (AreIds test after)
all_so None test ids after count told are same = tt
all_so (Some image) test ids after count told are same = λ id.
    let all : AreIds test ids image = subst (λ (n : ℕ). AreIdsOf test n ids image) (sym (count_is 2112 image count told)) are in
    (λ has. (all id).0 ((same id).0 has), λ is. (same id).1 ((all id).1 is))

pub taking_all : {I : Type 0} (g : Ghosts I) (first now : Drafted I) (test : PrEntry → Bool) (ids after : List ℤ) (count done : ℕ)
    → done ≡ count → Taking g first now test ids count done → ((id : ℤ) → Contains after id ↔ Contains ids id)
    → IfSome first.bytes (AreIds test after)
taking_all g first now test ids after count done last t same =
    all_so first.bytes test ids after count t.told (subst (λ (n : ℕ). IfSome first.bytes (AreIdsOf test n ids)) last t.are) same

-- ---- the registry

list_is : (image : List ℕ) (r : Registry) (m : Members) (test : PrEntry → Bool) (ids : List ℤ) → Holds image r m → IsAscending ids
    → AreIds test ids (whole image) → IsListOf (IsMetAt test r) ids
list_is image r m test ids holds ascending are = record {
  ascending = ascending;
  each = λ id there.
      let o = (are id).0 there in
      let block = block_in (whole image) o.0 in
      let p = sought_parts test block o.2.0 in
      subst (IsMetAt test r) o.2.1 (entry_in block, told_there image r m o.0 holds o.1 p.0, p.1);
  all = λ id is.
      let o = told_only image r m id is.0 holds is.1 in
      let own = ap (λ (e : PrEntry). e.id) o.3 ∙ holds.pairs.holds.valid.ids id is.0 is.1 in
      (are id).1 (o.0, o.1, (sought_from test (block_in (whole image) o.0) o.2 (ap test o.3 ∙ is.2), own));
}

pub ok_list : {X : Type 0} (res : Result X RecordFault) (items : X → List ℤ) (bytes : Option (List ℕ)) (test : PrEntry → Bool)
    → IfOk res (λ x. IsAscending (items x)) → IfOk res (λ x. IfSome bytes (λ image. AreIds test (items x) (whole image)))
    → IfOk res (λ x. IfSome bytes (λ image. (r : Registry) (m : Members) → Holds image r m → IsListOf (IsMetAt test r) (items x)))
ok_list (Err fault) items bytes test ascending are = tt
ok_list (Ok x) items None test ascending are = tt
ok_list (Ok x) items (Some image) test ascending are = λ r m holds. list_is image r m test (items x) holds ascending are
