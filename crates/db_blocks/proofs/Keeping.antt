-- How far a scan has come that keeps the first blocks by their keys.
use Rattle.std.proofs.Common.{◌≡◌, ℕ, zero, suc, ◌+◌, ◌*◌, ◌<◌, ◌≤◌, Bool, true, false, cond, List, [], ◌∷◌, ◌++◌, map, take, Option, Some, None, IfSome, Result, Ok, Err, IfOk, length, get_or, refl, sym, ap, subst, ◌∙◌, arith}
use Rattle.std.specs.List.{AllByRecursion}
use Rattle.std.specs.List.Sorted.{IsNonDecreasingBy}
use Rattle.std.proofs.lemmas.List.{length-append, length-take, take-map}
use Rattle.db_image.specs.Asked.{AsksAtMost}
use Rattle.db_image.specs.Draft.{Drafted}
use Rattle.db_image.specs.declared.faults.RecordFault.{RecordFault}
use Rattle.db_image.specs.declared.faults.RecordFault.TheVariants.{BadRecord, DiskFault, NoMemory}
use Rattle.db_image.specs.declared.images.ImageRead.{Ghosts}
use Rattle.db_image.proofs.ReadSteps.{asks_then}
use Rattle.db_blocks.specs.Ascending.{AreGood, ascending, numbers_met, put_by}
use Rattle.db_blocks.specs.Blocks.{IsWhole, block_in, block_place}
use Rattle.db_blocks.specs.Ends.{HasCause, OnlyLooks}
use Rattle.db_blocks.specs.Kept.{AreWithin}
use Rattle.db_blocks.specs.declared.keyed.Kept.{Kept}
use Rattle.db_blocks.proofs.Ascending.{all_put, all_take, map_put, take_put}
use Rattle.db_blocks.proofs.Scanned.{count_is, looks_so, looks_then}

-- what is looked for
pub record Sort : Type 0 where
  pub head : ℕ
  pub test : List ℕ → Bool
  pub key : List ℕ → ℕ
  pub most : ℕ

abbrev pub key_of : Kept → ℕ
key_of k = k.key

-- what a block is kept as
abbrev kept_as : Sort → List ℕ → ℕ → Kept
kept_as w image k = record { key = w.key (block_in w.head image k); number = k }

-- those of the first so many blocks
abbrev numbers : Sort → List ℕ → (done : ℕ) → List ℕ
numbers w image done = ascending (λ k. w.test (block_in w.head image k)) (λ k. w.key (block_in w.head image k)) done

abbrev IsKept : Sort → List ℕ → (done : ℕ) → List Kept → Type 0
IsKept w image done kept = kept ≡ map (kept_as w image) (take w.most (numbers w image done))

pub record Keeping {I : Type 0} (g : Ghosts I) (first now : Drafted I) (w : Sort) (kept : List Kept) (count done : ℕ) : Type 0 where
  pub frame : OnlyLooks g first now ⊥
  pub cost : AsksAtMost (192 * done) (g.asked first.image) (g.asked now.image)
  pub told : IfSome first.bytes (λ image. length image ≡ block_place w.head count)
  pub order : IsNonDecreasingBy key_of kept
  pub few : length kept ≤ w.most
  pub within : AllByRecursion (λ k. k.number < count) kept
  pub found : IfSome first.bytes (λ image. IsKept w image done kept)

-- a block that is not looked for
past_step : (b : Bool) (xs ys : List ℕ) → b ≡ false → ys ≡ cond b xs ys
past_step true xs ys fails = absurd cc
past_step false xs ys fails = refl

found_past : (bytes : Option (List ℕ)) (w : Sort) (done : ℕ) (kept : List Kept) (block : List ℕ)
    → IfSome bytes (λ image. block ≡ block_in w.head image done)
    → w.test block ≡ false → IfSome bytes (λ image. IsKept w image done kept) → IfSome bytes (λ image. IsKept w image (suc done) kept)
found_past None w done kept block is fails so = tt
found_past (Some image) w done kept block is fails so =
    so ∙ ap (λ (ns : List ℕ). map (kept_as w image) (take w.most ns))
    (past_step (w.test (block_in w.head image done)) (put_by (λ k. w.key (block_in w.head image k)) done (numbers w image done))
    (numbers w image done) (ap w.test (sym is) ∙ fails))

pub keeping_past : {I : Type 0} (g : Ghosts I) (first now next : Drafted I) (w : Sort) (kept : List Kept) (count done : ℕ)
    (block : List ℕ) (failed : Type 0)
    → Keeping g first now w kept count done → OnlyLooks g now next failed → AsksAtMost 192 (g.asked now.image) (g.asked next.image)
    → IfSome now.bytes (λ image. block ≡ block_in w.head image done) → w.test block ≡ false → Keeping g first next w kept count (done + 1)
keeping_past g first now next w kept count done block failed k looks cost is fails = record {
  frame = looks_then g first now next ⊥ ⊥ k.frame (looks_so g now next failed ⊥ looks (λ h. absurd h));
  cost = asks_then (192 * done) 192 (192 * (done + 1)) (g.asked first.image) (g.asked now.image) (g.asked next.image) k.cost cost
      (omega arith);
  told = k.told;
  order = k.order;
  few = k.few;
  within = k.within;
  found = let next : suc done ≡ done + 1 = omega arith in subst (λ (n : ℕ). IfSome first.bytes (λ image. IsKept w image n kept)) next
      (found_past first.bytes w done kept block (subst (λ (b : Option (List ℕ)). IfSome b
      (λ image. block ≡ block_in w.head image done)) k.frame.same.bytes is) fails k.found);
}

-- one that is
met_step : (b : Bool) (xs ys : List ℕ) → b ≡ true → xs ≡ cond b xs ys
met_step true xs ys met = refl
met_step false xs ys met = absurd cc

found_met : (bytes : Option (List ℕ)) (w : Sort) (done key : ℕ) (kept after : List Kept) (block : List ℕ)
    → IfSome bytes (λ image. block ≡ block_in w.head image done)
    → w.test block ≡ true → key ≡ w.key block → after ≡ take w.most (put_by key_of (record { key = key; number = done }) kept)
    → IfSome bytes (λ image. IsKept w image done kept) → IfSome bytes (λ image. IsKept w image (suc done) after)
found_met None w done key kept after block is met own put so = tt
found_met (Some image) w done key kept after block is met own put so =
    let f = kept_as w image in
    let ns = numbers w image done in
    let at = λ (k : ℕ). w.key (block_in w.head image k) in
    put
    ∙ ap (λ (n : ℕ). take w.most (put_by key_of (record { key = n; number = done }) kept)) (own ∙ ap w.key is)
    ∙ ap (λ (ks : List Kept). take w.most (put_by key_of (f done) ks)) so
    ∙ ap (take w.most) (sym (map_put f key_of done (take w.most ns)))
    ∙ take-map f w.most (put_by at done (take w.most ns))
    ∙ ap (map f) (take_put at done w.most ns)
    ∙ ap (λ (ks : List ℕ). map f (take w.most ks)) (met_step (w.test (block_in w.head image done)) (put_by at done ns) ns (ap w.test
    (sym is) ∙ met))

pub keeping_met : {I : Type 0} (g : Ghosts I) (first now next : Drafted I) (w : Sort) (key : ℕ) (kept after : List Kept) (count done : ℕ)
    (block : List ℕ) (failed : Type 0)
    → Keeping g first now w kept count done → OnlyLooks g now next failed → AsksAtMost 192 (g.asked now.image) (g.asked next.image)
    → IfSome now.bytes (λ image. block ≡ block_in w.head image done) → w.test block ≡ true → key ≡ w.key block → done < count
    → after ≡ take w.most (put_by key_of (record { key = key; number = done }) kept) → IsNonDecreasingBy key_of after
    → Keeping g first next w after count (done + 1)
keeping_met g first now next w key kept after count done block failed k looks cost is met own below put order = record {
  frame = looks_then g first now next ⊥ ⊥ k.frame (looks_so g now next failed ⊥ looks (λ h. absurd h));
  cost = asks_then (192 * done) 192 (192 * (done + 1)) (g.asked first.image) (g.asked now.image) (g.asked next.image) k.cost cost
      (omega arith);
  told = k.told;
  order = order;
  few = let put_few = ap length put in omega (
    arith,
    put_few,
    length-take w.most (put_by key_of
        (record { key = key; number = done }) kept),
  );
  within = subst (AllByRecursion (λ k. k.number < count)) (sym put)
      (all_take (λ k. k.number < count) w.most (put_by key_of (record { key = key; number = done }) kept)
      (all_put (λ k. k.number < count) key_of (record { key = key; number = done }) kept below k.within));
  found = let next : suc done ≡ done + 1 = omega arith in subst (λ (n : ℕ). IfSome first.bytes (λ image. IsKept w image n after)) next
      (found_met first.bytes w done key kept after block (subst (λ (b : Option (List ℕ)). IfSome b
      (λ image. block ≡ block_in w.head image done)) k.frame.same.bytes is)
      met own put k.found);
}

-- ---- at the end

numbers_back : (w : Sort) (image : List ℕ) (ns : List ℕ) → map (λ (k : Kept). k.number) (map (kept_as w image) ns) ≡ ns
numbers_back w image [] = refl
numbers_back w image (n ∷ ns) = ap (λ (xs : List ℕ). n ∷ xs) (numbers_back w image ns)

found_all : (bytes : Option (List ℕ)) (w : Sort) (count : ℕ) (kept : List Kept)
    → IfSome bytes (λ image. length image ≡ block_place w.head count)
    → IfSome bytes (λ image. IsKept w image count kept)
    → IfSome bytes (λ image. map (λ (k : Kept). k.number) kept ≡ take w.most (numbers_met w.head w.test w.key image))
found_all None w count kept told so = tt
found_all (Some image) w count kept told so =
    ap (map (λ (k : Kept). k.number)) so ∙ numbers_back w image (take w.most (numbers w image count))
    ∙ ap (λ (n : ℕ). take w.most (numbers w image n)) (sym (count_is w.head image count told))

pub keeping_all : {I : Type 0} (g : Ghosts I) (first now : Drafted I) (w : Sort) (kept : List Kept) (count : ℕ)
    → Keeping g first now w kept count count
    → IfSome first.bytes (λ image. map (λ (k : Kept). k.number) kept ≡ take w.most (numbers_met w.head w.test w.key image))
keeping_all g first now w kept count k = found_all first.bytes w count kept k.told k.found

below_at : (kept : List Kept) (count i : ℕ) (d : Kept) → AllByRecursion (λ k. k.number < count) kept → i < length kept
    → (get_or kept i d).number < count
below_at [] count i d all below = absurd (omega arith)
below_at (k ∷ kept) count zero d all below = all.0
below_at (k ∷ kept) count (suc i) d all below = below_at kept count i d all.1 (omega arith)

all_within : (head len count : ℕ) (kept : List Kept) → len ≡ block_place head count → AllByRecursion (λ k. k.number < count) kept
    → AreWithin head len kept
all_within head len count kept size all = λ i d below. let less = below_at kept count i d all below in omega (arith, size, less)

pub keeping_within : {I : Type 0} (g : Ghosts I) (first now : Drafted I) (w : Sort) (kept : List Kept) (count done : ℕ) (len : ℕ)
    → len ≡ block_place w.head count
    → Keeping g first now w kept count done → AreWithin w.head len kept
keeping_within g first now w kept count done len size k = all_within w.head len count kept size k.within

-- ---- a bad record

-- an image of another length has no such blocks
pub bad_so : (bytes : Option (List ℕ)) (head : ℕ) (fits : List ℕ → Bool) (fault : RecordFault) → HasCause bytes (IsWhole head) fault
    → HasCause bytes (AreGood head fits) fault
bad_so bytes head fits DiskFault cause = tt
bad_so None head fits (BadRecord at) cause = tt
bad_so (Some image) head fits (BadRecord at) cause = λ good. cause good.whole
bad_so bytes head fits NoMemory cause = tt

-- ---- the kept blocks, read

pub record Reading {I : Type 0} (g : Ghosts I) (first now : Drafted I) (head : ℕ) (kept : List Kept) (blocks : List (List ℕ))
    (done : ℕ) : Type 0 where
  pub frame : OnlyLooks g first now ⊥
  pub cost : AsksAtMost (192 * done) (g.asked first.image) (g.asked now.image)
  pub count : length blocks ≡ done
  pub found : IfSome first.bytes (λ image. blocks ≡ map (block_in head image) (map (λ (k : Kept). k.number) (take done kept)))

take_next : (f : Kept → List ℕ) (kept : List Kept) (i : ℕ) (d : Kept) → i < length kept
    → map f (take (suc i) kept) ≡ map f (take i kept) ++ f (get_or kept i d) ∷ []
take_next f [] i d below = absurd (omega arith)
take_next f (k ∷ kept) zero d below = refl
take_next f (k ∷ kept) (suc i) d below = ap (λ (bs : List (List ℕ)). f k ∷ bs) (take_next f kept i d (omega arith))

both_maps : (image : List ℕ) (head : ℕ) (kept : List Kept)
    → map (block_in head image) (map (λ (k : Kept). k.number) kept) ≡ map (λ (k : Kept). block_in head image k.number) kept
both_maps image head [] = refl
both_maps image head (k ∷ kept) = ap (λ (bs : List (List ℕ)). block_in head image k.number ∷ bs) (both_maps image head kept)

read_more : (bytes : Option (List ℕ)) (head : ℕ) (kept : List Kept) (blocks after : List (List ℕ)) (block : List ℕ) (i : ℕ) (d : Kept)
    → i < length kept
    → IfSome bytes (λ image. block ≡ block_in head image (get_or kept i d).number) → after ≡ blocks ++ block ∷ []
    → IfSome bytes (λ image. blocks ≡ map (block_in head image) (map (λ (k : Kept). k.number) (take i kept)))
    → IfSome bytes (λ image. after ≡ map (block_in head image) (map (λ (k : Kept). k.number) (take (i + 1) kept)))
read_more None head kept blocks after block i d below is push so = tt
read_more (Some image) head kept blocks after block i d below is push so =
    let f = λ (k : Kept). block_in head image k.number in
    let next : suc i ≡ i + 1 = omega arith in
    push ∙ ap (λ (b : List ℕ). blocks ++ b ∷ []) is
    ∙ ap (λ (bs : List (List ℕ)). bs ++ f (get_or kept i d) ∷ []) (so ∙ both_maps image head (take i kept))
    ∙ sym (take_next f kept i d below) ∙ ap (λ (n : ℕ). map f (take n kept)) next ∙ sym (both_maps image head (take (i + 1) kept))

pub reading_more : {I : Type 0} (g : Ghosts I) (first now next : Drafted I) (head : ℕ) (kept : List Kept) (blocks after : List (List ℕ))
    (block : List ℕ) (i : ℕ) (d : Kept) (failed : Type 0)
    → Reading g first now head kept blocks i → OnlyLooks g now next failed → AsksAtMost 192 (g.asked now.image) (g.asked next.image)
    → i < length kept
    → IfSome now.bytes (λ image. block ≡ block_in head image (get_or kept i d).number) → after ≡ blocks ++ block ∷ []
    → Reading g first next head kept after (i + 1)
reading_more g first now next head kept blocks after block i d failed r looks cost below is push = record {
  frame = looks_then g first now next ⊥ ⊥ r.frame (looks_so g now next failed ⊥ looks (λ h. absurd h));
  cost = asks_then (192 * i) 192 (192 * (i + 1)) (g.asked first.image) (g.asked now.image) (g.asked next.image) r.cost cost (omega arith);
  count = let pushed = ap length push in omega (arith, pushed, r.count, length-append blocks (block ∷ []));
  found = read_more first.bytes head kept blocks after block i d below
      (subst (λ (b : Option (List ℕ)). IfSome b (λ image. block ≡ block_in head image
      (get_or kept i d).number)) r.frame.same.bytes is) push r.found;
}

-- ---- what was found, by what was kept and read

pub few_so : {X : Type 0} (r : Result X RecordFault) (f : X → ℕ) (n most : ℕ) → n ≤ most → IfOk r (λ x. f x ≡ n) → IfOk r (λ x. f x ≤ most)
few_so (Ok x) f n most fits is = omega arith
few_so (Err fault) f n most fits is = tt
