-- How far a scan of the blocks of a draft has come.
use Rattle.std.proofs.Common.{◌≡◌, ◌≢◌, ℕ, ◌+◌, ◌<◌, Bool, true, false, List, Option, Some, None, IfSome, length, refl, sym, subst, ◌∙◌, ⊎_elim, arith}
use Rattle.std.proofs.lemmas.Bool.{cases_eq}
use Rattle.db_image.specs.Draft.{Drafted}
use Rattle.db_image.specs.declared.faults.RecordFault.{RecordFault}
use Rattle.db_image.specs.declared.faults.RecordFault.TheVariants.{DiskFault, BadRecord, NoMemory}
use Rattle.db_image.specs.declared.images.ImageRead.{Ghosts}
use Rattle.db_blocks.specs.Blocks.{block_count, block_in, block_place, IsFirst, IsWhole}
use Rattle.db_blocks.specs.Ends.{HasCause, OnlyDrafts, OnlyLooks}
use Rattle.db_blocks.proofs.FirstBlocks.{first_at, first_none}

pub count_is : (head : ℕ) (image : List ℕ) (k : ℕ) → length image ≡ block_place head k → block_count head image ≡ k
count_is head image k size = omega arith

-- an image of another length
pub bad_size : (head : ℕ) (bytes : Option (List ℕ)) (len at : ℕ) (fault : RecordFault) → fault ≡ BadRecord at
    → IfSome bytes (λ image. length image ≡ len) → ((k : ℕ) → len ≢ block_place head k) → HasCause bytes (IsWhole head) fault
bad_size head None len at fault is told other = subst (HasCause None (IsWhole head)) (sym is) tt
bad_size head (Some image) len at fault is told other =
    subst (HasCause (Some image) (IsWhole head)) (sym is) (λ whole. other (block_count head image) (sym told ∙ whole))

-- a fault that is no bad record has a cause in what is read
pub no_bad : (bytes now : Option (List ℕ)) (fits : List ℕ → Type 0) (fault : RecordFault) → now ≡ bytes
    → HasCause now (λ image. Unit {0}) fault → HasCause bytes fits fault
no_bad bytes now fits DiskFault same cause = tt
no_bad bytes now fits NoMemory same cause = tt
no_bad None now fits (BadRecord at) same cause = tt
no_bad (Some image) now fits (BadRecord at) same cause =
    let not = subst (λ (b : Option (List ℕ)). IfSome b (λ image. Unit {0} → ⊥)) same cause in λ fit. not tt

-- ---- frames

pub looks_none : {I : Type 0} (g : Ghosts I) (d : Drafted I) (failed : Type 0) → ¬ failed → OnlyLooks g d d failed
looks_none g d failed not = record {
  same = record { bytes = refl; len = refl; layout = refl };
  reads = record { held = refl; size = refl; came = g.comes_same d.image; never_falls = omega arith; cause = λ h. absurd (not h) };
}

pub looks_then : {I : Type 0} (g : Ghosts I) (a b c : Drafted I) (first failed : Type 0) → OnlyLooks g a b first → OnlyLooks g b c failed
    → OnlyLooks g a c failed
looks_then g a b c first failed r s = record {
  same = record { bytes = s.same.bytes ∙ r.same.bytes; len = s.same.len ∙ r.same.len; layout = s.same.layout ∙ r.same.layout };
  reads = record {
    held = s.reads.held ∙ r.reads.held;
    size = s.reads.size ∙ r.reads.size;
    came = g.comes_on a.image b.image c.image r.reads.came s.reads.came;
    never_falls = omega (arith, r.reads.never_falls, s.reads.never_falls);
    cause = λ h. omega (arith, r.reads.never_falls, s.reads.cause h);
  };
}

pub looks_so : {I : Type 0} (g : Ghosts I) (a b : Drafted I) (first failed : Type 0) → OnlyLooks g a b first → (failed → first)
    → OnlyLooks g a b failed
looks_so g a b first failed r so = record {
  same = r.same;
  reads =
      record {
        held = r.reads.held;
        size = r.reads.size;
        came = r.reads.came;
        never_falls = r.reads.never_falls;
        cause = λ h.
            r.reads.cause (so h);
      };
}

pub drafts_after : {I : Type 0} (g : Ghosts I) (a b c : Drafted I) (first failed : Type 0) → OnlyLooks g a b first → OnlyDrafts g b c failed
    → OnlyDrafts g a c failed
drafts_after g a b c first failed r s = record {
  layout = s.layout ∙ r.same.layout;
  reads = record {
    held = s.reads.held ∙ r.reads.held;
    size = s.reads.size ∙ r.reads.size;
    came = g.comes_on a.image b.image c.image r.reads.came s.reads.came;
    never_falls = omega (arith, r.reads.never_falls, s.reads.never_falls);
    cause = λ h. omega (arith, r.reads.never_falls, s.reads.cause h);
  };
}

-- ---- the first block that is what is looked for

pub record Scanned {I : Type 0} (g : Ghosts I) (first now : Drafted I) (head : ℕ) (test : List ℕ → Bool) (count done : ℕ) : Type 0 where
  pub frame : OnlyLooks g first now ⊥
  pub told : IfSome first.bytes (λ image. length image ≡ block_place head count)
  pub before : IfSome first.bytes (λ image. (j : ℕ) → j < done → test (block_in head image j) ≡ false)

none_before : (bytes : Option (List ℕ)) (head : ℕ) (test : List ℕ → Bool)
    → IfSome bytes (λ image. (j : ℕ) → j < 0 → test (block_in head image j) ≡ false)
none_before None head test = tt
none_before (Some image) head test = λ j below. absurd (omega arith)

pub scanned_none : {I : Type 0} (g : Ghosts I) (d : Drafted I) (head : ℕ) (test : List ℕ → Bool) (count : ℕ)
    → IfSome d.bytes (λ image. length image ≡ block_place head count) → Scanned g d d head test count 0
scanned_none g d head test count told = record { frame = looks_none g d ⊥ (λ h. h); told = told; before = none_before d.bytes head test }

before_more : (bytes : Option (List ℕ)) (head : ℕ) (test : List ℕ → Bool) (done : ℕ) (block : List ℕ)
    → IfSome bytes (λ image. block ≡ block_in head image done)
    → test block ≡ false
    → IfSome bytes (λ image. (j : ℕ) → j < done → test (block_in head image j) ≡ false)
    → IfSome bytes (λ image. (j : ℕ) → j < done + 1 → test (block_in head image j) ≡ false)
before_more None head test done block is fails before = tt
before_more (Some image) head test done block is fails before = λ j below.
    ⊎_elim (λ (same : j ≡ done). rw (same, ← is) fails) (λ (other : j ≡ done → ⊥). before j (omega arith)) (cases_eq j done)

pub scanned_more : {I : Type 0} (g : Ghosts I) (first now next : Drafted I) (head : ℕ) (test : List ℕ → Bool) (count done : ℕ)
    (block : List ℕ) (failed : Type 0)
    → Scanned g first now head test count done → OnlyLooks g now next failed → IfSome now.bytes (λ image. block ≡ block_in head image done)
    → test block ≡ false → Scanned g first next head test count (done + 1)
scanned_more g first now next head test count done block failed s looks is fails = record {
  frame = looks_then g first now next ⊥ ⊥ s.frame (looks_so g now next failed ⊥ looks (λ h. absurd h));
  told = s.told;
  before =
      before_more first.bytes head test done block
      (subst (λ (b : Option (List ℕ)). IfSome b (λ image. block ≡ block_in head image done)) s.frame.same.bytes is) fails s.before;
}

first_so : (bytes : Option (List ℕ)) (head : ℕ) (test : List ℕ → Bool) (count done : ℕ) (block : List ℕ)
    → IfSome bytes (λ image. length image ≡ block_place head count)
    → IfSome bytes (λ image. (j : ℕ) → j < done → test (block_in head image j) ≡ false) → done < count
    → IfSome bytes (λ image. block ≡ block_in head image done) → test block ≡ true
    → IfSome bytes (λ image. IsFirst head test image (Some (record { number = done; block = block })))
first_so None head test count done block told before below is met = tt
first_so (Some image) head test count done block told before below is met =
    let n : block_count head image ≡ count = count_is head image count told in (
      omega arith,
      sym (first_at (λ k. test (block_in head image k)) 0 (block_count head image) done (omega arith) (omega arith)
          (λ j from less. before j less) (rw (← is) met)),
      is,
    )

pub scan_first : {I : Type 0} (g : Ghosts I) (first now : Drafted I) (head : ℕ) (test : List ℕ → Bool) (count done : ℕ) (block : List ℕ)
    → Scanned g first now head test count done → done < count → IfSome now.bytes (λ image. block ≡ block_in head image done)
    → test block ≡ true
    → IfSome first.bytes (λ image. IsFirst head test image (Some (record { number = done; block = block })))
scan_first g first now head test count done block s below is met =
    first_so first.bytes head test count done block s.told s.before below
    (subst (λ (b : Option (List ℕ)). IfSome b (λ image. block ≡ block_in head image done)) s.frame.same.bytes is) met

none_so : (bytes : Option (List ℕ)) (head : ℕ) (test : List ℕ → Bool) (count : ℕ)
    → IfSome bytes (λ image. length image ≡ block_place head count)
    → IfSome bytes (λ image. (j : ℕ) → j < count → test (block_in head image j) ≡ false)
    → IfSome bytes (λ image. IsFirst head test image None)
none_so None head test count told before = tt
none_so (Some image) head test count told before =
    let n : block_count head image ≡ count = count_is head image count told in
    first_none (λ k. test (block_in head image k)) 0 (block_count head image) (λ j from less. before j (omega arith)) ∙ omega arith

pub scan_none : {I : Type 0} (g : Ghosts I) (first now : Drafted I) (head : ℕ) (test : List ℕ → Bool) (count : ℕ)
    → Scanned g first now head test count count
    → IfSome first.bytes (λ image. IsFirst head test image None)
scan_none g first now head test count s = none_so first.bytes head test count s.told s.before

-- one change after another
pub drafts_then : {I : Type 0} (g : Ghosts I) (a b c : Drafted I) (first failed : Type 0) → OnlyDrafts g a b first → OnlyDrafts g b c failed
    → OnlyDrafts g a c failed
drafts_then g a b c first failed r s = record {
  layout = s.layout ∙ r.layout;
  reads = record {
    held = s.reads.held ∙ r.reads.held;
    size = s.reads.size ∙ r.reads.size;
    came = g.comes_on a.image b.image c.image r.reads.came s.reads.came;
    never_falls = omega (arith, r.reads.never_falls, s.reads.never_falls);
    cause = λ h. omega (arith, r.reads.never_falls, s.reads.cause h);
  };
}
