-- One call that only reads an image after another.
use Rattle.std.proofs.Common.{ℕ, ◌+◌, ◌≤◌, Option, Some, None, refl, ◌∙◌, arith}
use Rattle.db_image.specs.declared.images.ImageRead.{Ghosts}
use Rattle.db_image.specs.Asked.{AsksAtMost}
use Rattle.db_image.specs.Images.{ReadsAtMost}

pub asks_none : (most : ℕ) (asked : Option ℕ) → AsksAtMost most asked asked
asks_none most None = tt
asks_none most (Some n) = record { never_falls = omega arith; within = omega arith }

pub asks_then : (m n most : ℕ) (a b c : Option ℕ) → AsksAtMost m a b → AsksAtMost n b c → m + n ≤ most → AsksAtMost most a c
asks_then m n most a b None first second fits = tt
asks_then m n most a None (Some z) first second fits = absurd second
asks_then m n most None (Some y) (Some z) first second fits = absurd first
asks_then m n most (Some x) (Some y) (Some z) first second fits =
    record { never_falls = omega arith; within = omega arith }

-- the image was not read
pub reads_none : {I : Type 0} (g : Ghosts I) (most : ℕ) (image : I) (failed : Type 0) → ¬ failed → ReadsAtMost g most image image failed
reads_none g most image failed not = record {
  reads = record { held = refl; size = refl; came = g.comes_same image; never_falls = omega arith; cause = λ h. absurd (not h) };
  asked = asks_none most (g.asked image);
}

-- the same reads under a greater number
pub reads_within : {I : Type 0} (g : Ghosts I) (m most : ℕ) (old new : I) (failed now : Type 0) → ReadsAtMost g m old new failed
    → m ≤ most → (now → failed)
    → ReadsAtMost g most old new now
reads_within g m most old new failed now r fits so = record {
  reads = record { held = r.reads.held; size = r.reads.size; came = r.reads.came; never_falls = r.reads.never_falls; cause = λ h. r.reads.cause (so h) };
  asked = asks_then m 0 most (g.asked old) (g.asked new) (g.asked new) r.asked (asks_none 0 (g.asked new)) (omega arith);
}

pub reads_then : {I : Type 0} (g : Ghosts I) (m n most : ℕ) (a b c : I) (first failed : Type 0) → ReadsAtMost g m a b first
    → ReadsAtMost g n b c failed → m + n ≤ most
    → ReadsAtMost g most a c failed
reads_then g m n most a b c first failed r s fits = record {
  reads = record {
    held = s.reads.held ∙ r.reads.held;
    size = s.reads.size ∙ r.reads.size;
    came = g.comes_on a b c r.reads.came s.reads.came;
    never_falls = omega (arith, r.reads.never_falls, s.reads.never_falls);
    cause = λ h. omega (arith, r.reads.never_falls, s.reads.cause h);
  };
  asked = asks_then m n most (g.asked a) (g.asked b) (g.asked c) r.asked s.asked fits;
}
