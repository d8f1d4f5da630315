-- Filling one range, and one range after others.
use Rattle.std.proofs.Common.{◌≡◌, ℕ, ◌+◌, ◌-◌, ◌<◌, ◌≤◌, List, [], ◌∷◌, length, min, max, arith}
use Rattle.std.proofs.lemmas.Bool.Decides.{nat_tests}
use Rattle.disk_base.specs.declared.touches.Touch.{Touch}
use Rattle.disk_base.specs.declared.touches.Touch.TheVariants.{Wrote}
use Rattle.disk_base.specs.Touches.{IsFilled, was_written}

-- two lists of changing calls that write the same positions of a file fill it alike
pub IsFilled-covers : (byte : ℕ) (touches others : List Touch) (before after : List ℕ)
    → IsFilled byte touches before after
    → ((at : ℕ) → at < length before → was_written touches at ≡ was_written others at)
    → IsFilled byte others before after
IsFilled-covers byte touches others before after f same = record {
  same_length = f.same_length;
  filled = λ at h. rw (← same at h) (f.filled at h);
}

-- a range covers the same positions of a file whether it ends at the file's end or past it
pub covers-end : (start len at n top k : ℕ) → min n (min (start + len) top) ≤ at → at ≤ max start (min n (min (start + len) top)) → start ≤ at → n ≤ top → k < n
    → was_written (Wrote start (at - start) ∷ []) k ≡ was_written (Wrote start len ∷ []) k
covers-end start len at n top k past within below fits h = grind (arith, nat_tests)
