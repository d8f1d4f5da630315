-- What a crash may leave of a file: any bytes where it was written since the last sync, an end between the
-- least and the greatest length that it had, and all else as it was synced.
use Rattle.std.specs.Prelude.{◌≡◌, ℕ, ◌+◌, ◌<◌, ◌≤◌, min, max, Bool, false, ◌&&◌, List, [], ◌∷◌, length, slice_index, nat_le, nat_lt, if◌then◌else◌}
use Rattle.std.specs.List.{list_any}
use Rattle.disk_base.specs.declared.touches.Touch.{Touch}
use Rattle.disk_base.specs.declared.touches.Touch.TheVariants.{Wrote, Cut}

-- whether a changing call writes a position
abbrev pub covers : Touch → ℕ → Bool
covers (Wrote start len) at = nat_le start at && nat_lt at (start + len)
covers (Cut len) at = false

-- whether one of them writes a position
abbrev pub was_written : List Touch → ℕ → Bool
was_written touches at = list_any (λ touch. covers touch at) touches

-- the least length that a file had which was so long at first
abbrev pub least : ℕ → List Touch → ℕ
least n [] = n
least n (Wrote at len ∷ touches) = least n touches
least n (Cut len ∷ touches) = min len (least n touches)

-- the greatest length that it had
abbrev pub greatest : ℕ → List Touch → ℕ
greatest n [] = n
greatest n (Wrote at len ∷ touches) = max (at + len) (greatest n touches)
greatest n (Cut len ∷ touches) = greatest n touches

-- these bytes may be left of a file with those, after these changing calls
pub record MayBe (synced : List ℕ) (touches : List Touch) (bytes : List ℕ) : Type 0 where
  pub no_shorter : least (length synced) touches ≤ length bytes
  pub no_longer : length bytes ≤ greatest (length synced) touches
  pub untouched : (at : ℕ) → at < length bytes → was_written touches at ≡ false
      → slice_index bytes at ≡ slice_index synced at

-- the byte stands in each position that was written, and the others are as before
pub record IsFilled (byte : ℕ) (touches : List Touch) (before after : List ℕ) : Type 0 where
  pub same_length : length after ≡ length before
  pub filled : (at : ℕ) → at < length before
      → slice_index after at ≡ (if was_written touches at then byte else slice_index before at)
