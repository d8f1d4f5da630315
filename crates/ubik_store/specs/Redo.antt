-- When the changes of a log have the same effect on an image as on another one: on each image that a crash may leave
-- while they are made, it is what they make of the image before them (own).
use Rattle.std.specs.Prelude.{◌≡◌, ◌⊎◌, ℕ, ◌+◌, ◌≤◌, ◌<◌, max, min, List, [], ◌∷◌, length, slice_index}
use Rattle.ubik_types.specs.declared.images.Change.{Change}
use Rattle.ubik_types.specs.declared.images.Change.TheVariants.{Put, Cut}
use Rattle.disk_base.specs.Crash.{Torn, CutShort}

-- the length of an image after a change
abbrev pub changed_len : ℕ → Change → ℕ
changed_len len (Put at bytes) = max len (at + length bytes)
changed_len len (Cut to) = min to len

-- and after these changes; a put of no bytes past the end is none of those that are made
abbrev pub len_after : ℕ → List Change → ℕ
len_after len [] = len
len_after len (change ∷ changes) = len_after (changed_len len change) changes

-- a position that a change leaves: a put lies beside it, and a cut behind it
abbrev pub Leaves : Change → ℕ → Type 0
Leaves (Put at bytes) p = (p < at) ⊎ (at + length bytes ≤ p)
Leaves (Cut to) p = p < to

-- each of these changes leaves it
abbrev pub AllLeave : List Change → ℕ → Type 0
AllLeave [] p = Unit {0}
AllLeave (change ∷ changes) p = Leaves change p × AllLeave changes p

-- a length that an image reaches while these changes are made, over one of `len` bytes: it is no shorter than after the first
-- so many of them, for some number
pub data Reaches : ℕ → List Change → ℕ → Type 0 where
  begins : (len : ℕ) (changes : List Change) (reached : ℕ) → len ≤ reached → Reaches len changes reached
  goes_on : (len : ℕ) (change : Change) (changes : List Change) (reached : ℕ)
      → Reaches (changed_len len change) changes reached → Reaches len (change ∷ changes) reached

-- Changes lead from this image to where they lead from the other one: they end at the same length, and the two have the
-- same bytes wherever no change comes. It is no shorter than the other one was at some time.
pub record Redoes (changes : List Change) (base image : List ℕ) : Type 0 where
  pub reaches : Reaches (length base) changes (length image)
  pub len : len_after (length image) changes ≡ len_after (length base) changes
  pub bytes : (p : ℕ) → AllLeave changes p → slice_index image p ≡ slice_index base p

-- a change that is made without a gap, and not past the end: over an image of this length
abbrev pub IsSeam : ℕ → Change → Type 0
IsSeam len (Put at bytes) = at ≤ len
IsSeam len (Cut to) = to ≤ len

-- each of these changes is such, once those before it are made
abbrev pub IsSeamless : ℕ → List Change → Type 0
IsSeamless len [] = Unit {0}
IsSeamless len (change ∷ changes) = IsSeam len change × IsSeamless (changed_len len change) changes

-- what a crash leaves of an image in the midst of a change
abbrev pub Tears : Change → List ℕ → List ℕ → Type 0
Tears (Put at bytes) = Torn at (length bytes)
Tears (Cut to) = CutShort to

-- the changes have the same effect on whatever this one leaves of an image, torn or whole
abbrev pub IsCovered : List Change → List ℕ → Change → Type 0
IsCovered told base change = (old new : List ℕ) → Tears change old new → Redoes told base old → Redoes told base new

-- a put ends within this room of a database file
abbrev pub Ends : Change → ℕ → Type 0
Ends (Put at bytes) room = 64 + at + length bytes ≤ room
Ends (Cut to) room = Unit {0}
