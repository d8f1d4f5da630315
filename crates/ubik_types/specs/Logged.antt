-- The changes of a transaction as a store keeps them: no put leaves a gap behind the end, and no cut goes past
-- it; and which of them are too many (own).
use Rattle.std.specs.Prelude.{ℕ, ◌+◌, ◌-◌, nat_lt, max, min, if◌then◌else◌, Option, Some, None, List, [], ◌∷◌, ◌++◌, length, replicate}
use Rattle.ubik_types.specs.declared.images.Change.{Change}
use Rattle.ubik_types.specs.declared.images.Change.TheVariants.{Put, Cut}
use Rattle.ubik_types.specs.declared.limits.TheConstants.{MAX_CHANGES, MAX_IMAGE}

-- zero bytes from the end of an image up to a position past it
abbrev pub gap_before : ℕ → ℕ → List Change
gap_before len at = if nat_lt len at then Put len (replicate (at - len) 0) ∷ [] else []

-- the changes that are kept of these, over an image of `len` bytes
abbrev pub logged : ℕ → List Change → List Change
logged len [] = []
logged len (Put at bytes ∷ changes) = gap_before len at ++ Put at bytes ∷ logged (max len (at + length bytes)) changes
logged len (Cut to ∷ changes) = Cut (min to len) ∷ logged (min to len) changes

-- what a put that ends at a position makes too large: the sum of the bytes that were put, or else the image
abbrev pub passed_limit : (sum end : ℕ) → Option ℕ
passed_limit sum end = if nat_lt MAX_CHANGES sum then Some sum else (if nat_lt MAX_IMAGE end then Some end else None)

abbrev pub first_of_two : Option ℕ → Option ℕ → Option ℕ
first_of_two None b = b
first_of_two (Some a) b = Some a

-- The number of bytes with which the first put passes a limit, if one does: `sum` bytes were put before, over an image of
-- `len` bytes now. A gap is a put of its own, before the put behind it.
abbrev pub too_large : (sum len : ℕ) → List Change → Option ℕ
too_large sum len [] = None
too_large sum len (Put at bytes ∷ changes) =
    first_of_two (passed_limit (sum + (at - len)) (max len at))
    (first_of_two (passed_limit (sum + (at - len) + length bytes) (max len (at + length bytes)))
    (too_large (sum + (at - len) + length bytes) (max len (at + length bytes)) changes))
too_large sum len (Cut to ∷ changes) = too_large sum (min to len) changes
