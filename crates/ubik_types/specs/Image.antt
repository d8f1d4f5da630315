-- Images of a database and what changes make of them (Kazar, "Ubik"; the zero bytes of a gap are own).
use Rattle.std.specs.Prelude.{ℕ, ◌+◌, ◌-◌, List, [], ◌∷◌, ◌++◌, length, take, drop, replicate}
use Rattle.ubik_types.specs.declared.images.Change.{Change}
use Rattle.ubik_types.specs.declared.images.Change.TheVariants.{Put, Cut}

-- the image with zero bytes up to a position
abbrev pub extended : List ℕ → ℕ → List ℕ
extended image at = image ++ replicate (at - length image) 0

-- the image after one change
abbrev pub changed : List ℕ → Change → List ℕ
changed image (Put at bytes) = take at (extended image at) ++ bytes ++ drop (at + length bytes) image
changed image (Cut len) = take len image

-- the image after these changes, one after the other
abbrev pub effect : List ℕ → List Change → List ℕ
effect image [] = image
effect image (change ∷ changes) = effect (changed image change) changes
