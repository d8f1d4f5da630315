-- Texts in parts and columns.
use Rattle.std.specs.Prelude.{ℕ, ◌-◌, List, ◌++◌, length, replicate}
use Rattle.std.specs.List.{flat_map}

-- parts, one behind the other
abbrev pub joined : List (List ℕ) → List ℕ
joined parts = flat_map (λ part. part) parts

-- a text in a column of so many places, at its left or at its right; a longer one stays whole
abbrev pub blanks_beside : ℕ → List ℕ → List ℕ
blanks_beside width text = replicate (width - length text) 32

abbrev pub at_left : ℕ → List ℕ → List ℕ
at_left width text = text ++ blanks_beside width text

abbrev pub at_right : ℕ → List ℕ → List ℕ
at_right width text = blanks_beside width text ++ text
