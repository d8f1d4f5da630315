-- Words that are put into the first image.
use Rattle.std.specs.Prelude.{ℕ, ◌+◌, Bool, true, ◌&&◌, List, [], ◌∷◌, ◌++◌, take, drop, nat_le}
use Rattle.db_blocks.specs.Bytes.{word}

-- bytes with each of these numbers in a word at its place
abbrev pub with_words : List (ℕ × ℕ) → List ℕ → List ℕ
with_words [] image = image
with_words (w ∷ ws) image = with_words ws (take w.0 image ++ word w.1 ++ drop (w.0 + 4) image)

-- each stands within the first image
abbrev pub are_within : List (ℕ × ℕ) → Bool
are_within [] = true
are_within (w ∷ ws) = nat_le (w.0 + 4) 3264 && are_within ws
