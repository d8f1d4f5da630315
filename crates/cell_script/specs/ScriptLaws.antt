-- Laws of the words of a line.
use Rattle.std.specs.Prelude.{◌≡◌, ℕ, ◌<◌, true, false, List, [], ◌∷◌, ◌++◌, length, Some, map}
use Rattle.std.specs.List.{All}
use Rattle.cell_script.specs.Words.{is_blank, words_of}

-- one byte or more, none of them a blank
abbrev pub IsWord : List ℕ → Type 0
IsWord bytes = (0 < length bytes) × All (λ b. is_blank b ≡ false) bytes

-- one blank or more
abbrev pub IsGap : List ℕ → Type 0
IsGap bytes = (0 < length bytes) × All (λ b. is_blank b ≡ true) bytes

-- a word, and further ones, each after a gap
abbrev pub spaced : List ℕ → List (List ℕ × List ℕ) → List ℕ
spaced word [] = word
spaced word (next ∷ more) = word ++ next.0 ++ spaced next.1 more

-- words with gaps between them are read as these words
abbrev pub ReadsSpacedWords : Type 0
ReadsSpacedWords = (word : List ℕ) (more : List (List ℕ × List ℕ)) → IsWord word →
    All (λ next. IsGap next.0 × IsWord next.1) more → words_of (spaced word more) ≡ Some (word ∷ map (λ next. next.1) more)
