-- The words of a line.
use Rattle.std.specs.Prelude.{ℕ, ◌==◌, ◌||◌, Bool, true, if◌then◌else◌, List, [], ◌∷◌, ◌++◌, Option, Some, None, option_map}
use Rattle.std.specs.List.{All}
use Rattle.std.specs.Str.{IsUtf8}
use Rattle.command_lines.specs.declared.cuts.Place.{Place}
use Rattle.command_lines.specs.declared.cuts.Place.TheVariants.{Between, Inside, Quoted}

-- a space or a tab
abbrev pub is_blank : ℕ → Bool
is_blank byte = (byte == 32) || (byte == 9)

-- a line is no command: blanks alone, or `#` behind them
abbrev pub is_passed_over : List ℕ → Bool
is_passed_over [] = true
is_passed_over (b ∷ line) = if is_blank b then is_passed_over line else b == 35

-- bytes in front of the first word
abbrev pub onto_word : List ℕ → List (List ℕ) → List (List ℕ)
onto_word bytes [] = []
onto_word bytes (word ∷ words) = (bytes ++ word) ∷ words

-- The words of the rest of a line, of which the first goes on where the place is in one; none where a quote does not end. Quotes are
-- no part of a word, and blanks part no word between them.
abbrev pub words_from : Place → List ℕ → Option (List (List ℕ))
words_from Between [] = Some []
words_from Inside [] = Some ([] ∷ [])
words_from Quoted [] = None
words_from Between (b ∷ rest) =
    if b == 34 then words_from Quoted rest
    else (if is_blank b then words_from Between rest else option_map (onto_word (b ∷ [])) (words_from Inside rest))
words_from Inside (b ∷ rest) =
    if b == 34 then words_from Quoted rest
    else (if is_blank b then option_map (λ words. [] ∷ words) (words_from Between rest)
    else option_map (onto_word (b ∷ [])) (words_from Inside rest))
words_from Quoted (b ∷ rest) =
    if b == 34 then words_from Inside rest else option_map (onto_word (b ∷ [])) (words_from Quoted rest)

-- the words of a line
abbrev pub words_of : List ℕ → Option (List (List ℕ))
words_of line = words_from Between line

-- a word of them is no text
abbrev pub HasNoText : Option (List (List ℕ)) → Type 0
HasNoText None = ⊥
HasNoText (Some words) = ¬ (All IsUtf8 words)

-- words that have ended, and the bytes of the one under way, in front of more words
abbrev pub in_front : List (List ℕ) → List ℕ → Option (List (List ℕ)) → Option (List (List ℕ))
in_front words word None = None
in_front words word (Some more) = Some (words ++ onto_word word more)

-- the same in front of those of the rest of the line
abbrev pub all_words : List (List ℕ) → List ℕ → Place → List ℕ → Option (List (List ℕ))
all_words words word place rest = in_front words word (words_from place rest)
