-- The words of a line.
use Rattle.std.specs.Prelude.{ℕ, ◌-◌, ◌==◌, ◌||◌, not, Bool, if◌then◌else◌, List, length, slice_index, filter, Option, Some, None}
use Rattle.std.specs.List.{slice_split}

-- a space or a tab
abbrev pub is_blank : ℕ → Bool
is_blank byte = (byte == 32) || (byte == 9)

-- a blank stands first or last
abbrev pub has_outer_blank : List ℕ → Bool
has_outer_blank line = is_blank (slice_index line 0) || is_blank (slice_index line (length line - 1))

-- a piece of a line that is not empty
abbrev pub is_word : List ℕ → Bool
is_word piece = not (length piece == 0)

-- the pieces of a line that blanks part, without the empty ones
abbrev pub inner_words : List ℕ → List (List ℕ)
inner_words line = filter is_word (slice_split is_blank line)

-- the words of a line, which one or more blanks separate
abbrev pub words_of : List ℕ → Option (List (List ℕ))
words_of line = if has_outer_blank line then None else Some (inner_words line)
