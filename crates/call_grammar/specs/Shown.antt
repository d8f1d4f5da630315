-- An answer as one word of a trace, and bytes as a call has them (own).
use Rattle.std.specs.Prelude.{ℕ, List, [], ◌∷◌, Option, Some, None, nat_lt, if◌then◌else◌}
use Rattle.std.specs.List.{list_all}

-- the words of an answer, joined by blanks, where each byte is an ASCII one; nothing where there are none
abbrev pub shown : List ℕ → List (List ℕ)
shown [] = []
shown (b ∷ bytes) = if list_all (λ x. nat_lt x 128) (b ∷ bytes) then (b ∷ bytes) ∷ [] else []

abbrev pub shown_of : Option (List ℕ) → List (List ℕ)
shown_of None = []
shown_of (Some words) = shown words

-- bytes as a call has them
abbrev pub only_bytes : Option (List ℕ) → Option (List ℕ)
only_bytes None = None
only_bytes (Some bytes) = if list_all (λ b. nat_lt b 256) bytes then Some bytes else None
