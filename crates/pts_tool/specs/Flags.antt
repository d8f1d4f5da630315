-- The flags of an entry and the letters of its access (ptserver).
use Rattle.std.specs.Prelude.{ℕ, ◌+◌, ◌*◌, ◌/◌, ◌%◌, ◌==◌, List, [], ◌∷◌, codes, position, slice_get}
use Rattle.std.specs.Prelude.{unwrap_or}

-- the letters of each place, by the value of its four bits: status, owned, membership, add, remove
abbrev pub status_letters : List ℕ
status_letters = codes "-sS"

abbrev pub owned_letters : List ℕ
owned_letters = codes "--O"

abbrev pub membership_letters : List ℕ
membership_letters = codes "-mM"

abbrev pub add_letters : List ℕ
add_letters = codes "-aA"

abbrev pub remove_letters : List ℕ
remove_letters = codes "-r"

-- the letter of a value: `-` where it has none
abbrev pub letter_of : List ℕ → ℕ → ℕ
letter_of letters value = unwrap_or (slice_get letters value) 45

-- the value of a letter
abbrev pub value_of : List ℕ → ℕ → ℕ
value_of letters letter = unwrap_or (position (λ other. other == letter) letters) 0

-- flags in letters, the highest bits first
abbrev pub flags_text : ℕ → List ℕ
flags_text flags =
    letter_of status_letters (flags / 65536 % 16) ∷ letter_of owned_letters (flags / 4096 % 16)
    ∷ letter_of membership_letters (flags / 256 % 16) ∷ letter_of add_letters (flags / 16 % 16)
    ∷ letter_of remove_letters (flags % 16) ∷ []

-- the flags that five letters write
abbrev pub flags_of : List ℕ → ℕ
flags_of (status ∷ owned ∷ membership ∷ add ∷ remove ∷ []) =
    value_of status_letters status * 65536 + value_of owned_letters owned * 4096 + value_of membership_letters membership * 256
    + value_of add_letters add * 16 + value_of remove_letters remove
flags_of _ = 0
