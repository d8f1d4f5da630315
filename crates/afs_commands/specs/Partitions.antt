-- The words of partitions.
use Rattle.std.specs.Prelude.{ℕ, ◌+◌, ◌-◌, ◌*◌, ◌&&◌, nat_eq, nat_le, Bool, if◌then◌else◌, List, [], ◌∷◌, drop, codes, Option, Some, None}
use Rattle.std.specs.List.{starts_with}
use Rattle.std.specs.Option.{option_or}
use Rattle.script_words.specs.Numbers.{number_within}

-- a small letter
abbrev pub is_letter : ℕ → Bool
is_letter byte = nat_le 97 byte && nat_le byte 122

abbrev pub up_to_255 : ℕ → Option ℕ
up_to_255 number = if nat_le number 255 then Some number else None

-- the number that the letters of a partition mean: one letter from 0 on, two from 26 on
abbrev pub letters_of : List ℕ → Option ℕ
letters_of (only ∷ []) = if is_letter only then Some (only - 97) else None
letters_of (first ∷ second ∷ []) =
    if is_letter first && is_letter second then up_to_255 (26 + 26 * (first - 97) + (second - 97)) else None
letters_of _ = None

-- a partition's letters may stand behind `/vicep` or `vicep`
abbrev pub bare_letters : List ℕ → List ℕ
bare_letters word =
    if starts_with nat_eq word (codes "/vicep") then drop 6 word
    else (if starts_with nat_eq word (codes "vicep") then drop 5 word else word)

-- the number of a partition, which its letters write, or its number itself
abbrev pub partition_of : List ℕ → Option ℕ
partition_of word = option_or (letters_of (bare_letters word)) (number_within 0 255 word)
