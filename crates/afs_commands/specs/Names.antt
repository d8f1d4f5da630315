-- The words that name volumes, users and groups.
use Rattle.std.specs.Prelude.{ℕ, ◌==◌, ◌&&◌, ◌||◌, not, nat_eq, nat_le, Bool, false, if◌then◌else◌, List, [], ◌∷◌, length, codes, Option, Some, None}
use Rattle.std.specs.List.{starts_with}
use Rattle.std.specs.Option.{is_some}
use Rattle.script_words.specs.Numbers.{is_numeral, number_within, signed_of}
use Rattle.afs_commands.specs.declared.volumes.TheConstants.{MAX_NAME}

-- a decimal number with a minus or without
abbrev pub is_signed_numeral : List ℕ → Bool
is_signed_numeral [] = false
is_signed_numeral (first ∷ rest) =
    if first == 45 then is_numeral rest && not (starts_with nat_eq rest (codes "0")) else is_numeral (first ∷ rest)

-- a name of at most 255 bytes, or a number that the field holds
abbrev pub is_volume : List ℕ → Bool
is_volume word = nat_le (length word) MAX_NAME && (not (is_numeral word) || is_some (number_within 0 4294967295 word))

abbrev pub is_entry : List ℕ → Bool
is_entry word = nat_le (length word) MAX_NAME && (not (is_signed_numeral word) || is_some (signed_of word))

-- the volume, the user or group that a word names
abbrev pub volume_of : List ℕ → Option (List ℕ)
volume_of word = if is_volume word then Some word else None

abbrev pub entry_of : List ℕ → Option (List ℕ)
entry_of word = if is_entry word then Some word else None
