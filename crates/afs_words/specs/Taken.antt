-- What a switch reads its values as.
use Rattle.std.specs.Prelude.{◌≡◌, ℕ, Bool, List, [], map, Option, Some, option_map, slice_get, unwrap_or}
use Rattle.std.specs.Option.{is_some}
use Rattle.afs_commands.specs.Forms.{value_of}
use Rattle.afs_commands.specs.declared.forms.Value.{Value}
use Rattle.afs_commands.specs.declared.forms.Value.TheVariants.{Word}
use Rattle.afs_words.specs.declared.tables.Takes.{Takes}
use Rattle.afs_words.specs.declared.tables.Takes.TheVariants.{Flag, LoneFlag, One, Many, EachOfFirst}
use Rattle.afs_words.specs.declared.values.Slot.{Slot}

-- what a switch reads a value as; a flag's own empty value is always read
abbrev pub read_by : Takes → List ℕ → Option Value
read_by Flag word = Some Word
read_by LoneFlag word = Some Word
read_by (One f) word = value_of f word
read_by (Many f) word = value_of f word
read_by (EachOfFirst f) word = value_of f word

-- whether a switch may take a value
abbrev pub fits : Takes → List ℕ → Bool
fits takes word = is_some (read_by takes word)

-- what the values of a switch are read as, each
abbrev pub read_in : Slot → List (Option Value)
read_in slot = map (read_by slot.parameter.takes) slot.values

-- all values of these switches were read as these
abbrev pub AreRead : List Slot → List (List Value) → Type 0
AreRead slots read = map (λ (values : List Value). map Some values) read ≡ map read_in slots

-- what the switch at a place takes, and what its values are read as
abbrev pub takes_at : List Slot → ℕ → Option Takes
takes_at slots place = option_map (λ (slot : Slot). slot.parameter.takes) (slice_get slots place)

abbrev pub read_at : List Slot → ℕ → List (Option Value)
read_at slots place = unwrap_or (option_map read_in (slice_get slots place)) []
