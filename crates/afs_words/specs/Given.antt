-- The values of an operation's switches, by their places in its table.
use Rattle.std.specs.Prelude.{ℕ, ℤ, Bool, List, [], Option, option_map, option_and_then, slice_get, unwrap_or}
use Rattle.std.specs.Option.{is_some}
use Rattle.script_words.specs.Numbers.{number_within, signed_of}
use Rattle.host_words.specs.Hosts.{address_of}
use Rattle.afs_commands.specs.Partitions.{partition_of}
use Rattle.afs_commands.specs.declared.forms.TheConstants.{MAX_NEW_ID}
use Rattle.afs_words.specs.declared.values.Slot.{Slot}

-- the values of the switch at a place, and the first of them
abbrev pub values_at : List Slot → ℕ → List (List ℕ)
values_at slots place = unwrap_or (option_map (λ (slot : Slot). slot.values) (slice_get slots place)) []

abbrev pub value_at : List Slot → ℕ → Option (List ℕ)
value_at slots place = slice_get (values_at slots place) 0

-- whether a flag was given
abbrev pub flag_at : List Slot → ℕ → Bool
flag_at slots place = is_some (value_at slots place)

abbrev pub address_at : List Slot → ℕ → Option ℕ
address_at slots place = option_and_then address_of (value_at slots place)

abbrev pub partition_at : List Slot → ℕ → Option ℕ
partition_at slots place = option_and_then partition_of (value_at slots place)

-- the id of a volume that is made
abbrev pub new_id_at : List Slot → ℕ → Option ℕ
new_id_at slots place = option_and_then (number_within 1 MAX_NEW_ID) (value_at slots place)

abbrev pub number_at : List Slot → ℕ → Option ℤ
number_at slots place = option_and_then signed_of (value_at slots place)
