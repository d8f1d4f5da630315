-- Switches of which none is missing and no value is bad.
use Rattle.std.specs.Prelude.{◌≡◌, not, ◌&&◌, ◌||◌, Bool, true, false, List, map}
use Rattle.std.specs.List.{list_all}
use Rattle.afs_words.specs.Taken.{fits}
use Rattle.afs_words.specs.Slots.{is_given}
use Rattle.afs_words.specs.declared.tables.Need.{Need}
use Rattle.afs_words.specs.declared.tables.Need.TheVariants.{Required, Optional, OneOf}
use Rattle.afs_words.specs.declared.tables.Parameter.{Parameter}
use Rattle.afs_words.specs.declared.values.Slot.{Slot}

abbrev pub is_required : Need → Bool
is_required Required = true
is_required Optional = false
is_required OneOf = false

-- a switch that has to be given is, and each of its values fits
abbrev pub is_good : Slot → Bool
is_good slot = (not (is_required slot.parameter.need) || is_given slot) && list_all (fits slot.parameter.takes) slot.values

abbrev pub rows_of : List Slot → List Parameter
rows_of slots = map (λ (slot : Slot). slot.parameter) slots

-- the switches of a table, all of them good
abbrev pub AreGood : List Parameter → List Slot → Type 0
AreGood rows slots = (rows_of slots ≡ rows) × (list_all is_good slots ≡ true)
