-- The switches of an operation with their values.
use Rattle.std.specs.Prelude.{ℕ, ◌==◌, ◌&&◌, not, nat_le, min, Bool, true, false, if◌then◌else◌, List, length, take, Option, slice_get}
use Rattle.std.specs.List.{find}
use Rattle.std.specs.Option.{option_or}
use Rattle.afs_words.specs.Taken.{fits}
use Rattle.afs_words.specs.declared.tables.Need.{Need}
use Rattle.afs_words.specs.declared.tables.Need.TheVariants.{Required, Optional, OneOf}
use Rattle.afs_words.specs.declared.tables.Takes.{Takes}
use Rattle.afs_words.specs.declared.tables.Takes.TheVariants.{Flag, LoneFlag, One, Many, EachOfFirst}
use Rattle.afs_words.specs.declared.tables.Parameter.{Parameter}
use Rattle.afs_words.specs.declared.values.Slot.{Slot}

-- a switch with these values
abbrev pub slot_of : Parameter → List (List ℕ) → Slot
slot_of p words = record { parameter = p; values = words }

-- a switch was given where it has a value: a flag that was given has an empty one
abbrev pub is_given : Slot → Bool
is_given slot = not (length slot.values == 0)

abbrev pub is_one_of : Need → Bool
is_one_of Required = false
is_one_of Optional = false
is_one_of OneOf = true

-- a switch was given that is one of those of which one has to be
abbrev pub is_chosen : Slot → Bool
is_chosen slot = is_one_of slot.parameter.need && is_given slot

-- whether a switch has to be given, where so many were given of those of which one has to be
abbrev pub must_stand : ℕ → Need → Bool
must_stand chosen Required = true
must_stand chosen Optional = false
must_stand chosen OneOf = chosen == 0

abbrev pub is_missing : ℕ → Slot → Bool
is_missing chosen slot = must_stand chosen slot.parameter.need && not (is_given slot)

-- How many of a switch's values may stand beside the other switches: a lone flag stands beside no other of its need, and there
-- are no more ids than names.
abbrev pub may_stand : Takes → (named chosen count : ℕ) → ℕ
may_stand LoneFlag named chosen count = if nat_le chosen 1 then count else 0
may_stand (EachOfFirst f) named chosen count = named
may_stand Flag named chosen count = count
may_stand (One f) named chosen count = count
may_stand (Many f) named chosen count = count

-- the first value out of form among the first so many, or else the first value past them
abbrev pub bad_among : Takes → ℕ → List (List ℕ) → Option (List ℕ)
bad_among takes count words = option_or (find (λ word. not (fits takes word)) (take count words)) (slice_get words count)

-- the first value of a switch that is bad
abbrev pub bad_value : (named chosen : ℕ) → Slot → Option (List ℕ)
bad_value named chosen slot =
    bad_among slot.parameter.takes (min (may_stand slot.parameter.takes named chosen (length slot.values)) (length slot.values)) slot.values
