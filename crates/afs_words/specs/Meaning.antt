-- What the words of a command mean, and why they mean nothing.
use Rattle.std.specs.Prelude.{◌≡◌, ◌≢◌, ℕ, ◌==◌, ◌&&◌, not, min, Bool, true, false, if◌then◌else◌, List, [], ◌∷◌, ◌++◌, length, take, drop, take_while, count_by, Option, Some, None, option_map, slice_get, slice_set, Result, Ok, Err}
use Rattle.std.specs.Char.{is_ascii_digit}
use Rattle.std.specs.List.{find}
use Rattle.std.specs.Option.{option_or}
use Rattle.afs_words.specs.Tables.{operation_name, switch_name, operations_of, parameters_of, common_parameters}
use Rattle.afs_words.specs.Matching.{meant_in}
use Rattle.afs_words.specs.Slots.{slot_of, is_given, is_chosen, is_missing, bad_value}
use Rattle.afs_words.specs.Command.{Command}
use Rattle.afs_words.specs.declared.tables.Tool.{Tool}
use Rattle.afs_words.specs.declared.tables.Operation.{Operation}
use Rattle.afs_words.specs.declared.tables.Parameter.{Parameter}
use Rattle.afs_words.specs.declared.tables.Takes.{Takes}
use Rattle.afs_words.specs.declared.tables.Takes.TheVariants.{Flag, LoneFlag, One, Many, EachOfFirst}
use Rattle.afs_words.specs.declared.values.Slot.{Slot}
use Rattle.afs_words.specs.declared.matching.Meant.{Meant}
use Rattle.afs_words.specs.declared.matching.Meant.TheVariants.{Unknown, Ambiguous, Item}
use Rattle.afs_words.specs.declared.faults.WordsFault.{WordsFault}
use Rattle.afs_words.specs.declared.faults.WordsFault.TheVariants.{UnknownOperation, AmbiguousOperation, UnknownSwitch, AmbiguousSwitch, MissingValue, MissingSwitch, Repeated, Extra, BadValue, NoMemory}

-- an answer is the meaning, or tells of want of memory
abbrev pub Means : {A : Type 0} → Result A WordsFault → Result A WordsFault → Type 0
Means meaning answer = answer ≢ Err NoMemory → answer ≡ meaning

-- what a call answers that leaves this behind
abbrev pub left : {A B : Type 0} → Result B WordsFault → A → Result A WordsFault
left (Ok _) x = Ok x
left (Err fault) x = Err fault

-- what follows where there is no fault
abbrev pub then_ok : {A B : Type 0} → Result A WordsFault → (A → Result B WordsFault) → Result B WordsFault
then_ok (Ok x) next = next x
then_ok (Err fault) next = Err fault

-- a word that names a switch begins with `-`, and no digit stands behind that
abbrev pub is_switch : List ℕ → Bool
is_switch [] = false
is_switch (first ∷ []) = first == 45
is_switch (first ∷ second ∷ rest) = (first == 45) && not (is_ascii_digit second)

-- the values in front of the next switch
abbrev pub front : List (List ℕ) → List (List ℕ)
front words = take_while (λ word. not (is_switch word)) words

-- how many of so many values a switch takes
abbrev pub share : Takes → ℕ → ℕ
share Flag count = 0
share LoneFlag count = 0
share (One f) count = min 1 count
share (Many f) count = count
share (EachOfFirst f) count = count

-- a value that is left is extra
abbrev pub refused_extra : List (List ℕ) → Result (Unit {0}) WordsFault
refused_extra [] = Ok tt
refused_extra (word ∷ words) = Err (Extra word)

abbrev pub unless_extra : {A : Type 0} → A → List (List ℕ) → Result A WordsFault
unless_extra x words = left (refused_extra words) x

-- the values before the first switch go to the switches of the table in its order, behind these that have theirs
abbrev pub filled : List Slot → List Parameter → List (List ℕ) → Result (List Slot) WordsFault
filled slots [] words = unless_extra slots words
filled slots (p ∷ ps) words =
    filled (slots ++ slot_of p (take (share p.takes (length words)) words) ∷ []) ps (drop (share p.takes (length words)) words)

-- whether no value will do
abbrev pub is_flag : Takes → Bool
is_flag Flag = true
is_flag LoneFlag = true
is_flag (One f) = false
is_flag (Many f) = false
is_flag (EachOfFirst f) = false

-- the values that a switch has of those behind it: a flag one that is empty
abbrev pub held : Takes → List (List ℕ) → List (List ℕ)
held takes words = if is_flag takes then [] ∷ [] else take (share takes (length words)) words

-- a switch that stands before these values: that it lacks one is judged first, then that it was given, then what it leaves
abbrev pub given_values : Slot → List (List ℕ) → Result (List (List ℕ)) WordsFault
given_values slot words =
    if not (is_flag slot.parameter.takes) && (length words == 0) then Err (MissingValue slot.parameter.switch)
    else (if is_given slot then Err (Repeated slot.parameter.switch)
    else unless_extra (held slot.parameter.takes words) (drop (share slot.parameter.takes (length words)) words))

abbrev pub given_at : List Slot → ℕ → List (List ℕ) → Slot → Result (List Slot) WordsFault
given_at slots place words slot = then_ok (given_values slot words) (λ some. Ok (slice_set slots place (slot_of slot.parameter some)))

abbrev pub given_some : List Slot → ℕ → List ℕ → List (List ℕ) → Option Slot → Result (List Slot) WordsFault
given_some slots place word words None = Err (UnknownSwitch word)
given_some slots place word words (Some slot) = given_at slots place words slot

abbrev pub given_by : List Slot → List ℕ → List (List ℕ) → Meant → Result (List Slot) WordsFault
given_by slots word words Unknown = Err (UnknownSwitch word)
given_by slots word words Ambiguous = Err (AmbiguousSwitch word)
given_by slots word words (Item place) = given_some slots place word words (slice_get slots place)

-- a word that names a switch, and the values behind it
abbrev pub given : List Slot → List ℕ → List (List ℕ) → Result (List Slot) WordsFault
given slots word words =
    given_by slots word words (meant_in (λ (slot : Slot). switch_name slot.parameter.switch) slots (drop 1 word))

-- each switch among the words takes the values behind it, from left to right
abbrev pub read_switches : List Slot → List (List ℕ) → Result (List Slot) WordsFault
read_switches slots [] = Ok slots
read_switches slots (word ∷ words) =
    if is_switch word then then_ok (given slots word (front words)) (λ after. read_switches after words)
    else read_switches slots words

-- the first switch that is missing, in the table's order
abbrev pub first_missing : List Slot → Option Slot
first_missing slots = find (λ slot. is_missing (count_by is_chosen slots) slot) slots

-- how many values the first switch has
abbrev pub first_count : List Slot → ℕ
first_count [] = 0
first_count (slot ∷ slots) = length slot.values

-- how a bad value of a switch is refused, and the first that it has
abbrev pub bad_word : Slot → List ℕ → WordsFault
bad_word slot word = BadValue word slot.parameter.switch

abbrev pub bad_in : (named chosen : ℕ) → Slot → Option WordsFault
bad_in named chosen slot = option_map (bad_word slot) (bad_value named chosen slot)

-- the first bad value, in the table's order
abbrev pub first_bad : (named chosen : ℕ) → List Slot → Option WordsFault
first_bad named chosen [] = None
first_bad named chosen (slot ∷ slots) = option_or (bad_in named chosen slot) (first_bad named chosen slots)

abbrev pub unless_bad : {A : Type 0} → A → Option WordsFault → Result A WordsFault
unless_bad slots None = Ok slots
unless_bad slots (Some fault) = Err fault

abbrev pub unless_missing : List Slot → Option Slot → Result (List Slot) WordsFault
unless_missing slots (Some slot) = Err (MissingSwitch slot.parameter.switch)
unless_missing slots None = unless_bad slots (first_bad (first_count slots) (count_by is_chosen slots) slots)

-- what is missing is judged first, then the values
abbrev pub judged : List Slot → Result (List Slot) WordsFault
judged slots = unless_missing slots (first_missing slots)

-- the switches of a table with the values that these words give them
abbrev pub slots_of : List Parameter → List (List ℕ) → Result (List Slot) WordsFault
slots_of parameters words =
    then_ok (filled [] parameters (front words)) (λ slots. then_ok (read_switches slots words) judged)

-- the switches that every operation takes change nothing
abbrev pub command_with : Operation → List Slot → Command
command_with o slots = record { operation = o; switches = take (length (parameters_of o)) slots }

abbrev pub command_of : Operation → List (List ℕ) → Result Command WordsFault
command_of o words = then_ok (slots_of (parameters_of o ++ common_parameters) words) (λ slots. Ok (command_with o slots))

abbrev pub command_some : List ℕ → List (List ℕ) → Option Operation → Result Command WordsFault
command_some word words None = Err (UnknownOperation word)
command_some word words (Some o) = command_of o words

abbrev pub command_by : Tool → List ℕ → List (List ℕ) → Meant → Result Command WordsFault
command_by tool word words Unknown = Err (UnknownOperation word)
command_by tool word words Ambiguous = Err (AmbiguousOperation word)
command_by tool word words (Item place) = command_some word words (slice_get (operations_of tool) place)

-- what the words of a command mean: the first is its operation
abbrev pub meaning_of : Tool → List (List ℕ) → Result Command WordsFault
meaning_of tool [] = Err (UnknownOperation [])
meaning_of tool (word ∷ words) = command_by tool word words (meant_in operation_name (operations_of tool) word)
