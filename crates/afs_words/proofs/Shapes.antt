-- The switches of a table keep their rows while words give them values.
use Rattle.std.proofs.Common.{◌≡◌, ℕ, zero, suc, Bool, true, false, cond, Option, Some, None, List, [], ◌∷◌, ◌++◌, length, take, drop, Result, Ok, Err, refl, sym, ap, ◌∙◌, append_assoc}
use Rattle.std.specs.Prelude.{slice_get, slice_set}
use Rattle.std.proofs.lemmas.List.{append-nil, map-append}
use Rattle.afs_words.specs.Good.{rows_of}
use Rattle.afs_words.specs.Matching.{meant_in}
use Rattle.afs_words.specs.Meaning.{filled, front, given, given_by, given_some, given_values, is_switch, read_switches, share, then_ok, unless_extra}
use Rattle.afs_words.specs.Slots.{slot_of}
use Rattle.afs_words.specs.Tables.{switch_name}
use Rattle.afs_words.specs.declared.faults.WordsFault.{WordsFault}
use Rattle.afs_words.specs.declared.matching.Meant.{Meant}
use Rattle.afs_words.specs.declared.matching.Meant.TheVariants.{Unknown, Ambiguous, Item}
use Rattle.afs_words.specs.declared.tables.Parameter.{Parameter}
use Rattle.afs_words.specs.declared.values.Slot.{Slot}

-- what went well went well in both parts
pub then_parts : {A B : Type 0} (m : Result A WordsFault) (next : A → Result B WordsFault) (y : B) → then_ok m next ≡ Ok y
    → (x : A) × (m ≡ Ok x) × (next x ≡ Ok y)
then_parts (Ok x) next y well = (x, refl, well)
then_parts (Err fault) next y well = cc

unless_rows : (slots after : List Slot) (words : List (List ℕ)) → unless_extra slots words ≡ Ok after → rows_of after ≡ rows_of slots
unless_rows slots after [] well = let same : slots ≡ after = cc in ap rows_of (sym same)
unless_rows slots after (word ∷ words) well = cc

pub filled_rows : (slots after : List Slot) (rows : List Parameter) (words : List (List ℕ)) → filled slots rows words ≡ Ok after
    → rows_of after ≡ rows_of slots ++ rows
filled_rows slots after [] words well = unless_rows slots after words well ∙ sym (append-nil (rows_of slots))
filled_rows slots after (row ∷ rows) words well =
    let n = share row.takes (length words) in
    let own = slot_of row (take n words) in
    filled_rows (slots ++ own ∷ []) after rows (drop n words) well
    ∙ ap (λ (xs : List Parameter). xs ++ rows) (map-append (λ (slot : Slot). slot.parameter) slots (own ∷ []))
    ∙ append_assoc (rows_of slots) (row ∷ []) rows

-- a switch with other values
set_rows : (slots : List Slot) (place : ℕ) (slot : Slot) (values : List (List ℕ)) → slice_get slots place ≡ Some slot
    → rows_of (slice_set slots place (slot_of slot.parameter values)) ≡ rows_of slots
set_rows [] place slot values there = refl
set_rows (first ∷ slots) zero slot values there =
    let same : first ≡ slot = cc in ap (λ (s : Slot). s.parameter ∷ rows_of slots) (sym same)
set_rows (first ∷ slots) (suc place) slot values there = ap (λ (xs : List Parameter). first.parameter ∷ xs) (set_rows slots place slot values there)

some_rows : (slots after : List Slot) (place : ℕ) (word : List ℕ) (words : List (List ℕ)) (found : Option Slot) → slice_get slots place ≡ found
    → given_some slots place word words found ≡ Ok after → rows_of after ≡ rows_of slots
some_rows slots after place word words None there well = cc
some_rows slots after place word words (Some slot) there well =
    let p = then_parts (given_values slot words) (λ (values : List (List ℕ)). Ok (slice_set slots place (slot_of slot.parameter values))) after well in
    let same : slice_set slots place (slot_of slot.parameter p.0) ≡ after = let end = p.2 in cc in
    ap rows_of (sym same) ∙ set_rows slots place slot p.0 there

given_rows : (slots after : List Slot) (word : List ℕ) (words : List (List ℕ)) (m : Meant) → given_by slots word words m ≡ Ok after
    → rows_of after ≡ rows_of slots
given_rows slots after word words Unknown well = cc
given_rows slots after word words Ambiguous well = cc
given_rows slots after word words (Item place) well = some_rows slots after place word words (slice_get slots place) refl well

step_rows : (slots after : List Slot) (word : List ℕ) (words : List (List ℕ)) (b : Bool)
    → ((slots : List Slot) → read_switches slots words ≡ Ok after → rows_of after ≡ rows_of slots)
    → cond b (then_ok (given slots word (front words)) (λ (some : List Slot). read_switches some words)) (read_switches slots words) ≡ Ok after
    → rows_of after ≡ rows_of slots
step_rows slots after word words true behind well =
    let p = then_parts (given slots word (front words)) (λ (some : List Slot). read_switches some words) after well in
    behind p.0 p.2
    ∙ given_rows slots p.0 word (front words) (meant_in (λ (slot : Slot). switch_name slot.parameter.switch) slots (drop 1 word)) p.1
step_rows slots after word words false behind well = behind slots well

pub read_rows : (slots after : List Slot) (words : List (List ℕ)) → read_switches slots words ≡ Ok after → rows_of after ≡ rows_of slots
read_rows slots after [] well = let same : slots ≡ after = cc in ap rows_of (sym same)
read_rows slots after (word ∷ words) well =
    step_rows slots after word words (is_switch word) (λ (some : List Slot). read_rows some after words) well
