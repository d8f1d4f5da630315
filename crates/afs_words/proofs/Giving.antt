-- The values before the first switch, and those behind each.
use Rattle.std.proofs.Common.{◌≡◌, ℕ, ◌+◌, ◌<◌, Bool, true, false, not, Option, Some, None, ltb, ◌≤◌, ◌-◌, count_by, cond, List, [], ◌∷◌, length, map, take, drop, get_or, Result, Ok, Err, refl, sym, ap, ◌∙◌, arith}
use Rattle.std.specs.List.{prefix_len}
use Rattle.std.specs.List.{find}
use Rattle.std.proofs.Math.Seq.{take-length}
use Rattle.std.proofs.lemmas.List.{take-map}
use Rattle.std.specs.Prelude.{slice_get, slice_set, position}
use Rattle.std.specs.Option.{unwrap_or}
use Rattle.std.proofs.lemmas.Bool.{ltb-false}
use Rattle.std.proofs.lemmas.List.Sums.{prefix_len-le-length}
use Rattle.std.proofs.lemmas.Option.{slice_get_read}
use Rattle.afs_words.specs.Matching.{meant_in}
use Rattle.afs_words.specs.Tables.{switch_name, operation_name, operations_of}
use Rattle.afs_words.specs.Command.{Command}
use Rattle.afs_words.specs.declared.tables.Tool.{Tool}
use Rattle.afs_words.specs.declared.tables.Operation.{Operation}
use Rattle.afs_words.specs.Slots.{slot_of, is_chosen, is_missing}
use Rattle.afs_words.specs.Meaning.{Means, is_switch, front, given_values, given_at, given_some, given_by, given, read_switches, then_ok, judged, unless_missing, command_of, command_some, command_by, meaning_of}
use Rattle.afs_words.specs.declared.faults.WordsFault.TheVariants.{UnknownSwitch, AmbiguousSwitch, MissingSwitch, NoMemory}
use Rattle.afs_words.specs.declared.matching.Meant.{Meant}
use Rattle.afs_words.specs.declared.matching.Meant.TheVariants.{Unknown, Ambiguous, Item}
use Rattle.afs_words.proofs.Answering.{means_ok, means_err}
use Rattle.afs_words.specs.declared.faults.WordsFault.{WordsFault}
use Rattle.afs_words.specs.declared.values.Slot.{Slot}

prefix_len-map : {X : Type 0} (p : List ℕ → Bool) (f : X → List ℕ) (xs : List X) →
    prefix_len p (map f xs) ≡ prefix_len (λ x. p (f x)) xs
prefix_len-map p f [] = refl
prefix_len-map p f (x ∷ xs) = ap (λ n. cond (p (f x)) (1 + n) 0) (prefix_len-map p f xs)

placed : (b : Bool) (n l : ℕ) → (b ≡ false → l ≡ n) → unwrap_or (cond b (Some n) None) l ≡ n
placed true n l past = refl
placed false n l past = past refl

-- the first place, or the length where there is none
place_or_length : {X : Type 0} (p : X → Bool) (xs : List X) → unwrap_or (position p xs) (length xs) ≡ prefix_len (λ x. not (p x)) xs
place_or_length p xs =
    let count = prefix_len (λ x. not (p x)) xs in
    placed (ltb count (length xs)) count (length xs)
    (λ past. let high : length xs ≤ count = ltb-false count (length xs) past in
    let low : count ≤ length xs = prefix_len-le-length (λ x. not (p x)) xs in omega arith)

-- the front of words that are seen by their texts
pub front-map : {X : Type 0} (f : X → List ℕ) (xs : List X) (place : Option ℕ) (count : ℕ) →
    place ≡ position (λ x. is_switch (f x)) xs → count ≡ unwrap_or place (length xs) → map f (take count xs) ≡ front (map f xs)
front-map f xs place count at is =
    let first : count ≡ prefix_len (λ x. not (is_switch (f x))) xs =
    is ∙ ap (λ o. unwrap_or o (length xs)) at ∙ place_or_length (λ x. is_switch (f x)) xs in
    sym (take-map f count xs)
    ∙ ap (λ n. take n (map f xs)) (first ∙ sym (prefix_len-map (λ word. not (is_switch word)) f xs))

-- the switch that a word names, of these switches
abbrev pub meant_switch : List Slot → List ℕ → Meant
meant_switch slots name = meant_in (λ (slot : Slot). switch_name slot.parameter.switch) slots name

given_is : (slots items : List Slot) (word name : List ℕ) (words : List (List ℕ)) (m : Meant) → items ≡ slots →
    name ≡ drop 1 word → m ≡ meant_switch items name → given_by slots word words m ≡ given slots word words
given_is slots items word name words m all behind meant =
    ap (λ (x : Meant). given_by slots word words x)
    (meant ∙ ap (λ xs. meant_switch xs name) all ∙ ap (λ n. meant_switch slots n) behind)

pub given_unknown : (slots items : List Slot) (word name copy : List ℕ) (words : List (List ℕ)) → items ≡ slots → name ≡ drop 1 word →
    copy ≡ word → Unknown ≡ meant_switch items name → Means (given slots word words) (Err (UnknownSwitch copy))
given_unknown slots items word name copy words all behind same meant = λ other.
    ap (λ w. Err (UnknownSwitch w)) same ∙ given_is slots items word name words Unknown all behind meant

pub given_ambiguous : (slots items : List Slot) (word name copy : List ℕ) (words : List (List ℕ)) → items ≡ slots → name ≡ drop 1 word →
    copy ≡ word → Ambiguous ≡ meant_switch items name → Means (given slots word words) (Err (AmbiguousSwitch copy))
given_ambiguous slots items word name copy words all behind same meant = λ other.
    ap (λ w. Err (AmbiguousSwitch w)) same ∙ given_is slots items word name words Ambiguous all behind meant

given_item : (slots items : List Slot) (word name : List ℕ) (words : List (List ℕ)) (place : ℕ) (slot : Slot) → items ≡ slots →
    name ≡ drop 1 word → Item place ≡ meant_switch items name → place < length items → slot ≡ get_or slots place slot →
    given_at slots place words slot ≡ given slots word words
given_item slots items word name words place slot all behind meant within is =
    let inside : place < length slots = let same : length items ≡ length slots = ap length all in omega arith in
    let found : slice_get slots place ≡ Some slot = slice_get_read slots (length slots) place slot refl inside is in
    ap (given_some slots place word words) (sym found) ∙ given_is slots items word name words (Item place) all behind meant

pub given_fault : (slots items : List Slot) (word name : List ℕ) (words : List (List ℕ)) (place : ℕ) (slot : Slot) (fault : WordsFault) →
    items ≡ slots → name ≡ drop 1 word → Item place ≡ meant_switch items name → place < length items →
    slot ≡ get_or slots place slot → Means (given_values slot words) (Err fault) → Means (given slots word words) (Err fault)
given_fault slots items word name words place slot fault all behind meant within is means = λ other.
    means_err (given_values slot words) (λ some. Ok (slice_set slots place (slot_of slot.parameter some))) fault means
    (λ short. let one : fault ≡ NoMemory = cc in other (ap (λ f. Err f) one))
    ∙ given_item slots items word name words place slot all behind meant within is

pub given_well : (slots items inside : List Slot) (word name : List ℕ) (words some : List (List ℕ)) (place : ℕ) (slot : Slot) →
    items ≡ slots → inside ≡ slots → name ≡ drop 1 word → Item place ≡ meant_switch items name → place < length items →
    slot ≡ get_or slots place slot → Means (given_values slot words) (Ok some) →
    Means (given slots word words) (Ok (slice_set inside place (slot_of slot.parameter some)))
given_well slots items inside word name words some place slot all within_is behind meant within is means = λ other.
    ap (λ xs. Ok (slice_set xs place (slot_of slot.parameter some))) within_is
    ∙ ap (λ r. then_ok r (λ xs. Ok (slice_set slots place (slot_of slot.parameter xs))))
    (sym (means_ok (given_values slot words) some means))
    ∙ given_item slots items word name words place slot all behind meant within is

-- the first of some words, and the others
pub parts : {X : Type 0} (rest after : List X) (word : X) → 0 < length rest → word ≡ get_or rest 0 word →
    after ≡ take (length rest - 1) (drop 1 rest) → rest ≡ word ∷ after
parts [] after word some is behind = absurd (omega arith)
parts (x ∷ xs) after word some is behind =
    let same : word ≡ x = is in
    let count : length (x ∷ xs) - 1 ≡ length xs = omega arith in
    let others : after ≡ xs = behind ∙ ap (λ n. take n xs) count ∙ take-length xs in cc

read_part : {X : Type 0} (f : X → List ℕ) (slots : List Slot) (rest after : List X) (word : X) → rest ≡ word ∷ after →
    is_switch (f word) ≡ true →
    read_switches slots (map f rest) ≡ then_ok (given slots (f word) (front (map f after))) (λ some. read_switches some (map f after))
read_part f slots rest after word same switch =
    ap (λ xs. read_switches slots (map f xs)) same
    ∙ ap (λ b. cond b (then_ok (given slots (f word) (front (map f after))) (λ some. read_switches some (map f after)))
    (read_switches slots (map f after))) switch

-- a switch is refused
pub read_fault : {X : Type 0} (f : X → List ℕ) (m : Result (List Slot) WordsFault) (slots : List Slot) (rest after : List X) (word : X)
    (text : List ℕ) (values : List (List ℕ)) (fault : WordsFault) → rest ≡ word ∷ after → is_switch (f word) ≡ true → text ≡ f word →
    values ≡ front (map f after) → read_switches slots (map f rest) ≡ m → Means (given slots text values) (Err fault) → Means m (Err fault)
read_fault f m slots rest after word text values fault same switch texts fronts passed means = λ other.
    let is : Err fault ≡ given slots text values = means (λ short. let one : fault ≡ NoMemory = cc in other (ap (λ e. Err e) one)) in
    ap (λ r. then_ok r (λ some. read_switches some (map f after)))
    (is ∙ ap (λ t. given slots t values) texts ∙ ap (λ vs. given slots (f word) vs) fronts)
    ∙ sym (read_part f slots rest after word same switch) ∙ passed

-- a switch has its values
pub read_well : {X : Type 0} (f : X → List ℕ) (m : Result (List Slot) WordsFault) (slots next : List Slot) (rest after : List X) (word : X)
    (text : List ℕ) (values : List (List ℕ)) → rest ≡ word ∷ after → is_switch (f word) ≡ true → text ≡ f word →
    values ≡ front (map f after) → read_switches slots (map f rest) ≡ m → Means (given slots text values) (Ok next) →
    read_switches next (map f after) ≡ m
read_well f m slots next rest after word text values same switch texts fronts passed means =
    ap (λ r. then_ok r (λ some. read_switches some (map f after)))
    (sym (means_ok (given slots text values) next means) ∙ ap (λ t. given slots t values) texts ∙ ap (λ vs. given slots (f word) vs) fronts)
    ∙ sym (read_part f slots rest after word same switch) ∙ passed

-- a word that names an operation
pub command_item : {X : Type 0} (f : X → List ℕ) (tool : Tool) (items : List Operation) (all rest : List X) (word : X)
    (text : List ℕ) (place : ℕ) (o : Operation) (r : Result Command WordsFault) → all ≡ word ∷ rest → items ≡ operations_of tool → text ≡ f word →
    Item place ≡ meant_in operation_name items text → slice_get items place ≡ Some o → Means (command_of o (map f rest)) r →
    Means (meaning_of tool (map f all)) r
command_item f tool items all rest word text place o r same ops texts meant found means = λ other.
    means other
    ∙ ap (command_some (f word) (map f rest)) (sym found ∙ ap (λ xs. slice_get xs place) ops)
    ∙ ap (λ (m : Meant). command_by tool (f word) (map f rest) m)
    (meant ∙ ap (λ xs. meant_in operation_name xs text) ops ∙ ap (λ t. meant_in operation_name (operations_of tool) t) texts)
    ∙ sym (ap (λ xs. meaning_of tool (map f xs)) same)

-- the first switch that is missing is refused
pub judged_missing : (slots : List Slot) (chosen : ℕ) (slot : Slot) → chosen ≡ count_by is_chosen slots →
    Some slot ≡ find (λ s. is_missing chosen s) slots → Means (judged slots) (Err (MissingSwitch slot.parameter.switch))
judged_missing slots chosen slot is found = λ other.
    ap (unless_missing slots) (found ∙ ap (λ n. find (λ s. is_missing n s) slots) is)
