-- The values of a command that was understood have the forms of its table; names are such as a call takes.
use Rattle.std.proofs.Common.{◌≡◌, ℕ, Bool, true, false, List, [], ◌∷◌, ◌++◌, length, Option, Some, None, Result, Ok, refl, subst, arith}
use Rattle.std.specs.Prelude.{◌&&◌, nat_le, if◌then◌else◌, IfSome, option_map, slice_get, unwrap_or}
use Rattle.std.specs.List.{AllByRecursion, list_all}
use Rattle.std.specs.Option.{is_some}
use Rattle.afs_commands.specs.Forms.{has_form}
use Rattle.afs_commands.specs.Names.{is_entry, is_volume}
use Rattle.afs_commands.specs.declared.forms.Form.{Form}
use Rattle.afs_commands.specs.declared.forms.Form.TheVariants as form
use Rattle.afs_commands.specs.declared.forms.Value.{Value}
use Rattle.afs_commands.specs.declared.forms.Value.TheVariants as value
use Rattle.afs_words.specs.Command.{Command}
use Rattle.afs_words.specs.Given.{values_at}
use Rattle.afs_words.specs.Good.{AreGood}
use Rattle.afs_words.specs.Matching.{meant_in}
use Rattle.afs_words.specs.Meaning.{command_by, command_of, command_some, command_with, meaning_of, slots_of}
use Rattle.afs_words.specs.Tables.{common_parameters, operation_name, operations_of, parameters_of, row}
use Rattle.afs_words.specs.Taken.{fits}
use Rattle.afs_words.specs.declared.faults.WordsFault.{WordsFault}
use Rattle.afs_words.specs.declared.matching.Meant.{Meant}
use Rattle.afs_words.specs.declared.matching.Meant.TheVariants.{Unknown, Ambiguous, Item}
use Rattle.afs_words.specs.declared.tables.Need.{Need}
use Rattle.afs_words.specs.declared.tables.Operation.{Operation}
use Rattle.afs_words.specs.declared.tables.Parameter.{Parameter}
use Rattle.afs_words.specs.declared.tables.Switch.{Switch}
use Rattle.afs_words.specs.declared.tables.Takes.{Takes}
use Rattle.afs_words.specs.declared.tables.Tool.{Tool}
use Rattle.afs_words.specs.declared.values.Slot.{Slot}
use Rattle.afs_words.proofs.Judging.{read_good}
use Rattle.afs_words.proofs.Required.{all_fit}
use Rattle.afs_words.proofs.Shapes.{then_parts}

-- a name that a call takes
abbrev pub IsShort : List ℕ → Type 0
IsShort word = nat_le (length word) 255 ≡ true

pub first_true : (a b : Bool) → (a && b) ≡ true → a ≡ true
first_true true b both = refl
first_true false b both = both

pub second_true : (a b : Bool) → (a && b) ≡ true → b ≡ true
second_true true b both = both
second_true false b both = cc

pub some_same : {X : Type 0} (x y : X) → Some x ≡ Some y → x ≡ y
some_same x y is = cc

-- what holds of a value that a test lets through
pub let_through : {X : Type 0} (P : X → Type 0) (b : Bool) (was x : X) → (if b then Some was else None) ≡ Some x → P was → P x
let_through P true was x is holds = subst P (some_same was x is) holds
let_through P false was x is holds = cc

abbrev found : {X : Type 0} → X → Result X WordsFault
found x = Ok x

ok_same : {X : Type 0} (x y : X) → found x ≡ found y → x ≡ y
ok_same x y is = cc

-- A command has the switches of its table, none of them missing and no value bad.
abbrev pub Fitting : Command → Type 0
Fitting c = AreGood (parameters_of c.operation) c.switches

command_fits : (o : Operation) (words : List (List ℕ)) (c : Command) → command_of o words ≡ Ok c → Fitting c
command_fits o words c is =
    let whole = then_parts (slots_of (parameters_of o ++ common_parameters) words)
    (λ (slots : List Slot). Ok (command_with o slots)) c is in
    subst (λ (d : Command). Fitting d) (ok_same _ c whole.2) (read_good (parameters_of o) common_parameters words whole.0 whole.1)

some_fits : (word : List ℕ) (words : List (List ℕ)) (found : Option Operation) (c : Command) → command_some word words found ≡ Ok c
    → Fitting c
some_fits word words None c is = cc
some_fits word words (Some o) c is = command_fits o words c is

meant_fits : (tool : Tool) (word : List ℕ) (words : List (List ℕ)) (meant : Meant) (c : Command)
    → command_by tool word words meant ≡ Ok c → Fitting c
meant_fits tool word words Unknown c is = cc
meant_fits tool word words Ambiguous c is = cc
meant_fits tool word words (Item place) c is = some_fits word words (slice_get (operations_of tool) place) c is

-- a command that words mean
pub meaning_fits : (tool : Tool) (words : List (List ℕ)) (c : Command) → meaning_of tool words ≡ Ok c → Fitting c
meaning_fits tool [] c is = cc
meaning_fits tool (word ∷ words) c is = meant_fits tool word words (meant_in operation_name (operations_of tool) word) c is

pub first_same : {X : Type 0} (x y : X) (xs ys : List X) → x ∷ xs ≡ y ∷ ys → x ≡ y
first_same x y xs ys is = cc

pub others_same : {X : Type 0} (x y : X) (xs ys : List X) → x ∷ xs ≡ y ∷ ys → xs ≡ ys
others_same x y xs ys is = cc

-- what a name is let through as is read only where its test holds
let_name : {X : Type 0} (make : X → Value) (b : Bool) (x : X) → is_some (option_map make (if b then Some x else None)) ≡ true → b ≡ true
let_name make true x is = refl
let_name make false x is = cc

let_word : (b : Bool) → is_some (if b then Some value.Word else None) ≡ true → b ≡ true
let_word true is = refl
let_word false is = cc

-- the forms of which names are
abbrev pub IsNameForm : Form → Type 0
IsNameForm f = (word : List ℕ) → has_form f word ≡ true → IsShort word

pub volume_name : IsNameForm form.Volume
volume_name word is = first_true (nat_le (length word) 255) _ (let_name value.Volume (is_volume word) word is)

pub entry_name : IsNameForm form.Entry
entry_name word is = first_true (nat_le (length word) 255) _ (let_name value.Entry (is_entry word) word is)

pub new_name : IsNameForm form.NewName
new_name word is = let_word (nat_le (length word) 255) is

pub new_volume_name : IsNameForm form.NewVolume
new_volume_name word is = let low : nat_le (length word) 22 ≡ true = let_word (nat_le (length word) 22) is in grind arith

all_short : (p : List ℕ → Bool) (values : List (List ℕ)) → list_all p values ≡ true → ((word : List ℕ) → p word ≡ true → IsShort word)
    → AllByRecursion IsShort values
all_short p [] all name = tt
all_short p (word ∷ values) all name = (name word (first_true (p word) _ all), all_short p values (second_true (p word) _ all) name)

-- the values of the switch at a place of the table, where its form is one of names
pub names_at : (rows : List Parameter) (slots : List Slot) (place : ℕ) (switch : Switch) (need : Need) (takes : Takes) → AreGood rows slots
    → slice_get rows place ≡ Some (row switch need takes) → ((word : List ℕ) → fits takes word ≡ true → IsShort word)
    → AllByRecursion IsShort (values_at slots place)
names_at rows slots place switch need takes good there name =
    all_short (fits takes) (values_at slots place) (all_fit rows slots place switch need takes good there) name

pub first_short : (values : List (List ℕ)) → AllByRecursion IsShort values → IfSome (slice_get values 0) IsShort
first_short [] short = tt
first_short (word ∷ values) short = short.0

pub some_short : (values : List (List ℕ)) → AllByRecursion IsShort values → IsShort (unwrap_or (slice_get values 0) [])
some_short [] short = refl
some_short (word ∷ values) short = short.0
