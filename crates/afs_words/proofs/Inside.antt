-- What values were read as, by the forms that their rows have.
use Rattle.std.proofs.Common.{◌≡◌, ℕ, ℤ, zero, suc, ◌<◌, Bool, true, false, cond, Option, Some, None, List, [], ◌∷◌, length, map, take, Result, Ok, Err, IfOk, refl, sym, ap, ◌∙◌, subst}
use Rattle.std.specs.Prelude.{IsSome, option_and_then, option_map, slice_get, unwrap_or}
use Rattle.std.specs.List.{list_all}
use Rattle.std.specs.Option.{is_some}
use Rattle.std.proofs.lemmas.List.{length-map, take-map}
use Rattle.std.proofs.lemmas.Option.{slice_get_within}
use Rattle.script_words.specs.Numbers.{number_within, signed_of}
use Rattle.host_words.specs.Hosts.{address_of}
use Rattle.afs_commands.specs.Accesses.{access_of, access_word, are_changes, are_sights}
use Rattle.afs_commands.specs.Forms.{access_in, entry_in, number_in, signed_in, user_id_of, group_id_of, volume_in}
use Rattle.afs_commands.specs.Names.{entry_of, is_entry, is_volume, volume_of}
use Rattle.afs_commands.specs.Partitions.{partition_of}
use Rattle.afs_commands.specs.declared.accesses.Access.{Access}
use Rattle.afs_commands.specs.declared.forms.Form.TheVariants as form
use Rattle.afs_commands.specs.declared.forms.TheConstants.{MAX_NEW_ID}
use Rattle.afs_commands.specs.declared.forms.Value.{Value}
use Rattle.afs_commands.specs.declared.forms.Value.TheVariants as value
use Rattle.afs_words.specs.Given.{address_at, new_id_at, number_at, partition_at, value_at, values_at}
use Rattle.afs_words.specs.Making.{AreIds}
use Rattle.afs_words.specs.Taken.{AreRead, read_at, read_by, read_in, takes_at}
use Rattle.afs_words.specs.declared.tables.Takes.{Takes}
use Rattle.afs_words.specs.declared.tables.Takes.TheVariants.{One, Many, EachOfFirst}
use Rattle.afs_words.specs.declared.values.Slot.{Slot}
use Rattle.afs_words.proofs.Written.{group_signed, user_signed}

some_same : {X : Type 0} (x y : X) → Some x ≡ Some y → x ≡ y
some_same x y is = cc

-- what is in a value that was made of something
made : {X : Type 0} (make : X → Value) (inside : Value → Option X) → ((x : X) → inside (make x) ≡ Some x) → (o : Option X) (v : Value)
    → option_map make o ≡ Some v → inside v ≡ o
made make inside back None v is = cc
made make inside back (Some x) v is = ap inside (sym (some_same (make x) v is)) ∙ back x

-- What a switch that takes this form reads a word as has this inside.
abbrev pub Holds : {X : Type 0} → Takes → (Value → Option X) → (List ℕ → Option X) → Type 0
Holds t inside what = (word : List ℕ) (v : Value) → read_by t word ≡ Some v → inside v ≡ what word

pub address_holds : Holds (One form.Address) number_in address_of
address_holds word v is = made value.Number number_in (λ n. refl) (address_of word) v is

pub partition_holds : Holds (One form.Partition) number_in partition_of
partition_holds word v is = made value.Number number_in (λ n. refl) (partition_of word) v is

pub new_id_holds : Holds (One form.NewVolumeId) number_in (number_within 1 MAX_NEW_ID)
new_id_holds word v is = made value.Number number_in (λ n. refl) (number_within 1 MAX_NEW_ID word) v is

pub signed_holds : Holds (One form.Signed) signed_in signed_of
signed_holds word v is = made value.Signed signed_in (λ n. refl) (signed_of word) v is

number_of_some : (o : Option ℤ) (word : List ℕ) (v : Value) → ((n : ℤ) → o ≡ Some n → signed_of word ≡ Some n) → option_map value.Signed o ≡ Some v
    → signed_in v ≡ signed_of word
number_of_some None word v written is = cc
number_of_some (Some n) word v written is = made value.Signed signed_in (λ m. refl) (Some n) v is ∙ sym (written n refl)

pub user_ids_hold : Holds (EachOfFirst form.UserId) signed_in signed_of
user_ids_hold word v is = number_of_some (user_id_of word) word v (user_signed word) is

pub group_ids_hold : Holds (EachOfFirst form.GroupId) signed_in signed_of
group_ids_hold word v is = number_of_some (group_id_of word) word v (group_signed word) is

-- a word that a test lets through is kept
kept : (make : List ℕ → Value) (inside : Value → Option (List ℕ)) → ((w : List ℕ) → inside (make w) ≡ Some w) → (b : Bool) (word : List ℕ) (v : Value)
    → option_map make (cond b (Some word) None) ≡ Some v → inside v ≡ Some word
kept make inside back true word v is = made make inside back (Some word) v is
kept make inside back false word v is = cc

pub volume_holds : Holds (One form.Volume) volume_in Some
volume_holds word v is = kept value.Volume volume_in (λ w. refl) (is_volume word) word v is

pub volumes_hold : Holds (Many form.Volume) volume_in Some
volumes_hold word v is = kept value.Volume volume_in (λ w. refl) (is_volume word) word v is

pub entry_holds : Holds (One form.Entry) entry_in Some
entry_holds word v is = kept value.Entry entry_in (λ w. refl) (is_entry word) word v is

pub entries_hold : Holds (Many form.Entry) entry_in Some
entries_hold word v is = kept value.Entry entry_in (λ w. refl) (is_entry word) word v is

abbrev pub access_in_word : Value → Option (List ℕ)
access_in_word v = option_map access_word (access_in v)

spelled : (word : List ℕ) (b : Bool) (a : Access) (v : Value) → access_word a ≡ word → option_map value.Access (cond b (Some a) None) ≡ Some v
    → access_in_word v ≡ Some word
spelled word true a v spells is = ap access_in_word (sym (some_same (value.Access a) v is)) ∙ ap (λ (w : List ℕ). Some w) spells
spelled word false a v spells is = cc

pub access_holds : Holds (One form.Access) access_in_word Some
access_holds [] v is = cc
access_holds (a ∷ []) v is = cc
access_holds (a ∷ b ∷ []) v is = cc
access_holds (a ∷ b ∷ c ∷ []) v is = cc
access_holds (a ∷ b ∷ c ∷ d ∷ []) v is = cc
access_holds (a ∷ b ∷ c ∷ d ∷ e ∷ []) v is =
    spelled (a ∷ b ∷ c ∷ d ∷ e ∷ []) _ (record { status = a; owned = b; membership = c; add = d; remove = e }) v refl is
access_holds (a ∷ b ∷ c ∷ d ∷ e ∷ f ∷ word) v is = cc

-- the first of some values, and what it is read as
first_mapped : {X Y : Type 0} (f : X → Y) (xs : List X) → slice_get (map f xs) 0 ≡ option_map f (slice_get xs 0)
first_mapped f [] = refl
first_mapped f (x ∷ xs) = refl

in_slot : (found : Option Slot) (t : Takes) → option_map (λ (slot : Slot). slot.parameter.takes) found ≡ Some t
    → unwrap_or (option_map read_in found) [] ≡ map (read_by t) (unwrap_or (option_map (λ (slot : Slot). slot.values) found) [])
in_slot None t is = cc
in_slot (Some slot) t is = ap (λ (u : Takes). map (read_by u) slot.values) (some_same slot.parameter.takes t is)

-- what the values at a place are read as
all_read : (slots : List Slot) (place : ℕ) (t : Takes) → takes_at slots place ≡ Some t → read_at slots place ≡ map (read_by t) (values_at slots place)
all_read slots place t is = in_slot (slice_get slots place) t is

first_read : (slots : List Slot) (place : ℕ) (t : Takes) → takes_at slots place ≡ Some t
    → slice_get (read_at slots place) 0 ≡ option_map (read_by t) (value_at slots place)
first_read slots place t is =
    ap (λ (xs : List (Option Value)). slice_get xs 0) (all_read slots place t is) ∙ first_mapped (read_by t) (values_at slots place)

within_found : (slots : List Slot) (place : ℕ) (found : Option Slot) (t : Takes) → slice_get slots place ≡ found
    → option_map (λ (slot : Slot). slot.parameter.takes) found ≡ Some t → place < length slots
within_found slots place None t at is = cc
within_found slots place (Some slot) t at is = slice_get_within slots place slot at

-- a place whose switch takes something
pub place_within : (slots : List Slot) (place : ℕ) (t : Takes) → takes_at slots place ≡ Some t → place < length slots
place_within slots place t is = within_found slots place (slice_get slots place) t refl is

inside_of : {X : Type 0} (t : Takes) (inside : Value → Option X) (what : List ℕ → Option X) → Holds t inside what → (r : Option Value) (word : Option (List ℕ))
    → option_map Some r ≡ option_map (read_by t) word → option_and_then inside r ≡ option_and_then what word
inside_of t inside what holds None None is = refl
inside_of t inside what holds None (Some word) is = cc
inside_of t inside what holds (Some v) None is = cc
inside_of t inside what holds (Some v) (Some word) is = holds word v (sym (some_same (Some v) (read_by t word) is))

-- what is inside of the first value at a place
pub first_inside : {X : Type 0} (t : Takes) (inside : Value → Option X) (what : List ℕ → Option X) → Holds t inside what → (slots : List Slot) (place : ℕ)
    → takes_at slots place ≡ Some t → (r : Option Value) → option_map Some r ≡ slice_get (read_at slots place) 0
    → option_and_then inside r ≡ option_and_then what (value_at slots place)
first_inside t inside what holds slots place takes r is =
    inside_of t inside what holds r (value_at slots place) (is ∙ first_read slots place t takes)

as_it_is : {X : Type 0} (o : Option X) → option_and_then Some o ≡ o
as_it_is None = refl
as_it_is (Some x) = refl

-- the word of the first value at a place, which is kept in what it is read as
pub first_word : (t : Takes) (inside : Value → Option (List ℕ)) → Holds t inside Some → (slots : List Slot) (place : ℕ)
    → takes_at slots place ≡ Some t → (r : Option Value) → option_map Some r ≡ slice_get (read_at slots place) 0
    → option_and_then inside r ≡ value_at slots place
first_word t inside holds slots place takes r is =
    first_inside t inside Some holds slots place takes r is ∙ as_it_is (value_at slots place)

each_inside : {X : Type 0} (t : Takes) (inside : Value → Option X) (what : List ℕ → Option X) → Holds t inside what → (vs : List Value) (words : List (List ℕ))
    → map Some vs ≡ map (read_by t) words → map inside vs ≡ map what words
each_inside t inside what holds [] [] is = refl
each_inside t inside what holds [] (word ∷ words) is = cc
each_inside t inside what holds (v ∷ vs) [] is = cc
each_inside t inside what holds (v ∷ vs) (word ∷ words) is =
    let first : Some v ≡ read_by t word = cc in
    let rest : map Some vs ≡ map (read_by t) words = cc in
    let here : inside v ≡ what word = holds word v (sym first) in
    let behind : map inside vs ≡ map what words = each_inside t inside what holds vs words rest in
    cc

-- what is inside of all values at a place
pub all_inside : {X : Type 0} (t : Takes) (inside : Value → Option X) (what : List ℕ → Option X) → Holds t inside what → (slots : List Slot) (place : ℕ)
    → takes_at slots place ≡ Some t → (vs : List Value) → map Some vs ≡ read_at slots place → map inside vs ≡ map what (values_at slots place)
all_inside t inside what holds slots place takes vs is =
    each_inside t inside what holds vs (values_at slots place) (is ∙ all_read slots place t takes)

is_made : {X : Type 0} (make : X → Value) (inside : Value → Option X) → ((x : X) → inside (make x) ≡ Some x) → (o : Option X) (v : Value)
    → option_map make o ≡ Some v → is_some (inside v) ≡ true
is_made make inside back None v is = cc
is_made make inside back (Some x) v is = ap is_some (made make inside back (Some x) v is)

-- What a switch that takes this form reads a word as has something inside.
abbrev pub Fills : {X : Type 0} → Takes → (Value → Option X) → Type 0
Fills t inside = (word : List ℕ) (v : Value) → read_by t word ≡ Some v → is_some (inside v) ≡ true

pub volumes_fill : Fills (Many form.Volume) volume_in
volumes_fill word v is = is_made value.Volume volume_in (λ w. refl) (volume_of word) v is

pub entries_fill : Fills (Many form.Entry) entry_in
entries_fill word v is = is_made value.Entry entry_in (λ w. refl) (entry_of word) v is

pub user_ids_fill : Fills (EachOfFirst form.UserId) signed_in
user_ids_fill word v is = is_made value.Signed signed_in (λ n. refl) (user_id_of word) v is

pub group_ids_fill : Fills (EachOfFirst form.GroupId) signed_in
group_ids_fill word v is = is_made value.Signed signed_in (λ n. refl) (group_id_of word) v is

each_filled : {X : Type 0} (t : Takes) (inside : Value → Option X) → Fills t inside → (vs : List Value) (words : List (List ℕ))
    → map Some vs ≡ map (read_by t) words → list_all (λ v. is_some (inside v)) vs ≡ true
each_filled t inside fills [] words is = refl
each_filled t inside fills (v ∷ vs) [] is = cc
each_filled t inside fills (v ∷ vs) (word ∷ words) is =
    let first : Some v ≡ read_by t word = cc in
    let rest : map Some vs ≡ map (read_by t) words = cc in
    rw (fills word v (sym first)) (each_filled t inside fills vs words rest)

-- all values at a place have something inside
pub all_filled : {X : Type 0} (t : Takes) (inside : Value → Option X) → Fills t inside → (slots : List Slot) (place : ℕ)
    → takes_at slots place ≡ Some t → (vs : List Value) → map Some vs ≡ read_at slots place → list_all (λ v. is_some (inside v)) vs ≡ true
all_filled t inside fills slots place takes vs is =
    each_filled t inside fills vs (values_at slots place) (is ∙ all_read slots place t takes)

unwrapped : {X : Type 0} (xs ys : List X) → map Some xs ≡ map Some ys → xs ≡ ys
unwrapped [] [] is = refl
unwrapped [] (y ∷ ys) is = cc
unwrapped (x ∷ xs) [] is = cc
unwrapped (x ∷ xs) (y ∷ ys) is =
    let first : x ≡ y = cc in let rest : map Some xs ≡ map Some ys = cc in let others = unwrapped xs ys rest in cc

-- the words of all values at a place, which are kept in what they are read as
pub all_words : (t : Takes) (inside : Value → Option (List ℕ)) → Holds t inside Some → (slots : List Slot) (place : ℕ) → takes_at slots place ≡ Some t
    → (vs : List Value) (words : List (List ℕ)) → map Some vs ≡ read_at slots place → map Some words ≡ map inside vs → words ≡ values_at slots place
all_words t inside holds slots place takes vs words read are =
    unwrapped words (values_at slots place) (are ∙ all_inside t inside Some holds slots place takes vs read)

-- as many lists of values as switches
pub read_within : (slots : List Slot) (read : List (List Value)) (place : ℕ) → AreRead slots read → place < length slots → place < length read
read_within slots read place is low =
    let same : length slots ≡ length read = sym (length-map slots read_in) ∙ ap length (sym is) ∙ length-map read (λ (vs : List Value). map Some vs) in
    subst (λ (n : ℕ). place < n) same low

-- the values of the switch at a place
pub read_there : (slots : List Slot) (read : List (List Value)) (place : ℕ) (vs : List Value) → AreRead slots read → slice_get read place ≡ Some vs
    → map Some vs ≡ read_at slots place
read_there [] [] place vs is at = cc
read_there [] (r ∷ read) place vs is at = cc
read_there (slot ∷ slots) [] place vs is at = cc
read_there (slot ∷ slots) (r ∷ read) zero vs is at =
    let first : map Some r ≡ read_in slot = cc in let same : r ≡ vs = cc in ap (map Some) (sym same) ∙ first
read_there (slot ∷ slots) (r ∷ read) (suc place) vs is at =
    let rest : AreRead slots read = cc in read_there slots read place vs rest at

-- the first so many of them
pub truncated : (slots : List Slot) (read : List (List Value)) (count : ℕ) → AreRead slots read → AreRead (take count slots) (take count read)
truncated slots read count is =
    sym (take-map (λ (vs : List Value). map Some vs) count read) ∙ ap (take count) is ∙ take-map read_in count slots

kept_of : (t : Takes) (inside : Value → Option (List ℕ)) → Holds t inside Some → (v : Value) (word : Option (List ℕ))
    → Some (Some v) ≡ option_map (read_by t) word → (w : List ℕ) × (word ≡ Some w) × (inside v ≡ Some w)
kept_of t inside holds v None is = cc
kept_of t inside holds v (Some w) is = (w, refl, holds w v (sym (some_same (Some v) (read_by t w) is)))

-- the first value at a place, and the word that it keeps
pub first_kept : (t : Takes) (inside : Value → Option (List ℕ)) → Holds t inside Some → (slots : List Slot) (place : ℕ) → takes_at slots place ≡ Some t
    → (v : Value) → Some (Some v) ≡ slice_get (read_at slots place) 0
    → (w : List ℕ) × (value_at slots place ≡ Some w) × (inside v ≡ Some w)
first_kept t inside holds slots place takes v is =
    kept_of t inside holds v (value_at slots place) (is ∙ first_read slots place t takes)

pub if_ok : {A E : Type 0} (P Q : A → Type 0) (r : Result A E) → ((x : A) → P x → Q x) → IfOk r P → IfOk r Q
if_ok P Q (Ok x) step is = step x is
if_ok P Q (Err e) step is = tt
