-- Values of good switches have the forms of their rows, and switches that have to be given have one.
use Rattle.std.proofs.Common.{◌≡◌, ℕ, ◌<◌, zero, suc, Bool, true, ◌&&◌, Option, Some, None, List, [], ◌∷◌, length, refl, sym, ap, ◌∙◌, subst}
use Rattle.std.specs.List.{list_all}
use Rattle.std.specs.Option.{is_some}
use Rattle.std.specs.Prelude.{IsSome, option_map, slice_get}
use Rattle.std.proofs.lemmas.List.{length-map}
use Rattle.host_words.specs.Hosts.{address_of}
use Rattle.afs_commands.specs.Forms.{has_form}
use Rattle.afs_commands.specs.Partitions.{partition_of}
use Rattle.afs_commands.specs.declared.forms.Form.{Form}
use Rattle.afs_commands.specs.declared.forms.Form.TheVariants as form
use Rattle.afs_commands.specs.declared.forms.Value.{Value}
use Rattle.afs_commands.specs.declared.forms.Value.TheVariants as value
use Rattle.afs_words.specs.Given.{address_at, partition_at, value_at, values_at}
use Rattle.afs_words.specs.Good.{AreGood, is_good, rows_of}
use Rattle.afs_words.specs.Slots.{is_given, slot_of}
use Rattle.afs_words.specs.Tables.{row}
use Rattle.afs_words.specs.Taken.{fits, takes_at}
use Rattle.afs_words.specs.declared.tables.Need.{Need}
use Rattle.afs_words.specs.declared.tables.Need.TheVariants.{Required}
use Rattle.afs_words.specs.declared.tables.Parameter.{Parameter}
use Rattle.afs_words.specs.declared.tables.Switch.{Switch}
use Rattle.afs_words.specs.declared.tables.Takes.{Takes}
use Rattle.afs_words.specs.declared.tables.Takes.TheVariants.{One}
use Rattle.afs_words.specs.declared.values.Slot.{Slot}
use Rattle.afs_words.proofs.Judging.{both}

good_at : (slots : List Slot) (i : ℕ) (p : Parameter) → list_all is_good slots ≡ true → slice_get (rows_of slots) i ≡ Some p
    → is_good (slot_of p (values_at slots i)) ≡ true
good_at [] i p good there = cc
good_at (slot ∷ slots) zero p good there =
    let same : slot.parameter ≡ p = cc in
    subst (λ (q : Parameter). is_good (slot_of q slot.values) ≡ true) same (both (is_good slot) (list_all is_good slots) good).0
good_at (slot ∷ slots) (suc i) p good there = good_at slots i p (both (is_good slot) (list_all is_good slots) good).1 there

good_in : (rows : List Parameter) (slots : List Slot) (i : ℕ) (p : Parameter) → AreGood rows slots → slice_get rows i ≡ Some p
    → is_good (slot_of p (values_at slots i)) ≡ true
good_in rows slots i p good there = good_at slots i p good.1 (ap (λ (rs : List Parameter). slice_get rs i) good.0 ∙ there)

first_value : (s : Switch) (f : Form) (words : List (List ℕ)) → is_good (slot_of (row s Required (One f)) words) ≡ true
    → (word : List ℕ) × (slice_get words 0 ≡ Some word) × (has_form f word ≡ true)
first_value s f [] good = cc
first_value s f (word ∷ words) good =
    let given : Bool = is_given (slot_of (row s Required (One f)) (word ∷ words)) in
    let parts = both given (has_form f word && list_all (fits (One f)) words) good in
    (word, refl, (both (has_form f word) (list_all (fits (One f)) words) parts.1).0)

found : (rows : List Parameter) (slots : List Slot) (i : ℕ) (s : Switch) (f : Form) → AreGood rows slots
    → slice_get rows i ≡ Some (row s Required (One f))
    → (word : List ℕ) × (value_at slots i ≡ Some word) × (has_form f word ≡ true)
found rows slots i s f good there = first_value s f (values_at slots i) (good_in rows slots i (row s Required (One f)) good there)

pub has_value : (rows : List Parameter) (slots : List Slot) (i : ℕ) (s : Switch) (f : Form) → AreGood rows slots
    → slice_get rows i ≡ Some (row s Required (One f)) → IsSome (value_at slots i)
has_value rows slots i s f good there = let p = found rows slots i s f good there in rw p.1 refl

is_inside : {X : Type 0} (make : X → Value) (o : Option X) → is_some (option_map make o) ≡ true → is_some o ≡ true
is_inside make None is = is
is_inside make (Some x) is = refl

pub has_address : (rows : List Parameter) (slots : List Slot) (i : ℕ) (s : Switch) → AreGood rows slots
    → slice_get rows i ≡ Some (row s Required (One form.Address)) → IsSome (address_at slots i)
has_address rows slots i s good there =
    let p = found rows slots i s form.Address good there in rw p.1 (is_inside value.Number (address_of p.0) p.2)

pub has_partition : (rows : List Parameter) (slots : List Slot) (i : ℕ) (s : Switch) → AreGood rows slots
    → slice_get rows i ≡ Some (row s Required (One form.Partition)) → IsSome (partition_at slots i)
has_partition rows slots i s good there =
    let p = found rows slots i s form.Partition good there in rw p.1 (is_inside value.Number (partition_of p.0) p.2)

-- there is a switch for each row
pub within : (rows : List Parameter) (slots : List Slot) (i : ℕ) → AreGood rows slots → i < length rows → i < length slots
within rows slots i good low =
    let same : length slots ≡ length rows = sym (length-map slots (λ (slot : Slot). slot.parameter)) ∙ ap length good.0 in
    subst (λ (n : ℕ). i < n) (sym same) low

pub all_fit : (rows : List Parameter) (slots : List Slot) (i : ℕ) (s : Switch) (n : Need) (t : Takes) → AreGood rows slots
    → slice_get rows i ≡ Some (row s n t) → list_all (fits t) (values_at slots i) ≡ true
all_fit rows slots i s n t good there = (both _ (list_all (fits t) (values_at slots i)) (good_in rows slots i (row s n t) good there)).1

row_takes : (slots : List Slot) (i : ℕ) (p : Parameter) → slice_get (rows_of slots) i ≡ Some p → takes_at slots i ≡ Some p.takes
row_takes [] i p there = cc
row_takes (slot ∷ slots) zero p there = let same : slot.parameter ≡ p = cc in ap (λ (q : Parameter). Some q.takes) same
row_takes (slot ∷ slots) (suc i) p there = row_takes slots i p there

-- what the switch at a place takes, by the table
pub takes_in : (rows : List Parameter) (slots : List Slot) (i : ℕ) (s : Switch) (n : Need) (t : Takes) → AreGood rows slots
    → slice_get rows i ≡ Some (row s n t) → takes_at slots i ≡ Some t
takes_in rows slots i s n t good there = row_takes slots i (row s n t) (ap (λ (rs : List Parameter). slice_get rs i) good.0 ∙ there)
