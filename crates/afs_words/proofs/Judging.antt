-- Switches that are judged well are good.
use Rattle.std.proofs.Common.{◌≡◌, ℕ, zero, suc, Bool, true, false, not, ◌&&◌, ◌||◌, cond, min, Option, Some, None, List, [], ◌∷◌, ◌++◌, length, take, count_by, Result, Ok, refl, sym, ap, ◌∙◌, subst}
use Rattle.std.specs.List.{find, list_all}
use Rattle.std.specs.Option.{option_or}
use Rattle.std.specs.Prelude.{option_map, slice_get}
use Rattle.std.proofs.Math.Seq.{take-append_seam}
use Rattle.std.proofs.lemmas.List.{take-map}
use Rattle.afs_words.specs.Good.{AreGood, is_good, is_required, rows_of}
use Rattle.afs_words.specs.Command.{Command}
use Rattle.afs_words.specs.Meaning.{Means, command_of, command_with, filled, first_bad, first_count, first_missing, front, judged, read_switches, slots_of, then_ok, unless_bad, unless_missing}
use Rattle.afs_words.specs.Slots.{bad_among, bad_value, is_chosen, is_given, is_missing, may_stand, must_stand}
use Rattle.afs_words.specs.Tables.{common_parameters, parameters_of}
use Rattle.afs_words.specs.Taken.{fits}
use Rattle.afs_words.specs.declared.faults.WordsFault.{WordsFault}
use Rattle.afs_words.specs.declared.faults.WordsFault.TheVariants.{BadValue}
use Rattle.afs_words.specs.declared.tables.Need.{Need}
use Rattle.afs_words.specs.declared.tables.Need.TheVariants.{Required, Optional, OneOf}
use Rattle.afs_words.specs.declared.tables.Operation.{Operation}
use Rattle.afs_words.specs.declared.tables.Parameter.{Parameter}
use Rattle.afs_words.specs.declared.tables.Takes.{Takes}
use Rattle.afs_words.specs.declared.values.Slot.{Slot}
use Rattle.afs_words.proofs.Answering.{means_ok}
use Rattle.afs_words.proofs.Shapes.{filled_rows, read_rows, then_parts}

pub both : (a b : Bool) → (a && b) ≡ true → (a ≡ true) × (b ≡ true)
both true b is = (refl, is)
both false b is = cc

-- what nothing is found in
unfound : {X : Type 0} (b : Bool) (x : X) (found : Option X) → cond b (Some x) found ≡ None → (b ≡ false) × (found ≡ None)
unfound true x found none = cc
unfound false x found none = (refl, none)

neither : {X : Type 0} (a b : Option X) → option_or a b ≡ None → (a ≡ None) × (b ≡ None)
neither None b none = (refl, none)
neither (Some x) b none = cc

unmapped : {X Y : Type 0} (f : X → Y) (o : Option X) → option_map f o ≡ None → o ≡ None
unmapped f None none = refl
unmapped f (Some x) none = cc

negated : (b : Bool) → not b ≡ false → b ≡ true
negated true is = refl
negated false is = cc

none_bad : (takes : Takes) (count : ℕ) (words : List (List ℕ)) → bad_among takes count words ≡ None → list_all (fits takes) words ≡ true
none_bad takes count [] none = refl
none_bad takes zero (word ∷ words) none = cc
none_bad takes (suc count) (word ∷ words) none =
    let test : List ℕ → Bool = λ (w : List ℕ). not (fits takes w) in
    let parts = neither (find test (take (suc count) (word ∷ words))) (slice_get (word ∷ words) (suc count)) none in
    let first = unfound (test word) word (find test (take count words)) parts.0 in
    let rest : bad_among takes count words ≡ None = ap (λ (o : Option (List ℕ)). option_or o (slice_get words count)) first.1 ∙ parts.1 in
    rw (negated (fits takes word) first.0) (none_bad takes count words rest)

stands : (chosen : ℕ) (need : Need) (given : Bool) → (must_stand chosen need && not given) ≡ false → (not (is_required need) || given) ≡ true
stands chosen Required given is = negated given is
stands chosen Optional given is = refl
stands chosen OneOf given is = refl

pub all_good : (named chosen : ℕ) (slots : List Slot) → find (λ slot. is_missing chosen slot) slots ≡ None
    → first_bad named chosen slots ≡ None → list_all is_good slots ≡ true
all_good named chosen [] missing bad = refl
all_good named chosen (slot ∷ slots) missing bad =
    let here = unfound (is_missing chosen slot) slot (find (λ s. is_missing chosen s) slots) missing in
    let tell : List ℕ → WordsFault = λ (word : List ℕ). BadValue word slot.parameter.switch in
    let parts = neither (option_map tell (bad_value named chosen slot)) (first_bad named chosen slots) bad in
    let takes = slot.parameter.takes in
    let most = min (may_stand takes named chosen (length slot.values)) (length slot.values) in
    let fit = none_bad takes most slot.values (unmapped tell (bad_value named chosen slot) parts.0) in
    rw (stands chosen slot.parameter.need (is_given slot) here.0, fit) (all_good named chosen slots here.1 parts.1)

unless_good : (slots after : List Slot) (bad : Option WordsFault) → unless_bad slots bad ≡ Ok after → (bad ≡ None) × (after ≡ slots)
unless_good slots after None well = (refl, cc)
unless_good slots after (Some fault) well = cc

found_good : (slots after : List Slot) (missing : Option Slot) → unless_missing slots missing ≡ Ok after
    → (missing ≡ None) × (first_bad (first_count slots) (count_by is_chosen slots) slots ≡ None) × (after ≡ slots)
found_good slots after None well =
    let parts = unless_good slots after (first_bad (first_count slots) (count_by is_chosen slots) slots) well in (refl, parts.0, parts.1)
found_good slots after (Some slot) well = cc

judged_good : (slots after : List Slot) → judged slots ≡ Ok after → (after ≡ slots) × (list_all is_good slots ≡ true)
judged_good slots after well =
    let parts = found_good slots after (first_missing slots) well in
    (parts.2, all_good (first_count slots) (count_by is_chosen slots) slots parts.0 parts.1)

first_all : {X : Type 0} (p : X → Bool) (count : ℕ) (xs : List X) → list_all p xs ≡ true → list_all p (take count xs) ≡ true
first_all p zero xs all = refl
first_all p (suc count) [] all = refl
first_all p (suc count) (x ∷ xs) all =
    let parts = both (p x) (list_all p xs) all in rw (parts.0) (first_all p count xs parts.1)

-- the own switches of an operation, once all of its words are read and judged
pub read_good : (own common : List Parameter) (words : List (List ℕ)) (slots : List Slot) → slots_of (own ++ common) words ≡ Ok slots
    → AreGood own (take (length own) slots)
read_good own common words slots well =
    let first = then_parts (filled [] (own ++ common) (front words)) (λ (some : List Slot). then_ok (read_switches some words) judged) slots well in
    let second = then_parts (read_switches first.0 words) judged slots first.2 in
    let third = judged_good second.0 slots second.2 in
    let rows : rows_of slots ≡ own ++ common =
    ap rows_of third.0 ∙ read_rows first.0 second.0 words second.1 ∙ filled_rows [] first.0 (own ++ common) (front words) first.1 in
    let all : list_all is_good slots ≡ true = ap (list_all is_good) third.0 ∙ third.1 in (
      sym (take-map (λ (slot : Slot). slot.parameter) (length own) slots) ∙ ap (take (length own)) rows ∙ take-append_seam own common,
      first_all is_good (length own) slots all,
    )

-- a command whose words are read, and its switches
pub command_made : (o : Operation) (words : List (List ℕ)) (rows : List Parameter) (slots own : List Slot)
    → rows ≡ parameters_of o ++ common_parameters → Means (slots_of rows words) (Ok slots) → own ≡ take (length (parameters_of o)) slots
    → (Ok (record { operation = o; switches = own }) ≡ command_of o words) × AreGood (parameters_of o) own
command_made o words rows slots own all means is =
    let whole : slots_of (parameters_of o ++ common_parameters) words ≡ Ok slots =
    ap (λ (ps : List Parameter). slots_of ps words) (sym all) ∙ means_ok (slots_of rows words) slots means in
    let to : List Slot → Result Command WordsFault = λ some. Ok (record { operation = o; switches = some }) in
    let end : Result (List Slot) WordsFault → Result Command WordsFault = λ r. then_ok r (λ some. Ok (command_with o some)) in (
      ap to is ∙ sym (ap end whole),
      subst (λ (some : List Slot). AreGood (parameters_of o) some) (sym is) (read_good (parameters_of o) common_parameters words slots whole),
    )
