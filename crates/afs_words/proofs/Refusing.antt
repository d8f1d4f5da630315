-- How switches are refused whose values are bad.
use Rattle.std.proofs.Common.{◌≡◌, ◌≢◌, ◌<◌, ℕ, suc, Option, Some, None, List, ◌∷◌, length, drop, drop-cons, get_or, Err, refl, sym, ap, ◌∙◌}
use Rattle.std.specs.Option.{option_or}
use Rattle.afs_words.specs.Meaning.{Means, bad_in, first_bad, unless_bad}
use Rattle.afs_words.specs.declared.faults.WordsFault.{WordsFault}
use Rattle.afs_words.specs.declared.faults.WordsFault.TheVariants.{NoMemory}
use Rattle.afs_words.specs.declared.values.Slot.{Slot}

-- one is, unless memory ran out
pub one_refused : {A : Type 0} (x : A) (bad : Option WordsFault) (fault : WordsFault) → (fault ≢ NoMemory → bad ≡ Some fault)
    → Means (unless_bad x bad) (Err fault)
one_refused x bad fault is = λ other. sym (ap (unless_bad x) (is (λ short. other (ap (λ f. Err f) short))))

this_bad : {A : Type 0} (x : A) (bad : Option WordsFault) (fault : WordsFault) → Err fault ≡ unless_bad x bad → bad ≡ Some fault
this_bad x None fault is = cc
this_bad x (Some other) fault is = cc

-- what was refused has one, unless memory ran out
pub was_refused : {A : Type 0} (x : A) (bad : Option WordsFault) (fault : WordsFault) → Means (unless_bad x bad) (Err fault) → fault ≢ NoMemory
    → bad ≡ Some fault
was_refused x bad fault means other = this_bad x bad fault (means (λ short. let same : fault ≡ NoMemory = cc in other same))

-- the first of the switches behind these has a bad value
pub first_refused : (slots : List Slot) (i named chosen : ℕ) (slot : Slot) (fault : WordsFault) → i < length slots → slot ≡ get_or slots i slot
    → first_bad named chosen (drop i slots) ≡ first_bad named chosen slots → Means (unless_bad slot (bad_in named chosen slot)) (Err fault)
    → Means (unless_bad slots (first_bad named chosen slots)) (Err fault)
first_refused slots i named chosen slot fault low is so_far means =
    let behind : List Slot = drop (suc i) slots in
    let here : drop i slots ≡ slot ∷ behind = drop-cons slots i slot low ∙ ap (λ (s : Slot). s ∷ behind) (sym is) in
    one_refused slots (first_bad named chosen slots) fault
    (λ other. sym so_far ∙ ap (first_bad named chosen) here
    ∙ ap (λ (o : Option WordsFault). option_or o (first_bad named chosen behind)) (was_refused slot (bad_in named chosen slot) fault means other))
