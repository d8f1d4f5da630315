-- The text of changes, written change by change.
use Rattle.std.proofs.Common.{◌≡◌, ℕ, ◌+◌, ◌<◌, ◌^◌, List, [], ◌∷◌, ◌++◌, length, take, get_or, ap, sym, ◌∙◌, append_assoc, arith}
use Rattle.std.specs.List.{flat_map}
use Rattle.std.proofs.lemmas.Grind.{flat_map-append}
use Rattle.std.proofs.lemmas.List.{take_more, append-nil}
use Rattle.std.proofs.lemmas.List.Folds.{length-flat_map-take}
use Rattle.ubik_types.specs.declared.images.Change.{Change}
use Rattle.xdr_base.specs.ChangeText.{change_spelling, text_of}

-- a change is no longer than the whole text
pub change-fits : (changes : List Change) (i : ℕ) (d : Change) → i < length changes → length (text_of changes) < 2 ^ 32 → length (change_spelling (get_or changes i d)) < 2 ^ 32
change-fits changes i d inside fits = omega (arith, length-flat_map-take change_spelling changes i d inside)

-- one more change
pub text-more : (changes : List Change) (text : List ℕ) (i : ℕ) (d : Change) → i < length changes → text ≡ text_of (take i changes) → text ++ change_spelling (get_or changes i d) ≡ text_of (take (i + 1) changes)
text-more changes text i d inside so_far =
    let next : take (i + 1) changes ≡ take i changes ++ get_or changes i d ∷ [] = take_more changes i d inside in
    let one : flat_map change_spelling (get_or changes i d ∷ []) ≡ change_spelling (get_or changes i d) = append-nil (change_spelling (get_or changes i d)) in
    ap (λ (those : List ℕ). those ++ change_spelling (get_or changes i d)) so_far
    ∙ sym (ap (λ (those : List ℕ). text_of (take i changes) ++ those) one)
    ∙ sym (flat_map-append change_spelling (take i changes) (get_or changes i d ∷ []))
    ∙ sym (ap (λ (those : List Change). text_of those) next)

-- three parts are written, one behind the other
pub put-spelled : (before one two three a b c : List ℕ) → one ≡ before ++ a → two ≡ one ++ b → three ≡ two ++ c → three ≡ before ++ (a ++ (b ++ c))
put-spelled before one two three a b c first second third =
    third
    ∙ ap (λ (those : List ℕ). those ++ c) (second ∙ ap (λ (those : List ℕ). those ++ b) first)
    ∙ append_assoc (before ++ a) b c
    ∙ append_assoc before a (b ++ c)
