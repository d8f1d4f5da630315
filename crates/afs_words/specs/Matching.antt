-- Which of several names a word means.
use Rattle.std.specs.Prelude.{ℕ, ◌==◌, nat_eq, if◌then◌else◌, List, Option, Some, None, position, count_by}
use Rattle.std.specs.List.{starts_with}
use Rattle.std.specs.Str.{bytes_eq}
use Rattle.afs_words.specs.declared.matching.Meant.{Meant}
use Rattle.afs_words.specs.declared.matching.Meant.TheVariants.{Unknown, Ambiguous, Item}

-- where the only name stands that a word begins, of so many
abbrev pub cut_name : Option ℕ → ℕ → Meant
cut_name None count = Unknown
cut_name (Some place) count = if count == 1 then Item place else Ambiguous

abbrev pub whole_or : Option ℕ → Meant → Meant
whole_or (Some place) cut = Item place
whole_or None cut = cut

-- a word means the name that it is; or else the only one that it begins
abbrev pub meant_in : {X : Type 0} → (X → List ℕ) → List X → List ℕ → Meant
meant_in name items word =
    whole_or (position (λ item. bytes_eq (name item) word) items)
    (cut_name (position (λ item. starts_with nat_eq (name item) word) items) (count_by (λ item. starts_with nat_eq (name item) word) items))
