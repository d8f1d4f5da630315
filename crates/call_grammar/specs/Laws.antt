-- Laws of a grammar.
use Rattle.std.specs.Prelude.{◌≡◌, ℕ, ◌<◌, List, Option, Some, slice_index}

abbrev pub IsBytes : List ℕ → Type 0
IsBytes bytes = (i : ℕ) → slice_index bytes i < 256

-- What is spelled is read again.
abbrev pub ReadsSpellings : {A : Type 0} → (A → Type 0) → (A → List ℕ) → (List ℕ → Option A) → Type 0
ReadsSpellings {A = A} IsItem spelling read = (a : A) → IsItem a → read (spelling a) ≡ Some a

-- Nothing else is read.
abbrev pub ReadsSpellingsAlone : {A : Type 0} → (A → Type 0) → (A → List ℕ) → (List ℕ → Option A) → Type 0
ReadsSpellingsAlone {A = A} IsItem spelling read = (bytes : List ℕ) (a : A) → IsBytes bytes → read bytes ≡ Some a → IsItem a × (bytes ≡ spelling a)
