-- Laws of the spellings.
use Rattle.std.specs.Prelude.{◌≡◌, ℕ, ◌<◌, ◌^◌, Bool, List, ◌++◌, length}
use Rattle.ubik_types.specs.declared.images.Change.{Change}
use Rattle.xdr_base.specs.ChangeText.{IsChangeText}

-- No spelling begins another: of the items of a kind that have a spelling, where a text begins with one and
-- with the other, both are the same, and so is what follows.
abbrev pub NoneBeginsAnother : {A : Type 0} → (A → Type 0) → (A → List ℕ) → Type 0
NoneBeginsAnother {A = A} IsItem spelling =
    (a b : A) (x y : List ℕ) → IsItem a → IsItem b → spelling a ++ x ≡ spelling b ++ y → (a ≡ b) × (x ≡ y)

-- numbers below 2^32, and counts among them
abbrev pub IsWord : ℕ → Type 0
IsWord n = n < 2 ^ 32

abbrev pub IsOpaque : List ℕ → Type 0
IsOpaque bytes = length bytes < 2 ^ 32

abbrev pub IsTruth : Bool → Type 0
IsTruth b = Unit {0}

-- A text of changes has one reading.
abbrev pub HasOneReading : Type 0
HasOneReading = (text : List ℕ) (a b : List Change) → IsChangeText text a → IsChangeText text b → a ≡ b
